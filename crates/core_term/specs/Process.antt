-- A process as plain data: its ports with their lives, its registers and its threads.
use Rattle.std.specs.Prelude.{ℕ, ◌≡◌, ◌<◌, Bool, true, false, List, [], ◌∷◌, zero, suc}
use Rattle.core_term.specs.Lists.{Has}
use Rattle.core_term.specs.Term.{Term}
use Rattle.core_term.specs.Numbering.{size, Numbered}
use Rattle.core_term.specs.Tail.{IsTail, CyclesTakeTime}
use Rattle.core_term.specs.Acts.{Receives, Sends, HasAct, ActOn, SetAt}

-- one end of a life: so many cycles, or the next exchange of another port of the same endpoint
pub data LifeEnd : Type 0 where
  Cycles : ℕ → LifeEnd
  Until : ℕ → LifeEnd

-- names are lists of bytes. A received port takes messages in, another one sends them
pub record Port : Type 0 where
  pub endpoint : List ℕ
  pub message : List ℕ
  pub received : Bool
  pub width : ℕ
  pub life : List LifeEnd

pub record Register : Type 0 where
  pub name : List ℕ
  pub width : ℕ
  pub reset : ℕ

-- a body, and how many acts it has
pub record Thread : Type 0 where
  pub body : Term
  pub count : ℕ

pub record Process : Type 0 where
  pub name : List ℕ
  pub ports : List Port
  pub registers : List Register
  pub threads : List Thread

abbrev pub no_port : Port
no_port = record { endpoint = []; message = []; received = false; width = 0; life = [] }

abbrev pub nth_port : List Port → ℕ → Port
nth_port [] m = no_port
nth_port (port ∷ ports) zero = port
nth_port (port ∷ ports) (suc m) = nth_port ports m

abbrev pub life_of : Process → ℕ → List LifeEnd
life_of p m = (nth_port p.ports m).life

abbrev pub is_received : Process → ℕ → Bool
is_received p m = (nth_port p.ports m).received

abbrev pub endpoint_of : Process → ℕ → List ℕ
endpoint_of p m = (nth_port p.ports m).endpoint

abbrev pub no_register : Register
no_register = record { name = []; width = 0; reset = 0 }

abbrev pub nth_register : List Register → ℕ → Register
nth_register [] r = no_register
nth_register (register ∷ registers) zero = register
nth_register (register ∷ registers) (suc r) = nth_register registers r

-- the reset values of the registers
abbrev pub resets_of : List Register → List ℕ
resets_of [] = []
resets_of (register ∷ registers) = register.reset ∷ resets_of registers

abbrev pub resets : Process → List ℕ
resets p = resets_of p.registers

-- the thread of the number j
abbrev pub IsThread : List Thread → ℕ → Thread → Type 0
IsThread [] j thread = ⊥
IsThread (first ∷ rest) zero thread = first ≡ thread
IsThread (first ∷ rest) (suc j) thread = IsThread rest j thread

-- What stands of every process that was read: bodies that are numbered and take time, also each `cycle` in them; lives
-- of at least a cycle that end on the same endpoint; each act on the right side; and each endpoint and each register in
-- the hands of one thread.
pub record IsProcess (p : Process) : Type 0 where
  pub numbered : (j : ℕ) (thread : Thread) → IsThread p.threads j thread → Numbered [] 0 thread.body
  pub counted : (j : ℕ) (thread : Thread) → IsThread p.threads j thread → thread.count ≡ size thread.body
  pub takes_time : (j : ℕ) (thread : Thread) → IsThread p.threads j thread → IsTail thread.body
  pub cycles : (j : ℕ) (thread : Thread) → IsThread p.threads j thread → CyclesTakeTime thread.body
  pub lasts : (m k : ℕ) → Has (life_of p m) (Cycles k) → 0 < k
  pub same_endpoint : (m n : ℕ) → Has (life_of p m) (Until n) → endpoint_of p n ≡ endpoint_of p m
  pub receives : (j : ℕ) (thread : Thread) (w m : ℕ) → IsThread p.threads j thread
      → HasAct thread.body w (λ a. Receives a m) → is_received p m ≡ true
  pub sends : (j : ℕ) (thread : Thread) (w m : ℕ) → IsThread p.threads j thread
      → HasAct thread.body w (λ a. Sends a m) → is_received p m ≡ false
  pub one_talker : (i j : ℕ) (thread other : Thread) (w w' m m' : ℕ)
      → IsThread p.threads i thread → IsThread p.threads j other
      → ActOn thread.body w m → ActOn other.body w' m' → endpoint_of p m ≡ endpoint_of p m' → i ≡ j
  pub one_setter : (i j : ℕ) (thread other : Thread) (w w' r : ℕ)
      → IsThread p.threads i thread → IsThread p.threads j other
      → SetAt thread.body w r → SetAt other.body w' r → i ≡ j

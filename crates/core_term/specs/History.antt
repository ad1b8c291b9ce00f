-- What the registers show in each cycle of a run.
--
-- Cycle 0 shows the reset values. What a `set` that begins in cycle t writes is shown from cycle t + 1 on; of several
-- sets of one register in one cycle the one of the greatest site counts. The history as a whole is what the walks of
-- the threads see, so it is a relation; that there is exactly one is a law.
use Rattle.std.specs.Prelude.{ℕ, ◌≡◌, ◌+◌, ◌<◌, ◌==◌, ◌&&◌, if◌then◌else◌, nat_le, List, [], ◌∷◌, zero, suc, Option}
use Rattle.std.specs.Prelude.{Some, None, slice_index_or}
use Rattle.core_term.specs.Inputs.{Inputs}
use Rattle.core_term.specs.Term.{Act, Set, head}
use Rattle.core_term.specs.Value.{Outcome, value}
use Rattle.core_term.specs.Ends.{sees}
use Rattle.core_term.specs.Fate.{Fate, Waits, Lost, Runs}
use Rattle.core_term.specs.Turns.{run_of}
use Rattle.core_term.specs.Process.{Thread, Process, resets}

abbrev pub or_else : {A : Type 0} → Option A → Option A → Option A
or_else None b = b
or_else (Some a) b = Some a

-- at the greatest number below n that has one
abbrev pub greatest : {A : Type 0} → (ℕ → Option A) → ℕ → Option A
greatest f zero = None
greatest f (suc n) = or_else (f n) (greatest f n)

abbrev pub get_else : Option ℕ → ℕ → ℕ
get_else None n = n
get_else (Some v) n = v

-- what an act that begins in the cycle start writes to the register r in the cycle t
abbrev pub set_by : (ℕ → ℕ → ℕ) → ℕ → ℕ → (ℕ → Outcome) → ℕ → Act → Option ℕ
set_by registers r t scope start (Set p q e) =
    if (q == r) && (start == t) then Some (value registers scope start e).number else None
set_by registers r t scope start a = None

abbrev pub set_at : (ℕ → ℕ → ℕ) → ℕ → ℕ → Fate → Option ℕ
set_at registers r t Waits = None
set_at registers r t Lost = None
set_at registers r t (Runs scope start u) = set_by registers r t scope start (head u)

-- what a thread writes to r in cycle t: by its greatest site that writes in a turn. By cycle t at most t + 1 turns have
-- begun
abbrev pub written : Inputs → (ℕ → ℕ → ℕ) → Thread → ℕ → ℕ → Option ℕ
written inputs registers thread r t =
    greatest
    (λ q. greatest (λ i. set_at registers r t (run_of inputs (sees registers) thread.body i q)) (t + 1))
    thread.count

-- what the threads write to r in cycle t; at most one of them sets a register
abbrev pub written_by : Inputs → (ℕ → ℕ → ℕ) → List Thread → ℕ → ℕ → Option ℕ
written_by inputs registers [] r t = None
written_by inputs registers (thread ∷ threads) r t =
    or_else (written inputs registers thread r t) (written_by inputs registers threads r t)

-- the registers, by cycle and register, are the history of a run on the input list
pub record IsHistory (p : Process) (inputs : Inputs) (registers : ℕ → ℕ → ℕ) : Type 0 where
  pub reset : (r : ℕ) → registers 0 r ≡ slice_index_or (resets p) r 0
  pub step : (t r : ℕ) → t < inputs.count
      → registers (t + 1) r ≡ get_else (written_by inputs registers p.threads r t) (registers t r)

-- The history of a run, found cycle by cycle: what is written in a cycle depends on the registers up to that cycle
-- alone. This one computes; it is a history, and so the only one.
abbrev pub history_to : Process → Inputs → ℕ → ℕ → ℕ → ℕ
history_to p inputs zero t r = slice_index_or (resets p) r 0
history_to p inputs (suc n) t r =
    if nat_le t n
    then history_to p inputs n t r
    else get_else (written_by inputs (history_to p inputs n) p.threads r n) (history_to p inputs n n r)

abbrev pub history : Process → Inputs → ℕ → ℕ → ℕ
history p inputs t r = history_to p inputs t t r

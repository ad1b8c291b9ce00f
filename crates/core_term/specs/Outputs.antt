-- What a process drives in each cycle of a run, and so the wires of the run.
--
-- An act is offered from its begin to its end. The `ack` of a received port is 1 while one of its `recv` acts is
-- offered, and the `valid` of a sent port while one of its `send` acts is. The data of a sent port is the value of the
-- offered act with the least site; else, where the cycle is in the life of an exchange, the data of the latest
-- exchange; else 0.
use Rattle.std.specs.Prelude.{ℕ, ◌+◌, ◌-◌, ◌==◌, ◌&&◌, not, if◌then◌else◌, Bool, true, false, List, [], ◌∷◌, nat_lt}
use Rattle.std.specs.Prelude.{nat_le, zero, suc, Option, Some, None}
use Rattle.core_term.specs.Inputs.{Inputs}
use Rattle.core_term.specs.Term.{Act, Send, Recv, head}
use Rattle.core_term.specs.Value.{Outcome, Open, Done, value}
use Rattle.core_term.specs.Ends.{sees, act_ends}
use Rattle.core_term.specs.Fate.{Fate, Waits, Lost, Runs}
use Rattle.core_term.specs.Turns.{run_of}
use Rattle.core_term.specs.Process.{LifeEnd, Cycles, Until, Thread, Process, life_of, is_received}
use Rattle.core_term.specs.Wires.{Wires}
use Rattle.core_term.specs.History.{or_else, greatest}

-- at the least number from k to k + n - 1 that has one
abbrev pub least : {A : Type 0} → (ℕ → Option A) → ℕ → ℕ → Option A
least f k zero = None
least f k (suc n) = or_else (f k) (least f (k + 1) n)

-- whether an act is one on the port m
abbrev pub on_port : ℕ → Act → Bool
on_port m (Send p n e) = n == m
on_port m (Recv p n) = n == m
on_port m a = false

-- whether an act is offered in cycle t: begun by then, and not ended before
abbrev pub pending : ℕ → ℕ → Outcome → Bool
pending t start Open = nat_le start t
pending t start (Done e v) = nat_le start t && nat_le t e

-- an act that is offered, with the variables in scope and its begin
pub record Offer : Type 0 where
  pub scope : ℕ → Outcome
  pub begin : ℕ
  pub act : Act

abbrev pub offered_by : Inputs → (ℕ → ℕ → ℕ) → ℕ → ℕ → Fate → Option Offer
offered_by inputs registers m t Waits = None
offered_by inputs registers m t Lost = None
offered_by inputs registers m t (Runs scope start u) =
    if on_port m (head u) && pending t start (act_ends inputs (sees registers) scope start (head u))
    then Some (record { scope = scope; begin = start; act = head u })
    else None

-- the act of the least site that is offered on the port m in cycle t; one thread at most has acts on it
abbrev pub offered : Inputs → (ℕ → ℕ → ℕ) → List Thread → ℕ → ℕ → Option Offer
offered inputs registers [] m t = None
offered inputs registers (thread ∷ threads) m t =
    or_else
    (least
    (λ q. greatest (λ i. offered_by inputs registers m t (run_of inputs (sees registers) thread.body i q)) (t + 1))
    0 thread.count)
    (offered inputs registers threads m t)

abbrev pub has : {A : Type 0} → Option A → Bool
has None = false
has (Some a) = true

-- the wire that the process drives: `ack` of a received port, `valid` of a sent one
abbrev pub driven : Process → Inputs → (ℕ → ℕ → ℕ) → ℕ → ℕ → Bool
driven p inputs registers m t = has (offered inputs registers p.threads m t)

abbrev pub valid_wire : Process → Inputs → (ℕ → ℕ → ℕ) → ℕ → ℕ → Bool
valid_wire p inputs registers m t = if is_received p m then inputs.valid m t else driven p inputs registers m t

abbrev pub ack_wire : Process → Inputs → (ℕ → ℕ → ℕ) → ℕ → ℕ → Bool
ack_wire p inputs registers m t = if is_received p m then driven p inputs registers m t else inputs.ack m t

-- whether there is an exchange on the port m in cycle t
abbrev pub exchange : Process → Inputs → (ℕ → ℕ → ℕ) → ℕ → ℕ → Bool
exchange p inputs registers m t = valid_wire p inputs registers m t && ack_wire p inputs registers m t

-- no exchange in the n cycles from u on
abbrev pub none_in : (ℕ → Bool) → ℕ → ℕ → Bool
none_in exchanged u zero = true
none_in exchanged u (suc n) = not (exchanged u) && none_in exchanged (u + 1) n

-- whether u is in the life of an exchange at t, where t is at most u
abbrev pub alive : (ℕ → ℕ → Bool) → List LifeEnd → ℕ → ℕ → Bool
alive exchanged [] t u = true
alive exchanged (Cycles k ∷ more) t u = nat_lt u (t + k) && alive exchanged more t u
alive exchanged (Until m ∷ more) t u = none_in (exchanged m) t (u - t) && alive exchanged more t u

abbrev pub sent_value : (ℕ → ℕ → ℕ) → ℕ → (ℕ → Outcome) → Act → ℕ
sent_value registers start scope (Send p m e) = (value registers scope start e).number
sent_value registers start scope a = 0

abbrev pub data_of : (ℕ → ℕ → ℕ) → Option Offer → ℕ
data_of registers None = 0
data_of registers (Some offer) = sent_value registers offer.begin offer.scope offer.act

-- the latest cycle up to t with an exchange
abbrev pub latest : (ℕ → Bool) → ℕ → Option ℕ
latest exchanged t = greatest (λ u. if exchanged u then Some u else None) (t + 1)

-- the data of the latest exchange, in its life
abbrev pub kept : Process → Inputs → (ℕ → ℕ → ℕ) → ℕ → ℕ → Option ℕ → ℕ
kept p inputs registers m t None = 0
kept p inputs registers m t (Some u) =
    if alive (exchange p inputs registers) (life_of p m) u t
    then data_of registers (offered inputs registers p.threads m u)
    else 0

abbrev pub shown_data : Process → Inputs → (ℕ → ℕ → ℕ) → ℕ → ℕ → Option Offer → ℕ
shown_data p inputs registers m t (Some offer) = data_of registers (Some offer)
shown_data p inputs registers m t None = kept p inputs registers m t (latest (exchange p inputs registers m) t)

abbrev pub data_wire : Process → Inputs → (ℕ → ℕ → ℕ) → ℕ → ℕ → ℕ
data_wire p inputs registers m t =
    if is_received p m
    then inputs.data_at m t
    else shown_data p inputs registers m t (offered inputs registers p.threads m t)

-- the wires of a run
abbrev pub wires : Process → Inputs → (ℕ → ℕ → ℕ) → Wires
wires p inputs registers =
    record {
      count = inputs.count;
      valid = valid_wire p inputs registers;
      ack = ack_wire p inputs registers;
      data_at = data_wire p inputs registers;
    }

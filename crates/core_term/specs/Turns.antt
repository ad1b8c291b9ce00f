-- The turns of a thread: turn 0 begins in cycle 0, and each later turn in the cycle in which the turn before ended.
use Rattle.std.specs.Prelude.{ℕ, ◌≡◌, if◌then◌else◌, nat_lt, zero, suc, Option, Some, None}
use Rattle.core_term.specs.Inputs.{Inputs}
use Rattle.core_term.specs.Term.{Term}
use Rattle.core_term.specs.Value.{Outcome, Open, Done}
use Rattle.core_term.specs.Ends.{Sees, ends}
use Rattle.core_term.specs.Fate.{Fate, Waits, Runs, fate}

-- of a body no variable is in scope
abbrev pub no_variable : ℕ → Outcome
no_variable y = Open

-- where the end of a turn leads to: the begin of the next, if that is within the list
abbrev pub begin_after : Inputs → Outcome → Option ℕ
begin_after inputs Open = None
begin_after inputs (Done e v) = if nat_lt e inputs.count then Some e else None

abbrev pub next_begin : Inputs → Sees → Term → Option ℕ → Option ℕ
next_begin inputs view body None = None
next_begin inputs view body (Some start) = begin_after inputs (ends inputs view no_variable start body)

-- the begin of turn i, where it begins in the list
abbrev pub begins : Inputs → Sees → Term → ℕ → Option ℕ
begins inputs view body zero = if nat_lt 0 inputs.count then Some 0 else None
begins inputs view body (suc i) = next_begin inputs view body (begins inputs view body i)

abbrev pub run_from : Inputs → Sees → Term → Option ℕ → ℕ → Fate
run_from inputs view body None q = Waits
run_from inputs view body (Some start) q = fate inputs view no_variable start body q

-- what becomes of the act of the site q in turn i
abbrev pub run_of : Inputs → Sees → Term → ℕ → ℕ → Fate
run_of inputs view body i = run_from inputs view body (begins inputs view body i)

-- the act of a site has begun in a turn: when, with which variables in scope, and with which term it heads
pub record HasBegun (inputs : Inputs) (view : Sees) (body : Term) (turn site : ℕ) : Type 0 where
  pub scope : ℕ → Outcome
  pub begin : ℕ
  pub term : Term
  pub runs : run_of inputs view body turn site ≡ Runs scope begin term

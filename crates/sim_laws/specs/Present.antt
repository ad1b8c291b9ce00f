-- The present turn of a thread.
use Rattle.std.specs.Prelude.{ℕ, ◌≡◌, ◌≤◌, if◌then◌else◌, nat_le, List, [], ◌∷◌, length, Option, Some, None}
use Rattle.core_term.specs.Inputs.{Inputs}
use Rattle.core_term.specs.Term.{Term}
use Rattle.core_term.specs.Numbering.{size}
use Rattle.core_term.specs.Value.{Outcome, Open, Done}
use Rattle.core_term.specs.Ends.{sees, ends}
use Rattle.core_term.specs.Turns.{begins, no_variable}
use Rattle.core_term.specs.Process.{Thread}
use Rattle.sim_laws.specs.declared.act_state.ActState.{ActState}
use Rattle.sim_laws.specs.Remembers.{Remembers}

-- the number that an outcome gives by the cycle n
abbrev pub value_by : ℕ → Outcome → Option ℕ
value_by n Open = None
value_by n (Done e v) = if nat_le e n then Some v.number else None

-- after the cycle n a turn has begun and has not ended
pub record PresentTurn (n : ℕ) (inputs : Inputs) (history : ℕ → ℕ → ℕ) (body : Term) (acts : List ActState) : Type 0 where
  pub turn : ℕ
  pub start : ℕ
  pub begin_is : begins inputs (sees history) body turn ≡ Some start
  pub since : start ≤ n
  pub open_by : value_by n (ends inputs (sees history) no_variable start body) ≡ None
  pub remembers : Remembers n inputs history no_variable start 0 body acts
  pub long : length acts ≡ size body

-- each thread has its present turn
abbrev pub Present : ℕ → Inputs → (ℕ → ℕ → ℕ) → List Thread → List (List ActState) → Type 0
Present n inputs history [] [] = Unit {0}
Present n inputs history [] (acts ∷ states) = ⊥
Present n inputs history (thread ∷ threads) [] = ⊥
Present n inputs history (thread ∷ threads) (acts ∷ states) = PresentTurn n inputs history thread.body acts × Present n inputs history threads states

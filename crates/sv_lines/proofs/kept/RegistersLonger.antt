-- Registers that are declared one after the other: sources, and then states that are numbered from 0, are in order. A source
-- comes before the first state, and a state has the count of the states before it for its number.
use Rattle.std.proofs.Common.{◌≡◌, ℕ, ◌+◌, true, List, [], ◌∷◌, ◌++◌, refl, arith}
use Rattle.std.proofs.lemmas.Bool.{eq-eqb, and_parts}
use Rattle.std.specs.Prelude.{◌==◌}
use Rattle.sv_tree.specs.declared.tree.SvRegName.{SvRegName}
use Rattle.sv_tree.specs.declared.tree.SvRegName.TheVariants.{Source, State}
use Rattle.sv_tree.specs.WellFormed.{sources_then_states, are_states_from}
use Rattle.sv_lines.specs.Step.{state_count}

pub source_in_order : (names : List SvRegName) (name : List ℕ) → state_count names ≡ 0 → sources_then_states names ≡ true → sources_then_states (names ++ (Source name ∷ [])) ≡ true
source_in_order [] name none in_order = refl
source_in_order (Source first ∷ names) name none in_order = source_in_order names name none in_order
source_in_order (State number ∷ names) name none in_order = absurd (omega arith)

states_longer : (first number : ℕ) (names : List SvRegName) → number ≡ first + state_count names → are_states_from first names ≡ true → are_states_from first (names ++ (State number ∷ [])) ≡ true
states_longer first number [] is states = rw (eq-eqb number first (omega arith)) refl
states_longer first number (Source name ∷ names) is states = absurd cc
states_longer first number (State other ∷ names) is states =
    let parts = and_parts (other == first) (are_states_from (first + 1) names) states in
    rw (parts.0, states_longer (first + 1) number names (omega arith) parts.1) refl

pub state_in_order : (names : List SvRegName) (number : ℕ) → number ≡ state_count names → sources_then_states names ≡ true → sources_then_states (names ++ (State number ∷ [])) ≡ true
state_in_order [] number is in_order = rw (eq-eqb number 0 is) refl
state_in_order (Source name ∷ names) number is in_order = state_in_order names number is in_order
state_in_order (State other ∷ names) number is in_order = states_longer 0 number (State other ∷ names) (omega arith) in_order

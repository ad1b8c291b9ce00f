-- The operand is taken by the frame on top where that has it ahead of the token, and else it is settled.
use Rattle.std.proofs.Common.{◌≡◌, ℕ, true, false, List, ◌∷◌, refl}
use Rattle.anvil_tree.specs.Tree.{Expr}
use Rattle.anvil_grammar.specs.State as states
use Rattle.anvil_grammar.specs.State.{Frame}
use Rattle.anvil_grammar.specs.Step.{settled}
use Rattle.parse_expressions.specs.Seen.{takes_operand, taken_by}

pub settled_taken : (strong : ℕ) (frame : Frame) (stack : List Frame) (operand : Expr) → takes_operand strong (frame ∷ stack) ≡ true
    → settled strong (frame ∷ stack) operand ≡ settled strong stack (taken_by frame operand)
settled_taken strong (states.inverting at) stack operand is = refl
settled_taken strong (states.operating operator at left) stack operand is = rw is refl
settled_taken strong (states.choosing_second at condition first) stack operand is = rw is refl
settled_taken strong frame stack operand is = absurd cc

pub settled_left : (strong : ℕ) (stack : List Frame) (operand : Expr) → takes_operand strong stack ≡ false
    → settled strong stack operand ≡ record { stack = stack; operand = operand }
settled_left strong (states.inverting at ∷ stack) operand is = absurd cc
settled_left strong (states.operating operator at left ∷ stack) operand is = rw is refl
settled_left strong (states.choosing_second at condition first ∷ stack) operand is = rw is refl
settled_left strong stack operand is = refl

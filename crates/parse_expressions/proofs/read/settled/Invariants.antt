-- What is settled from here is what is settled from the start; each turn takes a frame away.
use Rattle.std.proofs.Common.{◌≡◌, length}
use Rattle.anvil_tree.specs.View.{expr_of}
use Rattle.anvil_grammar.specs.Step.{settled}
use Rattle.parse_expressions.specs.Seen.{stack_of}
use Rattle.parse_expressions.proofs.read.settled.Given as goal

abbrev pub invariant-loop-frame : goal.invariant-loop-frame
invariant-loop-frame l = settled l.fn.strong (stack_of l.fn.frames) (expr_of l.fn.operand) ≡ settled l.fn.strong (stack_of l.frames) (expr_of l.operand)

abbrev pub decreases-loop-frame : goal.decreases-loop-frame
decreases-loop-frame l = length (stack_of l.frames)

-- What the term comes to from here is what it comes to from the start; each turn takes a frame away.
use Rattle.std.proofs.Common.{◌≡◌, length}
use Rattle.anvil_tree.specs.View.{term_of}
use Rattle.anvil_grammar.specs.Step.{term_ends}
use Rattle.thread_frames.specs.SeenFrames.{stack_of}
use Rattle.parse_threads.proofs.act.term_ends.Given as goal

abbrev pub invariant-loop-frame : goal.invariant-loop-frame
invariant-loop-frame l = term_ends (stack_of l.fn.stack) (term_of l.fn.term) ≡ term_ends (stack_of l.stack) (term_of l.term)

abbrev pub decreases-loop-frame : goal.decreases-loop-frame
decreases-loop-frame l = length (stack_of l.stack)

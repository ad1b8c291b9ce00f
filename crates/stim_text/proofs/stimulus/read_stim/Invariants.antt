-- The rows so far are those of the lines so far, and the rest is left. Each line makes it shorter.
use Rattle.std.proofs.Common.{map, length}
use Rattle.core_term.specs.ProcessView.{port_of}
use Rattle.stim_text.proofs.StimulusRead.{Reading}
use Rattle.stim_text.proofs.stimulus.read_stim.Given as goal

abbrev pub invariant-loop-line : goal.invariant-loop-line
invariant-loop-line l = Reading (map port_of l.proc.ports.items) l.text l.rows.items l.rest

abbrev pub decreases-loop-line : goal.decreases-loop-line
decreases-loop-line l = length l.rest

-- The ends of the life so far are added.
use Rattle.std.proofs.Common.{◌≡◌, take}
use Rattle.core_term.specs.AcceptedFile.{process_in}
use Rattle.core_term.specs.Process.{life_of}
use Rattle.core_term.specs.Widths.{Widths}
use Rattle.core_term.specs.View.{term_of}
use Rattle.event_points.specs.Nodes.{node_of}
use Rattle.event_points.specs.Endings.{endings}
use Rattle.lifetimes.specs.Ends.{endings_of}
use Rattle.life_tables.proofs.ends.port_ends.Given as goal

abbrev pub invariant-loop-index : goal.invariant-loop-index
invariant-loop-index l =
    (widths : Widths) → endings_of l.ends.items ≡ endings (term_of widths l.thread) (node_of (term_of widths l.thread)) (take l.index (life_of (process_in l.proc) l.port))

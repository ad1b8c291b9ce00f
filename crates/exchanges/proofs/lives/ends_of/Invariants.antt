-- The ends so far are copied.
use Rattle.std.proofs.Common.{◌≡◌, map, take}
use Rattle.core_term.specs.Process.{nth_port}
use Rattle.core_term.specs.ProcessView.{port_of, end_of_life}
use Rattle.exchanges.proofs.lives.ends_of.Given as goal

abbrev pub invariant-loop-index : goal.invariant-loop-index
invariant-loop-index l = map end_of_life l.ends.items ≡ take l.index (nth_port (map port_of l.proc.ports.items) l.port).life

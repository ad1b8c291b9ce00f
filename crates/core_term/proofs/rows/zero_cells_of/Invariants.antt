use Rattle.std.proofs.Common.{◌≡◌, map}
use Rattle.std.proofs.Math.ListN.{take}
use Rattle.core_term.specs.ProcessView.{port_of}
use Rattle.core_term.specs.Rows.{zero_cell}
use Rattle.core_term.proofs.rows.zero_cells_of.Given as goal

abbrev pub invariant-loop-port : goal.invariant-loop-port
invariant-loop-port l = l.cells.items ≡ map zero_cell (map port_of (take l.port-index l.ports))

use Rattle.std.proofs.Common.{IsTrue, subst, sym}
use Rattle.core_term.specs.ProcessView.{port_of}
use Rattle.core_term.specs.Sized.{port_fits}
use Rattle.core_term.proofs.code_tables.Ports.{list_all_get}
use Rattle.core_term.proofs.rows.zero_cells_of.Goals as goal

pub no_cell-requires : goal.no_cell-requires
no_cell-requires c =
    subst (λ port. IsTrue (port_fits (port_of port))) (sym c.port-item.is)
    (list_all_get port_fits port_of c.args.ports.now c.loop-port.port-index c.port-item.result c.loop-port-test.true c.requires)

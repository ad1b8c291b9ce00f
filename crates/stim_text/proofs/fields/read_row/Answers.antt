-- Each port of a process fits.
use Rattle.std.proofs.Common.{IsTrue, subst, sym}
use Rattle.core_term.specs.ProcessView.{port_of}
use Rattle.core_term.specs.Sized.{port_fits}
use Rattle.core_term.proofs.code_tables.Ports.{list_all_get}
use Rattle.stim_text.proofs.fields.read_row.Goals as goal

pub next_field-requires : goal.next_field-requires
next_field-requires c =
    subst (λ port. IsTrue (port_fits (port_of port))) (sym c.index-ports-index.is)
    (list_all_get port_fits port_of c.args.ports.now c.loop-index.index c.index-ports-index.result c.loop-index-test.true c.requires)

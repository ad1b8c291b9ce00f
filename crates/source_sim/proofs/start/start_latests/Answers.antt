-- Each port of a process fits.
use Rattle.std.proofs.Common.{IsTrue, subst, sym, arith, add-one}
use Rattle.core_term.specs.ProcessView.{port_of}
use Rattle.core_term.specs.Sized.{port_fits}
use Rattle.core_term.proofs.code_tables.Ports.{list_all_get}
use Rattle.sim_laws.specs.WidthsFound.{start_latest}
use Rattle.source_sim.proofs.Starts.{mapped_step, mapped_done}
use Rattle.source_sim.proofs.start.start_latests.Goals as goal

pub start_latest-requires : goal.start_latest-requires
start_latest-requires c =
    subst (λ port. IsTrue (port_fits (port_of port))) (sym c.port-item.is)
    (list_all_get port_fits port_of c.args.ports.now c.loop-port.port-index c.port-item.result c.loop-port-test.true c.requires)

pub loop-port-preserved : goal.loop-port-preserved
loop-port-preserved c =
    mapped_step start_latest c.args.ports.now c.loop-port.port-index _ c.port-item.result c.loop-port.latests.items c.push.new.self.items c.start_latest.result (add-one c.loop-port.port-index) (omega (arith, c.loop-port-test.true)) c.port-item.is c.start_latest.ensures
    c.loop-port.invariant c.in_ok-push.ensures.items

pub returns : goal.returns
returns c = mapped_done start_latest c.args.ports.now c.loop-port.port-index c.loop-port.latests.items c.loop-port-test.false c.loop-port.invariant

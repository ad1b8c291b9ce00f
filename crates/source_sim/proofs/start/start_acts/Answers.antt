-- One act more has not begun.
use Rattle.std.proofs.Common.{arith, add-one, get_or}
use Rattle.sim_laws.specs.WidthsFound.{start_state}
use Rattle.source_sim.proofs.Starts.{mapped_step, mapped_done, number_read}
use Rattle.source_sim.proofs.start.start_acts.Goals as goal

pub loop-width-preserved : goal.loop-width-preserved
loop-width-preserved c =
    mapped_step start_state c.args.widths.now c.loop-width.width-index _ (get_or c.args.widths.now c.loop-width.width-index 0) c.loop-width.acts.items c.push.new.self.items c.start_state.result (add-one c.loop-width.width-index) (omega (arith, c.loop-width-test.true)) (number_read c.args.widths.now c.loop-width.width-index c.loop-width-test.true) c.start_state.ensures
    c.loop-width.invariant c.in_ok-push.ensures.items

pub returns : goal.returns
returns c = mapped_done start_state c.args.widths.now c.loop-width.width-index c.loop-width.acts.items c.loop-width-test.false c.loop-width.invariant

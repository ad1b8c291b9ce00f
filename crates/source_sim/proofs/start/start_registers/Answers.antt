-- One register more shows its reset.
use Rattle.std.proofs.Common.{arith, add-one, refl}
use Rattle.sim_laws.specs.WidthsFound.{start_number}
use Rattle.source_sim.proofs.Starts.{mapped_step, mapped_done}
use Rattle.source_sim.proofs.start.start_registers.Goals as goal

pub loop-reg-preserved : goal.loop-reg-preserved
loop-reg-preserved c =
    mapped_step start_number c.args.regs.now c.loop-reg.reg-index _ c.reg-item.result c.loop-reg.numbers.items c.push.new.self.items _ (add-one c.loop-reg.reg-index) (omega (arith, c.loop-reg-test.true)) c.reg-item.is refl
    c.loop-reg.invariant c.in_ok-push.ensures.items

pub returns : goal.returns
returns c = mapped_done start_number c.args.regs.now c.loop-reg.reg-index c.loop-reg.numbers.items c.loop-reg-test.false c.loop-reg.invariant

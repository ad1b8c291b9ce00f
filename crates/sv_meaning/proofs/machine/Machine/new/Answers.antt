use Rattle.std.proofs.Common.{◌≡◌, length, map, take, ap, arith}
use Rattle.std.proofs.lemmas.List.{take_all}
use Rattle.sv_tree.proofs.WellFormedPoints.{points_of}
use Rattle.sv_meaning.proofs.Moves.{resets_wide, resets_shown, first_cycle}
use Rattle.sv_meaning.proofs.machine.Machine.new.Goals as goal

reset : (c : goal.In_ok-nexts) → c.loop-reg.registers.items ≡ map (λ reg. reg.reset) c.args.module.now.regs
reset c =
    let whole : take c.loop-reg.reg-index c.regs-reg-items.result.now ≡ c.regs-reg-items.result.now =
    take_all c.loop-reg.reg-index c.regs-reg-items.result.now c.loop-reg-test.false in
    let all : c.loop-reg.registers.items ≡ map (λ reg. reg.reset) c.regs-reg-items.result.now = rw whole at c.loop-reg.invariant.reset in
    rw c.regs-reg-items.ensures.regs at all

pub invariant_of-result : goal.invariant_of-result
invariant_of-result c =
    let wide = resets_wide c.args.module.now.regs (points_of c.args.module.now c.regs-count.ensures.well_formed).resets in
    let nets = ap (λ list. length list) c.nets.ensures.nets in
    let count = ap (λ list. length list) c.regs-count.ensures.regs in (
      rw (reset c) wide,
      omega (arith, nets, c.in_ok-nets.ensures.capacity),
      omega (arith, count, c.in_ok-registers.ensures.capacity, c.loop-reg.invariant.room),
      omega (arith, count, c.in_ok-nexts.ensures.capacity),
    )

pub returns-clause-stands : goal.returns-clause-stands
returns-clause-stands c inputs begins =
    rw (reset c) (rw (first_cycle c.args.module.now inputs) (resets_shown c.args.module.now))

-- All registers of the module were looked at.
use Rattle.std.proofs.Common.{◌∙◌, ◌≤◌, length, drop, sym, arith}
use Rattle.std.proofs.lemmas.List.{at_drop_all}
use Rattle.module_log.specs.Compared.{are_same_registers}
use Rattle.module_log.proofs.Compared.{at_end}
use Rattle.module_log.proofs.ports.same_registers.Goals as goal

pub returns : goal.returns
returns c =
    let regs = c.args.regs.now in
    let others = c.args.others.now in
    let found = c.loop-place.found in
    let (within, same) = c.loop-place.invariant in
    let all : length others ≤ c.loop-place.place = omega arith in
    sym (same ∙ (at_drop_all (are_same_registers (drop found regs)) others c.loop-place.place all ∙ at_end regs found within))

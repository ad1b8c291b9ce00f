use Rattle.std.proofs.Common.{◌∙◌, ap, sym}
use Rattle.core_term.specs.declared.process.CoreReg.{CoreReg}
use Rattle.expr_check.specs.Known.{scope_of}
use Rattle.expr_check.proofs.Places.{register_is, no_register}
use Rattle.expr_check.proofs.scope.Scope.register.Goals as goal

pub returns-in-None : goal.returns-in-None
unfolding scope_of
returns-in-None c = no_register c.args.self.now.known.now.registers c.args.name.now (sym c.in-None.is ∙ c.find.ensures)

pub returns-in-Some : goal.returns-in-Some
unfolding scope_of
returns-in-Some c =
    let found =
    register_is c.args.self.now.known.now.registers c.registers-registers.result.now c.args.name.now c.in-Some.number c.index-registers-number.result
    (sym c.in-Some.is ∙ c.find.ensures) c.registers-registers.ensures.registers c.index-registers-number.is in
    (found.among, found.same, ap (λ (register : CoreReg). register.width) (sym c.index-registers-number.is) ∙ found.width)

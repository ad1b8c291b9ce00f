-- A register keeps its name, so the keys stay the names; and the register at the index is the one that was asked for.
use Rattle.std.proofs.Common.{◌≡◌, ◌∙◌, ap, sym, refl, length, set, arith, ◌<◌, Some}
use Rattle.std.proofs.lemmas.List.{length-set}
use Rattle.std.specs.Prelude.{slice_get}
use Rattle.sv_tree.specs.Limits.{too_many}
use Rattle.sv_tree.specs.declared.tree.SvReg.{SvReg}
use Rattle.sv_draft.specs.Keys.{register_key}
use Rattle.sv_lines.specs.Step.{state_count}
use Rattle.sv_lines.specs.State.{reset_to}
use Rattle.sv_draft.proofs.NamedPlaces.{map_set, there, got}
use Rattle.sv_draft.proofs.registers.RegisterTable.set_reset.Goals as goal

pub invariant_of-self : goal.invariant_of-self
invariant_of-self c =
    let regs = c.self.inside.regs.items in
    let now = c.index_mut.result.now in
    let within : c.args.index < length regs = omega (arith, c.requires, ap length c.self.view_is) in
    let was : slice_get regs c.args.index ≡ Some now = there regs c.args.index now within ∙ ap Some (sym c.index_mut.ensures.value) in
    let few : length (set regs c.args.index (reset_to now c.args.reset)) < too_many = rw (length-set regs c.args.index (reset_to now c.args.reset)) c.self.invariant.2 in (
      c.self.invariant.0 ∙ sym (map_set (λ (reg : SvReg). register_key reg.name) regs c.args.index now (reset_to now c.args.reset) was refl),
      c.self.invariant.1 ∙ ap state_count (sym (map_set (λ (reg : SvReg). reg.name) regs c.args.index now (reset_to now c.args.reset) was refl)),
      few,
    )

pub returns-clause-reset : goal.returns-clause-reset
returns-clause-reset c = λ reg is.
    let regs = c.self.inside.regs.items in
    let now = c.index_mut.result.now in
    let within : c.args.index < length regs = omega (arith, c.requires, ap length c.self.view_is) in
    let is_reg : now ≡ reg = c.index_mut.ensures.value ∙ got regs c.args.index now reg (ap (λ l. slice_get l c.args.index) c.self.view_is ∙ is) in
    ap (λ (r : SvReg). set regs c.args.index (reset_to r c.args.reset)) is_reg ∙ ap (λ l. set l c.args.index (reset_to reg c.args.reset)) c.self.view_is

pub returns-clause-few : goal.returns-clause-few
returns-clause-few c = omega (arith, c.requires, c.self.invariant.2, ap length c.self.view_is)

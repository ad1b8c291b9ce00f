-- The keys are the names of the registers, with the new one last; as many names are states, and there are few.
use Rattle.std.proofs.Common.{◌≡◌, ◌∙◌, ap, refl, map, length, arith, List}
use Rattle.std.proofs.lemmas.Bool.{not-true}
use Rattle.std.specs.List.{list_any}
use Rattle.sv_tree.specs.declared.tree.SvReg.{SvReg}
use Rattle.sv_tree.specs.declared.tree.SvRegName.{SvRegName}
use Rattle.sv_tree.specs.declared.tree.SvRegName.TheVariants.{Source, State}
use Rattle.sv_tree.specs.WellFormed.{is_same_register}
use Rattle.sv_draft.specs.Keys.{register_key}
use Rattle.sv_draft.specs.contracts.key.RegisterKeyPartialEq.TheImpl.{ghosts}
use Rattle.sv_draft.proofs.NamedPlaces.{registers_more, states_with, states_few, one_state, few_more, room_says}
use Rattle.sv_draft.proofs.registers.RegisterTable.add.Goals as goal

pub overflow_add-states : goal.overflow_add-states
overflow_add-states c =
    omega (arith, room_says c.args.self.now c.requires.room, states_few c.self.inside.regs.items, one_state c.args.reg.name, c.self.invariant.1, c.count_of.ensures, ap length c.self.view_is)

same_key : (one other : SvRegName) → ghosts.eq (register_key one) (register_key other) ≡ is_same_register one other
same_key (Source one) (Source other) = refl
same_key (Source one) (State other) = refl
same_key (State one) (Source other) = refl
same_key (State one) (State other) = refl

pub invariant_of-self : goal.invariant_of-self
invariant_of-self c =
    let keys = rw (c.key_of-name.ensures) at c.in-Ok-insert.ensures.keys in
    let fresh = ap (λ (regs : List SvReg). list_any (is_same_register c.args.reg.name) (map (λ (reg : SvReg). reg.name) regs)) c.self.view_is ∙ not-true _ c.requires.fresh in (
      rw (c.in-Ok.ensures) (keys ∙ registers_more ghosts.eq c.self.inside.regs.items c.self.inside.names.keys c.args.reg same_key c.self.invariant.0 fresh),
      rw (c.in-Ok.ensures, c.self.invariant.1, c.count_of.ensures) (states_with c.self.inside.regs.items c.args.reg),
      rw (c.in-Ok.ensures) (few_more c.self.inside.regs.items c.args.reg (omega (arith, room_says c.args.self.now c.requires.room, ap length c.self.view_is))),
    )

-- Declarations and nets keep the draft: a register is good, new and in its place among the others, and a net reads what stands
-- in the module before it.
use Rattle.std.proofs.Common.{◌≡◌, ℕ, ◌^◌, Bool, true, false, cond, ◌&&◌, List, [], ◌∷◌, ◌++◌, length, Some, None, refl, ap, subst, ◌∙◌}
use Rattle.std.proofs.lemmas.Bool.{lt-ltb, eq-eqb, and_parts}
use Rattle.std.proofs.lemmas.Nat.{pow_pos}
use Rattle.std.specs.Prelude.{◌==◌, nat_lt}
use Rattle.std.specs.List.{list_any}
use Rattle.sv_tree.specs.declared.tree.SvReg.{SvReg}
use Rattle.sv_tree.specs.declared.tree.SvRegName.{SvRegName}
use Rattle.sv_tree.specs.declared.tree.SvRegName.TheVariants as register
use Rattle.sv_tree.specs.Limits.{too_many}
use Rattle.sv_tree.specs.Module.{Module}
use Rattle.sv_tree.specs.WellFormed.{is_register_name, has_no_twice, is_same_register, register_names, sources_then_states, is_width, reset_fits}
use Rattle.sv_lines.specs.Lines.{Label, source, state, net, Declared, declaration}
use Rattle.sv_lines.specs.State.{item_wanted, assign_wanted, new_register, with_register}
use Rattle.sv_lines.specs.Step.{Reached, onward, has_room, is_empty, is_fresh, state_count, register_by, declared_by, declared_step}
use Rattle.sv_lines.proofs.read.Decided.{passes, number_same}
use Rattle.sv_lines.proofs.read.LinesRead.{IsGoodLabel, declaration_read}
use Rattle.sv_lines.proofs.kept.Longer.{all_longer, no_twice_longer, register_turned, length_longer, map_longer, is_negated}
use Rattle.sv_lines.proofs.kept.RegistersLonger.{source_in_order, state_in_order}
use Rattle.sv_lines.proofs.kept.KeptDrafts.{RegistersKept, first_outs_fit, first_nexts_fit, Drafted, Items, KeptReached}
use Rattle.sv_lines.proofs.kept.HeaderKept.{no_nets, within}

pub empty : {X : Type 0} (items : List X) → is_empty items ≡ true → items ≡ []
empty [] e = refl
empty (x ∷ items) e = absurd cc

-- Registers.

-- the reset 0 that a register has until its own is read
new_reset : (name : SvRegName) (width : ℕ) → is_width width ≡ true → reset_fits (new_register name width) ≡ true
new_reset name width width_within =
    let zero_fits : nat_lt 0 (2 ^ width) ≡ true = lt-ltb 0 (2 ^ width) (pow_pos width) in
    let same : (width == width) ≡ true = eq-eqb width width refl in
    rw (width_within, zero_fits, same) refl

-- a register that may stand behind the others
record NewRegister (tree : Module) (name : SvRegName) (width : ℕ) : Type 0 where
  pub good : is_register_name name ≡ true
  pub in_order : sources_then_states (register_names tree ++ (name ∷ [])) ≡ true
  pub within : is_width width ≡ true

registers_longer : (draft : Module) (name : SvRegName) (width : ℕ) → RegistersKept draft.regs → NewRegister draft name width → list_any (is_same_register name) (register_names draft) ≡ false
    → has_room (length draft.regs) ≡ true
    → RegistersKept (with_register draft (new_register name width)).regs
registers_longer draft name width kept new is_new room =
    let names = map_longer (λ (r : SvReg). r.name) draft.regs (new_register name width) in
    record {
      good = all_longer (λ (r : SvReg). is_register_name r.name) draft.regs (new_register name width) kept.good new.good;
      differ = ap (has_no_twice is_same_register) names ∙ no_twice_longer is_same_register register_turned (register_names draft) name kept.differ is_new;
      in_order = ap sources_then_states names ∙ new.in_order;
      widths = all_longer (λ (r : SvReg). is_width r.width) draft.regs (new_register name width) kept.widths new.within;
      resets = all_longer reset_fits draft.regs (new_register name width) kept.resets (new_reset name width new.within);
      few = ap (λ count. nat_lt count too_many) (length_longer draft.regs (new_register name width)) ∙ room;
    }

with_register_drafted : (whole : List Module) (draft : Module) (name : SvRegName) (width : ℕ) → Drafted whole draft → Items draft → draft.outs ≡ [] → draft.nets ≡ []
    → NewRegister draft name width → list_any (is_same_register name) (register_names draft) ≡ false → has_room (length draft.regs) ≡ true → Drafted whole (with_register draft (new_register name width))
with_register_drafted whole draft name width drafted at outs nets new is_new room =
    let longer = with_register draft (new_register name width) in
    record {
      modules = drafted.modules;
      name = drafted.name;
      ports = drafted.ports;
      registers = registers_longer draft name width drafted.registers new is_new room;
      nets = no_nets longer nets;
      outs = ap (first_outs_fit longer longer.ports) outs;
      nexts = ap (first_nexts_fit longer longer.regs) at.no_nexts;
    }

register_kept : (whole : List Module) (draft : Module) (name : SvRegName) (width : ℕ) (may_stand : Bool) (reached : Reached) → Drafted whole draft → Items draft → draft.outs ≡ []
    → (may_stand ≡ true → NewRegister draft name width) → register_by draft name width may_stand ≡ Some reached → KeptReached whole reached
register_kept whole draft name width may_stand reached drafted at outs new e =
    let passed = passes (may_stand && is_empty draft.nets && has_room (length draft.regs) && is_fresh draft name) (onward (with_register draft (new_register name width)) item_wanted) reached e in
    let freshness = and_parts (may_stand && is_empty draft.nets && has_room (length draft.regs)) (is_fresh draft name) passed.holds in
    let tests = and_parts (may_stand && is_empty draft.nets) (has_room (length draft.regs)) freshness.0 in
    let is_new = is_negated (list_any (is_same_register name) (register_names draft)) freshness.1 in
    let first = and_parts may_stand (is_empty draft.nets) tests.0 in
    subst (KeptReached whole) passed.same
    (record {
      drafted = with_register_drafted whole draft name width drafted at outs (empty draft.nets first.1) (new first.0) is_new tests.1;
      at = record { no_nexts = at.no_nexts };
    })

new_source : (draft : Module) (name : List ℕ) (width : ℕ) → RegistersKept draft.regs → is_register_name (register.Source name) ≡ true → is_width width ≡ true
    → (state_count (register_names draft) == 0) ≡ true → NewRegister draft (register.Source name) width
new_source draft name width kept good width_within e = record {
  good = good;
  in_order = source_in_order (register_names draft) name (number_same (state_count (register_names draft)) 0 e) kept.in_order;
  within = width_within;
}

new_state : (draft : Module) (number width : ℕ) → RegistersKept draft.regs → is_width width ≡ true → (number == state_count (register_names draft)) ≡ true → NewRegister draft (register.State number) width
new_state draft number width kept width_within e = record {
  good = refl;
  in_order = state_in_order (register_names draft) number (number_same number (state_count (register_names draft)) e) kept.in_order;
  within = width_within;
}

declared_by_kept : (whole : List Module) (draft : Module) (width : ℕ) (label : Label) (reached : Reached) → Drafted whole draft → Items draft → draft.outs ≡ [] → is_width width ≡ true → IsGoodLabel label
    → declared_by draft width label ≡ Some reached → KeptReached whole reached
declared_by_kept whole draft width (source name) reached drafted at outs width_within good e =
    register_kept whole draft (register.Source name) width (state_count (register_names draft) == 0) reached drafted at outs
    (new_source draft name width drafted.registers good width_within) e
declared_by_kept whole draft width (state number) reached drafted at outs width_within good e =
    register_kept whole draft (register.State number) width (number == state_count (register_names draft)) reached drafted at outs
    (new_state draft number width drafted.registers width_within) e
declared_by_kept whole draft width (net number) reached drafted at outs width_within good e =
    let passed = passes ((number == length draft.nets) && has_room (length draft.nets)) (onward draft (assign_wanted width)) reached e in
    let tests = and_parts (number == length draft.nets) (has_room (length draft.nets)) passed.holds in
    subst (KeptReached whole) passed.same
    (record { drafted = drafted; at = record { no_outs = outs; no_nexts = at.no_nexts; within = width_within; room = tests.1 } })

pub declared_kept : (whole : List Module) (draft : Module) (line : List ℕ) (declared : Declared) (reached : Reached) → Drafted whole draft → Items draft → declaration line ≡ Some declared
    → declared_step draft declared ≡ Some reached → KeptReached whole reached
declared_kept whole draft line declared reached drafted at is_declared e =
    let read = declaration_read line declared is_declared in
    declared_in (is_empty draft.outs) refl read.good (within declared.width read.high read.is_width read.within) e
  where
    declared_in : (none : Bool) → is_empty draft.outs ≡ none → IsGoodLabel declared.label → is_width declared.width ≡ true
        → cond none (declared_by draft declared.width declared.label) None ≡ Some reached → KeptReached whole reached
    declared_in true none good width_within e = declared_by_kept whole draft declared.width declared.label reached drafted at (empty draft.outs none) width_within good e
    declared_in false none good width_within e = absurd cc

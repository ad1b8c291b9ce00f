-- The registers of a frame stand in each netlist over it, and so do the signals of the states of a thread.
use Rattle.std.proofs.Common.{◌≡◌, ℕ, zero, suc, ◌<◌, ◌⊎◌, inl, inr, Bool, true, false, List, [], ◌∷◌, length, map, refl, sym, ◌∙◌, ap, subst, arith}
use Rattle.std.specs.Prelude.{IsTrue, ◌==◌, nat_le, nat_lt, slice_index}
use Rattle.std.specs.List.{list_all}
use Rattle.std.proofs.lemmas.Bool.{and_parts, and_from, eq-eqb, leb-true, lt-ltb}
use Rattle.order_rules.specs.Form.{Form, Start, Same, After, Sync, Join, Side, Merge}
use Rattle.sv_tree.specs.declared.tree.SvReg.{SvReg}
use Rattle.sv_tree.specs.declared.tree.SvRef.TheVariants.{Reg}
use Rattle.sv_tree.specs.declared.tree.SvOperand.TheVariants.{Ref}
use Rattle.sv_tree.specs.Module.{Module}
use Rattle.sv_tree.specs.WellFormed.{is_width}
use Rattle.module_nets.specs.declared.signal.Signal.{Signal}
use Rattle.module_nets.specs.Netlist.{IsFrame, Stands}
use Rattle.module_nets.specs.Bits.{IsBit}
use Rattle.act_deeds.specs.declared.deed.Deed.{Deed}
use Rattle.act_deeds.specs.declared.deed.Deed.TheVariants as deed
use Rattle.act_deeds.specs.Deeds.{deed_at}
use Rattle.machine_parts.specs.declared.frame.Frame.{Frame}
use Rattle.machine_parts.specs.declared.frame.Keep.{Keep}
use Rattle.machine_parts.specs.declared.frame.ThreadStates.{ThreadStates}
use Rattle.machine_parts.specs.declared.plan.TurnPlan.{TurnPlan}
use Rattle.machine_parts.specs.Parts.{bit_at, form_in, zero_bit}
use Rattle.machine_parts.specs.Frames.{AreStates, HasRegister, HasWidth, keeps_state, register_at}
use Rattle.machine_parts.specs.Nodes.{AreBits, AreStatesDrawn, StateStands}

pub zero_is_bit : (old : Module) → IsBit old zero_bit
zero_is_bit old = record {
  stands = record { some = omega arith; few = omega arith; stands = λ new extends. refl };
  one_bit = refl;
}

width_at : (regs : List SvReg) (place : ℕ) → place < length regs → slice_index (map (λ r. r.width) regs) place ≡ (register_at regs place).width
width_at [] place inside = absurd (omega (arith, inside))
width_at (reg ∷ regs) zero inside = refl
width_at (reg ∷ regs) (suc place) inside = width_at regs place (omega (arith, inside))

wide : (regs : List SvReg) (place : ℕ) → place < length regs → IsTrue (list_all (λ reg. is_width reg.width) regs) → is_width (register_at regs place).width ≡ true
wide [] place inside all = absurd (omega (arith, inside))
wide (reg ∷ regs) zero inside all = (and_parts (is_width reg.width) _ all).0
wide (reg ∷ regs) (suc place) inside all = wide regs place (omega (arith, inside)) (and_parts (is_width reg.width) _ all).1

-- the signal of a register stands in a netlist over these registers
pub register_stands : (old : Module) (regs : List SvReg) (signal : Signal) (place : ℕ) → old.regs ≡ regs → IsTrue (list_all (λ reg. is_width reg.width) regs)
    → place < length regs → signal.operand ≡ Ref (Reg place) → (register_at regs place).width ≡ signal.width → Stands old signal
register_stands old regs signal place same all inside is width =
    let bounds = and_parts (nat_le 1 (register_at regs place).width) (nat_le (register_at regs place).width 64) (wide regs place inside all) in
    let some = leb-true 1 _ bounds.0 in
    let few = leb-true _ 64 bounds.1 in
    record {
      some = omega (arith, some, width);
      few = omega (arith, few, width);
      stands = λ new extends.
          let regs_of : new.regs ≡ regs = extends.regs ∙ same in
          let there : nat_lt place (length new.regs) ≡ true = subst (λ list. nat_lt place (length list) ≡ true) (sym regs_of) (lt-ltb place (length regs) inside) in
          let width_there : slice_index (map (λ r. r.width) new.regs) place ≡ signal.width = ap (λ list. slice_index (map (λ r. r.width) list) place) regs_of ∙ (width_at regs place inside ∙ width) in
          rw is (and_from (nat_lt place (length new.regs)) (slice_index (map (λ r. r.width) new.regs) place == signal.width) there (eq-eqb _ _ width_there));
    }

module _ (frame : Frame) (is_frame : IsFrame frame.ports.items frame.regs.items) (old : Module) (regs_are : old.regs ≡ frame.regs.items) where
  pub has_stands : (kept : Keep) (signal : Signal) → HasRegister frame kept signal → Stands old signal
  has_stands kept signal has = register_stands old frame.regs.items signal has.place regs_are is_frame.register_widths has.inside has.operand has.width

  pub has_bit : (kept : Keep) (signal : Signal) → HasRegister frame kept signal → signal.width ≡ 1 → IsBit old signal
  has_bit kept signal has one = record { stands = has_stands kept signal has; one_bit = one }

  module _ (thread : ℕ) (plan : TurnPlan) (states : ThreadStates) (are : AreStates frame thread plan states) where
    pub started_is_bit : IsBit old states.started
    started_is_bit = has_bit _ states.started are.started are.started_bit

    state_stands : (kept : Keep) (signal : Signal) (form : Form ℕ) → keeps_state form ≡ true → HasRegister frame kept signal → HasWidth signal.width form → StateStands old signal form
    state_stands kept signal Start keeps has width = absurd cc
    state_stands kept signal (Same from) keeps has width = absurd cc
    state_stands kept signal (After delay from) keeps has width = (has_stands kept signal has, width.1)
    state_stands kept signal (Sync from) keeps has width = has_bit kept signal has width
    state_stands kept signal (Join first second) keeps has width = has_bit kept signal has width
    state_stands kept signal (Side from) keeps has width = absurd cc
    state_stands kept signal (Merge first second) keeps has width = absurd cc

    no_state_stands : (signal : Signal) (form : Form ℕ) → keeps_state form ≡ false → StateStands old signal form
    no_state_stands signal Start keeps = tt
    no_state_stands signal (Same from) keeps = tt
    no_state_stands signal (After delay from) keeps = absurd cc
    no_state_stands signal (Sync from) keeps = absurd cc
    no_state_stands signal (Join first second) keeps = absurd cc
    no_state_stands signal (Side from) keeps = tt
    no_state_stands signal (Merge first second) keeps = tt

    pub states_are : AreStatesDrawn old plan.nodes.items states.nodes.items
    states_are node inside = by_keep (keeps_state (form_in plan.nodes.items node)) refl
      where
        by_keep : (keeps : Bool) → keeps_state (form_in plan.nodes.items node) ≡ keeps → StateStands old (bit_at states.nodes.items node) (form_in plan.nodes.items node)
        by_keep true keeps = let has = are.nodes node inside keeps in state_stands _ _ _ keeps has.0 has.1
        by_keep false keeps = no_state_stands _ _ keeps

    decides : (act : Deed) → (act ≡ deed.Decides) ⊎ (act ≡ deed.Decides → ⊥)
    decides deed.Decides = inl refl
    decides (deed.Sets register) = inr (λ same. absurd cc)
    decides (deed.Sends port) = inr (λ same. absurd cc)
    decides (deed.Receives port) = inr (λ same. absurd cc)
    decides deed.Other = inr (λ same. absurd cc)

    pub kept_sides_are_bits : AreBits old states.sides.items
    kept_sides_are_bits site = elim (decides (deed_at plan.deeds.items site)) [
      | inl is ↦ let has = are.sides site is in has_bit _ _ has.0 has.1
      | inr none ↦ subst (λ signal. IsBit old signal) (sym (are.no_side site none)) (zero_is_bit old)
    ]

    sends : (act : Deed) → ((port : ℕ) × (act ≡ deed.Sends port)) ⊎ ((port : ℕ) → act ≡ deed.Sends port → ⊥)
    sends (deed.Sends port) = inl (port, refl)
    sends (deed.Sets register) = inr (λ port same. absurd cc)
    sends (deed.Receives port) = inr (λ port same. absurd cc)
    sends deed.Decides = inr (λ port same. absurd cc)
    sends deed.Other = inr (λ port same. absurd cc)

    pub kept_newest_are_bits : AreBits old states.newest.items
    kept_newest_are_bits site = elim (sends (deed_at plan.deeds.items site)) [
      | inl is ↦ let has = are.newest site is.0 is.1 in has_bit _ _ has.0 has.1
      | inr none ↦ subst (λ signal. IsBit old signal) (sym (are.not_newest site none)) (zero_is_bit old)
    ]

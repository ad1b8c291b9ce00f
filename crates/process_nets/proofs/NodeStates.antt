-- A node that keeps a bit or a counter has what its next value is drawn from, and takes what its form says.
use Rattle.std.proofs.Common.{◌≡◌, ℕ, ◌-◌, ◌<◌, Bool, true, not, List, length, sym, ◌∙◌, ap, subst, arith}
use Rattle.std.specs.Prelude.{◌&&◌, if◌then◌else◌}
use Rattle.order_rules.specs.Form.{Form, Start, Same, After, Sync, Join, Side, Merge}
use Rattle.order_rules.specs.Entry.{IsEarlier}
use Rattle.sv_tree.specs.Module.{Module}
use Rattle.module_nets.specs.declared.signal.Signal.{Signal}
use Rattle.module_nets.specs.Netlist.{Extends}
use Rattle.module_nets.specs.Shown.{shown}
use Rattle.module_nets.specs.Bits.{IsBit, Tells, told}
use Rattle.module_nets.proofs.Growing.{of_later, stands_later}
use Rattle.module_nets.proofs.BitsTold.{bit_later}
use Rattle.pulse_nets.specs.declared.node.Part.{Part}
use Rattle.pulse_nets.specs.declared.forms.Pulse.{Pulse}
use Rattle.pulse_nets.specs.Pulses.{IsDrawn, pulse_at, pulses_told}
use Rattle.pulse_nets.specs.NextStates.{IsNext, NeedsNext}
use Rattle.machine_parts.specs.declared.thread.ThreadDraft.{ThreadDraft}
use Rattle.machine_parts.specs.Parts.{bit_at, event_told, form_in, plan_at}
use Rattle.machine_parts.specs.Frames.{keeps_state}
use Rattle.machine_parts.specs.Nodes.{StateStands}
use Rattle.machine_parts.specs.Modules.{NodeNext}
use Rattle.process_nets.specs.Kept.{NodesStand}
use Rattle.process_nets.proofs.Bits.{are_bits_later}

pub state_later : (old new : Module) → Extends old new → (state : Signal) (form : Form ℕ) → StateStands old state form → StateStands new state form
state_later old new e state Start is = is
state_later old new e state (Same from) is = is
state_later old new e state (After delay from) is = (stands_later old new state e is.0, is.1)
state_later old new e state (Sync from) is = bit_later old new state e is
state_later old new e state (Join first second) is = bit_later old new state e is
state_later old new e state (Side from) is = is
state_later old new e state (Merge first second) is = is

pub nodes_later : (old new : Module) (draft : ThreadDraft) → Extends old new → NodesStand old draft → NodesStand new draft
nodes_later old new draft e stand = record {
  pulse_count = stand.pulse_count;
  pulses = λ node within.
      let both = stand.pulses node within in
      (bit_later old new (pulse_at draft.nets.pulses.items node).pulse e both.0, bit_later old new (pulse_at draft.nets.pulses.items node).known e both.1);
  earlier = stand.earlier;
  states = λ node within. state_later old new e (bit_at draft.states.now.nodes.items node) (form_in draft.plan.now.nodes.items node) (stand.states node within);
  decisions = are_bits_later old new draft.nets.decisions.items e stand.decisions;
}

module _ (draft : ThreadDraft) (node : ℕ) (part : Part) (state_is : part.state ≡ bit_at draft.states.now.nodes.items node) where
  pub needs : (old new : Module) → Extends old new → NodesStand old draft → IsBit new part.event → node < length draft.plan.now.nodes.items
      → (form : Form ℕ) → form_in draft.plan.now.nodes.items node ≡ form → keeps_state form ≡ true
      → NeedsNext new draft.nets.pulses.items part (pulse_at draft.nets.pulses.items node) form
  needs old new e stand event within = by
    where
      state : (form : Form ℕ) → form_in draft.plan.now.nodes.items node ≡ form → StateStands old part.state form
      state form is = subst (λ s. StateStands old s form) (sym state_is) (subst (StateStands old (bit_at draft.states.now.nodes.items node)) is (stand.states node within))

      earlier : (form : Form ℕ) → form_in draft.plan.now.nodes.items node ≡ form → IsEarlier node form
      earlier form is = subst (IsEarlier node) is (stand.earlier node within)

      drawn : (from : ℕ) → from < node → IsDrawn new draft.nets.pulses.items from
      drawn from less =
          let count = stand.pulse_count in
          (omega (arith, count, less, within), bit_later old new _ e (stand.pulses from (omega (arith, less, within))).0)

      known : IsBit new (pulse_at draft.nets.pulses.items node).known
      known = bit_later old new _ e (stand.pulses node within).1

      by : (form : Form ℕ) → form_in draft.plan.now.nodes.items node ≡ form → keeps_state form ≡ true → NeedsNext new draft.nets.pulses.items part (pulse_at draft.nets.pulses.items node) form
      by Start is keeps = absurd cc
      by (Same from) is keeps = absurd cc
      by (After delay from) is keeps =
          let held = state (After delay from) is in
          (stands_later old new part.state e held.0, drawn from (earlier (After delay from) is), held.1)
      by (Sync from) is keeps = ((state (Sync from) is).one_bit, known, event)
      by (Join first second) is keeps =
          let before = earlier (Join first second) is in
          ((state (Join first second) is).one_bit, known, drawn first before.0, drawn second before.1)
      by (Side from) is keeps = absurd cc
      by (Merge first second) is keeps = absurd cc

  pub needs_there : (old new : Module) → Extends old new → NodesStand old draft → IsBit new part.event → node < length draft.plan.now.nodes.items
      → (form : Form ℕ) → form_in draft.plan.now.nodes.items node ≡ form → keeps_state (form_in draft.plan.now.nodes.items node) ≡ true
      → (pulses : List Pulse) (pulse : Pulse) → pulses ≡ draft.nets.pulses.items → pulse ≡ pulse_at draft.nets.pulses.items node
      → NeedsNext new pulses part pulse form
  needs_there old new e stand event within form is keeps pulses pulse pulses_are pulse_is =
      subst (λ all. NeedsNext new all part pulse form) (sym pulses_are)
      (subst (λ one. NeedsNext new draft.nets.pulses.items part one form) (sym pulse_is)
      (needs old new e stand event within form is (subst (λ f. keeps_state f ≡ true) is keeps)))

  module _ (mid new : Module) (e : Extends mid new) (wires : List Signal)
      (tells : Tells mid part.event (λ now. event_told now wires draft.nets.decisions.items (plan_at draft.plan.now.nodes.items node).event)) where
    next_is : (next : Signal) (form : Form ℕ) → IsNext new draft.nets.pulses.items part (pulse_at draft.nets.pulses.items node) next form → NodeNext new wires draft node next form
    next_is next Start is = tt
    next_is next (Same from) is = tt
    next_is next (After delay from) is =
        λ now of. is now of ∙ ap (λ (s : Signal). if pulses_told now draft.nets.pulses.items from then delay else (shown now s - 1)) state_is
    next_is next (Sync from) is =
        λ now of.
        is now of ∙ ap (λ (b : Bool). told now (pulse_at draft.nets.pulses.items node).known && not b) (tells now (of_later mid new now e of))
    next_is next (Join first second) is = is
    next_is next (Side from) is = tt
    next_is next (Merge first second) is = tt

    pub next_there : (next : Signal) (form : Form ℕ) → form_in draft.plan.now.nodes.items node ≡ form
        → (pulses : List Pulse) (pulse : Pulse) → pulses ≡ draft.nets.pulses.items → pulse ≡ pulse_at draft.nets.pulses.items node
        → IsNext new pulses part pulse next form → NodeNext new wires draft node next (form_in draft.plan.now.nodes.items node)
    next_there next form is pulses pulse pulses_are pulse_is drawn =
        subst (NodeNext new wires draft node next) (sym is)
        (next_is next form
        (subst (λ one. IsNext new draft.nets.pulses.items part one next form) pulse_is
        (subst (λ all. IsNext new all part pulse next form) pulses_are drawn)))

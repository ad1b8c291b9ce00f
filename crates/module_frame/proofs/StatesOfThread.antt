-- The states of a thread: the bit that it has started, then those of its nodes, then those of its acts.
--
-- Each was answered when it was added, and its register stays as others are added after it.
use Rattle.std.proofs.Common.{◌≡◌, ℕ, ◌+◌, ◌<◌, ◌≤◌, arith, refl, sym, ◌∙◌, subst, ap, Bool, true, false, List, [], ◌∷◌, ◌++◌, length, nat_lt, zero, suc}
use Rattle.std.proofs.lemmas.List.{get_or_past}
use Rattle.std.proofs.lemmas.Bool.Decides.{nat_tests}
use Rattle.act_deeds.specs.declared.deed.Deed.{Deed}
use Rattle.act_deeds.specs.declared.deed.Deed.TheVariants as deed
use Rattle.act_deeds.specs.Deeds.{deed_at}
use Rattle.machine_parts.specs.declared.plan.NodePlan.{NodePlan}
use Rattle.machine_parts.specs.declared.plan.TurnPlan.{TurnPlan}
use Rattle.machine_parts.specs.declared.frame.Keep.TheVariants as keep
use Rattle.machine_parts.specs.declared.frame.ThreadStates.{ThreadStates}
use Rattle.machine_parts.specs.Frames.{AreStates, HasRegister, HasWidth, keeps_state}
use Rattle.machine_parts.specs.Parts.{bit_at, form_in, zero_bit}
use Rattle.module_frame.specs.declared.draft.FrameDraft.{FrameDraft}
use Rattle.module_frame.specs.Slots.{Slot, node_slots, site_slots, thread_slots}
use Rattle.module_frame.specs.Drafts.{HasRoom, Grown, NodeHeld, SiteHeld, site_at}
use Rattle.module_frame.proofs.Growing.{grown_on, room_left, register_later, node_later, nodes_few}

abbrev pub started_slot : (thread : ℕ) → List Slot
started_slot thread = record { keep = keep.Started thread; width = 1 } ∷ []

pub thread_room : (first second third : FrameDraft) (thread : ℕ) (plan : TurnPlan) (nodes : List NodePlan) (deeds : List Deed)
    → nodes ≡ plan.nodes.items → deeds ≡ plan.deeds.items
    → HasRoom first (1 + (length plan.nodes.items + length plan.deeds.items))
    → Grown first second (started_slot thread) → Grown second third (node_slots thread 0 nodes) → HasRoom third (length deeds)
thread_room first second third thread plan nodes deeds same_nodes same_deeds room one other =
    let few = nodes_few thread 0 nodes in
    let node_count = ap length same_nodes in
    let deed_count = ap length same_deeds in
    room_left first third (started_slot thread ++ node_slots thread 0 nodes) (1 + length nodes) (length deeds)
    (1 + (length plan.nodes.items + length plan.deeds.items))
    (omega (arith, few)) (omega (arith, node_count, deed_count)) room
    (grown_on first second third (started_slot thread) (node_slots thread 0 nodes) _ refl one other)

pub thread_grown : (first second third fourth : FrameDraft) (thread : ℕ) (plan : TurnPlan) (nodes : List NodePlan) (deeds : List Deed)
    → nodes ≡ plan.nodes.items → deeds ≡ plan.deeds.items
    → Grown first second (started_slot thread) → Grown second third (node_slots thread 0 nodes)
    → Grown third fourth (site_slots thread 0 deeds) → Grown first fourth (thread_slots thread plan)
thread_grown first second third fourth thread plan nodes deeds same_nodes same_deeds one two three =
    let second_on : Grown second fourth (node_slots thread 0 nodes ++ site_slots thread 0 deeds) =
    grown_on second third fourth (node_slots thread 0 nodes) (site_slots thread 0 deeds) _ refl two three in
    let whole : Grown first fourth (started_slot thread ++ (node_slots thread 0 nodes ++ site_slots thread 0 deeds)) =
    grown_on first second fourth (started_slot thread) (node_slots thread 0 nodes ++ site_slots thread 0 deeds) _ refl one second_on in
    subst (λ z. Grown first fourth (started_slot thread ++ (node_slots thread 0 z ++ site_slots thread 0 plan.deeds.items))) same_nodes
    (subst (λ z. Grown first fourth (started_slot thread ++ (node_slots thread 0 nodes ++ site_slots thread 0 z))) same_deeds whole)

deed_past : (deeds : List Deed) (site : ℕ) → length deeds ≤ site → deed_at deeds site ≡ deed.Other
deed_past [] site past = refl
deed_past (first ∷ rest) zero past = absurd (omega (arith, past))
deed_past (first ∷ rest) (suc site) past = deed_past rest site (omega (arith, past))

no_decision : deed.Other ≡ deed.Decides → ⊥
no_decision same = cc

no_sending : (port : ℕ) → deed.Other ≡ deed.Sends port → ⊥
no_sending port same = cc

-- below the count, or past it
split : (P : Type 0) (index count : ℕ) → (index < count → P) → (count ≤ index → P) → P
split P index count inside past = by_test (nat_lt index count) refl
  where
    by_test : (test : Bool) → nat_lt index count ≡ test → P
    by_test true passes = inside (grind (arith, nat_tests))
    by_test false fails = past (grind (arith, nat_tests))

pub thread_states : (second third fourth : FrameDraft) (thread : ℕ) (plan : TurnPlan) (nodes : List NodePlan) (deeds : List Deed) (states : ThreadStates) (room left : ℕ)
    → nodes ≡ plan.nodes.items → deeds ≡ plan.deeds.items → HasRoom second room → HasRoom third left
    → Grown second third (node_slots thread 0 nodes) → Grown third fourth (site_slots thread 0 deeds)
    → HasRegister second.frame (keep.Started thread) states.started → states.started.width ≡ 1
    → length states.nodes.items ≡ length nodes
    → ((node : ℕ) → node < length nodes → NodeHeld third.frame thread node (form_in nodes node) (bit_at states.nodes.items node))
    → length states.sides.items ≡ length deeds → length states.newest.items ≡ length deeds
    → ((site : ℕ) → site < length deeds → SiteHeld fourth.frame thread site (deed_at deeds site) (site_at states.sides.items states.newest.items site))
    → AreStates fourth.frame thread plan states
thread_states second third fourth thread plan nodes deeds states room left same_nodes same_deeds second_room third_room two three started one_bit node_count nodes_held side_count newest_count sites_held =
    record {
      started =
          register_later third fourth (site_slots thread 0 deeds) left (keep.Started thread) states.started third_room three
          (register_later second third (node_slots thread 0 nodes) room (keep.Started thread) states.started second_room two started);
      started_bit = one_bit;
      node_count = node_count ∙ ap length same_nodes;
      nodes = λ node inside keeps.
          subst (λ form. keeps_state form ≡ true → HasRegister fourth.frame (keep.Node thread node) (bit_at states.nodes.items node) × HasWidth (bit_at states.nodes.items node).width form)
          (ap (λ z. form_in z node) same_nodes)
          (node_here node (subst (λ z. node < length z) (sym same_nodes) inside)).state keeps;
      no_state = λ node none.
          split (bit_at states.nodes.items node ≡ zero_bit) node (length nodes)
          (λ inside. (node_here node inside).no_state (ap (λ z. keeps_state (form_in z node)) same_nodes ∙ none))
          (λ past. get_or_past states.nodes.items node zero_bit (omega (arith, past, node_count)));
      side_count = side_count ∙ ap length same_deeds;
      sides = λ site is.
          split (HasRegister fourth.frame (keep.Side thread site) (bit_at states.sides.items site) × ((bit_at states.sides.items site).width ≡ 1)) site (length deeds)
          (λ inside. (sites_held site inside).side (deed_same site ∙ is))
          (λ past. absurd (no_decision (sym (deed_past deeds site past) ∙ deed_same site ∙ is)));
      no_side = λ site none.
          split (bit_at states.sides.items site ≡ zero_bit) site (length deeds)
          (λ inside. (sites_held site inside).no_side (λ is. none (sym (deed_same site) ∙ is)))
          (λ past. get_or_past states.sides.items site zero_bit (omega (arith, past, side_count)));
      newest_count = newest_count ∙ ap length same_deeds;
      newest = λ site port is.
          split (HasRegister fourth.frame (keep.Newest thread site) (bit_at states.newest.items site) × ((bit_at states.newest.items site).width ≡ 1)) site (length deeds)
          (λ inside. (sites_held site inside).newest port (deed_same site ∙ is))
          (λ past. absurd (no_sending port (sym (deed_past deeds site past) ∙ deed_same site ∙ is)));
      not_newest = λ site none.
          split (bit_at states.newest.items site ≡ zero_bit) site (length deeds)
          (λ inside. (sites_held site inside).not_newest (λ port is. none port (sym (deed_same site) ∙ is)))
          (λ past. get_or_past states.newest.items site zero_bit (omega (arith, past, newest_count)));
    }
  where
    node_here : (node : ℕ) → node < length nodes → NodeHeld fourth.frame thread node (form_in nodes node) (bit_at states.nodes.items node)
    node_here node inside =
        node_later third fourth (site_slots thread 0 deeds) left thread node (form_in nodes node) (bit_at states.nodes.items node) third_room three (nodes_held node inside)

    deed_same : (site : ℕ) → deed_at deeds site ≡ deed_at plan.deeds.items site
    deed_same site = ap (λ z. deed_at z site) same_deeds

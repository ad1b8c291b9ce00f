-- A frame grows: states that were added one after the other were added together, and the register of what is kept stays that.
use Rattle.std.proofs.Common.{◌≡◌, ℕ, ◌+◌, ◌<◌, ◌≤◌, arith, refl, sym, ◌∙◌, subst, ap, Bool, true, false, List, [], ◌∷◌, ◌++◌, length, map, take, slice_index_or, append_assoc, length-append, nat_lt, ◌&&◌, zero, suc}
use Rattle.std.proofs.Math.Seq.{get_or-append_seam}
use Rattle.std.proofs.lemmas.List.{take_more, get_or_append_left}
use Rattle.std.proofs.lemmas.Bool.Decides.{nat_tests}
use Rattle.std.proofs.lemmas.List.Folds.{list_all-append}
use Rattle.std.specs.List.{list_all}
use Rattle.order_rules.specs.Form.{Form, Start, Same, After, Sync, Join, Side, Merge}
use Rattle.sv_tree.specs.declared.tree.SvReg.{SvReg}
use Rattle.sv_tree.specs.declared.tree.SvRegName.TheVariants.{State}
use Rattle.sv_tree.specs.WellFormed.{is_width}
use Rattle.module_nets.specs.declared.signal.Signal.{Signal}
use Rattle.pulse_nets.specs.Pulses.{form_of}
use Rattle.act_deeds.specs.declared.deed.Deed.{Deed}
use Rattle.act_deeds.specs.declared.deed.Deed.TheVariants as deed
use Rattle.act_deeds.specs.Deeds.{deed_at}
use Rattle.machine_parts.specs.declared.plan.NodePlan.{NodePlan}
use Rattle.machine_parts.specs.declared.frame.Frame.{Frame}
use Rattle.machine_parts.specs.declared.frame.Keep.{Keep}
use Rattle.machine_parts.specs.Frames.{HasRegister, keep_at, register_at, no_keep, no_register}
use Rattle.machine_parts.specs.Parts.{form_in, plan_at, no_plan, bit_at, zero_bit}
use Rattle.module_frame.specs.declared.draft.FrameDraft.{FrameDraft}
use Rattle.module_frame.specs.declared.draft.SiteState.{SiteState}
use Rattle.module_frame.specs.Slots.{Slot, node_slot, node_slots, site_slot, site_slots, states_from}
use Rattle.module_frame.specs.Drafts.{HasRoom, Grown, NodeHeld, SiteHeld, site_at}

pub states_length : (number : ℕ) (slots : List Slot) → length (states_from number slots) ≡ length slots
states_length number [] = refl
states_length number (slot ∷ rest) = let known = states_length (number + 1) rest in omega (arith, known)

abbrev state_of : (number : ℕ) → Slot → SvReg
state_of number slot = record { name = State number; width = slot.width; reset = record { width = slot.width; value = 0 } }

states_append : (number : ℕ) (these those : List Slot)
    → states_from number (these ++ those) ≡ states_from number these ++ states_from (number + length these) those
states_append number [] those = let same : number ≡ number + 0 = omega arith in ap (λ n. states_from n those) same
states_append number (slot ∷ these) those =
    let same : number + 1 + length these ≡ number + length (slot ∷ these) = omega arith in
    ap (λ rest. state_of number slot ∷ rest)
    (states_append (number + 1) these those ∙ ap (λ n. states_from (number + 1) these ++ states_from n those) same)

keeps_append : (these those : List Slot) → map (λ slot. slot.keep) (these ++ those) ≡ map (λ slot. slot.keep) these ++ map (λ slot. slot.keep) those
keeps_append [] those = refl
keeps_append (slot ∷ these) those = ap (λ rest. slot.keep ∷ rest) (keeps_append these those)

pub keeps_length : (slots : List Slot) → length (map (λ slot. slot.keep) slots) ≡ length slots
keeps_length [] = refl
keeps_length (slot ∷ rest) = let known = keeps_length rest in omega (arith, known)

appended : {X : Type 0} (first second third more others all : List X) → second ≡ first ++ more → third ≡ second ++ others → all ≡ more ++ others → third ≡ first ++ all
appended first second third more others all one other both = other ∙ ap (λ z. z ++ others) one ∙ append_assoc first more others ∙ ap (λ z. first ++ z) (sym both)

pub grown_none : (draft : FrameDraft) → Grown draft draft []
grown_none draft = record { regs = nothing draft.frame.regs.items; keeps = nothing draft.frame.keeps.items; count = omega arith; ports = refl; states = refl; wide = refl }
  where
    nothing : {X : Type 0} (items : List X) → items ≡ items ++ []
    nothing [] = refl
    nothing (item ∷ items) = ap (λ rest. item ∷ rest) (nothing items)

both_pass : {first second : Bool} → first ≡ true → second ≡ true → (first && second) ≡ true
both_pass passes also = rw (passes, also) refl

-- one after the other
pub grown_on : (first second third : FrameDraft) (these those all : List Slot) → all ≡ these ++ those
    → Grown first second these → Grown second third those → Grown first third all
grown_on first second third these those all both one other =
    let length_both : length all ≡ length these + length those = ap length both ∙ length-append these those in
    let one_count = one.count in
    let other_count = other.count in
    record {
      regs =
          appended first.frame.regs.items second.frame.regs.items third.frame.regs.items
          (states_from first.state_count these) (states_from (first.state_count + length these) those) (states_from first.state_count all)
          one.regs
          (other.regs ∙ ap (λ n. second.frame.regs.items ++ states_from n those) one.count)
          (ap (λ z. states_from first.state_count z) both ∙ states_append first.state_count these those);
      keeps =
          appended first.frame.keeps.items second.frame.keeps.items third.frame.keeps.items
          (map (λ slot. slot.keep) these) (map (λ slot. slot.keep) those) (map (λ slot. slot.keep) all)
          one.keeps other.keeps
          (ap (λ z. map (λ slot. slot.keep) z) both ∙ keeps_append these those);
      count = omega (arith, one_count, other_count, length_both);
      ports = other.ports ∙ one.ports;
      states = other.states ∙ one.states;
      wide = ap (list_all (λ slot. is_width slot.width)) both ∙ list_all-append (λ slot. is_width slot.width) these those ∙ both_pass one.wide other.wide;
    }

-- what room is left
pub room_left : (old new : FrameDraft) (slots : List Slot) (used more all : ℕ) → length slots ≤ used → used + more ≤ all
    → HasRoom old all → Grown old new slots → HasRoom new more
room_left old new slots used more all few within room grown =
    let regs = ap length grown.regs ∙ length-append old.frame.regs.items (states_from old.state_count slots) in
    let keeps = ap length grown.keeps ∙ length-append old.frame.keeps.items (map (λ slot. slot.keep) slots) in
    let states = states_length old.state_count slots in
    let kept = keeps_length slots in
    let same = room.same in
    let counted = room.counted in
    let left = room.room in
    let count = grown.count in
    record {
      same = omega (arith, regs, keeps, states, kept, same);
      counted = omega (arith, regs, states, counted, count);
      room = omega (arith, regs, states, left, few, within);
    }

-- the register of what is kept stays that
pub register_stays : (old new : Frame) (regs : List SvReg) (keeps : List Keep) (kept : Keep) (signal : Signal)
    → length old.keeps.items ≡ length old.regs.items
    → new.regs.items ≡ old.regs.items ++ regs → new.keeps.items ≡ old.keeps.items ++ keeps
    → HasRegister old kept signal → HasRegister new kept signal
register_stays old new regs keeps kept signal same more_regs more_keeps is =
    let count = ap length more_regs ∙ length-append old.regs.items regs in
    let inside = is.inside in
    let read_register : register_at new.regs.items is.place ≡ register_at old.regs.items is.place =
    ap (λ items. register_at items is.place) more_regs ∙ get_or_append_left old.regs.items regs no_register is.place is.inside in
    let read_keep : keep_at new.keeps.items is.place ≡ keep_at old.keeps.items is.place =
    ap (λ items. keep_at items is.place) more_keeps ∙ get_or_append_left old.keeps.items keeps no_keep is.place (omega (arith, same, inside)) in
    record {
      place = is.place;
      inside = omega (arith, count, inside);
      operand = is.operand;
      keeps = read_keep ∙ is.keeps;
      width = ap (λ r. r.width) read_register ∙ is.width;
    }

pub register_later : (old new : FrameDraft) (slots : List Slot) (more : ℕ) (kept : Keep) (signal : Signal)
    → HasRoom old more → Grown old new slots → HasRegister old.frame kept signal → HasRegister new.frame kept signal
register_later old new slots more kept signal room grown is =
    register_stays old.frame new.frame _ _ kept signal room.same grown.regs grown.keeps is

pub node_later : (old new : FrameDraft) (slots : List Slot) (more thread node : ℕ) (form : Form ℕ) (signal : Signal)
    → HasRoom old more → Grown old new slots → NodeHeld old.frame thread node form signal → NodeHeld new.frame thread node form signal
node_later old new slots more thread node form signal room grown held = record {
  state = λ keeps. let state = held.state keeps in (register_later old new slots more _ signal room grown state.0, state.1);
  no_state = held.no_state;
}

pub site_later : (old new : FrameDraft) (slots : List Slot) (more thread site : ℕ) (act : Deed) (signals : SiteState)
    → HasRoom old more → Grown old new slots → SiteHeld old.frame thread site act signals → SiteHeld new.frame thread site act signals
site_later old new slots more thread site act signals room grown held = record {
  side = λ is. let side = held.side is in (register_later old new slots more _ signals.side room grown side.0, side.1);
  no_side = held.no_side;
  newest = λ port is. let newest = held.newest port is in (register_later old new slots more _ signals.newest room grown newest.0, newest.1);
  not_newest = held.not_newest;
}

-- The states of nodes and of sites, one more at the end.

taken_most : {X : Type 0} (items : List X) (index : ℕ) → length (take index items) ≤ index
taken_most items zero = omega arith
taken_most [] (suc index) = omega arith
taken_most (item ∷ items) (suc index) = let known = taken_most items index in omega (arith, known)

taken : {X : Type 0} (items : List X) (index : ℕ) → index < length items → 0 + length (take index items) ≡ index
taken items zero inside = refl
taken [] (suc index) inside = absurd (omega (arith, inside))
taken (item ∷ items) (suc index) inside = let known = taken items index (omega (arith, inside)) in omega (arith, known)

ends : {X : Type 0} (items : List X) → items ++ [] ≡ items
ends [] = refl
ends (item ∷ rest) = ap (λ z. item ∷ z) (ends rest)

nodes_end : (thread node : ℕ) (plans : List NodePlan) (plan : NodePlan)
    → node_slots thread node (plans ++ plan ∷ []) ≡ node_slots thread node plans ++ node_slot thread (node + length plans) (form_of plan.shape)
nodes_end thread node [] plan = ends (node_slot thread node (form_of plan.shape)) ∙ ap (λ n. node_slot thread n (form_of plan.shape)) (omega arith)
nodes_end thread node (first ∷ rest) plan =
    let same : suc node + length rest ≡ node + length (first ∷ rest) = omega arith in
    ap (λ z. node_slot thread node (form_of first.shape) ++ z)
    (nodes_end thread (suc node) rest plan ∙ ap (λ n. node_slots thread (suc node) rest ++ node_slot thread n (form_of plan.shape)) same)
    ∙ sym (append_assoc (node_slot thread node (form_of first.shape)) (node_slots thread (suc node) rest) (node_slot thread (node + length (first ∷ rest)) (form_of plan.shape)))

pub nodes_more : (thread index later : ℕ) (plans : List NodePlan) → later ≡ index + 1 → index < length plans
    → node_slots thread 0 (take later plans) ≡ node_slots thread 0 (take index plans) ++ node_slot thread index (form_in plans index)
nodes_more thread index later plans next inside =
    let counted : 0 + length (take index plans) ≡ index = taken plans index inside in
    ap (λ n. node_slots thread 0 (take n plans)) next
    ∙ ap (node_slots thread 0) (take_more plans index no_plan inside)
    ∙ nodes_end thread 0 (take index plans) (plan_at plans index)
    ∙ ap (λ n. node_slots thread 0 (take index plans) ++ node_slot thread n (form_in plans index)) counted

sites_end : (thread site : ℕ) (deeds : List Deed) (act : Deed)
    → site_slots thread site (deeds ++ act ∷ []) ≡ site_slots thread site deeds ++ site_slot thread (site + length deeds) act
sites_end thread site [] act = ends (site_slot thread site act) ∙ ap (λ n. site_slot thread n act) (omega arith)
sites_end thread site (first ∷ rest) act =
    let same : suc site + length rest ≡ site + length (first ∷ rest) = omega arith in
    ap (λ z. site_slot thread site first ++ z)
    (sites_end thread (suc site) rest act ∙ ap (λ n. site_slots thread (suc site) rest ++ site_slot thread n act) same)
    ∙ sym (append_assoc (site_slot thread site first) (site_slots thread (suc site) rest) (site_slot thread (site + length (first ∷ rest)) act))

pub deed_read : (deeds : List Deed) (site : ℕ) (default : Deed) → site < length deeds → slice_index_or deeds site default ≡ deed_at deeds site
deed_read [] site default inside = absurd (omega (arith, inside))
deed_read (first ∷ rest) zero default inside = refl
deed_read (first ∷ rest) (suc site) default inside = deed_read rest site default (omega (arith, inside))

pub sites_more : (thread index later : ℕ) (deeds : List Deed) → later ≡ index + 1 → index < length deeds
    → site_slots thread 0 (take later deeds) ≡ site_slots thread 0 (take index deeds) ++ site_slot thread index (deed_at deeds index)
sites_more thread index later deeds next inside =
    let counted : 0 + length (take index deeds) ≡ index = taken deeds index inside in
    ap (λ n. site_slots thread 0 (take n deeds)) next
    ∙ ap (site_slots thread 0) (take_more deeds index deed.Other inside)
    ∙ sites_end thread 0 (take index deeds) (slice_index_or deeds index deed.Other)
    ∙ ap (λ n. site_slots thread 0 (take index deeds) ++ site_slot thread n (slice_index_or deeds index deed.Other)) counted
    ∙ ap (λ act. site_slots thread 0 (take index deeds) ++ site_slot thread index act) (deed_read deeds index deed.Other inside)

-- At most one state a node and a site.

node_few : (thread node : ℕ) (form : Form ℕ) → length (node_slot thread node form) ≤ 1
node_few thread node Start = omega arith
node_few thread node (Same from) = omega arith
node_few thread node (After delay from) = omega arith
node_few thread node (Sync from) = omega arith
node_few thread node (Join first second) = omega arith
node_few thread node (Side from) = omega arith
node_few thread node (Merge first second) = omega arith

pub nodes_few : (thread node : ℕ) (plans : List NodePlan) → length (node_slots thread node plans) ≤ length plans
nodes_few thread node [] = omega arith
nodes_few thread node (plan ∷ rest) =
    let first = node_few thread node (form_of plan.shape) in
    let others = nodes_few thread (suc node) rest in
    let both = length-append (node_slot thread node (form_of plan.shape)) (node_slots thread (suc node) rest) in
    omega (arith, first, others, both)

site_few : (thread site : ℕ) (act : Deed) → length (site_slot thread site act) ≤ 1
site_few thread site (deed.Sets register) = omega arith
site_few thread site (deed.Sends port) = omega arith
site_few thread site (deed.Receives port) = omega arith
site_few thread site deed.Decides = omega arith
site_few thread site deed.Other = omega arith

pub sites_few : (thread site : ℕ) (deeds : List Deed) → length (site_slots thread site deeds) ≤ length deeds
sites_few thread site [] = omega arith
sites_few thread site (act ∷ rest) =
    let first = site_few thread site act in
    let others = sites_few thread (suc site) rest in
    let both = length-append (site_slot thread site act) (site_slots thread (suc site) rest) in
    omega (arith, first, others, both)

-- so much is taken of the first nodes and sites
pub some_nodes_few : (thread index : ℕ) (plans : List NodePlan) → index ≤ length plans → length (node_slots thread 0 (take index plans)) ≤ index
some_nodes_few thread index plans within =
    let few = nodes_few thread 0 (take index plans) in let counted = taken_most plans index in omega (arith, few, counted)

pub some_sites_few : (thread index : ℕ) (deeds : List Deed) → index ≤ length deeds → length (site_slots thread 0 (take index deeds)) ≤ index
some_sites_few thread index deeds within =
    let few = sites_few thread 0 (take index deeds) in let counted = taken_most deeds index in omega (arith, few, counted)

-- The signals of the nodes and of the sites so far, with one more.

module _ {Item : Type 0} (empty : Item) where
  at_end : (items longer : List Item) (item : Item) (index : ℕ) → length items ≡ index → longer ≡ items ++ item ∷ [] → slice_index_or longer index empty ≡ item
  at_end items longer item index count more =
      ap (λ z. slice_index_or z index empty) more ∙ ap (λ n. slice_index_or (items ++ item ∷ []) n empty) (sym count) ∙ get_or-append_seam items item [] empty

  before_end : (items longer : List Item) (item : Item) (index : ℕ) → index < length items → longer ≡ items ++ item ∷ [] → slice_index_or longer index empty ≡ slice_index_or items index empty
  before_end items longer item index inside more =
      ap (λ z. slice_index_or z index empty) more ∙ get_or_append_left items (item ∷ []) empty index inside

-- of each number below the next: of those before, and of the last
below_next : (P : ℕ → Type 0) (index : ℕ) → ((number : ℕ) → number < index → P number) → P index → (number : ℕ) → number < index + 1 → P number
below_next P index before last number below = by_test (nat_lt number index) refl
  where
    by_test : (test : Bool) → nat_lt number index ≡ test → P number
    by_test true passes = before number (grind (arith, nat_tests))
    by_test false fails =
        let above : index ≤ number = grind (arith, nat_tests) in
        let same : index ≡ number = omega (arith, above, below) in
        subst P same last

pub nodes_held : (old new : FrameDraft) (slots : List Slot) (more thread index : ℕ) (plans : List NodePlan) (states longer : List Signal) (signal : Signal)
    → HasRoom old more → Grown old new slots → length states ≡ index → longer ≡ states ++ signal ∷ []
    → ((node : ℕ) → node < index → NodeHeld old.frame thread node (form_in plans node) (bit_at states node))
    → NodeHeld new.frame thread index (form_in plans index) signal
    → (node : ℕ) → node < index + 1 → NodeHeld new.frame thread node (form_in plans node) (bit_at longer node)
nodes_held old new slots more thread index plans states longer signal room grown count pushed before last =
    below_next (λ node. NodeHeld new.frame thread node (form_in plans node) (bit_at longer node)) index
    (λ node below.
    let inside : node < length states = omega (arith, count, below) in
    let same : bit_at longer node ≡ bit_at states node = before_end zero_bit states longer signal node inside pushed in
    subst (λ z. NodeHeld new.frame thread node (form_in plans node) z) (sym same)
    (node_later old new slots more thread node (form_in plans node) (bit_at states node) room grown (before node below)))
    (let same : bit_at longer index ≡ signal = at_end zero_bit states longer signal index count pushed in
    subst (λ z. NodeHeld new.frame thread index (form_in plans index) z) (sym same) last)

both_at : (sides newest : List Signal) (site : ℕ) (signals : SiteState) → bit_at sides site ≡ signals.side → bit_at newest site ≡ signals.newest → site_at sides newest site ≡ signals
both_at sides newest site signals side other = ap (λ z. record { side = z; newest = bit_at newest site }) side ∙ ap (λ z. record { side = signals.side; newest = z }) other

pub sites_held : (old new : FrameDraft) (slots : List Slot) (more thread index : ℕ) (deeds : List Deed) (sides newest longer_sides longer_newest : List Signal) (signals : SiteState)
    → HasRoom old more → Grown old new slots → length sides ≡ index → length newest ≡ index
    → longer_sides ≡ sides ++ signals.side ∷ [] → longer_newest ≡ newest ++ signals.newest ∷ []
    → ((site : ℕ) → site < index → SiteHeld old.frame thread site (deed_at deeds site) (site_at sides newest site))
    → SiteHeld new.frame thread index (deed_at deeds index) signals
    → (site : ℕ) → site < index + 1 → SiteHeld new.frame thread site (deed_at deeds site) (site_at longer_sides longer_newest site)
sites_held old new slots more thread index deeds sides newest longer_sides longer_newest signals room grown side_count newest_count side_pushed newest_pushed before last =
    below_next (λ site. SiteHeld new.frame thread site (deed_at deeds site) (site_at longer_sides longer_newest site)) index
    (λ site below.
    let side : bit_at longer_sides site ≡ bit_at sides site = before_end zero_bit sides longer_sides signals.side site (omega (arith, side_count, below)) side_pushed in
    let other : bit_at longer_newest site ≡ bit_at newest site = before_end zero_bit newest longer_newest signals.newest site (omega (arith, newest_count, below)) newest_pushed in
    subst (λ z. SiteHeld new.frame thread site (deed_at deeds site) z) (sym (both_at longer_sides longer_newest site (site_at sides newest site) side other))
    (site_later old new slots more thread site (deed_at deeds site) (site_at sides newest site) room grown (before site below)))
    (let side : bit_at longer_sides index ≡ signals.side = at_end zero_bit sides longer_sides signals.side index side_count side_pushed in
    let other : bit_at longer_newest index ≡ signals.newest = at_end zero_bit newest longer_newest signals.newest index newest_count newest_pushed in
    subst (λ z. SiteHeld new.frame thread index (deed_at deeds index) z) (sym (both_at longer_sides longer_newest index signals side other)) last)

-- room for one state more within a loop
pub nodes_room : (old new : FrameDraft) (thread index : ℕ) (plans : List NodePlan) → index < length plans
    → HasRoom old (length plans) → Grown old new (node_slots thread 0 (take index plans)) → HasRoom new 1
nodes_room old new thread index plans inside room grown =
    room_left old new (node_slots thread 0 (take index plans)) index 1 (length plans)
    (some_nodes_few thread index plans (omega (arith, inside))) (omega (arith, inside)) room grown

pub sites_room : (old new : FrameDraft) (thread index : ℕ) (deeds : List Deed) → index < length deeds
    → HasRoom old (length deeds) → Grown old new (site_slots thread 0 (take index deeds)) → HasRoom new 1
sites_room old new thread index deeds inside room grown =
    room_left old new (site_slots thread 0 (take index deeds)) index 1 (length deeds)
    (some_sites_few thread index deeds (omega (arith, inside))) (omega (arith, inside)) room grown

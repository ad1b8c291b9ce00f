-- The states of all threads: those of one thread more at the end, the room that they take, and that those of earlier threads stay.
use Rattle.std.proofs.Common.{◌≡◌, ℕ, ◌+◌, ◌*◌, ◌<◌, ◌≤◌, arith, refl, sym, ◌∙◌, subst, ap, List, [], ◌∷◌, ◌++◌, length, take, slice_get, slice_index_or, append_assoc, length-append, Some, None, zero, suc}
use Rattle.core_term.specs.declared.process.CoreReg.{CoreReg}
use Rattle.sv_tree.specs.declared.tree.SvReg.{SvReg}
use Rattle.machine_parts.specs.declared.plan.TurnPlan.{TurnPlan}
use Rattle.machine_parts.specs.declared.frame.Frame.{Frame}
use Rattle.machine_parts.specs.declared.frame.Keep.{Keep}
use Rattle.machine_parts.specs.declared.frame.Keep.TheVariants as keep
use Rattle.machine_parts.specs.declared.frame.ThreadStates.{ThreadStates}
use Rattle.machine_parts.specs.Frames.{AreStates, source_keeps}
use Rattle.module_frame.specs.declared.draft.FrameDraft.{FrameDraft}
use Rattle.module_frame.specs.Slots.{Slot, node_slots, site_slots, thread_slots, threads_slots}
use Rattle.module_frame.specs.Drafts.{HasRoom, Grown, AreFew}
use Rattle.module_frame.proofs.Growing.{register_stays, room_left, nodes_few, sites_few}

-- the item of a place, taken one more
taken_one : {X : Type 0} (items : List X) (index later : ℕ) (item : X) → later ≡ index + 1 → slice_get items index ≡ Some item
    → take later items ≡ take index items ++ item ∷ []
taken_one [] index later item next is = absurd (none_some is)
  where
    none_some : None ≡ Some item → ⊥
    none_some same = cc
taken_one (first ∷ rest) zero later item next is =
    let one : later ≡ suc zero = omega (arith, next) in ap (λ n. take n (first ∷ rest)) one ∙ ap (λ z. z ∷ []) (same_item is)
  where
    same_item : Some first ≡ Some item → first ≡ item
    same_item same = cc
taken_one (first ∷ rest) (suc index) zero item next is = absurd (omega (arith, next))
taken_one (first ∷ rest) (suc index) (suc later) item next is = ap (λ z. first ∷ z) (taken_one rest index later item (omega (arith, next)) is)

inside_of : {X : Type 0} (items : List X) (index : ℕ) (item : X) → slice_get items index ≡ Some item → 0 + length (take index items) ≡ index
inside_of [] index item is = absurd (none_some is)
  where
    none_some : None ≡ Some item → ⊥
    none_some same = cc
inside_of (first ∷ rest) zero item is = refl
inside_of (first ∷ rest) (suc index) item is = let known = inside_of rest index item is in omega (arith, known)

pub get_inside : {X : Type 0} (items : List X) (index : ℕ) (item : X) → index < length items → item ≡ slice_index_or items index item → slice_get items index ≡ Some item
get_inside [] index item inside is = absurd (omega (arith, inside))
get_inside (first ∷ rest) zero item inside is = ap Some (sym is)
get_inside (first ∷ rest) (suc index) item inside is = get_inside rest index item (omega (arith, inside)) is

keeps_end : (number : ℕ) (registers : List CoreReg) (register : CoreReg)
    → source_keeps number (registers ++ register ∷ []) ≡ source_keeps number registers ++ keep.Source (number + length registers) ∷ []
keeps_end number [] register = ap (λ n. keep.Source n ∷ []) (omega arith)
keeps_end number (first ∷ rest) register =
    let same : suc number + length rest ≡ number + length (first ∷ rest) = omega arith in
    ap (λ z. keep.Source number ∷ z) (keeps_end (suc number) rest register ∙ ap (λ n. source_keeps (suc number) rest ++ keep.Source n ∷ []) same)

pub keeps_more : (registers : List CoreReg) (index later : ℕ) (register : CoreReg) → later ≡ index + 1 → slice_get registers index ≡ Some register
    → source_keeps 0 (take later registers) ≡ source_keeps 0 (take index registers) ++ keep.Source index ∷ []
keeps_more registers index later register next is =
    ap (source_keeps 0) (taken_one registers index later register next is)
    ∙ keeps_end 0 (take index registers) register
    ∙ ap (λ n. source_keeps 0 (take index registers) ++ keep.Source n ∷ []) (inside_of registers index register is)

nothing_after : {X : Type 0} (items : List X) → items ++ [] ≡ items
nothing_after [] = refl
nothing_after (item ∷ rest) = ap (λ z. item ∷ z) (nothing_after rest)

threads_end : (thread : ℕ) (plans : List TurnPlan) (plan : TurnPlan)
    → threads_slots thread (plans ++ plan ∷ []) ≡ threads_slots thread plans ++ thread_slots (thread + length plans) plan
threads_end thread [] plan = nothing_after (thread_slots thread plan) ∙ ap (λ n. thread_slots n plan) (omega arith)
threads_end thread (first ∷ rest) plan =
    let same : suc thread + length rest ≡ thread + length (first ∷ rest) = omega arith in
    ap (λ z. thread_slots thread first ++ z)
    (threads_end (suc thread) rest plan ∙ ap (λ n. threads_slots (suc thread) rest ++ thread_slots n plan) same)
    ∙ sym (append_assoc (thread_slots thread first) (threads_slots (suc thread) rest) (thread_slots (thread + length (first ∷ rest)) plan))

pub threads_more : (plans : List TurnPlan) (index later : ℕ) (plan : TurnPlan) → later ≡ index + 1 → slice_get plans index ≡ Some plan
    → threads_slots 0 (take later plans) ≡ threads_slots 0 (take index plans) ++ thread_slots index plan
threads_more plans index later plan next is =
    ap (threads_slots 0) (taken_one plans index later plan next is)
    ∙ threads_end 0 (take index plans) plan
    ∙ ap (λ n. threads_slots 0 (take index plans) ++ thread_slots n plan) (inside_of plans index plan is)

thread_few : (thread : ℕ) (plan : TurnPlan) → length plan.nodes.items < 8192 → length plan.deeds.items ≤ 512 → length (thread_slots thread plan) ≤ 8704
thread_few thread plan few_nodes few_deeds =
    let nodes = nodes_few thread 0 plan.nodes.items in
    let sites = sites_few thread 0 plan.deeds.items in
    let both = length-append (node_slots thread 0 plan.nodes.items) (site_slots thread 0 plan.deeds.items) in
    omega (arith, few_nodes, few_deeds, nodes, sites, both)

threads_few : (thread index : ℕ) (plans : List TurnPlan) → AreFew plans → length (threads_slots thread (take index plans)) ≤ 8704 * index
threads_few thread zero plans few = omega arith
threads_few thread (suc index) [] few = omega arith
threads_few thread (suc index) (plan ∷ rest) few =
    let first = few 0 plan refl in
    let here = thread_few thread plan first.0 first.1 in
    let others = threads_few (suc thread) index rest (λ number other is. few (suc number) other is) in
    let both = length-append (thread_slots thread plan) (threads_slots (suc thread) (take index rest)) in
    omega (arith, here, others, both)

-- room for the next thread, and none is lost at the end
pub threads_room : (old new : FrameDraft) (index : ℕ) (plans : List TurnPlan) (plan : TurnPlan) → AreFew plans → index < length plans
    → slice_get plans index ≡ Some plan → HasRoom old (8704 * length plans) → Grown old new (threads_slots 0 (take index plans))
    → HasRoom new (1 + (length plan.nodes.items + length plan.deeds.items))
threads_room old new index plans plan few inside is room grown =
    let here = few index plan is in
    let few_nodes = here.0 in
    let few_deeds = here.1 in
    room_left old new (threads_slots 0 (take index plans)) (8704 * index) (1 + (length plan.nodes.items + length plan.deeds.items)) (8704 * length plans)
    (threads_few 0 index plans few) (omega (arith, few_nodes, few_deeds, inside)) room grown

pub some_room : (old new : FrameDraft) (index : ℕ) (plans : List TurnPlan) → AreFew plans → index ≤ length plans
    → HasRoom old (8704 * length plans) → Grown old new (threads_slots 0 (take index plans)) → HasRoom new 0
some_room old new index plans few within room grown =
    room_left old new (threads_slots 0 (take index plans)) (8704 * index) 0 (8704 * length plans)
    (threads_few 0 index plans few) (omega (arith, within)) room grown

-- the states of a thread stay as registers are added
pub states_stay : (old new : Frame) (regs : List SvReg) (keeps : List Keep) (thread : ℕ) (plan : TurnPlan) (states : ThreadStates)
    → length old.keeps.items ≡ length old.regs.items
    → new.regs.items ≡ old.regs.items ++ regs → new.keeps.items ≡ old.keeps.items ++ keeps
    → AreStates old thread plan states → AreStates new thread plan states
states_stay old new regs keeps thread plan states same more_regs more_keeps are = record {
  started = register_stays old new regs keeps _ states.started same more_regs more_keeps are.started;
  started_bit = are.started_bit;
  node_count = are.node_count;
  nodes = λ node inside keeps_it. let held = are.nodes node inside keeps_it in (register_stays old new regs keeps _ _ same more_regs more_keeps held.0, held.1);
  no_state = are.no_state;
  side_count = are.side_count;
  sides = λ site is. let held = are.sides site is in (register_stays old new regs keeps _ _ same more_regs more_keeps held.0, held.1);
  no_side = are.no_side;
  newest_count = are.newest_count;
  newest = λ site port is. let held = are.newest site port is in (register_stays old new regs keeps _ _ same more_regs more_keeps held.0, held.1);
  not_newest = are.not_newest;
}

-- those of the threads so far, with one more
got_pushed : {X : Type 0} (items longer : List X) (item found : X) (index : ℕ) → longer ≡ items ++ item ∷ [] → slice_get longer index ≡ Some found
    → (P : ℕ → X → Type 0) → ((number : ℕ) → slice_get items number ≡ Some found → P number found) → P (length items) item → P index found
got_pushed {X = X} items longer item found index more is P before last = from items index (subst (λ z. slice_get z index ≡ Some found) more is) P before last
  where
    from : (items : List X) (index : ℕ) → slice_get (items ++ item ∷ []) index ≡ Some found
        → (P : ℕ → X → Type 0) → ((number : ℕ) → slice_get items number ≡ Some found → P number found) → P (length items) item → P index found
    from [] zero is P before last = let same : item ≡ found = cc in subst (λ z. P 0 z) same last
    from [] (suc index) is P before last = cc
    from (first ∷ rest) zero is P before last = before 0 is
    from (first ∷ rest) (suc index) is P before last = from rest index is (λ number. P (suc number)) (λ number. before (suc number)) last

pub threads_held : (old new : FrameDraft) (slots : List Slot) (more index : ℕ) (plans : List TurnPlan) (plan : TurnPlan) (threads longer : List ThreadStates) (states : ThreadStates)
    → HasRoom old more → Grown old new slots → slice_get plans index ≡ Some plan → length threads ≡ index → longer ≡ threads ++ states ∷ []
    → ((thread : ℕ) (other : TurnPlan) (found : ThreadStates) → slice_get plans thread ≡ Some other → slice_get threads thread ≡ Some found → AreStates old.frame thread other found)
    → AreStates new.frame index plan states
    → (thread : ℕ) (other : TurnPlan) (found : ThreadStates) → slice_get plans thread ≡ Some other → slice_get longer thread ≡ Some found → AreStates new.frame thread other found
threads_held old new slots more index plans plan threads longer states room grown is count pushed before last thread other found is_other is_found =
    got_pushed threads longer states found thread pushed is_found
    (λ number z. (wanted : TurnPlan) → slice_get plans number ≡ Some wanted → AreStates new.frame number wanted z)
    (λ number here wanted is_wanted. states_stay old.frame new.frame _ _ number wanted found room.same grown.regs grown.keeps (before number wanted found is_wanted here))
    (subst (λ n. (wanted : TurnPlan) → slice_get plans n ≡ Some wanted → AreStates new.frame n wanted states) (sym count)
    (λ wanted is_wanted. subst (λ z. AreStates new.frame index z states) (same_plan (sym is ∙ is_wanted)) last))
    other is_other
  where
    same_plan : {one two : TurnPlan} → Some one ≡ Some two → one ≡ two
    same_plan same = cc

-- they are those of each frame with the same registers
pub states_same : (old new : Frame) (thread : ℕ) (plan : TurnPlan) (states : ThreadStates) → length old.keeps.items ≡ length old.regs.items
    → new.regs.items ≡ old.regs.items → new.keeps.items ≡ old.keeps.items → AreStates old thread plan states → AreStates new thread plan states
states_same old new thread plan states same same_regs same_keeps are =
    states_stay old new [] [] thread plan states same (same_regs ∙ sym (nothing_after old.regs.items)) (same_keeps ∙ sym (nothing_after old.keeps.items)) are

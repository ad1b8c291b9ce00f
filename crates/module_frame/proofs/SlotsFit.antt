-- The states of a frame keep what they should: they are those of the list of what is kept, in its order, and each is as wide as what it
-- keeps.
use Rattle.std.proofs.Common.{◌≡◌, ℕ, ◌+◌, ◌-◌, ◌<◌, ◌≤◌, arith, refl, sym, ◌∙◌, subst, ap, Bool, true, false, List, [], ◌∷◌, ◌++◌, length, map, slice_get, nat_lt, Some, length-append, zero, suc}
use Rattle.std.proofs.Math.Seq.{get_or-append_right}
use Rattle.std.proofs.lemmas.Bool.Decides.{nat_tests}
use Rattle.std.proofs.lemmas.List.{get_or_append_left, map-append}
use Rattle.order_rules.specs.Form.{Form, Start, Same, After, Sync, Join, Side, Merge}
use Rattle.core_term.specs.declared.process.CoreReg.{CoreReg}
use Rattle.pulse_nets.specs.Pulses.{form_of}
use Rattle.act_deeds.specs.declared.deed.Deed.{Deed}
use Rattle.act_deeds.specs.declared.deed.Deed.TheVariants as deed
use Rattle.act_deeds.specs.Deeds.{deed_at}
use Rattle.machine_parts.specs.declared.plan.NodePlan.{NodePlan}
use Rattle.machine_parts.specs.declared.plan.TurnPlan.{TurnPlan}
use Rattle.machine_parts.specs.declared.frame.Frame.{Frame}
use Rattle.machine_parts.specs.declared.frame.Keep.{Keep}
use Rattle.machine_parts.specs.declared.frame.Keep.TheVariants as keep
use Rattle.machine_parts.specs.Frames.{keep_if, keeps_state, node_keeps, site_keep, site_keeps, thread_keeps, threads_keeps, source_keeps, keep_at, no_keep, register_at, no_register, source_of, HasWidth, KeepFits}
use Rattle.machine_parts.specs.Digits.{digits}
use Rattle.machine_parts.specs.Parts.{form_in}
use Rattle.module_frame.specs.Slots.{Slot, node_slot, node_slots, site_slot, site_slots, thread_slots, threads_slots, states_from}
use Rattle.module_frame.proofs.DigitCounts.{enough_digits}
use Rattle.module_frame.proofs.Growing.{keeps_length}

-- What they keep.

abbrev pub kept_by : List Slot → List Keep
kept_by slots = map (λ slot. slot.keep) slots

joined : {X : Type 0} {first other second also : List X} → first ≡ second → other ≡ also → first ++ other ≡ second ++ also
joined one two = rw (one, two) refl

node_kept : (thread node : ℕ) (form : Form ℕ) → kept_by (node_slot thread node form) ≡ keep_if (keeps_state form) (keep.Node thread node)
node_kept thread node Start = refl
node_kept thread node (Same from) = refl
node_kept thread node (After delay from) = refl
node_kept thread node (Sync from) = refl
node_kept thread node (Join first second) = refl
node_kept thread node (Side from) = refl
node_kept thread node (Merge first second) = refl

nodes_kept : (thread node : ℕ) (plans : List NodePlan) → kept_by (node_slots thread node plans) ≡ node_keeps thread node plans
nodes_kept thread node [] = refl
nodes_kept thread node (plan ∷ rest) =
    map-append (λ slot. slot.keep) (node_slot thread node (form_of plan.shape)) (node_slots thread (suc node) rest)
    ∙ joined (node_kept thread node (form_of plan.shape)) (nodes_kept thread (suc node) rest)

site_kept : (thread site : ℕ) (act : Deed) → kept_by (site_slot thread site act) ≡ site_keep thread site act
site_kept thread site (deed.Sets register) = refl
site_kept thread site (deed.Sends port) = refl
site_kept thread site (deed.Receives port) = refl
site_kept thread site deed.Decides = refl
site_kept thread site deed.Other = refl

sites_kept : (thread site : ℕ) (deeds : List Deed) → kept_by (site_slots thread site deeds) ≡ site_keeps thread site deeds
sites_kept thread site [] = refl
sites_kept thread site (act ∷ rest) =
    map-append (λ slot. slot.keep) (site_slot thread site act) (site_slots thread (suc site) rest)
    ∙ joined (site_kept thread site act) (sites_kept thread (suc site) rest)

thread_kept : (thread : ℕ) (plan : TurnPlan) → kept_by (thread_slots thread plan) ≡ thread_keeps thread plan
thread_kept thread plan =
    ap (λ z. keep.Started thread ∷ z)
    (map-append (λ slot. slot.keep) (node_slots thread 0 plan.nodes.items) (site_slots thread 0 plan.deeds.items)
    ∙ joined (nodes_kept thread 0 plan.nodes.items) (sites_kept thread 0 plan.deeds.items))

pub threads_kept : (thread : ℕ) (plans : List TurnPlan) → kept_by (threads_slots thread plans) ≡ threads_keeps thread plans
threads_kept thread [] = refl
threads_kept thread (plan ∷ rest) =
    map-append (λ slot. slot.keep) (thread_slots thread plan) (threads_slots (suc thread) rest)
    ∙ joined (thread_kept thread plan) (threads_kept (suc thread) rest)

-- How wide they are.

-- a state of so many bits may keep this
abbrev WidthFits : List TurnPlan → (width : ℕ) → Keep → Type 0
WidthFits plans width (keep.Source register) = ⊥
WidthFits plans width (keep.Started thread) = (plan : TurnPlan) × (slice_get plans thread ≡ Some plan) × (width ≡ 1)
WidthFits plans width (keep.Node thread node) =
    (plan : TurnPlan) × (slice_get plans thread ≡ Some plan) × (node < length plan.nodes.items)
    × (keeps_state (form_in plan.nodes.items node) ≡ true) × HasWidth width (form_in plan.nodes.items node)
WidthFits plans width (keep.Side thread site) =
    (plan : TurnPlan) × (slice_get plans thread ≡ Some plan) × (deed_at plan.deeds.items site ≡ deed.Decides) × (width ≡ 1)
WidthFits plans width (keep.Newest thread site) =
    (plan : TurnPlan) × (slice_get plans thread ≡ Some plan) × (port : ℕ) × (deed_at plan.deeds.items site ≡ deed.Sends port) × (width ≡ 1)

abbrev AllFit : List TurnPlan → List Slot → Type 0
AllFit plans [] = Unit {0}
AllFit plans (slot ∷ rest) = WidthFits plans slot.width slot.keep × AllFit plans rest

fit_both : (plans : List TurnPlan) (these those : List Slot) → AllFit plans these → AllFit plans those → AllFit plans (these ++ those)
fit_both plans [] those one other = other
fit_both plans (slot ∷ these) those one other = (one.0, fit_both plans these those one.1 other)

module _ (plans : List TurnPlan) (thread : ℕ) (plan : TurnPlan) (is_plan : slice_get plans thread ≡ Some plan) where
  node_fits : (node : ℕ) (form : Form ℕ) → node < length plan.nodes.items → form_in plan.nodes.items node ≡ form → AllFit plans (node_slot thread node form)
  node_fits node Start inside is = tt
  node_fits node (Same from) inside is = tt
  node_fits node (After delay from) inside is =
      ((plan, is_plan, inside, ap keeps_state is, subst (λ form. HasWidth (digits delay) form) (sym is) (refl, enough_digits delay)), tt)
  node_fits node (Sync from) inside is = ((plan, is_plan, inside, ap keeps_state is, subst (λ form. HasWidth 1 form) (sym is) refl), tt)
  node_fits node (Join first second) inside is = ((plan, is_plan, inside, ap keeps_state is, subst (λ form. HasWidth 1 form) (sym is) refl), tt)
  node_fits node (Side from) inside is = tt
  node_fits node (Merge first second) inside is = tt

  -- of the rest of the nodes, which begin at a number
  nodes_fit : (node : ℕ) (rest : List NodePlan) → ((index : ℕ) → index < length rest → (node + index < length plan.nodes.items) × (form_in plan.nodes.items (node + index) ≡ form_in rest index))
      → AllFit plans (node_slots thread node rest)
  nodes_fit node [] reads = tt
  nodes_fit node (first ∷ rest) reads =
      let here : node + 0 ≡ node = omega arith in
      let read = reads 0 (omega arith) in
      fit_both plans (node_slot thread node (form_of first.shape)) (node_slots thread (suc node) rest)
      (node_fits node (form_of first.shape) (subst (λ n. n < length plan.nodes.items) here read.0) (subst (λ n. form_in plan.nodes.items n ≡ form_of first.shape) here read.1))
      (nodes_fit (suc node) rest (λ index inside.
      let next : node + suc index ≡ suc node + index = omega arith in
      subst (λ n. (n < length plan.nodes.items) × (form_in plan.nodes.items n ≡ form_in rest index)) next (reads (suc index) (omega (arith, inside)))))

  site_fits : (site : ℕ) (act : Deed) → deed_at plan.deeds.items site ≡ act → AllFit plans (site_slot thread site act)
  site_fits site (deed.Sets register) is = tt
  site_fits site (deed.Sends port) is = ((plan, is_plan, port, is, refl), tt)
  site_fits site (deed.Receives port) is = tt
  site_fits site deed.Decides is = ((plan, is_plan, is, refl), tt)
  site_fits site deed.Other is = tt

  sites_fit : (site : ℕ) (rest : List Deed) → ((index : ℕ) → index < length rest → deed_at plan.deeds.items (site + index) ≡ deed_at rest index) → AllFit plans (site_slots thread site rest)
  sites_fit site [] reads = tt
  sites_fit site (first ∷ rest) reads =
      let here : site + 0 ≡ site = omega arith in
      fit_both plans (site_slot thread site first) (site_slots thread (suc site) rest)
      (site_fits site first (subst (λ n. deed_at plan.deeds.items n ≡ first) here (reads 0 (omega arith))))
      (sites_fit (suc site) rest (λ index inside.
      let next : site + suc index ≡ suc site + index = omega arith in
      subst (λ n. deed_at plan.deeds.items n ≡ deed_at rest index) next (reads (suc index) (omega (arith, inside)))))

  thread_fits : AllFit plans (thread_slots thread plan)
  thread_fits = (
    (plan, is_plan, refl),
    fit_both plans (node_slots thread 0 plan.nodes.items) (site_slots thread 0 plan.deeds.items)
        (nodes_fit 0 plan.nodes.items (λ index inside. let same : index ≡ 0 + index = omega arith in subst (λ n. (n < length plan.nodes.items) × (form_in plan.nodes.items n ≡ form_in plan.nodes.items index)) same (inside, refl)))
        (sites_fit 0 plan.deeds.items (λ index inside. let same : index ≡ 0 + index = omega arith in subst (λ n. deed_at plan.deeds.items n ≡ deed_at plan.deeds.items index) same refl)),
  )

-- of the rest of the threads, which begin at a number
threads_fit : (plans : List TurnPlan) (thread : ℕ) (rest : List TurnPlan) → ((index : ℕ) (plan : TurnPlan) → slice_get rest index ≡ Some plan → slice_get plans (thread + index) ≡ Some plan)
    → AllFit plans (threads_slots thread rest)
threads_fit plans thread [] reads = tt
threads_fit plans thread (plan ∷ rest) reads =
    let here : thread + 0 ≡ thread = omega arith in
    fit_both plans (thread_slots thread plan) (threads_slots (suc thread) rest)
    (thread_fits plans thread plan (subst (λ n. slice_get plans n ≡ Some plan) here (reads 0 plan refl)))
    (threads_fit plans (suc thread) rest (λ index other is.
    let next : thread + suc index ≡ suc thread + index = omega arith in
    subst (λ n. slice_get plans n ≡ Some other) next (reads (suc index) other is)))

all_fit : (plans : List TurnPlan) → AllFit plans (threads_slots 0 plans)
all_fit plans = threads_fit plans 0 plans (λ index plan is. let same : index ≡ 0 + index = omega arith in subst (λ n. slice_get plans n ≡ Some plan) same is)

-- What each register keeps.

fits_at : (plans : List TurnPlan) (slots : List Slot) (number index : ℕ) → index < length slots → AllFit plans slots
    → WidthFits plans (register_at (states_from number slots) index).width (keep_at (kept_by slots) index)
fits_at plans [] number index inside fit = absurd (omega (arith, inside))
fits_at plans (slot ∷ rest) number zero inside fit = fit.0
fits_at plans (slot ∷ rest) number (suc index) inside fit = fits_at plans rest (number + 1) index (omega (arith, inside)) fit.1

is_fitted : (frame : Frame) (registers : List CoreReg) (plans : List TurnPlan) (place : ℕ) (kept : Keep)
    → WidthFits plans (register_at frame.regs.items place).width kept → KeepFits frame.regs.items registers plans place kept
is_fitted frame registers plans place (keep.Source register) fit = absurd fit
is_fitted frame registers plans place (keep.Started thread) fit = fit
is_fitted frame registers plans place (keep.Node thread node) fit = fit
is_fitted frame registers plans place (keep.Side thread site) fit = fit
is_fitted frame registers plans place (keep.Newest thread site) fit = fit

source_kept : (registers : List CoreReg) (number place : ℕ) → place < length registers → keep_at (source_keeps number registers) place ≡ keep.Source (number + place)
source_kept [] number place inside = absurd (omega (arith, inside))
source_kept (register ∷ rest) number zero inside = ap keep.Source (omega arith)
source_kept (register ∷ rest) number (suc place) inside =
    let same : suc number + place ≡ number + suc place = omega arith in source_kept rest (suc number) place (omega (arith, inside)) ∙ ap keep.Source same

source_there : (registers : List CoreReg) (place : ℕ) → place < length registers
    → (first : CoreReg) × (slice_get registers place ≡ Some first) × (register_at (map source_of registers) place ≡ source_of first)
source_there [] place inside = absurd (omega (arith, inside))
source_there (register ∷ rest) zero inside = (register, refl, refl)
source_there (register ∷ rest) (suc place) inside = source_there rest place (omega (arith, inside))

sources_length : (registers : List CoreReg) → length (map source_of registers) ≡ length registers
sources_length [] = refl
sources_length (register ∷ rest) = let known = sources_length rest in omega (arith, known)

pub source_keeps_length : (number : ℕ) (registers : List CoreReg) → length (source_keeps number registers) ≡ length registers
source_keeps_length number [] = refl
source_keeps_length number (register ∷ rest) = let known = source_keeps_length (suc number) rest in omega (arith, known)

pub all_kept : (frame : Frame) (registers : List CoreReg) (plans : List TurnPlan)
    → frame.regs.items ≡ map source_of registers ++ states_from 0 (threads_slots 0 plans)
    → frame.keeps.items ≡ source_keeps 0 registers ++ kept_by (threads_slots 0 plans)
    → (place : ℕ) → place < length frame.keeps.items → KeepFits frame.regs.items registers plans place (keep_at frame.keeps.items place)
all_kept frame registers plans regs_are keeps_are place inside = by_test (nat_lt place (length registers)) refl
  where
    slots : List Slot
    slots = threads_slots 0 plans

    regs_count : length (map source_of registers) ≡ length registers
    regs_count = sources_length registers

    keeps_count : length (source_keeps 0 registers) ≡ length registers
    keeps_count = source_keeps_length 0 registers

    by_test : (test : Bool) → nat_lt place (length registers) ≡ test → KeepFits frame.regs.items registers plans place (keep_at frame.keeps.items place)
    by_test true passes =
        let below : place < length registers = grind (arith, nat_tests) in
        let left : place < length (map source_of registers) = (let count = regs_count in omega (arith, count, below)) in
        let also : place < length (source_keeps 0 registers) = (let count = keeps_count in omega (arith, count, below)) in
        let kept : keep_at frame.keeps.items place ≡ keep.Source place =
        ap (λ z. keep_at z place) keeps_are ∙ get_or_append_left (source_keeps 0 registers) (kept_by (threads_slots 0 plans)) no_keep place also
        ∙ source_kept registers 0 place below ∙ ap keep.Source (omega arith) in
        let there = source_there registers place below in
        subst (λ z. KeepFits frame.regs.items registers plans place z) (sym kept) (
          there.0,
          there.1,
          ap (λ z. register_at z place) regs_are ∙ get_or_append_left (map source_of registers) (states_from 0 (threads_slots 0 plans)) no_register place left ∙ there.2,
        )
    by_test false fails =
        let above : length registers ≤ place = grind (arith, nat_tests) in
        let right : length (map source_of registers) ≤ place = (let count = regs_count in omega (arith, count, above)) in
        let also : length (source_keeps 0 registers) ≤ place = (let count = keeps_count in omega (arith, count, above)) in
        let same_place : place - length (map source_of registers) ≡ place - length (source_keeps 0 registers) = (let one = regs_count in let other = keeps_count in omega (arith, one, other)) in
        let reg : register_at frame.regs.items place ≡ register_at (states_from 0 (threads_slots 0 plans)) (place - length (source_keeps 0 registers)) =
        ap (λ z. register_at z place) regs_are ∙ get_or-append_right (map source_of registers) (states_from 0 (threads_slots 0 plans)) place no_register right
        ∙ ap (register_at (states_from 0 (threads_slots 0 plans))) same_place in
        let kept : keep_at frame.keeps.items place ≡ keep_at (kept_by (threads_slots 0 plans)) (place - length (source_keeps 0 registers)) =
        ap (λ z. keep_at z place) keeps_are ∙ get_or-append_right (source_keeps 0 registers) (kept_by (threads_slots 0 plans)) place no_keep also in
        let total = ap length keeps_are ∙ length-append (source_keeps 0 registers) (kept_by (threads_slots 0 plans)) in
        let slot_count = keeps_length (threads_slots 0 plans) in
        let within : place - length (source_keeps 0 registers) < length (threads_slots 0 plans) = omega (arith, total, slot_count, inside, also) in
        let fit = fits_at plans (threads_slots 0 plans) 0 (place - length (source_keeps 0 registers)) within (all_fit plans) in
        subst (λ z. KeepFits frame.regs.items registers plans place z) (sym kept)
        (is_fitted frame registers plans place (keep_at (kept_by (threads_slots 0 plans)) (place - length (source_keeps 0 registers)))
        (subst (λ z. WidthFits plans z.width (keep_at (kept_by (threads_slots 0 plans)) (place - length (source_keeps 0 registers)))) (sym reg) fit))

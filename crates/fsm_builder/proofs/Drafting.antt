-- One thread more: plans and drafts stay what they are.
use Rattle.std.proofs.Common.{◌≡◌, ℕ, zero, suc, ◌⊎◌, inl, inr, List, [], ◌∷◌, ◌++◌, length, refl, sym, ◌∙◌, ap, subst, arith}
use Rattle.std.specs.Prelude.{Some, slice_get}
use Rattle.core_term.specs.declared.term.CoreTerm.{CoreTerm}
use Rattle.core_term.specs.View.{term_of}
use Rattle.core_term.specs.Widths.{Widths}
use Rattle.sv_tree.specs.Module.{Module}
use Rattle.module_nets.specs.Netlist.{Extends}
use Rattle.module_nets.specs.declared.signal.Signal.{Signal}
use Rattle.module_nets.proofs.Expressions.{places_later}
use Rattle.module_nets.proofs.BitsTold.{bit_later}
use Rattle.machine_parts.specs.declared.frame.ThreadStates.{ThreadStates}
use Rattle.machine_parts.specs.declared.plan.TurnPlan.{TurnPlan}
use Rattle.machine_parts.specs.declared.thread.ThreadDraft.{ThreadDraft}
use Rattle.machine_parts.specs.Plans.{IsTurnPlan}
use Rattle.turn_nets.proofs.BitLists.{bits_later}
use Rattle.turn_nets.proofs.OneNode.{states_later}
use Rattle.drawn_machine.proofs.Later.{newest_later, thread_later}
use Rattle.fsm_builder.specs.declared.threads.Sources.{Sources}
use Rattle.fsm_builder.specs.Drafts.{DraftDrawn, DraftsDrawn, IsDraftOf, IsReady, PlansAre, drawn_body}

-- what stands in a list with one item more stands in the list, or is that item
pub pushed_at : {A : Type 0} (items : List A) (item : A) (place : ℕ) (found : A) → slice_get (items ++ item ∷ []) place ≡ Some found
    → (slice_get items place ≡ Some found) ⊎ ((place ≡ length items) × (found ≡ item))
pushed_at [] item zero found is = inr (refl, let same : item ≡ found = cc in sym same)
pushed_at [] item (suc place) found is = absurd cc
pushed_at (first ∷ items) item zero found is = inl is
pushed_at (first ∷ items) item (suc place) found is = elim (pushed_at items item place found is) [
  | inl before ↦ inl before
  | inr here ↦ inr (let count = here.0 in omega (arith, count), here.1)
]

pub ready_later : (old new : Module) (e : Extends old new) (registers words wires : List Signal) (plan : TurnPlan) (states : ThreadStates) (body : CoreTerm) (ports : ℕ)
    → IsReady old registers words wires plan states body ports → IsReady new registers words wires plan states body ports
ready_later old new e registers words wires plan states body ports is = record {
  plan_is = is.plan_is;
  nodes = is.nodes;
  states_stand = states_later old new plan.nodes.items states.nodes.items e is.states_stand;
  kept = bits_later old new states.sides.items e is.kept;
  no_side = is.no_side;
  started = bit_later old new states.started e is.started;
  wires_stand = bits_later old new wires e is.wires_stand;
  places = places_later old new registers words [] e is.places;
  fits = is.fits;
  newest = bits_later old new states.newest.items e is.newest;
  sends = is.sends;
}

pub drawn_later : (old new : Module) (e : Extends old new) (registers words wires : List Signal) (body : CoreTerm) (draft : ThreadDraft)
    → DraftDrawn old registers words wires body draft → DraftDrawn new registers words wires body draft
drawn_later old new e registers words wires body draft is = record {
  drawn = thread_later old new e registers words wires (drawn_body registers words body) draft.plan.now draft.states.now draft.nets is.drawn;
  newest = newest_later old new e draft.plan.now draft.states.now.newest.items draft.nets.pulses.items draft.newest.items is.newest;
}

pub plans_more : (bodies : List CoreTerm) (plans longer : List TurnPlan) (place : ℕ) (body : CoreTerm) (plan : TurnPlan) → length plans ≡ place → slice_get bodies place ≡ Some body
    → ((widths : Widths) → IsTurnPlan (term_of widths body) plan) → longer ≡ plans ++ plan ∷ [] → PlansAre bodies plans → PlansAre bodies longer
plans_more bodies plans longer place body plan count at is after are number other found there has widths =
    elim (pushed_at plans plan number found (sym (ap (λ list. slice_get list number) after) ∙ has)) [
      | inl before ↦ are number other found there before widths
      | inr last ↦
          let here : number ≡ place = last.0 ∙ count in
          let both : Some other ≡ Some body = sym there ∙ (ap (slice_get bodies) here ∙ at) in
          let same : body ≡ other = cc in
          subst (λ plan. IsTurnPlan (term_of widths other) plan) (sym last.1) (subst (λ body. IsTurnPlan (term_of widths body) plan) same (is widths))
    ]

pub drafts_more : (old new : Module) (e : Extends old new) (sources : Sources) (bodies : List CoreTerm) (plans : List TurnPlan) (states : List ThreadStates)
    (drafts longer : List ThreadDraft) (place : ℕ) (body : CoreTerm) (draft : ThreadDraft) → length drafts ≡ place → slice_get bodies place ≡ Some body
    → IsDraftOf new sources plans states place body draft → longer ≡ drafts ++ draft ∷ [] → DraftsDrawn old sources bodies plans states drafts
    → DraftsDrawn new sources bodies plans states longer
drafts_more old new e sources bodies plans states drafts longer place body draft count at is after are number other found there has =
    elim (pushed_at drafts draft number found (sym (ap (λ list. slice_get list number) after) ∙ has)) [
      | inl before ↦
          let known = are number other found there before in
          record { plan = known.plan; states_are = known.states_are; is = drawn_later old new e sources.registers.now sources.words.now sources.wires.now other found known.is }
      | inr last ↦
          let here : number ≡ place = last.0 ∙ count in
          let both : Some other ≡ Some body = sym there ∙ (ap (slice_get bodies) here ∙ at) in
          let same : body ≡ other = cc in
          subst (λ number. IsDraftOf new sources plans states number other found) (sym here)
          (subst (λ draft. IsDraftOf new sources plans states place other draft) (sym last.1)
          (subst (λ body. IsDraftOf new sources plans states place body draft) same is))
    ]

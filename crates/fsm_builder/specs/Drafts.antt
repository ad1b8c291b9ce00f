-- The threads of a process as they are drawn: what each needs, and what each is.
use Rattle.std.specs.Prelude.{ℕ, ◌≡◌, IsTrue, List, [], length, slice_get, Some}
use Rattle.core_term.specs.declared.term.CoreTerm.{CoreTerm}
use Rattle.core_term.specs.Term.{Term}
use Rattle.core_term.specs.View.{term_of}
use Rattle.core_term.specs.Widths.{Widths}
use Rattle.sv_tree.specs.Module.{Module}
use Rattle.module_nets.specs.declared.signal.Signal.{Signal}
use Rattle.module_nets.specs.Bits.{IsBit}
use Rattle.module_nets.specs.Signals.{PlacesStand, widths_in}
use Rattle.act_deeds.specs.declared.deed.Deed.TheVariants.{Decides}
use Rattle.act_deeds.specs.Deeds.{deed_at}
use Rattle.machine_parts.specs.declared.frame.ThreadStates.{ThreadStates}
use Rattle.machine_parts.specs.declared.plan.TurnPlan.{TurnPlan}
use Rattle.machine_parts.specs.declared.thread.ThreadDraft.{ThreadDraft}
use Rattle.machine_parts.specs.Parts.{bit_at, zero_bit}
use Rattle.machine_parts.specs.Plans.{IsTurnPlan}
use Rattle.machine_parts.specs.Nodes.{AreBits, AreNodes, AreStatesDrawn}
use Rattle.machine_parts.specs.Threads.{ThreadDrawn}
use Rattle.machine_parts.specs.Drafts.{NewestDrawn}
use Rattle.thread_nets.specs.Fits.{acts_fit}
use Rattle.process_nets.specs.Newest.{SendsWithin}
use Rattle.fsm_builder.specs.declared.threads.Sources.{Sources}

-- the body of a thread, with the widths of the signals that it is drawn from
abbrev pub drawn_body : (registers words : List Signal) → CoreTerm → Term
drawn_body registers words body = term_of (widths_in registers words []) body

-- of each thread the plan
abbrev pub PlansAre : List CoreTerm → List TurnPlan → Type 0
PlansAre bodies plans =
    (number : ℕ) (body : CoreTerm) (plan : TurnPlan) → slice_get bodies number ≡ Some body
    → slice_get plans number ≡ Some plan → (widths : Widths) → IsTurnPlan (term_of widths body) plan

-- what a thread needs
pub record IsReady (old : Module) (registers words wires : List Signal) (plan : TurnPlan) (states : ThreadStates)
    (body : CoreTerm) (ports : ℕ) : Type 0 where
  pub plan_is : IsTurnPlan (drawn_body registers words body) plan
  pub nodes : AreNodes plan.nodes.items
  pub states_stand : AreStatesDrawn old plan.nodes.items states.nodes.items
  pub kept : AreBits old states.sides.items
  pub no_side : (place : ℕ) → (deed_at plan.deeds.items place ≡ Decides → ⊥) → bit_at states.sides.items place ≡ zero_bit
  pub started : IsBit old states.started
  pub wires_stand : AreBits old wires
  pub places : PlacesStand old registers words []
  pub fits : IsTrue (acts_fit (length registers) (widths_in registers words []) (drawn_body registers words body))
  pub newest : AreBits old states.newest.items
  pub sends : SendsWithin plan ports

abbrev pub AreReady : Module → Sources → List CoreTerm → List TurnPlan → List ThreadStates → (ports : ℕ) → Type 0
AreReady old sources bodies plans states ports =
    (number : ℕ) (body : CoreTerm) (plan : TurnPlan) (registers : ThreadStates) → slice_get bodies number ≡ Some body
    → slice_get plans number ≡ Some plan → slice_get states number ≡ Some registers
    → IsReady old sources.registers.now sources.words.now sources.wires.now plan registers body ports

-- a thread that is drawn
pub record DraftDrawn (old : Module) (registers words wires : List Signal) (body : CoreTerm)
    (draft : ThreadDraft) : Type 0 where
  pub drawn : ThreadDrawn old registers words wires (drawn_body registers words body) draft.plan.now draft.states.now
      draft.nets
  pub newest : NewestDrawn old draft.plan.now draft.states.now.newest.items draft.nets.pulses.items draft.newest.items

-- of each of the first so many threads
pub record IsDraftOf (old : Module) (sources : Sources) (plans : List TurnPlan) (states : List ThreadStates)
    (number : ℕ) (body : CoreTerm) (draft : ThreadDraft) : Type 0 where
  pub plan : slice_get plans number ≡ Some draft.plan.now
  pub states_are : slice_get states number ≡ Some draft.states.now
  pub is : DraftDrawn old sources.registers.now sources.words.now sources.wires.now body draft

abbrev pub DraftsDrawn : Module → Sources → List CoreTerm → List TurnPlan → List ThreadStates → List ThreadDraft → Type 0
DraftsDrawn old sources bodies plans states drafts =
    (number : ℕ) (body : CoreTerm) (draft : ThreadDraft) → slice_get bodies number ≡ Some body
    → slice_get drafts number ≡ Some draft → IsDraftOf old sources plans states number body draft

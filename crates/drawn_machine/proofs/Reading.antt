-- The values, decisions and sides of a drawn thread are those of a machine that reads again: over the registers and words that the module
-- shows in each cycle of the list.
use Rattle.std.proofs.Common.{◌≡◌, ℕ, zero, suc, ◌+◌, ◌<◌, ◌⊎◌, inl, inr, Bool, true, false, List, [], ◌∷◌, length, refl, sym, ◌∙◌, ap, subst, arith}
use Rattle.std.specs.Prelude.{◌==◌, if◌then◌else◌, slice_get, Some}
use Rattle.std.proofs.lemmas.Bool.{cases_lt}
use Rattle.std.proofs.lemmas.List.{get_or_past}
use Rattle.core_term.specs.Inputs.{Inputs}
use Rattle.core_term.specs.Reread.{read_again, sight}
use Rattle.core_term.specs.Term.{Expr, Term, Act, Cycle, Set, Send, Recv, If, When, Block, Wait, Pure, Nothing, site, head}
use Rattle.core_term.specs.Numbering.{size, Numbered}
use Rattle.core_term.specs.Stands.{Stands}
use Rattle.core_term.specs.Acts.{Asks, Receives, Uses}
use Rattle.core_term.specs.Process.{Thread}
use Rattle.core_term.specs.Points.{Begin}
use Rattle.core_term.proofs.code_tables.Acting.{each_site}
use Rattle.sv_tree.specs.Module.{Module}
use Rattle.module_nets.specs.declared.signal.Signal.{Signal}
use Rattle.module_nets.specs.Shown.{IsMomentOf, shown}
use Rattle.module_nets.specs.Bits.{told}
use Rattle.module_nets.specs.Signals.{no_signal, signal_at, sight_in}
use Rattle.turn_pulses.specs.Latest.{IsLatest}
use Rattle.pulse_nets.specs.Pulses.{pulse_at}
use Rattle.process_machine.specs.ThreadMachine.{ReadsAgain}
use Rattle.act_deeds.specs.declared.deed.Deed.TheVariants as deed
use Rattle.act_deeds.specs.Deeds.{deed_in}
use Rattle.act_deeds.proofs.Deeds.{deed_stands}
use Rattle.machine_parts.specs.declared.frame.Frame.{Frame}
use Rattle.machine_parts.specs.declared.frame.Keep.{Keep}
use Rattle.machine_parts.specs.declared.frame.Keep.TheVariants as keep
use Rattle.machine_parts.specs.declared.thread.ThreadDraft.{ThreadDraft}
use Rattle.machine_parts.specs.Parts.{bit_at, zero_bit}
use Rattle.machine_parts.specs.Plans.{node_of}
use Rattle.machine_parts.specs.Frames.{HasRegister}
use Rattle.drawn_machine.specs.Drawn.{IsThreadDraft}
use Rattle.drawn_machine.proofs.Moments.{at}
use Rattle.drawn_machine.proofs.Kept.{IsState, Kept}
use Rattle.drawn_machine.proofs.Heard.{SameSight, read_same}

-- a bit of a list of signals tells the same whichever stands past the list
bit_told : (tree : Module) (inputs : Inputs) (cycle : ℕ) (bits : List Signal) (place : ℕ)
    → told (at tree inputs cycle) (signal_at bits place) ≡ told (at tree inputs cycle) (bit_at bits place)
bit_told tree inputs cycle bits place = elim (cases_lt place (length bits)) [
  | inl inside ↦ ap (λ signal. told (at tree inputs cycle) signal) (same_inside bits place inside)
  | inr past ↦
      ap (λ signal. told (at tree inputs cycle) signal) (get_or_past bits place no_signal past)
      ∙ sym (ap (λ signal. told (at tree inputs cycle) signal) (get_or_past bits place zero_bit past))
]
  where
    same_inside : (bits : List Signal) (place : ℕ) → place < length bits → signal_at bits place ≡ bit_at bits place
    same_inside [] place inside = absurd (omega (arith, inside))
    same_inside (bit ∷ bits) zero inside = refl
    same_inside (bit ∷ bits) (suc place) inside = same_inside bits place (omega (arith, inside))

-- whether an act is an `if`
abbrev Decides : Act → Type 0
Decides act = (condition : Expr) × Asks act condition

decided : (act : Act) → (Decides act × (deed_in act ≡ deed.Decides)) ⊎ (((condition : Expr) → Asks act condition → ⊥) × (deed_in act ≡ deed.Decides → ⊥))
decided (Cycle p n) = inr (λ condition asks. asks, λ same. absurd cc)
decided (Set p r e) = inr (λ condition asks. asks, λ same. absurd cc)
decided (Send p m e) = inr (λ condition asks. asks, λ same. absurd cc)
decided (Recv p m) = inr (λ condition asks. asks, λ same. absurd cc)
decided (If p e t u w) = inl ((e, refl), refl)
decided (When p e t) = inl ((e, refl), refl)
decided (Block p t) = inr (λ condition asks. asks, λ same. absurd cc)
decided (Wait p y) = inr (λ condition asks. asks, λ same. absurd cc)
decided (Pure p e) = inr (λ condition asks. asks, λ same. absurd cc)
decided (Nothing p) = inr (λ condition asks. asks, λ same. absurd cc)

no_choice : (begun : Bool) → (if begun then false else false) ≡ false
no_choice true = refl
no_choice false = refl

module _ (tree : Module) (inputs : Inputs) (moments : (cycle : ℕ) → IsMomentOf tree (at tree inputs cycle)) (frame : Frame)
    (sources received wires : List Signal) (number : ℕ) (thread : Thread) (draft : ThreadDraft)
    (is : IsThreadDraft tree frame sources received wires number thread draft)
    (drafts : List ThreadDraft) (here : slice_get drafts number ≡ Some draft)
    (kept : (kept : Keep) → IsState kept → (signal : Signal) → HasRegister frame kept signal → Kept tree inputs sources wires drafts kept signal)
    (numbered : Numbered [] 0 thread.body) (registers : (cycle register : ℕ) → ℕ) (Heard : ℕ → Type 0)
    (words : (cycle port : ℕ) → cycle < inputs.count → Heard port → shown (at tree inputs cycle) (signal_at received port) ≡ inputs.data_at port cycle)
    (shows : (cycle register : ℕ) → cycle < inputs.count → shown (at tree inputs cycle) (signal_at sources register) ≡ registers cycle register)
    (hears : (inner : List Act) (term : Term) (port : ℕ) → Stands [] thread.body inner term → Receives (head term) port → Heard port) where
  abbrev pub value : (place cycle : ℕ) → ℕ
  value place cycle = shown (at tree inputs cycle) (signal_at draft.nets.values.items place)

  abbrev pub decision : (place cycle : ℕ) → Bool
  decision place cycle = told (at tree inputs cycle) (bit_at draft.nets.decisions.items place)

  abbrev pub side : (place cycle : ℕ) → Bool
  side place cycle = told (at tree inputs cycle) (bit_at draft.nets.sides.items place)

  abbrev pub kept_side : (place cycle : ℕ) → Bool
  kept_side place cycle = told (at tree inputs cycle) (bit_at draft.states.now.sides.items place)

  abbrev pub begins : (place cycle : ℕ) → Bool
  begins place cycle = told (at tree inputs cycle) (pulse_at draft.nets.pulses.items (node_of thread.body (Begin place))).pulse

  same_sight : (cycle : ℕ) → cycle < inputs.count
      → SameSight Heard (sight_in (at tree inputs cycle) sources received draft.nets.sides.items) (sight inputs registers side cycle)
  same_sight cycle inside = record {
    wire = λ port heard. words cycle port inside heard;
    register = λ register. shows cycle register inside;
    side = λ place. bit_told tree inputs cycle draft.nets.sides.items place;
  }

  values_read : (scope : List Act) (term : Term) (used : Expr) → Stands [] thread.body scope term → Uses (head term) used
      → (cycle : ℕ) → cycle < inputs.count → value (site (head term)) cycle ≡ read_again inputs registers side cycle scope used
  values_read scope term used stands uses cycle inside =
      (is.drawn.values scope term used stands uses).shows (at tree inputs cycle) (moments cycle)
      ∙ read_same Heard (sight_in (at tree inputs cycle) sources received draft.nets.sides.items) (sight inputs registers side cycle) (same_sight cycle inside) thread.body hears scope term stands used

  conditions_read : (scope : List Act) (term : Term) (condition : Expr) → Stands [] thread.body scope term → Asks (head term) condition
      → (cycle : ℕ) → cycle < inputs.count → decision (site (head term)) cycle ≡ (value (site (head term)) cycle == 1)
  conditions_read scope term condition stands asks cycle inside =
      ap (λ signal. told (at tree inputs cycle) signal) (is.drawn.decisions scope term condition stands asks)

  side_shows : (place : ℕ) → place < size thread.body → (cycle : ℕ) → side place cycle ≡ (if begins place cycle then decision place cycle else kept_side place cycle)
  side_shows place inside cycle =
      (is.drawn.sides place inside).1 (at tree inputs cycle) (moments cycle)
      ∙ ap (λ node. if told (at tree inputs cycle) (pulse_at draft.nets.pulses.items node).pulse then decision place cycle else kept_side place cycle) (is.plan.begins place inside)

  sides_latest : (place : ℕ) → place < size thread.body → IsLatest (begins place) (decision place) (side place) (kept_side place)
  sides_latest place inside =
      let act = each_site thread.body numbered place inside in
      let deed_is = deed_stands thread.body draft.plan.now.deeds.items is.plan.deeds act.scope act.term act.stands place act.is_site in
      elim (decided (head act.term)) [
        | inl asks ↦
            let register = (is.states.sides place (deed_is ∙ asks.1)).0 in
            let k = kept (keep.Side number place) tt (bit_at draft.states.now.sides.items place) register in
            record {
              none = ap (λ n. n == 1) k.reset;
              keeps = λ cycle. ap (λ n. n == 1) (k.takes cycle) ∙ k.drawn draft here (at tree inputs cycle) (moments cycle);
              shows = side_shows place inside;
            }
        | inr none ↦
            let no_decision : bit_at draft.nets.decisions.items place ≡ zero_bit =
            subst (λ place. bit_at draft.nets.decisions.items place ≡ zero_bit) act.is_site (is.drawn.undecided act.scope act.term act.stands none.0) in
            let not_kept : bit_at draft.states.now.sides.items place ≡ zero_bit = is.states.no_side place (λ decides. none.1 (sym deed_is ∙ decides)) in
            let never : (cycle : ℕ) → kept_side place cycle ≡ false = λ cycle. ap (λ signal. told (at tree inputs cycle) signal) not_kept in
            let unshown : (cycle : ℕ) → side place cycle ≡ false = λ cycle.
            side_shows place inside cycle
            ∙ (ap (λ signal. if begins place cycle then told (at tree inputs cycle) signal else kept_side place cycle) no_decision
            ∙ (ap (λ bit. if begins place cycle then false else bit) (never cycle) ∙ no_choice (begins place cycle))) in
            record {
              none = never 0;
              keeps = λ cycle. never (cycle + 1) ∙ sym (unshown cycle);
              shows = side_shows place inside;
            }
      ]

  pub reads : ReadsAgain inputs registers thread.body begins value decision side kept_side
  reads = record {
    values = values_read;
    conditions = conditions_read;
    sides = sides_latest;
    no_side = λ place cycle past.
        let count = is.drawn.side_count in
        ap (λ signal. told (at tree inputs cycle) signal) (get_or_past draft.nets.sides.items place zero_bit (omega (arith, count, past)));
  }

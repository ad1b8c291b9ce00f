-- What is read off all nodes of a graph holds past its last node too.
use Rattle.std.proofs.Common.{◌≡◌, ℕ, ◌<◌, ◌≤◌, ◌⊎◌, inl, inr, arith, sym, ◌∙◌, ap, List, [], ◌∷◌, length, zero, suc, ◌+◌, ◌-◌, slice_get, slice_index_or, refl, Some}
use Rattle.std.proofs.lemmas.List.{get_or_past}
use Rattle.std.proofs.lemmas.Option.{slice_get_past}
use Rattle.event_graph.specs.declared.node.Arm.{Arm}
use Rattle.event_graph.specs.Event as seen
use Rattle.event_graph.specs.Forms.{form_at, form_in}
use Rattle.act_deeds.specs.declared.deed.Deed.{Deed}
use Rattle.act_deeds.specs.Deeds.{deed_at}
use Rattle.pulse_nets.specs.declared.node.Shape.{Shape}
use Rattle.pulse_nets.specs.declared.node.Shape.TheVariants as shape
use Rattle.pulse_nets.specs.Pulses.{form_of}
use Rattle.machine_parts.specs.declared.plan.Event.{Event}
use Rattle.machine_parts.specs.declared.plan.Event.TheVariants as event
use Rattle.turn_plans.specs.Read.{AreShapes, AreSides, shape_at, event_at, decision_of, side_in}

less : (p q : ℕ) → (p < q) ⊎ (q ≤ p)
less p q = grind arith

pub shapes_read : (graph : List seen.Event) (shapes : List Shape) (k : ℕ) → length shapes ≡ k → k ≡ length graph
    → ((n : ℕ) → n < k → form_of (shape_at shapes n) ≡ form_at graph n) → AreShapes graph shapes
shapes_read graph shapes k count all told = record { count = count ∙ all; forms = λ n. go n (less n k) }
  where
    go : (n : ℕ) → (n < k) ⊎ (k ≤ n) → form_of (shape_at shapes n) ≡ form_at graph n
    go n (inl i) = told n i
    go n (inr i) = ap form_of (get_or_past shapes n shape.Start (omega arith)) ∙ ap form_in (sym (slice_get_past graph n (omega arith)))

pub sides_read : (graph : List seen.Event) (events : List Event) (k : ℕ) → length events ≡ k → k ≡ length graph
    → ((n : ℕ) → n < k → event_at events n ≡ side_in (slice_get graph n)) → AreSides graph events
sides_read graph events k count all told = record { count = count ∙ all; sides = λ n. go n (less n k) }
  where
    go : (n : ℕ) → (n < k) ⊎ (k ≤ n) → event_at events n ≡ side_in (slice_get graph n)
    go n (inl i) = told n i
    go n (inr i) = get_or_past events n event.Nothing (omega arith) ∙ ap side_in (sym (slice_get_past graph n (omega arith)))

last_decides : (arms : List Arm) (k : ℕ) (arm : Arm) → k + 1 ≡ length arms → slice_get arms k ≡ Some arm → event.Side arm.site arm.yes ≡ decision_of arms
last_decides [] k arm count at = absurd (omega arith)
last_decides (first ∷ []) zero arm count at = let it : first ≡ arm = cc in ap (λ (x : Arm). event.Side x.site x.yes) (sym it)
last_decides (first ∷ []) (suc k) arm count at = absurd (omega arith)
last_decides (first ∷ next ∷ rest) zero arm count at = absurd (omega arith)
last_decides (first ∷ next ∷ rest) (suc k) arm count at = last_decides (next ∷ rest) k arm (omega arith) at

-- the last arm tells the decision
pub decision_last : (arms : List Arm) (arm : Arm) → Some arm ≡ slice_get arms (length arms - 1) → event.Side arm.site arm.yes ≡ decision_of arms
decision_last [] arm at = absurd cc
decision_last (first ∷ rest) arm at = last_decides (first ∷ rest) (length (first ∷ rest) - 1) arm (omega arith) (sym at)

pub deed_read : (deeds : List Deed) (k : ℕ) (past : Deed) → k < length deeds → slice_index_or deeds k past ≡ deed_at deeds k
deed_read [] k past inside = absurd (omega arith)
deed_read (deed ∷ deeds) zero past inside = refl
deed_read (deed ∷ deeds) (suc k) past inside = deed_read deeds k past (omega arith)

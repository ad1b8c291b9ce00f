-- What a graph says of its nodes: the form of each, which of them exclude each other, their order, and their delays together.
--
-- A number past the last node is as a start without arms, which no judgement ties to another node.
use Rattle.std.specs.Prelude.{ℕ, ℤ, ◌+◌, ◌==◌, ◌&&◌, ◌||◌, Bool, true, false, List, [], ◌∷◌, Option, Some, None, slice_get}
use Rattle.order_rules.specs.Form as form
use Rattle.order_rules.specs.Form.{Form}
use Rattle.order_rules.specs.Before.{Before}
use Rattle.order_rules.specs.Laws.{HasForm, Apart}
use Rattle.event_graph.specs.declared.node.Arm.{Arm}
use Rattle.event_graph.specs.declared.node.Kind.{Kind}
use Rattle.event_graph.specs.declared.node.Kind.TheVariants.{Start, Same, After, Sync, Join, Side, Merge}
use Rattle.event_graph.specs.Event.{Event}

abbrev pub first_pred : List ℕ → ℕ
first_pred [] = 0
first_pred (c ∷ rest) = c

abbrev pub second_pred : List ℕ → ℕ
second_pred [] = 0
second_pred (c ∷ rest) = first_pred rest

abbrev pub form_of : Kind → List ℕ → Form ℕ
form_of Start preds = form.Start
form_of Same preds = form.Same (first_pred preds)
form_of (After cycles) preds = form.After cycles (first_pred preds)
form_of Sync preds = form.Sync (first_pred preds)
form_of Join preds = form.Join (first_pred preds) (second_pred preds)
form_of Side preds = form.Side (first_pred preds)
form_of Merge preds = form.Merge (first_pred preds) (second_pred preds)

abbrev pub form_in : Option Event → Form ℕ
form_in None = form.Start
form_in (Some event) = form_of event.kind event.preds

abbrev pub arms_in : Option Event → List Arm
arms_in None = []
arms_in (Some event) = event.arms

-- the form and the arms of the node of a number
abbrev pub form_at : List Event → ℕ → Form ℕ
form_at events n = form_in (slice_get events n)

abbrev pub arms_at : List Event → ℕ → List Arm
arms_at events n = arms_in (slice_get events n)

abbrev pub differ : Bool → Bool → Bool
differ true true = false
differ true false = true
differ false true = true
differ false false = false

-- two arms are of different sides of one `if`, in one turn
abbrev pub oppose : Arm → Arm → Bool
oppose arm other = (arm.turn == other.turn) && ((arm.site == other.site) && differ arm.yes other.yes)

abbrev pub one_opposes : Arm → List Arm → Bool
one_opposes arm [] = false
one_opposes arm (other ∷ rest) = oppose arm other || one_opposes arm rest

abbrev pub some_oppose : List Arm → List Arm → Bool
some_oppose [] others = false
some_oppose (arm ∷ rest) others = one_opposes arm others || some_oppose rest others

-- two nodes exclude each other: an arm of the one and an arm of the other are of different sides of one `if`
abbrev pub apart_at : List Event → ℕ → ℕ → Bool
apart_at events a b = some_oppose (arms_at events a) (arms_at events b)

-- a + d <= b, read on the nodes of a graph
abbrev pub Precedes : List Event → ℕ → ℤ → ℕ → Type 0
Precedes events = Before ℕ (HasForm (form_at events)) (Apart (apart_at events))

abbrev pub delay_of : Kind → ℕ
delay_of (After cycles) = cycles
delay_of Start = 0
delay_of Same = 0
delay_of Sync = 0
delay_of Join = 0
delay_of Side = 0
delay_of Merge = 0

-- the delays of all nodes together
abbrev pub delays : List Event → ℕ
delays [] = 0
delays (event ∷ rest) = delay_of event.kind + delays rest

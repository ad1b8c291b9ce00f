-- The lag of two events follows from those of their predecessors, as the equations of a closed table say.
--
-- What the rules of a kind read at its predecessors is what its form names. There is a closed table for every graph, and its lags
-- lie within the delays, so no distance that is worked out is too large.
use Rattle.std.proofs.Common.{◌≡◌, ℕ, ◌<◌, ◌==◌, arith, refl, sym, ◌∙◌, ap, List, [], ◌∷◌, Option, Some, None, slice_get}
use Rattle.std.proofs.lemmas.Int.{ints}
use Rattle.order_rules.specs.Lag as lag
use Rattle.order_rules.specs.Entry.{right, left}
use Rattle.order_rules.proofs.Table as table
use Rattle.event_graph.specs.declared.node.Kind.{Kind}
use Rattle.event_graph.specs.declared.node.Kind.TheVariants.{Start, Same, After, Sync, Join, Side, Merge}
use Rattle.event_graph.specs.Event.{Event, ArePreds, AreDrawn}
use Rattle.event_graph.specs.Forms.{form_of, form_in, form_at, apart_at, some_oppose, delays}
use Rattle.event_graph.proofs.Early.{all_early}
use Rattle.event_graph.proofs.Preds.{drawn_at}
use Rattle.event_order.specs.Lags.{Lags, IsSmall, right_of, left_of, entry_of, at_pred}
use Rattle.event_order.specs.Stored.{IsClosed}
use Rattle.event_order.proofs.Small.{Within, closed_small}

right_is : (lags : Lags) (a : ℕ) (kind : Kind) (n : ℕ) (preds : List ℕ) → ArePreds kind n preds
    → right_of kind (at_pred (lags a) (slice_get preds 0)) (at_pred (lags a) (slice_get preds 1)) ≡ right lags a (form_of kind preds)
right_is lags a Start n preds are = refl
right_is lags a Same n (c ∷ []) are = refl
right_is lags a Side n (c ∷ []) are = refl
right_is lags a Sync n (c ∷ []) are = refl
right_is lags a (After cycles) n (c ∷ []) are = refl
right_is lags a Join n (c ∷ e ∷ []) are = refl
right_is lags a Merge n (c ∷ e ∷ []) are = refl
right_is lags a Same n [] are = elim are [ ]
right_is lags a Side n [] are = elim are [ ]
right_is lags a Sync n [] are = elim are [ ]
right_is lags a (After cycles) n [] are = elim are [ ]
right_is lags a Join n [] are = elim are [ ]
right_is lags a Merge n [] are = elim are [ ]
right_is lags a Same n (c ∷ e ∷ rest) are = elim are [ ]
right_is lags a Side n (c ∷ e ∷ rest) are = elim are [ ]
right_is lags a Sync n (c ∷ e ∷ rest) are = elim are [ ]
right_is lags a (After cycles) n (c ∷ e ∷ rest) are = elim are [ ]
right_is lags a Join n (c ∷ []) are = elim are [ ]
right_is lags a Merge n (c ∷ []) are = elim are [ ]
right_is lags a Join n (c ∷ e ∷ g ∷ rest) are = elim are [ ]
right_is lags a Merge n (c ∷ e ∷ g ∷ rest) are = elim are [ ]

left_is : (lags : Lags) (b : ℕ) (kind : Kind) (n : ℕ) (preds : List ℕ) → ArePreds kind n preds
    → left_of kind (at_pred (λ c. lags c b) (slice_get preds 0)) (at_pred (λ c. lags c b) (slice_get preds 1)) ≡ left lags b (form_of kind preds)
left_is lags b Start n preds are = refl
left_is lags b Same n (c ∷ []) are = refl
left_is lags b Side n (c ∷ []) are = refl
left_is lags b Sync n (c ∷ []) are = refl
left_is lags b (After cycles) n (c ∷ []) are = refl
left_is lags b Join n (c ∷ e ∷ []) are = refl
left_is lags b Merge n (c ∷ e ∷ []) are = refl
left_is lags b Same n [] are = elim are [ ]
left_is lags b Side n [] are = elim are [ ]
left_is lags b Sync n [] are = elim are [ ]
left_is lags b (After cycles) n [] are = elim are [ ]
left_is lags b Join n [] are = elim are [ ]
left_is lags b Merge n [] are = elim are [ ]
left_is lags b Same n (c ∷ e ∷ rest) are = elim are [ ]
left_is lags b Side n (c ∷ e ∷ rest) are = elim are [ ]
left_is lags b Sync n (c ∷ e ∷ rest) are = elim are [ ]
left_is lags b (After cycles) n (c ∷ e ∷ rest) are = elim are [ ]
left_is lags b Join n (c ∷ []) are = elim are [ ]
left_is lags b Merge n (c ∷ []) are = elim are [ ]
left_is lags b Join n (c ∷ e ∷ g ∷ rest) are = elim are [ ]
left_is lags b Merge n (c ∷ e ∷ g ∷ rest) are = elim are [ ]

-- the lag of two events in a closed table
pub entry_is : (events : List Event) (lags : Lags) → IsClosed events lags → AreDrawn 0 events
    → (a b : ℕ) (from to : Event) → slice_get events a ≡ Some from → slice_get events b ≡ Some to
    → entry_of (some_oppose from.arms to.arms) (a == b)
    (right_of to.kind (at_pred (lags a) (slice_get to.preds 0)) (at_pred (lags a) (slice_get to.preds 1)))
    (left_of from.kind (at_pred (λ c. lags c b) (slice_get from.preds 0)) (at_pred (λ c. lags c b) (slice_get from.preds 1)))
    ≡ lags a b
entry_is events lags closed drawn a b from to from_at to_at =
    let to_form : form_at events b ≡ form_of to.kind to.preds = ap form_in to_at in
    let from_form : form_at events a ≡ form_of from.kind from.preds = ap form_in from_at in
    let apart : apart_at events a b ≡ some_oppose from.arms to.arms = rw (from_at, to_at) refl in
    let rights = right_is lags a to.kind b to.preds (drawn_at events b to drawn to_at) ∙ ap (right lags a) (sym to_form) in
    let lefts = left_is lags b from.kind a from.preds (drawn_at events a from drawn from_at) ∙ ap (left lags b) (sym from_form) in
    rw (rights, lefts, sym apart) (sym (closed a b))

-- what is read at a predecessor depends on the lags there alone
pub at_pred_same : (lags others : ℕ → lag.Lag) (pred : Option ℕ) → ((c : ℕ) → pred ≡ Some c → lags c ≡ others c) → at_pred lags pred ≡ at_pred others pred
at_pred_same lags others None same = refl
at_pred_same lags others (Some c) same = same c refl

-- the closed table of a graph
pub closed_lags : (events : List Event) → AreDrawn 0 events → Lags
closed_lags events drawn = table.lag (form_at events) (apart_at events) (all_early events drawn)

pub closed_is : (events : List Event) (drawn : AreDrawn 0 events) → IsClosed events (closed_lags events drawn)
unfolding closed_lags
closed_is events drawn = table.closed (form_at events) (apart_at events) (all_early events drawn)

small : (n : ℕ) (x : lag.Lag) → n < 1073741824 → Within n n x → IsSmall x
small n lag.Never few within = tt
small n (lag.AtLeast d) few within = let low = within.0 in let high = within.1 in (omega (arith, ints), omega (arith, ints))
small n lag.Vacuous few within = tt

-- its lags are small
pub closed_is_small : (events : List Event) (drawn : AreDrawn 0 events) → delays events < 1073741824 → (a b : ℕ) → IsSmall (closed_lags events drawn a b)
closed_is_small events drawn short a b =
    small (delays events) (closed_lags events drawn a b) short (closed_small events (all_early events drawn) (closed_lags events drawn) (closed_is events drawn) a b)

-- what is read at a predecessor is small
pub at_pred_small : (lags : ℕ → lag.Lag) (pred : Option ℕ) → ((c : ℕ) → pred ≡ Some c → IsSmall (lags c)) → IsSmall (at_pred lags pred)
at_pred_small lags None small = tt
at_pred_small lags (Some c) small = small c refl

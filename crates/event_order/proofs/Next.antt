-- The lag of the next pair: all that it reads stands in the table, and is that of every closed table.
--
-- A pair whose one event is a predecessor of an event of this pair has a smaller place.
use Rattle.std.proofs.Common.{◌≡◌, ℕ, ◌<◌, ◌≤◌, arith, sym, ◌∙◌, subst, List, length, Some, slice_get}
use Rattle.order_rules.specs.Lag as lag
use Rattle.event_graph.specs.Event.{Event, AreDrawn}
use Rattle.event_graph.specs.Forms.{delays}
use Rattle.event_graph.proofs.Preds.{below}
use Rattle.event_order.specs.declared.entry.Entry.{Entry}
use Rattle.event_order.specs.Lags.{Lags, IsSmall, at_pred}
use Rattle.event_order.specs.Stored.{place_of, stored, IsClosed, IsFilled}
use Rattle.event_order.proofs.Places.{rises_first, rises_second}
use Rattle.event_order.proofs.Pairs.{closed_lags, closed_is, closed_is_small, at_pred_same, at_pred_small}

module _ (events : List Event) (drawn : AreDrawn 0 events) (few : length events ≤ 8192) (table : List Entry) (filled : IsFilled events table) (a b : ℕ) (a_within : a < length events) (b_within : b < length events) (next : length table ≡ place_of a b) where
  -- the predecessors of the second event
  pub to_few : (to : Event) → slice_get events b ≡ Some to → (k c : ℕ) → slice_get to.preds k ≡ Some c → c < 8192
  to_few to at k c pred = let earlier = below events b to drawn at k c pred in omega arith

  pub to_within : (to : Event) → slice_get events b ≡ Some to → (k c : ℕ) → slice_get to.preds k ≡ Some c → place_of a c < length table
  to_within to at k c pred = let rises = rises_second a b c (below events b to drawn at k c pred) in omega arith

  -- those of the first
  pub from_few : (from : Event) → slice_get events a ≡ Some from → (k c : ℕ) → slice_get from.preds k ≡ Some c → c < 8192
  from_few from at k c pred = let earlier = below events a from drawn at k c pred in omega arith

  pub from_within : (from : Event) → slice_get events a ≡ Some from → (k c : ℕ) → slice_get from.preds k ≡ Some c → place_of c b < length table
  from_within from at k c pred = let rises = rises_first a b c (below events a from drawn at k c pred) in omega arith

  -- what is read is that of a closed table
  pub to_read : (lags : Lags) → IsClosed events lags → (to : Event) → slice_get events b ≡ Some to → (k : ℕ) → at_pred (λ c. stored table (place_of a c)) (slice_get to.preds k) ≡ at_pred (lags a) (slice_get to.preds k)
  to_read lags closed to at k = at_pred_same (λ c. stored table (place_of a c)) (lags a) (slice_get to.preds k) (λ c pred. filled lags closed a c (to_within to at k c pred))

  pub from_read : (lags : Lags) → IsClosed events lags → (from : Event) → slice_get events a ≡ Some from → (k : ℕ) → at_pred (λ c. stored table (place_of c b)) (slice_get from.preds k) ≡ at_pred (λ c. lags c b) (slice_get from.preds k)
  from_read lags closed from at k = at_pred_same (λ c. stored table (place_of c b)) (λ c. lags c b) (slice_get from.preds k) (λ c pred. filled lags closed c b (from_within from at k c pred))

  -- and small
  pub to_small : delays events < 1073741824 → (to : Event) → slice_get events b ≡ Some to → (k : ℕ) (x : lag.Lag) → x ≡ at_pred (λ c. stored table (place_of a c)) (slice_get to.preds k) → IsSmall x
  to_small short to at k x is =
      let lags = closed_lags events drawn in
      subst IsSmall (sym (is ∙ to_read lags (closed_is events drawn) to at k)) (at_pred_small (lags a) (slice_get to.preds k) (λ c pred. closed_is_small events drawn short a c))

  pub from_small : delays events < 1073741824 → (from : Event) → slice_get events a ≡ Some from → (k : ℕ) (x : lag.Lag) → x ≡ at_pred (λ c. stored table (place_of c b)) (slice_get from.preds k) → IsSmall x
  from_small short from at k x is =
      let lags = closed_lags events drawn in
      subst IsSmall (sym (is ∙ from_read lags (closed_is events drawn) from at k)) (at_pred_small (λ c. lags c b) (slice_get from.preds k) (λ c pred. closed_is_small events drawn short c b))

-- The lag of the next event, from a row that is filled up to it.
--
-- Its predecessors are earlier events, so what is read there is that of each closed table, and the lag that follows from it is a number
-- of 32 bits.
use Rattle.std.proofs.Common.{◌≡◌, ℕ, ◌<◌, ◌∙◌, arith, refl, sym, ap, subst, if◌then◌else◌, List, length, Some, slice_get}
use Rattle.order_rules.specs.Lag as rules
use Rattle.order_rules.specs.Last.{Ending}
use Rattle.order_rules.specs.Entry.{most, right}
use Rattle.order_rules.proofs.LastTable as table
use Rattle.order_rules.proofs.LastExact.{complete_last, sound_last}
use Rattle.event_graph.specs.Event.{Event, AreDrawn}
use Rattle.event_graph.specs.Forms.{form_of, form_in, form_at, apart_at, some_oppose, delays}
use Rattle.event_graph.proofs.Early.{all_early}
use Rattle.event_graph.proofs.Preds.{below, drawn_at}
use Rattle.event_order.specs.declared.lag.Lag.{Lag}
use Rattle.event_order.specs.Lags.{Lags, lag_of, right_of, at_pred}
use Rattle.event_order.specs.Stored.{IsClosed}
use Rattle.event_order.proofs.Pairs.{closed_lags, closed_is, at_pred_same}
use Rattle.lifetimes.specs.Ends.{IsEndLagOf}
use Rattle.lifetimes.specs.Tables.{kept_at, IsLastClosed, IsLastAt, IsFilledTo, AreEndsFrom, AreShort, FitsLag}
use Rattle.lifetimes.proofs.Bounds.{onward_fits}
use Rattle.lifetimes.proofs.Rows.{right_is, last_is}

-- the closed table of a life
pub lasts_of : (events : List Event) → AreDrawn 0 events → ℕ → List (Ending ℕ) → ℕ → rules.Lag
lasts_of events drawn from ends = table.last_lag (form_at events) (apart_at events) (all_early events drawn) (closed_lags events drawn) ends from

pub lasts_closed : (events : List Event) (drawn : AreDrawn 0 events) (from : ℕ) (ends : List (Ending ℕ)) → IsLastClosed events (closed_lags events drawn) from ends (lasts_of events drawn from ends)
unfolding lasts_of
lasts_closed events drawn from ends = table.last_closed (form_at events) (apart_at events) (all_early events drawn) (closed_lags events drawn) ends from

module _ (events : List Event) (drawn : AreDrawn 0 events) (from : ℕ) (ends : List (Ending ℕ)) (b : ℕ) (row : List Lag) (whole : length row ≡ length events) (next : b < length events)
    (filled : IsFilledTo b events from ends row) (to : Event) (to_at : slice_get events b ≡ Some to) where
  pub within : (k c : ℕ) → slice_get to.preds k ≡ Some c → c < length row
  within k c pred = let earlier = below events b to drawn to_at k c pred in omega arith

  read : (lags : Lags) → IsClosed events lags → (last : ℕ → rules.Lag) → IsLastClosed events lags from ends last → (k : ℕ) → at_pred (kept_at row) (slice_get to.preds k) ≡ at_pred last (slice_get to.preds k)
  read lags closed last last_closed k = at_pred_same (kept_at row) last (slice_get to.preds k) (λ c pred. filled c (below events b to drawn to_at k c pred) lags closed last last_closed)

  module _ (first second : rules.Lag) (first_is : first ≡ at_pred (kept_at row) (slice_get to.preds 0)) (second_is : second ≡ at_pred (kept_at row) (slice_get to.preds 1)) where
    onward_is : (lags : Lags) → IsClosed events lags → (last : ℕ → rules.Lag) → IsLastClosed events lags from ends last
        → right_of to.kind first second ≡ right_of to.kind (at_pred last (slice_get to.preds 0)) (at_pred last (slice_get to.preds 1))
    onward_is lags closed last last_closed = rw (first_is, second_is, read lags closed last last_closed 0, read lags closed last last_closed 1) refl

    -- what the rules say that go on from the predecessors is a number of 32 bits
    pub fits : delays events < 1073741824 → AreShort ends → FitsLag (right_of to.kind first second)
    fits short short_ends =
        let lags = closed_lags events drawn in
        let last = lasts_of events drawn from ends in
        let closed = lasts_closed events drawn from ends in
        let to_form : form_at events b ≡ form_of to.kind to.preds = ap form_in to_at in
        let is = onward_is lags (closed_is events drawn) last closed ∙ (right_is (λ c d. last d) from to.kind b to.preds (drawn_at events b to drawn to_at) ∙ ap (right (λ c d. last d) from) (sym to_form)) in
        subst FitsLag (sym is) (onward_fits events drawn short lags (closed_is events drawn) from ends short_ends last closed b)

    -- the lag of the next event
    pub next_is : (start : Event) → slice_get events from ≡ Some start → AreEndsFrom b events from ends row
        → IsLastAt events from ends b (if some_oppose start.arms to.arms then rules.Vacuous else most (kept_at row b) (right_of to.kind first second))
    next_is start start_at are lags closed last last_closed =
        let here = are lags closed b (omega arith) (omega arith) in
        rw (here, onward_is lags closed last last_closed) (last_is events lags from ends last last_closed drawn b start to start_at to_at)

-- a lag that is that of the closed table tells the order of the last cycle
pub tells : (events : List Event) (drawn : AreDrawn 0 events) (from : ℕ) (ends : List (Ending ℕ)) (lag : Lag) (b : ℕ) → lag_of lag ≡ lasts_of events drawn from ends b → IsEndLagOf events from ends lag b
tells events drawn from ends lag b same distance =
    let lags = closed_lags events drawn in
    let last = lasts_of events drawn from ends in
    let early = all_early events drawn in
    let closed = lasts_closed events drawn from ends in
    let P : rules.Lag → Type 0 = λ x. rules.Admits x distance in (
      (λ derived. subst P (sym same) (complete_last (form_at events) (apart_at events) lags (closed_is events drawn) early ends from last closed derived)),
      (λ admitted. sound_last (form_at events) (apart_at events) lags (closed_is events drawn) early ends from last closed b distance (subst P same admitted)),
    )

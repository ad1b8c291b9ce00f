-- Rows of lags while they are filled: what a row keeps after a write, what it keeps after one end more, and the lag of the next event.
use Rattle.std.proofs.Common.{◌≡◌, ◌≢◌, ℕ, zero, suc, ◌+◌, ◌<◌, ◌≤◌, ◌⊎◌, inl, inr, ◌==◌, arith, refl, sym, ◌∙◌, ap, subst, Bool, true, false, if◌then◌else◌, List, [], ◌∷◌, ◌++◌, set, get_or, take, length, slice_get, Some, pos}
use Rattle.std.proofs.lemmas.Bool.Decides.{nat_tests}
use Rattle.std.proofs.lemmas.Int.{ints}
use Rattle.std.proofs.lemmas.Option.{slice_get-get_or}
use Rattle.order_rules.specs.Lag as rules
use Rattle.order_rules.specs.Last.{Ending, Within, At}
use Rattle.order_rules.specs.Entry.{most, right}
use Rattle.order_rules.specs.LastEntry.{from_zero, end_entry, ends_entry}
use Rattle.event_graph.specs.declared.node.Kind.{Kind}
use Rattle.event_graph.specs.declared.node.Kind.TheVariants.{Start, Same, After, Sync, Join, Side, Merge}
use Rattle.event_graph.specs.Event.{Event, ArePreds, AreDrawn}
use Rattle.event_graph.specs.Forms.{form_of, form_in, form_at, apart_at, some_oppose, delays}
use Rattle.event_graph.proofs.Preds.{drawn_at}
use Rattle.event_order.specs.declared.lag.Lag.{Lag}
use Rattle.event_order.specs.Lags.{Lags, IsSmall, lag_of, right_of, at_pred}
use Rattle.event_order.specs.Stored.{IsClosed}
use Rattle.event_order.proofs.Pairs.{closed_lags, closed_is, closed_is_small}
use Rattle.lifetimes.specs.declared.life.End.{End}
use Rattle.lifetimes.specs.Ends.{ending_of, endings_of}
use Rattle.lifetimes.specs.Tables.{kept_in, kept_at, IsLastClosed, IsLastAt, IsFilledTo, AreEndsFrom, AreShort, by_event}

-- what is read in a row
pub kept_read : (row : List Lag) (b : ℕ) (default : Lag) → b < length row → kept_at row b ≡ lag_of (get_or row b default)
kept_read row b default within = ap kept_in (slice_get-get_or row b default within)

-- a lag of the order is small
pub order_small : (events : List Event) (drawn : AreDrawn 0 events) → delays events < 1073741824 → (a b : ℕ) (x : rules.Lag)
    → ((lags : Lags) → IsClosed events lags → x ≡ lags a b) → IsSmall x
order_small events drawn short a b x is = subst IsSmall (sym (is (closed_lags events drawn) (closed_is events drawn))) (closed_is_small events drawn short a b)

-- after a write
pub kept_here : (row : List Lag) (b : ℕ) (lag : Lag) → b < length row → kept_at (set row b lag) b ≡ lag_of lag
kept_here [] b lag within = absurd (omega arith)
kept_here (first ∷ row) zero lag within = refl
kept_here (first ∷ row) (suc b) lag within = kept_here row b lag (omega arith)

pub kept_there : (row : List Lag) (b c : ℕ) (lag : Lag) → c ≢ b → kept_at (set row b lag) c ≡ kept_at row c
kept_there [] b c lag other = refl
kept_there (first ∷ row) zero zero lag other = absurd (other refl)
kept_there (first ∷ row) zero (suc c) lag other = refl
kept_there (first ∷ row) (suc b) zero lag other = refl
kept_there (first ∷ row) (suc b) (suc c) lag other = kept_there row b c lag (λ same. other (ap (λ (n : ℕ). suc n) same))

-- what holds by several
most_none : (x : rules.Lag) → most x rules.Never ≡ x
most_none rules.Never = refl
most_none (rules.AtLeast d) = refl
most_none rules.Vacuous = refl

most_together : (x y z : rules.Lag) → most (most x y) z ≡ most x (most y z)
most_together rules.Never y z = refl
most_together rules.Vacuous y z = refl
most_together (rules.AtLeast d) rules.Never z = refl
most_together (rules.AtLeast d) rules.Vacuous z = refl
most_together (rules.AtLeast d) (rules.AtLeast e) rules.Never = refl
most_together (rules.AtLeast d) (rules.AtLeast e) rules.Vacuous = refl
most_together (rules.AtLeast d) (rules.AtLeast e) (rules.AtLeast f) = ap rules.AtLeast (grind (arith, ints))

-- one end more
ends_more : (x : rules.Lag) (b : ℕ) (ends : List (Ending ℕ)) (ending : Ending ℕ)
    → ends_entry x b (ends ++ ending ∷ []) ≡ most (ends_entry x b ends) (end_entry x b ending)
ends_more x b [] ending = most_none (end_entry x b ending)
ends_more x b (first ∷ ends) ending =
    ap (most (end_entry x b first)) (ends_more x b ends ending) ∙ sym (most_together (end_entry x b first) (ends_entry x b ends) (end_entry x b ending))

-- what the end says is added for the events before one
pub record IsAdded (events : List Event) (from : ℕ) (ending : Ending ℕ) (to : ℕ) (old new : List Lag) : Type 0 where
  pub same_length : length new ≡ length old
  pub added : (lags : Lags) → IsClosed events lags → (b : ℕ) → b < to → kept_at new b ≡ most (kept_at old b) (end_entry (lags from b) b ending)
  pub rest : (b : ℕ) → to ≤ b → kept_at new b ≡ kept_at old b

pub added_none : (events : List Event) (from : ℕ) (ending : Ending ℕ) (row : List Lag) → IsAdded events from ending 0 row row
added_none events from ending row = record { same_length = refl; added = λ lags closed b before. absurd (omega arith); rest = λ b after. refl }

pub ends_added : (events : List Event) (from : ℕ) (ending : Ending ℕ) (old new : List Lag) → IsAdded events from ending (length old) old new
    → (ends : List (Ending ℕ)) → AreEndsFrom 0 events from ends old → AreEndsFrom 0 events from (ends ++ ending ∷ []) new
ends_added events from ending old new is ends are lags closed b least within =
    let same = is.same_length in
    let there : b < length old = omega arith in
    is.added lags closed b there
    ∙ (ap (λ (x : rules.Lag). most x (end_entry (lags from b) b ending)) (are lags closed b least there)
    ∙ sym (ends_more (lags from b) b ends ending))

two_ways : (k n : ℕ) → k < n + 1 → (k < n) ⊎ (k ≡ n)
two_ways k n within = grind arith

-- and then for that event too
pub added_next : (events : List Event) (from : ℕ) (ending : Ending ℕ) (to : ℕ) (old row new : List Lag) (lag : Lag)
    → IsAdded events from ending to old row → to < length row → new ≡ set row to lag → length new ≡ length row
    → ((lags : Lags) → IsClosed events lags → lag_of lag ≡ most (kept_at row to) (end_entry (lags from to) to ending))
    → IsAdded events from ending (to + 1) old new
added_next events from ending to old row new lag is within written same says =
    record {
      same_length = same ∙ is.same_length;
      added = λ lags closed b before. ap (λ (x : List Lag). kept_at x b) written ∙ go lags closed b (two_ways b to before);
      rest = λ b after. ap (λ (x : List Lag). kept_at x b) written ∙ (kept_there row to b lag (λ at. let is_at : b ≡ to = at in omega arith) ∙ is.rest b (omega arith));
    }
  where
    go : (lags : Lags) → IsClosed events lags → (b : ℕ) → (b < to) ⊎ (b ≡ to) → kept_at (set row to lag) b ≡ most (kept_at old b) (end_entry (lags from b) b ending)
    go lags closed b (inl before) = kept_there row to b lag (λ at. let is_at : b ≡ to = at in omega arith) ∙ is.added lags closed b before
    go lags closed b (inr at) =
        let P : ℕ → Type 0 = λ c. kept_at (set row to lag) c ≡ most (kept_at old c) (end_entry (lags from c) c ending) in
        subst P (sym at)
        (kept_here row to lag within ∙ (says lags closed ∙ ap (λ (x : rules.Lag). most x (end_entry (lags from to) to ending)) (is.rest to (omega arith))))

-- an end at an event says nothing of others
other_event : (x : rules.Lag) (event b : ℕ) → (event ≡ b → ⊥) → end_entry x b (At event) ≡ rules.Never
other_event x event b other = go (event == b) refl
  where
    go : (same : Bool) → (event == b) ≡ same → (if same then (if from_zero x then rules.AtLeast (pos 0) else rules.Never) else rules.Never) ≡ rules.Never
    go true is = absurd (other (grind (arith, nat_tests)))
    go false is = refl

this_event : (x : rules.Lag) (event : ℕ) → end_entry x event (At event) ≡ by_event x
this_event x event = let is : (event == event) ≡ true = grind (arith, nat_tests) in rw is refl

same_or_not : (b c : ℕ) → (b ≡ c) ⊎ (b ≡ c → ⊥)
same_or_not b c = go (b == c) refl
  where
    go : (same : Bool) → (b == c) ≡ same → (b ≡ c) ⊎ (b ≡ c → ⊥)
    go true is = inl (grind (arith, nat_tests))
    go false is = inr (λ at. let no_one : (b == c) ≡ true = grind (arith, nat_tests) in absurd cc)

pub event_added : (events : List Event) (from event : ℕ) (old new : List Lag) (lag : Lag) → event < length old → new ≡ set old event lag → length new ≡ length old
    → ((lags : Lags) → IsClosed events lags → lag_of lag ≡ most (kept_at old event) (by_event (lags from event)))
    → IsAdded events from (At event) (length old) old new
event_added events from event old new lag within written same says =
    record {
      same_length = same;
      added = λ lags closed b before. ap (λ (x : List Lag). kept_at x b) written ∙ go lags closed b (same_or_not event b);
      rest = λ b after. ap (λ (x : List Lag). kept_at x b) written ∙ kept_there old event b lag (λ at. let is_at : b ≡ event = at in omega arith);
    }
  where
    go : (lags : Lags) → IsClosed events lags → (b : ℕ) → (event ≡ b) ⊎ (event ≡ b → ⊥) → kept_at (set old event lag) b ≡ most (kept_at old b) (end_entry (lags from b) b (At event))
    go lags closed b (inl at) =
        let P : ℕ → Type 0 = λ c. kept_at (set old event lag) c ≡ most (kept_at old c) (end_entry (lags from c) c (At event)) in
        subst P at (kept_here old event lag within ∙ (says lags closed ∙ ap (most (kept_at old event)) (sym (this_event (lags from event) event))))
    go lags closed b (inr other) =
        kept_there old event b lag (λ at. other (sym at))
        ∙ (sym (most_none (kept_at old b)) ∙ ap (most (kept_at old b)) (sym (other_event (lags from b) event b other)))

pub no_event : (events : List Event) (from event : ℕ) (row : List Lag) → length row ≤ event → IsAdded events from (At event) (length row) row row
no_event events from event row past =
    record {
      same_length = refl;
      added = λ lags closed b before.
          sym (most_none (kept_at row b)) ∙ ap (most (kept_at row b)) (sym (other_event (lags from b) event b (λ at. let is_at : event ≡ b = at in omega arith)));
      rest = λ b after. refl;
    }

-- what the rules of a kind read at its predecessors is what its form names
pub right_is : (lags : Lags) (from : ℕ) (kind : Kind) (n : ℕ) (preds : List ℕ) → ArePreds kind n preds
    → right_of kind (at_pred (lags from) (slice_get preds 0)) (at_pred (lags from) (slice_get preds 1)) ≡ right lags from (form_of kind preds)
right_is lags from Start n preds are = refl
right_is lags from Same n (c ∷ []) are = refl
right_is lags from Side n (c ∷ []) are = refl
right_is lags from Sync n (c ∷ []) are = refl
right_is lags from (After cycles) n (c ∷ []) are = refl
right_is lags from Join n (c ∷ e ∷ []) are = refl
right_is lags from Merge n (c ∷ e ∷ []) are = refl
right_is lags from Same n [] are = elim are [ ]
right_is lags from Side n [] are = elim are [ ]
right_is lags from Sync n [] are = elim are [ ]
right_is lags from (After cycles) n [] are = elim are [ ]
right_is lags from Join n [] are = elim are [ ]
right_is lags from Merge n [] are = elim are [ ]
right_is lags from Same n (c ∷ e ∷ rest) are = elim are [ ]
right_is lags from Side n (c ∷ e ∷ rest) are = elim are [ ]
right_is lags from Sync n (c ∷ e ∷ rest) are = elim are [ ]
right_is lags from (After cycles) n (c ∷ e ∷ rest) are = elim are [ ]
right_is lags from Join n (c ∷ []) are = elim are [ ]
right_is lags from Merge n (c ∷ []) are = elim are [ ]
right_is lags from Join n (c ∷ e ∷ g ∷ rest) are = elim are [ ]
right_is lags from Merge n (c ∷ e ∷ g ∷ rest) are = elim are [ ]

-- the lag of a last cycle in a closed table
pub last_is : (events : List Event) (lags : Lags) (from : ℕ) (ends : List (Ending ℕ)) (last : ℕ → rules.Lag) → IsLastClosed events lags from ends last → AreDrawn 0 events
    → (b : ℕ) (start to : Event) → slice_get events from ≡ Some start → slice_get events b ≡ Some to
    → (if some_oppose start.arms to.arms then rules.Vacuous else most (ends_entry (lags from b) b ends)
    (right_of to.kind (at_pred last (slice_get to.preds 0)) (at_pred last (slice_get to.preds 1)))) ≡ last b
last_is events lags from ends last closed drawn b start to start_at to_at =
    let to_form : form_at events b ≡ form_of to.kind to.preds = ap form_in to_at in
    let apart : apart_at events from b ≡ some_oppose start.arms to.arms = rw (start_at, to_at) refl in
    let onward = right_is (λ c d. last d) from to.kind b to.preds (drawn_at events b to drawn to_at) ∙ ap (right (λ c d. last d) from) (sym to_form) in
    rw (onward, sym apart) (sym (closed b))

-- the ends of a list of which one more is looked at
one_further : (ends : List End) (k : ℕ) (default : End) → k < length ends → endings_of (take (suc k) ends) ≡ endings_of (take k ends) ++ ending_of (get_or ends k default) ∷ []
one_further [] k default within = absurd (omega arith)
one_further (first ∷ ends) zero default within = refl
one_further (first ∷ ends) (suc k) default within = ap (λ (rest : List (Ending ℕ)). ending_of first ∷ rest) (one_further ends k default (omega arith))

pub endings_step : (ends : List End) (k : ℕ) (default : End) → k < length ends → endings_of (take (k + 1) ends) ≡ endings_of (take k ends) ++ ending_of (get_or ends k default) ∷ []
endings_step ends k default within = let next : k + 1 ≡ suc k = omega arith in rw next (one_further ends k default within)

pub short_step : (ends : List (Ending ℕ)) (ending : Ending ℕ) → AreShort ends → AreShort (ending ∷ []) → AreShort (ends ++ ending ∷ [])
short_step [] ending short more = more
short_step (Within cycles ∷ ends) ending short more = (short.0, short_step ends ending short.1 more)
short_step (At event ∷ ends) ending short more = short_step ends ending short more

-- the lags of a row up to the next event
pub filled_next : (events : List Event) (from : ℕ) (ends : List (Ending ℕ)) (to : ℕ) (old new : List Lag) (lag : Lag) → to < length old → new ≡ set old to lag
    → IsFilledTo to events from ends old → IsLastAt events from ends to (lag_of lag) → IsFilledTo (to + 1) events from ends new
filled_next events from ends to old new lag within written filled next b before lags closed last last_closed =
    ap (λ (x : List Lag). kept_at x b) written ∙ go (two_ways b to before)
  where
    go : (b < to) ⊎ (b ≡ to) → kept_at (set old to lag) b ≡ last b
    go (inl earlier) = kept_there old to b lag (λ at. let is_at : b ≡ to = at in omega arith) ∙ filled b earlier lags closed last last_closed
    go (inr at) =
        let P : ℕ → Type 0 = λ c. kept_at (set old to lag) c ≡ last c in
        subst P (sym at) (kept_here old to lag within ∙ next lags closed last last_closed)

pub ends_next : (events : List Event) (from : ℕ) (ends : List (Ending ℕ)) (to : ℕ) (old new : List Lag) (lag : Lag) → length new ≡ length old → new ≡ set old to lag
    → AreEndsFrom to events from ends old → AreEndsFrom (to + 1) events from ends new
ends_next events from ends to old new lag same written are lags closed b after within =
    ap (λ (x : List Lag). kept_at x b) written
    ∙ (kept_there old to b lag (λ at. let is_at : b ≡ to = at in omega arith) ∙ are lags closed b (omega arith) (omega arith))

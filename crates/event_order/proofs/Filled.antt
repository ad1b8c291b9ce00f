-- A table stays filled where the lag of the next pair is added, and a whole one tells the order.
use Rattle.std.proofs.Common.{◌≡◌, ℕ, zero, suc, ◌+◌, ◌<◌, ◌⊎◌, inl, inr, arith, refl, sym, ◌∙◌, ap, subst, List, [], ◌∷◌, ◌++◌, length, length-append, Some, slice_get, get_or}
use Rattle.std.proofs.lemmas.Option.{slice_get_read}
use Rattle.order_rules.specs.Lag as lag
use Rattle.order_rules.proofs.Exact.{complete, sound}
use Rattle.event_graph.specs.Event.{Event, AreDrawn}
use Rattle.event_graph.specs.Forms.{form_at, apart_at}
use Rattle.event_graph.proofs.Early.{all_early}
use Rattle.event_order.specs.declared.entry.Entry.{Entry}
use Rattle.event_order.specs.declared.lag.Lag.{Lag}
use Rattle.event_order.specs.Lags.{Lags, lag_of, kept}
use Rattle.event_order.specs.Stored.{place_of, kept_in, stored, IsClosed, IsFilled}
use Rattle.event_order.specs.Order.{IsLagOf}
use Rattle.event_order.proofs.Places.{one_pair}
use Rattle.event_order.proofs.Pairs.{closed_lags, closed_is}

get_left : {X : Type 0} (xs ys : List X) (k : ℕ) → k < length xs → slice_get (xs ++ ys) k ≡ slice_get xs k
get_left [] ys k within = absurd (omega arith)
get_left (x ∷ xs) ys zero within = refl
get_left (x ∷ xs) ys (suc k) within = get_left xs ys k (omega arith)

get_last : {X : Type 0} (xs : List X) (x : X) (k : ℕ) → k ≡ length xs → slice_get (xs ++ x ∷ []) k ≡ Some x
get_last [] x zero end = refl
get_last [] x (suc k) end = absurd (omega arith)
get_last (y ∷ xs) x zero end = absurd (omega arith)
get_last (y ∷ xs) x (suc k) end = get_last xs x k (omega arith)

-- what is read at a place
pub stored_read : (table : List Entry) (place : ℕ) (entry : Entry) → place < length table → entry ≡ get_or table place entry → stored table place ≡ kept entry
stored_read table place entry within is = ap kept_in (slice_get_read table (length table) place entry refl within is)

two_ways : (k n : ℕ) → k < n + 1 → (k < n) ⊎ (k ≡ n)
two_ways k n within = grind arith

-- the next entry is that of the pair at its place
pub filled_push : (events : List Event) (table more : List Entry) (entry : Entry) (a b : ℕ)
    → more ≡ table ++ entry ∷ [] → length table ≡ place_of a b → IsFilled events table
    → ((lags : Lags) → IsClosed events lags → kept entry ≡ lags a b) → IsFilled events more
filled_push events table more entry a b is next filled known lags closed c d within =
    ap (λ (x : List Entry). stored x (place_of c d)) is ∙ go (two_ways (place_of c d) (length table) shorter)
  where
    shorter : place_of c d < length table + 1
    shorter = omega (arith, ap length is, length-append table (entry ∷ []))

    go : (place_of c d < length table) ⊎ (place_of c d ≡ length table) → stored (table ++ entry ∷ []) (place_of c d) ≡ lags c d
    go (inl k) = ap kept_in (get_left table (entry ∷ []) (place_of c d) k) ∙ filled lags closed c d k
    go (inr k) =
        let pair = one_pair c d a b (k ∙ next) in
        ap kept_in (get_last table entry (place_of c d) k) ∙ (known lags closed ∙ rw (sym pair.0, sym pair.1) refl)

pub filled_none : (events : List Event) → IsFilled events []
filled_none events lags closed a b within = absurd (omega arith)

pub length_push : {X : Type 0} (xs ys : List X) (x : X) (n : ℕ) → ys ≡ xs ++ x ∷ [] → length xs ≡ n → length ys ≡ n + 1
length_push xs ys x n is count = ap length is ∙ omega (arith, length-append xs (x ∷ []))

-- a lag that is that of the closed table tells the order
pub tells : (events : List Event) (drawn : AreDrawn 0 events) (x : Lag) (a b : ℕ) → lag_of x ≡ closed_lags events drawn a b → IsLagOf events x a b
tells events drawn x a b same distance =
    let lags = closed_lags events drawn in
    let P : lag.Lag → Type 0 = λ y. lag.Admits y distance in (
      (λ r. subst P (sym same) (complete (form_at events) (apart_at events) lags (closed_is events drawn) (all_early events drawn) r)),
      (λ k. sound (form_at events) (apart_at events) lags (closed_is events drawn) (all_early events drawn) a b distance (subst P same k)),
    )

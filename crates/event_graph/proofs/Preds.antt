-- The node of a number in a graph: its predecessors are earlier nodes, and its delay is a part of all delays.
use Rattle.std.proofs.Common.{◌≡◌, ℕ, zero, suc, ◌+◌, ◌<◌, ◌≤◌, arith, ap, subst, List, [], ◌∷◌, Some, slice_get}
use Rattle.event_graph.specs.declared.node.Kind.{Kind}
use Rattle.event_graph.specs.declared.node.Kind.TheVariants.{Start, Same, After, Sync, Join, Side, Merge}
use Rattle.event_graph.specs.Event.{Event, ArePreds, AreDrawn}
use Rattle.event_graph.specs.Forms.{delay_of, delays}

preds_at : (n : ℕ) (events : List Event) (k : ℕ) (event : Event) → AreDrawn n events → slice_get events k ≡ Some event → ArePreds event.kind (n + k) event.preds
preds_at n [] k event drawn at = absurd cc
preds_at n (first ∷ events) zero event drawn at =
    let P : Event → Type 0 = λ node. ArePreds node.kind (n + 0) node.preds in
    let Q : ℕ → Type 0 = λ number. ArePreds first.kind number first.preds in
    let same : n ≡ n + 0 = omega arith in
    let it : first ≡ event = cc in
    subst P it (subst Q same drawn.0)
preds_at n (first ∷ events) (suc k) event drawn at =
    let Q : ℕ → Type 0 = λ number. ArePreds event.kind number event.preds in
    let same : suc n + k ≡ n + suc k = omega arith in
    subst Q same (preds_at (suc n) events k event drawn.1 at)

-- the predecessors of the node k are such as its kind asks for
pub drawn_at : (events : List Event) (k : ℕ) (event : Event) → AreDrawn 0 events → slice_get events k ≡ Some event → ArePreds event.kind k event.preds
drawn_at events k event drawn at =
    let Q : ℕ → Type 0 = λ number. ArePreds event.kind number event.preds in
    let same : 0 + k ≡ k = omega arith in
    subst Q same (preds_at 0 events k event drawn at)

below_of : (kind : Kind) (n : ℕ) (preds : List ℕ) → ArePreds kind n preds → (i c : ℕ) → slice_get preds i ≡ Some c → c < n
below_of Start n [] are i c at = absurd cc
below_of Start n (x ∷ xs) are i c at = elim are [ ]
below_of Same n (x ∷ []) are zero c at = let it : x ≡ c = cc in omega arith
below_of Same n (x ∷ []) are (suc i) c at = absurd cc
below_of Side n (x ∷ []) are zero c at = let it : x ≡ c = cc in omega arith
below_of Side n (x ∷ []) are (suc i) c at = absurd cc
below_of Sync n (x ∷ []) are zero c at = let it : x ≡ c = cc in omega arith
below_of Sync n (x ∷ []) are (suc i) c at = absurd cc
below_of (After cycles) n (x ∷ []) are zero c at = let it : x ≡ c = cc in omega arith
below_of (After cycles) n (x ∷ []) are (suc i) c at = absurd cc
below_of Join n (x ∷ y ∷ []) are zero c at = let it : x ≡ c = cc in let below = are.0 in omega arith
below_of Join n (x ∷ y ∷ []) are (suc zero) c at = let it : y ≡ c = cc in let below = are.1 in omega arith
below_of Join n (x ∷ y ∷ []) are (suc (suc i)) c at = absurd cc
below_of Merge n (x ∷ y ∷ []) are zero c at = let it : x ≡ c = cc in let below = are.0 in omega arith
below_of Merge n (x ∷ y ∷ []) are (suc zero) c at = let it : y ≡ c = cc in let below = are.1 in omega arith
below_of Merge n (x ∷ y ∷ []) are (suc (suc i)) c at = absurd cc
below_of Same n [] are i c at = elim are [ ]
below_of Side n [] are i c at = elim are [ ]
below_of Sync n [] are i c at = elim are [ ]
below_of (After cycles) n [] are i c at = elim are [ ]
below_of Join n [] are i c at = elim are [ ]
below_of Merge n [] are i c at = elim are [ ]
below_of Same n (x ∷ y ∷ rest) are i c at = elim are [ ]
below_of Side n (x ∷ y ∷ rest) are i c at = elim are [ ]
below_of Sync n (x ∷ y ∷ rest) are i c at = elim are [ ]
below_of (After cycles) n (x ∷ y ∷ rest) are i c at = elim are [ ]
below_of Join n (x ∷ []) are i c at = elim are [ ]
below_of Merge n (x ∷ []) are i c at = elim are [ ]
below_of Join n (x ∷ y ∷ z ∷ rest) are i c at = elim are [ ]
below_of Merge n (x ∷ y ∷ z ∷ rest) are i c at = elim are [ ]

-- each predecessor of the node k is an earlier node
pub below : (events : List Event) (k : ℕ) (event : Event) → AreDrawn 0 events → slice_get events k ≡ Some event → (i c : ℕ) → slice_get event.preds i ≡ Some c → c < k
below events k event drawn at i c pred = below_of event.kind k event.preds (drawn_at events k event drawn at) i c pred

pub delay_small : (events : List Event) (k : ℕ) (event : Event) → slice_get events k ≡ Some event → delay_of event.kind ≤ delays events
delay_small [] k event at = absurd cc
delay_small (first ∷ events) zero event at =
    let it : first ≡ event = cc in
    let same : delay_of first.kind ≡ delay_of event.kind = ap (λ (node : Event). delay_of node.kind) it in
    omega arith
delay_small (first ∷ events) (suc k) event at = let rest = delay_small events k event at in omega arith

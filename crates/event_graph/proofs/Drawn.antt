-- The nodes of a builder stay those of a graph where one is added.
--
-- `add` pushes a node of the code; as a plain node it comes last, and its predecessors are among those before it.
use Rattle.std.proofs.Common.{◌≡◌, ℕ, suc, ◌+◌, ◌≤◌, ◌<◌, Bool, true, false, if◌then◌else◌, List, [], ◌∷◌, ◌++◌, length, subst, refl, arith, ap, length-append}
use Rattle.event_graph.specs.declared.node.Node.{Node}
use Rattle.event_graph.specs.Event.{Event, event_of, events_of, ArePreds, AreDrawn}

pub drawn_more : (n m : ℕ) (events : List Event) (event : Event)
    → AreDrawn n events → n + length events ≡ m → ArePreds event.kind m event.preds → AreDrawn n (events ++ event ∷ [])
drawn_more n m [] event drawn count preds =
    let P : ℕ → Type 0 = λ number. ArePreds event.kind number event.preds in
    let same : m ≡ n = omega arith in
    (subst P same preds, tt)
drawn_more n m (first ∷ events) event drawn count preds = (drawn.0, drawn_more (suc n) m events event drawn.1 (omega arith) preds)

-- a graph after another
pub drawn_append : (n m : ℕ) (events others : List Event)
    → n + length events ≡ m → AreDrawn n events → AreDrawn m others → AreDrawn n (events ++ others)
drawn_append n m [] others count drawn more =
    let P : ℕ → Type 0 = λ number. AreDrawn number others in
    let same : m ≡ n = omega arith in
    subst P same more
drawn_append n m (first ∷ events) others count drawn more = (drawn.0, drawn_append (suc n) m events others (omega arith) drawn.1 more)

pub events_push : (nodes : List Node) (node : Node) → events_of (nodes ++ node ∷ []) ≡ events_of nodes ++ event_of node ∷ []
events_push [] node = refl
events_push (first ∷ nodes) node = ap (λ (events : List Event). event_of first ∷ events) (events_push nodes node)

pub still_drawn : (old new : List Node) (node : Node) (pushed : Bool)
    → new ≡ (if pushed then old ++ node ∷ [] else old) → length (events_of old) < 8192 → AreDrawn 0 (events_of old)
    → ArePreds node.kind (length (events_of old)) node.preds.now
    → (length (events_of new) ≤ 8192) × AreDrawn 0 (events_of new)
still_drawn old new node true is few drawn preds =
    rw (is, events_push old node)
    (omega (arith, length-append (events_of old) (event_of node ∷ [])), drawn_more 0 (length (events_of old)) (events_of old) (event_of node) drawn (omega arith) preds)
still_drawn old new node false is few drawn preds = rw is (omega arith, drawn)

pub length_events : (nodes : List Node) → length (events_of nodes) ≡ length nodes
length_events [] = refl
length_events (node ∷ nodes) = ap (λ (n : ℕ). suc n) (length_events nodes)

-- Each node of a graph comes from earlier nodes.
--
-- The predecessors of a node are told by its kind; its form names the first one or two of them.
use Rattle.std.proofs.Common.{◌≡◌, ℕ, zero, suc, ◌+◌, arith, subst, List, [], ◌∷◌}
use Rattle.order_rules.specs.Entry.{IsEarlier}
use Rattle.event_graph.specs.declared.node.Kind.{Kind}
use Rattle.event_graph.specs.declared.node.Kind.TheVariants as kind
use Rattle.event_graph.specs.Event.{Event, ArePreds, AreDrawn}
use Rattle.event_graph.specs.Forms.{form_of, form_at}

-- of one node
pub preds_early : (kind : Kind) (n : ℕ) (preds : List ℕ) → ArePreds kind n preds → IsEarlier n (form_of kind preds)
preds_early kind.Start n preds are = tt
preds_early kind.Same n (c ∷ []) are = are
preds_early (kind.After cycles) n (c ∷ []) are = are
preds_early kind.Sync n (c ∷ []) are = are
preds_early kind.Side n (c ∷ []) are = are
preds_early kind.Join n (c ∷ e ∷ []) are = are
preds_early kind.Merge n (c ∷ e ∷ []) are = are
preds_early kind.Same n [] are = elim are [ ]
preds_early (kind.After cycles) n [] are = elim are [ ]
preds_early kind.Sync n [] are = elim are [ ]
preds_early kind.Side n [] are = elim are [ ]
preds_early kind.Join n [] are = elim are [ ]
preds_early kind.Merge n [] are = elim are [ ]
preds_early kind.Same n (c ∷ e ∷ rest) are = elim are [ ]
preds_early (kind.After cycles) n (c ∷ e ∷ rest) are = elim are [ ]
preds_early kind.Sync n (c ∷ e ∷ rest) are = elim are [ ]
preds_early kind.Side n (c ∷ e ∷ rest) are = elim are [ ]
preds_early kind.Join n (c ∷ []) are = elim are [ ]
preds_early kind.Merge n (c ∷ []) are = elim are [ ]
preds_early kind.Join n (c ∷ e ∷ g ∷ rest) are = elim are [ ]
preds_early kind.Merge n (c ∷ e ∷ g ∷ rest) are = elim are [ ]

forms_early : (n : ℕ) (events : List Event) → AreDrawn n events → (k : ℕ) → IsEarlier (n + k) (form_at events k)
forms_early n [] drawn k = tt
forms_early n (event ∷ events) drawn zero =
    let P : ℕ → Type 0 = λ number. IsEarlier number (form_of event.kind event.preds) in
    let same : n ≡ n + 0 = omega arith in
    subst P same (preds_early event.kind n event.preds drawn.0)
forms_early n (event ∷ events) drawn (suc k) =
    let P : ℕ → Type 0 = λ number. IsEarlier number (form_at events k) in
    let same : suc n + k ≡ n + suc k = omega arith in
    subst P same (forms_early (suc n) events drawn.1 k)

-- of all nodes
pub all_early : (events : List Event) → AreDrawn 0 events → (k : ℕ) → IsEarlier k (form_at events k)
all_early events drawn k =
    let P : ℕ → Type 0 = λ number. IsEarlier number (form_at events k) in
    let same : 0 + k ≡ k = omega arith in
    subst P same (forms_early 0 events drawn k)

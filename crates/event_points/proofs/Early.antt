-- The predecessors of each node of a graph are earlier nodes.
--
-- By induction over the term, from its begin and the ends of the acts in scope, which are earlier than all of its own nodes.
use Rattle.std.proofs.Common.{◌≡◌, ℕ, zero, suc, ◌+◌, ◌<◌, ◌≤◌, inl, inr, arith, sym, subst, List, [], ◌∷◌, ◌++◌, length}
use Rattle.order_rules.specs.Form.{Join, Side, Merge}
use Rattle.order_rules.specs.Entry.{IsEarlier}
use Rattle.core_term.specs.Term.{Term, One, Then, Both, Act, Cycle, Set, Send, Recv, If, When, Block, Wait, Pure, Nothing, site}
use Rattle.core_term.specs.Points.{Spot, TermEnd, Begin, End, NoSide, Formed, ◌is◌}
use Rattle.core_term.specs.Numbering.{OneOf, size, act_size, Numbered, NumberedAct}
use Rattle.event_graph.specs.declared.node.Arm.{Arm}
use Rattle.event_graph.specs.declared.node.Kind.{Kind}
use Rattle.event_graph.specs.declared.node.Kind.TheVariants as kind
use Rattle.event_graph.specs.Event.{Event, ArePreds, AreDrawn}
use Rattle.event_graph.specs.Forms.{form_of, form_at}
use Rattle.event_points.specs.Owned.{begin_of, end_of, owned, owned_of, count, count_of, kind_of, preds_of, drawn_all}
use Rattle.event_points.specs.Placed.{Placed, PlacedAct}
use Rattle.event_points.proofs.Steps.{length_owned, length_owned_of}

module _ (node : Spot → ℕ) where
  abbrev pub Early : ℕ → List Formed → Type 0
  Early n [] = Unit {0}
  Early n (g ∷ gs) = ArePreds (kind_of g.form) n (preds_of node g.form) × Early (suc n) gs

  append : (n m : ℕ) (gs hs : List Formed) → n + length gs ≡ m → Early n gs → Early m hs → Early n (gs ++ hs)
  append n m [] hs e k l = let P : ℕ → Type 0 = λ z. Early z hs in let f : m ≡ n = omega arith in subst P f l
  append n m (g ∷ gs) hs e k l = (k.0, append (suc n) m gs hs (omega arith) k.1 l)

  early_at : (n m : ℕ) (gs : List Formed) → n ≡ m → Early n gs → Early m gs
  early_at n m gs e k = let P : ℕ → Type 0 = λ z. Early z gs in subst P e k

  pub drawn_early : (arms : Spot → List Arm) (n : ℕ) (gs : List Formed) → Early n gs → AreDrawn n (drawn_all node arms gs)
  drawn_early arms n [] k = tt
  drawn_early arms n (g ∷ gs) k = (k.0, drawn_early arms (suc n) gs k.1)

  -- the ends of the acts in scope are earlier than n
  abbrev pub ScopeEarly : List Act → ℕ → Type 0
  ScopeEarly vs n = (y : ℕ) → OneOf vs y → node (End y) < n

  scope_later : (vs : List Act) (n m : ℕ) → n ≤ m → ScopeEarly vs n → ScopeEarly vs m
  scope_later vs n m l s y i = let k = s y i in omega arith

  scope_more : (vs : List Act) (a : Act) (n : ℕ) → node (End (site a)) < n → ScopeEarly vs n → ScopeEarly (a ∷ vs) n
  scope_more vs a n k s y (inl e) = let P : ℕ → Type 0 = λ z. node (End z) < n in subst P (sym e) k
  scope_more vs a n k s y (inr i) = s y i

  mutual
    pub early : (vs : List Act) (low from : ℕ) (t : Term) → Numbered vs low t → Placed node from t → node (begin_of t) < from → ScopeEarly vs from → Early from (owned t) × (node (end_of t) < from + count t)
    early vs low from (One a) n p b s = let z = act_early vs low from a n p.2 (omega arith) s in (z.0, omega arith)
    early vs low from (Then a t) n p b s =
        let z = act_early vs low from a n.0 p.3 (omega arith) s in
        let y = early (a ∷ vs) (low + act_size a) (from + count_of a) t n.1 p.4 (omega arith) (scope_more vs a (from + count_of a) z.1 (scope_later vs from (from + count_of a) (omega arith) s)) in
        let l = length_owned_of a in
        (append from (from + count_of a) (owned_of a) (owned t) (omega arith) z.0 y.0, omega arith)
    early vs low from (Both a t) n p b s =
        let z = act_early vs low from a n.0 p.3 (omega arith) s in
        let y = early (a ∷ vs) (low + act_size a) (from + count_of a) t n.1 p.4 (omega arith) (scope_more vs a (from + count_of a) z.1 (scope_later vs from (from + count_of a) (omega arith) s)) in
        let l = length_owned_of a in
        let k = length_owned t in
        let last = (TermEnd (site a) is Join (End (site a)) (end_of t)) ∷ [] in
        (append from (from + count_of a) (owned_of a) (owned t ++ last) (omega arith) z.0 (append (from + count_of a) (from + count_of a + count t) (owned t) last (omega arith) y.0 ((omega arith, omega arith), tt)), omega arith)

    pub act_early : (vs : List Act) (low from : ℕ) (a : Act) → NumberedAct vs low a → PlacedAct node from a → node (Begin (site a)) < from → ScopeEarly vs from → Early from (owned_of a) × (node (End (site a)) < from + count_of a)
    act_early vs low from (Cycle p c) n k b s = let e : node (End p) ≡ from = k in ((b, tt), omega arith)
    act_early vs low from (Set p r e) n k b s = let f : node (End p) ≡ from = k in ((b, tt), omega arith)
    act_early vs low from (Send p m e) n k b s = let f : node (End p) ≡ from = k in ((b, tt), omega arith)
    act_early vs low from (Recv p m) n k b s = let f : node (End p) ≡ from = k in ((b, tt), omega arith)
    act_early vs low from (If p e t u w) n k b s =
        let last = (End p is Merge (end_of t) (end_of u)) ∷ [] in
        let rest = (begin_of u is Side (Begin p)) ∷ owned u ++ last in
        let i = length_owned t in
        let j = length_owned u in
        let y = early vs (low + 1) (from + 1) t n.1 k.1 (omega arith) (scope_later vs from (from + 1) (omega arith) s) in
        let z = early vs (low + (1 + size t)) (from + 1 + count t + 1) u n.2 k.3 (omega arith) (scope_later vs from (from + 1 + count t + 1) (omega arith) s) in
        let merge : Early (from + 1 + count t + 1 + count u) last = ((omega arith, omega arith), tt) in
        let others = append (from + 1 + count t + 1) (from + 1 + count t + 1 + count u) (owned u) last (omega arith) z.0 merge in
        let second : Early (from + 1 + count t) rest = (omega arith, early_at (from + 1 + count t + 1) (suc (from + 1 + count t)) (owned u ++ last) (omega arith) others) in
        ((b, early_at (from + 1) (suc from) (owned t ++ rest) (omega arith) (append (from + 1) (from + 1 + count t) (owned t) rest (omega arith) y.0 second)), omega arith)
    act_early vs low from (When p e t) n k b s =
        let rest = (NoSide p is Side (Begin p)) ∷ (End p is Merge (end_of t) (NoSide p)) ∷ [] in
        let i = length_owned t in
        let y = early vs (low + 1) (from + 1) t n.1 k.1 (omega arith) (scope_later vs from (from + 1) (omega arith) s) in
        let second : Early (from + 1 + count t) rest = (omega arith, ((omega arith, omega arith), tt)) in
        ((b, early_at (from + 1) (suc from) (owned t ++ rest) (omega arith) (append (from + 1) (from + 1 + count t) (owned t) rest (omega arith) y.0 second)), omega arith)
    act_early vs low from (Block p t) n k b s =
        let y = early vs (low + 1) from t n.1 k.2 (omega arith) s in (y.0, omega arith)
    act_early vs low from (Wait p y) n k b s = let e : node (End p) ≡ from = k in (((b, s y n.1), tt), omega arith)
    act_early vs low from (Pure p e) n k b s = let f : node (End p) ≡ node (Begin p) = k in (tt, omega arith)
    act_early vs low from (Nothing p) n k b s = let f : node (End p) ≡ node (Begin p) = k in (tt, omega arith)

pub drawn_append : (n m : ℕ) (xs ys : List Event) → n + length xs ≡ m → AreDrawn n xs → AreDrawn m ys → AreDrawn n (xs ++ ys)
drawn_append n m [] ys e k l = let P : ℕ → Type 0 = λ z. AreDrawn z ys in let f : m ≡ n = omega arith in subst P f l
drawn_append n m (x ∷ xs) ys e k l = (k.0, drawn_append (suc n) m xs ys (omega arith) k.1 l)

preds_early : (kind : Kind) (n : ℕ) (preds : List ℕ) → ArePreds kind n preds → IsEarlier n (form_of kind preds)
preds_early kind.Start n preds k = tt
preds_early kind.Same n (c ∷ []) k = k
preds_early (kind.After m) n (c ∷ []) k = k
preds_early kind.Sync n (c ∷ []) k = k
preds_early kind.Side n (c ∷ []) k = k
preds_early kind.Join n (c ∷ e ∷ []) k = k
preds_early kind.Merge n (c ∷ e ∷ []) k = k
preds_early kind.Same n [] k = elim k [ ]
preds_early (kind.After m) n [] k = elim k [ ]
preds_early kind.Sync n [] k = elim k [ ]
preds_early kind.Side n [] k = elim k [ ]
preds_early kind.Join n [] k = elim k [ ]
preds_early kind.Merge n [] k = elim k [ ]
preds_early kind.Same n (c ∷ e ∷ g) k = elim k [ ]
preds_early (kind.After m) n (c ∷ e ∷ g) k = elim k [ ]
preds_early kind.Sync n (c ∷ e ∷ g) k = elim k [ ]
preds_early kind.Side n (c ∷ e ∷ g) k = elim k [ ]
preds_early kind.Join n (c ∷ []) k = elim k [ ]
preds_early kind.Merge n (c ∷ []) k = elim k [ ]
preds_early kind.Join n (c ∷ e ∷ g ∷ h) k = elim k [ ]
preds_early kind.Merge n (c ∷ e ∷ g ∷ h) k = elim k [ ]

-- in a graph that is drawn each predecessor is earlier
pub forms_early : (n : ℕ) (events : List Event) → AreDrawn n events → (k : ℕ) → IsEarlier (n + k) (form_at events k)
forms_early n [] d k = tt
forms_early n (e ∷ events) d zero = let P : ℕ → Type 0 = λ z. IsEarlier z (form_of e.kind e.preds) in let f : n ≡ n + 0 = omega arith in subst P f (preds_early e.kind n e.preds d.0)
forms_early n (e ∷ events) d (suc k) = let P : ℕ → Type 0 = λ z. IsEarlier z (form_at events k) in let f : suc n + k ≡ n + suc k = omega arith in subst P f (forms_early (suc n) events d.1 k)

pub all_early : (events : List Event) → AreDrawn 0 events → (k : ℕ) → IsEarlier k (form_at events k)
all_early events d k = let P : ℕ → Type 0 = λ z. IsEarlier z (form_at events k) in let f : 0 + k ≡ k = omega arith in subst P f (forms_early 0 events d k)

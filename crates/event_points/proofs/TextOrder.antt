-- The nodes of a turn follow the text: the side of an `if` comes after the begins of all acts up to that `if`; and the last arm
-- of a side names it.
use Rattle.std.proofs.Common.{◌≡◌, ℕ, ◌+◌, ◌<◌, ◌≤◌, ◌⊎◌, inl, inr, arith, ap, subst, true, false, List, [], ◌∷◌, ◌++◌}
use Rattle.order_rules.specs.Form.{Form, Side}
use Rattle.core_term.specs.Term.{Term, One, Then, Both, Act, Cycle, Set, Send, Recv, If, When, Block, Wait, Pure, Nothing, site, head}
use Rattle.core_term.specs.Points.{Spot, Begin, End, NoSide, Formed, forms, act_forms}
use Rattle.core_term.specs.Order.{IsFormed, spot_site}
use Rattle.core_term.specs.Numbering.{size, act_size, Numbered, NumberedAct}
use Rattle.core_term.specs.Stands.{Stands, StandsIn, here, in_one, in_then, after_then, in_both, after_both, in_yes, in_no, in_when, in_block}
use Rattle.event_graph.specs.declared.node.Arm.{Arm}
use Rattle.event_points.specs.Owned.{begin_of, end_of, count, count_of}
use Rattle.event_points.specs.Placed.{Placed, PlacedAct, Lies, LiesAct, arm}
use Rattle.event_points.specs.Sides.{SideArms}
use Rattle.event_points.proofs.OneTurn.{head_lies}

module _ (node : Spot → ℕ) where
  -- the begins of the acts before low come before the node n
  abbrev BeginsBefore : ℕ → ℕ → Type 0
  BeginsBefore low n = (p : ℕ) → p < low → node (Begin p) < n

  abbrev Sided : Spot → Form Spot → Type 0
  Sided b (Side c) = (p : ℕ) → p ≤ spot_site c → node (Begin p) < node b
  Sided b f = Unit {0}

  abbrev AllSided : List Formed → Type 0
  AllSided [] = Unit {0}
  AllSided (g ∷ gs) = Sided g.spot g.form × AllSided gs

  append : (gs hs : List Formed) → AllSided gs → AllSided hs → AllSided (gs ++ hs)
  append [] hs k l = l
  append (g ∷ gs) hs k l = (k.0, append gs hs k.1 l)

  at : (gs : List Formed) → AllSided gs → (b : Spot) (f : Form Spot) → IsFormed gs b f → Sided b f
  at [] k b f i = elim i [ ]
  at (g ∷ gs) k b f (inl e) = let P : Formed → Type 0 = λ z. Sided z.spot z.form in subst P e k.0
  at (g ∷ gs) k b f (inr i) = at gs k.1 b f i

  before_more : (low n : ℕ) → node (Begin low) < n → BeginsBefore low n → BeginsBefore (low + 1) n
  before_more low n k b p l = go (less p low)
    where
      less : (p q : ℕ) → (p < q) ⊎ (q ≤ p)
      less p q = grind arith

      go : (p < low) ⊎ (low ≤ p) → node (Begin p) < n
      go (inl i) = b p i
      go (inr i) = let e : p ≡ low = omega arith in let f = ap (λ q. node (Begin q)) e in omega arith

  later : (low low' n m : ℕ) → low' ≤ low → n ≤ m → BeginsBefore low n → BeginsBefore low' m
  later low low' n m l k b p i = let z = b p (omega arith) in omega arith

  record Known (low from : ℕ) (fs : List Formed) (last : Spot) : Type 0 where
    sided : AllSided fs
    before : BeginsBefore low from
    end_is : node last < from

  sided_here : (b : Spot) (p low n : ℕ) → p ≡ low → n ≤ node b → BeginsBefore (low + 1) n → (q : ℕ) → q ≤ p → node (Begin q) < node b
  sided_here b p low n e l k q i = let z = k q (omega arith) in omega arith

  mutual
    sides : (vs : List Act) (low from : ℕ) (t : Term) → Numbered vs low t → Placed node from t → node (begin_of t) < from → BeginsBefore low from → Known (low + size t) (from + count t) (forms t) (end_of t)
    sides vs low from (One a) n p b k =
        let z = act_sides vs low from a n p.2 (let e = p.0 in omega arith) k in
        record { sided = (tt, (tt, z.sided)); before = z.before; end_is = let e = p.1 in let f = z.end_is in omega arith }
    sides vs low from (Then a t) n p b k =
        let z = act_sides vs low from a n.0 p.3 (let e = p.0 in omega arith) k in
        let y = sides (a ∷ vs) (low + act_size a) (from + count_of a) t n.1 p.4 (let e = p.1 in let f = z.end_is in omega arith) z.before in
        record { sided = (tt, (tt, (tt, append (act_forms a) (forms t) z.sided y.sided))); before = later (low + act_size a + size t) _ (from + count_of a + count t) _ (omega arith) (omega arith) y.before; end_is = let e = p.2 in let f = y.end_is in omega arith }
    sides vs low from (Both a t) n p b k =
        let z = act_sides vs low from a n.0 p.3 (let e = p.0 in omega arith) k in
        let y = sides (a ∷ vs) (low + act_size a) (from + count_of a) t n.1 p.4 (let e = p.1 in omega arith) z.before in
        record { sided = (tt, (tt, (tt, append (act_forms a) (forms t) z.sided y.sided))); before = later (low + act_size a + size t) _ (from + count_of a + count t) _ (omega arith) (omega arith) y.before; end_is = let e = p.2 in omega arith }

    act_sides : (vs : List Act) (low from : ℕ) (a : Act) → NumberedAct vs low a → PlacedAct node from a → node (Begin (site a)) < from → BeginsBefore low from → Known (low + act_size a) (from + count_of a) (act_forms a) (End (site a))
    act_sides vs low from (If p e t u w) n q b k =
        let i = n.0 in
        let k1 = before_more low from (let f = ap (λ z. node (Begin z)) i in omega arith) k in
        let y = sides vs (low + 1) (from + 1) t n.1 q.1 (let f = q.0 in omega arith) (later (low + 1) _ from _ (omega arith) (omega arith) k1) in
        let z = sides vs (low + (1 + size t)) (from + 1 + count t + 1) u n.2 q.3 (let f = q.2 in omega arith) (later (low + 1 + size t) _ (from + 1 + count t) _ (omega arith) (omega arith) y.before) in
        record {
          sided = (sided_here (begin_of t) p low from i (let f = q.0 in omega arith) k1, (sided_here (begin_of u) p low from i (let f = q.2 in omega arith) k1, (tt, append (forms t) (forms u) y.sided z.sided)));
          before = later (low + (1 + size t) + size u) _ (from + 1 + count t + 1 + count u) _ (omega arith) (omega arith) z.before;
          end_is = let f = q.4 in omega arith;
        }
    act_sides vs low from (When p e t) n q b k =
        let i = n.0 in
        let k1 = before_more low from (let f = ap (λ z. node (Begin z)) i in omega arith) k in
        let y = sides vs (low + 1) (from + 1) t n.1 q.1 (let f = q.0 in omega arith) (later (low + 1) _ from _ (omega arith) (omega arith) k1) in
        record {
          sided = (sided_here (begin_of t) p low from i (let f = q.0 in omega arith) k1, (sided_here (NoSide p) p low from i (let f = q.2 in omega arith) k1, (tt, y.sided)));
          before = later (low + 1 + size t) _ (from + 1 + count t) _ (omega arith) (omega arith) y.before;
          end_is = let f = q.3 in omega arith;
        }
    act_sides vs low from (Block p t) n q b k =
        let i = n.0 in
        let k1 = before_more low from (let f = ap (λ z. node (Begin z)) i in omega arith) k in
        let y = sides vs (low + 1) from t n.1 q.2 (let f = q.0 in omega arith) k1 in
        record { sided = (tt, (tt, y.sided)); before = later (low + 1 + size t) _ (from + count t) _ (omega arith) (omega arith) y.before; end_is = let f = q.1 in let g = y.end_is in omega arith }
    act_sides vs low from (Cycle p c) n q b k = let f : node (End p) ≡ from = q in record { sided = (tt, tt); before = later (low + 1) _ from _ (omega arith) (omega arith) (before_more low from (let g = ap (λ z. node (Begin z)) n in omega arith) k); end_is = omega arith }
    act_sides vs low from (Set p r e) n q b k = let f : node (End p) ≡ from = q in record { sided = (tt, tt); before = later (low + 1) _ from _ (omega arith) (omega arith) (before_more low from (let g = ap (λ z. node (Begin z)) n.0 in omega arith) k); end_is = omega arith }
    act_sides vs low from (Send p m e) n q b k = let f : node (End p) ≡ from = q in record { sided = (tt, tt); before = later (low + 1) _ from _ (omega arith) (omega arith) (before_more low from (let g = ap (λ z. node (Begin z)) n.0 in omega arith) k); end_is = omega arith }
    act_sides vs low from (Recv p m) n q b k = let f : node (End p) ≡ from = q in record { sided = (tt, tt); before = later (low + 1) _ from _ (omega arith) (omega arith) (before_more low from (let g = ap (λ z. node (Begin z)) n in omega arith) k); end_is = omega arith }
    act_sides vs low from (Wait p y) n q b k = let f : node (End p) ≡ from = q in record { sided = (tt, tt); before = later (low + 1) _ from _ (omega arith) (omega arith) (before_more low from (let g = ap (λ z. node (Begin z)) n.0 in omega arith) k); end_is = omega arith }
    act_sides vs low from (Pure p e) n q b k = let f : node (End p) ≡ node (Begin p) = q in record { sided = (tt, tt); before = later (low + 1) _ from _ (omega arith) (omega arith) (before_more low from (let g = ap (λ z. node (Begin z)) n.0 in omega arith) k); end_is = omega arith }
    act_sides vs low from (Nothing p) n q b k = let f : node (End p) ≡ node (Begin p) = q in record { sided = (tt, tt); before = later (low + 1) _ from _ (omega arith) (omega arith) (before_more low from (let g = ap (λ z. node (Begin z)) n in omega arith) k); end_is = omega arith }

  pub in_order : (from : ℕ) (body : Term) → Numbered [] 0 body → Placed node from body → node (begin_of body) < from → (b : Spot) (q p : ℕ) → IsFormed (forms body) b (Side (Begin q)) → p ≤ q → node (Begin p) < node b
  in_order from body n pl b s q p i l = at (forms body) (sides [] 0 from body n pl b (λ r k. absurd (omega arith))).sided s (Side (Begin q)) i p l

module _ (turn : ℕ) (arms : Spot → List Arm) where
  mutual
    lies_at : {vs ws : List Act} {t u : Term} → Stands vs t ws u → (these : List Arm) → Lies turn arms these t → (those : List Arm) × Lies turn arms those u
    lies_at here these l = (these, l)
    lies_at (in_one s) these l = act_lies_at s these l.1
    lies_at (in_then s) these l = act_lies_at s these l.1
    lies_at (in_both s) these l = act_lies_at s these l.1
    lies_at (after_then s) these l = lies_at s these l.2
    lies_at (after_both s) these l = lies_at s these l.2

    act_lies_at : {vs ws : List Act} {a : Act} {u : Term} → StandsIn vs a ws u → (these : List Arm) → LiesAct turn arms these a → (those : List Arm) × Lies turn arms those u
    act_lies_at (in_yes {p = p} s) these l = lies_at s (these ++ arm turn p true ∷ []) l.0
    act_lies_at (in_no {p = p} s) these l = lies_at s (these ++ arm turn p false ∷ []) l.1
    act_lies_at (in_when {p = p} s) these l = lies_at s (these ++ arm turn p true ∷ []) l.0
    act_lies_at (in_block s) these l = lies_at s these l

  side_arms : (these : List Arm) (a : Act) → LiesAct turn arms these a → SideArms turn arms a
  side_arms these (If p e t u w) l = (these, (head_lies turn arms (these ++ arm turn p true ∷ []) t l.0).term_begin, (head_lies turn arms (these ++ arm turn p false ∷ []) u l.1).term_begin)
  side_arms these (When p e t) l = (these, (head_lies turn arms (these ++ arm turn p true ∷ []) t l.0).term_begin, l.1)
  side_arms these (Block p t) l = tt
  side_arms these (Cycle p n) l = tt
  side_arms these (Set p r e) l = tt
  side_arms these (Send p m e) l = tt
  side_arms these (Recv p m) l = tt
  side_arms these (Wait p y) l = tt
  side_arms these (Pure p e) l = tt
  side_arms these (Nothing p) l = tt

  term_side_arms : (these : List Arm) (u : Term) → Lies turn arms these u → SideArms turn arms (head u)
  term_side_arms these (One a) l = side_arms these a l.1
  term_side_arms these (Then a t) l = side_arms these a l.1
  term_side_arms these (Both a t) l = side_arms these a l.1

  pub arms_of_sides : (body : Term) → Lies turn arms [] body → (scope : List Act) (u : Term) → Stands [] body scope u → SideArms turn arms (head u)
  arms_of_sides body l scope u s = let z = lies_at s [] l in term_side_arms z.0 u z.1

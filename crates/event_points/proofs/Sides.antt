-- Two points of a numbered term exclude each other exactly where an arm of the one opposes an arm of the other.
--
-- By induction over the term. The arms of a point inside a part name sites of that part, so arms of different parts do not
-- oppose each other; the sides of one `if` do.
use Rattle.std.proofs.Common.{◌≡◌, ℕ, ◌+◌, ◌<◌, ◌≤◌, inl, inr, arith, refl, sym, ◌∙◌, ap, subst, Bool, true, false, List, [], ◌∷◌}
use Rattle.core_term.specs.Lists.{Has}
use Rattle.core_term.specs.Term.{Expr, Term, One, Then, Both, Act, Cycle, Set, Send, Recv, If, When, Block, Wait, Pure, Nothing}
use Rattle.core_term.specs.Points.{Spot, NoSide}
use Rattle.core_term.specs.Numbering.{size, act_size, Numbered, NumberedAct}
use Rattle.core_term.specs.Order.{spot_site, Apart, ApartIn}
use Rattle.core_term.proofs.code_tables.FirstSites.{head_site}
use Rattle.run_laws.proofs.turn_points.Exclude.{apart_in, apart_act_in}
use Rattle.event_graph.specs.declared.node.Arm.{Arm}
use Rattle.event_points.specs.Placed.{arm}
use Rattle.event_points.proofs.Way.{HeadPoint, term_begin, begin, end, term_end, PointOf, PointAct, way, act_way}

abbrev In : ℕ → ℕ → Spot → Type 0
In low n c = (low ≤ spot_site c) × (spot_site c < low + n)

head_in : (p : ℕ) (b : Spot) → HeadPoint p b → spot_site b ≡ p
head_in p b term_begin = refl
head_in p b begin = refl
head_in p b end = refl
head_in p b term_end = refl

mutual
  point_in : (b : Spot) (vs : List Act) (low : ℕ) (t : Term) → Numbered vs low t → PointOf t b → In low (size t) b
  point_in b vs low (One a) n k = point_act_in b vs low a n k
  point_in b vs low (Then a t) n (inl k) = let i = point_act_in b vs low a n.0 k in (omega arith, omega arith)
  point_in b vs low (Then a t) n (inr k) = let i = point_in b (a ∷ vs) (low + act_size a) t n.1 k in (omega arith, omega arith)
  point_in b vs low (Both a t) n (inl k) = let i = point_act_in b vs low a n.0 k in (omega arith, omega arith)
  point_in b vs low (Both a t) n (inr k) = let i = point_in b (a ∷ vs) (low + act_size a) t n.1 k in (omega arith, omega arith)

  point_act_in : (b : Spot) (vs : List Act) (low : ℕ) (a : Act) → NumberedAct vs low a → PointAct a b → In low (act_size a) b
  point_act_in b vs low (If p e t u w) n (inl k) = let i = head_in p b k in let j = n.0 in (omega arith, omega arith)
  point_act_in b vs low (If p e t u w) n (inr (inl k)) = let i = point_in b vs (low + 1) t n.1 k in (omega arith, omega arith)
  point_act_in b vs low (If p e t u w) n (inr (inr k)) = let i = point_in b vs (low + (1 + size t)) u n.2 k in (omega arith, omega arith)
  point_act_in b vs low (When p e t) n (inl k) = let i = head_in p b k in let j = n.0 in (omega arith, omega arith)
  point_act_in b vs low (When p e t) n (inr (inl k)) = let i = point_in b vs (low + 1) t n.1 k in (omega arith, omega arith)
  point_act_in b vs low (When p e t) n (inr (inr k)) = let i : spot_site b ≡ p = ap spot_site k in let j = n.0 in (omega arith, omega arith)
  point_act_in b vs low (Block p t) n (inl k) = let i = head_in p b k in let j = n.0 in (omega arith, omega arith)
  point_act_in b vs low (Block p t) n (inr k) = let i = point_in b vs (low + 1) t n.1 k in (omega arith, omega arith)
  point_act_in b vs low (Cycle p c) n k = let i = head_in p b k in let j : p ≡ low = n in (omega arith, omega arith)
  point_act_in b vs low (Set p r e) n k = let i = head_in p b k in let j = n.0 in (omega arith, omega arith)
  point_act_in b vs low (Send p m e) n k = let i = head_in p b k in let j = n.0 in (omega arith, omega arith)
  point_act_in b vs low (Recv p m) n k = let i = head_in p b k in let j : p ≡ low = n in (omega arith, omega arith)
  point_act_in b vs low (Wait p y) n k = let i = head_in p b k in let j = n.0 in (omega arith, omega arith)
  point_act_in b vs low (Pure p e) n k = let i = head_in p b k in let j = n.0 in (omega arith, omega arith)
  point_act_in b vs low (Nothing p) n k = let i = head_in p b k in let j : p ≡ low = n in (omega arith, omega arith)

-- an arm of this turn that names one of these sites
pub record Names (turn low n : ℕ) (x : Arm) : Type 0 where
  pub turn_is : x.turn ≡ turn
  pub from : low ≤ x.site
  pub below : x.site < low + n

wider : (turn low n from m : ℕ) (x : Arm) → Names turn low n x → from ≤ low → low + n ≤ from + m → Names turn from m x
wider turn low n from m x k l h = let i = k.from in let j = k.below in record { turn_is = k.turn_is; from = omega arith; below = omega arith }

mutual
  pub way_names : (turn : ℕ) (b : Spot) (vs : List Act) (low : ℕ) (t : Term) → Numbered vs low t → (k : PointOf t b) (x : Arm) → Has (way turn b t k) x → Names turn low (size t) x
  way_names turn b vs low (One a) n k x h = act_way_names turn b vs low a n k x h
  way_names turn b vs low (Then a t) n (inl k) x h = wider turn low (act_size a) low (act_size a + size t) x (act_way_names turn b vs low a n.0 k x h) (omega arith) (omega arith)
  way_names turn b vs low (Then a t) n (inr k) x h = wider turn (low + act_size a) (size t) low (act_size a + size t) x (way_names turn b (a ∷ vs) (low + act_size a) t n.1 k x h) (omega arith) (omega arith)
  way_names turn b vs low (Both a t) n (inl k) x h = wider turn low (act_size a) low (act_size a + size t) x (act_way_names turn b vs low a n.0 k x h) (omega arith) (omega arith)
  way_names turn b vs low (Both a t) n (inr k) x h = wider turn (low + act_size a) (size t) low (act_size a + size t) x (way_names turn b (a ∷ vs) (low + act_size a) t n.1 k x h) (omega arith) (omega arith)

  act_way_names : (turn : ℕ) (b : Spot) (vs : List Act) (low : ℕ) (a : Act) → NumberedAct vs low a → (k : PointAct a b) (x : Arm) → Has (act_way turn b a k) x → Names turn low (act_size a) x
  act_way_names turn b vs low (If p e t u w) n (inl k) x h = elim h [ ]
  act_way_names turn b vs low (If p e t u w) n (inr (inl k)) x (inl h) = let i = n.0 in let j : x.site ≡ p = ap (λ (z : Arm). z.site) h in record { turn_is = ap (λ (z : Arm). z.turn) h; from = omega arith; below = omega arith }
  act_way_names turn b vs low (If p e t u w) n (inr (inl k)) x (inr h) = wider turn (low + 1) (size t) low (1 + (size t + size u)) x (way_names turn b vs (low + 1) t n.1 k x h) (omega arith) (omega arith)
  act_way_names turn b vs low (If p e t u w) n (inr (inr k)) x (inl h) = let i = n.0 in let j : x.site ≡ p = ap (λ (z : Arm). z.site) h in record { turn_is = ap (λ (z : Arm). z.turn) h; from = omega arith; below = omega arith }
  act_way_names turn b vs low (If p e t u w) n (inr (inr k)) x (inr h) = wider turn (low + (1 + size t)) (size u) low (1 + (size t + size u)) x (way_names turn b vs (low + (1 + size t)) u n.2 k x h) (omega arith) (omega arith)
  act_way_names turn b vs low (When p e t) n (inl k) x h = elim h [ ]
  act_way_names turn b vs low (When p e t) n (inr (inl k)) x (inl h) = let i = n.0 in let j : x.site ≡ p = ap (λ (z : Arm). z.site) h in record { turn_is = ap (λ (z : Arm). z.turn) h; from = omega arith; below = omega arith }
  act_way_names turn b vs low (When p e t) n (inr (inl k)) x (inr h) = wider turn (low + 1) (size t) low (1 + size t) x (way_names turn b vs (low + 1) t n.1 k x h) (omega arith) (omega arith)
  act_way_names turn b vs low (When p e t) n (inr (inr k)) x (inl h) = let i = n.0 in let j : x.site ≡ p = ap (λ (z : Arm). z.site) h in record { turn_is = ap (λ (z : Arm). z.turn) h; from = omega arith; below = omega arith }
  act_way_names turn b vs low (When p e t) n (inr (inr k)) x (inr h) = elim h [ ]
  act_way_names turn b vs low (Block p t) n (inl k) x h = elim h [ ]
  act_way_names turn b vs low (Block p t) n (inr k) x h = wider turn (low + 1) (size t) low (1 + size t) x (way_names turn b vs (low + 1) t n.1 k x h) (omega arith) (omega arith)
  act_way_names turn b vs low (Cycle p c) n k x h = elim h [ ]
  act_way_names turn b vs low (Set p r e) n k x h = elim h [ ]
  act_way_names turn b vs low (Send p m e) n k x h = elim h [ ]
  act_way_names turn b vs low (Recv p m) n k x h = elim h [ ]
  act_way_names turn b vs low (Wait p y) n k x h = elim h [ ]
  act_way_names turn b vs low (Pure p e) n k x h = elim h [ ]
  act_way_names turn b vs low (Nothing p) n k x h = elim h [ ]

mutual
  swap : (t : Term) (b c : Spot) → Apart t b c → Apart t c b
  swap (One a) b c k = swap_in a b c k
  swap (Then a t) b c (inl k) = inl (swap_in a b c k)
  swap (Then a t) b c (inr k) = inr (swap t b c k)
  swap (Both a t) b c (inl k) = inl (swap_in a b c k)
  swap (Both a t) b c (inr k) = inr (swap t b c k)

  swap_in : (a : Act) (b c : Spot) → ApartIn a b c → ApartIn a c b
  swap_in (If p e t u w) b c (inl (inl k)) = inl (inr (k.1, k.0))
  swap_in (If p e t u w) b c (inl (inr k)) = inl (inl (k.1, k.0))
  swap_in (If p e t u w) b c (inr (inl k)) = inr (inl (swap t b c k))
  swap_in (If p e t u w) b c (inr (inr k)) = inr (inr (swap u b c k))
  swap_in (When p e t) b c (inl (inl k)) = inl (inr (k.1, k.0))
  swap_in (When p e t) b c (inl (inr k)) = inl (inl (k.1, k.0))
  swap_in (When p e t) b c (inr k) = inr (swap t b c k)
  swap_in (Block p t) b c k = swap t b c k
  swap_in (Cycle p n) b c k = k
  swap_in (Set p r e) b c k = k
  swap_in (Send p m e) b c k = k
  swap_in (Recv p m) b c k = k
  swap_in (Wait p y) b c k = k
  swap_in (Pure p e) b c k = k
  swap_in (Nothing p) b c k = k

-- an arm of the one list and one of the other are of different sides of one `if`
pub record Opposed (xs ys : List Arm) : Type 0 where
  pub one : Arm
  pub other : Arm
  pub has_one : Has xs one
  pub has_other : Has ys other
  pub turn_is : one.turn ≡ other.turn
  pub site_is : one.site ≡ other.site
  pub differs : one.yes ≡ other.yes → ⊥

true_false : true ≡ false → ⊥
true_false e = cc

false_true : false ≡ true → ⊥
false_true e = cc

more : (a b : Arm) (xs ys : List Arm) → Opposed xs ys → Opposed (a ∷ xs) (b ∷ ys)
more a b xs ys o = record { one = o.one; other = o.other; has_one = inr o.has_one; has_other = inr o.has_other; turn_is = o.turn_is; site_is = o.site_is; differs = o.differs }

-- arms of sites that are apart do not oppose each other
never : (turn low n low' m : ℕ) (xs ys : List Arm) → low + n ≤ low' → ((x : Arm) → Has xs x → Names turn low n x) → ((y : Arm) → Has ys y → Names turn low' m y) → Opposed xs ys → ⊥
never turn low n low' m xs ys l f g o = let i = (f o.one o.has_one).below in let j = (g o.other o.has_other).from in let k = o.site_is in omega arith

back : (xs ys : List Arm) → Opposed xs ys → Opposed ys xs
back xs ys o = record { one = o.other; other = o.one; has_one = o.has_other; has_other = o.has_one; turn_is = sym o.turn_is; site_is = sym o.site_is; differs = λ e. o.differs (sym e) }

none_left : (ys : List Arm) → Opposed [] ys → ⊥
none_left ys o = elim o.has_one [ ]

none_right : (xs : List Arm) → Opposed xs [] → ⊥
none_right xs o = elim o.has_other [ ]

-- inside one side the arm of that side does not count
inside : (turn p low n : ℕ) (yes_side : Bool) (xs ys : List Arm) → p < low → ((x : Arm) → Has xs x → Names turn low n x) → ((y : Arm) → Has ys y → Names turn low n y) → Opposed (arm turn p yes_side ∷ xs) (arm turn p yes_side ∷ ys) → Opposed xs ys
inside turn p low n s xs ys l f g o = go o.one o.other o.has_one o.has_other o.turn_is o.site_is o.differs
  where
    go : (x y : Arm) → Has (arm turn p s ∷ xs) x → Has (arm turn p s ∷ ys) y → x.turn ≡ y.turn → x.site ≡ y.site → (x.yes ≡ y.yes → ⊥) → Opposed xs ys
    go x y (inl h) (inl k) t e d = absurd (d (ap (λ (z : Arm). z.yes) h ∙ sym (ap (λ (z : Arm). z.yes) k)))
    go x y (inl h) (inr k) t e d = let i = (g y k).from in let j : x.site ≡ p = ap (λ (z : Arm). z.site) h in absurd (omega arith)
    go x y (inr h) (inl k) t e d = let i = (f x h).from in let j : y.site ≡ p = ap (λ (z : Arm). z.site) k in absurd (omega arith)
    go x y (inr h) (inr k) t e d = record { one = x; other = y; has_one = h; has_other = k; turn_is = t; site_is = e; differs = d }

module _ (turn : ℕ) (b c : Spot) where
  mutual
    pub apart : (vs : List Act) (low : ℕ) (t : Term) → Numbered vs low t → (k : PointOf t b) (l : PointOf t c) → Opposed (way turn b t k) (way turn c t l) → Apart t b c
    apart vs low (One a) n k l o = act_apart vs low a n k l o
    apart vs low (Then a t) n (inl k) (inl l) o = inl (act_apart vs low a n.0 k l o)
    apart vs low (Then a t) n (inr k) (inr l) o = inr (apart (a ∷ vs) (low + act_size a) t n.1 k l o)
    apart vs low (Then a t) n (inl k) (inr l) o = absurd (never turn low (act_size a) (low + act_size a) (size t) _ _ (omega arith) (act_way_names turn b vs low a n.0 k) (way_names turn c (a ∷ vs) (low + act_size a) t n.1 l) o)
    apart vs low (Then a t) n (inr k) (inl l) o = absurd (never turn low (act_size a) (low + act_size a) (size t) _ _ (omega arith) (act_way_names turn c vs low a n.0 l) (way_names turn b (a ∷ vs) (low + act_size a) t n.1 k) (back _ _ o))
    apart vs low (Both a t) n (inl k) (inl l) o = inl (act_apart vs low a n.0 k l o)
    apart vs low (Both a t) n (inr k) (inr l) o = inr (apart (a ∷ vs) (low + act_size a) t n.1 k l o)
    apart vs low (Both a t) n (inl k) (inr l) o = absurd (never turn low (act_size a) (low + act_size a) (size t) _ _ (omega arith) (act_way_names turn b vs low a n.0 k) (way_names turn c (a ∷ vs) (low + act_size a) t n.1 l) o)
    apart vs low (Both a t) n (inr k) (inl l) o = absurd (never turn low (act_size a) (low + act_size a) (size t) _ _ (omega arith) (act_way_names turn c vs low a n.0 l) (way_names turn b (a ∷ vs) (low + act_size a) t n.1 k) (back _ _ o))

    act_apart : (vs : List Act) (low : ℕ) (a : Act) → NumberedAct vs low a → (k : PointAct a b) (l : PointAct a c) → Opposed (act_way turn b a k) (act_way turn c a l) → ApartIn a b c
    act_apart vs low (If p e t u w) n (inl k) l o = absurd (none_left _ o)
    act_apart vs low (If p e t u w) n (inr k) (inl l) o = absurd (none_right _ o)
    act_apart vs low (If p e t u w) n (inr (inl k)) (inr (inl l)) o =
        let z = n.0 in inr (inl (apart vs (low + 1) t n.1 k l (inside turn p (low + 1) (size t) true _ _ (omega arith) (way_names turn b vs (low + 1) t n.1 k) (way_names turn c vs (low + 1) t n.1 l) o)))
    act_apart vs low (If p e t u w) n (inr (inr k)) (inr (inr l)) o =
        let z = n.0 in inr (inr (apart vs (low + (1 + size t)) u n.2 k l (inside turn p (low + (1 + size t)) (size u) false _ _ (omega arith) (way_names turn b vs (low + (1 + size t)) u n.2 k) (way_names turn c vs (low + (1 + size t)) u n.2 l) o)))
    act_apart vs low (If p e t u w) n (inr (inl k)) (inr (inr l)) o =
        let i = point_in b vs (low + 1) t n.1 k in let j = point_in c vs (low + (1 + size t)) u n.2 l in
        let m = head_site _ _ t n.1 in let m' = head_site _ _ u n.2 in inl (inl ((omega arith, omega arith), (omega arith, omega arith)))
    act_apart vs low (If p e t u w) n (inr (inr k)) (inr (inl l)) o =
        let i = point_in c vs (low + 1) t n.1 l in let j = point_in b vs (low + (1 + size t)) u n.2 k in
        let m = head_site _ _ t n.1 in let m' = head_site _ _ u n.2 in inl (inr ((omega arith, omega arith), (omega arith, omega arith)))
    act_apart vs low (When p e t) n (inl k) l o = absurd (none_left _ o)
    act_apart vs low (When p e t) n (inr k) (inl l) o = absurd (none_right _ o)
    act_apart vs low (When p e t) n (inr (inl k)) (inr (inl l)) o =
        let z = n.0 in inr (apart vs (low + 1) t n.1 k l (inside turn p (low + 1) (size t) true _ _ (omega arith) (way_names turn b vs (low + 1) t n.1 k) (way_names turn c vs (low + 1) t n.1 l) o))
    act_apart vs low (When p e t) n (inr (inr k)) (inr (inr l)) o =
        let none : (x : Arm) → Has [] x → Names turn (p + 1) 0 x = λ x h. elim h [ ] in absurd (none_left _ (inside turn p (p + 1) 0 false [] [] (omega arith) none none o))
    act_apart vs low (When p e t) n (inr (inl k)) (inr (inr l)) o =
        let i = point_in b vs (low + 1) t n.1 k in let m = head_site _ _ t n.1 in inl (inl ((omega arith, omega arith), l))
    act_apart vs low (When p e t) n (inr (inr k)) (inr (inl l)) o =
        let i = point_in c vs (low + 1) t n.1 l in let m = head_site _ _ t n.1 in inl (inr (k, (omega arith, omega arith)))
    act_apart vs low (Block p t) n (inl k) l o = absurd (none_left _ o)
    act_apart vs low (Block p t) n (inr k) (inl l) o = absurd (none_right _ o)
    act_apart vs low (Block p t) n (inr k) (inr l) o = apart vs (low + 1) t n.1 k l o
    act_apart vs low (Cycle p m) n k l o = absurd (none_left _ o)
    act_apart vs low (Set p r e) n k l o = absurd (none_left _ o)
    act_apart vs low (Send p m e) n k l o = absurd (none_left _ o)
    act_apart vs low (Recv p m) n k l o = absurd (none_left _ o)
    act_apart vs low (Wait p y) n k l o = absurd (none_left _ o)
    act_apart vs low (Pure p e) n k l o = absurd (none_left _ o)
    act_apart vs low (Nothing p) n k l o = absurd (none_left _ o)

-- a point of an `if` that lies in a side has the arm of that side
module _ (turn : ℕ) (b : Spot) (vs : List Act) (low p : ℕ) where
  yes_way : (e : Expr) (t u : Term) (w : Bool) → NumberedAct vs low (If p e t u w) → In (low + 1) (size t) b → (k : PointAct (If p e t u w) b) → (j : PointOf t b) × (act_way turn b (If p e t u w) k ≡ arm turn p true ∷ way turn b t j)
  yes_way e t u w n i (inl k) = let h = head_in p b k in let z = n.0 in absurd (omega arith)
  yes_way e t u w n i (inr (inl k)) = (k, refl)
  yes_way e t u w n i (inr (inr k)) = let h = point_in b vs (low + (1 + size t)) u n.2 k in absurd (omega arith)

  no_way : (e : Expr) (t u : Term) (w : Bool) → NumberedAct vs low (If p e t u w) → In (low + (1 + size t)) (size u) b → (k : PointAct (If p e t u w) b) → (j : PointOf u b) × (act_way turn b (If p e t u w) k ≡ arm turn p false ∷ way turn b u j)
  no_way e t u w n i (inl k) = let h = head_in p b k in let z = n.0 in absurd (omega arith)
  no_way e t u w n i (inr (inr k)) = (k, refl)
  no_way e t u w n i (inr (inl k)) = let h = point_in b vs (low + 1) t n.1 k in absurd (omega arith)

  when_way : (e : Expr) (t : Term) → NumberedAct vs low (When p e t) → In (low + 1) (size t) b → (k : PointAct (When p e t) b) → (j : PointOf t b) × (act_way turn b (When p e t) k ≡ arm turn p true ∷ way turn b t j)
  when_way e t n i (inl k) = let h = head_in p b k in let z = n.0 in absurd (omega arith)
  when_way e t n i (inr (inl k)) = (k, refl)
  when_way e t n i (inr (inr k)) = let h : spot_site b ≡ p = ap spot_site k in let z = n.0 in absurd (omega arith)

  no_head : b ≡ NoSide p → HeadPoint p b → ⊥
  no_head e k = let P : Spot → Type 0 = λ z. HeadPoint p z in go _ (subst P e k) refl
    where
      go : (c : Spot) → HeadPoint p c → c ≡ NoSide p → ⊥
      go c term_begin f = cc
      go c begin f = cc
      go c end f = cc
      go c term_end f = cc

  when_no : (e : Expr) (t : Term) → NumberedAct vs low (When p e t) → b ≡ NoSide p → (k : PointAct (When p e t) b) → act_way turn b (When p e t) k ≡ arm turn p false ∷ []
  when_no e t n i (inl k) = absurd (no_head i k)
  when_no e t n i (inr (inl k)) = let h = point_in b vs (low + 1) t n.1 k in let z = n.0 in let g : spot_site b ≡ p = ap spot_site i in absurd (omega arith)
  when_no e t n i (inr (inr k)) = refl

same_opposed : (xs ys xs' ys' : List Arm) → xs ≡ xs' → ys ≡ ys' → Opposed xs' ys' → Opposed xs ys
same_opposed xs ys xs' ys' e f o = rw (e, f) o

sides : (turn p : ℕ) (xs ys : List Arm) → Opposed (arm turn p true ∷ xs) (arm turn p false ∷ ys)
sides turn p xs ys = record { one = arm turn p true; other = arm turn p false; has_one = inl refl; has_other = inl refl; turn_is = refl; site_is = refl; differs = true_false }

module _ (turn : ℕ) (b c : Spot) where
  mutual
    pub opposed : (vs : List Act) (low : ℕ) (t : Term) → Numbered vs low t → (k : PointOf t b) (l : PointOf t c) → Apart t b c → Opposed (way turn b t k) (way turn c t l)
    opposed vs low (One a) n k l o = act_opposed vs low a n k l o
    opposed vs low (Then a t) n (inl k) (inl l) (inl o) = act_opposed vs low a n.0 k l o
    opposed vs low (Then a t) n (inr k) (inr l) (inr o) = opposed (a ∷ vs) (low + act_size a) t n.1 k l o
    opposed vs low (Then a t) n (inr k) l (inl o) =
        let i = apart_act_in vs low a c b n.0 (swap_in a b c o) in let j = point_in b (a ∷ vs) (low + act_size a) t n.1 k in absurd (omega arith)
    opposed vs low (Then a t) n k (inr l) (inl o) =
        let i = apart_act_in vs low a b c n.0 o in let j = point_in c (a ∷ vs) (low + act_size a) t n.1 l in absurd (omega arith)
    opposed vs low (Then a t) n (inl k) l (inr o) =
        let i = apart_in (a ∷ vs) (low + act_size a) t c b n.1 (swap t b c o) in let j = point_act_in b vs low a n.0 k in absurd (omega arith)
    opposed vs low (Then a t) n k (inl l) (inr o) =
        let i = apart_in (a ∷ vs) (low + act_size a) t b c n.1 o in let j = point_act_in c vs low a n.0 l in absurd (omega arith)
    opposed vs low (Both a t) n (inl k) (inl l) (inl o) = act_opposed vs low a n.0 k l o
    opposed vs low (Both a t) n (inr k) (inr l) (inr o) = opposed (a ∷ vs) (low + act_size a) t n.1 k l o
    opposed vs low (Both a t) n (inr k) l (inl o) =
        let i = apart_act_in vs low a c b n.0 (swap_in a b c o) in let j = point_in b (a ∷ vs) (low + act_size a) t n.1 k in absurd (omega arith)
    opposed vs low (Both a t) n k (inr l) (inl o) =
        let i = apart_act_in vs low a b c n.0 o in let j = point_in c (a ∷ vs) (low + act_size a) t n.1 l in absurd (omega arith)
    opposed vs low (Both a t) n (inl k) l (inr o) =
        let i = apart_in (a ∷ vs) (low + act_size a) t c b n.1 (swap t b c o) in let j = point_act_in b vs low a n.0 k in absurd (omega arith)
    opposed vs low (Both a t) n k (inl l) (inr o) =
        let i = apart_in (a ∷ vs) (low + act_size a) t b c n.1 o in let j = point_act_in c vs low a n.0 l in absurd (omega arith)

    act_opposed : (vs : List Act) (low : ℕ) (a : Act) → NumberedAct vs low a → (k : PointAct a b) (l : PointAct a c) → ApartIn a b c → Opposed (act_way turn b a k) (act_way turn c a l)
    act_opposed vs low (If p e t u w) n k l (inl (inl o)) =
        let m = head_site _ _ t n.1 in let m' = head_site _ _ u n.2 in let i = o.0 in let j = o.1 in
        let x = yes_way turn b vs low p e t u w n (omega arith, omega arith) k in
        let y = no_way turn c vs low p e t u w n (omega arith, omega arith) l in
        same_opposed _ _ _ _ x.1 y.1 (sides turn p (way turn b t x.0) (way turn c u y.0))
    act_opposed vs low (If p e t u w) n k l (inl (inr o)) =
        let m = head_site _ _ t n.1 in let m' = head_site _ _ u n.2 in let i = o.0 in let j = o.1 in
        let x = no_way turn b vs low p e t u w n (omega arith, omega arith) k in
        let y = yes_way turn c vs low p e t u w n (omega arith, omega arith) l in
        same_opposed _ _ _ _ x.1 y.1 (back _ _ (sides turn p (way turn c t y.0) (way turn b u x.0)))
    act_opposed vs low (If p e t u w) n k l (inr (inl o)) =
        let x = yes_way turn b vs low p e t u w n (apart_in vs (low + 1) t c b n.1 (swap t b c o)) k in
        let y = yes_way turn c vs low p e t u w n (apart_in vs (low + 1) t b c n.1 o) l in
        same_opposed _ _ _ _ x.1 y.1 (more (arm turn p true) (arm turn p true) _ _ (opposed vs (low + 1) t n.1 x.0 y.0 o))
    act_opposed vs low (If p e t u w) n k l (inr (inr o)) =
        let x = no_way turn b vs low p e t u w n (apart_in vs (low + (1 + size t)) u c b n.2 (swap u b c o)) k in
        let y = no_way turn c vs low p e t u w n (apart_in vs (low + (1 + size t)) u b c n.2 o) l in
        same_opposed _ _ _ _ x.1 y.1 (more (arm turn p false) (arm turn p false) _ _ (opposed vs (low + (1 + size t)) u n.2 x.0 y.0 o))
    act_opposed vs low (When p e t) n k l (inl (inl o)) =
        let m = head_site _ _ t n.1 in let i = o.0 in
        let x = when_way turn b vs low p e t n (omega arith, omega arith) k in
        same_opposed _ _ _ _ x.1 (when_no turn c vs low p e t n o.1 l) (sides turn p (way turn b t x.0) [])
    act_opposed vs low (When p e t) n k l (inl (inr o)) =
        let m = head_site _ _ t n.1 in let i = o.1 in
        let y = when_way turn c vs low p e t n (omega arith, omega arith) l in
        same_opposed _ _ _ _ (when_no turn b vs low p e t n o.0 k) y.1 (back _ _ (sides turn p (way turn c t y.0) []))
    act_opposed vs low (When p e t) n k l (inr o) =
        let x = when_way turn b vs low p e t n (apart_in vs (low + 1) t c b n.1 (swap t b c o)) k in
        let y = when_way turn c vs low p e t n (apart_in vs (low + 1) t b c n.1 o) l in
        same_opposed _ _ _ _ x.1 y.1 (more (arm turn p true) (arm turn p true) _ _ (opposed vs (low + 1) t n.1 x.0 y.0 o))
    act_opposed vs low (Block p t) n (inr k) (inr l) o = opposed vs (low + 1) t n.1 k l o
    act_opposed vs low (Block p t) n (inl k) l o = let i = apart_in vs (low + 1) t c b n.1 (swap t b c o) in let h = head_in p b k in let z = n.0 in absurd (omega arith)
    act_opposed vs low (Block p t) n k (inl l) o = let i = apart_in vs (low + 1) t b c n.1 o in let h = head_in p c l in let z = n.0 in absurd (omega arith)
    act_opposed vs low (Cycle p m) n k l o = elim o [ ]
    act_opposed vs low (Set p r e) n k l o = elim o [ ]
    act_opposed vs low (Send p m e) n k l o = elim o [ ]
    act_opposed vs low (Recv p m) n k l o = elim o [ ]
    act_opposed vs low (Wait p y) n k l o = elim o [ ]
    act_opposed vs low (Pure p e) n k l o = elim o [ ]
    act_opposed vs low (Nothing p) n k l o = elim o [ ]

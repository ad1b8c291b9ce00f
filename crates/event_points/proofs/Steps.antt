-- Each point of a term shares the node of its predecessor, or has a node of its own.
--
-- By induction over the term: its own nodes stand in the order of `owned`, and `Placed` gives each point its number.
use Rattle.std.proofs.Common.{◌≡◌, ℕ, suc, ◌+◌, ◌⊎◌, inl, inr, arith, refl, sym, ◌∙◌, subst, List, [], ◌∷◌, ◌++◌, length, length-append}
use Rattle.order_rules.specs.Form.{Same, Join, Side, Merge}
use Rattle.core_term.specs.Term.{Term, One, Then, Both, Act, Cycle, Set, Send, Recv, If, When, Block, Wait, Pure, Nothing, site}
use Rattle.core_term.specs.Points.{Spot, TermEnd, Begin, End, NoSide, Formed, ◌is◌, forms, act_forms}
use Rattle.event_points.specs.Owned.{begin_of, end_of, owned, owned_of, count, count_of}
use Rattle.event_points.specs.Placed.{Placed, PlacedAct}

mutual
  pub length_owned : (t : Term) → length (owned t) ≡ count t
  length_owned (One a) = length_owned_of a
  length_owned (Then a t) = omega (arith, length-append (owned_of a) (owned t), length_owned_of a, length_owned t)
  length_owned (Both a t) =
      let last = (TermEnd (site a) is Join (End (site a)) (end_of t)) ∷ [] in
      omega (arith, length-append (owned_of a) (owned t ++ last), length-append (owned t) last, length_owned_of a, length_owned t)

  pub length_owned_of : (a : Act) → length (owned_of a) ≡ count_of a
  length_owned_of (Cycle p n) = refl
  length_owned_of (Set p r e) = refl
  length_owned_of (Send p m e) = refl
  length_owned_of (Recv p m) = refl
  length_owned_of (If p e t u w) =
      let last = (End p is Merge (end_of t) (end_of u)) ∷ [] in
      let rest = (begin_of u is Side (Begin p)) ∷ owned u ++ last in
      omega (arith, length-append (owned t) rest, length-append (owned u) last, length_owned t, length_owned u)
  length_owned_of (When p e t) =
      let rest = (NoSide p is Side (Begin p)) ∷ (End p is Merge (end_of t) (NoSide p)) ∷ [] in
      omega (arith, length-append (owned t) rest, length_owned t)
  length_owned_of (Block p t) = length_owned t
  length_owned_of (Wait p y) = refl
  length_owned_of (Pure p e) = refl
  length_owned_of (Nothing p) = refl

-- Own n g: the node n is that of the point of g, whose form it has
module _ (node : Spot → ℕ) (Own : ℕ → Formed → Type 0) where
  -- the nodes from n on are those of these points
  abbrev pub Owns : ℕ → List Formed → Type 0
  Owns n [] = Unit {0}
  Owns n (g ∷ rest) = Own n g × Owns (suc n) rest

  pub owns_left : (n : ℕ) (gs hs : List Formed) → Owns n (gs ++ hs) → Owns n gs
  owns_left n [] hs o = tt
  owns_left n (g ∷ gs) hs o = (o.0, owns_left (suc n) gs hs o.1)

  pub owns_right : (n m : ℕ) (gs hs : List Formed) → n + length gs ≡ m → Owns n (gs ++ hs) → Owns m hs
  owns_right n m [] hs e o = let P : ℕ → Type 0 = λ z. Owns z hs in let f : n ≡ m = omega arith in subst P f o
  owns_right n m (g ∷ gs) hs e o = owns_right (suc n) m gs hs (omega arith) o.1

  own_at : (n m : ℕ) (g : Formed) → n ≡ m → Own n g → Own m g
  own_at n m g e o = let P : ℕ → Type 0 = λ z. Own z g in subst P e o

  -- what is said of a point with its form
  abbrev pub Step : Formed → Type 0
  Step g = ((c : Spot) × (g.form ≡ Same c) × (node g.spot ≡ node c)) ⊎ Own (node g.spot) g

  abbrev pub Steps : List Formed → Type 0
  Steps [] = Unit {0}
  Steps (g ∷ gs) = Step g × Steps gs

  steps_append : (gs hs : List Formed) → Steps gs → Steps hs → Steps (gs ++ hs)
  steps_append [] hs s t = t
  steps_append (g ∷ gs) hs s t = (s.0, steps_append gs hs s.1 t)

  shared : (b c : Spot) → node b ≡ node c → Step (b is Same c)
  shared b c e = inl (c, refl, e)

  own : (n : ℕ) (g : Formed) → node g.spot ≡ n → Own n g → Step g
  own n g e o = inr (own_at n (node g.spot) g (sym e) o)

  mutual
    pub steps : (from : ℕ) (t : Term) → Placed node from t → Owns from (owned t) → Steps (forms t)
    steps from (One a) p o = (shared _ _ p.0, (shared _ _ p.1, act_steps from a p.2 o))
    steps from (Then a t) p o =
        let l = length_owned_of a in
        let z : from + length (owned_of a) ≡ from + count_of a = omega arith in
        (shared _ _ p.0, (shared _ _ p.1, (shared _ _ p.2, steps_append (act_forms a) (forms t) (act_steps from a p.3 (owns_left from (owned_of a) _ o)) (steps (from + count_of a) t p.4 (owns_right from (from + count_of a) (owned_of a) _ z o)))))
    steps from (Both a t) p o =
        let last = (TermEnd (site a) is Join (End (site a)) (end_of t)) ∷ [] in
        let l = length_owned_of a in
        let k = length_owned t in
        let z : from + length (owned_of a) ≡ from + count_of a = omega arith in
        let rest = owns_right from (from + count_of a) (owned_of a) (owned t ++ last) z o in
        let y : from + count_of a + length (owned t) ≡ from + count_of a + count t = omega arith in
        let end = owns_right (from + count_of a) (from + count_of a + count t) (owned t) last y rest in
        (shared _ _ p.0, (shared _ _ p.1, (own (from + count_of a + count t) (TermEnd (site a) is Join (End (site a)) (end_of t)) p.2 end.0, steps_append (act_forms a) (forms t) (act_steps from a p.3 (owns_left from (owned_of a) _ o)) (steps (from + count_of a) t p.4 (owns_left (from + count_of a) (owned t) last rest)))))

    pub act_steps : (from : ℕ) (a : Act) → PlacedAct node from a → Owns from (owned_of a) → Steps (act_forms a)
    act_steps from (Cycle p n) k o = (own from _ k o.0, tt)
    act_steps from (Set p r e) k o = (own from _ k o.0, tt)
    act_steps from (Send p m e) k o = (own from _ k o.0, tt)
    act_steps from (Recv p m) k o = (own from _ k o.0, tt)
    act_steps from (If p e t u w) k o =
        let last = (End p is Merge (end_of t) (end_of u)) ∷ [] in
        let rest = (begin_of u is Side (Begin p)) ∷ owned u ++ last in
        let i = length_owned t in
        let j = length_owned u in
        let z : suc from + length (owned t) ≡ from + 1 + count t = omega arith in
        let other = owns_right (suc from) (from + 1 + count t) (owned t) rest z o.1 in
        let y : suc (from + 1 + count t) + length (owned u) ≡ from + 1 + count t + 1 + count u = omega arith in
        let end = owns_right (suc (from + 1 + count t)) (from + 1 + count t + 1 + count u) (owned u) last y other.1 in
        let P : ℕ → Type 0 = λ z. Owns z (owned t) in
        let Q : ℕ → Type 0 = λ z. Owns z (owned u) in
        let e1 : suc from ≡ from + 1 = omega arith in
        let e2 : suc (from + 1 + count t) ≡ from + 1 + count t + 1 = omega arith in
        (own from _ k.0 o.0, (own (from + 1 + count t) _ k.2 other.0, (own (from + 1 + count t + 1 + count u) _ k.4 end.0, steps_append (forms t) (forms u) (steps (from + 1) t k.1 (subst P e1 (owns_left (suc from) (owned t) rest o.1))) (steps (from + 1 + count t + 1) u k.3 (subst Q e2 (owns_left (suc (from + 1 + count t)) (owned u) last other.1))))))
    act_steps from (When p e t) k o =
        let rest = (NoSide p is Side (Begin p)) ∷ (End p is Merge (end_of t) (NoSide p)) ∷ [] in
        let i = length_owned t in
        let z : suc from + length (owned t) ≡ from + 1 + count t = omega arith in
        let other = owns_right (suc from) (from + 1 + count t) (owned t) rest z o.1 in
        let P : ℕ → Type 0 = λ z. Owns z (owned t) in
        let e1 : suc from ≡ from + 1 = omega arith in
        let e2 : suc (from + 1 + count t) ≡ from + 1 + count t + 1 = omega arith in
        (own from _ k.0 o.0, (own (from + 1 + count t) _ k.2 other.0, (own (suc (from + 1 + count t)) _ (k.3 ∙ sym e2) other.1.0, steps (from + 1) t k.1 (subst P e1 (owns_left (suc from) (owned t) rest o.1)))))
    act_steps from (Block p t) k o = (shared _ _ k.0, (shared _ _ k.1, steps from t k.2 o))
    act_steps from (Wait p y) k o = (own from _ k o.0, tt)
    act_steps from (Pure p e) k o = (shared _ _ k, tt)
    act_steps from (Nothing p) k o = (shared _ _ k, tt)

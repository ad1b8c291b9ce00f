-- A graph of the body `cycle 1`, with a node for each point of two turns: what is asked of a graph of a body can be met.
--
-- Each point of the text has one form, and its node has the like; from the node the point is known.
use Rattle.std.proofs.Common.{◌≡◌, ℕ, ◌⊎◌, inl, inr, arith, refl, sym, ◌∙◌, ap, subst, [], ◌∷◌, Bool, true, false, zero, suc}
use Rattle.order_rules.specs.Form.{Form, Start, Same, After, Sync, Join, Side, Merge}
use Rattle.order_rules.specs.Entry.{IsEarlier}
use Rattle.order_rules.specs.Standing.{IsPoint, AllOf, map_form, Chain, stop}
use Rattle.core_term.specs.Term.{Term, One, Cycle}
use Rattle.core_term.specs.Points.{Spot, Formed, TermBegin, TermEnd, Begin, End, NoSide, forms, ◌is◌}
use Rattle.core_term.specs.Order.{Point, IsFormed, HasForm, point}
use Rattle.core_term.specs.Process.{Process}
use Rattle.core_term.specs.Graph.{Graph, IsGraphOf}

abbrev body : Term
body = One (Cycle 0 1)

abbrev small : Process
small = record { name = []; ports = []; registers = []; threads = record { body = body; count = 1 } ∷ [] }

abbrev number : Bool → Spot → ℕ
number false (TermBegin p) = 0
number false (Begin p) = 1
number false (End p) = 2
number false (TermEnd p) = 3
number true (TermBegin p) = 4
number true (Begin p) = 5
number true (End p) = 6
number true (TermEnd p) = 7
number l (NoSide p) = 8

abbrev node : Point → ℕ
node b = number b.late b.spot

abbrev form : ℕ → Form ℕ
form zero = Start
form (suc zero) = Same 0
form (suc (suc zero)) = After 1 1
form (suc (suc (suc zero))) = Same 2
form (suc (suc (suc (suc zero)))) = Same 3
form (suc (suc (suc (suc (suc zero))))) = Same 4
form (suc (suc (suc (suc (suc (suc zero)))))) = After 1 5
form (suc (suc (suc (suc (suc (suc (suc zero))))))) = Same 6
form (suc (suc (suc (suc (suc (suc (suc (suc n)))))))) = Start

-- the points of the text, each with its one form
data Real : Point → Form Point → Type 0 where
  start : Real (point false (TermBegin 0)) Start
  next : Real (point true (TermBegin 0)) (Same (point false (TermEnd 0)))
  begin : (l : Bool) → Real (point l (Begin 0)) (Same (point l (TermBegin 0)))
  end : (l : Bool) → Real (point l (End 0)) (After 1 (point l (Begin 0)))
  term_end : (l : Bool) → Real (point l (TermEnd 0)) (Same (point l (End 0)))

parts : (g : Formed) (b : Spot) (f : Form Spot) → g ≡ (b is f) → (b ≡ g.spot) × (f ≡ g.form)
parts g b f e = (ap (λ (z : Formed). z.spot) (sym e), ap (λ (z : Formed). z.form) (sym e))

formed : (b : Spot) (f : Form Spot) → IsFormed (forms body) b f → ((b ≡ Begin 0) × (f ≡ Same (TermBegin 0))) ⊎ (((b ≡ TermEnd 0) × (f ≡ Same (End 0))) ⊎ ((b ≡ End 0) × (f ≡ After 1 (Begin 0))))
formed b f (inl e) = inl (parts _ b f e)
formed b f (inr (inl e)) = inr (inl (parts _ b f e))
formed b f (inr (inr (inl e))) = inr (inr (parts _ b f e))
formed b f (inr (inr (inr k))) = elim k [ ]

-- no other form stands in the text
abbrev Kind : Form Spot → Type 0
Kind Start = ⊥
Kind (Same c) = Unit {0}
Kind (After n c) = Unit {0}
Kind (Sync c) = ⊥
Kind (Join c d) = ⊥
Kind (Side c) = ⊥
Kind (Merge c d) = ⊥

kind : (b : Spot) (f : Form Spot) → IsFormed (forms body) b f → Kind f
kind b f k = elim (formed b f k) [ inl i ↦ subst Kind (sym i.1) tt | inr i ↦ elim i [ inl j ↦ subst Kind (sym j.1) tt | inr j ↦ subst Kind (sym j.1) tt ] ]

same_is : (s t : Spot) → Same s ≡ Same t → s ≡ t
same_is s t q = cc

not_after : (n : ℕ) (s t : Spot) → Same s ≡ After n t → ⊥
not_after n s t q = cc

not_same : (n : ℕ) (s t : Spot) → After n s ≡ Same t → ⊥
not_same n s t q = cc

count_is : (n m : ℕ) (s t : Spot) → After n s ≡ After m t → n ≡ m
count_is n m s t q = cc

spot_is : (n m : ℕ) (s t : Spot) → After n s ≡ After m t → s ≡ t
spot_is n m s t q = cc

at_next : (l m : Bool) (b s : Spot) → l ≡ true → b ≡ TermBegin 0 → m ≡ false → s ≡ TermEnd 0 → Real (point l b) (Same (point m s))
at_next l m b s e f i k = rw (e, f, i, k) next

at_begin : (l m : Bool) (b s : Spot) → l ≡ m → b ≡ Begin 0 → s ≡ TermBegin 0 → Real (point l b) (Same (point m s))
at_begin l m b s e f k = rw (e, f, k) (begin m)

at_term_end : (l m : Bool) (b s : Spot) → l ≡ m → b ≡ TermEnd 0 → s ≡ End 0 → Real (point l b) (Same (point m s))
at_term_end l m b s e f k = rw (e, f, k) (term_end m)

at_end : (n : ℕ) (l m : Bool) (b s : Spot) → l ≡ m → b ≡ End 0 → n ≡ 1 → s ≡ Begin 0 → Real (point l b) (After n (point m s))
at_end n l m b s e f i k = rw (e, f, i, k) (end m)

at_start : (l : Bool) (b : Spot) → l ≡ false → b ≡ TermBegin 0 → Real (point l b) Start
at_start l b e f = rw (e, f) start

real_at : (b : Point) (f : Form Point) → HasForm body b f → Real b f
real_at b Start (e, f) = at_start b.late b.spot e f
real_at b (Same c) (inr (e, f, i, k)) = at_next b.late c.late b.spot c.spot e f i k
real_at b (Same c) (inl (e, k)) = elim (formed b.spot (Same c.spot) k) [
  | inl i ↦ at_begin b.late c.late b.spot c.spot e i.0 (same_is c.spot (TermBegin 0) i.1)
  | inr i ↦ elim i [ inl j ↦ at_term_end b.late c.late b.spot c.spot e j.0 (same_is c.spot (End 0) j.1) | inr j ↦ absurd (not_after 1 c.spot (Begin 0) j.1) ]
]
real_at b (After n c) (e, k) = elim (formed b.spot (After n c.spot) k) [
  | inl i ↦ absurd (not_same n c.spot (TermBegin 0) i.1)
  | inr i ↦ elim i [ inl j ↦ absurd (not_same n c.spot (End 0) j.1) | inr j ↦ at_end n b.late c.late b.spot c.spot e j.0 (count_is n 1 c.spot (Begin 0) j.1) (spot_is n 1 c.spot (Begin 0) j.1) ]
]
real_at b (Sync c) (e, k) = absurd (kind b.spot (Sync c.spot) k)
real_at b (Side c) (e, k) = absurd (kind b.spot (Side c.spot) k)
real_at b (Join c d) (e, f, k) = absurd (kind b.spot (Join c.spot d.spot) k)
real_at b (Merge c d) (e, f, k) = absurd (kind b.spot (Merge c.spot d.spot) k)

here : {b : Point} {f : Form Point} → Real b f → HasForm body b f
here start = (refl, refl)
here next = inr (refl, refl, refl, refl)
here (begin l) = inl (refl, inl refl)
here (term_end l) = inl (refl, inr (inl refl))
here (end l) = (refl, inr (inr (inl refl)))

-- each point of the text has a node of its form, and from the node the point is known
node_form : {b : Point} {f : Form Point} → Real b f → form (node b) ≡ map_form node f
node_form start = refl
node_form next = refl
node_form (begin false) = refl
node_form (begin true) = refl
node_form (end false) = refl
node_form (end true) = refl
node_form (term_end false) = refl
node_form (term_end true) = refl

point_of : ℕ → Point
point_of zero = point false (TermBegin 0)
point_of (suc zero) = point false (Begin 0)
point_of (suc (suc zero)) = point false (End 0)
point_of (suc (suc (suc zero))) = point false (TermEnd 0)
point_of (suc (suc (suc (suc zero)))) = point true (TermBegin 0)
point_of (suc (suc (suc (suc (suc zero))))) = point true (Begin 0)
point_of (suc (suc (suc (suc (suc (suc zero)))))) = point true (End 0)
point_of (suc (suc (suc (suc (suc (suc (suc n))))))) = point true (TermEnd 0)

known : {b : Point} {f : Form Point} → Real b f → point_of (node b) ≡ b
unfolding point_of
known start = refl
known next = refl
known (begin false) = refl
known (begin true) = refl
known (end false) = refl
known (end true) = refl
known (term_end false) = refl
known (term_end true) = refl

is_point : (l : Bool) (s : Spot) (f : Form Point) → Real (point l s) f → IsPoint Point (HasForm body) (point l s)
is_point l s f r = (f, here r)

begins : (l : Bool) → IsPoint Point (HasForm body) (point l (TermBegin 0))
begins false = is_point false (TermBegin 0) Start start
begins true = is_point true (TermBegin 0) _ next

pred_of : {b : Point} {f : Form Point} → Real b f → AllOf (IsPoint Point (HasForm body)) f
pred_of start = tt
pred_of next = is_point false (TermEnd 0) _ (term_end false)
pred_of (begin l) = begins l
pred_of (end l) = is_point l (Begin 0) _ (begin l)
pred_of (term_end l) = is_point l (End 0) _ (end l)

earlier_at : (n : ℕ) → IsEarlier n (form n)
earlier_at zero = tt
earlier_at (suc zero) = omega arith
earlier_at (suc (suc zero)) = omega arith
earlier_at (suc (suc (suc zero))) = omega arith
earlier_at (suc (suc (suc (suc zero)))) = omega arith
earlier_at (suc (suc (suc (suc (suc zero))))) = omega arith
earlier_at (suc (suc (suc (suc (suc (suc zero)))))) = omega arith
earlier_at (suc (suc (suc (suc (suc (suc (suc zero))))))) = omega arith
earlier_at (suc (suc (suc (suc (suc (suc (suc (suc n)))))))) = tt

pub graph : Graph
graph = record { form = form; apart = λ a b. false; ends = λ m. []; node = node }

pub is_graph : IsGraphOf small body graph
unfolding graph
is_graph = record {
  earlier = earlier_at;
  stands = record {
    pred = λ b f k. pred_of (real_at b f k);
    step = λ b f k. inr (node_form (real_at b f k));
    root = λ b r g k. (b, r.0, stop, r.1, sym (node_form (real_at b r.0 r.1)) ∙ k);
    one = λ a b r s e.
        let equal : a ≡ b = sym (known (real_at a r.0 r.1)) ∙ (ap point_of e ∙ known (real_at b s.0 s.1)) in
        (a, stop, subst (λ c. Chain Point (HasForm body) a c) equal stop);
    apart = λ a b r s e. absurd e.1;
    apart_back = λ a b r s e. absurd cc;
  };
  ends_stand = λ m. record {
    within = λ n k. absurd k;
    within_back = λ n k. absurd k;
    at = λ b k. absurd k.2;
    at_back = λ v k. absurd k;
    root = λ b c k r e. absurd k.2;
  };
}

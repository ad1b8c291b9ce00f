-- Times for the points of a body that refute judgements: a test of all forms that computes, and what it means by the order law.
--
-- A judgement a + d <= b has no derivation where times that obey all forms put b less than d cycles after a. The times are of two
-- turns; of a body with an `if` the points of one of its sides are lost.
use Rattle.std.proofs.Common.{◌≡◌, ℕ, ◌+◌, ◌<◌, ◌≤◌, ◌⊎◌, inl, inr, arith, refl, sym, ◌∙◌, ap, subst, max, Bool, true, false, ◌&&◌, ◌||◌, ◌==◌, if◌then◌else◌, nat_le, List, [], ◌∷◌, zero, suc}
use Rattle.std.proofs.lemmas.Bool.Decides.{nat_tests}
use Rattle.std.proofs.lemmas.Int.{ints}
use Rattle.std.specs.Prelude.{ℤ, pos, ◌+ℤ◌, ◌<ℤ◌}
use Rattle.order_rules.specs.Form.{Form, Start, Same, After, Sync, Join, Side, Merge}
use Rattle.order_rules.specs.Before.{AtOnce, OnceOrLater, by_same, by_side, by_sync, by_first, by_second}
use Rattle.order_rules.specs.Timed.{Timed}
use Rattle.order_rules.proofs.Law.{law}
use Rattle.order_rules.proofs.LastLaw.{last_law}
use Rattle.core_term.specs.Term.{Term, One, Then, Both, Act, Cycle, Set, Send, Recv, If, When, Block, Wait, Pure, Nothing, site, head}
use Rattle.core_term.specs.Lists.{Has}
use Rattle.core_term.specs.Acts.{ActOn}
use Rattle.core_term.specs.Process.{LifeEnd, Cycles, Until}
use Rattle.core_term.specs.Lives.{HasEnding, LastPrecedes}
use Rattle.core_term.specs.Points.{Spot, TermBegin, TermEnd, Begin, End, NoSide, Formed, forms}
use Rattle.core_term.specs.Order.{Point, point, IsFormed, HasForm, Exclusive, Apart, ApartIn, Precedes}

-- when a point comes, if it comes
pub data Time : Type 0 where
  Lost : Time
  At : ℕ → Time

abbrev pub plus : ℕ → Time → Time
plus n Lost = Lost
plus n (At s) = At (s + n)

abbrev pub both : Time → Time → Time
both Lost o = Lost
both (At s) Lost = Lost
both (At s) (At u) = At (max s u)

-- The test.

abbrev pub same : Time → Time → Bool
same Lost Lost = true
same Lost (At u) = false
same (At s) Lost = false
same (At s) (At u) = s == u

abbrev pub is_lost : Time → Bool
is_lost Lost = true
is_lost (At s) = false

abbrev pub follows : Time → Time → Bool
follows (At s) (At u) = nat_le s u
follows Lost o = false
follows (At s) Lost = false

-- the time o of a point, against those of the points that its form names
abbrev pub obeys : Time → Form Time → Bool
obeys o Start = true
obeys o (Same c) = same o c
obeys o (Side c) = is_lost o || same o c
obeys o (After n c) = same o (plus n c)
obeys o (Sync c) = is_lost o || follows c o
obeys o (Join c e) = same o (both c e)
obeys o (Merge c e) = (same o c && is_lost e) || (same o e && is_lost c)

abbrev pub times_of : (Spot → Time) → Form Spot → Form Time
times_of time Start = Start
times_of time (Same c) = Same (time c)
times_of time (After n c) = After n (time c)
times_of time (Sync c) = Sync (time c)
times_of time (Join c e) = Join (time c) (time e)
times_of time (Side c) = Side (time c)
times_of time (Merge c e) = Merge (time c) (time e)

abbrev pub all_obey : (Spot → Time) → List Formed → Bool
all_obey time [] = true
all_obey time (f ∷ fs) = obeys (time f.spot) (times_of time f.form) && all_obey time fs

-- in both turns, of which the second begins where the first ends
abbrev pub fits : Term → (Point → Time) → Bool
fits body time =
    all_obey (λ b. time (point false b)) (forms body)
    && (all_obey (λ b. time (point true b)) (forms body) && same (time (point true (TermBegin (site (head body))))) (time (point false (TermEnd (site (head body))))))

-- What it means.

first_part : (a b : Bool) → (a && b) ≡ true → a ≡ true
first_part true b k = refl
first_part false b k = k

second_part : (a b : Bool) → (a && b) ≡ true → b ≡ true
second_part true b k = k
second_part false b k = absurd cc

either_part : (a b : Bool) → (a || b) ≡ true → (a ≡ true) ⊎ (b ≡ true)
either_part true b k = inl refl
either_part false b k = inr k

same_is : (o u : Time) → same o u ≡ true → o ≡ u
same_is Lost Lost k = refl
same_is Lost (At u) k = absurd cc
same_is (At s) Lost k = absurd cc
same_is (At s) (At u) k = let equal : s ≡ u = grind (arith, nat_tests) in ap At equal

lost_is : (o : Time) → is_lost o ≡ true → o ≡ Lost
lost_is Lost k = refl
lost_is (At s) k = absurd cc

formed_obeys : (time : Spot → Time) (fs : List Formed) (b : Spot) (f : Form Spot) → IsFormed fs b f → all_obey time fs ≡ true → obeys (time b) (times_of time f) ≡ true
formed_obeys time [] b f i k = elim i [ ]
formed_obeys time (g ∷ gs) b f (inl i) k = subst (λ h. obeys (time h.spot) (times_of time h.form) ≡ true) i (first_part _ _ k)
formed_obeys time (g ∷ gs) b f (inr i) k = formed_obeys time gs b f i (second_part (obeys (time g.spot) (times_of time g.form)) _ k)

module _ (body : Term) (time : Point → Time) (fit : fits body time ≡ true) where
  turn : (late : Bool) → all_obey (λ b. time (point late b)) (forms body) ≡ true
  turn false = first_part _ _ fit
  turn true = first_part _ _ (second_part (all_obey (λ b. time (point false b)) (forms body)) _ fit)

  next_turn : time (point true (TermBegin (site (head body)))) ≡ time (point false (TermEnd (site (head body))))
  next_turn = same_is _ _ (second_part (all_obey (λ b. time (point true b)) (forms body)) _ (second_part (all_obey (λ b. time (point false b)) (forms body)) _ fit))

  -- a point of the same turn
  moved : (b c : Point) → b.late ≡ c.late → time c ≡ time (point b.late c.spot)
  moved b c e = ap (λ l. time (point l c.spot)) (sym e)

  formed : (b : Point) (f : Form Spot) → IsFormed (forms body) b.spot f → obeys (time b) (times_of (λ c. time (point b.late c)) f) ≡ true
  formed b f i = formed_obeys (λ c. time (point b.late c)) (forms body) b.spot f i (turn b.late)

  same_form : (b c : Point) → HasForm body b (Same c) → time b ≡ time c
  same_form b c (inl k) = same_is _ _ (formed b (Same c.spot) k.1) ∙ sym (moved b c k.0)
  same_form b c (inr k) =
      let equal : b ≡ point true (TermBegin (site (head body))) = rw (← k.0, ← k.1) refl in
      let next_equal : c ≡ point false (TermEnd (site (head body))) = rw (← k.2, ← k.3) refl in
      ap time equal ∙ (next_turn ∙ ap time (sym next_equal))

  side_form : (b c : Point) → HasForm body b (Side c) → (time b ≡ Lost) ⊎ (time b ≡ time c)
  side_form b c k =
      elim (either_part _ _ (formed b (Side c.spot) k.1)) [
        | inl z ↦ inl (lost_is _ z)
        | inr z ↦ inr (same_is _ _ z ∙ sym (moved b c k.0))
      ]

  after_form : (b c : Point) (n : ℕ) → HasForm body b (After n c) → time b ≡ plus n (time c)
  after_form b c n k = same_is _ _ (formed b (After n c.spot) k.1) ∙ ap (plus n) (sym (moved b c k.0))

  sync_form : (b c : Point) → HasForm body b (Sync c) → (t : ℕ) → time b ≡ At t → (s : ℕ) × (s ≤ t) × (time c ≡ At s)
  sync_form b c k t e = go (time b) (time (point b.late c.spot)) e (moved b c k.0) (formed b (Sync c.spot) k.1)
    where
      go : (o u : Time) → o ≡ At t → time c ≡ u → (is_lost o || follows u o) ≡ true → (s : ℕ) × (s ≤ t) × (time c ≡ At s)
      go Lost u i j l = absurd cc
      go (At v) Lost i j l = absurd cc
      go (At v) (At s) i j l = let last_equal : v ≡ t = cc in let at_most : s ≤ v = grind (arith, nat_tests) in (s, omega arith, j)

  join_form : (b c e : Point) → HasForm body b (Join c e) → time b ≡ both (time c) (time e)
  join_form b c e k = same_is _ _ (formed b (Join c.spot e.spot) k.2) ∙ rw (moved b c k.0, moved b e k.1) refl

  merge_form : (b c e : Point) → HasForm body b (Merge c e) → ((time b ≡ time c) × (time e ≡ Lost)) ⊎ ((time b ≡ time e) × (time c ≡ Lost))
  merge_form b c e k =
      elim (either_part _ _ (formed b (Merge c.spot e.spot) k.2)) [
        | inl z ↦ inl (same_is _ _ (first_part _ _ z) ∙ sym (moved b c k.0), moved b e k.1 ∙ lost_is _ (second_part (same (time b) (time (point b.late c.spot))) _ z))
        | inr z ↦ inr (same_is _ _ (first_part _ _ z) ∙ sym (moved b e k.1), moved b c k.0 ∙ lost_is _ (second_part (same (time b) (time (point b.late e.spot))) _ z))
      ]

  first_of_two : (x y o : Time) (t : ℕ) → o ≡ At t → o ≡ both x y → (s : ℕ) × (s ≤ t) × (x ≡ At s)
  first_of_two Lost y o t e k = let equal : Lost ≡ At t = sym k ∙ e in absurd cc
  first_of_two (At s) Lost o t e k = let next_equal : Lost ≡ At t = sym k ∙ e in absurd cc
  first_of_two (At s) (At u) o t e k = let other_equal : At (max s u) ≡ At t = sym k ∙ e in let more_equal : max s u ≡ t = cc in (s, omega arith, refl)

  second_of_two : (x y o : Time) (t : ℕ) → o ≡ At t → o ≡ both x y → (s : ℕ) × (s ≤ t) × (y ≡ At s)
  second_of_two Lost y o t e k = let further_equal : Lost ≡ At t = sym k ∙ e in absurd cc
  second_of_two (At s) Lost o t e k = let second_equal : Lost ≡ At t = sym k ∙ e in absurd cc
  second_of_two (At s) (At u) o t e k = let last_equal : At (max s u) ≡ At t = sym k ∙ e in let third_equal : max s u ≡ t = cc in (u, omega arith, refl)

  shifted : (x o : Time) (n t : ℕ) → o ≡ At t → o ≡ plus n x → (s : ℕ) × (s + n ≤ t) × (x ≡ At s)
  shifted Lost o n t e k = let fourth_equal : Lost ≡ At t = sym k ∙ e in absurd cc
  shifted (At s) o n t e k = let fifth_equal : At (s + n) ≡ At t = sym k ∙ e in let late_equal : s + n ≡ t = cc in (s, omega arith, refl)

  max_is : (s u : ℕ) → (max s u ≡ s) ⊎ (max s u ≡ u)
  max_is s u = grind arith

  both_lost : (x y : Time) → (x ≡ Lost) ⊎ (y ≡ Lost) → both x y ≡ Lost
  both_lost Lost y k = refl
  both_lost (At s) Lost k = refl
  both_lost (At s) (At u) (inl k) = absurd cc
  both_lost (At s) (At u) (inr k) = absurd cc

  up_later : (b c : Point) (f : Form Point) → HasForm body b f → OnceOrLater c f → (t : ℕ) → time b ≡ At t → (s : ℕ) × (s ≤ t) × (time c ≡ At s)
  up_later b c f form by_same t e = (t, omega arith, sym (same_form b c form) ∙ e)
  up_later b c f form by_side t e =
      elim (side_form b c form) [
        | inl lost ↦ let equal : Lost ≡ At t = sym lost ∙ e in absurd cc
        | inr k ↦ (t, omega arith, sym k ∙ e)
      ]
  up_later b c f form by_sync t e = sync_form b c form t e
  up_later b c f form (by_first {d = d}) t e = first_of_two (time c) (time d) (time b) t e (join_form b c d form)
  up_later b c f form (by_second {d = d}) t e = second_of_two (time d) (time c) (time b) t e (join_form b d c form)

  at_once : (a c : Point) (f : Form Point) → HasForm body a f → AtOnce c f → (time a ≡ Lost) ⊎ (time a ≡ time c)
  at_once a c f form by_same = inr (same_form a c form)
  at_once a c f form by_side = side_form a c form

  -- judgements of distances and times below this are looked at
  abbrev far : ℕ
  far = 1000

  module _ (apart : (a b : Point) → Exclusive body a b → (t : ℕ) → time b ≡ At t → time a ≡ Lost) where
    pub timed : Timed Point (HasForm body) (Exclusive body) far (λ b. Unit {0}) (λ b t. time b ≡ At t) (λ b. time b ≡ Lost)
    timed = record {
      up_later = up_later;
      up_after = λ b c n form t e. shifted (time c) (time b) n t e (after_form b c n form);
      up_merge = λ b c e form t k. elim (merge_form b c e form) [ inl z ↦ inl (sym z.0 ∙ k) | inr z ↦ inr (sym z.0 ∙ k) ];
      left_same = λ a c f form once left. tt;
      left_after = λ a c n form left. tt;
      left_join = λ a c e form left. (tt, tt);
      left_merge = λ a c e form left. (tt, tt);
      down_same = λ a c f form once left s l k. elim (at_once a c f form once) [ inl z ↦ inl z | inr z ↦ inr (z ∙ k) ];
      down_after = λ a c n form left s l k. after_form a c n form ∙ ap (plus n) k;
      down_join = λ a c e form left s u l m i j. (max s u, max_is s u, join_form a c e form ∙ rw (i, j) refl);
      down_merge_first = λ a c e form left s l k. elim (merge_form a c e form) [ inl z ↦ z.0 ∙ k | inr z ↦ let equal : Lost ≡ At s = sym z.1 ∙ k in absurd cc ];
      down_merge_second = λ a c e form left s l k. elim (merge_form a c e form) [ inl z ↦ let next_equal : Lost ≡ At s = sym z.1 ∙ k in absurd cc | inr z ↦ z.0 ∙ k ];
      lost_same = λ a c f form once left k. elim (at_once a c f form once) [ inl z ↦ z | inr z ↦ z ∙ k ];
      lost_after = λ a c n form left k. after_form a c n form ∙ ap (plus n) k;
      lost_join = λ a c e form left k. join_form a c e form ∙ both_lost (time c) (time e) k;
      lost_merge = λ a c e form left k l. elim (merge_form a c e form) [ inl z ↦ z.0 ∙ k | inr z ↦ z.0 ∙ l ];
      apart = λ a b x left t k. apart a b x t k;
    }

    -- where the times put b less than d cycles after a, there is no derivation
    pub refuted : (a b : Point) (d : ℤ) (s t : ℕ) → time a ≡ At s → time b ≡ At t → (pos t <ℤ (pos far +ℤ d)) → (pos t <ℤ (pos s +ℤ d)) → Precedes body a d b → ⊥
    refuted a b d s t i j near late k =
        elim (law Point (HasForm body) (Exclusive body) far (λ b. Unit {0}) (λ b t. time b ≡ At t) (λ b. time b ≡ Lost) timed k tt t j near) [
          | inl lost ↦ let last_equal : Lost ≡ At s = sym lost ∙ i in absurd cc
          | inr z ↦ let other_equal : At s ≡ At z.0 = sym i ∙ z.2 in let more_equal : s ≡ z.0 = cc in let part = z.1 in omega (arith, ints)
        ]

    -- the same for the last cycle of a life from the end of the act q on, which is not before `final`
    pub refuted_last : (life : List LifeEnd) (q : ℕ) (b : Point) (d : ℤ) (s final t : ℕ) → time (point false (End q)) ≡ At s → time b ≡ At t
        → (Has life (Cycles 0) → ⊥) → ((n : ℕ) → Has life (Cycles (n + 1)) → final ≤ s + n)
        → ((m w u : ℕ) (c : Point) → Has life (Until m) → ActOn body w m → c.spot ≡ End w → time c ≡ At u → s ≤ u → final ≤ u)
        → t < far → (pos t <ℤ (pos far +ℤ d)) → (pos t <ℤ (pos final +ℤ d)) → LastPrecedes body life q d b → ⊥
    refuted_last life q b d s final t i j lasts by_count by_act short near late k =
        elim (last_law Point (HasForm body) (Exclusive body) far (λ b. Unit {0}) (λ b t. time b ≡ At t) (λ b. time b ≡ Lost) timed (HasEnding body life) (λ u l. u ≡ s → final ≤ l)
        lasts (λ n e u z. let by_by_count = by_count n e in omega arith)
        (λ c e u v o l z. by_act e.0 e.1 v c e.2 e.3 e.4 o (omega arith))
        (point false (End q)) tt k t j short near) [
          | inl lost ↦ let equal : Lost ≡ At s = sym lost ∙ i in absurd cc
          | inr z ↦
              let next_equal : At s ≡ At z.0 = sym i ∙ z.2 in
              let further_equal : z.0 ≡ s = cc in
              let at_most : final ≤ z.1 = z.3 further_equal in
              let next_part = z.4 in omega (arith, ints)
        ]

-- Bodies without an `if` have no points that exclude each other.
abbrev mutual
  pub no_if : Term → Bool
  no_if (One a) = no_if_in a
  no_if (Then a t) = no_if_in a && no_if t
  no_if (Both a t) = no_if_in a && no_if t

  no_if_in : Act → Bool
  no_if_in (If p e t u w) = false
  no_if_in (When p e t) = false
  no_if_in (Block p t) = no_if t
  no_if_in a = true

mutual
  none_apart : (t : Term) (b c : Spot) → no_if t ≡ true → Apart t b c → ⊥
  none_apart (One a) b c k x = none_apart_in a b c k x
  none_apart (Then a t) b c k (inl x) = none_apart_in a b c (first_part _ _ k) x
  none_apart (Then a t) b c k (inr x) = none_apart t b c (second_part (no_if_in a) _ k) x
  none_apart (Both a t) b c k (inl x) = none_apart_in a b c (first_part _ _ k) x
  none_apart (Both a t) b c k (inr x) = none_apart t b c (second_part (no_if_in a) _ k) x

  none_apart_in : (a : Act) (b c : Spot) → no_if_in a ≡ true → ApartIn a b c → ⊥
  none_apart_in (If p e t u w) b c k x = absurd cc
  none_apart_in (When p e t) b c k x = absurd cc
  none_apart_in (Block p t) b c k x = none_apart t b c k x
  none_apart_in (Cycle p n) b c k x = x
  none_apart_in (Set p r e) b c k x = x
  none_apart_in (Send p m e) b c k x = x
  none_apart_in (Recv p m) b c k x = x
  none_apart_in (Wait p y) b c k x = x
  none_apart_in (Pure p e) b c k x = x
  none_apart_in (Nothing p) b c k x = x

pub all_together : (body : Term) (time : Point → Time) → no_if body ≡ true → (a b : Point) → Exclusive body a b → (t : ℕ) → time b ≡ At t → time a ≡ Lost
all_together body time k a b x t e = absurd (none_apart body a.spot b.spot k x.1)

-- The times of an act of the first turn: where its term begins, where it begins and ends, and where its term ends.
pub data Stage : Type 0 where
  unreached : Stage
  stage : (term_begin begin end term_end : ℕ) → Stage

abbrev pub nth_stage : List Stage → ℕ → Stage
nth_stage [] p = unreached
nth_stage (first ∷ rest) zero = first
nth_stage (first ∷ rest) (suc p) = nth_stage rest p

abbrev term_begin_at : Stage → ℕ → Time
term_begin_at unreached n = Lost
term_begin_at (stage a b c d) n = At (a + n)

abbrev begin_at : Stage → ℕ → Time
begin_at unreached n = Lost
begin_at (stage a b c d) n = At (b + n)

abbrev end_at : Stage → ℕ → Time
end_at unreached n = Lost
end_at (stage a b c d) n = At (c + n)

abbrev term_end_at : Stage → ℕ → Time
term_end_at unreached n = Lost
term_end_at (stage a b c d) n = At (d + n)

-- so many cycles later
abbrev spot_time : List Stage → ℕ → Spot → Time
spot_time stages n (TermBegin p) = term_begin_at (nth_stage stages p) n
spot_time stages n (TermEnd p) = term_end_at (nth_stage stages p) n
spot_time stages n (Begin p) = begin_at (nth_stage stages p) n
spot_time stages n (End p) = end_at (nth_stage stages p) n
spot_time stages n (NoSide p) = Lost

-- the second turn goes as the first one, from its end on
abbrev pub times : List Stage → (length_of_turn : ℕ) → Point → Time
times stages n b = if b.late then spot_time stages n b.spot else spot_time stages 0 b.spot

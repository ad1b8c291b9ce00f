-- Judgements over the nodes of a small graph: a start 0, a node 1 two cycles after it, a node 2 at a cycle that a partner decides,
-- not before 1, and a node 3 at the later of 0 and 2. A life from 1 on has three cycles.
--
-- Each largest distance is derived, and times that obey the forms show that there is no larger one.
use Rattle.std.proofs.Common.{◌≡◌, ℕ, ◌+◌, ◌<◌, ◌≤◌, ◌⊎◌, inl, inr, arith, refl, sym, subst, zero, suc}
use Rattle.std.proofs.lemmas.Int.{ints}
use Rattle.std.specs.Prelude.{ℤ, pos, negsuc, ◌+ℤ◌, ◌<ℤ◌}
use Rattle.order_rules.specs.Form.{Form, Start, After, Sync, Join, Merge}
use Rattle.order_rules.specs.Before.{AtOnce, OnceOrLater, by_same, by_side, by_sync, by_first, by_second, Before}
use Rattle.order_rules.specs.Before as order
use Rattle.order_rules.specs.Last.{Ending, Within, Last}
use Rattle.order_rules.specs.Last as last
use Rattle.order_rules.specs.Timed.{Timed}
use Rattle.order_rules.proofs.Law.{law}
use Rattle.order_rules.proofs.LastLaw.{last_law}

abbrev form : ℕ → Form ℕ
form zero = Start
form (suc zero) = After 2 0
form (suc (suc zero)) = Sync 1
form (suc (suc (suc zero))) = Join 0 2
form (suc (suc (suc (suc n)))) = Start

abbrev HasForm : ℕ → Form ℕ → Type 0
HasForm b f = form b ≡ f

abbrev Exclusive : ℕ → ℕ → Type 0
Exclusive a b = ⊥

abbrev Precedes : ℕ → ℤ → ℕ → Type 0
Precedes = Before ℕ HasForm Exclusive

abbrev HasEnding : Ending ℕ → Type 0
HasEnding e = e ≡ Within 3

abbrev LastPrecedes : ℤ → ℕ → Type 0
LastPrecedes = Last ℕ HasForm Exclusive HasEnding 1

-- What is derived.

start_to_join : Precedes 0 (pos 2) 3
start_to_join = order.later {c = 2} refl by_second (order.later {c = 1} refl by_sync (order.after {c = 0} refl (order.here (omega (arith, ints)))))

after_to_sync : Precedes 1 (pos 0) 2
after_to_sync = order.later {c = 1} refl by_sync (order.here (omega (arith, ints)))

after_to_start : Precedes 1 (negsuc 1) 0
after_to_start = order.from_after {c = 0} refl (order.here (omega (arith, ints)))

last_to_join : LastPrecedes (negsuc 1) 3
last_to_join = last.within 2 refl (order.later {c = 2} refl by_second (order.later {c = 1} refl by_sync (order.here (omega (arith, ints)))))

-- The partner lets wait for so many cycles.
module _ (wait : ℕ) where
  abbrev time : ℕ → ℕ
  time zero = 0
  time (suc zero) = 2
  time (suc (suc zero)) = 2 + wait
  time (suc (suc (suc zero))) = 2 + wait
  time (suc (suc (suc (suc n)))) = 0

  of_sync : (c d : ℕ) → OnceOrLater c (Sync d) → c ≡ d
  of_sync c c' by_sync = refl

  of_join : (c d e : ℕ) → OnceOrLater c (Join d e) → (c ≡ d) ⊎ (c ≡ e)
  of_join c c' e by_first = inl refl
  of_join c d c' by_second = inr refl

  earlier : (b c : ℕ) (f : Form ℕ) → form b ≡ f → OnceOrLater c f → time c ≤ time b
  earlier zero c f e k = elim (subst (OnceOrLater c) (sym e) k) [ ]
  earlier (suc zero) c f e k = elim (subst (OnceOrLater c) (sym e) k) [ ]
  earlier (suc (suc zero)) c f e k = subst (λ z. time z ≤ 2 + wait) (sym (of_sync c 1 (subst (OnceOrLater c) (sym e) k))) (omega arith)
  earlier (suc (suc (suc zero))) c f e k =
      elim (of_join c 0 2 (subst (OnceOrLater c) (sym e) k)) [
        | inl i ↦ subst (λ z. time z ≤ 2 + wait) (sym i) (omega arith)
        | inr i ↦ subst (λ z. time z ≤ 2 + wait) (sym i) (omega arith)
      ]
  earlier (suc (suc (suc (suc n)))) c f e k = elim (subst (OnceOrLater c) (sym e) k) [ ]

  after_form : (b c n : ℕ) → form b ≡ After n c → (b ≡ 1) × (c ≡ 0) × (n ≡ 2)
  after_form zero c n e = absurd cc
  after_form (suc zero) c n e = (refl, cc, cc)
  after_form (suc (suc zero)) c n e = absurd cc
  after_form (suc (suc (suc zero))) c n e = absurd cc
  after_form (suc (suc (suc (suc m)))) c n e = absurd cc

  shifted : (b c n : ℕ) → form b ≡ After n c → time c + n ≡ time b
  shifted b c n e =
      let k = after_form b c n e in
      subst (λ z. time c + n ≡ time z) (sym k.0) (subst (λ z. time z + n ≡ 2) (sym k.1) (omega (arith, k.2)))

  not_merge : (b c d : ℕ) → form b ≡ Merge c d → ⊥
  not_merge zero c d e = cc
  not_merge (suc zero) c d e = cc
  not_merge (suc (suc zero)) c d e = cc
  not_merge (suc (suc (suc zero))) c d e = cc
  not_merge (suc (suc (suc (suc n)))) c d e = cc

  not_at_once : (b c : ℕ) (f : Form ℕ) → form b ≡ f → AtOnce c f → ⊥
  not_at_once zero c f e k = elim (subst (AtOnce c) (sym e) k) [ ]
  not_at_once (suc zero) c f e k = elim (subst (AtOnce c) (sym e) k) [ ]
  not_at_once (suc (suc zero)) c f e k = elim (subst (AtOnce c) (sym e) k) [ ]
  not_at_once (suc (suc (suc zero))) c f e k = elim (subst (AtOnce c) (sym e) k) [ ]
  not_at_once (suc (suc (suc (suc n)))) c f e k = elim (subst (AtOnce c) (sym e) k) [ ]

  joined : (a c d : ℕ) → form a ≡ Join c d → (c ≡ 0) × (d ≡ 2) × (a ≡ 3)
  joined zero c d e = absurd cc
  joined (suc zero) c d e = absurd cc
  joined (suc (suc zero)) c d e = absurd cc
  joined (suc (suc (suc zero))) c d e = (cc, cc, refl)
  joined (suc (suc (suc (suc n)))) c d e = absurd cc

  join_time : (a c d s u : ℕ) → form a ≡ Join c d → time c ≡ s → time d ≡ u → (m : ℕ) × ((m ≡ s) ⊎ (m ≡ u)) × (time a ≡ m)
  join_time a c d s u e i j =
      let k = joined a c d e in
      (u, inr refl, subst (λ z. time z ≡ u) (sym k.2) (subst (λ z. time z ≡ u) k.1 j))

  timed : (far : ℕ) → Timed ℕ HasForm Exclusive far (λ b. Unit {0}) (λ b t. time b ≡ t) (λ b. ⊥)
  timed far = record {
    up_later = λ b c f e k t i. (time c, let l = earlier b c f e k in omega arith, refl);
    up_after = λ b c n e t i. (time c, let l = shifted b c n e in omega arith, refl);
    up_merge = λ b c d e t i. absurd (not_merge b c d e);
    left_same = λ a c f e k l. tt;
    left_after = λ a c n e l. tt;
    left_join = λ a c d e l. (tt, tt);
    left_merge = λ a c d e l. (tt, tt);
    down_same = λ a c f e k l s m i. absurd (not_at_once a c f e k);
    down_after = λ a c n e l s m i. let k = shifted a c n e in omega arith;
    down_join = λ a c d e l s u m n i j. join_time a c d s u e i j;
    down_merge_first = λ a c d e l s m i. absurd (not_merge a c d e);
    down_merge_second = λ a c d e l s m i. absurd (not_merge a c d e);
    lost_same = λ a c f e k l x. x;
    lost_after = λ a c n e l x. x;
    lost_join = λ a c d e l x. elim x [ inl y ↦ y | inr y ↦ y ];
    lost_merge = λ a c d e l x y. x;
    apart = λ a b x. elim x [ ];
  }

  -- where the times put b less than d cycles after a, there is no derivation
  refuted : (a b far : ℕ) (d : ℤ) → (pos (time b) <ℤ (pos far +ℤ d)) → (pos (time b) <ℤ (pos (time a) +ℤ d)) → Precedes a d b → ⊥
  refuted a b far d near late k =
      elim (law ℕ HasForm Exclusive far (λ b. Unit {0}) (λ b t. time b ≡ t) (λ b. ⊥) (timed far) k tt (time b) refl near) [
        | inl lost ↦ lost
        | inr z ↦ let l = z.1 in let e : time a ≡ z.0 = z.2 in omega (arith, ints)
      ]

  three_cycles : (n : ℕ) → HasEnding (Within (n + 1)) → n ≡ 2
  three_cycles n e = let k : n + 1 ≡ 3 = cc in omega arith

  not_zero : (k : ℕ) → HasEnding (Within k) → 3 ≡ k
  not_zero k e = cc

  not_none : HasEnding (Within 0) → ⊥
  not_none e = let k : 3 ≡ 0 = not_zero 0 e in omega (arith, k)

  not_at : (b : ℕ) → HasEnding (last.At b) → ⊥
  not_at b e = cc

  refuted_last : (b far : ℕ) (d : ℤ) → time b < far → (pos (time b) <ℤ (pos far +ℤ d)) → (pos (time b) <ℤ (pos 4 +ℤ d)) → LastPrecedes d b → ⊥
  refuted_last b far d short near late k =
      elim (last_law ℕ HasForm Exclusive far (λ b. Unit {0}) (λ b t. time b ≡ t) (λ b. ⊥) (timed far) HasEnding (λ s l. s ≡ 2 → l ≡ 4)
      not_none (λ n e s i. let j = three_cycles n e in omega arith) (λ b e. absurd (not_at b e)) 1 tt k (time b) refl short near) [
        | inl lost ↦ lost
        | inr z ↦ let i : 2 ≡ z.0 = z.2 in let l : z.1 ≡ 4 = z.3 (sym i) in let m = z.4 in omega (arith, ints)
      ]

-- What is not: no larger distance, and none at all from the partner's cycle back.

not_three : Precedes 0 (pos 3) 3 → ⊥
not_three = refuted 0 0 3 10 (pos 3) (omega (arith, ints)) (omega (arith, ints))

not_one : Precedes 1 (pos 1) 2 → ⊥
not_one = refuted 0 1 2 10 (pos 1) (omega (arith, ints)) (omega (arith, ints))

not_before_start : Precedes 1 (negsuc 0) 0 → ⊥
not_before_start = refuted 0 1 0 10 (negsuc 0) (omega (arith, ints)) (omega (arith, ints))

never : (d : ℤ) → Precedes 2 d 1 → ⊥
never (pos n) = refuted 1 2 1 10 (pos n) (omega (arith, ints)) (omega (arith, ints))
never (negsuc n) = refuted (n + 2) 2 1 (n + 10) (negsuc n) (omega (arith, ints)) (omega (arith, ints))

last_not_one_back : LastPrecedes (negsuc 0) 3 → ⊥
last_not_one_back = refuted_last 0 3 10 (negsuc 0) (omega arith) (omega (arith, ints)) (omega (arith, ints))

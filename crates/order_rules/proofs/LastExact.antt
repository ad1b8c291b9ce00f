-- The same for a table of the last cycle of a life: one that is closed under its equations is exact.
--
-- The ends of the life are looked at one by one; each bounds the last cycle by the table of the order.
use Rattle.std.proofs.Common.{◌≡◌, ℕ, ◌+◌, ◌-◌, ◌<◌, inl, inr, arith, refl, ◌∙◌, subst, Bool, true, false, if◌then◌else◌, ◌==◌, List, [], ◌∷◌, zero, suc}
use Rattle.std.proofs.lemmas.Bool.Decides.{nat_tests}
use Rattle.std.specs.Prelude.{ℤ, pos, negsuc}
use Rattle.std.proofs.lemmas.Int.{ints}
use Rattle.order_rules.specs.Form.{Form, Start, Same, After, Sync, Join, Side, Merge}
use Rattle.order_rules.specs.Before.{by_same, by_side, by_sync, by_first, by_second}
use Rattle.order_rules.specs.Last.{Ending, Within, At, Last, within, empty, at, weaker, later, after, merged, exclusive}
use Rattle.order_rules.specs.Lag.{Lag, Never, AtLeast, Vacuous, Admits}
use Rattle.order_rules.specs.Entry.{most, more, fewer, right, entry, IsEarlier}
use Rattle.order_rules.specs.LastEntry.{IsListed, from_zero, end_entry, ends_entry, last_entry}
use Rattle.order_rules.proofs.Exact.{admits_less, most_first, most_second, most_either, least_both, least_parts, more_to, more_of, fewer_to, fewer_of, complete, sound}

zero_true : (l : Lag) → Admits l (pos 0) → from_zero l ≡ true
zero_true Never k = elim k [ ]
zero_true Vacuous k = refl
zero_true (AtLeast (pos n)) k = refl
zero_true (AtLeast (negsuc n)) k = absurd (omega (arith, ints))

true_zero : (l : Lag) → from_zero l ≡ true → Admits l (pos 0)
true_zero Never k = absurd cc
true_zero Vacuous k = tt
true_zero (AtLeast (pos n)) k = omega (arith, ints)
true_zero (AtLeast (negsuc n)) k = absurd cc

module _ (form : ℕ → Form ℕ) (apart : ℕ → ℕ → Bool) (table : ℕ → ℕ → Lag) (closed : (a b : ℕ) → table a b ≡ entry form apart table a b) (earlier : (b : ℕ) → IsEarlier b (form b))
    (ends : List (Ending ℕ)) (a : ℕ) (e : ℕ → Lag) (closed_last : (b : ℕ) → e b ≡ last_entry form apart table ends a e b) where
  abbrev HasForm : ℕ → Form ℕ → Type 0
  HasForm b f = form b ≡ f

  abbrev Apart : ℕ → ℕ → Type 0
  Apart a b = apart a b ≡ true

  abbrev pub Ends : ℤ → ℕ → Type 0
  Ends = Last ℕ HasForm Apart (IsListed ends) a

  into : (b : ℕ) (d : ℤ) → Admits (most (ends_entry (table a b) b ends) (right (λ c z. e z) a (form b))) d → Admits (e b) d
  into b d k = rw closed_last (go (apart a b))
    where
      go : (c : Bool) → Admits (if c then Vacuous else most (ends_entry (table a b) b ends) (right (λ c z. e z) a (form b))) d
      go true = tt
      go false = k

  listed : (b : ℕ) (d : ℤ) (gs : List (Ending ℕ)) (f : Ending ℕ) → IsListed gs f → Admits (end_entry (table a b) b f) d → Admits (ends_entry (table a b) b gs) d
  listed b d [] f i k = elim i [ ]
  listed b d (g ∷ gs) f (inl i) k = let P : Ending ℕ → Type 0 = λ z. Admits (end_entry (table a b) b z) d in most_first _ _ d (subst P i k)
  listed b d (g ∷ gs) f (inr i) k = most_second (end_entry (table a b) b g) _ d (listed b d gs f i k)

  by_end : (b : ℕ) (d : ℤ) (f : Ending ℕ) → IsListed ends f → Admits (end_entry (table a b) b f) d → Admits (e b) d
  by_end b d f i k = into b d (most_first _ _ d (listed b d ends f i k))

  by_right : (b : ℕ) (d : ℤ) → Admits (right (λ c z. e z) a (form b)) d → Admits (e b) d
  by_right b d k = into b d (most_second (ends_entry (table a b) b ends) _ d k)

  -- the table has each judgement
  pub complete_last : {b : ℕ} {d : ℤ} → Ends d b → Admits (e b) d
  complete_last (within {b = b} {d = d} n i r) =
      let k : (n + 1 == 0) ≡ false = grind (arith, nat_tests) in
      let m : n + 1 - 1 ≡ n = omega arith in
      let z : Admits (fewer n (table a b)) d = fewer_to n (table a b) d (complete form apart table closed earlier r) in
      let y : Admits (if n + 1 == 0 then more 1 (table a b) else fewer (n + 1 - 1) (table a b)) d = rw (k, m) z in
      by_end b d (Within (n + 1)) i y
  complete_last (empty {b = b} {d = d} i r) = by_end b d (Within 0) i (more_to 1 (table a b) d (complete form apart table closed earlier r))
  complete_last (at {b = b} {d = d} i r n) =
      let k : (b == b) ≡ true = grind (arith, nat_tests) in
      let z : from_zero (table a b) ≡ true = zero_true (table a b) (complete form apart table closed earlier r) in
      let y : Admits (if b == b then (if from_zero (table a b) then AtLeast (pos 0) else Never) else Never) d = rw (k, z) n in
      by_end b d (At b) i y
  complete_last (weaker {b = b} {d = d} {e = d'} k r) = admits_less (e b) d d' k (complete_last r)
  complete_last (later {b = b} {d = d} f by_same r) = by_right b d (rw f (complete_last r))
  complete_last (later {b = b} {d = d} f by_side r) = by_right b d (rw f (complete_last r))
  complete_last (later {b = b} {d = d} f by_sync r) = by_right b d (rw f (complete_last r))
  complete_last (later {b = b} {d = d} f by_first r) = by_right b d (rw f (most_first _ _ d (complete_last r)))
  complete_last (later {b = b} {d = d} f by_second r) = by_right b d (rw f (most_second _ _ d (complete_last r)))
  complete_last (after {b = b} {d = d} {n = n} f r) = by_right b d (rw f (more_to n _ d (complete_last r)))
  complete_last (merged {b = b} {d = d} f r q) = by_right b d (rw f (least_both _ _ d (complete_last r) (complete_last q)))
  complete_last (exclusive {b = b} {d = d} x) =
      let q : last_entry form apart table ends a e b ≡ Vacuous = rw x refl in
      let k : e b ≡ Vacuous = closed_last b ∙ q in rw k tt

  end_sound : (b : ℕ) (d : ℤ) (f : Ending ℕ) → IsListed ends f → Admits (end_entry (table a b) b f) d → Ends d b
  end_sound b d (Within k) i m = go (k == 0) refl m
    where
      go : (c : Bool) → (k == 0) ≡ c → Admits (if c then more 1 (table a b) else fewer (k - 1) (table a b)) d → Ends d b
      go true q n =
          let z : k ≡ 0 = grind (arith, nat_tests) in
          let P : ℕ → Type 0 = λ z. IsListed ends (Within z) in
          empty (subst P z i) (sound form apart table closed earlier a b _ (more_of 1 (table a b) d n))
      go false q n =
          let z : k ≡ 0 → ⊥ = grind (arith, nat_tests) in
          let y : k ≡ k - 1 + 1 = omega (arith, z) in
          let P : ℕ → Type 0 = λ z. IsListed ends (Within z) in
          within (k - 1) (subst P y i) (sound form apart table closed earlier a b _ (fewer_of (k - 1) (table a b) d n))
  end_sound b d (At c) i m = go (c == b) refl (from_zero (table a b)) refl m
    where
      go : (u : Bool) → (c == b) ≡ u → (v : Bool) → from_zero (table a b) ≡ v → Admits (if u then (if v then AtLeast (pos 0) else Never) else Never) d → Ends d b
      go true q true r n =
          let z : c ≡ b = grind (arith, nat_tests) in
          let P : ℕ → Type 0 = λ y. IsListed ends (At y) in
          at (subst P z i) (sound form apart table closed earlier a b (pos 0) (true_zero (table a b) r)) n
      go true q false r n = elim n [ ]
      go false q v r n = elim n [ ]

  ends_sound : (b : ℕ) (d : ℤ) (gs : List (Ending ℕ)) → ((f : Ending ℕ) → IsListed gs f → IsListed ends f) → Admits (ends_entry (table a b) b gs) d → Ends d b
  ends_sound b d [] k m = elim m [ ]
  ends_sound b d (g ∷ gs) k m = elim (most_either (end_entry (table a b) b g) _ d m) [ inl n ↦ end_sound b d g (k g (inl refl)) n | inr n ↦ ends_sound b d gs (λ f i. k f (inr i)) n ]

  right_sound : (b : ℕ) (d : ℤ) (f : Form ℕ) → form b ≡ f → IsEarlier b f → ((c : ℕ) (d : ℤ) → c < b → Admits (e c) d → Ends d c) → Admits (right (λ c z. e z) a f) d → Ends d b
  right_sound b d Start q k g m = elim m [ ]
  right_sound b d (Same c) q k g m = later q by_same (g c d k m)
  right_sound b d (Side c) q k g m = later q by_side (g c d k m)
  right_sound b d (Sync c) q k g m = later q by_sync (g c d k m)
  right_sound b d (After n c) q k g m = after q (g c _ k (more_of n (e c) d m))
  right_sound b d (Join c c') q k g m = elim (most_either (e c) (e c') d m) [ inl p ↦ later q by_first (g c d k.0 p) | inr p ↦ later q by_second (g c' d k.1 p) ]
  right_sound b d (Merge c c') q k g m = let p = least_parts (e c) (e c') d m in merged q (g c d k.0 p.0) (g c' d k.1 p.1)

  -- and has nothing else
  sound_to : (n b : ℕ) (d : ℤ) → b < n → Admits (e b) d → Ends d b
  sound_to zero b d k m = absurd (omega arith)
  sound_to (suc n) b d k m = go (apart a b) refl (rw closed_last at m) (sound_to n)
    where
      go : (c : Bool) → apart a b ≡ c → Admits (if c then Vacuous else most (ends_entry (table a b) b ends) (right (λ c z. e z) a (form b))) d → ((b : ℕ) (d : ℤ) → b < n → Admits (e b) d → Ends d b) → Ends d b
      go true q p ih = exclusive q
      go false q p ih =
          elim (most_either (ends_entry (table a b) b ends) _ d p) [
            | inl r ↦ ends_sound b d ends (λ f i. i) r
            | inr r ↦ right_sound b d (form b) refl (earlier b) (λ c z y. ih c z (omega arith)) r
          ]

  pub sound_last : (b : ℕ) (d : ℤ) → Admits (e b) d → Ends d b
  sound_last b d m = sound_to (b + 1) b d (omega arith) m

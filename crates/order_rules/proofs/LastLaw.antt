-- The last law: where last + d <= b is derived for a life from a on and b comes at cycle t, either a is lost, or a has come and
-- what lives from it on is over by t - d.
--
-- By induction over the derivation. The two rules of the ends use the order law for a; the others go up from b as there.
use Rattle.std.proofs.Common.{ℕ, ◌+◌, ◌<◌, ◌≤◌, ◌⊎◌, inl, inr, arith}
use Rattle.std.specs.Prelude.{ℤ, pos, ◌+ℤ◌, ◌≤ℤ◌, ◌<ℤ◌}
use Rattle.std.proofs.lemmas.Int.{ints}
use Rattle.order_rules.specs.Form.{Form}
use Rattle.order_rules.specs.Timed.{Timed}
use Rattle.order_rules.specs.Last.{Ending, Within, At, Last, within, empty, at, weaker, later, after, merged, exclusive}
use Rattle.order_rules.proofs.Law as order

module _ (P : Type 0) (HasForm : P → Form P → Type 0) (Exclusive : P → P → Type 0) (T : ℕ) (Left : P → Type 0) (Occurs : P → ℕ → Type 0) (Lost : P → Type 0) (timed : Timed P HasForm Exclusive T Left Occurs Lost)
    (HasEnding : Ending P → Type 0) (Over : ℕ → ℕ → Type 0)
    (lasts : HasEnding (Within 0) → ⊥) (over_within : (n : ℕ) → HasEnding (Within (n + 1)) → (s : ℕ) → Over s (s + n))
    (over_at : (b : P) → HasEnding (At b) → (s t : ℕ) → Occurs b t → s ≤ t → Over s t) (a : P) (left : Left a) where
  -- a has occurred, and what lives from it on is over by t - d
  abbrev pub IsOver : ℤ → ℕ → Type 0
  IsOver d t = Lost a ⊎ ((s l : ℕ) × Occurs a s × Over s l × ((pos l +ℤ d) ≤ℤ pos t))

  pub last_law : {b : P} {d : ℤ} → Last P HasForm Exclusive HasEnding a d b → (t : ℕ) → Occurs b t → t < T → pos t <ℤ (pos T +ℤ d) → IsOver d t
  last_law (within n e r) t o lt less =
      elim (order.law P HasForm Exclusive T Left Occurs Lost timed r left t o (omega (arith, ints))) [
        | inl x ↦ inl x
        | inr x ↦ inr (x.0, x.0 + n, x.2, over_within n e x.0, omega (arith, ints))
      ]
  last_law (empty e r) t o lt less = absurd (lasts e)
  last_law (at {b = b} e r z) t o lt less =
      elim (order.law P HasForm Exclusive T Left Occurs Lost timed r left t o (omega (arith, ints))) [
        | inl x ↦ inl x
        | inr x ↦ let y : x.0 ≤ t = omega (arith, ints) in inr (x.0, t, x.2, over_at b e x.0 t o y, omega (arith, ints))
      ]
  last_law (weaker h r) t o lt less =
      elim (last_law r t o lt (omega (arith, ints))) [
        | inl x ↦ inl x
        | inr x ↦ inr (x.0, x.1, x.2, x.3, omega (arith, ints))
      ]
  last_law (later f k r) t o lt less =
      let c = timed.up_later _ _ _ f k t o in
      elim (last_law r c.0 c.2 (omega arith) (omega (arith, ints))) [
        | inl x ↦ inl x
        | inr x ↦ inr (x.0, x.1, x.2, x.3, omega (arith, ints))
      ]
  last_law (after f r) t o lt less =
      let c = timed.up_after _ _ _ f t o in
      elim (last_law r c.0 c.2 (omega arith) (omega (arith, ints))) [
        | inl x ↦ inl x
        | inr x ↦ inr (x.0, x.1, x.2, x.3, omega (arith, ints))
      ]
  last_law (merged f r q) t o lt less =
      elim (timed.up_merge _ _ _ f t o) [
        | inl x ↦ last_law r t x lt less
        | inr x ↦ last_law q t x lt less
      ]
  last_law (exclusive e) t o lt less = inl (timed.apart _ _ e left t o)

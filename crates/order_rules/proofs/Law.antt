-- The order law: where a + d <= b is derived and b comes at cycle t, either a is lost, or a has come at t - d or before.
--
-- By induction over the derivation; each of the ten rules keeps the law by itself. The rules on the right go up from b, which
-- always has come; those on the left go down to a, and need t - d to be within the list.
use Rattle.std.proofs.Common.{ℕ, ◌+◌, ◌⊎◌, inl, inr, arith}
use Rattle.std.specs.Prelude.{ℤ, pos, ◌+ℤ◌, ◌≤ℤ◌, ◌<ℤ◌}
use Rattle.std.proofs.lemmas.Int.{ints}
use Rattle.order_rules.specs.Form.{Form}
use Rattle.order_rules.specs.Before.{Before, here, weaker, later, after, merged, from_same, from_after, from_join, from_merge, exclusive}
use Rattle.order_rules.specs.Timed.{Timed}

module _ (P : Type 0) (HasForm : P → Form P → Type 0) (Exclusive : P → P → Type 0) (T : ℕ) (Left : P → Type 0) (At : P → ℕ → Type 0) (Lost : P → Type 0) (timed : Timed P HasForm Exclusive T Left At Lost) where
  -- what the law says of a at cycle t of b
  abbrev Held : P → ℤ → ℕ → Type 0
  Held a d t = Lost a ⊎ ((s : ℕ) × ((pos s +ℤ d) ≤ℤ pos t) × At a s)

  pub law : {a b : P} {d : ℤ} → Before P HasForm Exclusive a d b → Left a → (t : ℕ) → At b t → pos t <ℤ (pos T +ℤ d) → Held a d t
  law (here h) l t at less = inr (t, omega (arith, ints), at)
  law (weaker {d = d} {e = e} h r) l t at less =
      elim (law r l t at (omega (arith, ints))) [
        | inl x ↦ inl x
        | inr x ↦ inr (x.0, omega (arith, ints), x.2)
      ]
  law (later f k r) l t at less =
      let c = timed.up_later _ _ _ f k t at in
      elim (law r l c.0 c.2 (omega (arith, ints))) [
        | inl x ↦ inl x
        | inr x ↦ inr (x.0, omega (arith, ints), x.2)
      ]
  law (after f r) l t at less =
      let c = timed.up_after _ _ _ f t at in
      elim (law r l c.0 c.2 (omega (arith, ints))) [
        | inl x ↦ inl x
        | inr x ↦ inr (x.0, omega (arith, ints), x.2)
      ]
  law (merged f r q) l t at less =
      elim (timed.up_merge _ _ _ f t at) [
        | inl x ↦ law r l t x less
        | inr x ↦ law q l t x less
      ]
  law (from_same f k r) l t at less =
      elim (law r (timed.left_same _ _ _ f k l) t at less) [
        | inl x ↦ inl (timed.lost_same _ _ _ f k l x)
        | inr x ↦ elim (timed.down_same _ _ _ f k l x.0 (omega (arith, ints)) x.2) [
          | inl y ↦ inl y
          | inr y ↦ inr (x.0, x.1, y)
        ]
      ]
  law (from_after {n = n} f r) l t at less =
      elim (law r (timed.left_after _ _ _ f l) t at (omega (arith, ints))) [
        | inl x ↦ inl (timed.lost_after _ _ _ f l x)
        | inr x ↦ inr (x.0 + n, omega (arith, ints), timed.down_after _ _ _ f l x.0 (omega (arith, ints)) x.2)
      ]
  law (from_join f r q) l t at less =
      let both = timed.left_join _ _ _ f l in
      elim (law r both.0 t at less) [
        | inl x ↦ inl (timed.lost_join _ _ _ f l (inl x))
        | inr x ↦ elim (law q both.1 t at less) [
          | inl y ↦ inl (timed.lost_join _ _ _ f l (inr y))
          | inr y ↦
              let m = timed.down_join _ _ _ f l x.0 y.0 (omega (arith, ints)) (omega (arith, ints)) x.2 y.2 in
              inr (m.0, elim m.1 [ inl e ↦ omega (arith, ints) | inr e ↦ omega (arith, ints) ], m.2)
        ]
      ]
  law (from_merge f r q) l t at less =
      let both = timed.left_merge _ _ _ f l in
      elim (law r both.0 t at less) [
        | inr x ↦ inr (x.0, x.1, timed.down_merge_first _ _ _ f l x.0 (omega (arith, ints)) x.2)
        | inl x ↦ elim (law q both.1 t at less) [
          | inr y ↦ inr (y.0, y.1, timed.down_merge_second _ _ _ f l y.0 (omega (arith, ints)) y.2)
          | inl y ↦ inl (timed.lost_merge _ _ _ f l x y)
        ]
      ]
  law (exclusive e) l t at less = inl (timed.apart _ _ e l t at)

-- Each graph has such a table, found from earlier nodes; so each judgement over a graph holds or does not.
use Rattle.std.proofs.Common.{◌≡◌, ℕ, ◌+◌, ◌<◌, ◌⊎◌, inl, inr, arith, refl, ap, Bool, true, zero, suc}
use Rattle.std.specs.Prelude.{ℤ}
use Rattle.std.proofs.lemmas.Int.{ints, by_lt_z}
use Rattle.order_rules.specs.Form.{Form, Start, Same, After, Sync, Join, Side, Merge}
use Rattle.order_rules.specs.Before.{Before}
use Rattle.order_rules.specs.Lag.{Lag, Never, AtLeast, Vacuous, Admits}
use Rattle.order_rules.specs.Entry.{more, fewer, right, left, entry, IsEarlier}
use Rattle.order_rules.proofs.Exact.{complete, sound}

module _ (form : ℕ → Form ℕ) (apart : ℕ → ℕ → Bool) (earlier : (b : ℕ) → IsEarlier b (form b)) where
  right_same : (l m : ℕ → ℕ → Lag) (a b : ℕ) (f : Form ℕ) → IsEarlier b f → ((c : ℕ) → c < b → l a c ≡ m a c) → right l a f ≡ right m a f
  right_same l m a b Start e k = refl
  right_same l m a b (Same c) e k = k c e
  right_same l m a b (Side c) e k = k c e
  right_same l m a b (Sync c) e k = k c e
  right_same l m a b (After n c) e k = ap (more n) (k c e)
  right_same l m a b (Join c d) e k = rw (k c e.0, k d e.1) refl
  right_same l m a b (Merge c d) e k = rw (k c e.0, k d e.1) refl

  left_same : (l m : ℕ → ℕ → Lag) (a b : ℕ) (f : Form ℕ) → IsEarlier a f → ((c : ℕ) → c < a → l c b ≡ m c b) → left l b f ≡ left m b f
  left_same l m a b Start e k = refl
  left_same l m a b (Same c) e k = k c e
  left_same l m a b (Side c) e k = k c e
  left_same l m a b (Sync c) e k = refl
  left_same l m a b (After n c) e k = ap (fewer n) (k c e)
  left_same l m a b (Join c d) e k = rw (k c e.0, k d e.1) refl
  left_same l m a b (Merge c d) e k = rw (k c e.0, k d e.1) refl

  entry_same : (l m : ℕ → ℕ → Lag) (a b : ℕ) → ((c d : ℕ) → c + d < a + b → l c d ≡ m c d) → entry form apart l a b ≡ entry form apart m a b
  entry_same l m a b k =
      let p = right_same l m a b (form b) (earlier b) (λ c z. k a c (omega arith)) in
      let q = left_same l m a b (form a) (earlier a) (λ c z. k c b (omega arith)) in
      rw (p, q) refl

  pub lag_to : ℕ → ℕ → ℕ → Lag
  lag_to zero a b = Never
  lag_to (suc n) a b = entry form apart (lag_to n) a b

  to_same : (n m a b : ℕ) → a + b < n → a + b < m → lag_to n a b ≡ lag_to m a b
  unfolding lag_to
  to_same zero m a b k k' = absurd (omega arith)
  to_same (suc n) zero a b k k' = absurd (omega arith)
  to_same (suc n) (suc m) a b k k' = entry_same (lag_to n) (lag_to m) a b (λ c d z. to_same n m c d (omega arith) (omega arith))

  pub lag : ℕ → ℕ → Lag
  lag a b = lag_to (suc (a + b)) a b

  pub closed : (a b : ℕ) → lag a b ≡ entry form apart lag a b
  unfolding lag lag_to
  closed a b = entry_same (lag_to (a + b)) lag a b (λ c d z. to_same (a + b) (suc (c + d)) c d z (omega arith))

  pub decide : (l : Lag) (d : ℤ) → Admits l d ⊎ (Admits l d → ⊥)
  decide Never d = inr (λ k. k)
  decide Vacuous d = inl tt
  decide (AtLeast e) d = by_lt_z e d (λ k. inr (λ m. omega (arith, ints))) (λ k. inl k)

  pub holds_or_not : (a b : ℕ) (d : ℤ) → Before ℕ (λ b f. form b ≡ f) (λ a b. apart a b ≡ true) a d b ⊎ (Before ℕ (λ b f. form b ≡ f) (λ a b. apart a b ≡ true) a d b → ⊥)
  holds_or_not a b d =
      elim (decide (lag a b) d) [
        | inl k ↦ inl (sound form apart lag closed earlier a b d k)
        | inr k ↦ inr (λ r. k (complete form apart lag closed earlier r))
      ]

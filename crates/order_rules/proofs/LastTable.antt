-- Each graph has a table of the last cycle of a life with a list of ends.
use Rattle.std.proofs.Common.{◌≡◌, ℕ, ◌<◌, arith, refl, ap, Bool, List, zero, suc}
use Rattle.order_rules.specs.Form.{Form, Start, Same, After, Sync, Join, Side, Merge}
use Rattle.order_rules.specs.Last.{Ending}
use Rattle.order_rules.specs.Lag.{Lag, Never}
use Rattle.order_rules.specs.Entry.{more, right, IsEarlier}
use Rattle.order_rules.specs.LastEntry.{last_entry}

module _ (form : ℕ → Form ℕ) (apart : ℕ → ℕ → Bool) (earlier : (b : ℕ) → IsEarlier b (form b)) (table : ℕ → ℕ → Lag) (ends : List (Ending ℕ)) (a : ℕ) where
  right_same : (e e' : ℕ → Lag) (b : ℕ) (f : Form ℕ) → IsEarlier b f → ((c : ℕ) → c < b → e c ≡ e' c) → right (λ c d. e d) a f ≡ right (λ c d. e' d) a f
  right_same e e' b Start k m = refl
  right_same e e' b (Same c) k m = m c k
  right_same e e' b (Side c) k m = m c k
  right_same e e' b (Sync c) k m = m c k
  right_same e e' b (After n c) k m = ap (more n) (m c k)
  right_same e e' b (Join c d) k m = rw (m c k.0, m d k.1) refl
  right_same e e' b (Merge c d) k m = rw (m c k.0, m d k.1) refl

  entry_same : (e e' : ℕ → Lag) (b : ℕ) → ((c : ℕ) → c < b → e c ≡ e' c) → last_entry form apart table ends a e b ≡ last_entry form apart table ends a e' b
  entry_same e e' b k = rw (right_same e e' b (form b) (earlier b) k) refl

  to : ℕ → ℕ → Lag
  to zero b = Never
  to (suc n) b = last_entry form apart table ends a (to n) b

  to_same : (n m b : ℕ) → b < n → b < m → to n b ≡ to m b
  unfolding to
  to_same zero m b k k' = absurd (omega arith)
  to_same (suc n) zero b k k' = absurd (omega arith)
  to_same (suc n) (suc m) b k k' = entry_same (to n) (to m) b (λ c z. to_same n m c (omega arith) (omega arith))

  pub last_lag : ℕ → Lag
  last_lag b = to (suc b) b

  pub last_closed : (b : ℕ) → last_lag b ≡ last_entry form apart table ends a last_lag b
  unfolding last_lag to
  last_closed b = entry_same (to b) last_lag b (λ c z. to_same b (suc c) c z (omega arith))

-- What the times of points have to keep so that the order speaks of them: the local rule of each form.
--
-- This is what a run over T cycles knows of its points: at which cycle a point comes, and which are lost for ever. Left
-- holds of the points that may stand on the left of a judgement. `up` goes from a point to those that its form names,
-- `down` the other way, which is asked only where those come within the list. A Sync has no rule down: it may never
-- come.
use Rattle.std.specs.Prelude.{◌≡◌, ℕ, ◌+◌, ◌<◌, ◌≤◌, ◌⊎◌}
use Rattle.order_rules.specs.Form.{Form, After, Join, Merge}
use Rattle.order_rules.specs.Before.{AtOnce, OnceOrLater}

-- Left holds of the points that may stand on the left
pub record Timed (P : Type 0) (HasForm : P → Form P → Type 0) (Exclusive : P → P → Type 0) (T : ℕ) (Left : P → Type 0)
    (At : P → ℕ → Type 0) (Lost : P → Type 0) : Type 0 where
  pub up_later : (b c : P) (f : Form P) → HasForm b f → OnceOrLater c f → (t : ℕ) → At b t → (s : ℕ) × (s ≤ t) × At c s
  pub up_after : (b c : P) (n : ℕ) → HasForm b (After n c) → (t : ℕ) → At b t → (s : ℕ) × (s + n ≤ t) × At c s
  pub up_merge : (b c e : P) → HasForm b (Merge c e) → (t : ℕ) → At b t → At c t ⊎ At e t
  pub left_same : (a c : P) (f : Form P) → HasForm a f → AtOnce c f → Left a → Left c
  pub left_after : (a c : P) (n : ℕ) → HasForm a (After n c) → Left a → Left c
  pub left_join : (a c e : P) → HasForm a (Join c e) → Left a → Left c × Left e
  pub left_merge : (a c e : P) → HasForm a (Merge c e) → Left a → Left c × Left e
  pub down_same : (a c : P) (f : Form P) → HasForm a f → AtOnce c f → Left a → (s : ℕ) → s < T → At c s
      → Lost a ⊎ At a s
  pub down_after : (a c : P) (n : ℕ) → HasForm a (After n c) → Left a → (s : ℕ) → s < T → At c s → At a (s + n)
  pub down_join : (a c e : P) → HasForm a (Join c e) → Left a → (s u : ℕ) → s < T → u < T → At c s → At e u
      → (m : ℕ) × ((m ≡ s) ⊎ (m ≡ u)) × At a m
  pub down_merge_first : (a c e : P) → HasForm a (Merge c e) → Left a → (s : ℕ) → s < T → At c s → At a s
  pub down_merge_second : (a c e : P) → HasForm a (Merge c e) → Left a → (s : ℕ) → s < T → At e s → At a s
  pub lost_same : (a c : P) (f : Form P) → HasForm a f → AtOnce c f → Left a → Lost c → Lost a
  pub lost_after : (a c : P) (n : ℕ) → HasForm a (After n c) → Left a → Lost c → Lost a
  pub lost_join : (a c e : P) → HasForm a (Join c e) → Left a → Lost c ⊎ Lost e → Lost a
  pub lost_merge : (a c e : P) → HasForm a (Merge c e) → Left a → Lost c → Lost e → Lost a
  pub apart : (a b : P) → Exclusive a b → Left a → (t : ℕ) → At b t → Lost a

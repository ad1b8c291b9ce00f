-- The order of points: a + d <= b, "b comes no earlier than d cycles after a", with d a whole number of either sign.
--
-- It is the least relation with ten rules, over any type of points P, the forms that the points have, and the pairs of
-- points that exclude each other. Forms are a relation, so that the points of a text and the nodes of a graph are both
-- cases of it. A point of the form Sync has no rule on the left: nobody knows how long a partner lets wait.
use Rattle.std.specs.Prelude.{ℕ, ℤ, pos, ◌+ℤ◌, ◌-ℤ◌, ◌≤ℤ◌}
use Rattle.order_rules.specs.Form.{Form, Same, After, Sync, Join, Side, Merge}

-- a point of this form comes with c, where it comes at all
pub data AtOnce {P : Type 0} (c : P) : Form P → Type 0 where
  by_same : AtOnce c (Same c)
  by_side : AtOnce c (Side c)

-- a point of this form comes with c or later
pub data OnceOrLater {P : Type 0} (c : P) : Form P → Type 0 where
  by_same : OnceOrLater c (Same c)
  by_side : OnceOrLater c (Side c)
  by_sync : OnceOrLater c (Sync c)
  by_first : {d : P} → OnceOrLater c (Join c d)
  by_second : {d : P} → OnceOrLater c (Join d c)

-- a + d <= b
pub data Before (P : Type 0) (HasForm : P → Form P → Type 0) (Exclusive : P → P → Type 0) : P → ℤ → P → Type 0 where
  -- of a point and itself
  here : {a : P} {d : ℤ} → d ≤ℤ pos 0 → Before P HasForm Exclusive a d a
  -- by a smaller distance
  weaker : {a b : P} {d e : ℤ} → e ≤ℤ d → Before P HasForm Exclusive a d b → Before P HasForm Exclusive a e b
  -- b comes with c or later
  later : {a b c : P} {f : Form P} {d : ℤ} → HasForm b f → OnceOrLater c f → Before P HasForm Exclusive a d c
      → Before P HasForm Exclusive a d b
  -- b comes n cycles after c
  after : {a b c : P} {d : ℤ} {n : ℕ} → HasForm b (After n c) → Before P HasForm Exclusive a (d -ℤ pos n) c
      → Before P HasForm Exclusive a d b
  -- b comes at one of two, so both have to come late enough
  merged : {a b c e : P} {d : ℤ} → HasForm b (Merge c e) → Before P HasForm Exclusive a d c
      → Before P HasForm Exclusive a d e → Before P HasForm Exclusive a d b
  -- a comes with c
  from_same : {a b c : P} {f : Form P} {d : ℤ} → HasForm a f → AtOnce c f → Before P HasForm Exclusive c d b
      → Before P HasForm Exclusive a d b
  -- a comes n cycles after c
  from_after : {a b c : P} {d : ℤ} {n : ℕ} → HasForm a (After n c) → Before P HasForm Exclusive c (d +ℤ pos n) b
      → Before P HasForm Exclusive a d b
  -- a comes at the later of two
  from_join : {a b c e : P} {d : ℤ} → HasForm a (Join c e) → Before P HasForm Exclusive c d b
      → Before P HasForm Exclusive e d b → Before P HasForm Exclusive a d b
  -- a comes at one of two
  from_merge : {a b c e : P} {d : ℤ} → HasForm a (Merge c e) → Before P HasForm Exclusive c d b
      → Before P HasForm Exclusive e d b → Before P HasForm Exclusive a d b
  -- where b comes, a does not
  exclusive : {a b : P} {d : ℤ} → Exclusive a b → Before P HasForm Exclusive a d b

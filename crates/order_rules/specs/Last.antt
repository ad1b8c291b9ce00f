-- The order of the last cycle of a life against points: last + d <= b, for a life that begins at the point a.
--
-- A life has any number of ends and is over at the first of them that comes. So each end alone bounds the last cycle.
use Rattle.std.specs.Prelude.{ℕ, ◌+◌, ℤ, pos, ◌+ℤ◌, ◌-ℤ◌, ◌≤ℤ◌}
use Rattle.order_rules.specs.Form.{Form, After, Merge}
use Rattle.order_rules.specs.Before.{OnceOrLater, Before}

-- one end of a life: it has so many cycles, or a point is in its last cycle
pub data Ending (P : Type 0) : Type 0 where
  Within : ℕ → Ending P
  At : P → Ending P

-- last + d <= b, the least relation with these rules
pub data Last (P : Type 0) (HasForm : P → Form P → Type 0) (Exclusive : P → P → Type 0)
    (HasEnding : Ending P → Type 0) (a : P) : ℤ → P → Type 0 where
  -- a life of n + 1 cycles has its last cycle n cycles after a
  within : {b : P} {d : ℤ} (n : ℕ) → HasEnding (Within (n + 1)) → Before P HasForm Exclusive a (d +ℤ pos n) b
      → Last P HasForm Exclusive HasEnding a d b
  -- a life of no cycle is over in the cycle before a
  empty : {b : P} {d : ℤ} → HasEnding (Within 0) → Before P HasForm Exclusive a (d -ℤ pos 1) b
      → Last P HasForm Exclusive HasEnding a d b
  -- b itself ends the life, where it does not come before a
  at : {b : P} {d : ℤ} → HasEnding (At b) → Before P HasForm Exclusive a (pos 0) b → d ≤ℤ pos 0
      → Last P HasForm Exclusive HasEnding a d b
  -- by a smaller distance
  weaker : {b : P} {d e : ℤ} → e ≤ℤ d → Last P HasForm Exclusive HasEnding a d b
      → Last P HasForm Exclusive HasEnding a e b
  -- the rules of the order on the right
  later : {b c : P} {f : Form P} {d : ℤ} → HasForm b f → OnceOrLater c f → Last P HasForm Exclusive HasEnding a d c
      → Last P HasForm Exclusive HasEnding a d b
  after : {b c : P} {d : ℤ} {n : ℕ} → HasForm b (After n c) → Last P HasForm Exclusive HasEnding a (d -ℤ pos n) c
      → Last P HasForm Exclusive HasEnding a d b
  merged : {b c e : P} {d : ℤ} → HasForm b (Merge c e) → Last P HasForm Exclusive HasEnding a d c
      → Last P HasForm Exclusive HasEnding a d e → Last P HasForm Exclusive HasEnding a d b
  -- where b comes, a does not
  exclusive : {b : P} {d : ℤ} → Exclusive a b → Last P HasForm Exclusive HasEnding a d b

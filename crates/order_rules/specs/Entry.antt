-- The entries of a table of the order over nodes 0, 1, 2 and so on, each computed from entries at earlier nodes.
--
-- This is how a table is filled; that a table closed under these equations tells the order is a law over `Before`.
use Rattle.std.specs.Prelude.{ℕ, ◌<◌, ◌==◌, if◌then◌else◌, Bool, pos, ◌+ℤ◌, ◌-ℤ◌}
use Rattle.std.specs.Int.{int_max, int_min}
use Rattle.order_rules.specs.Form.{Form, Start, Same, After, Sync, Join, Side, Merge}
use Rattle.order_rules.specs.Lag.{Lag, Never, AtLeast, Vacuous}

-- what holds by the one or by the other
abbrev pub most : Lag → Lag → Lag
most Never y = y
most Vacuous y = Vacuous
most (AtLeast d) Never = AtLeast d
most (AtLeast d) (AtLeast e) = AtLeast (int_max d e)
most (AtLeast d) Vacuous = Vacuous

-- what holds by both
abbrev pub least : Lag → Lag → Lag
least Never y = Never
least Vacuous y = y
least (AtLeast d) Never = Never
least (AtLeast d) (AtLeast e) = AtLeast (int_min d e)
least (AtLeast d) Vacuous = AtLeast d

-- by n cycles more, and by n fewer
abbrev pub more : ℕ → Lag → Lag
more n Never = Never
more n (AtLeast d) = AtLeast (d +ℤ pos n)
more n Vacuous = Vacuous

abbrev pub fewer : ℕ → Lag → Lag
fewer n Never = Never
fewer n (AtLeast d) = AtLeast (d -ℤ pos n)
fewer n Vacuous = Vacuous

-- from a to a node of this form, by the rules on the right
abbrev pub right : (ℕ → ℕ → Lag) → ℕ → Form ℕ → Lag
right lag a Start = Never
right lag a (Same c) = lag a c
right lag a (Side c) = lag a c
right lag a (Sync c) = lag a c
right lag a (After n c) = more n (lag a c)
right lag a (Join c e) = most (lag a c) (lag a e)
right lag a (Merge c e) = least (lag a c) (lag a e)

-- from a node of this form to b, by the rules on the left
abbrev pub left : (ℕ → ℕ → Lag) → ℕ → Form ℕ → Lag
left lag b Start = Never
left lag b (Same c) = lag c b
left lag b (Side c) = lag c b
left lag b (Sync c) = Never
left lag b (After n c) = fewer n (lag c b)
left lag b (Join c e) = least (lag c b) (lag e b)
left lag b (Merge c e) = least (lag c b) (lag e b)

-- the entry at a and b
abbrev pub entry : (ℕ → Form ℕ) → (ℕ → ℕ → Bool) → (ℕ → ℕ → Lag) → ℕ → ℕ → Lag
entry form apart lag a b =
    if apart a b then Vacuous else most (if a == b then AtLeast (pos 0) else Never)
    (most (right lag a (form b)) (left lag b (form a)))

-- each predecessor of the node b is an earlier node
abbrev pub IsEarlier : ℕ → Form ℕ → Type 0
IsEarlier b Start = Unit {0}
IsEarlier b (Same c) = c < b
IsEarlier b (Side c) = c < b
IsEarlier b (Sync c) = c < b
IsEarlier b (After n c) = c < b
IsEarlier b (Join c e) = (c < b) × (e < b)
IsEarlier b (Merge c e) = (c < b) × (e < b)

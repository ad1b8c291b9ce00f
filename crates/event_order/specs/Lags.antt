-- The lags of the code as those of the rules, and how the lag of two events follows from those of their predecessors.
use Rattle.std.specs.Prelude.{ℕ, ◌==◌, Bool, Option, Some, None, ℤ, pos, negsuc, neg_ℤ, ◌≤ℤ◌, if◌then◌else◌}
use Rattle.order_rules.specs.Lag as lag
use Rattle.order_rules.specs.Entry.{most, least, more, fewer}
use Rattle.event_graph.specs.declared.node.Kind.{Kind}
use Rattle.event_graph.specs.declared.node.Kind.TheVariants.{Start, Same, After, Sync, Join, Side, Merge}
use Rattle.event_order.specs.declared.entry.Entry.{Entry}
use Rattle.event_order.specs.declared.lag.Lag.{Lag}
use Rattle.event_order.specs.declared.lag.Lag.TheVariants.{Never, AtLeast, Vacuous}

-- a table of lags
abbrev pub Lags : Type 0
Lags = ℕ → ℕ → lag.Lag

abbrev pub lag_of : Lag → lag.Lag
lag_of Never = lag.Never
lag_of (AtLeast d) = lag.AtLeast d
lag_of Vacuous = lag.Vacuous

-- the lag of a number of 32 bits: the least stands for no distance, the greatest for every one
abbrev pub coded : ℤ → lag.Lag
coded (pos n) = if n == 2147483647 then lag.Vacuous else lag.AtLeast (pos n)
coded (negsuc n) = if n == 2147483647 then lag.Never else lag.AtLeast (negsuc n)

abbrev pub kept : Entry → lag.Lag
kept entry = coded entry.code

-- the distance lies within 2^30, so that a delay more or less still fits
abbrev pub IsSmall : lag.Lag → Type 0
IsSmall lag.Never = Unit {0}
IsSmall (lag.AtLeast d) = (neg_ℤ (pos 1073741824) ≤ℤ d) × (d ≤ℤ pos 1073741824)
IsSmall lag.Vacuous = Unit {0}

-- the lag to an event of a kind by the rules on the right, from those to its predecessors
abbrev pub right_of : Kind → lag.Lag → lag.Lag → lag.Lag
right_of Start first second = lag.Never
right_of Same first second = first
right_of (After cycles) first second = more cycles first
right_of Sync first second = first
right_of Join first second = most first second
right_of Side first second = first
right_of Merge first second = least first second

-- the lag from an event of a kind by the rules on the left, from those from its predecessors
abbrev pub left_of : Kind → lag.Lag → lag.Lag → lag.Lag
left_of Start first second = lag.Never
left_of Same first second = first
left_of (After cycles) first second = fewer cycles first
left_of Sync first second = lag.Never
left_of Join first second = least first second
left_of Side first second = first
left_of Merge first second = least first second

-- the lag of two events that exclude each other or not, and are one or not
abbrev pub entry_of : Bool → Bool → lag.Lag → lag.Lag → lag.Lag
entry_of apart same right left =
    if apart then lag.Vacuous else most (if same then lag.AtLeast (pos 0) else lag.Never) (most right left)

-- a lag at a predecessor, where there is one
abbrev pub at_pred : (ℕ → lag.Lag) → Option ℕ → lag.Lag
at_pred lags None = lag.Never
at_pred lags (Some c) = lags c

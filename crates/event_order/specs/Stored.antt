-- A table of lags as it is kept: one list of entries, in which the row of an event stands behind those of all earlier events.
--
-- What is kept is told against each table that is closed under the equations of the order's entries; the laws of the order say
-- what such a table tells.
use Rattle.std.specs.Prelude.{ℕ, ◌≡◌, ◌+◌, ◌*◌, ◌<◌, List, length, slice_get, Option, Some, None, nat_lt, if◌then◌else◌}
use Rattle.order_rules.specs.Lag as lag
use Rattle.order_rules.specs.Entry.{entry}
use Rattle.event_graph.specs.Event.{Event}
use Rattle.event_graph.specs.Forms.{form_at, apart_at}
use Rattle.event_order.specs.declared.entry.Entry.{Entry}
use Rattle.event_order.specs.Lags.{Lags, kept}

-- where the lag from a to b stands: the row of an event n begins at n * n, with the lags to it; those from it follow, and then
-- that to itself
abbrev pub place_of : ℕ → ℕ → ℕ
place_of a b = if nat_lt a b then b * b + a else a * a + a + b

abbrev pub kept_in : Option Entry → lag.Lag
kept_in None = lag.Never
kept_in (Some entry) = kept entry

-- what stands at a place
abbrev pub stored : List Entry → ℕ → lag.Lag
stored table place = kept_in (slice_get table place)

-- the table is closed under the equations of the order's entries
abbrev pub IsClosed : List Event → Lags → Type 0
IsClosed events lags = (a b : ℕ) → lags a b ≡ entry (form_at events) (apart_at events) lags a b

-- what is kept so far is that of each closed table
abbrev pub IsFilled : List Event → List Entry → Type 0
IsFilled events table =
    (lags : Lags) → IsClosed events lags
    → (a b : ℕ) → place_of a b < length table → stored table (place_of a b) ≡ lags a b

-- A table of the last cycle of a life as it is kept: one row, with a lag for each event.
--
-- What is kept is told against each table that is closed under the equations of the entries; the laws of the order say
-- what such a table tells.
use Rattle.std.specs.Prelude.{ℕ, ◌≡◌, ◌<◌, ◌≤◌, List, [], ◌∷◌, length, slice_get, Option, Some, None, if◌then◌else◌, pos, neg_ℤ, ◌≤ℤ◌}
use Rattle.order_rules.specs.Lag as rules
use Rattle.order_rules.specs.Last.{Ending, Within, At}
use Rattle.order_rules.specs.LastEntry.{last_entry, ends_entry, from_zero}
use Rattle.event_graph.specs.Event.{Event, AreDrawn}
use Rattle.event_graph.specs.Forms.{form_at, apart_at}
use Rattle.event_order.specs.declared.lag.Lag.{Lag}
use Rattle.event_order.specs.Lags.{Lags, lag_of}
use Rattle.event_order.specs.Stored.{IsClosed}
use Rattle.lifetimes.specs.declared.table.EndTable.{EndTable}

abbrev pub kept_in : Option Lag → rules.Lag
kept_in None = rules.Never
kept_in (Some lag) = lag_of lag

-- what a row keeps for an event
abbrev pub kept_at : List Lag → ℕ → rules.Lag
kept_at row b = kept_in (slice_get row b)

-- the lags of a last cycle are closed under the equations of its entries
abbrev pub IsLastClosed : List Event → Lags → ℕ → List (Ending ℕ) → (ℕ → rules.Lag) → Type 0
IsLastClosed events lags from ends last =
    (b : ℕ) → last b ≡ last_entry (form_at events) (apart_at events) lags ends from last b

-- the lag is that of each closed table at b
abbrev pub IsLastAt : List Event → ℕ → List (Ending ℕ) → ℕ → rules.Lag → Type 0
IsLastAt events from ends b lag =
    (lags : Lags) → IsClosed events lags → (last : ℕ → rules.Lag) → IsLastClosed events lags from ends last
    → lag ≡ last b

-- so are those that are kept for the events before one
abbrev pub IsFilledTo : ℕ → List Event → ℕ → List (Ending ℕ) → List Lag → Type 0
IsFilledTo to events from ends row = (b : ℕ) → b < to → IsLastAt events from ends b (kept_at row b)

-- what is kept for the events from one on is what the ends say, before the rules go on from predecessors
abbrev pub AreEndsFrom : ℕ → List Event → ℕ → List (Ending ℕ) → List Lag → Type 0
AreEndsFrom to events from ends row =
    (lags : Lags) → IsClosed events lags → (b : ℕ) → to ≤ b → b < length row
    → kept_at row b ≡ ends_entry (lags from b) b ends

-- what an event says that ends the life, from the lag of the event from which on it lasts
abbrev pub by_event : rules.Lag → rules.Lag
by_event from = if from_zero from then rules.AtLeast (pos 0) else rules.Never

-- the distance is a number of 32 bits
abbrev pub FitsLag : rules.Lag → Type 0
FitsLag rules.Never = Unit {0}
FitsLag (rules.AtLeast d) = (neg_ℤ (pos 2147483648) ≤ℤ d) × (d ≤ℤ pos 2147483647)
FitsLag rules.Vacuous = Unit {0}

-- each number of cycles is one of 16 bits
abbrev pub AreShort : List (Ending ℕ) → Type 0
AreShort [] = Unit {0}
AreShort (Within cycles ∷ rest) = (cycles < 65536) × AreShort rest
AreShort (At event ∷ rest) = AreShort rest

-- the events for which a table has lags
abbrev pub event_count : EndTable → ℕ
event_count table = length table.lags.items

-- the table is that of a life from an event on, with these ends, over a graph of these events
pub record IsTableOf (events : List Event) (from : ℕ) (ends : List (Ending ℕ)) (table : EndTable) : Type 0 where
  pub drawn : AreDrawn 0 events
  pub count : event_count table ≡ length events
  pub filled : IsFilledTo (length events) events from ends table.lags.items

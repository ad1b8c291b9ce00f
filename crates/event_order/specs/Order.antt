-- What a table says of the order of the events of a graph.
use Rattle.std.specs.Prelude.{ℕ, ◌≡◌, List, length}
use Rattle.order_rules.specs.Lag.{Tells}
use Rattle.event_graph.specs.Event.{Event, AreDrawn}
use Rattle.event_graph.specs.Forms.{Precedes}
use Rattle.event_order.specs.declared.lag.Lag.{Lag}
use Rattle.event_order.specs.declared.order.Order.{Order}
use Rattle.event_order.specs.Lags.{lag_of}
use Rattle.event_order.specs.Stored.{IsFilled}

-- it is the largest distance for which a + d <= b, where there is one
abbrev pub IsLagOf : List Event → Lag → ℕ → ℕ → Type 0
IsLagOf events lag a b = Tells (lag_of lag) (λ d. Precedes events a d b)

-- the table is that of a graph of these events
pub record IsOrderOf (events : List Event) (order : Order) : Type 0 where
  pub drawn : AreDrawn 0 events
  pub count : order.count ≡ length events
  pub filled : IsFilled events order.entries.items

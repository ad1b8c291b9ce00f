-- The ends of a life as the rules know them, and the order of its last cycle against the events of a graph.
use Rattle.std.specs.Prelude.{ℕ, ℤ, List, map}
use Rattle.order_rules.specs.Last.{Ending, Last}
use Rattle.order_rules.specs.Last as last
use Rattle.order_rules.specs.LastEntry.{IsListed}
use Rattle.order_rules.specs.Lag.{Tells}
use Rattle.order_rules.specs.Laws.{HasForm, Apart}
use Rattle.event_graph.specs.Event.{Event}
use Rattle.event_graph.specs.Forms.{form_at, apart_at}
use Rattle.event_order.specs.declared.lag.Lag.{Lag}
use Rattle.event_order.specs.Lags.{lag_of}
use Rattle.lifetimes.specs.declared.life.End.{End}
use Rattle.lifetimes.specs.declared.life.End.TheVariants.{After, At}

abbrev pub ending_of : End → Ending ℕ
ending_of (After cycles) = last.Within cycles
ending_of (At event) = last.At event

abbrev pub endings_of : List End → List (Ending ℕ)
endings_of ends = map ending_of ends

-- the last cycle of a life from an event on, with these ends, + d, is no later than b
abbrev pub LastPrecedes : List Event → ℕ → List (Ending ℕ) → ℤ → ℕ → Type 0
LastPrecedes events from ends = Last ℕ (HasForm (form_at events)) (Apart (apart_at events)) (IsListed ends) from

-- the lag is the largest such d, where there is one
abbrev pub IsEndLagOf : List Event → ℕ → List (Ending ℕ) → Lag → ℕ → Type 0
IsEndLagOf events from ends lag b = Tells (lag_of lag) (λ d. LastPrecedes events from ends d b)

-- What is proved of the nodes of every graph.
use Rattle.std.specs.Prelude.{ℕ, ◌≡◌, ◌<◌, List, length, Option}
use Rattle.order_rules.specs.Entry.{IsEarlier}
use Rattle.event_graph.specs.Event.{Event, AreDrawn}
use Rattle.event_graph.specs.Forms.{form_at}
use Rattle.event_graph.specs.Times.{Given, AreTimes}

-- Each node comes from earlier nodes.
abbrev pub NodesComeFromEarlier : Type 0
NodesComeFromEarlier = (events : List Event) → AreDrawn 0 events → (n : ℕ) → IsEarlier n (form_at events n)

-- The nodes of a graph have times, whatever is given, and no others.
abbrev pub NodesHaveTimes : Type 0
NodesHaveTimes = (events : List Event) → AreDrawn 0 events → (given : Given) → (time : ℕ → Option ℕ) × AreTimes events given time

abbrev pub TimesAreOne : Type 0
TimesAreOne =
    (events : List Event) → AreDrawn 0 events → (given : Given) (time other : ℕ → Option ℕ)
    → AreTimes events given time → AreTimes events given other → (n : ℕ) → n < length events → time n ≡ other n

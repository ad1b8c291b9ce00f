-- The wires of ports as the events of the nodes that end acts on them.
use Rattle.std.specs.Prelude.{ℕ, ◌≡◌, ◌<◌, ◌⊎◌, List, length, set, Option, Some, None}
use Rattle.act_deeds.specs.declared.deed.Deed.{Deed}
use Rattle.act_deeds.specs.declared.deed.Deed.TheVariants as deed
use Rattle.act_deeds.specs.Deeds.{deed_at}
use Rattle.machine_parts.specs.declared.plan.Event.{Event}
use Rattle.machine_parts.specs.declared.plan.Event.TheVariants as event
use Rattle.machine_parts.specs.Parts.{node_at}
use Rattle.event_graph.specs.Event as seen
use Rattle.turn_plans.specs.Read.{AreSides, event_at}

-- the port of an act on one
abbrev pub port_of : Deed → Option ℕ
port_of (deed.Sends port) = Some port
port_of (deed.Receives port) = Some port
port_of _ = None

abbrev pub wired_by : Option ℕ → (end : ℕ) → List Event → List Event
wired_by None end events = events
wired_by (Some port) end events = set events end (event.Wire port)

-- the act of a site is on the port
pub record IsOn (deeds : List Deed) (site port : ℕ) : Type 0 where
  pub inside : site < length deeds
  pub port_is : port_of (deed_at deeds site) ≡ Some port

-- different acts on ports end at different ones of so many nodes
pub record EndsAreApart (deeds : List Deed) (ends : List ℕ) (nodes : ℕ) : Type 0 where
  pub count : length ends ≡ length deeds
  pub inside : (site port : ℕ) → IsOn deeds site port → node_at ends site < nodes
  pub apart : (site other port another : ℕ) → IsOn deeds site port → IsOn deeds other another
      → node_at ends site ≡ node_at ends other → site ≡ other

-- an act on a port ends at the node
pub record EndsAt (deeds : List Deed) (ends : List ℕ) (node : ℕ) (told : Event) : Type 0 where
  pub site : ℕ
  pub port : ℕ
  pub on : IsOn deeds site port
  pub at : node_at ends site ≡ node
  pub wire : told ≡ event.Wire port

-- the end of each act on a port waits for its wire, and all other nodes for what they waited for
pub record AreMarked (deeds : List Deed) (ends : List ℕ) (old new : List Event) : Type 0 where
  pub count : length new ≡ length old
  pub wires : (site port : ℕ) → IsOn deeds site port → event_at new (node_at ends site) ≡ event.Wire port
  pub others : (node : ℕ) → (event_at new node ≡ event_at old node) ⊎ EndsAt deeds ends node (event_at new node)

-- what the nodes of a graph wait for: the wires of ports, and else the sides that they begin
pub record AreEvents (graph : List seen.Event) (deeds : List Deed) (ends : List ℕ) (events : List Event) : Type 0 where
  pub sides : List Event
  pub sides_are : AreSides graph sides
  pub marked : AreMarked deeds ends sides events

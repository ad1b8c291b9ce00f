-- Signals, nodes and sites by their numbers, and what has to come for a node to come.
use Rattle.std.specs.Prelude.{ℕ, not, Bool, true, false, List, slice_index_or}
use Rattle.order_rules.specs.Form.{Form}
use Rattle.sv_tree.specs.declared.tree.SvOperand.TheVariants.{Lit}
use Rattle.module_nets.specs.declared.signal.Signal.{Signal}
use Rattle.module_nets.specs.Shown.{Moment}
use Rattle.module_nets.specs.Bits.{told}
use Rattle.pulse_nets.specs.declared.node.Shape.TheVariants.{Start}
use Rattle.pulse_nets.specs.Pulses.{form_of}
use Rattle.machine_parts.specs.declared.plan.Event.{Event}
use Rattle.machine_parts.specs.declared.plan.Event.TheVariants.{Nothing, Wire, Side}
use Rattle.machine_parts.specs.declared.plan.NodePlan.{NodePlan}

-- what stands for a bit that is never 1
abbrev pub zero_bit : Signal
zero_bit = record { operand = Lit (record { width = 1; value = 0 }); width = 1 }

-- the bit of a number; past the list a bit that is never 1
abbrev pub bit_at : List Signal → ℕ → Signal
bit_at bits place = slice_index_or bits place zero_bit

abbrev pub no_plan : NodePlan
no_plan = record { shape = Start; tail = false; event = Nothing }

abbrev pub plan_at : List NodePlan → ℕ → NodePlan
plan_at nodes node = slice_index_or nodes node no_plan

-- the form of a node
abbrev pub form_in : List NodePlan → ℕ → Form ℕ
form_in nodes node = form_of (plan_at nodes node).shape

-- the node of a site
abbrev pub node_at : List ℕ → ℕ → ℕ
node_at nodes site = slice_index_or nodes site 0

-- what comes for a node to come, where the wires of the ports and the decisions by site are these
abbrev pub event_told : Moment → (wires decisions : List Signal) → Event → Bool
event_told now wires decisions Nothing = false
event_told now wires decisions (Wire port) = told now (bit_at wires port)
event_told now wires decisions (Side site true) = told now (bit_at decisions site)
event_told now wires decisions (Side site false) = not (told now (bit_at decisions site))

-- What the nets of a thread show: each pulse, each value read again, how each `if` decides and which side it shows, as
-- equations of each finished module that extends the netlist.
use Rattle.std.specs.Prelude.{ℕ, ◌≡◌, ◌<◌, ◌||◌, not, if◌then◌else◌, Bool, List, [], ◌∷◌, length}
use Rattle.core_term.specs.Term.{Expr, Term, Act, site, head}
use Rattle.core_term.specs.Numbering.{size}
use Rattle.core_term.specs.Stands.{Stands}
use Rattle.core_term.specs.Acts.{Uses, Asks}
use Rattle.core_term.specs.Again.{number, now_in}
use Rattle.core_term.specs.Widths.{Widths, expr_width}
use Rattle.core_term.specs.View.{after_act}
use Rattle.sv_tree.specs.Module.{Module}
use Rattle.module_nets.specs.declared.signal.Signal.{Signal}
use Rattle.module_nets.specs.Netlist as netlist
use Rattle.module_nets.specs.Shown.{Moment, IsMomentOf, Shows, shown}
use Rattle.module_nets.specs.Bits.{IsBit, Tells, told}
use Rattle.module_nets.specs.Signals.{signal_at, sight_in, widths_in}
use Rattle.pulse_nets.specs.declared.forms.Pulse.{Pulse}
use Rattle.pulse_nets.specs.Pulses.{Knows, pulse_at, pulse_from, pulses_told}
use Rattle.machine_parts.specs.declared.plan.NodePlan.{NodePlan}
use Rattle.machine_parts.specs.declared.plan.TurnPlan.{TurnPlan}
use Rattle.machine_parts.specs.declared.frame.ThreadStates.{ThreadStates}
use Rattle.machine_parts.specs.declared.thread.ThreadNets.{ThreadNets}
use Rattle.machine_parts.specs.Parts.{bit_at, zero_bit, plan_at, form_in, node_at, event_told}

-- The pulse of a node tells that it comes, over those of earlier nodes, where `begin` tells that a turn begins.
pub record PulseDrawn (old : Module) (nodes : List NodePlan) (states wires decisions : List Signal)
    (begin : Moment → Bool) (pulses : List Pulse) (node : ℕ) : Type 0 where
  pub pulse : IsBit old (pulse_at pulses node).pulse
  pub known : IsBit old (pulse_at pulses node).known
  pub tells : (now : Moment) → IsMomentOf old now
      → told now (pulse_at pulses node).pulse
      ≡ pulse_from (pulses_told now pulses) (told now (bit_at states node)) (shown now (bit_at states node))
      (event_told now wires decisions (plan_at nodes node).event) (begin now) (not (plan_at nodes node).tail)
      (form_in nodes node)
  pub knows : (now : Moment) → IsMomentOf old now
      → Knows (told now (pulse_at pulses node).known) (pulses_told now pulses) (told now (bit_at states node))
      (begin now) (not (plan_at nodes node).tail) (form_in nodes node)

-- the side that the `if` of a site shows: how it decides as it begins, and else what was kept
abbrev pub SideDrawn : Module → (begins : List ℕ) → (kept : List Signal) → (pulses : List Pulse)
    → (decisions sides : List Signal) → (place : ℕ) → Type 0
SideDrawn old begins kept pulses decisions sides place =
    IsBit old (bit_at sides place)
    × Tells old (bit_at sides place)
    (λ now. if pulses_told now pulses (node_at begins place)
    then told now (bit_at decisions place)
    else told now (bit_at kept place))

-- the widths in a scope, innermost first
abbrev pub widths_after : Widths → List Act → Widths
widths_after widths [] = widths
widths_after widths (act ∷ scope) = after_act (widths_after widths scope) act

-- a value that is read again: it has the width of its expression, and shows what the expression gives in this scope
pub record ValueDrawn (old : Module) (registers ports sides : List Signal) (value : Signal)
    (scope : List Act) (used : Expr) : Type 0 where
  pub stands : netlist.Stands old value
  pub width : value.width ≡ expr_width (widths_after (widths_in registers ports []) scope) used
  pub shows : Shows old value
      (λ now. number (sight_in now registers ports sides) (now_in (sight_in now registers ports sides) scope) used)

-- the nets of a thread over the signals of the registers of the source, of the data of the ports and of their wires
pub record ThreadDrawn (old : Module) (registers ports wires : List Signal) (body : Term) (plan : TurnPlan)
    (states : ThreadStates) (nets : ThreadNets) : Type 0 where
  pub begin : IsBit old nets.begin
  pub begins : Tells old nets.begin
      (λ now. not (told now states.started) || pulses_told now nets.pulses.items plan.last)
  pub pulse_count : length nets.pulses.items ≡ length plan.nodes.items
  pub pulses : (node : ℕ) → node < length plan.nodes.items
      → PulseDrawn old plan.nodes.items states.nodes.items wires nets.decisions.items
      (λ now. told now nets.begin) nets.pulses.items node
  pub value_count : length nets.values.items ≡ size body
  pub decision_count : length nets.decisions.items ≡ size body
  pub side_count : length nets.sides.items ≡ size body
  pub sides : (place : ℕ) → place < size body
      → SideDrawn old plan.begins.items states.sides.items nets.pulses.items nets.decisions.items nets.sides.items place
  pub values : (scope : List Act) (term : Term) (used : Expr) → Stands [] body scope term → Uses (head term) used
      → ValueDrawn old registers ports nets.sides.items (signal_at nets.values.items (site (head term))) scope used
  pub decisions : (scope : List Act) (term : Term) (condition : Expr) → Stands [] body scope term
      → Asks (head term) condition
      → bit_at nets.decisions.items (site (head term)) ≡ signal_at nets.values.items (site (head term))
  pub undecided : (scope : List Act) (term : Term) → Stands [] body scope term
      → ((condition : Expr) → Asks (head term) condition → ⊥)
      → bit_at nets.decisions.items (site (head term)) ≡ zero_bit
  -- bits all of them, also where there is no `if`
  pub decision_bits : (place : ℕ) → place < size body → IsBit old (bit_at nets.decisions.items place)

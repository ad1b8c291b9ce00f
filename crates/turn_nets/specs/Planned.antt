-- The pulse of one node by its plan, its register and its event.
use Rattle.std.specs.Prelude.{ℕ, ◌≡◌, ◌<◌, not, Bool, true, List, length}
use Rattle.sv_tree.specs.Module.{Module}
use Rattle.module_nets.specs.declared.signal.Signal.{Signal}
use Rattle.module_nets.specs.Shown.{Moment, IsMomentOf, shown}
use Rattle.module_nets.specs.Bits.{IsBit, told}
use Rattle.pulse_nets.specs.declared.forms.Pulse.{Pulse}
use Rattle.pulse_nets.specs.Pulses.{Knows, pulse_at, pulse_from, pulses_told, form_of}
use Rattle.machine_parts.specs.declared.plan.NodePlan.{NodePlan}
use Rattle.machine_parts.specs.Parts.{bit_at, plan_at}

-- the pulse of a node of this plan tells that it comes, over the pulses of earlier nodes
pub record NodeDrawn (old : Module) (plan : NodePlan) (state : Signal) (event begin : Moment → Bool)
    (before : List Pulse) (drawn : Pulse) : Type 0 where
  pub pulse : IsBit old drawn.pulse
  pub known : IsBit old drawn.known
  pub tells : (now : Moment) → IsMomentOf old now
      → told now drawn.pulse
      ≡ pulse_from (pulses_told now before) (told now state) (shown now state) (event now) (begin now) (not plan.tail)
      (form_of plan.shape)
  pub knows : (now : Moment) → IsMomentOf old now
      → Knows (told now drawn.known) (pulses_told now before) (told now state) (begin now) (not plan.tail)
      (form_of plan.shape)

-- that of a node of the tail, whatever its event and whenever a turn begins
abbrev pub TailDrawn : Module → List NodePlan → (states : List Signal) → (node : ℕ) → (before : List Pulse)
    → (drawn : Pulse) → Type 0
TailDrawn old nodes states node before drawn =
    (event begin : Moment → Bool) → (plan_at nodes node).tail ≡ true
    → NodeDrawn old (plan_at nodes node) (bit_at states node) event begin before drawn

-- the pulses of the first nodes of the tail
abbrev pub TailsSoFar : Module → List NodePlan → (states : List Signal) → (tails : List Pulse) → Type 0
TailsSoFar old nodes states tails =
    (node : ℕ) → node < length tails → TailDrawn old nodes states node tails (pulse_at tails node)

-- The pulse of a node as a signal: what it is drawn from, and what it tells.
use Rattle.std.specs.Prelude.{◌≡◌, ◌==◌, ℕ, ◌^◌, ◌<◌, ◌&&◌, ◌||◌, not, Bool, List, length, slice_index_or}
use Rattle.order_rules.specs.Form as form
use Rattle.order_rules.specs.Form.{Form, Start, Same, After, Sync, Join, Side, Merge}
use Rattle.sv_tree.specs.Module.{Module}
use Rattle.module_nets.specs.declared.signal.Signal.{Signal}
use Rattle.module_nets.specs.Netlist.{Stands}
use Rattle.module_nets.specs.Shown.{Moment, IsMomentOf, shown}
use Rattle.module_nets.specs.Signals.{no_signal}
use Rattle.module_nets.specs.Bits.{IsBit, told}
use Rattle.pulse_nets.specs.declared.node.Part.{Part}
use Rattle.pulse_nets.specs.declared.node.Shape.{Shape}
use Rattle.pulse_nets.specs.declared.node.Shape.TheVariants as shape
use Rattle.pulse_nets.specs.declared.forms.Pulse.{Pulse}

abbrev pub form_of : Shape → Form ℕ
form_of shape.Start = Start
form_of (shape.Same from) = Same from
form_of (shape.After cycles from) = After cycles from
form_of (shape.Sync from) = Sync from
form_of (shape.Join first second) = Join first second
form_of (shape.Side from) = Side from
form_of (shape.Merge first second) = Merge first second

-- the pulse of a node, from those of earlier ones, its bit or counter, its event, and whether a turn begins
abbrev pub pulse_from : (pulse : ℕ → Bool) (bit : Bool) (counter : ℕ) (event begin forgets : Bool) → Form ℕ → Bool
pulse_from pulse bit counter event begin forgets Start = begin
pulse_from pulse bit counter event begin forgets (Same from) = pulse from
pulse_from pulse bit counter event begin forgets (After cycles from) = counter == 1
pulse_from pulse bit counter event begin forgets (Sync from) = (pulse from || bit) && event
pulse_from pulse bit counter event begin forgets (Side from) = pulse from && event
pulse_from pulse bit counter event begin forgets (Join first second) =
    (pulse first && pulse second) || ((bit && not (forgets && begin)) && (pulse first || pulse second))
pulse_from pulse bit counter event begin forgets (Merge first second) = pulse first || pulse second

-- what is known of a node before its event: that a wait is offered; that one end of a join has come, not forgotten
abbrev pub Knows : (known : Bool) (pulse : ℕ → Bool) (bit begin forgets : Bool) → Form ℕ → Type 0
Knows known pulse bit begin forgets (Sync from) = known ≡ (pulse from || bit)
Knows known pulse bit begin forgets (Join first second) = known ≡ (bit && not (forgets && begin))
Knows known pulse bit begin forgets form = Unit {0}

-- the signals of a node, as its form asks for them
abbrev pub PartStands : Module → (state event : Signal) → Form ℕ → Type 0
PartStands old state event Start = Unit {0}
PartStands old state event (Same from) = Unit {0}
PartStands old state event (After cycles from) = Stands old state × (cycles < 2 ^ state.width)
PartStands old state event (Sync from) = IsBit old state × IsBit old event
PartStands old state event (Side from) = IsBit old event
PartStands old state event (Join first second) = IsBit old state
PartStands old state event (Merge first second) = Unit {0}

abbrev pub no_pulse : Pulse
no_pulse = record { pulse = no_signal; known = no_signal }

abbrev pub pulse_at : List Pulse → ℕ → Pulse
pulse_at pulses node = slice_index_or pulses node no_pulse

-- the pulse of a node is drawn
abbrev pub IsDrawn : Module → List Pulse → ℕ → Type 0
IsDrawn old pulses node = (node < length pulses) × IsBit old (pulse_at pulses node).pulse

-- those of the predecessors that a node reads are
abbrev pub ArePredecessorsDrawn : Module → List Pulse → Form ℕ → Type 0
ArePredecessorsDrawn old pulses Start = Unit {0}
ArePredecessorsDrawn old pulses (Same from) = IsDrawn old pulses from
ArePredecessorsDrawn old pulses (After cycles from) = Unit {0}
ArePredecessorsDrawn old pulses (Sync from) = IsDrawn old pulses from
ArePredecessorsDrawn old pulses (Side from) = IsDrawn old pulses from
ArePredecessorsDrawn old pulses (Join first second) = IsDrawn old pulses first × IsDrawn old pulses second
ArePredecessorsDrawn old pulses (Merge first second) = IsDrawn old pulses first × IsDrawn old pulses second

-- whether a turn begins, as a signal tells it
abbrev pub begins : Signal → Moment → Bool
begins begin now = told now begin

abbrev pub pulses_told : Moment → List Pulse → ℕ → Bool
pulses_told now pulses node = told now (pulse_at pulses node).pulse

-- the drawn pulse tells that the node occurs, over those of earlier nodes, where `begin` tells that a turn begins
abbrev pub IsPulse : Module → List Pulse → (begin : Moment → Bool) → Part → Pulse → Type 0
IsPulse old pulses begin part drawn =
    (now : Moment) → IsMomentOf old now
    → told now drawn.pulse
    ≡ pulse_from (pulses_told now pulses) (told now part.state) (shown now part.state) (told now part.event) (begin now)
    part.forgets (form_of part.shape)

abbrev pub IsKnown : Module → List Pulse → (begin : Moment → Bool) → Part → Pulse → Type 0
IsKnown old pulses begin part drawn =
    (now : Moment) → IsMomentOf old now
    → Knows (told now drawn.known) (pulses_told now pulses) (told now part.state) (begin now) part.forgets
    (form_of part.shape)

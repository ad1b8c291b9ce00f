-- What the bit or counter of a node takes at the end of a cycle.
use Rattle.std.specs.Prelude.{◌≡◌, ℕ, ◌-◌, ◌^◌, ◌<◌, ◌&&◌, not, if◌then◌else◌, List}
use Rattle.order_rules.specs.Form.{Form, After, Sync, Join}
use Rattle.sv_tree.specs.Module.{Module}
use Rattle.module_nets.specs.declared.signal.Signal.{Signal}
use Rattle.module_nets.specs.Netlist.{Stands}
use Rattle.module_nets.specs.Shown.{Moment, IsMomentOf, Shows, shown}
use Rattle.module_nets.specs.Bits.{IsBit, Tells, told, xor}
use Rattle.pulse_nets.specs.declared.node.Part.{Part}
use Rattle.pulse_nets.specs.declared.forms.Pulse.{Pulse}
use Rattle.pulse_nets.specs.Pulses.{IsDrawn, pulses_told}

-- of a wait: it is offered and its wire has not come; of a join: exactly one end has come; of a delay: it is loaded by
-- its predecessor, and else counts down to 0. Other nodes keep nothing
abbrev pub IsNext : Module → List Pulse → Part → Pulse → (next : Signal) → Form ℕ → Type 0
IsNext old pulses part pulse next (Sync from) =
    Tells old next (λ now. told now pulse.known && not (told now part.event))
IsNext old pulses part pulse next (Join first second) =
    Tells old next
    (λ now. xor (told now pulse.known) (xor (pulses_told now pulses first) (pulses_told now pulses second)))
IsNext old pulses part pulse next (After cycles from) =
    Shows old next (λ now. if pulses_told now pulses from then cycles else (shown now part.state - 1))
IsNext old pulses part pulse next form = Unit {0}

-- what is asked of a node that keeps a bit or a counter
abbrev pub NeedsNext : Module → List Pulse → Part → Pulse → Form ℕ → Type 0
NeedsNext old pulses part pulse (Sync from) =
    (part.state.width ≡ 1) × IsBit old pulse.known × IsBit old part.event
NeedsNext old pulses part pulse (Join first second) =
    (part.state.width ≡ 1) × IsBit old pulse.known × IsDrawn old pulses first × IsDrawn old pulses second
NeedsNext old pulses part pulse (After cycles from) =
    Stands old part.state × IsDrawn old pulses from × (cycles < 2 ^ part.state.width)
NeedsNext old pulses part pulse form = ⊥

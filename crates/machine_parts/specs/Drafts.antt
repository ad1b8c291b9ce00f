-- What the threads of a process do together in one cycle: what a register takes, whether an act on a port is offered, and
-- the data that a port sends.
use Rattle.std.specs.Prelude.{ℕ, ◌≡◌, ◌==◌, ◌<◌, ◌&&◌, ◌||◌, not, if◌then◌else◌, Bool, false, List, [], ◌∷◌, length}
use Rattle.sv_tree.specs.Module.{Module}
use Rattle.module_nets.specs.declared.signal.Signal.{Signal}
use Rattle.module_nets.specs.Shown.{Moment, shown}
use Rattle.module_nets.specs.Bits.{IsBit, Tells, told}
use Rattle.module_nets.specs.Signals.{signal_at}
use Rattle.pulse_nets.specs.Pulses.{pulse_at, pulses_told}
use Rattle.pulse_nets.specs.declared.forms.Pulse.{Pulse}
use Rattle.turn_pulses.specs.Latest.{some_begin, first_shown, last_write}
use Rattle.act_deeds.specs.declared.deed.Deed.{Deed}
use Rattle.act_deeds.specs.declared.deed.Deed.TheVariants as deeds
use Rattle.act_deeds.specs.Deeds.{deed_at}
use Rattle.machine_parts.specs.declared.plan.TurnPlan.{TurnPlan}
use Rattle.machine_parts.specs.declared.thread.ThreadDraft.{ThreadDraft}
use Rattle.machine_parts.specs.Parts.{bit_at, zero_bit, node_at}

abbrev pub is_set : (register : ℕ) → Deed → Bool
is_set register (deeds.Sets other) = other == register
is_set register deed = false

abbrev pub is_send : (port : ℕ) → Deed → Bool
is_send port (deeds.Sends other) = other == port
is_send port deed = false

abbrev pub is_on : (port : ℕ) → Deed → Bool
is_on port (deeds.Sends other) = other == port
is_on port (deeds.Receives other) = other == port
is_on port deed = false

-- the act of a site begins; an act on a port is offered
abbrev pub begun_now : Moment → TurnPlan → List Pulse → (site : ℕ) → Bool
begun_now now plan pulses site = pulses_told now pulses (node_at plan.begins.items site)

abbrev pub offered_now : Moment → TurnPlan → List Pulse → (site : ℕ) → Bool
offered_now now plan pulses site = told now (pulse_at pulses (node_at plan.ends.items site)).known

abbrev pub sends_now : Moment → TurnPlan → List Pulse → (port site : ℕ) → Bool
sends_now now plan pulses port site = is_send port (deed_at plan.deeds.items site) && begun_now now plan pulses site

-- what a register takes, over what the threads before these gave it
abbrev pub written_now : Moment → List ThreadDraft → (register taken : ℕ) → ℕ
written_now now [] register taken = taken
written_now now (thread ∷ rest) register taken =
    written_now now rest register
    (last_write
    (λ site. is_set register (deed_at thread.plan.now.deeds.items site) && begun_now now thread.plan.now thread.nets.pulses.items site)
    (λ site. shown now (signal_at thread.nets.values.items site))
    taken (length thread.plan.now.deeds.items))

-- whether an act on the port is offered. The cycle is the same for all: one is looked at
abbrev pub port_offered : Moment → List ThreadDraft → (port : ℕ) → Bool
port_offered now [] port = false
port_offered now (thread ∷ rest) port =
    some_begin
    (λ site cycle. is_on port (deed_at thread.plan.now.deeds.items site) && offered_now now thread.plan.now thread.nets.pulses.items site)
    (length thread.plan.now.deeds.items) now.cycle
    || port_offered now rest port

-- the data that are sent on the port
abbrev pub data_now : Moment → List ThreadDraft → (port : ℕ) → ℕ
data_now now [] port = 0
data_now now (thread ∷ rest) port =
    first_shown
    (λ site. is_send port (deed_at thread.plan.now.deeds.items site) && told now (bit_at thread.newest.items site))
    (λ site. shown now (signal_at thread.nets.values.items site))
    (data_now now rest port) 0 (length thread.plan.now.deeds.items)

-- Of each `send` of a thread whether it began last of its port: where one of them begins, the first that does, and else
-- what was kept.
pub record NewestDrawn (old : Module) (plan : TurnPlan) (kept : List Signal) (pulses : List Pulse)
    (newest : List Signal) : Type 0 where
  pub count : length newest ≡ length plan.deeds.items
  pub bits : (site : ℕ) → site < length plan.deeds.items → IsBit old (bit_at newest site)
  pub sends : (site port : ℕ) → deed_at plan.deeds.items site ≡ deeds.Sends port
      → Tells old (bit_at newest site)
      (λ now. if some_begin (λ other cycle. sends_now now plan pulses port other) (length plan.deeds.items) now.cycle
      then begun_now now plan pulses site
      && not (some_begin (λ other cycle. sends_now now plan pulses port other) site now.cycle)
      else told now (bit_at kept site))
  pub others : (site : ℕ) → ((port : ℕ) → deed_at plan.deeds.items site ≡ deeds.Sends port → ⊥)
      → bit_at newest site ≡ zero_bit

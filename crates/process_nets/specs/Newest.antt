-- Which sends of a port begin, site by site, and which of them began last.
use Rattle.std.specs.Prelude.{ℕ, ◌≡◌, ◌<◌, ◌&&◌, not, if◌then◌else◌, Bool, List, length}
use Rattle.sv_tree.specs.Module.{Module}
use Rattle.module_nets.specs.declared.signal.Signal.{Signal}
use Rattle.module_nets.specs.Shown.{Moment}
use Rattle.module_nets.specs.Bits.{IsBit, Tells, told}
use Rattle.pulse_nets.specs.declared.forms.Pulse.{Pulse}
use Rattle.pulse_nets.specs.Pulses.{pulse_at}
use Rattle.turn_pulses.specs.Latest.{some_begin}
use Rattle.act_deeds.specs.declared.deed.Deed.TheVariants as deeds
use Rattle.act_deeds.specs.Deeds.{deed_at}
use Rattle.machine_parts.specs.declared.plan.TurnPlan.{TurnPlan}
use Rattle.machine_parts.specs.Parts.{bit_at, node_at, zero_bit}
use Rattle.machine_parts.specs.Drafts.{begun_now, sends_now}

-- the signal of the begin of an act
abbrev pub begin_at : TurnPlan → List Pulse → (site : ℕ) → Signal
begin_at plan pulses site = (pulse_at pulses (node_at plan.begins.items site)).pulse

-- one of the first so many acts sends on the port and begins
abbrev pub some_send : TurnPlan → List Pulse → (port count : ℕ) → Moment → Bool
some_send plan pulses port count now =
    some_begin (λ other cycle. sends_now now plan pulses port other) count now.cycle

-- of each port whether one of the first so many acts sends on it and begins
pub record AnyDrawn (old : Module) (plan : TurnPlan) (pulses : List Pulse) (ports count : ℕ)
    (any : List Signal) : Type 0 where
  pub ports_all : length any ≡ ports
  pub bits : (port : ℕ) → IsBit old (bit_at any port)
  pub tells : (port : ℕ) → port < ports → Tells old (bit_at any port) (some_send plan pulses port count)

-- of a send whether an earlier one of its port begins
pub record EarlierDrawn (old : Module) (plan : TurnPlan) (pulses : List Pulse) (site : ℕ)
    (earlier : Signal) : Type 0 where
  pub bit : IsBit old earlier
  pub tells : (port : ℕ) → deed_at plan.deeds.items site ≡ deeds.Sends port
      → Tells old earlier (some_send plan pulses port site)

-- of each of the first so many acts
abbrev pub EarliersDrawn : Module → TurnPlan → List Pulse → (earlier : List Signal) → (count : ℕ) → Type 0
EarliersDrawn old plan pulses earlier count =
    (site : ℕ) → site < count → EarlierDrawn old plan pulses site (bit_at earlier site)

-- of an act whether it began last of its port
pub record SiteNewest (old : Module) (plan : TurnPlan) (kept : List Signal) (pulses : List Pulse) (site : ℕ)
    (newest : Signal) : Type 0 where
  pub bit : IsBit old newest
  pub send : (port : ℕ) → deed_at plan.deeds.items site ≡ deeds.Sends port
      → Tells old newest
      (λ now. if some_send plan pulses port (length plan.deeds.items) now
      then begun_now now plan pulses site && not (some_send plan pulses port site now)
      else told now (bit_at kept site))
  pub other : ((port : ℕ) → deed_at plan.deeds.items site ≡ deeds.Sends port → ⊥) → newest ≡ zero_bit

abbrev pub SitesNewest : Module → TurnPlan → (kept : List Signal) → List Pulse → (newest : List Signal)
    → (count : ℕ) → Type 0
SitesNewest old plan kept pulses newest count =
    (site : ℕ) → site < count → SiteNewest old plan kept pulses site (bit_at newest site)

-- what is asked of the pulses: the begin of each act has one
abbrev pub BeginsStand : Module → TurnPlan → List Pulse → Type 0
BeginsStand old plan pulses =
    (site : ℕ) → site < length plan.deeds.items → IsBit old (begin_at plan pulses site)

-- and of the ports: there are so many
abbrev pub SendsWithin : TurnPlan → (ports : ℕ) → Type 0
SendsWithin plan ports = (site port : ℕ) → deed_at plan.deeds.items site ≡ deeds.Sends port → port < ports

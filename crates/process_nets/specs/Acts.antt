-- What the acts of one thread do in a cycle to a register or a port, and what is asked of its nets for that.
use Rattle.std.specs.Prelude.{ℕ, ◌≡◌, ◌<◌, ◌&&◌, Bool, List, length, slice_get, Some}
use Rattle.sv_tree.specs.Module.{Module}
use Rattle.module_nets.specs.Netlist.{Stands}
use Rattle.module_nets.specs.Shown.{Moment, shown}
use Rattle.module_nets.specs.Bits.{IsBit, told}
use Rattle.module_nets.specs.Signals.{signal_at}
use Rattle.pulse_nets.specs.Pulses.{pulse_at}
use Rattle.turn_pulses.specs.Latest.{first_shown, last_write, some_begin}
use Rattle.act_deeds.specs.declared.deed.Deed.TheVariants as deeds
use Rattle.act_deeds.specs.Deeds.{deed_at}
use Rattle.machine_parts.specs.declared.thread.ThreadDraft.{ThreadDraft}
use Rattle.machine_parts.specs.Nodes.{AreBits}
use Rattle.machine_parts.specs.Parts.{bit_at, node_at}
use Rattle.machine_parts.specs.Drafts.{begun_now, is_on, is_send, is_set, offered_now}
use Rattle.process_nets.specs.Newest.{BeginsStand}

-- the act of a site sets the register and begins; it is offered on the port; it sends on the port and began last
abbrev pub sets_now : Moment → ThreadDraft → (register site : ℕ) → Bool
sets_now now draft register site =
    is_set register (deed_at draft.plan.now.deeds.items site) && begun_now now draft.plan.now draft.nets.pulses.items site

abbrev pub offers_now : Moment → ThreadDraft → (port site : ℕ) → Bool
offers_now now draft port site =
    is_on port (deed_at draft.plan.now.deeds.items site) && offered_now now draft.plan.now draft.nets.pulses.items site

abbrev pub shows_now : Moment → ThreadDraft → (port site : ℕ) → Bool
shows_now now draft port site =
    is_send port (deed_at draft.plan.now.deeds.items site) && told now (bit_at draft.newest.items site)

-- what an act uses
abbrev pub value_now : Moment → ThreadDraft → (site : ℕ) → ℕ
value_now now draft site = shown now (signal_at draft.nets.values.items site)

-- over the first so many acts: what a register takes, and whether one is offered on the port
abbrev pub written_by : Moment → ThreadDraft → (register taken count : ℕ) → ℕ
written_by now draft register taken count =
    last_write (sets_now now draft register) (value_now now draft) taken count

abbrev pub offered_by : Moment → ThreadDraft → (port count : ℕ) → Bool
offered_by now draft port count = some_begin (λ site cycle. offers_now now draft port site) count now.cycle

-- from an act on, so many: the data of the port
abbrev pub data_by : Moment → ThreadDraft → (port other site many : ℕ) → ℕ
data_by now draft port other site many =
    first_shown (shows_now now draft port) (value_now now draft) other site many

-- what is asked for the writes of a register of this width
pub record WritesStand (old : Module) (register width : ℕ) (draft : ThreadDraft) : Type 0 where
  pub begins : BeginsStand old draft.plan.now draft.nets.pulses.items
  pub values : (site : ℕ) → deed_at draft.plan.now.deeds.items site ≡ deeds.Sets register
      → Stands old (signal_at draft.nets.values.items site)
      × ((signal_at draft.nets.values.items site).width ≡ width)

-- for what is offered
abbrev pub OffersStand : Module → ThreadDraft → Type 0
OffersStand old draft =
    (site : ℕ) → site < length draft.plan.now.deeds.items
    → IsBit old (pulse_at draft.nets.pulses.items (node_at draft.plan.now.ends.items site)).known

-- and for the data of a port of this width
pub record DataStand (old : Module) (port width : ℕ) (draft : ThreadDraft) : Type 0 where
  pub newest : AreBits old draft.newest.items
  pub values : (site : ℕ) → deed_at draft.plan.now.deeds.items site ≡ deeds.Sends port
      → Stands old (signal_at draft.nets.values.items site)
      × ((signal_at draft.nets.values.items site).width ≡ width)

-- of each thread
abbrev pub EachDraft : (ThreadDraft → Type 0) → List ThreadDraft → Type 0
EachDraft P drafts = (thread : ℕ) (draft : ThreadDraft) → slice_get drafts thread ≡ Some draft → P draft

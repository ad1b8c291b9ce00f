-- What the registers of a module keep: those of the source, and of each thread one bit that it has started, what its nodes
-- keep, the side of each `if`, and of each `send` whether it began last of its port.
use Rattle.std.specs.Prelude.{ℕ, ◌≡◌, ◌^◌, ◌<◌, Bool, true, false, List, [], ◌∷◌, ◌++◌, length, map, slice_get, slice_index_or, Some, suc}
use Rattle.order_rules.specs.Form.{Form, After, Sync, Join}
use Rattle.core_term.specs.declared.process.CorePort.{CorePort}
use Rattle.core_term.specs.declared.process.CoreReg.{CoreReg}
use Rattle.sv_tree.specs.declared.tree.SvPort.{SvPort}
use Rattle.sv_tree.specs.declared.tree.SvReg.{SvReg}
use Rattle.sv_tree.specs.declared.tree.SvRegName.TheVariants.{Source, State}
use Rattle.sv_tree.specs.declared.tree.SvRef.TheVariants.{Reg}
use Rattle.sv_tree.specs.declared.tree.SvOperand.TheVariants.{Ref}
use Rattle.module_nets.specs.declared.signal.Signal.{Signal}
use Rattle.pulse_nets.specs.Pulses.{form_of}
use Rattle.module_nets.specs.Netlist.{IsFrame}
use Rattle.act_deeds.specs.declared.deed.Deed.{Deed}
use Rattle.act_deeds.specs.declared.deed.Deed.TheVariants as deed
use Rattle.act_deeds.specs.Deeds.{deed_at}
use Rattle.machine_parts.specs.declared.plan.NodePlan.{NodePlan}
use Rattle.machine_parts.specs.declared.plan.TurnPlan.{TurnPlan}
use Rattle.machine_parts.specs.declared.frame.Keep.{Keep}
use Rattle.machine_parts.specs.declared.frame.Keep.TheVariants as keep
use Rattle.machine_parts.specs.declared.frame.Frame.{Frame}
use Rattle.machine_parts.specs.declared.frame.ThreadStates.{ThreadStates}
use Rattle.machine_parts.specs.Digits.{digits}
use Rattle.machine_parts.specs.Parts.{zero_bit, bit_at, form_in}

-- the nodes that keep a bit or a counter
abbrev pub keeps_state : Form ℕ → Bool
keeps_state (After delay from) = true
keeps_state (Sync from) = true
keeps_state (Join first second) = true
keeps_state form = false

-- a signal of so many bits of this width
abbrev pub HasWidth : (width : ℕ) → Form ℕ → Type 0
HasWidth width (After delay from) = (width ≡ digits delay) × (delay < 2 ^ width)
HasWidth width form = width ≡ 1

-- the list of what is kept: of the nodes of a thread from a number on, of its sites, of the thread, and of all threads

abbrev pub keep_if : Bool → Keep → List Keep
keep_if true kept = kept ∷ []
keep_if false kept = []

abbrev pub node_keeps : (thread node : ℕ) → List NodePlan → List Keep
node_keeps thread node [] = []
node_keeps thread node (plan ∷ rest) =
    keep_if (keeps_state (form_of plan.shape)) (keep.Node thread node)
    ++ node_keeps thread (suc node) rest

abbrev pub site_keep : (thread site : ℕ) → Deed → List Keep
site_keep thread site deed.Decides = keep.Side thread site ∷ []
site_keep thread site (deed.Sends port) = keep.Newest thread site ∷ []
site_keep thread site act = []

abbrev pub site_keeps : (thread site : ℕ) → List Deed → List Keep
site_keeps thread site [] = []
site_keeps thread site (deed ∷ rest) = site_keep thread site deed ++ site_keeps thread (suc site) rest

abbrev pub thread_keeps : (thread : ℕ) → TurnPlan → List Keep
thread_keeps thread plan =
    keep.Started thread ∷ (node_keeps thread 0 plan.nodes.items ++ site_keeps thread 0 plan.deeds.items)

abbrev pub threads_keeps : (thread : ℕ) → List TurnPlan → List Keep
threads_keeps thread [] = []
threads_keeps thread (plan ∷ rest) = thread_keeps thread plan ++ threads_keeps (suc thread) rest

abbrev pub source_keeps : (register : ℕ) → List CoreReg → List Keep
source_keeps register [] = []
source_keeps register (first ∷ rest) = keep.Source register ∷ source_keeps (suc register) rest

abbrev pub keeps_of : List CoreReg → List TurnPlan → List Keep
keeps_of registers plans = source_keeps 0 registers ++ threads_keeps 0 plans

abbrev pub no_keep : Keep
no_keep = keep.Started 0

abbrev pub keep_at : List Keep → ℕ → Keep
keep_at keeps place = slice_index_or keeps place no_keep

abbrev pub no_register : SvReg
no_register = record { name = State 0; width = 1; reset = record { width = 1; value = 0 } }

abbrev pub register_at : List SvReg → ℕ → SvReg
register_at regs place = slice_index_or regs place no_register

-- the signal is that of the register that keeps this
pub record HasRegister (frame : Frame) (kept : Keep) (signal : Signal) : Type 0 where
  pub place : ℕ
  pub inside : place < length frame.regs.items
  pub operand : signal.operand ≡ Ref (Reg place)
  pub keeps : keep_at frame.keeps.items place ≡ kept
  pub width : (register_at frame.regs.items place).width ≡ signal.width

-- the registers of a thread
pub record AreStates (frame : Frame) (thread : ℕ) (plan : TurnPlan) (states : ThreadStates) : Type 0 where
  pub started : HasRegister frame (keep.Started thread) states.started
  pub started_bit : states.started.width ≡ 1
  pub node_count : length states.nodes.items ≡ length plan.nodes.items
  pub nodes : (node : ℕ) → node < length plan.nodes.items → keeps_state (form_in plan.nodes.items node) ≡ true
      → HasRegister frame (keep.Node thread node) (bit_at states.nodes.items node)
      × HasWidth (bit_at states.nodes.items node).width (form_in plan.nodes.items node)
  pub no_state : (node : ℕ) → keeps_state (form_in plan.nodes.items node) ≡ false
      → bit_at states.nodes.items node ≡ zero_bit
  pub side_count : length states.sides.items ≡ length plan.deeds.items
  pub sides : (site : ℕ) → deed_at plan.deeds.items site ≡ deed.Decides
      → HasRegister frame (keep.Side thread site) (bit_at states.sides.items site)
      × ((bit_at states.sides.items site).width ≡ 1)
  pub no_side : (site : ℕ) → (deed_at plan.deeds.items site ≡ deed.Decides → ⊥)
      → bit_at states.sides.items site ≡ zero_bit
  pub newest_count : length states.newest.items ≡ length plan.deeds.items
  pub newest : (site port : ℕ) → deed_at plan.deeds.items site ≡ deed.Sends port
      → HasRegister frame (keep.Newest thread site) (bit_at states.newest.items site)
      × ((bit_at states.newest.items site).width ≡ 1)
  pub not_newest : (site : ℕ) → ((port : ℕ) → deed_at plan.deeds.items site ≡ deed.Sends port → ⊥)
      → bit_at states.newest.items site ≡ zero_bit

abbrev pub port_of : CorePort → SvPort
port_of port =
    record { endpoint = port.endpoint; message = port.message; received = port.received; width = port.width }

abbrev pub source_of : CoreReg → SvReg
source_of register = record { name = Source register.name; width = register.width; reset = register.reset }

-- what stands of a register that keeps this: it is there, and has the width of what it keeps
abbrev pub KeepFits : List SvReg → List CoreReg → List TurnPlan → (place : ℕ) → Keep → Type 0
KeepFits regs registers plans place (keep.Source register) =
    (first : CoreReg) × (slice_get registers register ≡ Some first)
    × (register_at regs place ≡ source_of first)
KeepFits regs registers plans place (keep.Started thread) =
    (plan : TurnPlan) × (slice_get plans thread ≡ Some plan) × ((register_at regs place).width ≡ 1)
KeepFits regs registers plans place (keep.Node thread node) =
    (plan : TurnPlan) × (slice_get plans thread ≡ Some plan) × (node < length plan.nodes.items)
    × (keeps_state (form_in plan.nodes.items node) ≡ true)
    × HasWidth (register_at regs place).width (form_in plan.nodes.items node)
KeepFits regs registers plans place (keep.Side thread site) =
    (plan : TurnPlan) × (slice_get plans thread ≡ Some plan) × (deed_at plan.deeds.items site ≡ deed.Decides)
    × ((register_at regs place).width ≡ 1)
KeepFits regs registers plans place (keep.Newest thread site) =
    (plan : TurnPlan) × (slice_get plans thread ≡ Some plan) × (port : ℕ)
    × (deed_at plan.deeds.items site ≡ deed.Sends port) × ((register_at regs place).width ≡ 1)

pub record IsFrameOf (ports : List CorePort) (registers : List CoreReg) (plans : List TurnPlan)
    (frame : Frame) : Type 0 where
  pub ports_are : frame.ports.items ≡ map port_of ports
  pub is_frame : IsFrame frame.ports.items frame.regs.items
  pub keeps_are : frame.keeps.items ≡ keeps_of registers plans
  pub keep_count : length frame.keeps.items ≡ length frame.regs.items
  -- the registers of the source come first, and all others are reset to 0
  pub states : List SvReg
  pub registers_are : frame.regs.items ≡ map source_of registers ++ states
  pub state_names : (place : ℕ) → place < length states
      → (number : ℕ) × ((register_at states place).name ≡ State number)
  pub resets : (place : ℕ) → place < length states → (register_at states place).reset.value ≡ 0
  -- each register keeps what it should, and each thread has its registers
  pub kept : (place : ℕ) → place < length frame.keeps.items
      → KeepFits frame.regs.items registers plans place (keep_at frame.keeps.items place)
  pub thread_count : length frame.states.items ≡ length plans
  pub threads : (thread : ℕ) (plan : TurnPlan) (states : ThreadStates) → slice_get plans thread ≡ Some plan
      → slice_get frame.states.items thread ≡ Some states → AreStates frame thread plan states

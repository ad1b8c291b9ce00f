-- A frame as states are added: what it gains, and the signals that are answered for what is kept.
use Rattle.std.specs.Prelude.{ℕ, ◌≡◌, ◌+◌, ◌^◌, ◌≤◌, ◌<◌, ◌&&◌, nat_le, nat_lt, Bool, true, false, IsTrue}
use Rattle.std.specs.Prelude.{List, ◌++◌, length, map, slice_get, Some}
use Rattle.std.specs.List.{list_all}
use Rattle.core_term.specs.declared.process.CorePort.{CorePort}
use Rattle.core_term.specs.declared.process.CoreReg.{CoreReg}
use Rattle.order_rules.specs.Form.{Form}
use Rattle.sv_tree.specs.Limits.{longest_name, too_many}
use Rattle.sv_tree.specs.WellFormed.{is_width}
use Rattle.module_nets.specs.declared.signal.Signal.{Signal}
use Rattle.act_deeds.specs.declared.deed.Deed.{Deed}
use Rattle.act_deeds.specs.declared.deed.Deed.TheVariants as deed
use Rattle.machine_parts.specs.declared.plan.TurnPlan.{TurnPlan}
use Rattle.machine_parts.specs.declared.frame.Frame.{Frame}
use Rattle.machine_parts.specs.declared.frame.Keep.TheVariants as keep
use Rattle.machine_parts.specs.Frames.{HasRegister, HasWidth, keeps_state}
use Rattle.machine_parts.specs.Parts.{zero_bit, bit_at}
use Rattle.module_frame.specs.declared.draft.FrameDraft.{FrameDraft}
use Rattle.module_frame.specs.declared.draft.SiteState.{SiteState}
use Rattle.module_frame.specs.Slots.{Slot, states_from}

-- so many registers more leave fewer than 2 to the power of 32
pub record HasRoom (draft : FrameDraft) (more : ℕ) : Type 0 where
  pub same : length draft.frame.keeps.items ≡ length draft.frame.regs.items
  pub counted : draft.state_count ≤ length draft.frame.regs.items
  pub room : length draft.frame.regs.items + more < too_many

-- these states were added, and nothing else
pub record Grown (old new : FrameDraft) (slots : List Slot) : Type 0 where
  pub regs : new.frame.regs.items ≡ old.frame.regs.items ++ states_from old.state_count slots
  pub keeps : new.frame.keeps.items ≡ old.frame.keeps.items ++ map (λ slot. slot.keep) slots
  pub count : new.state_count ≡ old.state_count + length slots
  pub ports : new.frame.ports.items ≡ old.frame.ports.items
  pub states : new.frame.states.items ≡ old.frame.states.items
  pub wide : IsTrue (list_all (λ slot. is_width slot.width) slots)

-- the register of a node, where its form asks for one
pub record NodeHeld (frame : Frame) (thread node : ℕ) (form : Form ℕ) (signal : Signal) : Type 0 where
  pub state : keeps_state form ≡ true
      → HasRegister frame (keep.Node thread node) signal × HasWidth signal.width form
  pub no_state : keeps_state form ≡ false → signal ≡ zero_bit

-- the registers of an act, where it asks for one
pub record SiteHeld (frame : Frame) (thread site : ℕ) (act : Deed) (signals : SiteState) : Type 0 where
  pub side : act ≡ deed.Decides
      → HasRegister frame (keep.Side thread site) signals.side × (signals.side.width ≡ 1)
  pub no_side : (act ≡ deed.Decides → ⊥) → signals.side ≡ zero_bit
  pub newest : (port : ℕ) → act ≡ deed.Sends port
      → HasRegister frame (keep.Newest thread site) signals.newest × (signals.newest.width ≡ 1)
  pub not_newest : ((port : ℕ) → act ≡ deed.Sends port → ⊥) → signals.newest ≡ zero_bit

-- those of an act, by its site
abbrev pub site_at : (sides newest : List Signal) → ℕ → SiteState
site_at sides newest site = record { side = bit_at sides site; newest = bit_at newest site }

-- what the types of a port and of a register of the source keep
abbrev pub is_kept_port : CorePort → Bool
is_kept_port port = nat_le (length port.endpoint) longest_name && nat_le (length port.message) longest_name

abbrev pub is_kept_register : CoreReg → Bool
is_kept_register register =
    nat_le (length register.name) longest_name && nat_lt register.reset.value (2 ^ register.reset.width)

-- plans of threads that were read have few nodes and acts
abbrev pub AreFew : List TurnPlan → Type 0
AreFew plans =
    (thread : ℕ) (plan : TurnPlan) → slice_get plans thread ≡ Some plan
    → (length plan.nodes.items < 8192) × (length plan.deeds.items ≤ 512)

-- What a port is given, and what is asked of the threads for that.
use Rattle.std.specs.Prelude.{ℕ, ◌≡◌, ◌<◌, ◌≤◌, true, false, List, slice_get, Some}
use Rattle.core_term.specs.declared.process.CorePort.{CorePort}
use Rattle.sv_tree.specs.declared.tree.SvOut.{SvOut}
use Rattle.sv_tree.specs.declared.tree.SvOut.TheVariants.{Received, Sent}
use Rattle.sv_tree.specs.Module.{Module}
use Rattle.module_nets.specs.Netlist.{Stands}
use Rattle.module_nets.specs.Bits.{IsBit}
use Rattle.machine_parts.specs.declared.thread.ThreadDraft.{ThreadDraft}
use Rattle.machine_parts.specs.Modules.{OutDrawn}
use Rattle.process_nets.specs.Acts.{DataStand, EachDraft, OffersStand}

pub record PortStands (old : Module) (drafts : List ThreadDraft) (port : ℕ) (is : CorePort) : Type 0 where
  pub some : 1 ≤ is.width
  pub few : is.width ≤ 64
  pub offers : EachDraft (OffersStand old) drafts
  pub sends : EachDraft (DataStand old port is.width) drafts

-- the operands have the widths of the wires
abbrev pub OutFits : Module → CorePort → SvOut → Type 0
OutFits old is (Received ack) = (is.received ≡ true) × IsBit old record { operand = ack; width = 1 }
OutFits old is (Sent value valid) =
    (is.received ≡ false) × Stands old record { operand = value; width = is.width }
    × IsBit old record { operand = valid; width = 1 }

pub record PortDrawn (old : Module) (drafts : List ThreadDraft) (port : ℕ) (is : CorePort) (out : SvOut) : Type 0 where
  pub fits : OutFits old is out
  pub drawn : OutDrawn old drafts port is out

-- of each of the first so many ports
abbrev pub PortsDrawn : Module → List ThreadDraft → List CorePort → List SvOut → (count : ℕ) → Type 0
PortsDrawn old drafts ports outs count =
    (port : ℕ) (is : CorePort) → port < count → slice_get ports port ≡ Some is
    → (out : SvOut) × (slice_get outs port ≡ Some out) × PortDrawn old drafts port is out

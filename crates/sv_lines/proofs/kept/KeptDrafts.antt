-- What each reached state keeps: the whole modules are well-formed with names that differ, and the module that is begun is
-- well-formed as far as it is read. What is wanted next adds what has been read for it already.
use Rattle.std.specs.Prelude.{◌≡◌, ◌≤◌, ℕ, nat_lt, Bool, true, false, ◌&&◌, List, [], ◌∷◌, length, map, slice_get, bytes_eq, Some}
use Rattle.std.specs.List.{list_all, list_any}
use Rattle.sv_tree.specs.declared.tree.SvPort.{SvPort}
use Rattle.sv_tree.specs.declared.tree.SvReg.{SvReg}
use Rattle.sv_tree.specs.declared.tree.SvRegName.{SvRegName}
use Rattle.sv_tree.specs.declared.tree.SvNet.{SvNet}
use Rattle.sv_tree.specs.declared.tree.SvOut.{SvOut}
use Rattle.sv_tree.specs.declared.tree.SvOperand.{SvOperand}
use Rattle.sv_tree.specs.Limits.{too_many}
use Rattle.sv_tree.specs.Module.{Module}
use Rattle.sv_tree.specs.WellFormed.{is_name, is_port_name, is_register_name, has_no_twice, is_same_port, is_same_register, sources_then_states, is_width, nets_fit, out_fits, outs_fit, reset_fits, gives, nexts_fit, is_well_formed}
use Rattle.sv_lines.specs.State.{Wanted, clock_wanted, reset_wanted, port_wanted, closing_wanted, valid_wanted, ack_wanted, item_wanted, assign_wanted, second_wanted, test_wanted, resets_wanted, nexts_wanted, end_wanted, last_wanted, State, between, inside}
use Rattle.sv_lines.specs.Step.{Reached, onward, finished, has_room, is_empty}

pub record Whole (modules : List Module) : Type 0 where
  pub well_formed : list_all is_well_formed modules ≡ true
  pub names_differ : has_no_twice bytes_eq (map (λ (tree : Module). tree.proc) modules) ≡ true

-- the outputs that are read are those of the first ports
abbrev pub first_outs_fit : Module → List SvPort → List SvOut → Bool
first_outs_fit tree ports [] = true
first_outs_fit tree [] (out ∷ outs) = false
first_outs_fit tree (port ∷ ports) (out ∷ outs) = out_fits tree port out && first_outs_fit tree ports outs

-- and so the next values
abbrev pub first_nexts_fit : Module → List SvReg → List SvOperand → Bool
first_nexts_fit tree regs [] = true
first_nexts_fit tree [] (next ∷ nexts) = false
first_nexts_fit tree (reg ∷ regs) (next ∷ nexts) = gives tree reg.width next && first_nexts_fit tree regs nexts

-- a good name that no whole module has
pub record Named (whole : List Module) (proc : List ℕ) : Type 0 where
  pub good : is_name proc ≡ true
  pub is_new : list_any (bytes_eq proc) (map (λ (other : Module). other.proc) whole) ≡ false

pub record PortsKept (ports : List SvPort) : Type 0 where
  pub good : list_all is_port_name ports ≡ true
  pub differ : has_no_twice is_same_port ports ≡ true
  pub widths : list_all (λ (p : SvPort). is_width p.width) ports ≡ true
  pub few : nat_lt (length ports) too_many ≡ true

abbrev pub names_of : List SvReg → List SvRegName
names_of regs = map (λ (r : SvReg). r.name) regs

pub record RegistersKept (regs : List SvReg) : Type 0 where
  pub good : list_all (λ (r : SvReg). is_register_name r.name) regs ≡ true
  pub differ : has_no_twice is_same_register (names_of regs) ≡ true
  pub in_order : sources_then_states (names_of regs) ≡ true
  pub widths : list_all (λ (r : SvReg). is_width r.width) regs ≡ true
  pub resets : list_all reset_fits regs ≡ true
  pub few : nat_lt (length regs) too_many ≡ true

pub record NetsKept (tree : Module) : Type 0 where
  pub widths : list_all (λ (n : SvNet). is_width n.width) tree.nets ≡ true
  pub fit : nets_fit tree 0 tree.nets ≡ true
  pub few : nat_lt (length tree.nets) too_many ≡ true

-- the module as far as it is read
pub record Drafted (whole : List Module) (tree : Module) : Type 0 where
  pub modules : Whole whole
  pub name : Named whole tree.proc
  pub ports : PortsKept tree.ports
  pub registers : RegistersKept tree.regs
  pub nets : NetsKept tree
  pub outs : first_outs_fit tree tree.ports tree.outs ≡ true
  pub nexts : first_nexts_fit tree tree.regs tree.nexts ≡ true

-- What is added by what is wanted next.

-- in the header there are ports alone
pub record Bare (tree : Module) : Type 0 where
  pub no_regs : tree.regs ≡ []
  pub no_nets : tree.nets ≡ []
  pub no_outs : tree.outs ≡ []
  pub no_nexts : tree.nexts ≡ []

-- before the header's end, behind its first lines
pub record Opened (tree : Module) : Type 0 where
  pub bare : Bare tree
  pub no_ports : tree.ports ≡ []

pub record PortWanted (tree : Module) : Type 0 where
  pub bare : Bare tree
  pub room : has_room (length tree.ports) ≡ true

-- a port that is read in part
pub record PortBegun (tree : Module) (port : SvPort) : Type 0 where
  pub bare : Bare tree
  pub room : has_room (length tree.ports) ≡ true
  pub good : is_port_name port ≡ true
  pub is_new : list_any (is_same_port port) tree.ports ≡ false
  pub within : is_width port.width ≡ true

-- behind the header there are no next values before the clock's block
pub record Items (tree : Module) : Type 0 where
  pub no_nexts : tree.nexts ≡ []

pub record NetBegun (tree : Module) (width : ℕ) : Type 0 where
  pub no_outs : tree.outs ≡ []
  pub no_nexts : tree.nexts ≡ []
  pub within : is_width width ≡ true
  pub room : has_room (length tree.nets) ≡ true

pub record OutBegun (tree : Module) (value : SvOperand) : Type 0 where
  pub no_nexts : tree.nexts ≡ []
  pub port : SvPort
  pub is_there : slice_get tree.ports (length tree.outs) ≡ Some port
  pub is_sent : port.received ≡ false
  pub fits : gives tree port.width value ≡ true

-- all outputs are read, and there is a register
pub record Clocked (tree : Module) : Type 0 where
  pub outs : outs_fit tree tree.ports tree.outs ≡ true
  pub some : is_empty tree.regs ≡ false

pub record ResetsWanted (tree : Module) : Type 0 where
  pub clocked : Clocked tree
  pub no_nexts : tree.nexts ≡ []

pub record ResetsBegun (tree : Module) (done : ℕ) : Type 0 where
  pub wanted : ResetsWanted tree
  pub within : done ≤ length tree.regs

pub record Ended (tree : Module) : Type 0 where
  pub clocked : Clocked tree
  pub nexts : nexts_fit tree tree.regs tree.nexts ≡ true

abbrev pub At : Module → Wanted → Type 0
At tree clock_wanted = Opened tree
At tree reset_wanted = Opened tree
At tree port_wanted = PortWanted tree
At tree closing_wanted = Bare tree
At tree (valid_wanted port) = PortBegun tree port
At tree (ack_wanted port) = PortBegun tree port
At tree item_wanted = Items tree
At tree (assign_wanted width) = NetBegun tree width
At tree (second_wanted value) = OutBegun tree value
At tree test_wanted = ResetsWanted tree
At tree (resets_wanted done) = ResetsBegun tree done
At tree nexts_wanted = Clocked tree
At tree end_wanted = Ended tree
At tree last_wanted = Ended tree

pub record Inside (whole : List Module) (draft : Module) (wanted : Wanted) : Type 0 where
  pub drafted : Drafted whole draft
  pub at : At draft wanted

abbrev pub Kept : State → Type 0
Kept (between whole) = Whole whole
Kept (inside whole draft wanted) = Inside whole draft wanted

-- what a line comes to in a module
pub record Finished (whole : List Module) (tree : Module) : Type 0 where
  pub modules : Whole whole
  pub name : Named whole tree.proc
  pub well_formed : is_well_formed tree ≡ true

abbrev pub KeptReached : List Module → Reached → Type 0
KeptReached whole (onward draft wanted) = Inside whole draft wanted
KeptReached whole (finished draft) = Finished whole draft

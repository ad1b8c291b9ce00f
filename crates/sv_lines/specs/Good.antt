-- What holds of each state that the reading comes to: what has been read of a module is well-formed as far as it goes,
-- and what is wanted next says what has been read for it.
use Rattle.std.specs.Prelude.{◌≡◌, ◌≤◌, Bool, true, false, ◌&&◌, List, [], ◌∷◌, length, map, Option, Some, None}
use Rattle.std.specs.Prelude.{slice_get, bytes_eq}
use Rattle.std.specs.List.{list_all, list_any}
use Rattle.sv_tree.specs.declared.tree.SvPort.{SvPort}
use Rattle.sv_tree.specs.declared.tree.SvReg.{SvReg}
use Rattle.sv_tree.specs.declared.tree.SvOut.{SvOut}
use Rattle.sv_tree.specs.declared.tree.SvOperand.{SvOperand}
use Rattle.sv_tree.specs.Module.{Module}
use Rattle.sv_tree.specs.WellFormed.{is_port_name, names_are_good, has_no_twice, is_same_port, names_differ, register_names, sources_then_states, is_width, widths_are_within, nets_fit, gives, out_fits, reset_fits, are_few, is_well_formed}
use Rattle.sv_lines.specs.State.{Wanted, clock_wanted, reset_wanted, port_wanted, closing_wanted, valid_wanted, ack_wanted, item_wanted, assign_wanted, second_wanted, test_wanted, resets_wanted, nexts_wanted, end_wanted, last_wanted, State, between, inside}
use Rattle.sv_lines.specs.Step.{is_empty, has_room}

-- the outputs so far, and the next values so far
abbrev pub outs_begin : Module → List SvPort → List SvOut → Bool
outs_begin tree ports [] = true
outs_begin tree [] (out ∷ outs) = false
outs_begin tree (port ∷ ports) (out ∷ outs) = out_fits tree port out && outs_begin tree ports outs

abbrev pub nexts_begin : Module → List SvReg → List SvOperand → Bool
nexts_begin tree regs [] = true
nexts_begin tree [] (next ∷ nexts) = false
nexts_begin tree (reg ∷ regs) (next ∷ nexts) = gives tree reg.width next && nexts_begin tree regs nexts

-- well-formed as far as it goes
pub record GoodDraft (tree : Module) : Type 0 where
  pub names : names_are_good tree ≡ true
  pub differ : names_differ tree ≡ true
  pub ordered : sources_then_states (register_names tree) ≡ true
  pub widths : widths_are_within tree ≡ true
  pub nets : nets_fit tree 0 tree.nets ≡ true
  pub outs : outs_begin tree tree.ports tree.outs ≡ true
  pub resets : list_all reset_fits tree.regs ≡ true
  pub nexts : nexts_begin tree tree.regs tree.nexts ≡ true
  pub few : are_few tree ≡ true

-- nothing is read but ports
pub record IsHeader (tree : Module) : Type 0 where
  pub no_regs : tree.regs ≡ []
  pub no_nets : tree.nets ≡ []
  pub no_outs : tree.outs ≡ []
  pub no_nexts : tree.nexts ≡ []

-- a port that is being read
pub record IsNewPort (tree : Module) (port : SvPort) : Type 0 where
  pub name : is_port_name port ≡ true
  pub width : is_width port.width ≡ true
  pub fresh : list_any (is_same_port port) tree.ports ≡ false
  pub room : has_room (length tree.ports) ≡ true

-- the sent port of which the data is given
abbrev pub IsSecond : Module → SvOperand → Option SvPort → Type 0
IsSecond tree value None = ⊥
IsSecond tree value (Some port) = (port.received ≡ false) × (gives tree port.width value ≡ true)

-- the clock's block is wanted or begun
pub record IsClocked (tree : Module) : Type 0 where
  pub some_regs : is_empty tree.regs ≡ false
  pub all_outs : slice_get tree.ports (length tree.outs) ≡ None

abbrev pub IsAt : Module → Wanted → Type 0
IsAt tree clock_wanted = IsHeader tree × (tree.ports ≡ [])
IsAt tree reset_wanted = IsHeader tree × (tree.ports ≡ [])
IsAt tree port_wanted = IsHeader tree × (has_room (length tree.ports) ≡ true)
IsAt tree closing_wanted = IsHeader tree
IsAt tree (valid_wanted port) = IsHeader tree × IsNewPort tree port
IsAt tree (ack_wanted port) = IsHeader tree × IsNewPort tree port
IsAt tree item_wanted = tree.nexts ≡ []
IsAt tree (assign_wanted width) =
    (tree.nexts ≡ []) × (tree.outs ≡ []) × (is_width width ≡ true) × (has_room (length tree.nets) ≡ true)
IsAt tree (second_wanted value) = (tree.nexts ≡ []) × IsSecond tree value (slice_get tree.ports (length tree.outs))
IsAt tree test_wanted = (tree.nexts ≡ []) × IsClocked tree
IsAt tree (resets_wanted done) = (tree.nexts ≡ []) × IsClocked tree × (done ≤ length tree.regs)
IsAt tree nexts_wanted = IsClocked tree
IsAt tree end_wanted = IsClocked tree × (slice_get tree.regs (length tree.nexts) ≡ None)
IsAt tree last_wanted = IsClocked tree × (slice_get tree.regs (length tree.nexts) ≡ None)

-- the modules that are whole
pub record AreWhole (modules : List Module) : Type 0 where
  pub well_formed : list_all is_well_formed modules ≡ true
  pub names_differ : has_no_twice bytes_eq (map (λ tree. tree.proc) modules) ≡ true

pub record IsInside (whole : List Module) (tree : Module) (wanted : Wanted) : Type 0 where
  pub before : AreWhole whole
  pub fresh : list_any (bytes_eq tree.proc) (map (λ tree. tree.proc) whole) ≡ false
  pub good : GoodDraft tree
  pub placed : IsAt tree wanted

abbrev pub IsGood : State → Type 0
IsGood (between whole) = AreWhole whole
IsGood (inside whole tree wanted) = IsInside whole tree wanted

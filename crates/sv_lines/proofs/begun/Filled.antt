-- A draft is filled up to a whole module: the outputs and next values that are missing are literals 0. It is well-formed.
use Rattle.std.proofs.Common.{◌≡◌, ℕ, ◌^◌, Bool, true, false, List, [], ◌∷◌, ◌++◌, length, map, drop, refl}
use Rattle.std.proofs.lemmas.Bool.{lt-ltb, eq-eqb, and_parts}
use Rattle.std.proofs.lemmas.Nat.{pow_pos}
use Rattle.std.specs.Prelude.{◌==◌, nat_lt}
use Rattle.std.specs.List.{list_all}
use Rattle.sv_tree.specs.declared.tree.SvPort.{SvPort}
use Rattle.sv_tree.specs.declared.tree.SvReg.{SvReg}
use Rattle.sv_tree.specs.declared.tree.SvOperand.{SvOperand}
use Rattle.sv_tree.specs.declared.tree.SvOperand.TheVariants.{Lit}
use Rattle.sv_tree.specs.declared.tree.SvOut.{SvOut}
use Rattle.sv_tree.specs.declared.tree.SvOut.TheVariants.{Received, Sent}
use Rattle.sv_tree.specs.Module.{Module}
use Rattle.sv_tree.specs.WellFormed.{is_width, gives, out_fits, outs_fit, nexts_fit, is_well_formed}
use Rattle.sv_lines.proofs.kept.KeptDrafts.{first_outs_fit, first_nexts_fit, Drafted, Finished}
use Rattle.sv_lines.proofs.kept.OutputsKept.{all_hold}
use Rattle.sv_lines.proofs.kept.Standing.{same_parts, nets_stay, first_outs_seen, first_nexts_seen}

abbrev pub literal_of_width : ℕ → SvOperand
literal_of_width width = Lit (record { width = width; value = 0 })

abbrev pub missing_by : (received : Bool) → (width : ℕ) → SvOut
missing_by true width = Received (literal_of_width 1)
missing_by false width = Sent (literal_of_width width) (literal_of_width 1)

abbrev pub missing_out : SvPort → SvOut
missing_out port = missing_by port.received port.width

abbrev pub missing_next : SvReg → SvOperand
missing_next reg = literal_of_width reg.width

abbrev pub filled_outs : List SvPort → List SvOut → List SvOut
filled_outs ports outs = outs ++ map missing_out (drop (length outs) ports)

abbrev pub filled_nexts : List SvReg → List SvOperand → List SvOperand
filled_nexts regs nexts = nexts ++ map missing_next (drop (length nexts) regs)

abbrev pub filled : Module → Module
filled tree = record {
  proc = tree.proc;
  ports = tree.ports;
  regs = tree.regs;
  nets = tree.nets;
  outs = filled_outs tree.ports tree.outs;
  nexts = filled_nexts tree.regs tree.nexts;
}

pub gives_literal : (tree : Module) (width : ℕ) → is_width width ≡ true → gives tree width (literal_of_width width) ≡ true
gives_literal tree width within =
    let zero_fits : nat_lt 0 (2 ^ width) ≡ true = lt-ltb 0 (2 ^ width) (pow_pos width) in
    let same : (width == width) ≡ true = eq-eqb width width refl in
    rw (within, zero_fits, same) refl

missing_fits_by : (tree : Module) (port : SvPort) (received : Bool) → port.received ≡ received → is_width port.width ≡ true → out_fits tree port (missing_by received port.width) ≡ true
missing_fits_by tree port true is within = rw (is, gives_literal tree 1 refl) refl
missing_fits_by tree port false is within = rw (is, gives_literal tree port.width within, gives_literal tree 1 refl) refl

missing_fits : (tree : Module) (port : SvPort) → is_width port.width ≡ true → out_fits tree port (missing_out port) ≡ true
missing_fits tree port within = missing_fits_by tree port port.received refl within

filled_outs_fit : (tree : Module) (ports : List SvPort) (outs : List SvOut) → list_all (λ (p : SvPort). is_width p.width) ports ≡ true → first_outs_fit tree ports outs ≡ true
    → outs_fit tree ports (filled_outs ports outs) ≡ true
filled_outs_fit tree [] [] within fit = refl
filled_outs_fit tree [] (out ∷ outs) within fit = absurd cc
filled_outs_fit tree (port ∷ ports) [] within fit =
    let parts = and_parts (is_width port.width) (list_all (λ (p : SvPort). is_width p.width) ports) within in
    rw (missing_fits tree port parts.0, filled_outs_fit tree ports [] parts.1 refl) refl
filled_outs_fit tree (port ∷ ports) (out ∷ outs) within fit =
    let parts = and_parts (is_width port.width) (list_all (λ (p : SvPort). is_width p.width) ports) within in
    let fits = and_parts (out_fits tree port out) (first_outs_fit tree ports outs) fit in
    rw (fits.0, filled_outs_fit tree ports outs parts.1 fits.1) refl

filled_nexts_fit : (tree : Module) (regs : List SvReg) (nexts : List SvOperand) → list_all (λ (r : SvReg). is_width r.width) regs ≡ true → first_nexts_fit tree regs nexts ≡ true
    → nexts_fit tree regs (filled_nexts regs nexts) ≡ true
filled_nexts_fit tree [] [] within fit = refl
filled_nexts_fit tree [] (next ∷ nexts) within fit = absurd cc
filled_nexts_fit tree (reg ∷ regs) [] within fit =
    let parts = and_parts (is_width reg.width) (list_all (λ (r : SvReg). is_width r.width) regs) within in
    rw (gives_literal tree reg.width parts.0, filled_nexts_fit tree regs [] parts.1 refl) refl
filled_nexts_fit tree (reg ∷ regs) (next ∷ nexts) within fit =
    let parts = and_parts (is_width reg.width) (list_all (λ (r : SvReg). is_width r.width) regs) within in
    let fits = and_parts (gives tree reg.width next) (first_nexts_fit tree regs nexts) fit in
    rw (fits.0, filled_nexts_fit tree regs nexts parts.1 fits.1) refl

filled_is_well_formed : (whole : List Module) (tree : Module) → Drafted whole tree → is_well_formed (filled tree) ≡ true
filled_is_well_formed whole tree drafted =
    let same = same_parts tree (filled tree) refl refl refl in
    all_hold whole (filled tree) drafted.name drafted.ports drafted.registers (nets_stay tree (filled tree) same refl drafted.nets)
    (filled_outs_fit (filled tree) tree.ports tree.outs drafted.ports.widths (first_outs_seen tree (filled tree) same tree.ports tree.outs drafted.outs))
    (filled_nexts_fit (filled tree) tree.regs tree.nexts drafted.registers.widths (first_nexts_seen tree (filled tree) same tree.regs tree.nexts drafted.nexts))

pub filled_finished : (whole : List Module) (tree : Module) → Drafted whole tree → Finished whole (filled tree)
filled_finished whole tree drafted = record {
  modules = drafted.modules;
  name = drafted.name;
  well_formed = filled_is_well_formed whole tree drafted;
}

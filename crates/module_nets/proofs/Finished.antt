-- A netlist with outputs and next values that fit is a well-formed module.
use Rattle.std.proofs.Common.{◌≡◌, ℕ, zero, suc, true, List, [], ◌∷◌, get_or, map, refl, sym, ◌∙◌, ap, subst, append-nil}
use Rattle.std.specs.Prelude.{IsTrue, ◌==◌, nat_le, slice_get, slice_index}
use Rattle.std.specs.List.{list_all}
use Rattle.std.proofs.lemmas.Bool.{and_parts, and_from, lt-ltb, leb-true, eq-eqb, false≢true}
use Rattle.sv_tree.specs.declared.tree.SvPort.{SvPort}
use Rattle.sv_tree.specs.declared.tree.SvReg.{SvReg}
use Rattle.sv_tree.specs.declared.tree.SvRef.TheVariants.{Data}
use Rattle.sv_tree.specs.declared.tree.SvOperand.TheVariants.{Ref}
use Rattle.sv_tree.specs.declared.tree.SvNet.{SvNet}
use Rattle.sv_tree.specs.declared.tree.SvOut.{SvOut}
use Rattle.sv_tree.specs.declared.tree.SvOperand.{SvOperand}
use Rattle.sv_tree.specs.Module.{Module}
use Rattle.sv_tree.specs.WellFormed.{IsWellFormed, is_name, is_width, is_received}
use Rattle.sv_tree.proofs.WellFormedPoints.{well_formed_from_points}
use Rattle.module_nets.specs.Netlist.{netlist, Extends, Stands, IsNetlist, OutsFit, NextsFit}

pub finished_extends : (proc : List ℕ) (ports : List SvPort) (regs : List SvReg) (nets : List SvNet) (outs : List SvOut) (nexts : List SvOperand)
    → Extends (netlist ports regs nets) (record { proc = proc; ports = ports; regs = regs; nets = nets; outs = outs; nexts = nexts })
finished_extends proc ports regs nets outs nexts = record { ports = refl; regs = refl; more = []; nets = sym (append-nil nets) }

pub finished_is_well_formed : (proc : List ℕ) (ports : List SvPort) (regs : List SvReg) (nets : List SvNet) (outs : List SvOut) (nexts : List SvOperand)
    → IsNetlist (netlist ports regs nets) → IsTrue (is_name proc) → OutsFit (netlist ports regs nets) ports outs → NextsFit (netlist ports regs nets) regs nexts
    → IsWellFormed record { proc = proc; ports = ports; regs = regs; nets = nets; outs = outs; nexts = nexts }
finished_is_well_formed proc ports regs nets outs nexts is name outs_fit nexts_fit =
    let tree : Module = record { proc = proc; ports = ports; regs = regs; nets = nets; outs = outs; nexts = nexts } in
    let e : Extends (netlist ports regs nets) tree = finished_extends proc ports regs nets outs nexts in
    let frame = is.frame in
    well_formed_from_points tree record {
      names = and_from _ _ (and_from _ _ name frame.port_names) frame.register_names_good;
      differ = and_from _ _ frame.ports_differ frame.registers_differ;
      order = frame.order;
      widths = and_from _ _ (and_from _ _ frame.port_widths frame.register_widths) is.widths;
      nets = is.fit tree e;
      outs = outs_fit tree e;
      resets = frame.resets;
      nexts = nexts_fit tree e;
      few = and_from _ _ (and_from _ _ (lt-ltb _ _ frame.few_ports) (lt-ltb _ _ frame.few_registers)) (lt-ltb _ _ is.few);
    }

received_width : (ports : List SvPort) (k : ℕ) (d : SvPort) → is_received (slice_get ports k) ≡ true → list_all (λ p. is_width p.width) ports ≡ true
    → (is_width (get_or ports k d).width ≡ true) × (slice_index (map (λ p. p.width) ports) k ≡ (get_or ports k d).width)
received_width [] k d there widths = absurd (false≢true there)
received_width (port ∷ ports) zero d there widths = ((and_parts (is_width port.width) (list_all (λ p. is_width p.width) ports) widths).0, refl)
received_width (port ∷ ports) (suc k) d there widths = received_width ports k d there (and_parts (is_width port.width) (list_all (λ p. is_width p.width) ports) widths).1

pub data_stands : (old : Module) (k : ℕ) (d : SvPort) → IsNetlist old → IsTrue (is_received (slice_get old.ports k))
    → Stands old record { operand = Ref (Data k); width = (get_or old.ports k d).width }
data_stands old k d is there =
    let both = received_width old.ports k d there is.frame.port_widths in
    let bounds = and_parts (nat_le 1 (get_or old.ports k d).width) (nat_le (get_or old.ports k d).width 64) both.0 in
    record {
      some = leb-true _ _ bounds.0;
      few = leb-true _ _ bounds.1;
      stands = λ new e.
          and_from (is_received (slice_get new.ports k)) (slice_index (map (λ p. p.width) new.ports) k == (get_or old.ports k d).width)
          (subst (λ ports. is_received (slice_get ports k) ≡ true) (sym e.ports) there)
          (eq-eqb (slice_index (map (λ p. p.width) new.ports) k) (get_or old.ports k d).width (ap (λ ports. slice_index (map (λ p. p.width) ports) k) e.ports ∙ both.1));
    }

pub data_width : (old : Module) (k : ℕ) (d : SvPort) → IsNetlist old → IsTrue (is_received (slice_get old.ports k))
    → slice_index (map (λ p. p.width) old.ports) k ≡ (get_or old.ports k d).width
data_width old k d is there = (received_width old.ports k d there is.frame.port_widths).1

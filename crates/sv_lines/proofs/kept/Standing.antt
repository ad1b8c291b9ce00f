-- What reads of a module its ports, the count and the widths of its registers, and the widths of its first nets alone, is the
-- same in each other module in which these are the same. So nets, outputs and next values that fit go on to fit where nets,
-- outputs and next values are added, and where resets are read.
use Rattle.std.proofs.Common.{◌≡◌, ℕ, ◌+◌, ◌<◌, ◌≤◌, true, not, ◌&&◌, List, [], ◌∷◌, length, map, refl, ap, sym, ◌∙◌, arith}
use Rattle.std.proofs.lemmas.Bool.{and_parts}
use Rattle.std.proofs.lemmas.Bool.Decides.{nat_tests}
use Rattle.std.specs.Prelude.{◌==◌, nat_lt, slice_index}
use Rattle.std.specs.List.{list_all}
use Rattle.sv_tree.specs.declared.tree.SvPort.{SvPort}
use Rattle.sv_tree.specs.declared.tree.SvReg.{SvReg}
use Rattle.sv_tree.specs.declared.tree.SvRef.{SvRef}
use Rattle.sv_tree.specs.declared.tree.SvRef.TheVariants.{Data, Valid, Ack, Reg, Net}
use Rattle.sv_tree.specs.declared.tree.SvOperand.{SvOperand}
use Rattle.sv_tree.specs.declared.tree.SvOperand.TheVariants.{Ref, Lit}
use Rattle.sv_tree.specs.declared.tree.SvOp.{SvOp}
use Rattle.sv_tree.specs.declared.tree.SvOp.TheVariants.{Not, Bin, Slice, Choose}
use Rattle.sv_tree.specs.declared.tree.SvNet.{SvNet}
use Rattle.sv_tree.specs.declared.tree.SvOut.{SvOut}
use Rattle.sv_tree.specs.declared.tree.SvOut.TheVariants.{Received, Sent}
use Rattle.sv_tree.specs.Limits.{too_many}
use Rattle.sv_tree.specs.Module.{Module}
use Rattle.sv_tree.specs.WellFormed.{ref_stands, operand_stands, ref_width, operand_width, is_operand_of, bin_widths_fit, slice_widths_fit, op_fits, nets_fit, is_width, gives, out_fits, outs_fit}
use Rattle.sv_lines.proofs.kept.KeptDrafts.{NetsKept, first_outs_fit, first_nexts_fit}

pub record Seen (one other : Module) (known : ℕ) : Type 0 where
  pub ports : one.ports ≡ other.ports
  pub count : length one.regs ≡ length other.regs
  pub widths : map (λ (r : SvReg). r.width) one.regs ≡ map (λ (r : SvReg). r.width) other.regs
  pub nets : (net : ℕ) → net < known → slice_index (map (λ (n : SvNet). n.width) one.nets) net ≡ slice_index (map (λ (n : SvNet). n.width) other.nets) net

module _ (one other : Module) (known : ℕ) (seen : Seen one other known) where
  ref_seen : (ref : SvRef) → ref_stands one known ref ≡ ref_stands other known ref
  ref_seen (Data port) = rw (seen.ports) refl
  ref_seen (Valid port) = rw (seen.ports) refl
  ref_seen (Ack port) = rw (seen.ports) refl
  ref_seen (Reg register) = rw (seen.count) refl
  ref_seen (Net net) = refl

  width_seen : (ref : SvRef) → ref_stands one known ref ≡ true → ref_width one ref ≡ ref_width other ref
  width_seen (Data port) stands = rw (seen.ports) refl
  width_seen (Valid port) stands = refl
  width_seen (Ack port) stands = refl
  width_seen (Reg register) stands = rw (seen.widths) refl
  width_seen (Net net) stands = seen.nets net (grind (arith, nat_tests))

  pub operand_seen : (x : SvOperand) → operand_stands one known x ≡ true → operand_stands other known x ≡ true
  operand_seen (Ref ref) stands = rw (← ref_seen ref) stands
  operand_seen (Lit number) stands = stands

  pub operand_width_seen : (x : SvOperand) → operand_stands one known x ≡ true → operand_width one x ≡ operand_width other x
  operand_width_seen (Ref ref) stands = width_seen ref stands
  operand_width_seen (Lit number) stands = refl

  pub of_width_seen : (width : ℕ) (x : SvOperand) → is_operand_of one known width x ≡ true → is_operand_of other known width x ≡ true
  of_width_seen width x of_width =
      let parts = and_parts (operand_stands one known x) (operand_width one x == width) of_width in
      rw (operand_seen x parts.0, ← operand_width_seen x parts.0, parts.1) refl

  pub op_seen : (width : ℕ) (op : SvOp) → op_fits one known width op ≡ true → op_fits other known width op ≡ true
  op_seen width (Not x) fits = of_width_seen width x fits
  op_seen width (Bin op x y) fits =
      let parts = and_parts (operand_stands one known x && operand_stands one known y) (bin_widths_fit op width (operand_width one x) (operand_width one y)) fits in
      let stand = and_parts (operand_stands one known x) (operand_stands one known y) parts.0 in
      rw (operand_seen x stand.0, operand_seen y stand.1, ← operand_width_seen x stand.0, ← operand_width_seen y stand.1, parts.1) refl
  op_seen width (Slice of high low) fits =
      let parts = and_parts (ref_stands one known of) (slice_widths_fit high low width (ref_width one of)) fits in
      rw (← ref_seen of, parts.0, ← width_seen of parts.0, parts.1) refl
  op_seen width (Choose condition x y) fits =
      let parts = and_parts (is_operand_of one known 1 condition && is_operand_of one known width x) (is_operand_of one known width y) fits in
      let two = and_parts (is_operand_of one known 1 condition) (is_operand_of one known width x) parts.0 in
      rw (of_width_seen 1 condition two.0, of_width_seen width x two.1, of_width_seen width y parts.1) refl

-- of fewer nets
pub less_seen : {one other : Module} (known fewer : ℕ) → fewer ≤ known → Seen one other known → Seen one other fewer
less_seen known fewer less seen = record { ports = seen.ports; count = seen.count; widths = seen.widths; nets = λ net below. seen.nets net (omega arith) }

pub nets_seen : (one other : Module) (known before : ℕ) (nets : List SvNet) → Seen one other known → before + length nets ≤ known → nets_fit one before nets ≡ true → nets_fit other before nets ≡ true
nets_seen one other known before [] seen within fit = refl
nets_seen one other known before (net ∷ nets) seen within fit =
    let parts = and_parts (op_fits one before net.width net.op) (nets_fit one (before + 1) nets) fit in
    rw (
      op_seen one other before (less_seen known before (omega arith) seen) net.width net.op parts.0,
      nets_seen one other known (before + 1) nets seen (omega arith) parts.1,
    ) refl

-- and where the nets are the same
pub record SameSeen (one other : Module) : Type 0 where
  pub seen : Seen one other (length one.nets)
  pub count : length one.nets ≡ length other.nets

module _ (one other : Module) (same : SameSeen one other) where
  pub gives_seen : (width : ℕ) (x : SvOperand) → gives one width x ≡ true → gives other width x ≡ true
  gives_seen width x given = rw (← same.count) (of_width_seen one other (length one.nets) same.seen width x given)

  pub out_seen : (port : SvPort) (out : SvOut) → out_fits one port out ≡ true → out_fits other port out ≡ true
  out_seen port (Received ack) fits =
      let parts = and_parts (port.received) (gives one 1 ack) fits in
      rw (parts.0, gives_seen 1 ack parts.1) refl
  out_seen port (Sent value valid) fits =
      let parts = and_parts (not port.received && gives one port.width value) (gives one 1 valid) fits in
      let two = and_parts (not port.received) (gives one port.width value) parts.0 in
      rw (two.0, gives_seen port.width value two.1, gives_seen 1 valid parts.1) refl

  pub first_outs_seen : (ports : List SvPort) (outs : List SvOut) → first_outs_fit one ports outs ≡ true → first_outs_fit other ports outs ≡ true
  first_outs_seen ports [] fit = refl
  first_outs_seen [] (out ∷ outs) fit = absurd cc
  first_outs_seen (port ∷ ports) (out ∷ outs) fit =
      let parts = and_parts (out_fits one port out) (first_outs_fit one ports outs) fit in
      rw (out_seen port out parts.0, first_outs_seen ports outs parts.1) refl

  pub outs_seen : (ports : List SvPort) (outs : List SvOut) → outs_fit one ports outs ≡ true → outs_fit other ports outs ≡ true
  outs_seen [] [] fit = refl
  outs_seen [] (out ∷ outs) fit = absurd cc
  outs_seen (port ∷ ports) [] fit = absurd cc
  outs_seen (port ∷ ports) (out ∷ outs) fit =
      let parts = and_parts (out_fits one port out) (outs_fit one ports outs) fit in
      rw (out_seen port out parts.0, outs_seen ports outs parts.1) refl

  pub first_nexts_seen : (regs : List SvReg) (nexts : List SvOperand) → first_nexts_fit one regs nexts ≡ true → first_nexts_fit other regs nexts ≡ true
  first_nexts_seen regs [] fit = refl
  first_nexts_seen [] (next ∷ nexts) fit = absurd cc
  first_nexts_seen (reg ∷ regs) (next ∷ nexts) fit =
      let parts = and_parts (gives one reg.width next) (first_nexts_fit one regs nexts) fit in
      rw (gives_seen reg.width next parts.0, first_nexts_seen regs nexts parts.1) refl

-- a module with other outputs and next values shows the same
pub same_parts : (one other : Module) → one.ports ≡ other.ports → one.regs ≡ other.regs → one.nets ≡ other.nets → SameSeen one other
same_parts one other ports regs nets = record {
  seen = record { ports = ports; count = ap length regs; widths = ap (map (λ (r : SvReg). r.width)) regs; nets = λ net below. rw nets refl };
  count = ap length nets;
}

pub nets_stay : (one other : Module) → SameSeen one other → one.nets ≡ other.nets → NetsKept one → NetsKept other
nets_stay one other same is kept = record {
  widths = ap (list_all (λ (n : SvNet). is_width n.width)) (sym is) ∙ kept.widths;
  fit = ap (nets_fit other 0) (sym is) ∙ nets_seen one other (length one.nets) 0 one.nets same.seen (omega arith) kept.fit;
  few = ap (λ (nets : List SvNet). nat_lt (length nets) too_many) (sym is) ∙ kept.few;
}

-- Modules that name the same ports and registers write the same operands, and so the same nets, outputs and next values.
-- Lists with one item more write one text more.
use Rattle.std.proofs.Common.{◌≡◌, ℕ, zero, suc, ◌+◌, List, [], ◌∷◌, ◌++◌, length, set, Some, refl, ap, sym, ◌∙◌, arith, append-nil}
use Rattle.std.specs.Prelude.{flat_map, zip, slice_get}
use Rattle.std.specs.List.{enumerate_from}
use Rattle.std.proofs.lemmas.Grind.{flat_map-append}
use Rattle.sv_tree.specs.declared.tree.SvPort.{SvPort}
use Rattle.sv_tree.specs.declared.tree.SvReg.{SvReg}
use Rattle.sv_tree.specs.declared.tree.SvRef.{SvRef}
use Rattle.sv_tree.specs.declared.tree.SvRef.TheVariants.{Data, Valid, Ack, Reg, Net}
use Rattle.sv_tree.specs.declared.tree.SvOperand.{SvOperand}
use Rattle.sv_tree.specs.declared.tree.SvOperand.TheVariants.{Ref, Lit}
use Rattle.sv_tree.specs.declared.tree.SvOp.{SvOp}
use Rattle.sv_tree.specs.declared.tree.SvOp.TheVariants.{Not, Bin, Slice, Choose}
use Rattle.sv_tree.specs.declared.tree.SvNet.{SvNet}
use Rattle.sv_tree.specs.declared.tree.SvOut.{SvOut}
use Rattle.sv_tree.specs.declared.tree.SvOut.TheVariants.{Received, Sent}
use Rattle.sv_tree.specs.Module.{Module}
use Rattle.sv_tree.specs.Text.{register_text_at, ref_text, operand_text, op_text, net_lines, out_lines, out_lines_of, next_line}

pub record NamesSame (one other : Module) : Type 0 where
  pub ports : one.ports ≡ other.ports
  pub registers : (index : ℕ) → register_text_at (slice_get one.regs index) ≡ register_text_at (slice_get other.regs index)

module _ {one other : Module} (same : NamesSame one other) where
  ref_same : (ref : SvRef) → ref_text one ref ≡ ref_text other ref
  ref_same (Data port) = rw (same.ports) refl
  ref_same (Valid port) = rw (same.ports) refl
  ref_same (Ack port) = rw (same.ports) refl
  ref_same (Reg register) = same.registers register
  ref_same (Net net) = refl

  pub operand_same : (x : SvOperand) → operand_text one x ≡ operand_text other x
  operand_same (Ref ref) = ref_same ref
  operand_same (Lit number) = refl

  op_same : (op : SvOp) → op_text one op ≡ op_text other op
  op_same (Not x) = rw (operand_same x) refl
  op_same (Bin op x y) = rw (operand_same x, operand_same y) refl
  op_same (Slice of high low) = rw (ref_same of) refl
  op_same (Choose condition x y) = rw (operand_same condition, operand_same x, operand_same y) refl

  net_same : (net : ℕ × SvNet) → net_lines one net ≡ net_lines other net
  net_same (index, net) = rw (op_same net.op) refl

  out_same_of : (port : SvPort) (out : SvOut) → out_lines_of one port out ≡ out_lines_of other port out
  out_same_of port (Received ack) = rw (operand_same ack) refl
  out_same_of port (Sent value valid) = rw (operand_same value, operand_same valid) refl

  next_same : (next : SvReg × SvOperand) → next_line one next ≡ next_line other next
  next_same (reg, x) = rw (operand_same x) refl

each_same : {X : Type 0} (one other : X → List ℕ) → ((x : X) → one x ≡ other x) → (items : List X) → flat_map one items ≡ flat_map other items
each_same one other same [] = refl
each_same one other same (x ∷ items) = rw (same x, each_same one other same items) refl

pub nets_same : {one other : Module} → NamesSame one other → (nets : List (ℕ × SvNet)) → flat_map (net_lines one) nets ≡ flat_map (net_lines other) nets
nets_same {one = one} {other = other} same nets = each_same (net_lines one) (net_lines other) (net_same same) nets

out_same : {one other : Module} → NamesSame one other → (out : SvPort × SvOut) → out_lines one out ≡ out_lines other out
out_same same (port, out) = out_same_of same port out

pub outs_same : {one other : Module} → NamesSame one other → (outs : List (SvPort × SvOut)) → flat_map (out_lines one) outs ≡ flat_map (out_lines other) outs
outs_same {one = one} {other = other} same outs = each_same (out_lines one) (out_lines other) (out_same same) outs

pub nexts_same : {one other : Module} → NamesSame one other → (nexts : List (SvReg × SvOperand)) → flat_map (next_line one) nexts ≡ flat_map (next_line other) nexts
nexts_same {one = one} {other = other} same nexts = each_same (next_line one) (next_line other) (next_same same) nexts

-- One item more.

pub one_more : {X : Type 0} (text : X → List ℕ) (items : List X) (item : X) → flat_map text (items ++ (item ∷ [])) ≡ flat_map text items ++ text item
one_more text items item = flat_map-append text items (item ∷ []) ∙ ap (λ l. flat_map text items ++ l) (append-nil (text item))

numbered_more : {X : Type 0} (first : ℕ) (items : List X) (item : X)
    → enumerate_from first (items ++ (item ∷ [])) ≡ enumerate_from first items ++ ((first + length items, item) ∷ [])
numbered_more first [] item = let same : first ≡ first + 0 = omega arith in ap (λ n. (n, item) ∷ []) same
numbered_more first (x ∷ items) item =
    let same : first + 1 + length items ≡ first + length (x ∷ items) = omega arith in
    ap (λ l. (first, x) ∷ l) (numbered_more (first + 1) items item ∙ ap (λ n. enumerate_from (first + 1) items ++ ((n, item) ∷ [])) same)

pub numbered_from_start : {X : Type 0} (items : List X) (item : X) → enumerate_from 0 (items ++ (item ∷ [])) ≡ enumerate_from 0 items ++ ((length items, item) ∷ [])
numbered_from_start items item =
    let same : 0 + length items ≡ length items = omega arith in
    numbered_more 0 items item ∙ ap (λ n. enumerate_from 0 items ++ ((n, item) ∷ [])) same

pub zip_more : {X Y : Type 0} (keys : List X) (values : List Y) (key : X) (value : Y) → slice_get keys (length values) ≡ Some key
    → zip keys (values ++ (value ∷ [])) ≡ zip keys values ++ ((key, value) ∷ [])
zip_more [] values key value e = absurd cc
zip_more (first ∷ keys) [] key value e = zipped first keys key value e
  where
    zipped : {X Y : Type 0} (first : X) (keys : List X) (key : X) (value : Y) → Some first ≡ Some key → (first, value) ∷ zip keys [] ≡ (key, value) ∷ []
    zipped first [] key value e = let same : first ≡ key = cc in rw same refl
    zipped first (next ∷ keys) key value e = let same : first ≡ key = cc in rw same refl
zip_more (first ∷ keys) (other ∷ values) key value e = ap (λ l. (first, other) ∷ l) (zip_more keys values key value e)

pub zip_none : {X Y : Type 0} (keys : List X) → zip {X = Y} keys [] ≡ []
zip_none [] = refl
zip_none (key ∷ keys) = refl

-- an item in the place of another that writes the same
pub set_same : {X : Type 0} (text : X → List ℕ) (items : List X) (index : ℕ) (was now : X) → slice_get items index ≡ Some was → text was ≡ text now
    → flat_map text (set items index now) ≡ flat_map text items
set_same text [] index was now e same = refl
set_same text (item ∷ items) zero was now e same = let is : item ≡ was = cc in rw is (ap (λ l. l ++ flat_map text items) (sym same))
set_same text (item ∷ items) (suc index) was now e same = ap (λ l. text item ++ l) (set_same text items index was now e same)

-- a register in the place of another of its name
pub set_names : (items : List SvReg) (index at_index : ℕ) (was now : SvReg) → slice_get items index ≡ Some was → was.name ≡ now.name
    → register_text_at (slice_get (set items index now) at_index) ≡ register_text_at (slice_get items at_index)
set_names [] index at_index was now e same = refl
set_names (item ∷ items) zero zero was now e same = let is : item ≡ was = cc in rw (is, same) refl
set_names (item ∷ items) zero (suc at_index) was now e same = refl
set_names (item ∷ items) (suc index) zero was now e same = refl
set_names (item ∷ items) (suc index) (suc at_index) was now e same = set_names items index at_index was now e same

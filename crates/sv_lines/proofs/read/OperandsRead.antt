-- Operands and operators: what is read stands in the module, and its text is what was read.
use Rattle.std.proofs.Common.{◌≡◌, ℕ, true, List, [], ◌++◌, length, Option, Some, None, refl, ap, sym, ◌∙◌, arith, append-nil}
use Rattle.std.proofs.lemmas.Bool.{and_parts}
use Rattle.std.proofs.lemmas.Option.{same_Some}
use Rattle.std.specs.Prelude.{bytes_eq, codes, decimal, nat_lt, slice_get}
use Rattle.std.proofs.lemmas.Bool.Decides.{nat_tests}
use Rattle.anvil_bits.specs.Number.{Number}
use Rattle.sv_tree.specs.declared.tree.SvPort.{SvPort}
use Rattle.sv_tree.specs.declared.tree.SvRegName.{SvRegName}
use Rattle.sv_tree.specs.declared.tree.SvRegName.TheVariants as register
use Rattle.sv_tree.specs.declared.tree.SvReg.{SvReg}
use Rattle.sv_tree.specs.declared.tree.SvRef.{SvRef}
use Rattle.sv_tree.specs.declared.tree.SvRef.TheVariants.{Data, Valid, Ack, Reg, Net}
use Rattle.sv_tree.specs.declared.tree.SvOperand.{SvOperand}
use Rattle.sv_tree.specs.Module.{Module}
use Rattle.sv_tree.specs.Text.{register_text, wire_text, ref_text, operand_text, literal_text}
use Rattle.sv_tree.specs.WellFormed.{is_number, is_received, is_sent, is_same_register, register_names, ref_stands, operand_stands}
use Rattle.sv_lines.specs.declared.wire.Wire.{Wire}
use Rattle.sv_lines.specs.declared.wire.Wire.TheVariants as wire
use Rattle.sv_lines.specs.Pieces.{◌>>=◌, after, closed, front_run, number_at, cut}
use Rattle.sv_lines.specs.Lines.{wire_word, wire_of, Label, source, state, net, label_of}
use Rattle.sv_lines.specs.Operands.{literal_of, is_named, port_index, register_index, wire_ref, label_ref, port_wire, named_by, operand_by, operand_of, is_operand_byte, operand_at, last_operand}
use Rattle.sv_lines.proofs.read.Decided.{passes, bytes_same, number_same, closes, then_read}
use Rattle.sv_lines.proofs.read.PiecesRead.{after_read, run_joined, number_read, cut_read}
use Rattle.sv_lines.proofs.read.LinesRead.{wire_read, label_text, label_read}
use Rattle.sv_lines.proofs.read.Indices.{position_stands, map_stands, within}

pub record LiteralRead (text : List ℕ) (number : Number) : Type 0 where
  pub written : text ≡ literal_text number
  pub good : is_number number ≡ true

pub literal_read : (text : List ℕ) (number : Number) → literal_of text ≡ Some number → LiteralRead text number
literal_read text number e =
    then_read (number_at text) _ number e (λ width is_width e.
    then_read (after (codes "'d") width.1) _ number e (λ rest is_rest e.
    then_read (number_at rest) _ number e (λ value is_value e.
    then_read (closed [] (record { width = width.0; value = value.0 }) value.1) _ number e (λ whole is_end e.
    let ended = closes [] (record { width = width.0; value = value.0 }) whole value.1 is_end in
    let passed = passes (is_number whole) whole number e in
    let behind : rest ≡ decimal value.0 = (number_read rest value is_value).written ∙ ap (λ l. decimal value.0 ++ l) ended.ends ∙ append-nil (decimal value.0) in
    record {
      written = rw (← passed.same, ← ended.same, ← behind, ← after_read (codes "'d") width.1 rest is_rest) (number_read text width is_width).written;
      good = rw (← passed.same) passed.holds;
    }))))

-- Names.

pub record RefRead (tree : Module) (text : List ℕ) (ref : SvRef) : Type 0 where
  pub written : text ≡ ref_text tree ref
  pub stands : ref_stands tree (length tree.nets) ref ≡ true

port_named : (tree : Module) (endpoint message : List ℕ) (found : SvPort) (index : ℕ) → slice_get tree.ports index ≡ Some found → is_named endpoint message found ≡ true
    → (word : List ℕ) → wire_text (slice_get tree.ports index) word ≡ endpoint ++ (codes "__" ++ (message ++ word))
port_named tree endpoint message found index is_there named word =
    let parts = and_parts (bytes_eq endpoint found.endpoint) (bytes_eq message found.message) named in
    rw (is_there, bytes_same endpoint found.endpoint parts.0, bytes_same message found.message parts.1) refl

wire_ref_read : (tree : Module) (endpoint message : List ℕ) (index : ℕ) (which : Wire) (ref : SvRef)
    → ((word : List ℕ) → wire_text (slice_get tree.ports index) word ≡ endpoint ++ (codes "__" ++ (message ++ word)))
    → wire_ref (slice_get tree.ports index) index which ≡ Some ref → RefRead tree (endpoint ++ (codes "__" ++ (message ++ (codes "__" ++ wire_word which)))) ref
wire_ref_read tree endpoint message index wire.Data ref named e =
    let passed = passes (is_received (slice_get tree.ports index)) (Data index) ref e in
    rw (← passed.same) (record { written = sym (named (codes "__data")); stands = passed.holds })
wire_ref_read tree endpoint message index wire.Valid ref named e =
    let passed = passes (is_received (slice_get tree.ports index)) (Valid index) ref e in
    rw (← passed.same) (record { written = sym (named (codes "__valid")); stands = passed.holds })
wire_ref_read tree endpoint message index wire.Ack ref named e =
    let passed = passes (is_sent (slice_get tree.ports index)) (Ack index) ref e in
    rw (← passed.same) (record { written = sym (named (codes "__ack")); stands = passed.holds })

port_wire_read : (tree : Module) (endpoint message word : List ℕ) (ref : SvRef) → port_wire tree endpoint message word ≡ Some ref
    → RefRead tree (endpoint ++ (codes "__" ++ (message ++ (codes "__" ++ word)))) ref
port_wire_read tree endpoint message word ref e =
    then_read (wire_of word) _ ref e (λ which is_which e.
    then_read (port_index tree endpoint message) _ ref e (λ index is_place e.
    let there = position_stands (is_named endpoint message) tree.ports index is_place in
    rw (wire_read word which is_which)
    (wire_ref_read tree endpoint message index which ref (port_named tree endpoint message there.item index there.is_there there.passed) e)))

same_register : (name found : SvRegName) → is_same_register name found ≡ true → name ≡ found
same_register (register.Source one) (register.Source other) e = ap register.Source (bytes_same one other e)
same_register (register.Source one) (register.State other) e = absurd cc
same_register (register.State one) (register.Source other) e = absurd cc
same_register (register.State one) (register.State other) e = ap register.State (number_same one other e)

register_read : (tree : Module) (name : SvRegName) (ref : SvRef) → register_index tree name >>= (λ index. Some (Reg index)) ≡ Some ref → RefRead tree (register_text name) ref
register_read tree name ref e =
    then_read (register_index tree name) _ ref e (λ index is_place e.
    let there = position_stands (is_same_register name) (register_names tree) index is_place in
    let reg = map_stands (λ (r : SvReg). r.name) tree.regs index there.item there.is_there in
    let same = same_register name there.item there.passed in
    let below = within tree.regs index reg.item reg.is_there in
    rw (← same_Some _ _ e) (record {
      written = rw (reg.is_there) (ap register_text (same ∙ sym reg.changed));
      stands = grind (arith, nat_tests);
    }))

label_ref_read : (tree : Module) (label : Label) (ref : SvRef) → label_ref tree label ≡ Some ref → RefRead tree (label_text label) ref
label_ref_read tree (source name) ref e = register_read tree (register.Source name) ref e
label_ref_read tree (state number) ref e = register_read tree (register.State number) ref e
label_ref_read tree (net number) ref e =
    let passed = passes (nat_lt number (length tree.nets)) (Net number) ref e in
    rw (← passed.same) (record { written = refl; stands = passed.holds })

named_read : (tree : Module) (text : List ℕ) (parts : List ℕ × List ℕ) (found : Option (List ℕ × List ℕ)) (ref : SvRef)
    → text ≡ parts.0 ++ (codes "__" ++ parts.1) → cut parts.1 ≡ found → named_by tree text parts.0 found ≡ Some ref → RefRead tree text ref
named_read tree text parts None ref is_text is_found e =
    then_read (label_of text) _ ref e (λ label is_label e. rw ((label_read text label is_label).written) (label_ref_read tree label ref e))
named_read tree text parts (Some inner) ref is_text is_found e =
    rw (is_text, cut_read parts.1 inner is_found) (port_wire_read tree parts.0 inner.0 inner.1 ref e)

pub record OperandRead (tree : Module) (text : List ℕ) (x : SvOperand) : Type 0 where
  pub written : text ≡ operand_text tree x
  pub stands : operand_stands tree (length tree.nets) x ≡ true

operand_read_by : (tree : Module) (text : List ℕ) (found : Option (List ℕ × List ℕ)) (x : SvOperand) → cut text ≡ found → operand_by tree text found ≡ Some x
    → OperandRead tree text x
operand_read_by tree text None x is_found e =
    then_read (literal_of text) _ x e (λ number is_number e.
    let literal = literal_read text number is_number in
    rw (← same_Some _ _ e) (record { written = literal.written; stands = literal.good }))
operand_read_by tree text (Some parts) x is_found e =
    then_read (named_by tree text parts.0 (cut parts.1)) _ x e (λ ref is_ref e.
    let named = named_read tree text parts (cut parts.1) ref (cut_read text parts is_found) refl is_ref in
    rw (← same_Some _ _ e) (record { written = named.written; stands = named.stands }))

pub operand_read : (tree : Module) (text : List ℕ) (x : SvOperand) → operand_of tree text ≡ Some x → OperandRead tree text x
operand_read tree text x e = operand_read_by tree text (cut text) x refl e

-- an operand in front, or before the end of the line
pub record FrontRead (tree : Module) (text : List ℕ) (x : SvOperand) (rest : List ℕ) : Type 0 where
  pub written : text ≡ operand_text tree x ++ rest
  pub stands : operand_stands tree (length tree.nets) x ≡ true

pub front_read : (tree : Module) (text : List ℕ) (found : SvOperand × List ℕ) → operand_at tree text ≡ Some found → FrontRead tree text found.0 found.1
front_read tree text found e =
    then_read (operand_of tree (front_run is_operand_byte text)) _ found e (λ x is_x e.
    let read = operand_read tree (front_run is_operand_byte text) x is_x in
    rw (← same_Some _ _ e) (record { written = rw (← read.written) (run_joined is_operand_byte text); stands = read.stands }))

pub last_read : (tree : Module) (text : List ℕ) (x : SvOperand) → last_operand tree text ≡ Some x → FrontRead tree text x (codes ";")
last_read tree text x e =
    then_read (operand_at tree text) _ x e (λ found is_found e.
    let read = front_read tree text found is_found in
    let ended = closes (codes ";") found.0 x found.1 e in
    rw (← ended.same) (record { written = rw (← ended.ends) read.written; stands = read.stands }))

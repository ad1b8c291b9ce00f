-- The texts of operands: bytes of operands alone, and at least one; so an operand is read back in front of any byte that ends
-- it, and it begins with no sign of an operator.
use Rattle.std.proofs.Common.{◌≡◌, ℕ, ◌<◌, ◌≤◌, ◌^◌, true, false, List, [], ◌∷◌, ◌++◌, length, Option, Some, None, refl, ◌∙◌, arith, length-append}
use Rattle.std.proofs.lemmas.Bool.{and_parts, not-true}
use Rattle.std.proofs.lemmas.Bool.Decides.{nat_tests}
use Rattle.std.specs.Prelude.{◌==◌, slice_get, codes, decimal}
use Rattle.std.specs.List.{list_all}
use Rattle.anvil_bits.specs.Number.{Number}
use Rattle.anvil_lexer.specs.GoodName.{is_name_byte}
use Rattle.sv_tree.specs.declared.tree.SvPort.{SvPort}
use Rattle.sv_tree.specs.declared.tree.SvRegName.{SvRegName}
use Rattle.sv_tree.specs.declared.tree.SvRegName.TheVariants as register
use Rattle.sv_tree.specs.declared.tree.SvReg.{SvReg}
use Rattle.sv_tree.specs.declared.tree.SvRef.{SvRef}
use Rattle.sv_tree.specs.declared.tree.SvRef.TheVariants.{Data, Valid, Ack, Reg, Net}
use Rattle.sv_tree.specs.declared.tree.SvOperand.{SvOperand}
use Rattle.sv_tree.specs.declared.tree.SvOperand.TheVariants.{Ref, Lit}
use Rattle.sv_tree.specs.Module.{Module}
use Rattle.sv_tree.specs.Text.{literal_text, wire_text, register_text, register_text_at, net_text, ref_text, operand_text}
use Rattle.sv_tree.specs.WellFormed.{is_number, is_port_name, is_register_name, is_received, is_sent, register_names, ref_stands, operand_stands}
use Rattle.sv_lines.specs.Pieces.{after}
use Rattle.sv_lines.specs.Operands.{is_operand_byte, operand_at, last_operand}
use Rattle.sv_lines.proofs.read.PiecesRead.{StopsFirst, front_back, rest_back}
use Rattle.sv_lines.proofs.read.Indices.{map_there, none_there}
use Rattle.sv_lines.proofs.back.BytesBack.{is_not, all_pass, all_join, all_not, name_digits, operand_name, operand_digits}
use Rattle.sv_lines.proofs.back.NamesBack.{good_name, all_at, number_turn, is_small_name, GoodParts, Known}
use Rattle.sv_lines.proofs.back.OperandsBack.{small_number, GoodPort, good_port, operand_back}

pub record IsOperandText (text : List ℕ) : Type 0 where
  pub bytes : list_all is_operand_byte text ≡ true
  pub some : 0 < length text

more_behind : (front rest : List ℕ) → 0 < length rest → 0 < length (front ++ rest)
more_behind front rest some = omega (arith, length-append front rest)

pub literal_is_text : (number : Number) → is_number number ≡ true → IsOperandText (literal_text number)
literal_is_text number good =
    let small = small_number number good in
    record {
      bytes = all_join is_operand_byte (decimal number.width) (codes "'d" ++ decimal number.value) (operand_digits number.width small.width_small)
          (all_join is_operand_byte (codes "'d") (decimal number.value) refl (operand_digits number.value small.value_small));
      some = more_behind (decimal number.width) (codes "'d" ++ decimal number.value) (omega arith);
    }

-- `E__M__W`
pub wire_bytes : (port : SvPort) (word : List ℕ) → GoodPort port → list_all is_name_byte word ≡ true
    → list_all is_name_byte (port.endpoint ++ (codes "__" ++ (port.message ++ word))) ≡ true
wire_bytes port word good all =
    all_join is_name_byte port.endpoint (codes "__" ++ (port.message ++ word)) good.endpoint.bytes
    (all_join is_name_byte port.message word good.message.bytes all)

wire_is_text : (tree : Module) (index : ℕ) (found : Option SvPort) (word : List ℕ) → GoodParts tree → slice_get tree.ports index ≡ found
    → list_all is_name_byte word ≡ true → is_received found ≡ true → IsOperandText (wire_text found word)
wire_is_text tree index None word good there all stands = absurd cc
wire_is_text tree index (Some port) word good there all stands =
    let named = good_port port (all_at is_port_name tree.ports index port good.ports_good there) in
    record {
      bytes = operand_name (wire_text (Some port) word) (wire_bytes port word named all);
      some = more_behind port.endpoint (codes "__" ++ (port.message ++ word)) (omega arith);
    }

ack_is_text : (tree : Module) (index : ℕ) (found : Option SvPort) (word : List ℕ) → GoodParts tree → slice_get tree.ports index ≡ found
    → list_all is_name_byte word ≡ true → is_sent found ≡ true → IsOperandText (wire_text found word)
ack_is_text tree index None word good there all stands = absurd cc
ack_is_text tree index (Some port) word good there all stands =
    let named = good_port port (all_at is_port_name tree.ports index port good.ports_good there) in
    record {
      bytes = operand_name (wire_text (Some port) word) (wire_bytes port word named all);
      some = more_behind port.endpoint (codes "__" ++ (port.message ++ word)) (omega arith);
    }

pub register_bytes : (name : SvRegName) → is_register_name name ≡ true → is_small_name name ≡ true → list_all is_name_byte (register_text name) ≡ true
register_bytes (register.Source name) good small =
    let parts = good_name name good in
    all_join is_name_byte name (codes "__q") parts.bytes refl
register_bytes (register.State number) good small =
    let below : number < 2 ^ 64 = grind (arith, nat_tests) in
    all_join is_name_byte (codes "s__") (decimal number) refl (name_digits number below)

register_some : (name : SvRegName) → 0 < length (register_text name)
register_some (register.Source name) = more_behind name (codes "__q") (omega arith)
register_some (register.State number) = omega arith

reg_is_text : (tree : Module) (index : ℕ) (found : Option SvReg) → GoodParts tree → slice_get tree.regs index ≡ found → index < length tree.regs
    → IsOperandText (register_text_at found)
reg_is_text tree index None good there within = let past = none_there tree.regs index there in absurd (omega arith)
reg_is_text tree index (Some reg) good there within =
    let named : slice_get (register_names tree) index ≡ Some reg.name = map_there (λ (r : SvReg). r.name) tree.regs index reg there in
    let good_one = all_at is_register_name (register_names tree) index reg.name good.names_good named in
    let small_one = all_at is_small_name (register_names tree) index reg.name good.names_small named in
    record { bytes = operand_name (register_text reg.name) (register_bytes reg.name good_one small_one); some = register_some reg.name }

pub ref_is_text : (tree : Module) (known : ℕ) (ref : SvRef) → GoodParts tree → known ≤ length tree.nets → ref_stands tree known ref ≡ true → IsOperandText (ref_text tree ref)
ref_is_text tree known (Data index) good few stands = wire_is_text tree index (slice_get tree.ports index) (codes "__data") good refl refl stands
ref_is_text tree known (Valid index) good few stands = wire_is_text tree index (slice_get tree.ports index) (codes "__valid") good refl refl stands
ref_is_text tree known (Ack index) good few stands = ack_is_text tree index (slice_get tree.ports index) (codes "__ack") good refl refl stands
ref_is_text tree known (Reg index) good few stands =
    let within : index < length tree.regs = grind (arith, nat_tests) in
    reg_is_text tree index (slice_get tree.regs index) good refl within
ref_is_text tree known (Net number) good few stands =
    let below : number < known = grind (arith, nat_tests) in
    let small : number < 2 ^ 64 = omega (arith, good.nets_few) in
    record {
      bytes = operand_name (net_text number) (all_join is_name_byte (codes "n__") (decimal number) refl (name_digits number small));
      some = omega arith;
    }

pub operand_is_text : (tree : Module) (known : ℕ) (x : SvOperand) → GoodParts tree → known ≤ length tree.nets → operand_stands tree known x ≡ true
    → IsOperandText (operand_text tree x)
operand_is_text tree known (Ref ref) good few stands = ref_is_text tree known ref good few stands
operand_is_text tree known (Lit number) good few stands = literal_is_text number stands

-- The operand in front of what ends it, and before the end of the line.

pub front_operand : (tree draft : Module) (known : ℕ) (x : SvOperand) (rest : List ℕ) → GoodParts tree → Known draft tree known → operand_stands tree known x ≡ true
    → StopsFirst is_operand_byte rest → operand_at draft (operand_text tree x ++ rest) ≡ Some (x, rest)
front_operand tree draft known x rest good has stands stops =
    let is_text = operand_is_text tree known x good has.nets_within stands in
    let pass = all_pass is_operand_byte (operand_text tree x) is_text.bytes in
    rw (
      front_back is_operand_byte (operand_text tree x) rest pass stops,
      rest_back is_operand_byte (operand_text tree x) rest pass stops,
      operand_back tree draft known x good has stands,
    ) refl

pub last_operand_back : (tree draft : Module) (known : ℕ) (x : SvOperand) → GoodParts tree → Known draft tree known → operand_stands tree known x ≡ true
    → last_operand draft (operand_text tree x ++ codes ";") ≡ Some x
last_operand_back tree draft known x good has stands = rw (front_operand tree draft known x (codes ";") good has stands refl) refl

-- no sign of an operator stands in front
begins_by : (byte first : ℕ) (word text : List ℕ) → is_not byte first ≡ true → after (byte ∷ word) (first ∷ text) ≡ None
begins_by byte first word text differs =
    let other : (byte == first) ≡ false = number_turn byte first ∙ not-true (first == byte) differs in
    rw other refl

pub begins_otherwise : (byte : ℕ) (word front rest : List ℕ) → is_operand_byte byte ≡ false → IsOperandText front → after (byte ∷ word) (front ++ rest) ≡ None
begins_otherwise byte word [] rest fails is_text = let some = is_text.some in absurd (omega arith)
begins_otherwise byte word (first ∷ front) rest fails is_text =
    let parts = and_parts (is_not byte first) (list_all (is_not byte) front) (all_not is_operand_byte byte fails (first ∷ front) is_text.bytes) in
    begins_by byte first word (front ++ rest) parts.0

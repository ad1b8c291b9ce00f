-- The text of an operand that stands in a module is read back as that operand: a literal begins with digits and has no `__`;
-- a good name ends at its first `__`; and the name of a port or of a register stands once.
use Rattle.std.proofs.Common.{◌≡◌, ℕ, ◌<◌, ◌≤◌, ◌^◌, Bool, true, false, not, List, [], ◌∷◌, ◌++◌, length, Option, Some, None, refl, sym, ◌∙◌, arith, append-nil}
use Rattle.std.proofs.lemmas.Bool.{and_parts}
use Rattle.std.proofs.lemmas.Bool.Decides.{nat_tests}
use Rattle.std.proofs.Math.Nat.{pow-le-pow_right}
use Rattle.std.specs.Prelude.{◌==◌, slice_get, nat_lt, nat_le, bytes_eq, codes, decimal}
use Rattle.std.specs.Char.{is_ascii_digit}
use Rattle.std.specs.List.{list_all}
use Rattle.anvil_bits.specs.Number.{Number}
use Rattle.sv_tree.specs.declared.tree.SvPort.{SvPort}
use Rattle.sv_tree.specs.declared.tree.SvRegName.{SvRegName}
use Rattle.sv_tree.specs.declared.tree.SvRegName.TheVariants as register
use Rattle.sv_tree.specs.declared.tree.SvReg.{SvReg}
use Rattle.sv_tree.specs.declared.tree.SvRef.{SvRef}
use Rattle.sv_tree.specs.declared.tree.SvRef.TheVariants.{Data, Valid, Ack, Reg, Net}
use Rattle.sv_tree.specs.declared.tree.SvOperand.{SvOperand}
use Rattle.sv_tree.specs.declared.tree.SvOperand.TheVariants.{Ref, Lit}
use Rattle.sv_tree.specs.Limits.{widest}
use Rattle.sv_tree.specs.Module.{Module}
use Rattle.sv_tree.specs.Text.{literal_text, wire_text, register_text, register_text_at, net_text, ref_text, operand_text}
use Rattle.sv_tree.specs.WellFormed.{is_number, is_width, is_name, is_port_name, is_register_name, is_received, is_sent, has_no_twice, is_same_port, is_same_register, register_names, ref_stands, operand_stands}
use Rattle.sv_lines.specs.declared.wire.Wire.{Wire}
use Rattle.sv_lines.specs.declared.wire.Wire.TheVariants as wire
use Rattle.sv_lines.specs.Pieces.{number_at, cut}
use Rattle.sv_lines.specs.Lines.{source, state, net, wire_word, wire_of, label_of}
use Rattle.sv_lines.specs.Operands.{literal_of, port_index, register_index, wire_ref, operand_of}
use Rattle.sv_lines.proofs.read.Decided.{bytes_same}
use Rattle.sv_lines.proofs.read.PiecesRead.{number_back, cut_back}
use Rattle.sv_lines.proofs.read.Indices.{map_there, none_there}
use Rattle.sv_lines.proofs.back.BytesBack.{is_not, all_join, all_not, digits_all}
use Rattle.sv_lines.proofs.back.Once.{position_back}
use Rattle.sv_lines.proofs.back.NamesBack.{IsGoodName, good_name, all_at, port_turns, register_turns, port_itself, register_itself, is_small_name, GoodParts, Known}

-- No `__` where no underscore stands.

cut_by : (byte : ℕ) (rest : List ℕ) → (here : Bool) → (byte == 95) ≡ here → not here ≡ true → cut rest ≡ None → cut (byte ∷ rest) ≡ None
cut_by byte rest true e differs none = absurd cc
cut_by byte rest false e differs none = rw (e, none) refl

pub cut_none : (text : List ℕ) → list_all (is_not 95) text ≡ true → cut text ≡ None
cut_none [] all = refl
cut_none (byte ∷ text) all =
    let parts = and_parts (is_not 95 byte) (list_all (is_not 95) text) all in
    cut_by byte text (byte == 95) refl parts.0 (cut_none text parts.1)

digits_no_line : (number : ℕ) → number < 2 ^ 64 → list_all (is_not 95) (decimal number) ≡ true
digits_no_line number small = all_not is_ascii_digit 95 refl (decimal number) (digits_all number small)

-- Literals.

pub record SmallNumber (number : Number) : Type 0 where
  pub width_small : number.width < 2 ^ 64
  pub value_small : number.value < 2 ^ 64

power_grows : (width : ℕ) → width ≤ 64 → 2 ^ width ≤ 2 ^ 64
power_grows width within =
    let positive : 0 < 2 = omega arith in
    pow-le-pow_right {n = 2} positive within

pub small_number : (number : Number) → is_number number ≡ true → SmallNumber number
small_number number e =
    let parts = and_parts (is_width number.width) (nat_lt number.value (2 ^ number.width)) e in
    let widths = and_parts (nat_le 1 number.width) (nat_le number.width widest) parts.0 in
    let upper = widths.1 in
    let within : number.width ≤ 64 = grind (arith, nat_tests) in
    let below = parts.1 in
    let value : number.value < 2 ^ number.width = grind (arith, nat_tests) in
    let power = power_grows number.width within in
    record { width_small = omega arith; value_small = omega arith }

pub literal_back : (number : Number) → is_number number ≡ true → literal_of (literal_text number) ≡ Some number
literal_back number good =
    let small = small_number number good in
    let width : nat_lt number.width (2 ^ 64) ≡ true = grind (arith, nat_tests, small.width_small) in
    let value : nat_lt number.value (2 ^ 64) ≡ true = grind (arith, nat_tests, small.value_small) in
    let last : number_at (decimal number.value) ≡ Some (number.value, []) =
    (rw (append-nil (decimal number.value)) at (number_back number.value [] value tt)) in
    rw (number_back number.width (codes "'d" ++ decimal number.value) width refl, last, good) refl

literal_operand : (draft : Module) (number : Number) → is_number number ≡ true → operand_of draft (literal_text number) ≡ Some (Lit number)
literal_operand draft number good =
    let small = small_number number good in
    let none = cut_none (literal_text number)
    (all_join (is_not 95) (decimal number.width) (codes "'d" ++ decimal number.value) (digits_no_line number.width small.width_small)
    (all_join (is_not 95) (codes "'d") (decimal number.value) refl (digits_no_line number.value small.value_small))) in
    rw (none, literal_back number good) refl

-- Wires.

wire_back : (which : Wire) → wire_of (wire_word which) ≡ Some which
wire_back wire.Data = refl
wire_back wire.Valid = refl
wire_back wire.Ack = refl

pub record GoodPort (port : SvPort) : Type 0 where
  pub endpoint : IsGoodName port.endpoint
  pub message : IsGoodName port.message

pub good_port : (port : SvPort) → is_port_name port ≡ true → GoodPort port
good_port port e =
    let parts = and_parts (is_name port.endpoint) (is_name port.message) e in
    record { endpoint = good_name port.endpoint parts.0; message = good_name port.message parts.1 }

wire_operand : (draft : Module) (port : SvPort) (index : ℕ) (which : Wire) (ref : SvRef) → GoodPort port → has_no_twice is_same_port draft.ports ≡ true
    → slice_get draft.ports index ≡ Some port → wire_ref (Some port) index which ≡ Some ref
    → operand_of draft (port.endpoint ++ (codes "__" ++ (port.message ++ (codes "__" ++ wire_word which)))) ≡ Some (Ref ref)
wire_operand draft port index which ref good once there e =
    let first = cut_back port.endpoint (port.message ++ (codes "__" ++ wire_word which)) good.endpoint.no_double good.endpoint.no_end in
    let second = cut_back port.message (wire_word which) good.message.no_double good.message.no_end in
    let placed : port_index draft port.endpoint port.message ≡ Some index =
    position_back is_same_port port_turns draft.ports index port once there (port_itself port) in
    rw (first, second, wire_back which, placed, there, e) refl

-- Registers and nets.

number_last : (number : ℕ) → number < 2 ^ 64 → number_at (decimal number) ≡ Some (number, [])
number_last number small =
    let fits : nat_lt number (2 ^ 64) ≡ true = grind (arith, nat_tests) in
    rw (append-nil (decimal number)) at (number_back number [] fits tt)

not_q_by : (digits : List ℕ) (is_q : Bool) → list_all is_ascii_digit digits ≡ true → bytes_eq digits (codes "q") ≡ is_q → is_q ≡ false
not_q_by digits true all e =
    let same = bytes_same digits (codes "q") e in
    let fails : list_all is_ascii_digit (codes "q") ≡ false = refl in
    let clash : true ≡ false = sym all ∙ (rw same fails) in
    absurd cc
not_q_by digits false all e = refl

not_q : (number : ℕ) → number < 2 ^ 64 → bytes_eq (decimal number) (codes "q") ≡ false
not_q number small = not_q_by (decimal number) (bytes_eq (decimal number) (codes "q")) (digits_all number small) refl

pub source_label_back : (name : List ℕ) → is_name name ≡ true → label_of (name ++ codes "__q") ≡ Some (source name)
source_label_back name good =
    let parts = good_name name good in
    rw (cut_back name (codes "q") parts.no_double parts.no_end, good) refl

pub state_label_back : (number : ℕ) → number < 2 ^ 64 → label_of (codes "s__" ++ decimal number) ≡ Some (state number)
state_label_back number small = rw (not_q number small, number_last number small) refl

pub net_label_back : (number : ℕ) → number < 2 ^ 64 → label_of (codes "n__" ++ decimal number) ≡ Some (net number)
net_label_back number small = rw (not_q number small, number_last number small) refl

numbered_none : (number : ℕ) → number < 2 ^ 64 → cut (decimal number) ≡ None
numbered_none number small = cut_none (decimal number) (digits_no_line number small)

pub register_back : (draft : Module) (name : SvRegName) (index : ℕ) → is_register_name name ≡ true → is_small_name name ≡ true
    → register_index draft name ≡ Some index → operand_of draft (register_text name) ≡ Some (Ref (Reg index))
register_back draft (register.Source name) index good small placed =
    let parts = good_name name good in
    rw (cut_back name (codes "q") parts.no_double parts.no_end, source_label_back name good, placed) refl
register_back draft (register.State number) index good small placed =
    let below : number < 2 ^ 64 = grind (arith, nat_tests) in
    rw (numbered_none number below, not_q number below, number_last number below, placed) refl

net_back : (draft : Module) (number : ℕ) → number < 2 ^ 64 → nat_lt number (length draft.nets) ≡ true → operand_of draft (net_text number) ≡ Some (Ref (Net number))
net_back draft number below there = rw (numbered_none number below, not_q number below, number_last number below, there) refl

-- References and operands, each by what stands at its place.

port_at : (tree draft : Module) (known index : ℕ) (port : SvPort) → GoodParts tree → Known draft tree known → slice_get tree.ports index ≡ Some port
    → (which : Wire) (ref : SvRef) → wire_ref (Some port) index which ≡ Some ref
    → operand_of draft (port.endpoint ++ (codes "__" ++ (port.message ++ (codes "__" ++ wire_word which)))) ≡ Some (Ref ref)
port_at tree draft known index port good has there which ref e =
    let named = good_port port (all_at is_port_name tree.ports index port good.ports_good there) in
    let once : has_no_twice is_same_port draft.ports ≡ true = rw (has.ports_same) (good.ports_differ) in
    let there_too : slice_get draft.ports index ≡ Some port = rw (has.ports_same) there in
    wire_operand draft port index which ref named once there_too e

data_back : (tree draft : Module) (known index : ℕ) (found : Option SvPort) → GoodParts tree → Known draft tree known → slice_get tree.ports index ≡ found
    → is_received found ≡ true → operand_of draft (wire_text found (codes "__data")) ≡ Some (Ref (Data index))
data_back tree draft known index None good has there stands = absurd cc
data_back tree draft known index (Some port) good has there stands =
    port_at tree draft known index port good has there wire.Data (Data index) (rw stands refl)

valid_back : (tree draft : Module) (known index : ℕ) (found : Option SvPort) → GoodParts tree → Known draft tree known → slice_get tree.ports index ≡ found
    → is_received found ≡ true → operand_of draft (wire_text found (codes "__valid")) ≡ Some (Ref (Valid index))
valid_back tree draft known index None good has there stands = absurd cc
valid_back tree draft known index (Some port) good has there stands =
    port_at tree draft known index port good has there wire.Valid (Valid index) (rw stands refl)

ack_back : (tree draft : Module) (known index : ℕ) (found : Option SvPort) → GoodParts tree → Known draft tree known → slice_get tree.ports index ≡ found
    → is_sent found ≡ true → operand_of draft (wire_text found (codes "__ack")) ≡ Some (Ref (Ack index))
ack_back tree draft known index None good has there stands = absurd cc
ack_back tree draft known index (Some port) good has there stands =
    port_at tree draft known index port good has there wire.Ack (Ack index) (rw stands refl)

reg_back : (tree draft : Module) (known index : ℕ) (found : Option SvReg) → GoodParts tree → Known draft tree known → slice_get tree.regs index ≡ found
    → index < length tree.regs → operand_of draft (register_text_at found) ≡ Some (Ref (Reg index))
reg_back tree draft known index None good has there within = let past = none_there tree.regs index there in absurd (omega arith)
reg_back tree draft known index (Some reg) good has there within =
    let named : slice_get (register_names tree) index ≡ Some reg.name = map_there (λ (r : SvReg). r.name) tree.regs index reg there in
    let named_too : slice_get (register_names draft) index ≡ Some reg.name = rw (has.names_same) named in
    let once : has_no_twice is_same_register (register_names draft) ≡ true = rw (has.names_same) (good.names_differ) in
    let placed : register_index draft reg.name ≡ Some index =
    position_back is_same_register register_turns (register_names draft) index reg.name once named_too (register_itself reg.name) in
    register_back draft reg.name index (all_at is_register_name (register_names tree) index reg.name good.names_good named)
    (all_at is_small_name (register_names tree) index reg.name good.names_small named) placed

pub ref_back : (tree draft : Module) (known : ℕ) (ref : SvRef) → GoodParts tree → Known draft tree known → ref_stands tree known ref ≡ true
    → operand_of draft (ref_text tree ref) ≡ Some (Ref ref)
ref_back tree draft known (Data index) good has stands = data_back tree draft known index (slice_get tree.ports index) good has refl stands
ref_back tree draft known (Valid index) good has stands = valid_back tree draft known index (slice_get tree.ports index) good has refl stands
ref_back tree draft known (Ack index) good has stands = ack_back tree draft known index (slice_get tree.ports index) good has refl stands
ref_back tree draft known (Reg index) good has stands =
    let within : index < length tree.regs = grind (arith, nat_tests) in
    reg_back tree draft known index (slice_get tree.regs index) good has refl within
ref_back tree draft known (Net number) good has stands =
    let below : number < known = grind (arith, nat_tests) in
    let small : number < 2 ^ 64 = omega (arith, good.nets_few, has.nets_within) in
    let there : nat_lt number (length draft.nets) ≡ true = rw (has.nets_known) stands in
    net_back draft number small there

pub operand_back : (tree draft : Module) (known : ℕ) (x : SvOperand) → GoodParts tree → Known draft tree known → operand_stands tree known x ≡ true
    → operand_of draft (operand_text tree x) ≡ Some x
operand_back tree draft known (Ref ref) good has stands = ref_back tree draft known ref good has stands
operand_back tree draft known (Lit number) good has stands = literal_operand draft number stands

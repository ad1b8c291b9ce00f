-- The lines of the header: a line for a wire is read back as what it says, with its comma or without.
use Rattle.std.proofs.Common.{◌≡◌, ℕ, ◌+◌, ◌-◌, ◌<◌, ◌≤◌, ◌^◌, Bool, true, false, not, List, ◌++◌, length, Some, refl, arith, append_assoc}
use Rattle.std.proofs.lemmas.Bool.{and_parts}
use Rattle.std.proofs.lemmas.Bool.Decides.{nat_tests}
use Rattle.std.proofs.lemmas.Fmt.{decimal_digit}
use Rattle.std.specs.Prelude.{nat_le, codes, decimal}
use Rattle.std.specs.List.{list_any}
use Rattle.sv_tree.specs.declared.tree.SvPort.{SvPort}
use Rattle.sv_tree.specs.Limits.{widest}
use Rattle.sv_tree.specs.Module.{Module}
use Rattle.sv_tree.specs.Text.{direction_text, data_line, valid_line, ack_line}
use Rattle.sv_tree.specs.WellFormed.{is_width, is_name, is_port_name, is_same_port}
use Rattle.sv_lines.specs.declared.wire.Wire.{Wire}
use Rattle.sv_lines.specs.declared.wire.Wire.TheVariants as wire
use Rattle.sv_lines.specs.Lines.{wire_word, comma_text, WireLine, direction_at, wire_end, wire_line}
use Rattle.sv_lines.specs.State.{valid_wanted, ack_wanted, with_port}
use Rattle.sv_lines.specs.Step.{onward, header_wanted, is_same_way, may_add, may_end, has_room, port_step, valid_step, ack_step}
use Rattle.sv_lines.proofs.read.Decided.{same_bytes}
use Rattle.sv_lines.proofs.read.PiecesRead.{cut_back, range_back}
use Rattle.sv_lines.proofs.back.Goes.{Quiet}
use Rattle.sv_lines.proofs.back.BytesBack.{quiet_join, quiet_decimal, quiet_name}
use Rattle.sv_lines.proofs.back.OperandsBack.{GoodPort, good_port}

-- which way a wire goes, without the comma and the line feed in front
abbrev pub way_text : Bool → List ℕ
way_text true = codes "  input logic ["
way_text false = codes "  output logic ["

pub direction_is : (comes_in : Bool) → direction_text comes_in ≡ codes ",\n" ++ way_text comes_in
direction_is true = refl
direction_is false = refl

-- the line of a wire, without its comma
abbrev pub wire_front : (comes_in : Bool) (width : ℕ) (port : SvPort) (which : Wire) → List ℕ
wire_front comes_in width port which =
    way_text comes_in ++ (decimal (width - 1) ++ (codes ":0] " ++ (port.endpoint ++ (codes "__" ++ (port.message ++ (codes "__" ++ wire_word which))))))

direction_back : (comes_in : Bool) (rest : List ℕ) → direction_at (way_text comes_in ++ rest) ≡ Some (comes_in, rest)
direction_back true rest = refl
direction_back false rest = refl

end_back : (which : Wire) (comma : Bool) → wire_end (wire_word which ++ comma_text comma) ≡ Some (which, comma)
end_back wire.Data true = refl
end_back wire.Data false = refl
end_back wire.Valid true = refl
end_back wire.Valid false = refl
end_back wire.Ack true = refl
end_back wire.Ack false = refl

abbrev pub line_of : (comes_in : Bool) (width : ℕ) (port : SvPort) (which : Wire) (comma : Bool) → WireLine
line_of comes_in width port which comma =
    record { comes_in = comes_in; width = width; endpoint = port.endpoint; message = port.message; wire = which; comma = comma }

with_end : (a b c d e f g h rest : List ℕ) → (a ++ (b ++ (c ++ (d ++ (e ++ (f ++ (g ++ h))))))) ++ rest ≡ a ++ (b ++ (c ++ (d ++ (e ++ (f ++ (g ++ (h ++ rest)))))))
with_end a b c d e f g h rest = simp append_assoc

pub record Width (width : ℕ) : Type 0 where
  pub within : width - 1 < widest
  pub back : width - 1 + 1 ≡ width

pub width_is : (width : ℕ) → is_width width ≡ true → Width width
width_is width e =
    let parts = and_parts (nat_le 1 width) (nat_le width widest) e in
    let lower = parts.0 in
    let upper = parts.1 in
    let above : 1 ≤ width = grind (arith, nat_tests) in
    let below : width ≤ widest = grind (arith, nat_tests) in
    record { within = omega arith; back = omega arith }

pub wire_line_back : (comes_in : Bool) (width : ℕ) (port : SvPort) (which : Wire) (comma : Bool) → GoodPort port → is_width width ≡ true
    → wire_line (wire_front comes_in width port which ++ comma_text comma) ≡ Some (line_of comes_in width port which comma)
wire_line_back comes_in width port which comma good wide =
    let is_wide = width_is width wide in
    let joined = with_end (way_text comes_in) (decimal (width - 1)) (codes ":0] ") port.endpoint (codes "__") port.message (codes "__") (wire_word which) (comma_text comma) in
    let names = port.endpoint ++ (codes "__" ++ (port.message ++ (codes "__" ++ (wire_word which ++ comma_text comma)))) in
    let way = direction_back comes_in (decimal (width - 1) ++ (codes ":0] " ++ names)) in
    let range = range_back (width - 1) names is_wide.within in
    let first = cut_back port.endpoint (port.message ++ (codes "__" ++ (wire_word which ++ comma_text comma))) good.endpoint.no_double good.endpoint.no_end in
    let second = cut_back port.message (wire_word which ++ comma_text comma) good.message.no_double good.message.no_end in
    rw (joined, way, range, first, second, end_back which comma, is_wide.back) refl

way_quiet : (comes_in : Bool) → Quiet (way_text comes_in)
way_quiet true = refl
way_quiet false = refl

pub word_quiet : (which : Wire) → Quiet (wire_word which)
word_quiet wire.Data = refl
word_quiet wire.Valid = refl
word_quiet wire.Ack = refl

pub wire_front_quiet : (comes_in : Bool) (width : ℕ) (port : SvPort) (which : Wire) → GoodPort port → is_width width ≡ true → Quiet (wire_front comes_in width port which)
wire_front_quiet comes_in width port which good wide =
    let is_wide = width_is width wide in
    let within = is_wide.within in
    let small : width - 1 < 2 ^ 64 = omega arith in
    let word = codes "__" ++ wire_word which in
    let message = port.message ++ word in
    let endpoint = port.endpoint ++ (codes "__" ++ message) in
    let message_quiet : Quiet (codes "__" ++ message) = quiet_join port.message word (quiet_name port.message good.message.bytes) (word_quiet which) in
    let endpoint_quiet : Quiet endpoint = quiet_join port.endpoint (codes "__" ++ message) (quiet_name port.endpoint good.endpoint.bytes) message_quiet in
    quiet_join (way_text comes_in) (decimal (width - 1) ++ (codes ":0] " ++ endpoint)) (way_quiet comes_in)
    (quiet_join (decimal (width - 1)) (codes ":0] " ++ endpoint) (quiet_decimal (width - 1) small) endpoint_quiet)

-- Each line of a port.

pub data_front : (port : SvPort) → data_line port ≡ codes ",\n" ++ wire_front port.received port.width port wire.Data
data_front port = rw (direction_is port.received) refl

zero_text : decimal 0 ≡ codes "0"
zero_text = decimal_digit 0 (omega arith)

pub valid_front : (port : SvPort) → valid_line port ≡ codes ",\n" ++ wire_front port.received 1 port wire.Valid
valid_front port = rw (direction_is port.received, zero_text) refl

pub ack_front : (port : SvPort) → ack_line port ≡ codes ",\n" ++ wire_front (not port.received) 1 port wire.Ack
ack_front port = rw (direction_is (not port.received), zero_text) refl

same_way : (way : Bool) → is_same_way way way ≡ true
same_way true = refl
same_way false = refl

pub data_step : (draft : Module) (port : SvPort) → is_port_name port ≡ true → is_width port.width ≡ true → list_any (is_same_port port) draft.ports ≡ false
    → has_room (length draft.ports) ≡ true → port_step draft (wire_front port.received port.width port wire.Data ++ codes ",") ≡ Some (onward draft (valid_wanted port))
data_step draft port named wide new free =
    let names = and_parts (is_name port.endpoint) (is_name port.message) named in
    rw (wire_line_back port.received port.width port wire.Data true (good_port port named) wide, names.0, names.1, new, free) refl

pub valid_step_back : (draft : Module) (port : SvPort) → is_port_name port ≡ true
    → valid_step draft port (wire_front port.received 1 port wire.Valid ++ codes ",") ≡ Some (onward draft (ack_wanted port))
valid_step_back draft port named =
    rw (wire_line_back port.received 1 port wire.Valid true (good_port port named) refl, same_way port.received, same_bytes port.endpoint, same_bytes port.message) refl

may_be_added : (draft : Module) (port : SvPort) → is_port_name port ≡ true → list_any (is_same_port port) draft.ports ≡ false → has_room (length draft.ports) ≡ true
    → may_add draft port ≡ true
may_be_added draft port named new free = rw (named, new, free) refl

pub ack_step_back : (draft : Module) (port : SvPort) (comma : Bool) → is_port_name port ≡ true → list_any (is_same_port port) draft.ports ≡ false
    → has_room (length draft.ports) ≡ true → may_end (length draft.ports + 1) comma ≡ true
    → ack_step draft port (wire_front (not port.received) 1 port wire.Ack ++ comma_text comma) ≡ Some (onward (with_port draft port) (header_wanted comma))
ack_step_back draft port comma named new free room =
    let may = may_be_added draft port named new free in
    rw (wire_line_back (not port.received) 1 port wire.Ack comma (good_port port named) refl, same_way (not port.received), same_bytes port.endpoint, same_bytes port.message, room, may) refl

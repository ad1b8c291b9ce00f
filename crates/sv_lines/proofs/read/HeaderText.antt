-- The lines of the header come to the text that has been read, as `TextKept` says of all lines.
use Rattle.std.proofs.Common.{◌≡◌, ℕ, ◌+◌, ◌-◌, Bool, true, false, not, ◌&&◌, List, [], ◌++◌, length, Some, refl, ap, sym, ◌∙◌, arith, append_assoc, append-nil}
use Rattle.std.proofs.lemmas.Bool.{and_parts}
use Rattle.std.proofs.lemmas.Option.{same_Some}
use Rattle.std.specs.Prelude.{flat_map, codes, decimal, bytes_eq, ◌==◌}
use Rattle.std.proofs.lemmas.Fmt.{decimal_digit}
use Rattle.sv_tree.specs.declared.tree.SvPort.{SvPort}
use Rattle.sv_tree.specs.Module.{Module}
use Rattle.sv_tree.specs.Text.{direction_text, data_line, valid_line, ack_line, port_lines, opening_lines}
use Rattle.sv_lines.specs.declared.wire.Wire.{Wire}
use Rattle.sv_lines.specs.declared.wire.Wire.TheVariants as wire
use Rattle.sv_lines.specs.Pieces.{after}
use Rattle.sv_lines.specs.Lines.{wire_word, comma_text, comma_of, WireLine, wire_line}
use Rattle.sv_lines.specs.State.{reset_wanted, port_wanted, valid_wanted, ack_wanted, with_port, header_text, draft_text}
use Rattle.sv_lines.specs.Step.{Reached, onward, header_wanted, reset_step, port_of, is_data, port_step, is_same_way, is_wire_of, valid_step, may_end, may_add, added, ack_step}
use Rattle.sv_lines.proofs.read.Decided.{passes, passes_on, bytes_same, number_same, then_read}
use Rattle.sv_lines.proofs.read.PiecesRead.{after_read}
use Rattle.sv_lines.proofs.read.LinesRead.{comma_read, way_text, wire_line_text, wire_line_read}
use Rattle.sv_lines.proofs.read.SameTexts.{one_more}
use Rattle.sv_lines.specs.Good.{IsHeader}
use Rattle.sv_lines.proofs.read.FixedText.{reached_text, with_line}

header_place_text : (tree : Module) (comma : Bool) → IsHeader tree → draft_text tree (header_wanted comma) ≡ header_text tree ++ (comma_text comma ++ codes "\n")
unfolding draft_text
header_place_text tree true header = refl
header_place_text tree false header = refl

reset_grouped : (a b c d e f : List ℕ) → ((a ++ (b ++ (c ++ d))) ++ []) ++ (e ++ f) ≡ (a ++ (b ++ c)) ++ ((d ++ e) ++ f)
reset_grouped a b c d e f = simp (append_assoc, append-nil)

reset_text : (tree : Module) (comma : Bool) → IsHeader tree → tree.ports ≡ []
    → draft_text tree (header_wanted comma) ≡ with_line (draft_text tree reset_wanted) (codes "  input logic rst_ni" ++ comma_text comma)
unfolding draft_text
reset_text tree true header no_ports =
    rw no_ports (reset_grouped (codes "module anvil__") tree.proc (codes " (\n  input logic clk_i,\n") (codes "  input logic rst_ni") (codes ",") (codes "\n"))
reset_text tree false header no_ports =
    rw no_ports (reset_grouped (codes "module anvil__") tree.proc (codes " (\n  input logic clk_i,\n") (codes "  input logic rst_ni") [] (codes "\n"))

pub reset_kept : (tree : Module) (line : List ℕ) (reached : Reached) → IsHeader tree → tree.ports ≡ [] → reset_step tree line ≡ Some reached
    → reached_text reached ≡ with_line (draft_text tree reset_wanted) line
reset_kept tree line reached header no_ports e =
    then_read (after (codes "  input logic rst_ni") line) _ reached e (λ rest is_rest e.
    then_read (comma_of rest) _ reached e (λ comma is_comma e.
    rw (← same_Some _ _ e, after_read (codes "  input logic rst_ni") line rest is_rest, comma_read rest comma is_comma) (reset_text tree comma header no_ports)))

way_same : (comes_in : Bool) → direction_text comes_in ≡ codes ",\n" ++ way_text comes_in
way_same true = refl
way_same false = refl

-- a wire's line in the header, with the comma of the line before it
wire_text : (line : WireLine) (word : List ℕ) → wire_word line.wire ≡ word
    → direction_text line.comes_in ++ (decimal (line.width - 1) ++ (codes ":0] " ++ (line.endpoint ++ (codes "__" ++ (line.message ++ (codes "__" ++ word))))))
    ++ (comma_text line.comma ++ codes "\n")
    ≡ codes ",\n" ++ (wire_line_text line ++ codes "\n")
wire_text line word is_word =
    rw (way_same line.comes_in, ← is_word)
    (grouped (codes ",\n") (way_text line.comes_in) (decimal (line.width - 1)) (codes ":0] ") line.endpoint (codes "__") line.message (wire_word line.wire) (comma_text line.comma) (codes "\n"))
  where
    grouped : (a b c d e f g h i j : List ℕ)
        → ((a ++ b) ++ (c ++ (d ++ (e ++ (f ++ (g ++ (f ++ h))))))) ++ (i ++ j) ≡ a ++ ((b ++ (c ++ (d ++ (e ++ (f ++ (g ++ (f ++ (h ++ i)))))))) ++ j)
    grouped a b c d e f g h i j = simp append_assoc

-- the same behind what stands before
wire_line_text_behind : (before : List ℕ) (line : WireLine) (word : List ℕ) (comma : Bool) → wire_word line.wire ≡ word → line.comma ≡ comma
    → before ++ ((direction_text line.comes_in ++ (decimal (line.width - 1) ++ (codes ":0] " ++ (line.endpoint ++ (codes "__" ++ (line.message ++ (codes "__" ++ word)))))))
    ++ (comma_text comma ++ codes "\n"))
    ≡ with_line (before ++ codes ",\n") (wire_line_text line)
wire_line_text_behind before line word comma is_word is_comma =
    ap (λ c. before ++ ((direction_text line.comes_in ++ (decimal (line.width - 1) ++ (codes ":0] " ++ (line.endpoint ++ (codes "__" ++ (line.message ++ (codes "__" ++ word)))))))
    ++ (comma_text c ++ codes "\n"))) (sym is_comma)
    ∙ ap (λ l. before ++ l) (wire_text line word is_word) ∙ sym (append_assoc before (codes ",\n") (wire_line_text line ++ codes "\n"))

port_text : (tree : Module) (line : WireLine) → is_data line ≡ true → draft_text tree (valid_wanted (port_of line)) ≡ with_line (draft_text tree port_wanted) (wire_line_text line)
unfolding draft_text
port_text tree line test =
    let two = and_parts (bytes_eq (wire_word line.wire) (codes "data")) line.comma test in
    wire_line_text_behind (header_text tree) line (codes "data") true (bytes_same (wire_word line.wire) (codes "data") two.0) two.1

pub port_kept : (tree : Module) (line : List ℕ) (reached : Reached) → port_step tree line ≡ Some reached → reached_text reached ≡ with_line (draft_text tree port_wanted) line
port_kept tree line reached e =
    then_read (wire_line line) _ reached e (λ parts is_parts e.
    let passed = passes (is_data parts && may_add tree (port_of parts)) (onward tree (valid_wanted (port_of parts))) reached e in
    let tests = and_parts (is_data parts) (may_add tree (port_of parts)) passed.holds in
    rw (← passed.same, (wire_line_read line parts is_parts).written) (port_text tree parts tests.0))

-- a line of the port for the wire
pub record IsWire (port : SvPort) (word : List ℕ) (comes_in : Bool) (line : WireLine) : Type 0 where
  pub word_same : wire_word line.wire ≡ word
  pub way_same : line.comes_in ≡ comes_in
  pub one_bit : line.width ≡ 1
  pub endpoint_same : line.endpoint ≡ port.endpoint
  pub message_same : line.message ≡ port.message

same_way : (one other : Bool) → is_same_way one other ≡ true → other ≡ one
same_way true other e = e
same_way false true e = absurd cc
same_way false false e = refl

pub wire_is : (port : SvPort) (which : Wire) (comes_in : Bool) (line : WireLine) → is_wire_of port which comes_in line ≡ true → IsWire port (wire_word which) comes_in line
wire_is port which comes_in line e =
    let word = bytes_eq (wire_word line.wire) (wire_word which) in
    let way = is_same_way comes_in line.comes_in in
    let four = and_parts (((word && way) && (line.width == 1)) && bytes_eq line.endpoint port.endpoint) (bytes_eq line.message port.message) e in
    let three = and_parts ((word && way) && (line.width == 1)) (bytes_eq line.endpoint port.endpoint) four.0 in
    let two = and_parts (word && way) (line.width == 1) three.0 in
    let one = and_parts word way two.0 in
    record {
      word_same = bytes_same (wire_word line.wire) (wire_word which) one.0;
      way_same = same_way comes_in line.comes_in one.1;
      one_bit = number_same line.width 1 two.1;
      endpoint_same = bytes_same line.endpoint port.endpoint three.1;
      message_same = bytes_same line.message port.message four.1;
    }

no_digit : decimal (1 - 1) ≡ codes "0"
no_digit = decimal_digit 0 (omega arith)

-- a wire's line is that of the port, behind what stands before
wire_line_of_port : (before : List ℕ) (port : SvPort) (word : List ℕ) (comes_in comma : Bool) (line : WireLine) → IsWire port word comes_in line → line.comma ≡ comma
    → before ++ ((direction_text comes_in ++ (codes "0:0] " ++ (port.endpoint ++ (codes "__" ++ (port.message ++ (codes "__" ++ word)))))) ++ (comma_text comma ++ codes "\n"))
    ≡ with_line (before ++ codes ",\n") (wire_line_text line)
wire_line_of_port before port word comes_in comma line is is_comma =
    rw (← is.way_same, ← is.endpoint_same, ← is.message_same)
    (ap (λ digits. before ++ ((direction_text line.comes_in ++ (digits ++ (codes ":0] " ++ (line.endpoint ++ (codes "__" ++ (line.message ++ (codes "__" ++ word)))))))
    ++ (comma_text comma ++ codes "\n"))) (sym no_digit ∙ ap (λ w. decimal (w - 1)) (sym is.one_bit))
    ∙ wire_line_text_behind before line word comma is.word_same is_comma)

valid_text : (tree : Module) (port : SvPort) (line : WireLine) → is_wire_of port wire.Valid port.received line ≡ true → line.comma ≡ true
    → draft_text tree (ack_wanted port) ≡ with_line (draft_text tree (valid_wanted port)) (wire_line_text line)
unfolding draft_text
valid_text tree port line test comma =
    let is = wire_is port wire.Valid port.received line test in
    let joined : header_text tree ++ (data_line port ++ (valid_line port ++ codes ",\n")) ≡ (header_text tree ++ data_line port) ++ (valid_line port ++ codes ",\n") =
    sym (append_assoc (header_text tree) (data_line port) (valid_line port ++ codes ",\n")) in
    joined ∙ wire_line_of_port (header_text tree ++ data_line port) port (codes "valid") port.received true line is comma
    ∙ ap (λ l. l ++ (wire_line_text line ++ codes "\n")) (append_assoc (header_text tree) (data_line port) (codes ",\n"))

pub valid_kept : (tree : Module) (port : SvPort) (line : List ℕ) (reached : Reached) → valid_step tree port line ≡ Some reached
    → reached_text reached ≡ with_line (draft_text tree (valid_wanted port)) line
valid_kept tree port line reached e =
    then_read (wire_line line) _ reached e (λ parts is_parts e.
    let passed = passes (is_wire_of port wire.Valid port.received parts && parts.comma) (onward tree (ack_wanted port)) reached e in
    let tests = and_parts (is_wire_of port wire.Valid port.received parts) parts.comma passed.holds in
    rw (← passed.same, (wire_line_read line parts is_parts).written) (valid_text tree port parts tests.0 tests.1))

-- a port more in the header
port_more : (tree : Module) (port : SvPort) → header_text (with_port tree port) ≡ header_text tree ++ (data_line port ++ (valid_line port ++ ack_line port))
port_more tree port =
    ap (λ l. opening_lines tree.proc ++ l) (one_more port_lines tree.ports port) ∙ sym (append_assoc (opening_lines tree.proc) (flat_map port_lines tree.ports) (port_lines port))

ack_text : (tree : Module) (port : SvPort) (line : WireLine) (comma : Bool) → IsHeader tree → line.comma ≡ comma → is_wire_of port wire.Ack (not port.received) line ≡ true
    → draft_text (with_port tree port) (header_wanted comma) ≡ with_line (draft_text tree (ack_wanted port)) (wire_line_text line)
unfolding draft_text
ack_text tree port line comma header is_comma test =
    let is = wire_is port wire.Ack (not port.received) line test in
    let header_more : IsHeader (with_port tree port) = record { no_regs = header.no_regs; no_nets = header.no_nets; no_outs = header.no_outs; no_nexts = header.no_nexts } in
    let before = header_text tree ++ (data_line port ++ valid_line port) in
    header_place_text (with_port tree port) comma header_more
    ∙ ap (λ l. l ++ (comma_text comma ++ codes "\n")) (port_more tree port)
    ∙ regroup (header_text tree) (data_line port) (valid_line port) (ack_line port) (comma_text comma ++ codes "\n")
    ∙ wire_line_of_port before port (codes "ack") (not port.received) comma line is is_comma
    ∙ ap (λ l. l ++ (wire_line_text line ++ codes "\n")) (regroup_before (header_text tree) (data_line port) (valid_line port) (codes ",\n"))
  where
    regroup : (a b c d e : List ℕ) → (a ++ (b ++ (c ++ d))) ++ e ≡ (a ++ (b ++ c)) ++ (d ++ e)
    regroup a b c d e = simp append_assoc

    regroup_before : (a b c d : List ℕ) → (a ++ (b ++ c)) ++ d ≡ a ++ (b ++ (c ++ d))
    regroup_before a b c d = simp append_assoc

pub ack_kept : (tree : Module) (port : SvPort) (line : List ℕ) (reached : Reached) → IsHeader tree → ack_step tree port line ≡ Some reached
    → reached_text reached ≡ with_line (draft_text tree (ack_wanted port)) line
ack_kept tree port line reached header e =
    then_read (wire_line line) _ reached e (λ parts is_parts e.
    let test = is_wire_of port wire.Ack (not port.received) parts in
    let room = may_end (length tree.ports + 1) parts.comma in
    let stands = passes_on (test && room) (added tree port parts.comma) reached e in
    let passed = passes (may_add tree port) (onward (with_port tree port) (header_wanted parts.comma)) reached stands.same in
    let tests = and_parts test room stands.holds in
    rw (← passed.same, (wire_line_read line parts is_parts).written) (ack_text tree port parts parts.comma header refl tests.0))

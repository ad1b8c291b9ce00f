-- The lines that need no module to be read: the header's wires, and declarations.
use Rattle.std.specs.Prelude.{ℕ, Bool, true, false, List, [], bytes_eq, codes, Option, Some, None, if◌then◌else◌}
use Rattle.anvil_lexer.specs.GoodName.{is_name_byte}
use Rattle.sv_tree.specs.WellFormed.{is_name}
use Rattle.sv_lines.specs.declared.wire.Wire.{Wire}
use Rattle.sv_lines.specs.declared.wire.Wire.TheVariants as wire
use Rattle.sv_lines.specs.Pieces.{◌>>=◌, after, closed, front_run, after_run, number_at, cut, range_at}

-- Wires by their words.

abbrev pub wire_word : Wire → List ℕ
wire_word wire.Data = codes "data"
wire_word wire.Valid = codes "valid"
wire_word wire.Ack = codes "ack"

abbrev pub wire_of : List ℕ → Option Wire
wire_of word =
    if bytes_eq word (codes "data") then Some wire.Data
    else (if bytes_eq word (codes "valid") then Some wire.Valid else (if bytes_eq word (codes "ack")
    then Some wire.Ack else None))

-- a comma, or none
abbrev pub comma_text : Bool → List ℕ
comma_text true = codes ","
comma_text false = []

abbrev pub comma_of : List ℕ → Option Bool
comma_of rest = if bytes_eq rest [] then Some false else closed (codes ",") true rest

-- A line of the header: `  input logic [H:0] E__M__W`, or `output` in place of `input`, with a comma or without.
pub record WireLine : Type 0 where
  pub comes_in : Bool
  pub width : ℕ
  pub endpoint : List ℕ
  pub message : List ℕ
  pub wire : Wire
  pub comma : Bool

abbrev pub direction_by : Option (List ℕ) → Option (List ℕ) → Option (Bool × List ℕ)
direction_by (Some rest) other = Some (true, rest)
direction_by None (Some rest) = Some (false, rest)
direction_by None None = None

abbrev pub direction_at : List ℕ → Option (Bool × List ℕ)
direction_at line = direction_by (after (codes "  input logic [") line) (after (codes "  output logic [") line)

-- the wire's word and the comma
abbrev pub wire_end : List ℕ → Option (Wire × Bool)
wire_end rest =
    wire_of (front_run is_name_byte rest) >>= (λ wire. comma_of (after_run is_name_byte rest)
    >>= (λ comma. Some (wire, comma)))

-- the line, of which the direction and the width are read
abbrev pub named_wire : Bool → ℕ → List ℕ → Option WireLine
named_wire comes_in width rest =
    cut rest >>= (λ first. cut first.1 >>= (λ second. wire_end second.1 >>= (λ end. Some (record {
      comes_in = comes_in;
      width = width;
      endpoint = first.0;
      message = second.0;
      wire = end.0;
      comma = end.1;
    }))))

abbrev pub wire_line : List ℕ → Option WireLine
wire_line line = direction_at line >>= (λ way. range_at way.1 >>= (λ range. named_wire way.0 range.0 range.1))

-- Labels of what is declared: `NAME__q`, `s__K`, `n__K`.
pub data Label : Type 0 where
  source : (name : List ℕ) → Label
  state : (number : ℕ) → Label
  net : (number : ℕ) → Label

-- a source register has a good name
abbrev pub source_label : List ℕ → Option Label
source_label name = if is_name name then Some (source name) else None

-- by the letter in front
abbrev pub numbered : List ℕ → ℕ → Option Label
numbered letter number =
    if bytes_eq letter (codes "s") then Some (state number) else (if bytes_eq letter (codes "n")
    then Some (net number) else None)

abbrev pub numbered_label : List ℕ → List ℕ → Option Label
numbered_label letter rest =
    number_at rest >>= (λ found. closed [] found.0 found.1 >>= (λ number. numbered letter number))

abbrev pub label_by : List ℕ → List ℕ → Option Label
label_by front rest = if bytes_eq rest (codes "q") then source_label front else numbered_label front rest

abbrev pub label_of : List ℕ → Option Label
label_of text = cut text >>= (λ parts. label_by parts.0 parts.1)

-- A declaration: `  logic [H:0] LABEL;`.
pub record Declared : Type 0 where
  pub width : ℕ
  pub label : Label

abbrev pub labelled : ℕ → List ℕ → Option Declared
labelled width rest =
    label_of (front_run is_name_byte rest)
    >>= (λ label. closed (codes ";") (record { width = width; label = label }) (after_run is_name_byte rest))

abbrev pub declaration : List ℕ → Option Declared
declaration line = after (codes "  logic [") line >>= (λ rest. range_at rest >>= (λ range. labelled range.0 range.1))

-- The first line of a module: `module anvil__P (`.
abbrev pub opened : List ℕ → List ℕ → Option (List ℕ)
opened name rest = closed (codes " (") name rest >>= (λ name. if is_name name then Some name else None)

abbrev pub opening : List ℕ → Option (List ℕ)
opening line =
    after (codes "module anvil__") line
    >>= (λ rest. opened (front_run is_name_byte rest) (after_run is_name_byte rest))

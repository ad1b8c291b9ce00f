-- Lines that need no module: what is read is what stands there.
use Rattle.std.proofs.Common.{◌≡◌, ℕ, ◌+◌, ◌-◌, ◌<◌, Bool, true, false, cond, List, [], ◌++◌, Option, Some, None, refl, ap, ◌∙◌, arith, append-nil}
use Rattle.std.proofs.lemmas.Option.{same_Some}
use Rattle.std.specs.Prelude.{bytes_eq, codes, decimal, nat_lt, ◌^◌}
use Rattle.anvil_lexer.specs.GoodName.{is_name_byte}
use Rattle.sv_tree.specs.Limits.{widest}
use Rattle.sv_tree.specs.WellFormed.{is_name}
use Rattle.sv_lines.specs.declared.wire.Wire.{Wire}
use Rattle.sv_lines.specs.declared.wire.Wire.TheVariants as wire
use Rattle.sv_lines.specs.Pieces.{after, closed, front_run, after_run, number_at, cut, range_at}
use Rattle.sv_lines.specs.Lines.{wire_word, wire_of, comma_text, comma_of, WireLine, direction_by, direction_at, wire_end, named_wire, wire_line, Label, source, state, net, source_label, numbered_label, label_of, Declared, labelled, declaration, opening}
use Rattle.sv_lines.proofs.read.Decided.{passes, bytes_same, closes, then_read}
use Rattle.sv_lines.proofs.read.PiecesRead.{after_read, run_joined, number_read, cut_read, range_read}

-- Wires.

wire_by : (word : List ℕ) (found : Wire) (first second third : Bool) → bytes_eq word (codes "data") ≡ first → bytes_eq word (codes "valid") ≡ second
    → bytes_eq word (codes "ack") ≡ third → cond first (Some wire.Data) (cond second (Some wire.Valid) (cond third (Some wire.Ack) None)) ≡ Some found
    → word ≡ wire_word found
wire_by word found true second third is_data is_valid is_ack e = rw (← same_Some _ _ e) (bytes_same word (codes "data") is_data)
wire_by word found false true third is_data is_valid is_ack e = rw (← same_Some _ _ e) (bytes_same word (codes "valid") is_valid)
wire_by word found false false true is_data is_valid is_ack e = rw (← same_Some _ _ e) (bytes_same word (codes "ack") is_ack)
wire_by word found false false false is_data is_valid is_ack e = absurd cc

pub wire_read : (word : List ℕ) (found : Wire) → wire_of word ≡ Some found → word ≡ wire_word found
wire_read word found e = wire_by word found (bytes_eq word (codes "data")) (bytes_eq word (codes "valid")) (bytes_eq word (codes "ack")) refl refl refl e

comma_by : (rest : List ℕ) (comma none : Bool) → bytes_eq rest [] ≡ none → cond none (Some false) (closed (codes ",") true rest) ≡ Some comma → rest ≡ comma_text comma
comma_by rest true true is_none e = absurd cc
comma_by rest false true is_none e = bytes_same rest [] is_none
comma_by rest comma false is_none e =
    let closing = closes (codes ",") true comma rest e in
    rw (← closing.same) closing.ends

pub comma_read : (rest : List ℕ) (comma : Bool) → comma_of rest ≡ Some comma → rest ≡ comma_text comma
comma_read rest comma e = comma_by rest comma (bytes_eq rest []) refl e

-- the text of a line of the header
abbrev pub way_text : Bool → List ℕ
way_text true = codes "  input logic ["
way_text false = codes "  output logic ["

abbrev pub wire_line_text : WireLine → List ℕ
wire_line_text line =
    way_text line.comes_in ++ (decimal (line.width - 1) ++ (codes ":0] " ++ (line.endpoint ++ (codes "__"
    ++ (line.message ++ (codes "__" ++ (wire_word line.wire ++ comma_text line.comma)))))))

way_by : (line : List ℕ) (comes other : Option (List ℕ)) (way : Bool × List ℕ) → ((rest : List ℕ) → comes ≡ Some rest → line ≡ codes "  input logic [" ++ rest)
    → ((rest : List ℕ) → other ≡ Some rest → line ≡ codes "  output logic [" ++ rest) → direction_by comes other ≡ Some way → line ≡ way_text way.0 ++ way.1
way_by line (Some rest) other way one two e = rw (← same_Some _ _ e) (one rest refl)
way_by line None (Some rest) way one two e = rw (← same_Some _ _ e) (two rest refl)
way_by line None None way one two e = absurd cc

pub way_read : (line : List ℕ) (way : Bool × List ℕ) → direction_at line ≡ Some way → line ≡ way_text way.0 ++ way.1
way_read line way e =
    way_by line (after (codes "  input logic [") line) (after (codes "  output logic [") line) way (after_read (codes "  input logic [") line)
    (after_read (codes "  output logic [") line) e

end_read : (rest : List ℕ) (found : Wire × Bool) → wire_end rest ≡ Some found → rest ≡ wire_word found.0 ++ comma_text found.1
end_read rest found e =
    then_read (wire_of (front_run is_name_byte rest)) _ found e (λ word is_word e.
    then_read (comma_of (after_run is_name_byte rest)) _ found e (λ comma is_comma e.
    rw (← same_Some _ _ e, ← wire_read (front_run is_name_byte rest) word is_word, ← comma_read (after_run is_name_byte rest) comma is_comma) (run_joined is_name_byte rest)))

-- what a line of the header is read as
pub record WireLineRead (text : List ℕ) (line : WireLine) : Type 0 where
  pub high : ℕ
  pub is_width : line.width ≡ high + 1
  pub within : high < widest
  pub written : text ≡ wire_line_text line

abbrev named : Bool → ℕ → List ℕ → List ℕ → Wire × Bool → WireLine
named comes_in width endpoint message end =
    record { comes_in = comes_in; width = width; endpoint = endpoint; message = message; wire = end.0; comma = end.1 }

named_read : (comes_in : Bool) (width : ℕ) (rest : List ℕ) (line : WireLine) → named_wire comes_in width rest ≡ Some line
    → (line.comes_in ≡ comes_in) × (line.width ≡ width)
    × (rest ≡ line.endpoint ++ (codes "__" ++ (line.message ++ (codes "__" ++ (wire_word line.wire ++ comma_text line.comma)))))
named_read comes_in width rest line e =
    then_read (cut rest) _ line e (λ first is_first e.
    then_read (cut first.1) _ line e (λ second is_second e.
    then_read (wire_end second.1) _ line e (λ end is_end e.
    rw (← same_Some _ _ e) (refl, refl, rw (← end_read second.1 end is_end, ← cut_read first.1 second is_second) (cut_read rest first is_first)))))

pub wire_line_read : (text : List ℕ) (line : WireLine) → wire_line text ≡ Some line → WireLineRead text line
wire_line_read text line e =
    then_read (direction_at text) _ line e (λ way is_way e.
    then_read (range_at way.1) _ line e (λ range is_range e.
    let names = named_read way.0 range.0 range.1 line e in
    let ranged = range_read way.1 range is_range in
    let one_less : line.width - 1 ≡ ranged.high = omega (arith, names.1, ranged.is_width) in
    record {
      high = ranged.high;
      is_width = names.1 ∙ ranged.is_width;
      within = ranged.within;
      written = rw (names.0, one_less, ← names.2, ← ranged.written) (way_read text way is_way);
    }))

-- Labels.

abbrev pub label_text : Label → List ℕ
label_text (source name) = name ++ codes "__q"
label_text (state number) = codes "s__" ++ decimal number
label_text (net number) = codes "n__" ++ decimal number

-- what a label keeps
abbrev pub IsGoodLabel : Label → Type 0
IsGoodLabel (source name) = is_name name ≡ true
IsGoodLabel (state number) = nat_lt number (2 ^ 64) ≡ true
IsGoodLabel (net number) = nat_lt number (2 ^ 64) ≡ true

pub record LabelRead (text : List ℕ) (label : Label) : Type 0 where
  pub written : text ≡ label_text label
  pub good : IsGoodLabel label

source_read : (name : List ℕ) (label : Label) → source_label name ≡ Some label → LabelRead (name ++ codes "__q") label
source_read name label e =
    let passed = passes (is_name name) (source name) label e in
    rw (← passed.same) (record { written = refl; good = passed.holds })

numbered_by : (letter : List ℕ) (number : ℕ) (label : Label) (is_s is_n : Bool) → nat_lt number (2 ^ 64) ≡ true → bytes_eq letter (codes "s") ≡ is_s → bytes_eq letter (codes "n") ≡ is_n
    → cond is_s (Some (state number)) (cond is_n (Some (net number)) None) ≡ Some label → LabelRead (letter ++ (codes "__" ++ decimal number)) label
numbered_by letter number label true is_n below s n e =
    let same : state number ≡ label = cc in
    rw (← same, bytes_same letter (codes "s") s) (record { written = refl; good = below })
numbered_by letter number label false true below s n e =
    let same : net number ≡ label = cc in
    rw (← same, bytes_same letter (codes "n") n) (record { written = refl; good = below })
numbered_by letter number label false false below s n e = absurd cc

numbered_read : (letter rest : List ℕ) (label : Label) → numbered_label letter rest ≡ Some label → LabelRead (letter ++ (codes "__" ++ rest)) label
numbered_read letter rest label e =
    then_read (number_at rest) _ label e (λ found is_found e.
    then_read (closed [] found.0 found.1) _ label e (λ number is_end e.
    let ended = closes [] found.0 number found.1 is_end in
    let is_number = number_read rest found is_found in
    let written : rest ≡ decimal number = is_number.written ∙ ap (λ l. decimal found.0 ++ l) ended.ends ∙ append-nil (decimal found.0) ∙ ap decimal ended.same in
    rw written (numbered_by letter number label (bytes_eq letter (codes "s")) (bytes_eq letter (codes "n")) (rw (← ended.same) is_number.below) refl refl e)))

label_read_by : (front rest : List ℕ) (label : Label) (is_q : Bool) → bytes_eq rest (codes "q") ≡ is_q → cond is_q (source_label front) (numbered_label front rest) ≡ Some label
    → LabelRead (front ++ (codes "__" ++ rest)) label
label_read_by front rest label true is e = rw (bytes_same rest (codes "q") is) (source_read front label e)
label_read_by front rest label false is e = numbered_read front rest label e

pub label_read : (text : List ℕ) (label : Label) → label_of text ≡ Some label → LabelRead text label
label_read text label e =
    then_read (cut text) _ label e (λ parts is_cut e.
    rw (cut_read text parts is_cut) (label_read_by parts.0 parts.1 label (bytes_eq parts.1 (codes "q")) refl e))

-- Declarations.

pub record DeclaredRead (text : List ℕ) (declared : Declared) : Type 0 where
  pub high : ℕ
  pub is_width : declared.width ≡ high + 1
  pub within : high < widest
  pub good : IsGoodLabel declared.label
  pub written : text ≡ codes "  logic [" ++ (decimal (declared.width - 1) ++ (codes ":0] " ++ (label_text declared.label ++ codes ";")))

labelled_read : (width : ℕ) (rest : List ℕ) (declared : Declared) → labelled width rest ≡ Some declared
    → (declared.width ≡ width) × IsGoodLabel declared.label × (rest ≡ label_text declared.label ++ codes ";")
labelled_read width rest declared e =
    then_read (label_of (front_run is_name_byte rest)) _ declared e (λ label is_label e.
    let closing = closes (codes ";") (record { width = width; label = label }) declared (after_run is_name_byte rest) e in
    let good = label_read (front_run is_name_byte rest) label is_label in
    rw (← closing.same) (refl, good.good, rw (← good.written, ← closing.ends) (run_joined is_name_byte rest)))

pub declaration_read : (text : List ℕ) (declared : Declared) → declaration text ≡ Some declared → DeclaredRead text declared
declaration_read text declared e =
    then_read (after (codes "  logic [") text) _ declared e (λ begun is_begun e.
    then_read (range_at begun) _ declared e (λ range is_range e.
    let label = labelled_read range.0 range.1 declared e in
    let ranged = range_read begun range is_range in
    let one_less : declared.width - 1 ≡ ranged.high = omega (arith, label.0, ranged.is_width) in
    record {
      high = ranged.high;
      is_width = label.0 ∙ ranged.is_width;
      within = ranged.within;
      good = label.1;
      written = rw (one_less, ← label.2, ← ranged.written) (after_read (codes "  logic [") text begun is_begun);
    }))

-- The first line of a module.

pub record OpeningRead (text name : List ℕ) : Type 0 where
  pub good : is_name name ≡ true
  pub written : text ≡ codes "module anvil__" ++ (name ++ codes " (")

pub opening_read : (text name : List ℕ) → opening text ≡ Some name → OpeningRead text name
opening_read text name e =
    then_read (after (codes "module anvil__") text) _ name e (λ begun is_begun e.
    then_read (closed (codes " (") (front_run is_name_byte begun) (after_run is_name_byte begun)) _ name e (λ front is_end e.
    let ended = closes (codes " (") (front_run is_name_byte begun) front (after_run is_name_byte begun) is_end in
    let passed = passes (is_name front) front name e in
    record {
      good = rw (← passed.same) passed.holds;
      written = rw (← passed.same, ← ended.same, ← ended.ends, ← run_joined is_name_byte begun) (after_read (codes "module anvil__") text begun is_begun);
    }))

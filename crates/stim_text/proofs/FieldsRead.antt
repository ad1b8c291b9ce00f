-- The fields of a line: what is read is a row whose text is the line, and the text of each row that fits is read back.
use Rattle.std.proofs.Common.{◌≡◌, ℕ, ◌+◌, ◌<◌, ◌≤◌, ◌^◌, Bool, true, false, ◌&&◌, List, [], ◌∷◌, ◌++◌, map, Option, Some, None, refl, ap, sym, subst, ◌∙◌, arith, append_assoc, append-nil, IsTrue}
use Rattle.std.proofs.Math.Nat.{pow-le-pow_right}
use Rattle.std.proofs.lemmas.Bool.Decides.{nat_tests}
use Rattle.std.specs.Prelude.{◌==◌, nat_lt, nat_le, not, codes, decimal}
use Rattle.std.specs.List.{list_all}
use Rattle.anvil_bits.specs.Number.{Number}
use Rattle.core_term.specs.declared.rows.InCell.{InCell}
use Rattle.core_term.specs.declared.rows.InCell.TheVariants as incoming
use Rattle.core_term.specs.LogText.{bit_text, spaced}
use Rattle.core_term.specs.Process.{Port}
use Rattle.core_term.specs.Rows.{number_of, cell_fits, cells_fit}
use Rattle.core_term.specs.Sized.{is_width, port_fits}
use Rattle.core_term.specs.StimulusText.{field_text, row_text, IsRowText}
use Rattle.stim_text.specs.Answers.{IsRow}
use Rattle.stim_text.specs.Pieces.{◌>>=◌, after_byte, bit_at, number_at}
use Rattle.stim_text.specs.Fields.{received_by, received_at, sent_at, field_at, gap_at, next_field, closed, fields_from, row_of}
use Rattle.stim_text.proofs.Decided.{some_same, then_read, passes, both, and_both, number_same, same_number}
use Rattle.stim_text.proofs.PiecesRead.{after_byte_read, bit_read, bit_back, number_read, number_back, StopsFirst}

-- One field.

pub record FieldRead (port : Port) (text : List ℕ) (cell : InCell) (rest : List ℕ) : Type 0 where
  pub fits : cell_fits port cell ≡ true
  pub written : text ≡ field_text cell ++ rest

received_read : (port : Port) (text : List ℕ) (found : InCell × List ℕ) → port.received ≡ true → received_at port.width text ≡ Some found → FieldRead port text found.0 found.1
received_read port text found side is =
    then_read (bit_at text) _ found is (λ bit is_bit is.
    then_read (after_byte 58 bit.1) _ found is (λ rest is_rest is.
    then_read (number_at rest) _ found is (λ number is_number is.
    let passed = passes (nat_lt number.0 (2 ^ port.width)) (incoming.Received bit.0 (number_of port.width number.0), number.1) found is in
    let first = bit_read text bit.0 bit.1 is_bit in
    let second = after_byte_read 58 bit.1 rest is_rest in
    let third = (number_read rest number is_number).written in
    let cell : incoming.Received bit.0 (number_of port.width number.0) ≡ found.0 = ap (λ (f : InCell × List ℕ). f.0) passed.same in
    let left : number.1 ≡ found.1 = ap (λ (f : InCell × List ℕ). f.1) passed.same in
    let joined : text ≡ (bit_text bit.0 ++ (codes ":" ++ decimal number.0)) ++ number.1 =
    first ∙ (ap (λ t. bit_text bit.0 ++ t) (second ∙ ap (λ t. 58 ∷ t) third) ∙ sym (append_assoc (bit_text bit.0) (codes ":" ++ decimal number.0) number.1)) in
    record {
      fits = subst (λ c. cell_fits port c ≡ true) cell (and_both port.received _ side (and_both (port.width == port.width) _ (same_number port.width) passed.holds));
      written = joined ∙ (ap (λ c. field_text c ++ number.1) cell ∙ ap (λ t. field_text found.0 ++ t) left);
    })))

sent_read : (port : Port) (text : List ℕ) (found : InCell × List ℕ) → port.received ≡ false → sent_at text ≡ Some found → FieldRead port text found.0 found.1
sent_read port text found side is =
    then_read (bit_at text) _ found is (λ bit is_bit is.
    let read : InCell × List ℕ = (incoming.Sent bit.0, bit.1) in
    let pair : read ≡ found = some_same is in
    let cell : incoming.Sent bit.0 ≡ found.0 = ap (λ (f : InCell × List ℕ). f.0) pair in
    let left : bit.1 ≡ found.1 = ap (λ (f : InCell × List ℕ). f.1) pair in
    let sent : not port.received ≡ true = ap not side in
    record {
      fits = subst (λ c. cell_fits port c ≡ true) cell sent;
      written = bit_read text bit.0 bit.1 is_bit ∙ (ap (λ c. field_text c ++ bit.1) cell ∙ ap (λ t. field_text found.0 ++ t) left);
    })

pub field_read : (port : Port) (text : List ℕ) (found : InCell × List ℕ) → field_at port.received port.width text ≡ Some found → FieldRead port text found.0 found.1
field_read port text found is = by_case port.received refl is
  where
    by_case : (b : Bool) → port.received ≡ b → field_at b port.width text ≡ Some found → FieldRead port text found.0 found.1
    by_case true side is = received_read port text found side is
    by_case false side is = sent_read port text found side is

pub below_power : (width number : ℕ) → width ≤ 64 → number < 2 ^ width → number < 2 ^ 64
below_power width number few below = let larger : 2 ^ width ≤ 2 ^ 64 = pow-le-pow_right (omega arith) few in omega arith

pub field_back : (port : Port) (cell : InCell) (rest : List ℕ) → is_width port.width ≡ true → cell_fits port cell ≡ true → StopsFirst rest → field_at port.received port.width (field_text cell ++ rest) ≡ Some (cell, rest)
field_back port (incoming.Sent ack) rest width fits stops = by_case port.received fits
  where
    by_case : (b : Bool) → not b ≡ true → field_at b port.width (bit_text ack ++ rest) ≡ Some (incoming.Sent ack, rest)
    by_case true is = absurd cc
    by_case false is = rw (bit_back ack rest) refl
field_back port (incoming.Received valid v) rest width fits stops =
    let side = both port.received ((v.width == port.width) && nat_lt v.value (2 ^ port.width)) fits in
    let number = both (v.width == port.width) (nat_lt v.value (2 ^ port.width)) side.other_holds in
    let same : v.width ≡ port.width = number_same v.width port.width number.one_holds in
    let high = (both (nat_le 1 port.width) (nat_le port.width 64) width).other_holds in
    let few : port.width ≤ 64 = grind (arith, nat_tests) in
    let in_range = number.other_holds in
    let below : v.value < 2 ^ port.width = grind (arith, nat_tests) in
    let joined : (bit_text valid ++ (codes ":" ++ decimal v.value)) ++ rest ≡ bit_text valid ++ (58 ∷ (decimal v.value ++ rest)) = append_assoc (bit_text valid) (codes ":" ++ decimal v.value) rest in
    let whole : number_of port.width v.value ≡ v = rw (← same) refl in
    rw (side.one_holds, joined, bit_back valid (58 ∷ (decimal v.value ++ rest)), number_back v.value rest (below_power port.width v.value few below) stops, in_range)
    (ap (λ n. let found : Option (InCell × List ℕ) = Some (incoming.Received valid n, rest) in found) whole)

-- A line.

-- the text of cells, where a space stands before each but the first of the line
abbrev text_from : (first : Bool) → List InCell → List ℕ
text_from first [] = []
text_from true (cell ∷ cells) = field_text cell ++ text_from false cells
text_from false (cell ∷ cells) = codes " " ++ (field_text cell ++ text_from false cells)

text_is : (cells : List InCell) → text_from true cells ≡ row_text cells
text_is [] = refl
text_is (cell ∷ []) = append-nil (field_text cell)
text_is (cell ∷ next ∷ cells) = ap (λ t. field_text cell ++ (codes " " ++ t)) (text_is (next ∷ cells))

gap_read : (first : Bool) (text rest : List ℕ) (cell : InCell) (cells : List InCell) → gap_at first text ≡ Some rest → rest ≡ field_text cell ++ text_from false cells → text ≡ text_from first (cell ∷ cells)
gap_read true text rest cell cells is after = let same : text ≡ rest = cc in same ∙ after
gap_read false text rest cell cells is after = after_byte_read 32 text rest is ∙ ap (λ t. 32 ∷ t) after

pub record RowRead (ports : List Port) (first : Bool) (before : List InCell) (text : List ℕ) (all : List InCell) : Type 0 where
  pub cells : List InCell
  pub are : all ≡ before ++ cells
  pub fits : cells_fit ports cells ≡ true
  pub written : text ≡ text_from first cells

fields_read : (ports : List Port) (first : Bool) (before : List InCell) (text : List ℕ) (all : List InCell) → fields_from ports first before text ≡ Some all → RowRead ports first before text all
fields_read [] first before [] all is = record { cells = []; are = (let same : before ≡ all = cc in sym same ∙ sym (append-nil before)); fits = refl; written = refl }
fields_read [] first before (byte ∷ text) all is = absurd cc
fields_read (port ∷ ports) first before text all is =
    then_read (next_field port first text) _ all is (λ found is_found is.
    then_read (gap_at first text) _ found is_found (λ rest is_rest is_field.
    let field = field_read port rest found is_field in
    let later = fields_read ports false (before ++ found.0 ∷ []) found.1 all is in
    record {
      cells = found.0 ∷ later.cells;
      are = later.are ∙ append_assoc before (found.0 ∷ []) later.cells;
      fits = and_both (cell_fits port found.0) _ field.fits later.fits;
      written = gap_read first text rest found.0 later.cells is_rest (field.written ∙ ap (λ t. field_text found.0 ++ t) later.written);
    }))

pub row_read : (ports : List Port) (line : List ℕ) (cells : List InCell) → row_of ports line ≡ Some cells → IsRowText ports cells line
row_read ports line cells is =
    let read = fields_read ports true [] line cells is in
    record { fits = subst (λ c. cells_fit ports c ≡ true) (sym read.are) read.fits; is = read.written ∙ (text_is read.cells ∙ ap row_text (sym read.are)) }

stops : (cells : List InCell) → StopsFirst (text_from false cells)
stops [] = tt
stops (cell ∷ cells) = refl

gap_back : (first : Bool) (cell : InCell) (cells : List InCell) → gap_at first (text_from first (cell ∷ cells)) ≡ Some (field_text cell ++ text_from false cells)
gap_back true cell cells = refl
gap_back false cell cells = refl

fields_back : (ports : List Port) (first : Bool) (before cells : List InCell) → list_all port_fits ports ≡ true → cells_fit ports cells ≡ true → fields_from ports first before (text_from first cells) ≡ Some (before ++ cells)
fields_back [] first before [] widths fits = ap Some (sym (append-nil before))
fields_back [] first before (cell ∷ cells) widths fits = absurd cc
fields_back (port ∷ ports) first before [] widths fits = absurd cc
fields_back (port ∷ ports) first before (cell ∷ cells) widths fits =
    let ports_both = both (port_fits port) (list_all port_fits ports) widths in
    let cells_both = both (cell_fits port cell) (cells_fit ports cells) fits in
    let width = (both (is_width port.width) _ ports_both.one_holds).one_holds in
    let field = field_back port cell (text_from false cells) width cells_both.one_holds (stops cells) in
    let found : next_field port first (text_from first (cell ∷ cells)) ≡ Some (cell, text_from false cells) =
    ap (λ (o : Option (List ℕ)). o >>= (λ rest. field_at port.received port.width rest)) (gap_back first cell cells) ∙ field in
    ap (λ (o : Option (InCell × List ℕ)). o >>= (λ f. fields_from ports false (before ++ f.0 ∷ []) f.1)) found
    ∙ (fields_back ports false (before ++ cell ∷ []) cells ports_both.other_holds cells_both.other_holds ∙ ap Some (append_assoc before (cell ∷ []) cells))

pub row_back : (ports : List Port) (line : List ℕ) (cells : List InCell) → list_all port_fits ports ≡ true → IsRowText ports cells line → row_of ports line ≡ Some cells
row_back ports line cells widths is = ap (row_of ports) (is.is ∙ sym (text_is cells)) ∙ fields_back ports true [] cells widths is.fits

pub no_row : (ports : List Port) (line : List ℕ) → list_all port_fits ports ≡ true → row_of ports line ≡ None → IsRow ports line → ⊥
no_row ports line widths none is =
    let back = row_back ports line is.0 widths is.1 in
    let never : Some is.0 ≡ None = sym back ∙ none in
    cc

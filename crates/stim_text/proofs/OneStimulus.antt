-- A text gets one answer. The text of a row has no line feed and no carriage return, so the lines of a stimulus are the texts of its
-- rows; and the text of a row is read back, so two lists of rows of one text are one list.
use Rattle.std.proofs.Common.{◌≡◌, ℕ, ◌+◌, ◌<◌, ◌≤◌, ◌^◌, Bool, true, false, cond, ◌&&◌, List, [], ◌∷◌, ◌++◌, length, map, zero, suc, Option, Some, None, refl, ap, sym, subst, ◌∙◌, arith, append_assoc, nat_lt, nat_le, not}
use Rattle.std.proofs.lemmas.Bool.Decides.{nat_tests}
use Rattle.std.proofs.lemmas.Grind.{common_steps}
use Rattle.std.specs.Prelude.{codes, decimal, ◌==◌, IsTrue}
use Rattle.std.specs.List.{list_all}
use Rattle.std.specs.Char.{is_ascii_digit}
use Rattle.core_term.specs.declared.rows.InCell.{InCell}
use Rattle.core_term.specs.declared.rows.InCell.TheVariants as incoming
use Rattle.core_term.specs.declared.rows.Row.{Row}
use Rattle.core_term.specs.Process.{Port}
use Rattle.core_term.specs.Rows.{cell_fits, cells_fit}
use Rattle.core_term.specs.Sized.{is_width, port_fits}
use Rattle.core_term.specs.LogText.{bit_text, spaced}
use Rattle.core_term.specs.StimulusText.{field_text, row_text, IsRowText, IsStimulus, no_more, last_piece, by_feed, by_return_and_feed}
use Rattle.stim_text.specs.Lines.{lines_of, nth_line}
use Rattle.stim_text.specs.Cut.{is_no_feed, Quiet, without_return}
use Rattle.stim_text.specs.Fields.{row_of}
use Rattle.stim_text.specs.Answers.{IsRow, cells_of, AreRowsOf, IsFirstBadLine, HasTooManyRows}
use Rattle.stim_text.specs.OneStimulus.{HasOneAnswer, StimuliHaveOneAnswer}
use Rattle.stim_text.proofs.Decided.{both, number_same}
use Rattle.stim_text.proofs.PiecesRead.{AllPass, decimal_passes}
use Rattle.stim_text.proofs.FieldsRead.{below_power, row_back}
use Rattle.stim_text.proofs.LinesCut.{lines_by_feed, lines_of_piece}

-- The text of a row: each of its bytes is above those that end lines.

abbrev Printed : List ℕ → Type 0
Printed [] = Unit {0}
Printed (byte ∷ rest) = (13 < byte) × Printed rest

printed_both : (one other : List ℕ) → Printed one → Printed other → Printed (one ++ other)
printed_both [] other first second = second
printed_both (byte ∷ one) other first second = (first.0, printed_both one other first.1 second)

digits_printed : (digits : List ℕ) → AllPass digits → Printed digits
digits_printed [] pass = tt
digits_printed (digit ∷ digits) pass = (let is_digit = pass.0 in let above : 13 < digit = grind (arith, common_steps, nat_tests) in above, digits_printed digits pass.1)

bit_printed : (bit : Bool) → Printed (bit_text bit)
bit_printed true = (omega arith, tt)
bit_printed false = (omega arith, tt)

field_printed : (port : Port) (cell : InCell) → is_width port.width ≡ true → cell_fits port cell ≡ true → Printed (field_text cell)
field_printed port (incoming.Sent ack) width fits = bit_printed ack
field_printed port (incoming.Received valid v) width fits =
    let side = both port.received ((v.width == port.width) && nat_lt v.value (2 ^ port.width)) fits in
    let number = both (v.width == port.width) (nat_lt v.value (2 ^ port.width)) side.other_holds in
    let high = (both (nat_le 1 port.width) (nat_le port.width 64) width).other_holds in
    let few : port.width ≤ 64 = grind (arith, nat_tests) in
    let in_range = number.other_holds in
    let below : v.value < 2 ^ port.width = grind (arith, nat_tests) in
    printed_both (bit_text valid) (codes ":" ++ decimal v.value) (bit_printed valid)
    (omega arith, digits_printed (decimal v.value) (decimal_passes v.value (below_power port.width v.value few below)))

row_printed : (ports : List Port) (cells : List InCell) → list_all port_fits ports ≡ true → cells_fit ports cells ≡ true → Printed (row_text cells)
row_printed [] [] widths fits = tt
row_printed [] (cell ∷ cells) widths fits = absurd cc
row_printed (port ∷ ports) [] widths fits = absurd cc
row_printed (port ∷ ports) (cell ∷ cells) widths fits =
    let ports_both = both (port_fits port) (list_all port_fits ports) widths in
    let cells_both = both (cell_fits port cell) (cells_fit ports cells) fits in
    let width = (both (is_width port.width) _ ports_both.one_holds).one_holds in
    joined cells (field_printed port cell width cells_both.one_holds) (row_printed ports cells ports_both.other_holds cells_both.other_holds)
  where
    joined : (cells : List InCell) → Printed (field_text cell) → Printed (row_text cells) → Printed (row_text (cell ∷ cells))
    joined [] here none = here
    joined (next ∷ cells) here rest = printed_both (field_text cell) (codes " " ++ row_text (next ∷ cells)) here (omega arith, rest)

-- Lines without bytes that end them.

byte_quiet : (byte : ℕ) → 13 < byte → is_no_feed byte ≡ true
byte_quiet byte above = by_case (byte == 10) refl
  where
    by_case : (b : Bool) → (byte == 10) ≡ b → not b ≡ true
    by_case true test = let same = number_same byte 10 test in absurd (omega arith)
    by_case false test = refl

printed_quiet : (line : List ℕ) → Printed line → Quiet line
printed_quiet [] printed = tt
printed_quiet (byte ∷ line) printed = (byte_quiet byte printed.0, printed_quiet line printed.1)

no_return : (byte : ℕ) → 13 < byte → (byte == 13) ≡ false
no_return byte above = by_case (byte == 13) refl
  where
    by_case : (b : Bool) → (byte == 13) ≡ b → b ≡ false
    by_case true test = let same = number_same byte 13 test in absurd (omega arith)
    by_case false test = refl

kept_whole : (line : List ℕ) → Printed line → without_return line ≡ line
kept_whole [] printed = refl
kept_whole (byte ∷ []) printed = rw (no_return byte printed.0) refl
kept_whole (byte ∷ next ∷ line) printed = ap (λ rest. byte ∷ rest) (kept_whole (next ∷ line) printed.1)

return_cut : (line : List ℕ) → without_return (line ++ 13 ∷ []) ≡ line
return_cut [] = refl
return_cut (byte ∷ []) = refl
return_cut (byte ∷ next ∷ line) = ap (λ rest. byte ∷ rest) (return_cut (next ∷ line))

return_quiet : (line : List ℕ) → Quiet line → Quiet (line ++ 13 ∷ [])
return_quiet [] quiet = (refl, tt)
return_quiet (byte ∷ line) quiet = (quiet.0, return_quiet line quiet.1)

last_line : (line : List ℕ) → Quiet line → (line ≡ [] → ⊥) → lines_of line ≡ line ∷ []
last_line [] quiet some = absurd (some refl)
last_line (byte ∷ line) quiet some = lines_of_piece byte line quiet

-- The lines of a stimulus.

module _ (ports : List Port) (widths : list_all port_fits ports ≡ true) where
  text_printed : (cells : List InCell) (line : List ℕ) → IsRowText ports cells line → Printed line
  text_printed cells line is = subst Printed (sym is.is) (row_printed ports cells widths is.fits)

  lines_are : (rows : List (List InCell)) (text : List ℕ) → IsStimulus ports rows text → lines_of text ≡ map row_text rows
  lines_are rows text no_more = refl
  lines_are rows text (last_piece {cells = cells} {line = line} is some) =
      last_line line (printed_quiet line (text_printed cells line is)) some ∙ ap (λ line. line ∷ []) is.is
  lines_are rows text (by_feed {cells = cells} {rows = later} {line = line} {rest = rest} is stimulus) =
      let printed = text_printed cells line is in
      lines_by_feed line rest (printed_quiet line printed) ∙ (ap (λ line. line ∷ lines_of rest) (kept_whole line printed ∙ is.is) ∙ ap (λ lines. row_text cells ∷ lines) (lines_are later rest stimulus))
  lines_are rows text (by_return_and_feed {cells = cells} {rows = later} {line = line} {rest = rest} is stimulus) =
      let printed = text_printed cells line is in
      ap lines_of (sym (append_assoc line (13 ∷ []) (10 ∷ rest)))
      ∙ (lines_by_feed (line ++ 13 ∷ []) rest (return_quiet line (printed_quiet line printed))
      ∙ (ap (λ line. line ∷ lines_of rest) (return_cut line ∙ is.is) ∙ ap (λ lines. row_text cells ∷ lines) (lines_are later rest stimulus)))

  -- Each row fits, so its text is read back.

  abbrev AllFit : List (List InCell) → Type 0
  AllFit [] = Unit {0}
  AllFit (cells ∷ rows) = (cells_fit ports cells ≡ true) × AllFit rows

  all_fit : (rows : List (List InCell)) (text : List ℕ) → IsStimulus ports rows text → AllFit rows
  all_fit rows text no_more = tt
  all_fit rows text (last_piece is some) = (is.fits, tt)
  all_fit rows text (by_feed {rows = later} {rest = rest} is stimulus) = (is.fits, all_fit later rest stimulus)
  all_fit rows text (by_return_and_feed {rows = later} {rest = rest} is stimulus) = (is.fits, all_fit later rest stimulus)

  cells_back : (cells : List InCell) → cells_fit ports cells ≡ true → row_of ports (row_text cells) ≡ Some cells
  cells_back cells fits = row_back ports (row_text cells) cells widths (record { fits = fits; is = refl })

  same_rows : (rows others : List (List InCell)) → AllFit rows → AllFit others → map row_text rows ≡ map row_text others → rows ≡ others
  same_rows [] [] fit fit_too same = refl
  same_rows [] (cells ∷ others) fit fit_too same = absurd cc
  same_rows (cells ∷ rows) [] fit fit_too same = absurd cc
  same_rows (cells ∷ rows) (cells' ∷ others) fit fit_too same =
      let first : row_text cells ≡ row_text cells' = cc in
      let later : map row_text rows ≡ map row_text others = cc in
      let both_read : Some cells ≡ Some cells' = sym (cells_back cells fit.0) ∙ (ap (row_of ports) first ∙ cells_back cells' fit_too.0) in
      let here : cells ≡ cells' = cc in
      rw (here, same_rows rows others fit.1 fit_too.1 later) refl

  nth_row : (rows : List (List InCell)) (n : ℕ) (line : List ℕ) → AllFit rows → nth_line (map row_text rows) n ≡ Some line → IsRow ports line
  nth_row [] n line fit is = absurd cc
  nth_row (cells ∷ rows) zero line fit is = let same : row_text cells ≡ line = cc in (cells, record { fits = fit.0; is = sym same })
  nth_row (cells ∷ rows) (suc n) line fit is = nth_row rows n line fit.1 is

  count_is : {A B : Type 0} (f : A → B) (xs : List A) → length (map f xs) ≡ length xs
  count_is f [] = refl
  count_is f (x ∷ xs) = let rest = count_is f xs in omega arith

  module _ (text : List ℕ) where
    has_one_answer : HasOneAnswer ports text
    has_one_answer = record {
      one_list = λ rows others read again.
          same_rows (map cells_of rows) (map cells_of others) (all_fit (map cells_of rows) text read.stimulus) (all_fit (map cells_of others) text again.stimulus)
          (sym (lines_are (map cells_of rows) text read.stimulus) ∙ lines_are (map cells_of others) text again.stimulus);
      one_bad_line = λ n m bad other. one_bad n m bad other (nat_lt n m) refl (nat_lt m n) refl;
      rows_or_bad = λ rows n read bad.
          bad.no_row (nth_row (map cells_of rows) n bad.line (all_fit (map cells_of rows) text read.stimulus)
          (ap (λ lines. nth_line lines n) (sym (lines_are (map cells_of rows) text read.stimulus)) ∙ bad.is));
      rows_or_many = λ rows read many.
          let lines = ap (λ lines. length lines) (lines_are (map cells_of rows) text read.stimulus) in
          let texts = count_is row_text (map cells_of rows) in
          let cells = count_is cells_of rows in
          let few = read.few in
          let more = many.more in
          absurd (omega arith);
      bad_or_many = λ n bad many. bad.no_row (many.rows n bad.line bad.looked_at bad.is);
    }
      where
        one_bad : (n m : ℕ) → IsFirstBadLine ports text n → IsFirstBadLine ports text m → (b : Bool) → nat_lt n m ≡ b → (c : Bool) → nat_lt m n ≡ c → n ≡ m
        one_bad n m bad other true test c there = let less : n < m = grind (arith, nat_tests) in absurd (bad.no_row (other.before n bad.line less bad.is))
        one_bad n m bad other false test true there = let less : m < n = grind (arith, nat_tests) in absurd (other.no_row (bad.before m other.line less other.is))
        one_bad n m bad other false test false there = grind (arith, nat_tests)

pub stimuli_have_one_answer : StimuliHaveOneAnswer
stimuli_have_one_answer ports widths text = has_one_answer ports widths text

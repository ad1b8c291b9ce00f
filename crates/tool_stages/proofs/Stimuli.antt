-- The rows of a stimulus, or why there are none.
--
-- The claim: a text that has rows is not refused, and has one refusal at most; what is simulated on its rows is one. The argument is
-- the law on stimuli: its answers exclude each other, and its rows are one.
use Rattle.std.proofs.Common.{◌≡◌, ◌∙◌, ℕ, zero, suc, ◌+◌, ◌-◌, ◌<◌, true, List, [], ◌∷◌, length, get_or, map, refl, ap, sym, subst, arith}
use Rattle.std.specs.Prelude.{IsTrue}
use Rattle.std.specs.List.{list_all}
use Rattle.std.proofs.Math.ListN.{length-map}
use Rattle.core_term.specs.declared.rows.InCell.{InCell}
use Rattle.core_term.specs.declared.rows.Row.{Row}
use Rattle.core_term.specs.Inputs.{Inputs}
use Rattle.core_term.specs.Process.{Port}
use Rattle.core_term.specs.Rows.{cells_fit, row_fits, nth_cell, nth_row, valid_in, data_in, ack_in, inputs_of}
use Rattle.core_term.specs.Sized.{port_fits}
use Rattle.core_term.specs.StimulusText.{IsStimulus, last_piece, by_feed, by_return_and_feed}
use Rattle.stim_text.specs.Answers.{cells_of, AreRowsOf, IsFirstBadLine}
use Rattle.stim_text.specs.OneStimulus.{HasOneAnswer}
use Rattle.stim_text.proofs.OneStimulus.{stimuli_have_one_answer}
use Rattle.tool_answers.specs.declared.refusal.Code.TheVariants as code
use Rattle.tool_answers.specs.declared.refusal.Refusal.{Refusal}
use Rattle.tool_answers.specs.declared.refusal.Refusal.TheVariants.{Lined}
use Rattle.tool_stages.specs.Logs.{IsStimulusRefused, bad_line, too_many}

-- Rows fit the ports.

all_fit : (ports : List Port) (rows : List Row) (all : List (List InCell)) (text : List ℕ) → IsStimulus ports all text → map cells_of rows ≡ all
    → (index : ℕ) (default : Row) → index < length rows → row_fits ports (get_or rows index default) ≡ true
all_fit ports [] all text is same index default inside = absurd (omega arith)
all_fit ports (row ∷ rows) [] text is same index default inside = absurd cc
all_fit ports (row ∷ rows) (cells ∷ all) text (last_piece one some) same zero default inside = let is_cells : row.cells.items ≡ cells = cc in subst (λ c. cells_fit ports c ≡ true) (sym is_cells) one.fits
all_fit ports (row ∷ rows) (cells ∷ all) text (by_feed one others) same zero default inside = let is_cells : row.cells.items ≡ cells = cc in subst (λ c. cells_fit ports c ≡ true) (sym is_cells) one.fits
all_fit ports (row ∷ rows) (cells ∷ all) text (by_return_and_feed one others) same zero default inside = let is_cells : row.cells.items ≡ cells = cc in subst (λ c. cells_fit ports c ≡ true) (sym is_cells) one.fits
all_fit ports (row ∷ []) (cells ∷ all) text (last_piece one some) same (suc index) default inside = absurd (omega arith)
all_fit ports (row ∷ next ∷ rows) (cells ∷ all) text (last_piece one some) same (suc index) default inside = absurd cc
all_fit ports (row ∷ rows) (cells ∷ all) text (by_feed one others) same (suc index) default inside = let later : map cells_of rows ≡ all = cc in all_fit ports rows all _ others later index default (omega arith)
all_fit ports (row ∷ rows) (cells ∷ all) text (by_return_and_feed one others) same (suc index) default inside = let later : map cells_of rows ≡ all = cc in all_fit ports rows all _ others later index default (omega arith)

pub rows_fit : (ports : List Port) (text : List ℕ) (rows : List Row) → AreRowsOf ports text rows → (index : ℕ) (default : Row) → index < length rows → IsTrue (row_fits ports (get_or rows index default))
rows_fit ports text rows are = all_fit ports rows (map cells_of rows) text are.stimulus refl

-- One answer.

module _ (ports : List Port) (text : List ℕ) (widths : IsTrue (list_all port_fits ports)) where
  answer : HasOneAnswer ports text
  answer = stimuli_have_one_answer ports widths text

  pub rows_or_refused : (rows : List Row) (refusal : Refusal) → AreRowsOf ports text rows → IsStimulusRefused ports text refusal → ⊥
  rows_or_refused rows refusal are (bad_line n first) = answer.rows_or_bad rows n are first
  rows_or_refused rows refusal are (too_many many) = answer.rows_or_many rows are many

  pub stimulus_refused_once : (one other : Refusal) → IsStimulusRefused ports text one → IsStimulusRefused ports text other → one ≡ other
  stimulus_refused_once one other (bad_line n first) (bad_line m second) = ap (λ k. Lined code.BadStim (k + 1)) (answer.one_bad_line n m first second)
  stimulus_refused_once one other (bad_line n first) (too_many many) = absurd (answer.bad_or_many n first many)
  stimulus_refused_once one other (too_many many) (bad_line m second) = absurd (answer.bad_or_many m second many)
  stimulus_refused_once one other (too_many many) (too_many many_too) = refl

  pub rows_once : (rows others : List Row) → AreRowsOf ports text rows → AreRowsOf ports text others → map cells_of rows ≡ map cells_of others
  rows_once = answer.one_list

-- what the reader tells of a bad line
pub told_line : (ports : List Port) (text : List ℕ) (line : ℕ) → (0 < line) × IsFirstBadLine ports text (line - 1) → IsStimulusRefused ports text (Lined code.BadStim line)
told_line ports text line (some, first) =
    let same : (line - 1) + 1 ≡ line = omega (arith, some) in
    subst (λ k. IsStimulusRefused ports text (Lined code.BadStim k)) same (bad_line (line - 1) first)

-- The inputs of rows are those of their cells.

cells_nth : List (List InCell) → ℕ → List InCell
cells_nth [] t = []
cells_nth (cells ∷ all) zero = cells
cells_nth (cells ∷ all) (suc t) = cells_nth all t

row_is : (rows : List Row) (t : ℕ) → nth_row rows t ≡ cells_nth (map cells_of rows) t
unfolding cells_nth
row_is [] t = refl
row_is (row ∷ rows) zero = refl
row_is (row ∷ rows) (suc t) = row_is rows t

inputs_by : List (List InCell) → Inputs
inputs_by all = record {
  count = length all;
  valid = λ m t. valid_in (nth_cell (cells_nth all t) m);
  data_at = λ m t. data_in (nth_cell (cells_nth all t) m);
  ack = λ m t. ack_in (nth_cell (cells_nth all t) m);
}

inputs_are : (rows : List Row) → inputs_of rows ≡ inputs_by (map cells_of rows)
unfolding inputs_by
inputs_are rows = λ i. record {
  count = sym (length-map rows cells_of) i;
  valid = λ m t. valid_in (nth_cell (row_is rows t i) m);
  data_at = λ m t. data_in (nth_cell (row_is rows t i) m);
  ack = λ m t. ack_in (nth_cell (row_is rows t i) m);
}

pub same_inputs : (rows others : List Row) → map cells_of rows ≡ map cells_of others → inputs_of rows ≡ inputs_of others
same_inputs rows others same = inputs_are rows ∙ (ap inputs_by same ∙ sym (inputs_are others))

-- The answers that a stimulus may get: its rows, the first line that is no row, or that it has too many.
use Rattle.std.specs.Prelude.{ℕ, ◌≡◌, ◌<◌, ◌≤◌, List, length, map, Some}
use Rattle.core_term.specs.declared.rows.InCell.{InCell}
use Rattle.core_term.specs.declared.rows.Row.{Row}
use Rattle.core_term.specs.Process.{Port}
use Rattle.core_term.specs.StimulusText.{IsRowText, IsStimulus}
use Rattle.stim_text.specs.Lines.{lines_of, nth_line}

-- as many lines are looked at
abbrev pub most_rows : ℕ
most_rows = 10000

abbrev pub IsRow : List Port → List ℕ → Type 0
IsRow ports line = (cells : List InCell) × IsRowText ports cells line

abbrev pub cells_of : Row → List InCell
cells_of row = row.cells.items

-- the rows are those of the text
pub record AreRowsOf (ports : List Port) (text : List ℕ) (rows : List Row) : Type 0 where
  pub stimulus : IsStimulus ports (map cells_of rows) text
  pub few : length rows ≤ most_rows

-- the line of the number n + 1 is the first that is no row, and one of those that are looked at
pub record IsFirstBadLine (ports : List Port) (text : List ℕ) (n : ℕ) : Type 0 where
  pub looked_at : n < most_rows
  pub line : List ℕ
  pub is : nth_line (lines_of text) n ≡ Some line
  pub no_row : IsRow ports line → ⊥
  pub before : (k : ℕ) (other : List ℕ) → k < n → nth_line (lines_of text) k ≡ Some other → IsRow ports other

-- the lines that are looked at are rows, and there is another
pub record HasTooManyRows (ports : List Port) (text : List ℕ) : Type 0 where
  pub more : most_rows < length (lines_of text)
  pub rows : (k : ℕ) (line : List ℕ) → k < most_rows → nth_line (lines_of text) k ≡ Some line → IsRow ports line

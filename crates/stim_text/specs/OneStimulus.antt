-- A text gets one answer: as rows it is read in one way, and its rows, a first line that is no row, and too many rows
-- exclude each other.
use Rattle.std.specs.Prelude.{ℕ, ◌≡◌, List, map, IsTrue}
use Rattle.std.specs.List.{list_all}
use Rattle.core_term.specs.declared.rows.Row.{Row}
use Rattle.core_term.specs.Process.{Port}
use Rattle.core_term.specs.Sized.{port_fits}
use Rattle.stim_text.specs.Answers.{cells_of, AreRowsOf, IsFirstBadLine, HasTooManyRows}

pub record HasOneAnswer (ports : List Port) (text : List ℕ) : Type 0 where
  pub one_list : (rows others : List Row) → AreRowsOf ports text rows → AreRowsOf ports text others
      → map cells_of rows ≡ map cells_of others
  pub one_bad_line : (n m : ℕ) → IsFirstBadLine ports text n → IsFirstBadLine ports text m → n ≡ m
  pub rows_or_bad : (rows : List Row) (n : ℕ) → AreRowsOf ports text rows → IsFirstBadLine ports text n → ⊥
  pub rows_or_many : (rows : List Row) → AreRowsOf ports text rows → HasTooManyRows ports text → ⊥
  pub bad_or_many : (n : ℕ) → IsFirstBadLine ports text n → HasTooManyRows ports text → ⊥

-- of the ports of a sized process
abbrev pub StimuliHaveOneAnswer : Type 0
StimuliHaveOneAnswer =
    (ports : List Port) → IsTrue (list_all port_fits ports) → (text : List ℕ) → HasOneAnswer ports text

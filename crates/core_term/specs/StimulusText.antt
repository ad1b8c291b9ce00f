-- The text of a stimulus: one line for each cycle.
--
-- A line ends with a line feed, before which one carriage return may stand; a last piece that is not empty is a line
-- without one. A line has one field for each port, in port order, with one space between: `V:D` for a received port and
-- `A` for a sent one. V and A are 0 or 1, and D is decimal without leading zeros and below 2 to the power of the port's
-- width.
use Rattle.std.specs.Prelude.{ℕ, ◌≡◌, List, [], ◌∷◌, ◌++◌, map, IsTrue, codes, decimal}
use Rattle.core_term.specs.declared.rows.InCell.{InCell}
use Rattle.core_term.specs.declared.rows.InCell.TheVariants.{Received, Sent}
use Rattle.core_term.specs.Process.{Port}
use Rattle.core_term.specs.Rows.{cells_fit}
use Rattle.core_term.specs.LogText.{bit_text, spaced}

abbrev pub field_text : InCell → List ℕ
field_text (Received valid v) = bit_text valid ++ (codes ":" ++ decimal v.value)
field_text (Sent ack) = bit_text ack

abbrev pub row_text : List InCell → List ℕ
row_text cells = spaced (map field_text cells)

-- a line of the text, without its end, is a row that fits the ports
pub record IsRowText (ports : List Port) (cells : List InCell) (line : List ℕ) : Type 0 where
  pub fits : IsTrue (cells_fit ports cells)
  pub is : line ≡ row_text cells

-- the rows and the text match
pub data IsStimulus (ports : List Port) : List (List InCell) → List ℕ → Type 0 where
  no_more : IsStimulus ports [] []
  last_piece : {cells : List InCell} {line : List ℕ} → IsRowText ports cells line → (line ≡ [] → ⊥)
      → IsStimulus ports (cells ∷ []) line
  by_feed : {cells : List InCell} {rows : List (List InCell)} {line rest : List ℕ} → IsRowText ports cells line
      → IsStimulus ports rows rest → IsStimulus ports (cells ∷ rows) (line ++ (codes "\n" ++ rest))
  by_return_and_feed : {cells : List InCell} {rows : List (List InCell)} {line rest : List ℕ}
      → IsRowText ports cells line → IsStimulus ports rows rest
      → IsStimulus ports (cells ∷ rows) (line ++ (codes "\r\n" ++ rest))

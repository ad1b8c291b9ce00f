-- When a text is not that of modules one after the other, and where: the place of the first line that cannot stand
-- after the lines before it. 10 is the line feed.
use Rattle.std.specs.Prelude.{◌≡◌, ◌≢◌, ℕ, List, [], ◌∷◌, ◌++◌, length}
use Rattle.sv_tree.specs.Module.{Module}
use Rattle.sv_tree.specs.Text.{IsTextOf}

-- some valid text begins so
abbrev pub BeginsText : List ℕ → Type 0
BeginsText front = (more : List ℕ) × (modules : List Module) × IsTextOf (front ++ more) modules

abbrev pub has_no_line_feed : List ℕ → Type 0
has_no_line_feed [] = Unit {0}
has_no_line_feed (byte ∷ rest) = (byte ≢ 10) × has_no_line_feed rest

-- no byte, or the last byte is a line feed
pub data AreWholeLines : List ℕ → Type 0 where
  no_lines : AreWholeLines []
  ends_line : (front : List ℕ) → AreWholeLines (front ++ (10 ∷ []))

-- why reading stops before `behind`
pub data StopsBefore (text before : List ℕ) : List ℕ → Type 0 where
  -- a line that cannot stand
  line_cannot : (line later : List ℕ) → has_no_line_feed line → ¬ (BeginsText (before ++ (line ++ (10 ∷ []))))
      → StopsBefore text before (line ++ (10 ∷ later))
  -- a last piece without a line feed
  piece_left : (byte : ℕ) (piece : List ℕ) → has_no_line_feed (byte ∷ piece) → StopsBefore text before (byte ∷ piece)
  -- the text ends inside a module
  nothing_left : ((modules : List Module) → ¬ (IsTextOf text modules)) → StopsBefore text before []

pub record IsNotEmitted (text : List ℕ) (place : ℕ) : Type 0 where
  pub before : List ℕ
  pub behind : List ℕ
  pub joined : text ≡ before ++ behind
  pub placed : length before ≡ place
  pub lines : AreWholeLines before
  pub goes_on : BeginsText before
  pub stops : StopsBefore text before behind

-- The lines of a text. A line feed ends a line, and a carriage return before one is no part of it; a last piece that is not empty
-- is a line too.
use Rattle.std.specs.Prelude.{ℕ, ◌==◌, ◌&&◌, if◌then◌else◌, Bool, false, List, [], ◌∷◌, zero, suc, Option, Some, None}

abbrev pub begins_with_feed : List ℕ → Bool
begins_with_feed [] = false
begins_with_feed (byte ∷ rest) = byte == 10

-- a byte ahead of the first line
abbrev pub ahead : ℕ → List (List ℕ) → List (List ℕ)
ahead byte [] = (byte ∷ []) ∷ []
ahead byte (line ∷ lines) = (byte ∷ line) ∷ lines

abbrev pub lines_of : List ℕ → List (List ℕ)
lines_of [] = []
lines_of (byte ∷ rest) =
    if byte == 10 then [] ∷ lines_of rest else (if (byte == 13) && begins_with_feed rest then lines_of rest else ahead byte (lines_of rest))

-- lines are counted from 0 here
abbrev pub nth_line : List (List ℕ) → ℕ → Option (List ℕ)
nth_line [] n = None
nth_line (line ∷ lines) zero = Some line
nth_line (line ∷ lines) (suc n) = nth_line lines n

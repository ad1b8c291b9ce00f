-- How the first line is cut from a text.
use Rattle.std.specs.Prelude.{ℕ, ◌≡◌, ◌<◌, ◌==◌, not, if◌then◌else◌, Bool, true, List, [], ◌∷◌, ◌++◌, length}
use Rattle.stim_text.specs.Lines.{lines_of}

abbrev pub is_no_feed : ℕ → Bool
is_no_feed byte = not (byte == 10)

-- no line feed stands in it
abbrev pub Quiet : List ℕ → Type 0
Quiet [] = Unit {0}
Quiet (byte ∷ rest) = (is_no_feed byte ≡ true) × Quiet rest

-- without a carriage return at the end
abbrev pub without_return : List ℕ → List ℕ
without_return [] = []
without_return (byte ∷ []) = if byte == 13 then [] else byte ∷ []
without_return (byte ∷ next ∷ rest) = byte ∷ without_return (next ∷ rest)

-- the line is the first of the text, and the rest has the others; how the text is put together of them is one of the three ways of
-- a stimulus
pub data IsCut : (text line rest : List ℕ) → Type 0 where
  last_piece : {line : List ℕ} → (line ≡ [] → ⊥) → IsCut line line []
  by_feed : {line rest : List ℕ} → IsCut (line ++ 10 ∷ rest) line rest
  by_return_and_feed : {line rest : List ℕ} → IsCut (line ++ 13 ∷ 10 ∷ rest) line rest

pub record CutsLine (text line rest : List ℕ) : Type 0 where
  pub lines : lines_of text ≡ line ∷ lines_of rest
  pub cut : IsCut text line rest
  pub less : length rest < length text

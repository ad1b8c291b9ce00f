-- What may stand between tokens: blanks, and comments from `//` to a line feed or to the end.
use Rattle.std.specs.Prelude.{◌≡◌, ◌≢◌, ℕ, Bool, true, false, ◌||◌, ◌&&◌, ◌==◌, List, [], ◌∷◌, ◌++◌}
use Rattle.std.specs.List.{AllByRecursion}
use Rattle.anvil_lexer.specs.Characters.{begins_with}

-- space, tab, line feed, carriage return
abbrev pub is_blank : ℕ → Bool
is_blank c = c == 32 || (c == 9 || (c == 10 || c == 13))

-- no character is a line feed
abbrev pub IsOneLine : List ℕ → Type 0
IsOneLine = AllByRecursion (λ c. c ≢ 10)

-- blanks, and comments with the line feed that ends each
pub data IsGap : List ℕ → Type 0 where
  nothing : IsGap []
  blank : (c : ℕ) (rest : List ℕ) → is_blank c ≡ true → IsGap rest → IsGap (c ∷ rest)
  comment : (inside rest : List ℕ) → IsOneLine inside → IsGap rest → IsGap (47 ∷ 47 ∷ (inside ++ (10 ∷ rest)))

-- at the end of a source the last comment may have no line feed
pub data IsLastGap : List ℕ → Type 0 where
  closed : (gap : List ℕ) → IsGap gap → IsLastGap gap
  open_comment : (gap inside : List ℕ) → IsGap gap → IsOneLine inside → IsLastGap (gap ++ (47 ∷ 47 ∷ inside))

-- whether a blank or a comment begins the text
abbrev pub begins_gap : List ℕ → Bool
begins_gap [] = false
begins_gap (c ∷ cs) = is_blank c || (c == 47 && begins_with (λ d. d == 47) cs)

-- When a list of tokens is refused, and where. "Some file" is one of the grammar alone, without the limits.
use Rattle.std.specs.Prelude.{◌≡◌, ◌⊎◌, ℕ, ◌<◌, ◌≤◌, List, [], ◌∷◌, ◌++◌}
use Rattle.anvil_lexer.specs.declared.token.Token.{Token}
use Rattle.anvil_tree.specs.Tree.{File}
use Rattle.anvil_grammar.specs.declared.error.Counted.{Counted}
use Rattle.anvil_grammar.specs.declared.error.ParseErr.{ParseErr}
use Rattle.anvil_grammar.specs.declared.error.ParseErr.TheVariants.{Unexpected, TooDeep, TooMany, NoMemory}
use Rattle.anvil_grammar.specs.Grammar.{IsFile}
use Rattle.anvil_grammar.specs.Begun.{HasOnePast}
use Rattle.anvil_grammar.specs.Limits.{most_open, open_brackets, open_after, begun_in, AreFew}

-- some file begins with the tokens
abbrev pub BeginsFile : List Token → Type 0
BeginsFile front = (more : List Token) × (file : File) × IsFile (front ++ more) file

-- a token of the list, with those before it and behind it
pub record Stands (tokens : List Token) (before : List Token) (token : Token) : Type 0 where
  pub behind : List Token
  pub joined : tokens ≡ before ++ (token ∷ behind)

-- the tokens before the token at the place begin some file, and with it none
pub record IsUnexpected (tokens : List Token) (place : ℕ) : Type 0 where
  pub before : List Token
  pub token : Token
  pub stands : Stands tokens before token
  pub placed : token.at ≡ place
  pub goes_on : BeginsFile before
  pub ends : ¬ (BeginsFile (before ++ (token ∷ [])))

-- the bracket at the place opens while as many are open as may be
pub record IsTooDeep (tokens : List Token) (place : ℕ) : Type 0 where
  pub before : List Token
  pub token : Token
  pub stands : Stands tokens before token
  pub placed : token.at ≡ place
  pub goes_on : BeginsFile (before ++ (token ∷ []))
  pub full : open_brackets 0 before ≡ most_open
  pub opens : most_open < open_after most_open token.kind

-- Some front of the tokens decides that a thing of the kind begins at the place and is one past its limit: each file
-- that begins with the front has it there. The front ends with the token at the place, but for a `(` that begins a
-- `()`, which the next token shows.
pub record IsTooMany (tokens : List Token) (kind : Counted) (place : ℕ) : Type 0 where
  pub front : List Token
  pub behind : List Token
  pub joined : tokens ≡ front ++ behind
  pub goes_on : BeginsFile front
  pub each : (more : List Token) (file : File) (is : IsFile (front ++ more) file) → HasOnePast kind place (begun_in is)

abbrev pub IsRefusal : List Token → ParseErr → Type 0
IsRefusal tokens (Unexpected place) = IsUnexpected tokens place
IsRefusal tokens (TooDeep place) = IsTooDeep tokens place
IsRefusal tokens (TooMany kind place) = IsTooMany tokens kind place
IsRefusal tokens NoMemory = ⊥

-- which of two refusals comes first: that with the least place, and at one place in this order
abbrev pub place_of : ParseErr → ℕ
place_of (Unexpected place) = place
place_of (TooDeep place) = place
place_of (TooMany kind place) = place
place_of NoMemory = 0

abbrev pub rank_of : ParseErr → ℕ
rank_of (Unexpected place) = 0
rank_of (TooDeep place) = 1
rank_of (TooMany kind place) = 2
rank_of NoMemory = 3

abbrev pub ComesFirst : ParseErr → ParseErr → Type 0
ComesFirst refusal other =
    (place_of refusal < place_of other) ⊎ ((place_of refusal ≡ place_of other) × (rank_of refusal ≤ rank_of other))

-- two refusals are of one code, at one place
abbrev pub IsSameRefusal : ParseErr → ParseErr → Type 0
IsSameRefusal found refusal = (place_of found ≡ place_of refusal) × (rank_of found ≡ rank_of refusal)

-- the tokens are refused so
pub record IsFirstRefusal (tokens : List Token) (refusal : ParseErr) : Type 0 where
  pub is : IsRefusal tokens refusal
  pub least : (other : ParseErr) → IsRefusal tokens other → ComesFirst refusal other

-- the tokens are the file, and it is within all limits
pub record IsAccepted (tokens : List Token) (file : File) : Type 0 where
  pub is : IsFile tokens file
  pub few : AreFew is
  pub shallow : (before : List Token) (token : Token) → Stands tokens before token
      → open_brackets 0 (before ++ (token ∷ [])) ≤ most_open

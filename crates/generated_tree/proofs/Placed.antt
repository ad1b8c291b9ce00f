-- A list of tokens is its kinds, each with a place and a length. So what is said of kinds, whatever their places, is said of tokens.
use Rattle.std.proofs.Common.{◌≡◌, ℕ, zero, suc, List, [], ◌∷◌, refl, ap}
use Rattle.anvil_lexer.specs.declared.token.TokenKind.{TokenKind}
use Rattle.anvil_lexer.specs.declared.token.Token.{Token}
use Rattle.generated_tree.proofs.Reading.{kinds_of}

-- the n-th of them at the n-th place
abbrev pub placed : (place long : ℕ → ℕ) → List TokenKind → List Token
placed place long [] = []
placed place long (kind ∷ kinds) =
    record { kind = kind; at = place 0; len = long 0 } ∷ placed (λ n. place (suc n)) (λ n. long (suc n)) kinds

abbrev pub place_in : List Token → ℕ → ℕ
place_in [] n = 0
place_in (token ∷ tokens) zero = token.at
place_in (token ∷ tokens) (suc n) = place_in tokens n

abbrev pub long_in : List Token → ℕ → ℕ
long_in [] n = 0
long_in (token ∷ tokens) zero = token.len
long_in (token ∷ tokens) (suc n) = long_in tokens n

pub tokens_placed : (tokens : List Token) → tokens ≡ placed (place_in tokens) (long_in tokens) (kinds_of tokens)
tokens_placed [] = refl
tokens_placed (token ∷ tokens) = ap (λ rest. token ∷ rest) (tokens_placed tokens)

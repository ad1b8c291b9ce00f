-- Accepted tokens have no refusal, and two first refusals of the same tokens are of one code at one place.
-- An unexpected token would end every file that the tokens before it begin, but the accepted file goes on with it; a bracket that
-- opens one too many is against the file's depth, and a thing that every file has one past its limit is against its few things.
-- Of two first refusals each comes first, so their places and ranks are the same.
use Rattle.std.proofs.Common.{◌≡◌, ℕ, List, [], ◌∷◌, ◌++◌, ◌∙◌, refl, sym, subst, ap, arith, append_assoc}
use Rattle.anvil_lexer.specs.declared.token.Token.{Token}
use Rattle.anvil_tree.specs.Tree.{File}
use Rattle.anvil_grammar.specs.declared.error.Counted.{Counted}
use Rattle.anvil_grammar.specs.declared.error.ParseErr.{ParseErr}
use Rattle.anvil_grammar.specs.declared.error.ParseErr.TheVariants.{Unexpected, TooDeep, TooMany, NoMemory}
use Rattle.anvil_grammar.specs.Grammar.{IsFile}
use Rattle.anvil_grammar.specs.Begun.{HasOnePast}
use Rattle.anvil_grammar.specs.Limits.{most_open, open_brackets, open_after, begun_in, AreFew}
use Rattle.anvil_grammar.specs.Refusal.{BeginsFile, Stands, IsRefusal, ComesFirst, IsSameRefusal, IsFirstRefusal, IsAccepted}

-- a list with a token in its middle, as the front that ends with the token and the rest
pub token_joined : (before : List Token) (token : Token) (behind : List Token) → before ++ (token ∷ behind) ≡ (before ++ (token ∷ [])) ++ behind
token_joined before token behind = sym (append_assoc before (token ∷ []) behind)

-- brackets after two lists of tokens
pub open_joined : (front more : List Token) (depth : ℕ) → open_brackets depth (front ++ more) ≡ open_brackets (open_brackets depth front) more
open_joined [] more depth = refl
open_joined (token ∷ front) more depth = open_joined front more (open_after depth token.kind)

-- the tokens up to a token of a file begin a file
pub file_begins : (tokens : List Token) (file : File) → IsFile tokens file → (before : List Token) (token : Token) → Stands tokens before token
    → BeginsFile (before ++ (token ∷ []))
file_begins tokens file is before token stands =
    (stands.behind, file, subst (λ whole. IsFile whole file) (stands.joined ∙ token_joined before token stands.behind) is)

few_past : (tokens whole : List Token) (file : File) (kind : Counted) (place : ℕ) (is : IsFile tokens file) → AreFew is → tokens ≡ whole
    → ((is' : IsFile whole file) → HasOnePast kind place (begun_in is')) → ⊥
few_past tokens whole file kind place is few same =
    subst (λ w. ((is' : IsFile w file) → HasOnePast kind place (begun_in is')) → ⊥) same (λ each. few kind place (each is))

pub accepted_has_no_refusal : (tokens : List Token) (file : File) (refusal : ParseErr) → IsAccepted tokens file → IsRefusal tokens refusal → ⊥
accepted_has_no_refusal tokens file (Unexpected place) accepted refused =
    refused.ends (file_begins tokens file accepted.is refused.before refused.token refused.stands)
accepted_has_no_refusal tokens file (TooDeep place) accepted refused =
    let shallow = accepted.shallow refused.before refused.token refused.stands in
    let joined = open_joined refused.before (refused.token ∷ []) 0 in
    let deep : open_after (open_brackets 0 refused.before) refused.token.kind ≡ open_after most_open refused.token.kind =
    ap (λ depth. open_after depth refused.token.kind) refused.full in
    let opens = refused.opens in
    omega arith
accepted_has_no_refusal tokens file (TooMany kind place) accepted refused =
    few_past tokens (refused.front ++ refused.behind) file kind place accepted.is accepted.few refused.joined (refused.each refused.behind file)
accepted_has_no_refusal tokens file NoMemory accepted refused = absurd refused

same_refusal : (one other : ParseErr) → ComesFirst one other → ComesFirst other one → IsSameRefusal other one
same_refusal one other first second = omega arith

pub first_refusals_same : (tokens : List Token) (one other : ParseErr) → IsFirstRefusal tokens one → IsFirstRefusal tokens other → IsSameRefusal one other
first_refusals_same tokens one other first second = same_refusal other one (second.least one first.is) (first.least other second.is)

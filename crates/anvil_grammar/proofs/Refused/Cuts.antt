-- Two ways to cut a list of tokens. Two tokens of a list are one, or one stands before the other; a front of the list ends before a
-- token, or holds it. Where places rise, a later token has a greater place. Of things that fit, followed by others with a property
-- of places, one that is past the most has it.
use Rattle.std.proofs.Common.{◌≡◌, ◌≤◌, ◌<◌, ℕ, List, [], ◌∷◌, ◌++◌, ◌∙◌, refl, sym, subst, ap, arith}
use Rattle.anvil_lexer.specs.declared.token.Token.{Token}
use Rattle.anvil_lexer.specs.TokenText.{ArePlacesRising}
use Rattle.anvil_grammar.specs.Begun.{Begin, most, count}
use Rattle.anvil_grammar.proofs.Limited.Counts.{Numbers, after_one, AllFit}
use Rattle.anvil_grammar.proofs.Places.Begun.{AllAt}
use Rattle.anvil_grammar.proofs.Places.Walked.{TokensAt, rising_on, at_middle}

-- where another token stands
pub data Meets (front : List Token) (token : Token) (rest before : List Token) (other : Token) (behind : List Token) : Type 0 where
  sooner : (middle : List Token) → front ≡ before ++ (other ∷ middle) → Meets front token rest before other behind
  there : before ≡ front → other ≡ token → Meets front token rest before other behind
  later : (middle : List Token) → rest ≡ middle ++ (other ∷ behind) → Meets front token rest before other behind

meets_on : (first : Token) (front : List Token) (token : Token) (rest before : List Token) (one other : Token) (behind : List Token) → first ≡ one
    → Meets front token rest before other behind → Meets (first ∷ front) token rest (one ∷ before) other behind
meets_on first front token rest before one other behind same (sooner middle joined) = sooner middle (ap (λ t. first ∷ t) joined ∙ ap (λ f. f ∷ (before ++ (other ∷ middle))) same)
meets_on first front token rest before one other behind same (there fronts tokens) = there (cc) tokens
meets_on first front token rest before one other behind same (later middle joined) = later middle joined

pub meets : (front : List Token) (token : Token) (rest before : List Token) (other : Token) (behind : List Token)
    → front ++ (token ∷ rest) ≡ before ++ (other ∷ behind) → Meets front token rest before other behind
meets [] token rest [] other behind same = there refl cc
meets [] token rest (one ∷ before) other behind same = later before cc
meets (first ∷ front) token rest [] other behind same = sooner front cc
meets (first ∷ front) token rest (one ∷ before) other behind same =
    let firsts : first ≡ one = cc in
    let tails : front ++ (token ∷ rest) ≡ before ++ (other ∷ behind) = cc in
    meets_on first front token rest before one other behind firsts (meets front token rest before other behind tails)

-- where another front ends
pub data Cut (front : List Token) (token : Token) (rest other behind : List Token) : Type 0 where
  within : (middle : List Token) → front ≡ other ++ middle → Cut front token rest other behind
  beyond : (middle : List Token) → other ≡ front ++ (token ∷ middle) → rest ≡ middle ++ behind → Cut front token rest other behind

cut_on : (first : Token) (front : List Token) (token : Token) (rest : List Token) (one : Token) (other behind : List Token) → first ≡ one
    → Cut front token rest other behind → Cut (first ∷ front) token rest (one ∷ other) behind
cut_on first front token rest one other behind same (within middle joined) = within middle (ap (λ t. first ∷ t) joined ∙ ap (λ f. f ∷ (other ++ middle)) same)
cut_on first front token rest one other behind same (beyond middle joined left) =
    beyond middle (ap (λ f. f ∷ other) (sym same) ∙ ap (λ t. first ∷ t) joined) left

pub cut : (front : List Token) (token : Token) (rest other behind : List Token) → front ++ (token ∷ rest) ≡ other ++ behind → Cut front token rest other behind
cut [] token rest [] behind same = within [] refl
cut [] token rest (one ∷ other) behind same = beyond other (cc) cc
cut (first ∷ front) token rest [] behind same = within (first ∷ front) refl
cut (first ∷ front) token rest (one ∷ other) behind same =
    let firsts : first ≡ one = cc in
    let tails : front ++ (token ∷ rest) ≡ other ++ behind = cc in
    cut_on first front token rest one other behind firsts (cut front token rest other behind tails)

-- places that rise
pub rising_behind : (front tokens : List Token) → ArePlacesRising (front ++ tokens) → ArePlacesRising tokens
rising_behind [] tokens rising = rising
rising_behind (token ∷ front) tokens rising = rising_behind front tokens (rising_on (front ++ tokens) token rising)

pub rising_past : (middle : List Token) (token other : Token) (behind : List Token) → ArePlacesRising (token ∷ (middle ++ (other ∷ behind))) → token.at < other.at
rising_past [] token other behind rising = rising.0
rising_past (next ∷ middle) token other behind rising =
    let first = rising.0 in
    let second = rising_past middle next other behind rising.1 in
    omega arith

pub tokens_behind : (bound : ℕ) (tokens : List Token) (token : Token) → ArePlacesRising (token ∷ tokens) → bound ≤ token.at → TokensAt (λ at. bound ≤ at) (token ∷ tokens)
tokens_behind bound [] token rising less = (less, tt)
tokens_behind bound (next ∷ tokens) token rising less =
    let first = rising.0 in
    (less, tokens_behind bound tokens next rising.1 (omega arith))

pub tokens_front : (P : ℕ → Type 0) (front more : List Token) → TokensAt P (front ++ more) → TokensAt P front
tokens_front P [] more all = tt
tokens_front P (token ∷ front) more all = (all.0, tokens_front P front more all.1)

-- one that is past the most is none of those that fit
pub past_placed : (P : ℕ → Type 0) (begun others before after : List Begin) (many : Numbers) (begin : Begin) → AllFit many begun → AllAt P others
    → begun ++ others ≡ before ++ (begin ∷ after) → count begin.kind (many begin.kind) before ≡ most begin.kind → P begin.at
past_placed P [] others before after many begin fit all same full = at_middle P before after begin (subst (AllAt P) same all)
past_placed P (first ∷ begun) others [] after many begin fit all same full =
    let firsts : first ≡ begin = cc in
    let less = subst (λ b. many b.kind < most b.kind) firsts fit.0 in
    absurd (omega arith)
past_placed P (first ∷ begun) others (one ∷ before) after many begin fit all same full =
    let firsts : one ≡ first = cc in
    let tails : begun ++ others ≡ before ++ (begin ∷ after) = cc in
    past_placed P begun others before after (after_one many first) begin fit.1 all tails
    (subst (λ b. count begin.kind (after_one many b begin.kind) before ≡ most begin.kind) firsts full)

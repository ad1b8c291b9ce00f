-- Tokens that a reading comes through begin some file, all of whose other things begin at a place that one chooses or behind it.
-- If no `(` is pending, tokens of that place complete the file. If one is pending, a literal of that place comes first: so the `(`
-- begins no `()` in this file.
use Rattle.std.proofs.Common.{◌≡◌, ◌≤◌, ℕ, List, [], ◌∷◌, ◌++◌, ◌∙◌, sym, subst, ap, arith, append_assoc, le_refl}
use Rattle.std.specs.List.{AllByRecursion}
use Rattle.anvil_lexer.specs.declared.token.Token.{Token}
use Rattle.anvil_lexer.specs.declared.token.TokenKind.TheVariants.{Literal}
use Rattle.anvil_tree.specs.Tree.{File}
use Rattle.anvil_grammar.specs.Grammar.{IsFile}
use Rattle.anvil_grammar.specs.Begun.{Begin}
use Rattle.anvil_grammar.specs.Limits.{begun_in}
use Rattle.anvil_grammar.specs.State as states
use Rattle.anvil_grammar.specs.State.{Frame, ProcessDraft, State, start}
use Rattle.anvil_grammar.specs.Step.{walk, Walk, stands}
use Rattle.anvil_grammar.specs.Refusal.{BeginsFile}
use Rattle.anvil_grammar.proofs.Walk.Joined.{walk_from, front_stands, StandsAfter}
use Rattle.anvil_grammar.proofs.Places.Begun.{AllAt}
use Rattle.anvil_grammar.proofs.Places.Walked.{TokensAt, Closes, walk_placed, pends_more, pends_closes, Opened, opened, free, is_opened}

-- The three facts on the unlimited reading: a file is read to its end, what is read to its end is a file, and what is read to any
-- state begins a file, with tokens that have whichever place.
pub record Facts : Type 0 where
  pub file_walked : {tokens : List Token} {file : File} (is : IsFile tokens file) → walk start tokens ≡ record { begun = begun_in is; stop = stands (states.ended file) }
  pub file_sound : (tokens : List Token) (begun : List Begin) (file : File) → walk start tokens ≡ record { begun = begun; stop = stands (states.ended file) }
      → IsFile tokens file
  pub viable_at : (state : ℕ) (front : List Token) (begun : List Begin) (stood : State) → walk start front ≡ record { begun = begun; stop = stands stood }
      → (more : List Token) × AllByRecursion (λ (token : Token). token.at ≡ state) more × (file : File) × IsFile (front ++ more) file

tokens_from : (state : ℕ) (tokens : List Token) → AllByRecursion (λ (token : Token). token.at ≡ state) tokens → TokensAt (λ at. state ≤ at) tokens
tokens_from state [] all = tt
tokens_from state (token ∷ tokens) all = let same = all.0 in (omega arith, tokens_from state tokens all.1)

-- a file that begins with the tokens, whose other things begin at the place or behind it
pub record Completes (front : List Token) (begun : List Begin) (state : ℕ) : Type 0 where
  pub more : List Token
  pub file : File
  pub is : IsFile (front ++ more) file
  pub others : List Begin
  pub joined : begun_in is ≡ begun ++ others
  pub later : AllAt (λ at. state ≤ at) others

abbrev literal_at : ℕ → Token
literal_at state = record { kind = Literal 1 0; at = state; len = 4 }

module _ (facts : Facts) where
  -- the things of a file that begins with the tokens
  pub begun_behind : (front more : List Token) (file : File) (is : IsFile (front ++ more) file) (begun : List Begin) (stood : State)
      → walk start front ≡ record { begun = begun; stop = stands stood } → begun_in is ≡ begun ++ (walk stood more).begun
  begun_behind front more file is begun stood walked =
      ap (λ (w : Walk). w.begun) (sym (facts.file_walked is) ∙ walk_from front more start stood begun walked)

  -- a front of a file is read to a state
  pub file_stands : (front : List Token) → BeginsFile front → StandsAfter start front
  file_stands front begins = front_stands start front begins.0 (begun_in begins.2) (states.ended begins.1) (facts.file_walked begins.2)

  pub viable : (front : List Token) (begun : List Begin) (stood : State) → walk start front ≡ record { begun = begun; stop = stands stood } → BeginsFile front
  viable front begun stood walked = let all = facts.viable_at 0 front begun stood walked in (all.0, all.2, all.3)

  completes_by : (state : ℕ) (front more : List Token) (file : File) (begun : List Begin) (stood : State) → walk start front ≡ record { begun = begun; stop = stands stood }
      → IsFile (front ++ more) file → TokensAt (λ at. state ≤ at) more → Closes (λ at. state ≤ at) stood more → Completes front begun state
  completes_by state front more file begun stood walked is all closes = record {
    more = more;
    file = file;
    is = is;
    others = (walk stood more).begun;
    joined = begun_behind front more file is begun stood walked;
    later = walk_placed (λ at. state ≤ at) more stood all closes;
  }

  completes_opened : (state : ℕ) (front : List Token) (begun : List Begin) (stood : State) → walk start front ≡ record { begun = begun; stop = stands stood }
      → Opened stood → Completes front begun state
  completes_opened state front begun stood walked (free pends) =
      let all = facts.viable_at state front begun stood walked in
      completes_by state front all.0 all.2 begun stood walked all.3 (tokens_from state all.0 all.1)
      (pends_closes (λ at. state ≤ at) stood all.0 (pends_more (λ at. ⊥) (λ at. state ≤ at) (λ at no_place. absurd no_place) stood pends))
  completes_opened state front begun stood walked (opened items draft stack at) =
      let literal = literal_at state in
      let stood : State = states.in_process items (states.in_thread draft (record { stack = stack; state = states.parenthesis_opened at })) in
      let all = facts.viable_at state (front ++ (literal ∷ [])) _ _ (walk_from front (literal ∷ []) start stood begun walked) in
      completes_by state front (literal ∷ all.0) all.2 begun stood walked (subst (λ tokens. IsFile tokens all.2) (append_assoc front (literal ∷ []) all.0) all.3)
      (le_refl state, tokens_from state all.0 all.1) (λ closing. absurd cc)

  pub completes : (state : ℕ) (front : List Token) (begun : List Begin) (stood : State) → walk start front ≡ record { begun = begun; stop = stands stood }
      → Completes front begun state
  completes state front begun stood walked = completes_opened state front begun stood walked (is_opened stood)

-- What the limited reading of a list of tokens answers. If it ends with a file, the tokens are accepted as that file: they are a file
-- by the unlimited reading, whose things are those that were found to fit. If it refuses tokens whose places rise, its refusal is their
-- first refusal, and never want of memory. Of closed tokens it goes nowhere but to the end of a file.
use Rattle.std.proofs.Common.{◌≡◌, ℕ, List, [], ◌∷◌, ◌++◌, ◌∙◌, refl, sym, subst, ap, arith}
use Rattle.anvil_lexer.specs.declared.token.Token.{Token}
use Rattle.anvil_lexer.specs.TokenText.{AreClosed, ArePlacesRising}
use Rattle.anvil_tree.specs.Tree.{File}
use Rattle.anvil_grammar.specs.declared.error.Counted.TheVariants as counted
use Rattle.anvil_grammar.specs.declared.error.ParseErr.{ParseErr}
use Rattle.anvil_grammar.specs.declared.error.ParseErr.TheVariants.{NoMemory}
use Rattle.anvil_grammar.specs.Grammar.{IsFile}
use Rattle.anvil_grammar.specs.Begun.{Begin}
use Rattle.anvil_grammar.specs.Limits.{open_brackets, begun_in, AreFew}
use Rattle.anvil_grammar.specs.State.{State, start, ended}
use Rattle.anvil_grammar.specs.Step.{walk, Walk, stands}
use Rattle.anvil_grammar.specs.Limited.{Tally, empty_tally, verdict, goes_on, refused}
use Rattle.anvil_grammar.specs.Refusal.{IsFirstRefusal, IsAccepted}
use Rattle.anvil_grammar.proofs.Refused.Refusals.{token_joined}
use Rattle.anvil_grammar.proofs.Limited.Counts.{after_all, AllFit, fits_at, Tells, AllBounded}
use Rattle.anvil_grammar.proofs.Limited.Taken.{IsRefusedAt, cannot_stand, opens_deep, begins_past}
use Rattle.anvil_grammar.proofs.Limited.Walked.{AllShallow, shallow_front, GoesOn, read_goes, StopsAt, read_stops}
use Rattle.anvil_grammar.proofs.Walk.Completed.{Facts}
use Rattle.anvil_grammar.proofs.Refused.Later.{none}
use Rattle.anvil_grammar.proofs.Refused.First.{stuck_first, deep_first, past_first}
use Rattle.anvil_grammar.proofs.Walk.Ends.{closed_walk_ends}

empty_tells : Tells empty_tally none
empty_tells counted.Class = refl
empty_tells kind = refl

none_bounded : AllBounded none
none_bounded kind = omega arith

went : (tokens : List Token) (state : State) (tally : Tally) → verdict tokens ≡ goes_on state tally → GoesOn start none 0 tokens state tally
went tokens state tally same = read_goes tokens start state none empty_tally tally empty_tells (omega arith) same

stopped : (tokens : List Token) (refusal : ParseErr) → verdict tokens ≡ refused refusal → StopsAt start none 0 tokens refusal
stopped tokens refusal same = read_stops tokens start none empty_tally refusal empty_tells none_bounded (omega arith) same

pub closed_ends : (tokens : List Token) (state : State) (tally : Tally) → AreClosed tokens → verdict tokens ≡ goes_on state tally → (file : File) × (state ≡ ended file)
closed_ends tokens state tally closed same = let all = went tokens state tally same in closed_walk_ends tokens start state all.begun closed all.walked

refused_with : (state : State) (begun : List Begin) (depth : ℕ) (token : Token) (refusal : ParseErr) → IsRefusedAt state (after_all none begun) depth token refusal
    → refusal ≡ NoMemory → ⊥
refused_with state begun depth token refusal (cannot_stand stuck) same = cc
refused_with state begun depth token refusal (opens_deep new next stepped full opens bracket) same = cc
refused_with state begun depth token refusal (begins_past new next stepped kept before after begin joined full) same = cc

pub never_no_memory : (tokens : List Token) → verdict tokens ≡ refused NoMemory → ⊥
never_no_memory tokens same = let all = stopped tokens NoMemory same in refused_with all.state all.begun (open_brackets 0 all.front) all.token NoMemory all.at refl

module _ (facts : Facts) where
  few_things : (tokens : List Token) (file : File) (is : IsFile tokens file) (begun : List Begin) → walk start tokens ≡ record { begun = begun; stop = stands (ended file) }
      → AllFit none begun → AreFew is
  few_things tokens file is begun walked fit kind place past =
      let same : begun ≡ begun_in is = ap (λ (w : Walk). w.begun) (sym walked ∙ facts.file_walked is) in
      fits_at past.before past.after none (record { kind = kind; at = place }) (subst (AllFit none) (same ∙ past.joined) fit) past.full

  pub verdict_accepts : (tokens : List Token) (file : File) (tally : Tally) → verdict tokens ≡ goes_on (ended file) tally → IsAccepted tokens file
  verdict_accepts tokens file tally same =
      let all = went tokens (ended file) tally same in
      let is = facts.file_sound tokens all.begun file all.walked in
      record {
        is = is;
        few = few_things tokens file is all.begun all.walked all.fit;
        shallow = λ before token stands'. shallow_front (before ++ (token ∷ [])) stands'.behind 0
            (subst (AllShallow 0) (stands'.joined ∙ token_joined before token stands'.behind) all.shallow);
      }

  refused_first : (front : List Token) (token : Token) (rest : List Token) (begun : List Begin) (state : State) (refusal : ParseErr)
      → walk start front ≡ record { begun = begun; stop = stands state } → ArePlacesRising (front ++ (token ∷ rest)) → AllFit none begun → AllShallow 0 front
      → IsRefusedAt state (after_all none begun) (open_brackets 0 front) token refusal → IsFirstRefusal (front ++ (token ∷ rest)) refusal
  refused_first front token rest begun state refusal walked rising fit shallow (cannot_stand stuck) =
      stuck_first facts front token rest begun state walked rising fit shallow stuck
  refused_first front token rest begun state refusal walked rising fit shallow (opens_deep new next stepped full opens bracket) =
      deep_first facts front token rest begun state walked rising fit shallow new next stepped full opens bracket
  refused_first front token rest begun state refusal walked rising fit shallow (begins_past new next stepped kept before after begin joined full) =
      past_first facts front token rest begun state walked rising fit shallow new next stepped before after begin joined full kept

  pub verdict_refuses : (tokens : List Token) (refusal : ParseErr) → ArePlacesRising tokens → verdict tokens ≡ refused refusal → IsFirstRefusal tokens refusal
  verdict_refuses tokens refusal rising same =
      let all = stopped tokens refusal same in
      subst (λ t. IsFirstRefusal t refusal) (sym all.joined)
      (refused_first all.front all.token all.rest all.begun all.state refusal all.walked (subst ArePlacesRising all.joined rising) all.fit all.shallow all.at)

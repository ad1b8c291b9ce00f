-- How the types for steps and names are seen.
use Rattle.std.specs.Prelude.{◌≡◌, ◌⊎◌, List, [], ◌∷◌, MatchResult, Result}
use Rattle.anvil_lexer.specs.declared.token.Token.{Token}
use Rattle.anvil_grammar.specs.declared.error.ParseErr.{ParseErr}
use Rattle.anvil_grammar.specs.declared.error.ParseErr.TheVariants.{Unexpected, NoMemory}
use Rattle.parse_steps.specs.declared.step.Begin.{Begin}
use Rattle.parse_steps.specs.declared.step.Begun.{Begun}
use Rattle.parse_steps.specs.declared.step.Begun.TheVariants as begun
use Rattle.parse_steps.specs.declared.step.Reached.{Reached}
use Rattle.parse_steps.specs.declared.step.Reached.TheVariants as reached
use Rattle.parse_steps.specs.declared.label.Label.{Label}
use Rattle.anvil_grammar.specs.Begun as things
use Rattle.anvil_grammar.specs.State as states
use Rattle.anvil_grammar.specs.Step as step

abbrev pub begin_of : Begin → things.Begin
begin_of begin = record { kind = begin.kind; at = begin.at }

abbrev pub begun_of : Begun → List things.Begin
begun_of begun.Nothing = []
begun_of (begun.One one) = begin_of one ∷ []
begun_of (begun.Two one two) = begin_of one ∷ begin_of two ∷ []

-- what a token comes to, where the reading goes on at a state
abbrev pub reached_of : {R Q S : Type 0} → Q → (R → S) → Reached R → step.Step Q S
reached_of next result (reached.Onward begun) = step.onward (begun_of begun) next
reached_of next result (reached.Finished whole) = step.finished (result whole)

-- the answer is the step that the token comes to, or that it is unexpected; want of memory is free
abbrev pub IsReached : {R Q S : Type 0} → Q → (R → S) → Token → step.Step Q S → Result (Reached R) ParseErr → Type 0
IsReached next whole token wanted result =
    MatchResult result (λ found. wanted ≡ reached_of next whole found)
    (λ refusal. (refusal ≡ NoMemory) ⊎ ((wanted ≡ step.unexpected) × (refusal ≡ Unexpected token.at)))

abbrev pub label_of : Label → states.Label
label_of label = record { name = label.name; at = label.at }

-- what is seen as it is
abbrev pub same : {T : Type 0} → T → T
same value = value

-- What the verdict on closed tokens, whose places rise, tells of them: with a file they are accepted as that file and as no other,
-- and have no refusal; with a refusal they have that first refusal, and are accepted as no file.
use Rattle.std.proofs.Common.{◌≡◌, ◌⊎◌, List, inl, inr, subst}
use Rattle.anvil_lexer.specs.declared.token.Token.{Token}
use Rattle.anvil_lexer.specs.TokenText.{AreClosed, ArePlacesRising}
use Rattle.anvil_tree.specs.Tree.{File}
use Rattle.anvil_grammar.specs.declared.error.ParseErr.{ParseErr}
use Rattle.anvil_grammar.specs.declared.error.ParseErr.TheVariants.{NoMemory}
use Rattle.anvil_tree.specs.Few.{IsFew}
use Rattle.anvil_tree.specs.Order.{NeverFall, places_of_file, ActsNeverFall}
use Rattle.anvil_grammar.specs.Refusal.{IsAccepted, IsFirstRefusal, IsSameRefusal}
use Rattle.anvil_grammar.specs.State.{State, ended}
use Rattle.anvil_grammar.specs.Limited.{Tally, verdict, goes_on, refused}
use Rattle.anvil_grammar.proofs.Places.InOrder.{in_order}
use Rattle.anvil_grammar.proofs.Places.ActsInOrder.{acts_in_order}
use Rattle.anvil_grammar.proofs.Few.OfTree.{few_of_tree}
use Rattle.anvil_grammar.proofs.Walked.File.{file_walked}
use Rattle.anvil_grammar.proofs.Walked.OneTree.{one_tree}
use Rattle.anvil_grammar.proofs.Kept.File.{file_sound}
use Rattle.anvil_grammar.proofs.Viable.Fronts.{viable_at}
use Rattle.anvil_grammar.proofs.Walk.Completed.{Facts}
use Rattle.anvil_grammar.proofs.Refused.Refusals.{accepted_has_no_refusal, first_refusals_same}
use Rattle.anvil_grammar.proofs.Refused.Verdicts as verdicts
use Rattle.anvil_grammar.proofs.Refused.Verdicts.{closed_ends}

facts : Facts
facts = record { file_walked = file_walked; file_sound = file_sound; viable_at = viable_at }

verdict_accepts : (tokens : List Token) (file : File) (tally : Tally) → verdict tokens ≡ goes_on (ended file) tally → IsAccepted tokens file
verdict_accepts = verdicts.verdict_accepts facts

verdict_refuses : (tokens : List Token) (refusal : ParseErr) → ArePlacesRising tokens → verdict tokens ≡ refused refusal → IsFirstRefusal tokens refusal
verdict_refuses = verdicts.verdict_refuses facts

-- accepted as one file alone
pub accepted_once : (tokens : List Token) (one other : File) → IsAccepted tokens one → IsAccepted tokens other → one ≡ other
accepted_once tokens one other first second = one_tree tokens one other first.is second.is

pub accepted_in_order : (tokens : List Token) (file : File) → ArePlacesRising tokens → IsAccepted tokens file → NeverFall (places_of_file file)
accepted_in_order tokens file rising accepted = in_order tokens file rising accepted.is

pub accepted_acts : (tokens : List Token) (file : File) → ArePlacesRising tokens → IsAccepted tokens file → ActsNeverFall file
accepted_acts tokens file rising accepted = acts_in_order accepted.is rising

pub accepted_few : (tokens : List Token) (file : File) → IsAccepted tokens file → IsFew file
accepted_few tokens file accepted = few_of_tree accepted.is accepted.few

-- accepted tokens have no first refusal
pub accepted_unrefused : (tokens : List Token) (file : File) (refusal : ParseErr) → IsAccepted tokens file → IsFirstRefusal tokens refusal → ⊥
accepted_unrefused tokens file refusal accepted first = accepted_has_no_refusal tokens file refusal accepted first.is

-- the reading of closed tokens goes nowhere but to the end of a file
ends_closed : (tokens : List Token) (state : State) (tally : Tally) → AreClosed tokens → verdict tokens ≡ goes_on state tally
    → ((file : File) → state ≡ ended file → ⊥) → ⊥
ends_closed tokens state tally closed same other = let all = closed_ends tokens state tally closed same in other all.0 all.1

-- what reading comes to where it ends at a state that is the end of a file
pub accepted_at : (tokens : List Token) (state : State) (file : File) → ((tally : Tally) × (verdict tokens ≡ goes_on state tally)) → state ≡ ended file
    → IsAccepted tokens file
accepted_at tokens state file read is = verdict_accepts tokens file read.0 (subst (λ p. verdict tokens ≡ goes_on p read.0) is read.1)

pub never_ends : (tokens : List Token) (state : State) → AreClosed tokens → ((tally : Tally) × (verdict tokens ≡ goes_on state tally))
    → ((file : File) → state ≡ ended file → ⊥) → ⊥
never_ends tokens state closed read other = ends_closed tokens state read.0 closed read.1 other

-- a refusal is want of memory, or the first refusal
pub refused_first : (tokens : List Token) (refusal : ParseErr) → ArePlacesRising tokens → (refusal ≡ NoMemory) ⊎ (verdict tokens ≡ refused refusal)
    → (refusal ≡ NoMemory → ⊥) → IsFirstRefusal tokens refusal
refused_first tokens refusal rising (inl full) other = absurd (other full)
refused_first tokens refusal rising (inr same) other = verdict_refuses tokens refusal rising same

pub refused_no_file : (tokens : List Token) (refusal : ParseErr) → ArePlacesRising tokens → (refusal ≡ NoMemory) ⊎ (verdict tokens ≡ refused refusal)
    → (file : File) → IsAccepted tokens file → refusal ≡ NoMemory
refused_no_file tokens refusal rising (inl full) file accepted = full
refused_no_file tokens refusal rising (inr same) file accepted = absurd (accepted_unrefused tokens file refusal accepted (verdict_refuses tokens refusal rising same))

pub refused_same : (tokens : List Token) (refusal : ParseErr) → ArePlacesRising tokens → (refusal ≡ NoMemory) ⊎ (verdict tokens ≡ refused refusal)
    → (other : ParseErr) → IsFirstRefusal tokens other → IsSameRefusal refusal other ⊎ (refusal ≡ NoMemory)
refused_same tokens refusal rising (inl full) other first = inr full
refused_same tokens refusal rising (inr same) other first = inl (first_refusals_same tokens refusal other (verdict_refuses tokens refusal rising same) first)

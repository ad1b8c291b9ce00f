-- The violations of V7 and V8 of a thread, from the records of both.
use Rattle.std.proofs.Common.{◌≡◌, ℕ, ◌<◌, inl, inr, arith, sym, subst, List, [], ◌∷◌, ◌++◌}
use Rattle.core_term.specs.declared.process.CoreProc.{CoreProc}
use Rattle.core_term.specs.declared.rules.Rule.{Rule}
use Rattle.core_term.specs.declared.rules.Rule.TheVariants as rule
use Rattle.core_term.specs.declared.rules.Violation.{Violation}
use Rattle.core_term.specs.Process.{Process}
use Rattle.core_term.specs.Term.{Term}
use Rattle.core_term.specs.AcceptedFile.{process_in}
use Rattle.core_term.specs.Violations.{rule_number}
use Rattle.demand_checks.specs.declared.judge.Judge.{Judge}
use Rattle.demand_checks.specs.declared.place.Pair.{Pair}
use Rattle.demand_checks.specs.declared.rests.Rest.{Rest}
use Rattle.demand_checks.specs.Answers.{Answers}
use Rattle.demand_checks.specs.Found.{AreFound, AreViolations, AllEarlier}
use Rattle.demand_checks.specs.Judge.{IsJudge, TellOf, process_at, body_at}
use Rattle.demand_checks.specs.Rests.{AreRests, pair_of}
use Rattle.demand_checks.specs.Thread.{body_of}
use Rattle.demand_checks.specs.Unshown.{unshown}
use Rattle.demand_checks.proofs.Answered.{right_answers}
use Rattle.demand_checks.proofs.OneRule.{no_rules}
use Rattle.loan_check.specs.Choices.{choice_claims}
use Rattle.loan_check.specs.Elsewhere.{AreElsewhere}
use Rattle.loan_check.specs.Registers.{register_claims}
use Rattle.loan_check.proofs.ChoiceDemands.{choices_found}
use Rattle.loan_check.proofs.RegisterDemands.{reads_found}

module _ (judge : Judge) (is : IsJudge judge) (rests : List Rest) (all : AreRests (body_at judge) rests) where
  pub choices_of : (pairs : List Pair) → ((answers : Answers) → TellOf judge answers → pairs ≡ unshown pair_of (choice_claims judge.deeds.items) answers rests)
      → AreFound (process_at judge) judge.number (body_at judge) rule.V8 pairs
  choices_of pairs told =
      let right = right_answers (process_at judge) (body_at judge) is.numbered judge.deeds.items is.deeds in
      subst (λ z. AreFound (process_at judge) judge.number (body_at judge) rule.V8 z) (sym (told right.0 right.1))
      (choices_found (process_at judge) judge.number (body_at judge) is.numbered judge.deeds.items is.deeds rests all right.0 right.1)

  pub reads_of : (others : List ℕ) → AreElsewhere judge.proc.now judge.number others → (pairs : List Pair)
      → ((answers : Answers) → TellOf judge answers → pairs ≡ unshown pair_of (register_claims others judge.deeds.items) answers rests)
      → AreFound (process_at judge) judge.number (body_at judge) rule.V7 pairs
  reads_of others elsewhere pairs told =
      let right = right_answers (process_at judge) (body_at judge) is.numbered judge.deeds.items is.deeds in
      subst (λ z. AreFound (process_at judge) judge.number (body_at judge) rule.V7 z) (sym (told right.0 right.1))
      (reads_found judge.proc.now judge.number (body_at judge) is.numbered judge.deeds.items is.deeds others elsewhere rests all right.0 right.1)

pub none_earlier : AllEarlier [] rule.V7
none_earlier other has = elim has [ ]

pub reads_earlier : AllEarlier (rule.V7 ∷ []) rule.V8
reads_earlier other (inl is) = subst (λ r. rule_number r < 8) (sym is) (omega arith)
reads_earlier other (inr none) = elim none [ ]

-- The list of V7, and then that of V8.
abbrev Lists : (old new : List Violation) → Rule → List Pair → Type 0
Lists old new rule pairs = (p : Process) (j : ℕ) (body : Term) (rules : List Rule) → AreViolations p j body rules old → AreFound p j body rule pairs → AllEarlier rules rule
    → AreViolations p j body (rules ++ rule ∷ []) new

pub both_listed : (judge : Judge) → IsJudge judge → (proc : CoreProc) (j : ℕ) → judge.proc.now ≡ proc → judge.number ≡ j
    → (rests reads_from choices_from : List Rest) → AreRests (body_at judge) rests → reads_from ≡ rests → choices_from ≡ rests
    → (others others_seen : List ℕ) → AreElsewhere proc j others → others_seen ≡ others
    → (reads choices : List Pair)
    → ((answers : Answers) → TellOf judge answers → reads ≡ unshown pair_of (register_claims others_seen judge.deeds.items) answers reads_from)
    → ((answers : Answers) → TellOf judge answers → choices ≡ unshown pair_of (choice_claims judge.deeds.items) answers choices_from)
    → (none one two : List Violation) → none ≡ [] → Lists none one rule.V7 reads → Lists one two rule.V8 choices
    → AreViolations (process_in proc) j (body_of proc j) (rule.V7 ∷ rule.V8 ∷ []) two
both_listed judge is proc j same_proc same_number rests reads_from choices_from all reads_same choices_same others others_seen elsewhere others_same reads choices reads_told choices_told none one two empty first second =
    let here : AreElsewhere judge.proc.now judge.number others_seen =
    subst (λ o. AreElsewhere judge.proc.now judge.number o) (sym others_same)
    (subst (λ n. AreElsewhere judge.proc.now n others) (sym same_number) (subst (λ q. AreElsewhere q j others) (sym same_proc) elsewhere)) in
    let reads_are = reads_of judge is reads_from (subst (λ r. AreRests (body_at judge) r) (sym reads_same) all) others_seen here reads reads_told in
    let choices_are = choices_of judge is choices_from (subst (λ r. AreRests (body_at judge) r) (sym choices_same) all) choices choices_told in
    let process = process_at judge in
    let body = body_at judge in
    let start : AreViolations process judge.number body [] none = subst (λ v. AreViolations process judge.number body [] v) (sym empty) (no_rules process judge.number body) in
    let listed = second process judge.number body (rule.V7 ∷ []) (first process judge.number body [] start reads_are none_earlier) choices_are reads_earlier in
    subst (λ n. AreViolations (process_in proc) n (body_of proc n) (rule.V7 ∷ rule.V8 ∷ []) two) same_number
    (subst (λ q. AreViolations (process_in q) judge.number (body_of q judge.number) (rule.V7 ∷ rule.V8 ∷ []) two) same_proc listed)

-- The records so far, and those of what is left.
use Rattle.std.proofs.Common.{◌≡◌, ◌++◌, drop}
use Rattle.demand_checks.specs.Answers.{Answers}
use Rattle.demand_checks.specs.Judge.{TellOf}
use Rattle.demand_checks.specs.Rests.{pair_of}
use Rattle.demand_checks.specs.Unshown.{unshown}
use Rattle.loan_check.specs.Choices.{choice_claims}
use Rattle.loan_check.proofs.choices.unshown_choices.Given as goal

abbrev pub invariant-loop-rest : goal.invariant-loop-rest
invariant-loop-rest l = (answers : Answers) → TellOf l.judge answers
    → l.pairs.items ++ unshown pair_of (choice_claims l.judge.deeds.items) answers (drop l.rest-index l.rests) ≡ unshown pair_of (choice_claims l.judge.deeds.items) answers l.rests

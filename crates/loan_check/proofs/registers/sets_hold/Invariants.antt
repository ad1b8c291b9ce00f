-- All so far hold, so those that are left decide.
use Rattle.std.proofs.Common.{◌≡◌, drop, map}
use Rattle.demand_checks.specs.Answers.{Answers, all_shown}
use Rattle.demand_checks.specs.Judge.{TellOf}
use Rattle.loan_check.specs.Registers.{here_claim}
use Rattle.loan_check.proofs.registers.sets_hold.Given as goal

abbrev pub invariant-loop-set : goal.invariant-loop-set
invariant-loop-set l = (answers : Answers) → TellOf l.judge answers
    → all_shown answers (map (here_claim l.judge.deeds.items l.user l.site) (drop l.set-index l.sets)) ≡ all_shown answers (map (here_claim l.judge.deeds.items l.user l.site) l.sets)

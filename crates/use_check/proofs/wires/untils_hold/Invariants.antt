-- All so far hold, so those that are left decide.
use Rattle.std.proofs.Common.{◌≡◌, drop, map}
use Rattle.demand_checks.specs.Answers.{Answers, all_shown}
use Rattle.demand_checks.specs.Judge.{TellOf}
use Rattle.use_check.specs.Wires.{until_claim}
use Rattle.use_check.proofs.wires.untils_hold.Given as goal

abbrev pub invariant-loop-act : goal.invariant-loop-act
invariant-loop-act l = (answers : Answers) → TellOf l.judge answers
    → all_shown answers (map (until_claim l.judge.deeds.items l.user l.site) (drop l.act-index l.acts)) ≡ all_shown answers (map (until_claim l.judge.deeds.items l.user l.site) l.acts)

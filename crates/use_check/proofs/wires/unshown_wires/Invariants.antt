-- The records so far, and those of what is left.
use Rattle.std.proofs.Common.{◌≡◌, ◌++◌, drop}
use Rattle.demand_checks.specs.Answers.{Answers}
use Rattle.demand_checks.specs.Judge.{TellOf, process_at}
use Rattle.demand_checks.specs.Rests.{pair_of}
use Rattle.demand_checks.specs.Unshown.{unshown}
use Rattle.use_check.specs.Wires.{wire_claims}
use Rattle.use_check.proofs.wires.unshown_wires.Given as goal

abbrev pub invariant-loop-rest : goal.invariant-loop-rest
invariant-loop-rest l = (answers : Answers) → TellOf l.judge answers
    → l.pairs.items ++ unshown pair_of (wire_claims (process_at l.judge) l.judge.deeds.items) answers (drop l.rest-index l.rests)
    ≡ unshown pair_of (wire_claims (process_at l.judge) l.judge.deeds.items) answers l.rests

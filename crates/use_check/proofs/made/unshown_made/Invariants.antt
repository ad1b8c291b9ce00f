-- The records so far, and those of what is left.
use Rattle.std.proofs.Common.{◌≡◌, ◌++◌, drop}
use Rattle.demand_checks.specs.Answers.{Answers}
use Rattle.demand_checks.specs.Judge.{TellOf}
use Rattle.demand_checks.specs.Unshown.{unshown}
use Rattle.use_check.specs.Made.{made_claims, own_pair}
use Rattle.use_check.proofs.made.unshown_made.Given as goal

abbrev pub invariant-loop-read : goal.invariant-loop-read
invariant-loop-read l = (answers : Answers) → TellOf l.judge answers
    → l.pairs.items ++ unshown own_pair made_claims answers (drop l.read-index l.reads) ≡ unshown own_pair made_claims answers l.reads

-- All ends so far hold, so those that are left decide.
use Rattle.std.proofs.Common.{◌≡◌, drop}
use Rattle.core_term.specs.Process.{life_of}
use Rattle.demand_checks.specs.Answers.{Answers, all_shown}
use Rattle.demand_checks.specs.Judge.{TellOf, process_at}
use Rattle.use_check.specs.Wires.{ends_claims}
use Rattle.use_check.proofs.wires.ends_hold.Given as goal

abbrev pub invariant-loop-index : goal.invariant-loop-index
invariant-loop-index l = (answers : Answers) → TellOf l.judge answers
    → all_shown answers (ends_claims l.judge.deeds.items l.user l.site (drop l.index (life_of (process_at l.judge) l.port)))
    ≡ all_shown answers (ends_claims l.judge.deeds.items l.user l.site (life_of (process_at l.judge) l.port))

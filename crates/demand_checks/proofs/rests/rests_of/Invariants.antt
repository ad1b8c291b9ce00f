-- The uses of the sites so far are there.
use Rattle.core_term.specs.Widths.{Widths}
use Rattle.core_term.specs.View.{term_of}
use Rattle.demand_checks.specs.Rests.{AreRestsTo}
use Rattle.demand_checks.proofs.rests.rests_of.Given as goal

abbrev pub invariant-loop-user : goal.invariant-loop-user
invariant-loop-user l = (widths : Widths) → AreRestsTo l.user (term_of widths l.thread) l.rests.items

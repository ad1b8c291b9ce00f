-- The ends of the sites so far.
use Rattle.std.proofs.Common.{◌≡◌, ◌<◌, ℕ, length}
use Rattle.core_term.specs.Widths.{Widths}
use Rattle.core_term.specs.View.{term_of}
use Rattle.core_term.specs.Points.{End}
use Rattle.machine_parts.specs.Parts.{node_at}
use Rattle.machine_parts.specs.Plans.{node_of}
use Rattle.turn_plans.proofs.ends.ends_of.Given as goal

abbrev pub invariant-loop-site : goal.invariant-loop-site
invariant-loop-site l = record {
  count : length l.ends.items ≡ l.site;
  at : (widths : Widths) (place : ℕ) → place < l.site → node_at l.ends.items place ≡ node_of (term_of widths l.thread) (End place);
}

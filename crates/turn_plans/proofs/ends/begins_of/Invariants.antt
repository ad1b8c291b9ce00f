-- The begins of the sites so far.
use Rattle.std.proofs.Common.{◌≡◌, ◌<◌, ℕ, length}
use Rattle.core_term.specs.Widths.{Widths}
use Rattle.core_term.specs.View.{term_of}
use Rattle.core_term.specs.Points.{Begin}
use Rattle.machine_parts.specs.Parts.{node_at}
use Rattle.machine_parts.specs.Plans.{node_of}
use Rattle.turn_plans.proofs.ends.begins_of.Given as goal

abbrev pub invariant-loop-site : goal.invariant-loop-site
invariant-loop-site l = record {
  count : length l.begins.items ≡ l.site;
  at : (widths : Widths) (place : ℕ) → place < l.site → node_at l.begins.items place ≡ node_of (term_of widths l.thread) (Begin place);
}

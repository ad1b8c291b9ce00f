-- The ends so far hold, and their numbers are those of the code.
use Rattle.std.proofs.Common.{◌≡◌, map, take}
use Rattle.core_term.specs.ProcessView.{end_of_life}
use Rattle.exchanges.specs.Next.{Bounded, ends_hold}
use Rattle.exchanges.proofs.latest.all_ends_hold.Given as goal

abbrev pub invariant-loop-end : goal.invariant-loop-end
invariant-loop-end l = record {
  holds : l.holds ≡ ends_hold l.exchanged l.age (map end_of_life (take l.end-index l.ends));
  bounded : Bounded (map end_of_life (take l.end-index l.ends));
}

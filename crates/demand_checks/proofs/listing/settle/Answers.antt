-- Sorted and without repeats.
use Rattle.demand_checks.proofs.PairOrder.{ascending, only_has, still_has}
use Rattle.demand_checks.proofs.listing.settle.Goals as goal

pub returns : goal.returns
returns c = record {
  ascending = ascending _ c.sort_once.ensures.sorted;
  sound = only_has _ _ c.sort_once.ensures.sound;
  whole = still_has _ _ c.sort_once.ensures.whole;
}

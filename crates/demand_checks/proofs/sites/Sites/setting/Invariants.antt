-- The numbers of the deeds so far.
use Rattle.std.proofs.Common.{◌≡◌, map}
use Rattle.std.proofs.Math.ListN.{take}
use Rattle.demand_checks.specs.Sites.{register_of}
use Rattle.demand_checks.proofs.sites.Sites.setting.Given as goal

abbrev pub invariant-loop-deed : goal.invariant-loop-deed
invariant-loop-deed l = l.numbers.items ≡ map register_of (take l.deed-index l.deeds)

-- The atoms so far stand at the end.
use Rattle.std.proofs.Common.{◌≡◌, ◌++◌, map}
use Rattle.std.proofs.Math.ListN.{take}
use Rattle.demand_checks.specs.Rests.{rest}
use Rattle.demand_checks.proofs.rests.add_rests.Given as goal

abbrev pub invariant-loop-atom : goal.invariant-loop-atom
invariant-loop-atom l = l.rests.items ≡ l.fn.rests.items ++ map (rest l.user) (take l.atom-index l.atoms)

-- The acts so far are set back, and the others are as they were.
use Rattle.std.proofs.Common.{◌≡◌, take}
use Rattle.sim_laws.specs.Passes.{cleared}
use Rattle.source_sim.proofs.passes.clear.Given as goal

abbrev pub invariant-loop-index : goal.invariant-loop-index
invariant-loop-index l = record {
  same : cleared l.acts ≡ cleared l.fn.acts;
  before : take l.index l.acts ≡ take l.index (cleared l.fn.acts);
}

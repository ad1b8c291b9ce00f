-- What the acts that are left write to these registers is what all write.
use Rattle.std.proofs.Common.{◌≡◌, drop}
use Rattle.sim_laws.specs.Passes.{write_all as all_written}
use Rattle.source_sim.proofs.passes.write_all.Given as goal

abbrev pub invariant-loop-act : goal.invariant-loop-act
invariant-loop-act l = record {
  left : all_written (drop l.act-index l.acts) l.nexts ≡ all_written l.acts l.fn.nexts;
}

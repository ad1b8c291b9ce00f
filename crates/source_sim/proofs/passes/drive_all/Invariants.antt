-- What the acts that are left drive on these ports is what all drive.
use Rattle.std.proofs.Common.{◌≡◌, drop}
use Rattle.sim_laws.specs.Passes.{drive_all as all_driven}
use Rattle.source_sim.proofs.passes.drive_all.Given as goal

abbrev pub invariant-loop-act : goal.invariant-loop-act
invariant-loop-act l = record {
  left : all_driven (drop l.act-index l.acts) l.drives ≡ all_driven l.acts l.fn.drives;
}

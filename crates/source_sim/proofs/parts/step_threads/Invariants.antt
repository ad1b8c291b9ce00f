-- The threads so far went on, and the others are as they were.
use Rattle.std.proofs.Common.{◌≡◌, take, drop, length}
use Rattle.sim_laws.specs.Kept.{AllReady, all_stepped}
use Rattle.source_sim.proofs.parts.step_threads.Given as goal

abbrev pub invariant-loop-index : goal.invariant-loop-index
invariant-loop-index l = record {
  done : take l.index l.threads ≡ take l.index (all_stepped l.proc.ports.items l.proc.regs.items l.cells l.registers l.begun l.proc.threads.items l.fn.threads);
  rest : drop l.index l.threads ≡ drop l.index l.fn.threads;
  ready : AllReady l.proc.ports.items l.proc.regs.items (length l.registers) l.proc.threads.items l.threads;
}

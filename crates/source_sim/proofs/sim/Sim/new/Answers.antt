-- What is kept at the start goes with the bodies of the process, and stands after no rows.
use Rattle.std.proofs.Common.{◌∙◌, ap, length}
use Rattle.source_sim.proofs.Fills.{ports_few}
use Rattle.source_sim.proofs.Starts.{Begun, ready_first, bodies_first, registers_first, latests_count_first, latests_wide_first, stands_first}
use Rattle.source_sim.proofs.sim.Sim.new.Goals as goal

pub start_latests-requires : goal.start_latests-requires
start_latests-requires c = rw c.as_slice-ports.ensures.value (ports_few c.args.proc.now.name c.args.proc.now.ports.items c.args.proc.now.regs.items c.args.proc.now.threads.items c.args.proc.now.sized).1

abbrev begun : (c : goal.In_ok-exchanged) → Begun
begun c = record {
  name = c.args.proc.now.name;
  ports = c.args.proc.now.ports.items;
  regs = c.args.proc.now.regs.items;
  bodies = c.args.proc.now.threads.items;
  sized = c.args.proc.now.sized;
  process = c.stands.ensures;
  threads = c.in_ok-threads.threads.items;
  registers = c.in_ok-registers.registers.items;
  latests = c.in_ok-latests.latests.items;
  threads_are = rw (c.as_slice-ports.ensures.value, c.as_slice-regs.ensures.value, c.as_slice.ensures.value) at c.in_ok-threads.ensures;
  registers_are = rw c.as_slice-regs.ensures.value at c.in_ok-registers.ensures;
  latests_are = rw c.as_slice-ports.ensures.value at c.in_ok-latests.ensures;
}

pub invariant_of-result : goal.invariant_of-result
invariant_of-result c = record {
  ready = ready_first (begun c);
  bodies = bodies_first (begun c);
  registers = registers_first (begun c);
  lives = c.in_ok-lives.ensures;
  latests = latests_count_first (begun c);
  latests_wide = latests_wide_first (begun c);
  drives = c.in_ok-drives.ensures ∙ ap (λ l. length l) c.as_slice-ports.ensures.value;
  exchanged = c.in_ok-exchanged.ensures ∙ ap (λ l. length l) c.as_slice-ports.ensures.value;
}

pub returns-clause-stands : goal.returns-clause-stands
returns-clause-stands c = stands_first (begun c)

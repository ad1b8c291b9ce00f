-- One thread more goes on.
use Rattle.std.proofs.Common.{◌≡◌, ◌+◌, ◌<◌, arith, length}
use Rattle.sim_laws.specs.Kept.{all_stepped}
use Rattle.source_sim.proofs.Fills.{fill_step, fill_done, rest_step, ready_count, ready_here, set_here, step_here, stepped_count}
use Rattle.source_sim.proofs.parts.step_threads.Goals as goal

pub index-requires : goal.index-requires
index-requires c =
    let count = ready_count c.args.proc.now.ports.items c.args.proc.now.regs.items (length c.args.registers.now) c.args.proc.now.threads.items c.args.threads.now c.requires.ready in
    let items : c.args.proc.now.threads.len ≡ length c.args.proc.now.threads.items = c.args.proc.now.threads.ok.0 in
    omega (arith, count, items, c.loop-index-test.true)

pub step-requires-clause-ready : goal.step-requires-clause-ready
step-requires-clause-ready c =
    ready_here c.args.proc.now.ports.items c.as_slice-ports.result.now c.args.proc.now.regs.items c.as_slice-regs.result.now c.args.registers.now c.args.proc.now.threads.items c.body-body.result.now c.index.result.now
    c.as_slice-ports.ensures.value c.as_slice-regs.ensures.value c.body-body.ensures.same c.loop-index.threads c.loop-index.index c.index-threads-index.result c.loop-index.invariant.ready (omega (arith, c.loop-index.auto.threads)) c.index.ensures c.index-threads-index.is

pub loop-index-preserved : goal.loop-index-preserved
loop-index-preserved c =
    let count = ready_count c.args.proc.now.ports.items c.args.proc.now.regs.items (length c.args.registers.now) c.args.proc.now.threads.items c.args.threads.now c.requires.ready in
    let target = all_stepped c.args.proc.now.ports.items c.args.proc.now.regs.items c.args.cells.now c.args.registers.now c.args.begun c.args.proc.now.threads.items c.args.threads.now in
    let long = stepped_count c.args.proc.now.ports.items c.args.proc.now.regs.items c.args.cells.now c.args.registers.now c.args.begun c.args.proc.now.threads.items c.args.threads.now count in
    let less : c.loop-index.index < length c.loop-index.threads = omega (arith, c.loop-index.auto.threads) in
    record {
      done = fill_step c.loop-index.threads target c.loop-index.index (c.loop-index.index + 1) c.step.new.self (omega arith) less (omega (arith, c.loop-index.auto.threads, long)) c.loop-index.invariant.done
          (step_here c.args.proc.now.ports.items c.as_slice-ports.result.now c.args.proc.now.regs.items c.as_slice-regs.result.now c.args.registers.now c.args.proc.now.threads.items c.body-body.result.now c.index.result.now
          c.as_slice-ports.ensures.value c.as_slice-regs.ensures.value c.body-body.ensures.same c.args.cells.now c.args.begun c.loop-index.threads c.args.threads.now c.loop-index.index c.index-threads-index.result c.step.new.self
          count c.loop-index.auto.threads less c.loop-index.invariant.rest c.index.ensures c.index-threads-index.is c.step.ensures.next);
      rest = rest_step c.loop-index.threads c.args.threads.now c.loop-index.index (c.loop-index.index + 1) c.step.new.self (omega arith) less c.loop-index.auto.threads c.loop-index.invariant.rest;
      ready = set_here c.args.proc.now.ports.items c.as_slice-ports.result.now c.args.proc.now.regs.items c.as_slice-regs.result.now c.args.registers.now c.args.proc.now.threads.items c.body-body.result.now c.index.result.now
          c.as_slice-ports.ensures.value c.as_slice-regs.ensures.value c.body-body.ensures.same c.loop-index.threads c.loop-index.index c.step.new.self c.loop-index.invariant.ready less c.index.ensures c.step.ensures.ready;
    }

pub returns-clause-next : goal.returns-clause-next
returns-clause-next c =
    let count = ready_count c.args.proc.now.ports.items c.args.proc.now.regs.items (length c.args.registers.now) c.args.proc.now.threads.items c.args.threads.now c.requires.ready in
    let target = all_stepped c.args.proc.now.ports.items c.args.proc.now.regs.items c.args.cells.now c.args.registers.now c.args.begun c.args.proc.now.threads.items c.args.threads.now in
    let long = stepped_count c.args.proc.now.ports.items c.args.proc.now.regs.items c.args.cells.now c.args.registers.now c.args.begun c.args.proc.now.threads.items c.args.threads.now count in
    fill_done c.loop-index.threads target c.loop-index.index (omega (arith, c.loop-index.auto.threads, c.loop-index-test.false)) (omega (arith, c.loop-index.auto.threads, long)) c.loop-index.invariant.done

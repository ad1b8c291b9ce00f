-- Before the first row, one line more, a line that was cut, and all lines.
use Rattle.std.proofs.Common.{◌≤◌, ◌∙◌, ◌+◌, ℕ, List, [], Option, Some, None, append-nil, subst, sym, refl, arith}
use Rattle.std.specs.Io.KnownBytes.{Appends}
use Rattle.anvil_io.specs.Causes.{AppendsPrefix, Rose}
use Rattle.anvil_io.proofs.PieceLemmas.{appends_then, prefix_then}
use Rattle.core_term.specs.LogText.{log_line}
use Rattle.core_term.specs.ProcessView.{process_of}
use Rattle.stim_text.specs.declared.seen.Seen.TheVariants.{Kept}
use Rattle.run_log.specs.Log.{log_to}
use Rattle.run_log.specs.Running.{IsCycle}
use Rattle.run_log.proofs.Cycles.{log_more, starts}
use Rattle.run_log.proofs.log.put_lines.Goals as goal

appends_nothing : (held : Option (List ℕ)) → Appends held held []
appends_nothing None = tt
appends_nothing (Some bytes) = sym (append-nil bytes)

pub loop-index-init : goal.loop-index-init
loop-index-init g c =
    let p = process_of c.args.proc.now.name c.args.proc.now.ports.items c.args.proc.now.regs.items c.args.proc.now.threads.items in (
      c.requires.same,
      c.requires.ready,
      c.requires.watch,
      c.requires.places,
      λ seen on_rows stands.
          (stands, starts p seen c.args.rows.now c.args.watch.now c.requires.fit on_rows c.requires.starts, λ t less. absurd (omega arith), appends_nothing (g.O.Sink.held c.args.out.now), refl),
    )

pub returns-in-Err : goal.returns-in-Err
returns-in-Err g c = λ seen on_rows starts_run.
    let p = process_of c.args.proc.now.name c.args.proc.now.ports.items c.args.proc.now.regs.items c.args.proc.now.threads.items in
    let n = c.loop-index.index in
    let (same, ready, watch, places, so_far) = c.loop-index.invariant in
    let (stands, standing, kept, appended, fine) = so_far seen on_rows starts_run in
    let cut = c.in-Err.ensures.cycle c.args.rows.now seen n (omega arith) c.index-rows-index.is stands standing in
    record {
      lines = n + 1;
      within = omega arith;
      kept = cut.kept;
      part = subst (AppendsPrefix (g.O.Sink.held c.args.out.now) (g.O.Sink.held c.put_cycle.new.out)) (sym (log_more p seen n))
          (prefix_then (g.O.Sink.held c.args.out.now) (g.O.Sink.held c.loop-index.out) (g.O.Sink.held c.put_cycle.new.out) (log_to p seen n)
          (log_line p seen.wires seen.registers n) appended cut.part);
      cause = subst (λ before. Rose before (g.O.Sink.faults c.put_cycle.new.out)) fine cut.cause;
      later = subst (λ before. before ≤ g.O.Sink.faults c.put_cycle.new.out) fine cut.later;
    }

pub loop-index-preserved : goal.loop-index-preserved
loop-index-preserved g c =
    let p = process_of c.args.proc.now.name c.args.proc.now.ports.items c.args.proc.now.regs.items c.args.proc.now.threads.items in
    let n = c.loop-index.index in
    let (same, ready, watch, places, so_far) = c.loop-index.invariant in (
      c.put_cycle.ensures.same ∙ same,
      c.put_cycle.ensures.ready,
      c.put_cycle.ensures.watch,
      c.put_cycle.ensures.places,
      λ seen on_rows starts_run.
          let (stands, standing, kept, appended, fine) = so_far seen on_rows starts_run in
          let cycle : IsCycle p seen c.args.rows.now n Kept c.put_cycle.new.watch (g.O.Sink.held c.loop-index.out) (g.O.Sink.held c.put_cycle.new.out) (g.O.Sink.faults c.loop-index.out) (g.O.Sink.faults c.put_cycle.new.out) =
          rw c.in-Ok-Kept.field-0-is at c.in-Ok-Kept.ensures.cycle c.args.rows.now seen n (omega arith) c.index-rows-index.is stands standing in
          let (standing_now, kept_now, line, same_faults) = cycle in (
            c.put_cycle.ensures.stands c.args.rows.now seen n (omega arith) c.index-rows-index.is stands,
            standing_now,
            kept_now,
            subst (Appends (g.O.Sink.held c.args.out.now) (g.O.Sink.held c.put_cycle.new.out)) (sym (log_more p seen n))
                (appends_then (g.O.Sink.held c.args.out.now) (g.O.Sink.held c.loop-index.out) (g.O.Sink.held c.put_cycle.new.out) (log_to p seen n)
                (log_line p seen.wires seen.registers n) appended line),
            same_faults ∙ fine,
          ),
    )

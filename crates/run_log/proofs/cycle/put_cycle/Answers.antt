-- One cycle, by the lemmas of `Cycles`.
use Rattle.std.proofs.Common.{◌≡◌, ◌∙◌, map, take, subst, sym, refl}
use Rattle.std.proofs.Math.ListN.{length-map}
use Rattle.std.specs.Io.KnownBytes.{Appends}
use Rattle.anvil_io.specs.Causes.{AppendsPrefix}
use Rattle.core_term.specs.Process.{Process}
use Rattle.core_term.specs.ProcessView.{port_of, process_of}
use Rattle.core_term.specs.Rows.{cells_shown, registers_shown}
use Rattle.run_log.specs.Ports.{port_wires}
use Rattle.run_log.proofs.RowsTaken.{cells_long, long}
use Rattle.run_log.proofs.Cycles.{out_fits, shows, kept_now, stands_now, line_now, breach_now}
use Rattle.run_log.proofs.cycle.put_cycle.Goals as goal

pub step-requires-2-clause-row : goal.step-requires-2-clause-row
step-requires-2-clause-row g c = cells_long (map port_of c.args.proc.now.ports.items) c.args.row.now.cells.items c.requires.row ∙ sym c.requires.watch.lives

pub put_row-requires-clause-cells : goal.put_row-requires-clause-cells
put_row-requires-clause-cells g c = cells_long (map port_of c.args.proc.now.ports.items) c.args.row.now.cells.items c.requires.row ∙ length-map c.args.proc.now.ports.items port_of

pub returns-in-Broken-clause-cycle : goal.returns-in-Broken-clause-cycle
returns-in-Broken-clause-cycle g c = λ rows seen n inside is stands standing.
    let p = process_of c.args.proc.now.name c.args.proc.now.ports.items c.args.proc.now.regs.items c.args.proc.now.threads.items in
    let row = c.args.row.now in
    let out = c.step.new.out in
    let cells : out.cells.items ≡ cells_shown seen.wires n 0 p.ports =
    subst (λ (q : Process). out.cells.items ≡ cells_shown seen.wires n 0 q.ports) c.requires.same (c.step.ensures.cells rows seen n inside is stands) in
    let fits = out_fits p seen rows n row inside is c.args.watch.now out standing cells in (
      breach_now p seen rows n row inside is c.args.watch.now out standing cells c.in-Broken.port
          (c.step-2.ensures.broken p (take n rows) standing.outs c.in-Broken.port c.requires.row fits standing.watched c.in-Broken.is),
      record { same = refl; fine = refl },
    )

pub returns-in-Ok-clause-cycle : goal.returns-in-Ok-clause-cycle
returns-in-Ok-clause-cycle g c = λ rows seen n inside is stands standing.
    let p = process_of c.args.proc.now.name c.args.proc.now.ports.items c.args.proc.now.regs.items c.args.proc.now.threads.items in
    let row = c.args.row.now in
    let out = c.step.new.out in
    let cells : out.cells.items ≡ cells_shown seen.wires n 0 p.ports =
    subst (λ (q : Process). out.cells.items ≡ cells_shown seen.wires n 0 q.ports) c.requires.same (c.step.ensures.cells rows seen n inside is stands) in
    let regs : out.regs.items ≡ registers_shown seen.registers n 0 p.registers =
    subst (λ (q : Process). out.regs.items ≡ registers_shown seen.registers n 0 q.registers) c.requires.same (c.step.ensures.regs rows seen n inside is stands) in
    let fits = out_fits p seen rows n row inside is c.args.watch.now out standing cells in
    let shows_now = shows p seen rows n row inside is c.args.watch.now out standing cells in
    let watched = c.step-2.ensures.kept p (take n rows) standing.outs c.requires.row fits standing.watched c.in-Kept.is in
    let line = c.in-Ok.ensures.line (take n rows) standing.outs (port_wires p seen.wires) seen.registers c.requires.row fits watched shows_now
    (subst (λ t. out.regs.items ≡ registers_shown seen.registers t 0 p.registers) (sym (long rows n row inside is)) regs)
    ∙ line_now p seen rows n row inside is c.args.watch.now out standing cells in
    (stands_now p seen rows n row inside is c.args.watch.now out standing cells c.step-2.new.self watched, kept_now p seen rows n row inside is c.args.watch.now out standing cells c.step-2.new.self watched, subst (λ text. Appends (g.O.Sink.held c.args.out.now) (g.O.Sink.held c.put_row.new.to) text) line c.in-Ok.ensures.put.whole, c.in-Ok.ensures.put.fine)

pub returns-in-Err-clause-cycle : goal.returns-in-Err-clause-cycle
returns-in-Err-clause-cycle g c = λ rows seen n inside is stands standing.
    let p = process_of c.args.proc.now.name c.args.proc.now.ports.items c.args.proc.now.regs.items c.args.proc.now.threads.items in
    let row = c.args.row.now in
    let out = c.step.new.out in
    let cells : out.cells.items ≡ cells_shown seen.wires n 0 p.ports =
    subst (λ (q : Process). out.cells.items ≡ cells_shown seen.wires n 0 q.ports) c.requires.same (c.step.ensures.cells rows seen n inside is stands) in
    let regs : out.regs.items ≡ registers_shown seen.registers n 0 p.registers =
    subst (λ (q : Process). out.regs.items ≡ registers_shown seen.registers n 0 q.registers) c.requires.same (c.step.ensures.regs rows seen n inside is stands) in
    let fits = out_fits p seen rows n row inside is c.args.watch.now out standing cells in
    let shows_now = shows p seen rows n row inside is c.args.watch.now out standing cells in
    let watched = c.step-2.ensures.kept p (take n rows) standing.outs c.requires.row fits standing.watched c.in-Kept.is in
    let line = c.in-Err.ensures.line (take n rows) standing.outs (port_wires p seen.wires) seen.registers c.requires.row fits watched shows_now
    (subst (λ t. out.regs.items ≡ registers_shown seen.registers t 0 p.registers) (sym (long rows n row inside is)) regs)
    ∙ line_now p seen rows n row inside is c.args.watch.now out standing cells in
    record {
      kept = kept_now p seen rows n row inside is c.args.watch.now out standing cells c.step-2.new.self watched;
      part = subst (λ text. AppendsPrefix (g.O.Sink.held c.args.out.now) (g.O.Sink.held c.put_row.new.to) text) line c.in-Err.ensures.put.part;
      cause = c.in-Err.ensures.put.cause;
      later = c.in-Err.ensures.put.later;
    }

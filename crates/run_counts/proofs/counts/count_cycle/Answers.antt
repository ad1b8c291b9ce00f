-- One cycle of the machine is one cycle of what is seen of its module on the rows.
use Rattle.std.proofs.Common.{◌∙◌, ◌≤◌, length, map, take, subst, sym, ap}
use Rattle.core_term.specs.Limits.{most_ports}
use Rattle.core_term.specs.ProcessView.{port_of, process_of}
use Rattle.run_log.proofs.RowsTaken.{cells_long}
use Rattle.sv_meaning.specs.Shown as machine
use Rattle.module_log.proofs.ModuleRows.{row_fits_module, places_of_module, places_of_process}
use Rattle.module_log.proofs.OnRows.{on_rows}
use Rattle.run_log.specs.OnRows.{IsOnRows}
use Rattle.run_counts.specs.Cells.{meetings}
use Rattle.run_counts.proofs.CycleSeen.{stands_after, cells_seen, registers_seen}
use Rattle.run_counts.proofs.Few.{few_ports}
use Rattle.run_counts.proofs.Seen.{row_meets}
use Rattle.run_counts.proofs.counts.count_cycle.Goals as goal

pub step-requires-clause-row : goal.step-requires-clause-row
step-requires-clause-row c =
    let p = process_of c.args.proc.now.name c.args.proc.now.ports.items c.args.proc.now.regs.items c.args.proc.now.threads.items in
    row_fits_module p c.args.machine.now.tree c.requires.ready.ports c.args.row.now c.requires.row

pub step-requires-clause-places : goal.step-requires-clause-places
step-requires-clause-places c =
    let p = process_of c.args.proc.now.name c.args.proc.now.ports.items c.args.proc.now.regs.items c.args.proc.now.threads.items in
    places_of_module p c.args.machine.now.tree c.requires.ready.ports c.args.shown.now c.requires.places

pub count_met-requires-clause-same : goal.count_met-requires-clause-same
count_met-requires-clause-same c =
    let p = process_of c.args.proc.now.name c.args.proc.now.ports.items c.args.proc.now.regs.items c.args.proc.now.threads.items in
    let places = places_of_process p c.args.machine.now.tree c.requires.ready.ports c.step.new.out
    (subst (λ tree. machine.HasPlaces tree c.step.new.out) c.step.ensures.same_module c.step.ensures.places) in
    ap length c.as_slice.ensures.value ∙ cells_long (map port_of c.args.proc.now.ports.items) c.args.row.now.cells.items c.requires.row
    ∙ sym places.0 ∙ sym (ap length c.as_slice-2.ensures.value)

pub count_met-requires-clause-few : goal.count_met-requires-clause-few
count_met-requires-clause-few c =
    let proc = c.args.proc.now in
    let long = ap length c.as_slice.ensures.value ∙ cells_long (map port_of proc.ports.items) c.args.row.now.cells.items c.requires.row in
    subst (λ count. count ≤ most_ports) (sym long) (few_ports proc.name proc.ports.items proc.regs.items proc.threads.items proc.sized)

pub returns-clause-places : goal.returns-clause-places
returns-clause-places c =
    let p = process_of c.args.proc.now.name c.args.proc.now.ports.items c.args.proc.now.regs.items c.args.proc.now.threads.items in
    places_of_process p c.args.machine.now.tree c.requires.ready.ports c.step.new.out
    (subst (λ tree. machine.HasPlaces tree c.step.new.out) c.step.ensures.same_module c.step.ensures.places)

pub returns-clause-stands : goal.returns-clause-stands
returns-clause-stands c = λ rows seen n inside is before.
    let p = process_of c.args.proc.now.name c.args.proc.now.ports.items c.args.proc.now.regs.items c.args.proc.now.threads.items in
    stands_after p c.args.machine.now c.requires.ready rows seen n c.args.row.now inside is before c.step.new.self c.step.ensures.same_module
    (c.step.ensures.stands (take n rows))

pub returns-clause-exchanges : goal.returns-clause-exchanges
returns-clause-exchanges c = λ rows seen n inside is before.
    let p = process_of c.args.proc.now.name c.args.proc.now.ports.items c.args.proc.now.regs.items c.args.proc.now.threads.items in
    let row = c.args.row.now in
    let cells = cells_seen p c.args.machine.now c.requires.ready rows seen n row inside is before c.step.new.out
    (c.step.ensures.cells (take n rows) before.stands) in
    let comes = subst (IsOnRows p rows) (sym before.same) (on_rows p c.args.machine.now.tree rows) in
    c.count_met.ensures.count
    ∙ ((λ i. meetings (c.as_slice.ensures.value i) ((c.as_slice-2.ensures.value ∙ cells) i))
    ∙ row_meets p seen rows comes n row inside is c.requires.row)

pub returns-clause-registers : goal.returns-clause-registers
returns-clause-registers c = λ rows seen n inside is before.
    let p = process_of c.args.proc.now.name c.args.proc.now.ports.items c.args.proc.now.regs.items c.args.proc.now.threads.items in
    registers_seen p c.args.machine.now c.requires.ready rows seen n c.args.row.now inside is before c.step.new.out
    (c.step.ensures.regs (take n rows) before.stands)

-- One cycle of the machine is one cycle of what is seen of its module on the rows.
use Rattle.std.proofs.Common.{◌≡◌, ◌∷◌, [], ◌++◌, List, ℕ, length, get_or, ◌<◌, take, subst, sym}
use Rattle.core_term.specs.declared.rows.Row.{Row}
use Rattle.core_term.specs.Rows.{cells_shown, registers_shown, inputs_of}
use Rattle.machine_meaning.specs.ModuleRun.{shown_registers, shown_wires}
use Rattle.run_log.proofs.RowsTaken.{more, long}
use Rattle.run_log.proofs.RowsTaken as taken
use Rattle.sv_meaning.specs.Rows.{BeginsWith}
use Rattle.sv_meaning.specs.Shown.{cells_of, sources_of}
use Rattle.sv_meaning.specs.Shown as machine
use Rattle.sv_meaning.specs.Stands.{StandsAfter}
use Rattle.sv_tree.specs.Clocked.{outputs_at, registers_at}
use Rattle.module_log.specs.Log.{module_shown}
use Rattle.module_log.specs.Runs.{process_in}
use Rattle.module_log.proofs.ModuleRows.{row_fits_module, places_of_module, places_of_process}
use Rattle.module_log.proofs.ModuleShows.{outputs_shown, sources_shown}
use Rattle.module_log.proofs.run.ModuleRunRun.step.Goals as goal

pub step-requires-clause-row : goal.step-requires-clause-row
step-requires-clause-row c = row_fits_module (process_in c.args.self.now) c.args.self.now.machine.tree c.requires.ready.ports c.args.row.now c.requires.row

pub step-requires-clause-places : goal.step-requires-clause-places
step-requires-clause-places c = places_of_module (process_in c.args.self.now) c.args.self.now.machine.tree c.requires.ready.ports c.args.out.now c.requires.places

pub returns-clause-places : goal.returns-clause-places
returns-clause-places c =
    places_of_process (process_in c.args.self.now) c.args.self.now.machine.tree c.requires.ready.ports c.step.new.out
    (subst (λ tree. machine.HasPlaces tree c.step.new.out) c.step.ensures.same_module c.step.ensures.places)

begins : (rows : List Row) (n : ℕ) (row : Row) → n < length rows → row ≡ get_or rows n row → BeginsWith (inputs_of rows) (take n rows ++ row ∷ [])
begins rows n row inside is =
    let same = taken.begins rows n row inside is in
    record { valid = same.valid; data_at = same.data_at; ack = same.ack }

pub returns-clause-stands : goal.returns-clause-stands
returns-clause-stands c = λ rows shown n inside is before.
    let p = process_in c.args.self.now in
    let row = c.args.row.now in
    record {
      same = subst (λ tree. shown ≡ module_shown p tree rows) (sym c.step.ensures.same_module) before.same;
      stands = subst (λ these. StandsAfter these c.step.new.self) (sym (more rows n row inside is)) (c.step.ensures.stands (take n rows) before.stands);
    }

pub returns-clause-cells : goal.returns-clause-cells
returns-clause-cells c = λ rows shown n inside is before.
    let p = process_in c.args.self.now in
    let tree = c.args.self.now.machine.tree in
    let row = c.args.row.now in
    let cells = c.step.ensures.cells (take n rows) before.stands (inputs_of rows) (begins rows n row inside is) in
    let at_n : c.step.new.out.cells.items ≡ cells_of tree.ports (outputs_at tree (inputs_of rows) n) =
    subst (λ t. c.step.new.out.cells.items ≡ cells_of tree.ports (outputs_at tree (inputs_of rows) t)) (long rows n row inside is) cells in
    let shows : c.step.new.out.cells.items ≡ cells_shown (shown_wires p tree (inputs_of rows)) n 0 p.ports =
    subst (λ items. c.step.new.out.cells.items ≡ items) (outputs_shown p tree (inputs_of rows) n c.requires.ready.ports c.requires.ready.well_formed) at_n in
    subst (λ seen. c.step.new.out.cells.items ≡ cells_shown seen.wires n 0 p.ports) (sym before.same) shows

pub returns-clause-regs : goal.returns-clause-regs
returns-clause-regs c = λ rows shown n inside is before.
    let p = process_in c.args.self.now in
    let tree = c.args.self.now.machine.tree in
    let row = c.args.row.now in
    let regs = c.step.ensures.regs (take n rows) before.stands (inputs_of rows) (begins rows n row inside is) in
    let at_n : c.step.new.out.regs.items ≡ sources_of tree.regs (registers_at tree (inputs_of rows) n) =
    subst (λ t. c.step.new.out.regs.items ≡ sources_of tree.regs (registers_at tree (inputs_of rows) t)) (long rows n row inside is) regs in
    let shows : c.step.new.out.regs.items ≡ registers_shown (shown_registers p tree (inputs_of rows)) n 0 p.registers =
    subst (λ items. c.step.new.out.regs.items ≡ items) (sources_shown p tree (inputs_of rows) n c.requires.ready.ports c.requires.ready.well_formed) at_n in
    subst (λ seen. c.step.new.out.regs.items ≡ registers_shown seen.registers n 0 p.registers) (sym before.same) shows

-- One cycle of the simulation is one cycle of what is seen of the source run on the rows.
use Rattle.std.proofs.Common.{◌≡◌, ◌+◌, take, subst, sym}
use Rattle.core_term.specs.Rows.{cells_shown, registers_shown, inputs_of}
use Rattle.sim_laws.specs.Stands.{StandsAfter}
use Rattle.source_sim.specs.Seen.{process_in}
use Rattle.run_log.proofs.RowsTaken.{more, long, begins}
use Rattle.source_log.specs.Log.{registers_on, shown_on, wires_on}
use Rattle.source_log.proofs.run.SourceRunRun.step.Goals as goal

pub returns-clause-stands : goal.returns-clause-stands
returns-clause-stands c = λ rows shown n inside is before.
    let p = process_in c.args.self.now.sim in
    let row = c.args.row.now in
    let after : StandsAfter p (take (n + 1) rows) c.step.new.self.state =
    subst (λ taken. StandsAfter p taken c.step.new.self.state) (sym (more rows n row inside is)) (c.step.ensures.stands (take n rows) before.stands) in
    record {
      same = subst (λ q. shown ≡ shown_on q rows) (sym c.step.ensures.same_process) before.same;
      stands = subst (λ q. StandsAfter q (take (n + 1) rows) c.step.new.self.state) (sym c.step.ensures.same_process) after;
    }

pub returns-clause-cells : goal.returns-clause-cells
returns-clause-cells c = λ rows shown n inside is before.
    let p = process_in c.args.self.now.sim in
    let row = c.args.row.now in
    let cells = c.step.ensures.cells (take n rows) before.stands (inputs_of rows) (begins rows n row inside is) in
    let at_n : c.step.new.out.cells.items ≡ cells_shown (wires_on p rows) n 0 p.ports =
    subst (λ t. c.step.new.out.cells.items ≡ cells_shown (wires_on p rows) t 0 p.ports) (long rows n row inside is) cells in
    subst (λ seen. c.step.new.out.cells.items ≡ cells_shown seen.wires n 0 p.ports) (sym before.same) at_n

pub returns-clause-regs : goal.returns-clause-regs
returns-clause-regs c = λ rows shown n inside is before.
    let p = process_in c.args.self.now.sim in
    let row = c.args.row.now in
    let regs = c.step.ensures.regs (take n rows) before.stands (inputs_of rows) (begins rows n row inside is) in
    let at_n : c.step.new.out.regs.items ≡ registers_shown (registers_on p rows) n 0 p.registers =
    subst (λ t. c.step.new.out.regs.items ≡ registers_shown (registers_on p rows) t 0 p.registers) (long rows n row inside is) regs in
    subst (λ seen. c.step.new.out.regs.items ≡ registers_shown seen.registers n 0 p.registers) (sym before.same) at_n

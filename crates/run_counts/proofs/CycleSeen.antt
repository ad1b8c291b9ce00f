-- One cycle of a machine, against what is seen of its module on the rows.
--
-- The claim: a machine that stands before a cycle shows in its step the cells and registers of that cycle. It is what the run of
-- a module says of its step (`module_log`), here of the machine itself.
use Rattle.std.proofs.Common.{◌≡◌, ◌<◌, ◌+◌, ◌∷◌, [], ◌++◌, List, ℕ, length, get_or, take, subst, sym}
use Rattle.core_term.specs.declared.rows.OutRow.{OutRow}
use Rattle.core_term.specs.declared.rows.Row.{Row}
use Rattle.core_term.specs.Process.{Process}
use Rattle.core_term.specs.Rows.{cells_shown, registers_shown, inputs_of}
use Rattle.machine_meaning.specs.ModuleRun.{shown_registers, shown_wires}
use Rattle.run_log.specs.Shown.{Shown}
use Rattle.run_log.proofs.RowsTaken.{more, long}
use Rattle.run_log.proofs.RowsTaken as taken
use Rattle.sv_meaning.specs.Rows.{BeginsWith}
use Rattle.sv_meaning.specs.Shown.{cells_of, sources_of, ShowsOutputs, ShowsSources}
use Rattle.sv_meaning.specs.Stands.{StandsAfter}
use Rattle.sv_meaning.specs.State.{State}
use Rattle.sv_tree.specs.Clocked.{outputs_at, registers_at}
use Rattle.module_log.specs.Log.{module_shown}
use Rattle.module_log.specs.Stands.{IsMachineOf, StandsBefore}
use Rattle.module_log.proofs.ModuleShows.{outputs_shown, sources_shown}

module _ (p : Process) (machine : State) (ready : IsMachineOf p machine) (rows : List Row) (seen : Shown) (n : ℕ) (row : Row)
    (inside : n < length rows) (is : row ≡ get_or rows n row) (before : StandsBefore p machine rows seen n) where
  begins : BeginsWith (inputs_of rows) (take n rows ++ row ∷ [])
  begins =
      let same = taken.begins rows n row inside is in
      record { valid = same.valid; data_at = same.data_at; ack = same.ack }

  pub stands_after : (later : State) → later.tree ≡ machine.tree
      → (StandsAfter (take n rows) machine → StandsAfter (take n rows ++ row ∷ []) later) → StandsBefore p later rows seen (n + 1)
  stands_after later same_module steps = record {
    same = subst (λ tree. seen ≡ module_shown p tree rows) (sym same_module) before.same;
    stands = subst (λ these. StandsAfter these later) (sym (more rows n row inside is)) (steps before.stands);
  }

  pub cells_seen : (out : OutRow) → ShowsOutputs (take n rows) row machine.tree out → out.cells.items ≡ cells_shown seen.wires n 0 p.ports
  cells_seen out shows =
      let tree = machine.tree in
      let at_n : out.cells.items ≡ cells_of tree.ports (outputs_at tree (inputs_of rows) n) =
      subst (λ t. out.cells.items ≡ cells_of tree.ports (outputs_at tree (inputs_of rows) t)) (long rows n row inside is) (shows (inputs_of rows) begins) in
      let here : out.cells.items ≡ cells_shown (shown_wires p tree (inputs_of rows)) n 0 p.ports =
      subst (λ items. out.cells.items ≡ items) (outputs_shown p tree (inputs_of rows) n ready.ports ready.well_formed) at_n in
      subst (λ shown. out.cells.items ≡ cells_shown shown.wires n 0 p.ports) (sym before.same) here

  pub registers_seen : (out : OutRow) → ShowsSources (take n rows) row machine.tree out
      → out.regs.items ≡ registers_shown seen.registers n 0 p.registers
  registers_seen out shows =
      let tree = machine.tree in
      let at_n : out.regs.items ≡ sources_of tree.regs (registers_at tree (inputs_of rows) n) =
      subst (λ t. out.regs.items ≡ sources_of tree.regs (registers_at tree (inputs_of rows) t)) (long rows n row inside is) (shows (inputs_of rows) begins) in
      let here : out.regs.items ≡ registers_shown (shown_registers p tree (inputs_of rows)) n 0 p.registers =
      subst (λ items. out.regs.items ≡ items) (sources_shown p tree (inputs_of rows) n ready.ports ready.well_formed) at_n in
      subst (λ shown. out.regs.items ≡ registers_shown shown.registers n 0 p.registers) (sym before.same) here

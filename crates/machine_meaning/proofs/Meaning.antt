-- A module that shows a machine of the process means its re-reading run: the machine's run, with the registers and wires that the module
-- shows in the place of the machine's.
use Rattle.std.proofs.Common.{ℕ, Bool, subst}
use Rattle.core_term.specs.Inputs.{Inputs}
use Rattle.core_term.specs.Wires.{Wires}
use Rattle.core_term.specs.Process.{Process, IsProcess}
use Rattle.core_term.specs.Reread.{IsReread}
use Rattle.sv_tree.specs.Module.{Module}
use Rattle.process_machine.specs.ProcessMachine.{ProcessMachine, IsProcessMachine}
use Rattle.process_machine.proofs.Rereads.{is_reread}
use Rattle.machine_meaning.specs.ModuleRun.{shown_registers, shown_run}
use Rattle.machine_meaning.specs.Meaning.{IsShown}

abbrev decision_of : ProcessMachine → (thread site cycle : ℕ) → Bool
decision_of machine thread = (machine.threads thread).decision

abbrev side_of : ProcessMachine → (thread site cycle : ℕ) → Bool
side_of machine thread = (machine.threads thread).side

pub meaning : (p : Process) → IsProcess p → (tree : Module) (inputs : Inputs) (machine : ProcessMachine) → IsShown p tree inputs machine → IsProcessMachine p inputs machine
    → (decision side : (thread site cycle : ℕ) → Bool) × IsReread p inputs (shown_run p tree inputs decision side)
meaning p process tree inputs machine shown machine_is =
    let reread = is_reread p process inputs machine machine_is in
    let WithRegisters : (ℕ → ℕ → ℕ) → Type 0 = λ registers. IsReread p inputs (record { registers = registers; decision = decision_of machine; side = side_of machine; wires = machine.wires }) in
    let WithWires : Wires → Type 0 = λ wires. IsReread p inputs (record { registers = shown_registers p tree inputs; decision = decision_of machine; side = side_of machine; wires = wires }) in
    (decision_of machine, side_of machine, subst WithWires shown.wires (subst WithRegisters shown.registers reread))

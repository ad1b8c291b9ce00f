-- The machine of a process is a re-reading run of it; and where the process is accepted, it agrees with the source run.
use Rattle.std.specs.Prelude.{ℕ, ◌<◌}
use Rattle.core_term.specs.Inputs.{Inputs}
use Rattle.core_term.specs.Process.{Process, IsProcess}
use Rattle.core_term.specs.History.{IsHistory}
use Rattle.core_term.specs.Outputs.{wires}
use Rattle.core_term.specs.Rules.{KeepsDemands}
use Rattle.core_term.specs.Reread.{Reread, IsReread}
use Rattle.core_term.specs.Agreement.{AgreesAt}
use Rattle.core_term.specs.Breach.{PromisesKept}
use Rattle.process_machine.specs.ProcessMachine.{ProcessMachine, IsProcessMachine}

-- what a machine shows, as a run
abbrev pub run_of_machine : ProcessMachine → Reread
run_of_machine machine = record {
  registers = machine.registers;
  decision = λ thread. (machine.threads thread).decision;
  side = λ thread. (machine.threads thread).side;
  wires = machine.wires;
}

-- On every input list, promises kept or not, and whatever the timing rules say of the process.
abbrev pub MachinesReread : Type 0
MachinesReread =
    (p : Process) → IsProcess p → (inputs : Inputs) (machine : ProcessMachine) → IsProcessMachine p inputs machine
    → IsReread p inputs (run_of_machine machine)

-- Of a process that keeps the timing rules, in each cycle up to which the promises of its partners are kept.
abbrev pub MachinesAgree : Type 0
MachinesAgree =
    (p : Process) → IsProcess p → KeepsDemands p → (inputs : Inputs) (registers : ℕ → ℕ → ℕ)
    → IsHistory p inputs registers → (machine : ProcessMachine) → IsProcessMachine p inputs machine
    → (cycle : ℕ) → cycle < inputs.count → PromisesKept p (wires p inputs registers) cycle
    → AgreesAt p (wires p inputs registers) machine.wires registers machine.registers cycle

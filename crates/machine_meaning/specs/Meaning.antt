-- What a module means against its process: its registers and wires are those of a re-reading run, on all inputs that
-- fit the ports, promises kept or not.
use Rattle.std.specs.Prelude.{ℕ, ◌≡◌, ◌<◌, ◌≤◌, Bool}
use Rattle.core_term.specs.Inputs.{Inputs}
use Rattle.core_term.specs.Fitting.{InputsFit}
use Rattle.core_term.specs.Process.{Process, IsProcess}
use Rattle.core_term.specs.History.{IsHistory}
use Rattle.core_term.specs.Wires.{Wires}
use Rattle.core_term.specs.Outputs.{wires}
use Rattle.core_term.specs.Rules.{KeepsDemands}
use Rattle.core_term.specs.Agreement.{AgreesAt}
use Rattle.run_laws.specs.AgreementLaws.{SameLog}
use Rattle.core_term.specs.Breach.{PromisesKept}
use Rattle.core_term.specs.Reread.{IsReread}
use Rattle.sv_tree.specs.Module.{Module}
use Rattle.process_machine.specs.ProcessMachine.{ProcessMachine, IsProcessMachine}
use Rattle.machine_meaning.specs.ModuleRun.{shown_registers, shown_wires, shown_run}

-- The clocked meaning of the module is a re-reading run of the process: what a builder promises of a module.
abbrev pub MeansReread : Process → Module → Type 0
MeansReread p tree =
    (inputs : Inputs) → InputsFit p inputs
    → (decision side : (thread site cycle : ℕ) → Bool) × IsReread p inputs (shown_run p tree inputs decision side)

-- a machine of the process is what the module shows
pub record IsShown (p : Process) (tree : Module) (inputs : Inputs) (machine : ProcessMachine) : Type 0 where
  pub registers : machine.registers ≡ shown_registers p tree inputs
  pub wires : machine.wires ≡ shown_wires p tree inputs

-- A module that shows a machine of the process on all inputs that fit means its re-reading run.
abbrev pub MachinesGiveMeaning : Type 0
MachinesGiveMeaning =
    (p : Process) → IsProcess p → (tree : Module)
    → ((inputs : Inputs) → InputsFit p inputs
    → (machine : ProcessMachine) × IsShown p tree inputs machine × IsProcessMachine p inputs machine)
    → MeansReread p tree

-- The module agrees with the source run of the process, in each cycle up to which the promises of the partners are kept
-- in that run: in `valid` and `ack` of every port, in every register of the source, and in the data of each sent port
-- that is offered or in the life of an exchange.
abbrev pub Agrees : Process → Module → Type 0
Agrees p tree =
    (inputs : Inputs) → InputsFit p inputs → (registers : ℕ → ℕ → ℕ) → IsHistory p inputs registers
    → (cycle : ℕ) → cycle < inputs.count → PromisesKept p (wires p inputs registers) cycle
    → AgreesAt p (wires p inputs registers) (shown_wires p tree inputs) registers (shown_registers p tree inputs) cycle

-- Both see the same first broken promise, give the same log of the cycles before it, and keep every promise in the same
-- first cycles.
pub record HasSameLog (p : Process) (wires other : Wires) (registers registers' : ℕ → ℕ → ℕ) : Type 0 where
  pub same : SameLog p wires other registers registers'
  pub kept : (n : ℕ) → n ≤ wires.count
      → (((t : ℕ) → t < n → PromisesKept p wires t) → (t : ℕ) → t < n → PromisesKept p other t)
      × (((t : ℕ) → t < n → PromisesKept p other t) → (t : ℕ) → t < n → PromisesKept p wires t)

abbrev pub LogsAlike : Process → Module → Type 0
LogsAlike p tree =
    (inputs : Inputs) → InputsFit p inputs → (registers : ℕ → ℕ → ℕ) → IsHistory p inputs registers
    → HasSameLog p (wires p inputs registers) (shown_wires p tree inputs) registers (shown_registers p tree inputs)

-- A module that means the re-reading run of a process that keeps the timing rules agrees with its source run,
abbrev pub ModulesAgree : Type 0
ModulesAgree =
    (p : Process) → IsProcess p → KeepsDemands p → (tree : Module) → MeansReread p tree → Agrees p tree

-- and has its log.
abbrev pub ModuleLogsAreSame : Type 0
ModuleLogsAreSame =
    (p : Process) → IsProcess p → KeepsDemands p → (tree : Module) → MeansReread p tree → LogsAlike p tree

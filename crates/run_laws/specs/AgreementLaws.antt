-- That the re-reading run agrees with the source run while promises are kept, and that both see the same first broken
-- promise.
use Rattle.std.specs.Prelude.{ℕ, ◌≡◌, ◌<◌, ◌≤◌, true}
use Rattle.core_term.specs.Inputs.{Inputs}
use Rattle.core_term.specs.Process.{Process, IsProcess, life_of, is_received}
use Rattle.core_term.specs.Wires.{Wires, IsKept}
use Rattle.core_term.specs.History.{IsHistory}
use Rattle.core_term.specs.Outputs.{wires}
use Rattle.core_term.specs.Rules.{KeepsDemands}
use Rattle.core_term.specs.Reread.{Reread, IsReread}
use Rattle.core_term.specs.Agreement.{AgreesAt}
use Rattle.core_term.specs.Breach.{PromisesKept, IsFirstBreach}
use Rattle.core_term.specs.LogText.{log_text}

-- Of an accepted process, the run that reads each value again agrees with the source run in each cycle up to which the
-- promises of the received ports are kept.
abbrev pub RereadingAgrees : Type 0
RereadingAgrees =
    (p : Process) → IsProcess p → KeepsDemands p → (inputs : Inputs) (registers : ℕ → ℕ → ℕ)
    → IsHistory p inputs registers → (run : Reread) → IsReread p inputs run → (t : ℕ) → t < inputs.count
    → PromisesKept p (wires p inputs registers) t
    → AgreesAt p (wires p inputs registers) run.wires registers run.registers t

-- Where the promises were kept before cycle t, that of a received port breaks at t in both runs or in neither.
abbrev pub PromisesBreakAlike : Type 0
PromisesBreakAlike =
    (p : Process) → IsProcess p → KeepsDemands p → (inputs : Inputs) (registers : ℕ → ℕ → ℕ)
    → IsHistory p inputs registers → (run : Reread) → IsReread p inputs run → (t : ℕ) → t < inputs.count
    → ((start : ℕ) → start < t → PromisesKept p (wires p inputs registers) start)
    → (m : ℕ) → is_received p m ≡ true
    → (IsKept (wires p inputs registers) (life_of p m) m t → IsKept run.wires (life_of p m) m t)
    × (IsKept run.wires (life_of p m) m t → IsKept (wires p inputs registers) (life_of p m) m t)

-- two runs have the same first broken promise, if any, and the same log up to each cycle before which the promises are
-- kept
pub record SameLog (p : Process) (wires other : Wires) (registers registers' : ℕ → ℕ → ℕ) : Type 0 where
  pub breach : (cycle port : ℕ)
      → (IsFirstBreach p wires cycle port → IsFirstBreach p other cycle port)
      × (IsFirstBreach p other cycle port → IsFirstBreach p wires cycle port)
  pub text : (n : ℕ) → n ≤ wires.count → ((t : ℕ) → t < n → PromisesKept p wires t)
      → log_text p wires registers 0 n ≡ log_text p other registers' 0 n

-- The first broken promise of an accepted process falls in the same cycle and on the same port in both runs, and the
-- log of the cycles before it is the same text.
abbrev pub LogsAreSame : Type 0
LogsAreSame =
    (p : Process) → IsProcess p → KeepsDemands p → (inputs : Inputs) (registers : ℕ → ℕ → ℕ)
    → IsHistory p inputs registers → (run : Reread) → IsReread p inputs run
    → SameLog p (wires p inputs registers) run.wires registers run.registers

-- A file of the code as the plain processes that it stands for, and that all of them run safely.
use Rattle.std.specs.Prelude.{ℕ, List, map}
use Rattle.core_term.specs.declared.process.CoreProc.{CoreProc}
use Rattle.core_term.specs.Lists.{Has}
use Rattle.core_term.specs.Process.{Process, IsProcess}
use Rattle.core_term.specs.Violations.{IsNth}
use Rattle.core_term.specs.Safe.{RunsSafely}
use Rattle.core_term.specs.ProcessView.{process_of}

abbrev pub process_in : CoreProc → Process
process_in proc = process_of proc.name proc.ports.items proc.regs.items proc.threads.items

abbrev pub file_of : List CoreProc → List Process
file_of = map process_in

-- each process of the code is one of the definitions
abbrev pub AllStand : List CoreProc → Type 0
AllStand procs = (proc : CoreProc) → Has procs proc → IsProcess (process_in proc)

-- each process of a file has a safe run for every input list
abbrev pub AllRunSafely : List Process → Type 0
AllRunSafely file = (i : ℕ) (p : Process) → IsNth file i p → RunsSafely p

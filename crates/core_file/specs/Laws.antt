-- What is proved of files that pass.
use Rattle.std.specs.Prelude.{◌≡◌, ◌≤◌, IsTrue, List, length, map, bytes_eq}
use Rattle.anvil_tree.specs.Tree as tree
use Rattle.anvil_tree.specs.Tree.{Name, File, process}
use Rattle.anvil_tree.specs.Few.{most_parts}
use Rattle.anvil_tree.specs.Order.{acts_of_term}
use Rattle.core_term.specs.declared.term.CoreTerm.{CoreTerm}
use Rattle.core_term.specs.declared.process.CorePort.{CorePort}
use Rattle.core_term.specs.declared.process.CoreReg.{CoreReg}
use Rattle.core_term.specs.Body.{IsBody}
use Rattle.core_term.specs.Lists.{Has}
use Rattle.core_term.specs.Names.{has_no_twice}
use Rattle.core_term.specs.ProcessView.{port_of, register_of, widths_of, process_of}
use Rattle.core_term.specs.Sized.{words_fit, is_sized, is_owned}
use Rattle.core_term.specs.View.{term_of, places_of}
use Rattle.core_term.specs.Widths.{Widths}
use Rattle.channel_classes.specs.Classes.{classes_of}
use Rattle.core_file.specs.CoreFile.{Placed, core_file}
use Rattle.core_file.specs.CoreProcess.{scope_of, core_process}
use Rattle.core_file.specs.CoreTerm.{core_term}
use Rattle.core_file.specs.Passes.{Passes}

-- In a file that passes, what stands for the core term of a thread is a body: it is numbered and tail-stepped, its
-- cycles take time, its places never fall, and it has few acts.
abbrev pub ThreadsHaveBodies : Type 0
ThreadsHaveBodies =
    (file : File) → Passes file
    → (written : tree.Process) → Has file (process written)
    → (thread : tree.Term) → Has written.threads thread
    → (widths : Widths) (body : CoreTerm)
    → term_of widths body ≡ core_term (scope_of (classes_of file) written) 0 thread
    → places_of body ≡ acts_of_term thread
    → IsBody body

-- each reset has its register's width, and the `word` of each `if` is the width of its value
pub record IsMade
    (name : Name) (ports : List CorePort) (registers : List CoreReg) (threads : List CoreTerm)
    : Type 0 where
  pub resets : (register : CoreReg) → Has registers register → register.reset.width ≡ register.width
  pub words :
      (body : CoreTerm) → Has threads body
      → IsTrue (words_fit (widths_of (map port_of ports) (map register_of registers)) body)

-- In a file that passes, what stands for the core process of a process is sized and owned.
abbrev pub ProcessesAreSizedAndOwned : Type 0
ProcessesAreSizedAndOwned =
    (file : File) → Passes file
    → (written : tree.Process) → Has file (process written)
    → (name : Name) (ports : List CorePort) (registers : List CoreReg) (threads : List CoreTerm)
    → process_of name ports registers threads ≡ core_process (classes_of file) written
    → IsMade name ports registers threads
    → IsTrue (is_sized name ports registers threads) × IsTrue (is_owned name ports registers threads)

-- The processes of a file that passes are at most 64, and no two of them have one name.
abbrev pub ProcessesAreFewAndDiffer : Type 0
ProcessesAreFewAndDiffer =
    (file : File) → Passes file
    → (length (core_file (classes_of file) file) ≤ most_parts)
    × IsTrue (has_no_twice bytes_eq (map (λ (placed : Placed). placed.process.name) (core_file (classes_of file) file)))

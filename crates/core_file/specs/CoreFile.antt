-- The core file of a tree: its processes in order, once names stand for numbers, with the places of their acts in the
-- source.
use Rattle.std.specs.Prelude.{ℕ, List, [], ◌∷◌, map}
use Rattle.anvil_tree.specs.Tree as tree
use Rattle.anvil_tree.specs.Tree.{File, class, process}
use Rattle.anvil_tree.specs.Order.{acts_of_term}
use Rattle.core_term.specs.Process.{Process}
use Rattle.core_term.specs.ProcessView.{process_of}
use Rattle.core_term.specs.View.{places_of}
use Rattle.core_term.specs.declared.process.CoreProc.{CoreProc}
use Rattle.channel_classes.specs.Classes.{Class}
use Rattle.core_file.specs.CoreProcess.{core_process}

-- a process with the places of the acts of each thread, each act before the acts inside it
pub record Placed : Type 0 where
  pub process : Process
  pub places : List (List ℕ)

-- what a process of the code stands for
abbrev pub placed_of : CoreProc → Placed
placed_of proc = record {
  process = process_of proc.name proc.ports.items proc.regs.items proc.threads.items;
  places = map places_of proc.threads.items;
}

-- what a process of the tree stands for
abbrev pub placed_process : List Class → tree.Process → Placed
placed_process classes written = record { process = core_process classes written; places = map acts_of_term written.threads }

abbrev pub core_file : List Class → File → List Placed
core_file classes [] = []
core_file classes (class c ∷ items) = core_file classes items
core_file classes (process written ∷ items) = placed_process classes written ∷ core_file classes items

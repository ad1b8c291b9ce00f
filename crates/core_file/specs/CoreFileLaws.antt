-- A tree has a core file exactly where no check of its processes fails, and one at most. Its classes are right: no
-- check of them fails.
use Rattle.std.specs.Prelude.{◌≡◌, None, List}
use Rattle.anvil_tree.specs.Tree.{File}
use Rattle.first_check.specs.Check.{first_refusal}
use Rattle.channel_classes.specs.Classes.{classes_of}
use Rattle.channel_classes.specs.ClassChecks.{checks_of_classes}
use Rattle.core_file.specs.CoreFile.{Placed, core_file}
use Rattle.core_file.specs.IsCoreFile.{IsCoreFileOf}
use Rattle.core_file.specs.ProcessChecks.{checks_of_processes}

-- Where no check fails there is one, the one that `core_file` gives.
abbrev pub EachHasCoreFile : Type 0
EachHasCoreFile =
    (file : File) → first_refusal (checks_of_processes (classes_of file) file) ≡ None
    → IsCoreFileOf file (core_file (classes_of file) file)

-- Where there is one no check fails, and it is that one.
abbrev pub CoreFileIsOne : Type 0
CoreFileIsOne =
    (file : File) → first_refusal (checks_of_classes file) ≡ None
    → (core : List Placed) → IsCoreFileOf file core
    → (first_refusal (checks_of_processes (classes_of file) file) ≡ None) × (core ≡ core_file (classes_of file) file)

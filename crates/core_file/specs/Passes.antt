-- A file that passes: no check of its classes and of its processes fails, it is within the limits, and in each thread
-- the places of the acts never fall in the order of the tree.
use Rattle.std.specs.Prelude.{◌≡◌, None}
use Rattle.anvil_tree.specs.Tree.{File}
use Rattle.anvil_tree.specs.Few.{IsFew}
use Rattle.anvil_tree.specs.Order.{ActsNeverFall}
use Rattle.first_check.specs.Check.{first_refusal}
use Rattle.channel_classes.specs.Classes.{classes_of}
use Rattle.channel_classes.specs.ClassChecks.{checks_of_classes}
use Rattle.core_file.specs.ProcessChecks.{checks_of_processes}

pub record Passes (file : File) : Type 0 where
  pub classes : first_refusal (checks_of_classes file) ≡ None
  pub processes : first_refusal (checks_of_processes (classes_of file) file) ≡ None
  pub few : IsFew file
  pub in_order : ActsNeverFall file

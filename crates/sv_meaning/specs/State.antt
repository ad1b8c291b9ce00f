-- A machine, as contracts see it: the module that it runs, and what the registers show.
use Rattle.std.specs.Prelude.{ℕ, List}
use Rattle.sv_tree.specs.Module.{Module}

pub record State : Type 0 where
  pub tree : Module
  pub registers : List ℕ

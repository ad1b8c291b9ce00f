-- What is read of a module begins the text of a well-formed module.
use Rattle.std.specs.Prelude.{◌≡◌, ℕ, List, ◌++◌}
use Rattle.sv_tree.specs.Module.{Module}
use Rattle.sv_tree.specs.Text.{module_text}
use Rattle.sv_lines.specs.State.{Wanted, draft_text}
use Rattle.sv_lines.proofs.kept.KeptDrafts.{Finished}

pub record Completed (whole : List Module) (draft : Module) (wanted : Wanted) : Type 0 where
  pub tree : Module
  pub finished : Finished whole tree
  pub rest : List ℕ
  pub written : module_text tree ≡ draft_text draft wanted ++ rest

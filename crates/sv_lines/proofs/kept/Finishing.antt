-- A module that a line makes whole is well-formed, and has a name that none before it has.
use Rattle.std.proofs.Common.{◌≡◌, List, Some}
use Rattle.sv_tree.specs.Module.{Module}
use Rattle.sv_lines.specs.Good.{IsGood}
use Rattle.sv_lines.specs.State.{Wanted, inside}
use Rattle.sv_lines.specs.Step.{draft_step, finished}
use Rattle.sv_lines.proofs.kept.KeptDrafts.{Finished}
use Rattle.sv_lines.proofs.kept.StepsKeep.{draft_keeps}
use Rattle.sv_lines.proofs.kept.GoodKept.{kept_of_good}

pub finished_of : (whole : List Module) (draft : Module) (wanted : Wanted) (line : List _) (tree : Module) → IsGood (inside whole draft wanted)
    → draft_step draft wanted line ≡ Some (finished tree) → Finished whole tree
finished_of whole draft wanted line tree good e =
    let kept = kept_of_good (inside whole draft wanted) good in
    draft_keeps whole draft wanted line (finished tree) kept.drafted kept.at e

-- Sorted and without repeats: the settled list.
use Rattle.core_term.proofs.code_tables.AtomOrder.{ascending, still_has, only_has}
use Rattle.core_term.proofs.code_tables.Settled.{is_settled}
use Rattle.core_term.proofs.atoms.settle.Goals as goal

pub returns : goal.returns
returns c = is_settled _ _ (ascending _ c.sort_once.ensures.sorted) (only_has _ _ c.sort_once.ensures.sound) (still_has _ _ c.sort_once.ensures.whole)

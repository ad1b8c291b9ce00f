-- The row that the thread keeps for the site.
use Rattle.core_term.proofs.code_tables.AtomsKept.{value_told}
use Rattle.core_term.proofs.thread.CoreThread.value_atoms.Goals as goal

pub returns : goal.returns
returns c = value_told _ _ _ _ _ c.self.view_is c.self.invariant.0 c.self.invariant.2 c.row.ensures

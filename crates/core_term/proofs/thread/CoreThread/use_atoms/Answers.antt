-- The row that the thread keeps for the site.
use Rattle.core_term.proofs.code_tables.AtomsKept.{use_told}
use Rattle.core_term.proofs.thread.CoreThread.use_atoms.Goals as goal

pub returns : goal.returns
returns c = use_told _ _ _ _ _ c.self.view_is c.self.invariant.0 c.self.invariant.3 c.row.ensures

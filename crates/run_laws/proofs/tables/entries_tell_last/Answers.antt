-- The law of one entry of last cycles.
use Rattle.run_laws.proofs.graph_tables.Told.{last_told}
use Rattle.run_laws.proofs.tables.entries_tell_last.Goals as goal

pub returns : goal.returns
returns c = last_told

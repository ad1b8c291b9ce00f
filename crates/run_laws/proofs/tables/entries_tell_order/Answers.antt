-- The law of one entry.
use Rattle.run_laws.proofs.graph_tables.Told.{order_told}
use Rattle.run_laws.proofs.tables.entries_tell_order.Goals as goal

pub returns : goal.returns
returns c = order_told

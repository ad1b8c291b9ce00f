use Rattle.run_laws.proofs.graph_tables.Told.{tables}
use Rattle.run_laws.proofs.tables.graphs_have_tables.Goals as goal

pub returns : goal.returns
returns c = λ p body g graph. tables p body g graph

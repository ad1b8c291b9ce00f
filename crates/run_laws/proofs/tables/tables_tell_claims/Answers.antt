use Rattle.run_laws.proofs.graph_tables.Told.{shown, told}
use Rattle.run_laws.proofs.tables.tables_tell_claims.Goals as goal

pub returns : goal.returns
returns c = λ p body g graph t claim text. (shown p body g graph t claim text, told p body g graph t claim text)

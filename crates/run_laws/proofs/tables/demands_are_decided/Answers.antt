use Rattle.run_laws.proofs.graph_tables.Told.{decided}
use Rattle.run_laws.proofs.graph_tables.OfText.{of_text}
use Rattle.run_laws.proofs.tables.demands_are_decided.Goals as goal

pub returns : goal.returns
returns c = λ p j body numbered g graph t rule first second claim demand. decided p body g graph t claim (of_text body numbered p j rule first second claim demand)

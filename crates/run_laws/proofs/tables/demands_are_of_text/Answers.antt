use Rattle.run_laws.proofs.graph_tables.OfText.{of_text}
use Rattle.run_laws.proofs.tables.demands_are_of_text.Goals as goal

pub returns : goal.returns
returns c = λ p j body numbered rule first second claim demand. of_text body numbered p j rule first second claim demand

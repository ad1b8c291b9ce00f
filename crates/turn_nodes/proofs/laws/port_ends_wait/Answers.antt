use Rattle.turn_nodes.proofs.PortEnds.{port_waits}
use Rattle.turn_nodes.proofs.laws.port_ends_wait.Goals as goal

pub returns : goal.returns
returns c = port_waits

use Rattle.turn_nodes.proofs.PortEnds.{port_end, ends_apart}
use Rattle.turn_nodes.proofs.laws.port_ends_are_apart.Goals as goal

pub returns : goal.returns
returns c = λ body numbered one other port another act also. ends_apart body numbered one other (port_end body numbered one port act) (port_end body numbered other another also)

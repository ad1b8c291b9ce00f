use Rattle.order_rules.proofs.Table.{lag, closed}
use Rattle.order_rules.proofs.nodes.tables_exist.Goals as goal

pub returns : goal.returns
returns c = λ form apart earlier. (lag form apart earlier, closed form apart earlier)

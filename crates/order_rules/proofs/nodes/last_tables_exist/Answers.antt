use Rattle.order_rules.proofs.LastTable.{last_lag, last_closed}
use Rattle.order_rules.proofs.nodes.last_tables_exist.Goals as goal

pub returns : goal.returns
returns c = λ form apart earlier lag ends a. (last_lag form apart earlier lag ends a, last_closed form apart earlier lag ends a)

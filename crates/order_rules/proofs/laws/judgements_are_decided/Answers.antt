use Rattle.order_rules.proofs.Table.{holds_or_not}
use Rattle.order_rules.proofs.laws.judgements_are_decided.Goals as goal

pub returns : goal.returns
returns c = λ form apart earlier a b d. holds_or_not form apart earlier a b d

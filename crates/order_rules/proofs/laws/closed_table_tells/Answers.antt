use Rattle.order_rules.proofs.Exact.{complete, sound}
use Rattle.order_rules.proofs.laws.closed_table_tells.Goals as goal

pub returns : goal.returns
returns c = λ form apart earlier lag closed a b d. (λ k. complete form apart lag closed earlier k, λ k. sound form apart lag closed earlier a b d k)

use Rattle.order_rules.proofs.LastExact.{complete_last, sound_last}
use Rattle.order_rules.proofs.laws.closed_last_table_tells.Goals as goal

pub returns : goal.returns
returns c = λ form apart earlier lag closed ends a last closed_last b d. (
  λ k. complete_last form apart lag closed earlier ends a last closed_last k,
  λ k. sound_last form apart lag closed earlier ends a last closed_last b d k,
)

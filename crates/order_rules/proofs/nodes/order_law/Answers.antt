use Rattle.std.proofs.Common.{ℕ, ◌≡◌, true, Some}
use Rattle.order_rules.specs.Laws.{HasForm, Apart}
use Rattle.order_rules.proofs.Law as order
use Rattle.order_rules.proofs.nodes.order_law.Goals as goal

pub returns : goal.returns
returns c = λ form apart count left when lost rules a b d r on_left t at less.
    order.law ℕ (HasForm form) (Apart apart) count (λ a. left a ≡ true) (λ a t. when a ≡ Some t) (λ a. lost a ≡ true) rules r on_left t at less

use Rattle.std.proofs.Common.{ℕ, ◌≡◌, true, Some}
use Rattle.order_rules.specs.LastEntry.{IsListed}
use Rattle.order_rules.specs.Laws.{HasForm, Apart}
use Rattle.order_rules.proofs.LastLaw as last
use Rattle.order_rules.proofs.nodes.last_law.Goals as goal

pub returns : goal.returns
returns c = λ form apart count left when lost rules ends over ended a b d r on_left t at short less.
    last.last_law ℕ (HasForm form) (Apart apart) count (λ a. left a ≡ true) (λ a t. when a ≡ Some t) (λ a. lost a ≡ true) rules (IsListed ends) (λ s l. over s l ≡ true) ended.lasts ended.within ended.at a on_left r t at short less

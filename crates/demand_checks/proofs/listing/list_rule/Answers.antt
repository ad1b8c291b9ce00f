-- One rule more.
use Rattle.std.proofs.Common.{◌++◌, ◌∙◌, ap, map}
use Rattle.demand_checks.specs.Pairs.{violation}
use Rattle.demand_checks.proofs.OneRule.{one_rule_more}
use Rattle.demand_checks.proofs.listing.list_rule.Goals as goal

pub returns : goal.returns
returns c = λ p j body rules are found earlier.
    one_rule_more p j body rules c.args.rule _ _ _ c.settle.ensures are found earlier _
    (c.in_ok-add_all.ensures ∙ ap (λ z. c.args.violations.now.items ++ map (violation c.args.rule) z) c.deref.ensures.value)

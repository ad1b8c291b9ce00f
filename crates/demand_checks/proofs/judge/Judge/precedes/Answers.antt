-- Both nodes are those of the places; where there is none, the thread has no such act.
use Rattle.std.proofs.Common.{◌∙◌, sym, subst}
use Rattle.std.proofs.lemmas.Int.{to_z-of_z}
use Rattle.std.proofs.Common.{w32}
use Rattle.order_rules.specs.Lag.{Admits}
use Rattle.event_order.specs.Lags.{lag_of}
use Rattle.demand_checks.specs.Answers.{Decides}
use Rattle.demand_checks.proofs.Pointed.{is_inside, is_outside, node_small, order_answer, no_first_answer, no_second_answer}
use Rattle.demand_checks.proofs.judge.Judge.precedes.Goals as goal

pub lag-requires-clause-first : goal.lag-requires-clause-first
lag-requires-clause-first c =
    let from_is = is_inside _ _ _ _ c.in-Some-Some.ensures.inside c.in-Some-Some.ensures.outside in node_small c.args.self.now c.requires c.args.a c.in-Some-Some.from from_is.0 from_is.1

pub lag-requires-clause-second : goal.lag-requires-clause-second
lag-requires-clause-second c =
    let to_is = is_inside _ _ _ _ c.in-Some-Some.ensures'.inside c.in-Some-Some.ensures'.outside in node_small c.args.self.now c.requires c.args.b c.in-Some-Some.to to_is.0 to_is.1

pub returns-in-Some-Some : goal.returns-in-Some-Some
returns-in-Some-Some c =
    let from_is = is_inside _ _ _ _ c.in-Some-Some.ensures.inside c.in-Some-Some.ensures.outside in
    let to_is = is_inside _ _ _ _ c.in-Some-Some.ensures'.inside c.in-Some-Some.ensures'.outside in
    order_answer c.args.self.now c.requires c.args.a c.args.b c.args.d c.in-Some-Some.from c.in-Some-Some.to c.lag.result c.admits.result from_is.0 to_is.0 from_is.1 to_is.1 c.lag.ensures.largest
    (subst (λ z. Decides c.admits.result (Admits (lag_of c.lag.result) z)) (to_z-of_z w32 c.args.d c.ranges.d) c.admits.ensures)

pub returns-in_default : goal.returns-in_default
returns-in_default c = no_second_answer c.args.self.now c.requires c.args.a c.args.b c.args.d (is_outside _ _ _ c.in_default.ensures'.inside)

pub returns-in_default-2 : goal.returns-in_default-2
returns-in_default-2 c = no_first_answer c.args.self.now c.requires c.args.a c.args.b c.args.d (is_outside _ _ _ (λ k. sym c.in_default.is-0 ∙ c.node.ensures.inside k))

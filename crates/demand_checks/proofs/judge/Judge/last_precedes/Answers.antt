-- The deed of the site is a send, so it has a table.
use Rattle.std.proofs.Common.{sym, subst}
use Rattle.std.proofs.lemmas.Int.{to_z-of_z}
use Rattle.std.proofs.Common.{w32}
use Rattle.order_rules.specs.Lag.{Admits}
use Rattle.event_order.specs.Lags.{lag_of}
use Rattle.demand_checks.specs.Answers.{Decides}
use Rattle.demand_checks.proofs.Pointed.{is_inside, table_there, table_wide, last_answer}
use Rattle.act_deeds.proofs.Deeds.{deed_send}
use Rattle.demand_checks.specs.Judge.{body_at}
use Rattle.demand_checks.proofs.judge.Judge.last_precedes.Goals as goal

pub of-requires : goal.of-requires
of-requires c =
    table_there c.args.self.now c.requires c.args.send c.in-Sends-Some.field-0-0
    (deed_send (body_at c.args.self.now) c.args.self.now.deeds.items c.requires.deeds c.requires.numbered c.args.send c.in-Sends-Some.field-0-0 (sym c.in-Sends-Some.ensures))

pub end_lag-requires : goal.end_lag-requires
end_lag-requires c =
    let to_is = is_inside _ _ _ _ c.in-Sends-Some.ensures'.inside c.in-Sends-Some.ensures'.outside in
    table_wide c.args.self.now c.requires c.args.send c.in-Sends-Some.field-0-0 _
    (deed_send (body_at c.args.self.now) c.args.self.now.deeds.items c.requires.deeds c.requires.numbered c.args.send c.in-Sends-Some.field-0-0 (sym c.in-Sends-Some.ensures))
    c.of.ensures c.args.b c.in-Sends-Some.to to_is.0 to_is.1

pub returns-in-Sends-Some : goal.returns-in-Sends-Some
returns-in-Sends-Some c =
    let to_is = is_inside _ _ _ _ c.in-Sends-Some.ensures'.inside c.in-Sends-Some.ensures'.outside in
    last_answer c.args.self.now c.requires c.args.send c.in-Sends-Some.field-0-0 _ c.args.b c.args.d c.in-Sends-Some.to c.end_lag.result c.admits.result
    (deed_send (body_at c.args.self.now) c.args.self.now.deeds.items c.requires.deeds c.requires.numbered c.args.send c.in-Sends-Some.field-0-0 (sym c.in-Sends-Some.ensures))
    c.of.ensures to_is.0 to_is.1 c.end_lag.ensures.largest
    (subst (λ z. Decides c.admits.result (Admits (lag_of c.end_lag.result) z)) (to_z-of_z w32 c.args.d c.ranges.d) c.admits.ensures)

use Rattle.std.proofs.Common.{sym, ap, ◌∙◌}
use Rattle.demand_checks.specs.Answers.{all_shown}
use Rattle.demand_checks.specs.Judge.{process_at}
use Rattle.use_check.specs.Wires.{received_claims, wire_claims_of}
use Rattle.use_check.proofs.wires.wire_holds.Goals as goal

pub returns-in-Wire : goal.returns-in-Wire
returns-in-Wire c = λ answers tell.
    c.received_holds.ensures answers tell
    ∙ (ap (λ deed. all_shown answers (received_claims (process_at c.args.judge.now) c.args.judge.now.deeds.items c.args.rest.user c.in-Wire.site deed)) c.deed.ensures
    ∙ sym (ap (λ atom. all_shown answers (wire_claims_of (process_at c.args.judge.now) c.args.judge.now.deeds.items c.args.rest.user atom)) c.in-Wire.is))

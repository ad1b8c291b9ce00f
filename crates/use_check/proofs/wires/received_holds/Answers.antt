-- A number that is no port has no ends.
use Rattle.std.proofs.Common.{sym, ap, ◌∙◌, arith}
use Rattle.core_term.specs.ProcessView.{port_of}
use Rattle.demand_checks.specs.Answers.{all_shown}
use Rattle.demand_checks.specs.Judge.{process_at}
use Rattle.use_check.specs.Wires.{ends_claims, received_claims}
use Rattle.use_check.proofs.Ends.{no_life}
use Rattle.use_check.proofs.wires.received_holds.Goals as goal

pub returns-then-port-len : goal.returns-then-port-len
returns-then-port-len c = λ answers tell.
    sym (ap (λ deed. all_shown answers (received_claims (process_at c.args.judge.now) c.args.judge.now.deeds.items c.args.user c.args.site deed)) c.in-Receives.is
    ∙ ap (λ life. all_shown answers (ends_claims c.args.judge.now.deeds.items c.args.user c.args.site life)) (no_life port_of c.args.judge.now.proc.now.ports.items c.in-Receives.port (omega (arith, c.if-port-len.true, c.len.ensures))))

pub returns-else-port-len : goal.returns-else-port-len
returns-else-port-len c = λ answers tell.
    c.ends_hold.ensures answers tell
    ∙ sym (ap (λ deed. all_shown answers (received_claims (process_at c.args.judge.now) c.args.judge.now.deeds.items c.args.user c.args.site deed)) c.in-Receives.is)

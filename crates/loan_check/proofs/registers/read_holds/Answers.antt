-- A use that is over as it reads keeps all claims.
use Rattle.std.proofs.Common.{sym, ◌∙◌, ap}
use Rattle.std.specs.Prelude.{pos}
use Rattle.demand_checks.specs.Answers.{shows}
use Rattle.demand_checks.specs.Deeds.{used}
use Rattle.loan_check.proofs.RegisterDemands.{all_as_read}
use Rattle.loan_check.proofs.registers.read_holds.Goals as goal

pub returns-then-used_by : goal.returns-then-used_by
returns-then-used_by c = λ answers tell.
    sym (all_as_read answers c.args.elsewhere c.args.judge.now.deeds.items c.args.user c.args.site c.args.sets.now
    (ap (λ b. shows answers (used c.args.judge.now.deeds.items c.args.user (pos 0) b)) (sym c.begin_of.ensures) ∙ sym (c.if-used_by.ensures answers tell)))

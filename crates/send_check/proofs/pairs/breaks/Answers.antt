-- There are answers that are right, and by them acts clash exactly where a demand fails.
use Rattle.std.proofs.Common.{◌≡◌, true, false, sym}
use Rattle.demand_checks.specs.Judge.{process_at, body_at}
use Rattle.demand_checks.proofs.Answered.{right_answers}
use Rattle.send_check.specs.Clashes.{clash}
use Rattle.send_check.specs.Settled.{Settles}
use Rattle.send_check.proofs.Clashing.{breaks, keeps}
use Rattle.send_check.proofs.pairs.breaks.Goals as goal

pub returns : goal.returns
returns c =
    let judge = c.args.judge.now in
    let is = c.requires.judge in
    let deeds = judge.deeds.items in
    let right = right_answers (process_at judge) (body_at judge) is.numbered deeds is.deeds in
    let told = c.clash.ensures right.0 right.1 in
    elim c.clash.result as (λ result. result ≡ clash right.0 deeds c.args.rule c.args.first c.args.second → Settles judge c.args.rule c.args.first c.args.second result) [
      | true ↦ λ same. breaks (process_at judge) judge.number (body_at judge) deeds is.deeds is.numbered right.0 right.1 c.args.rule c.requires.rule c.args.first c.args.second (sym same)
      | false ↦ λ same. keeps (process_at judge) judge.number (body_at judge) deeds is.deeds is.numbered right.0 right.1 c.args.rule c.requires.rule c.args.first c.args.second (sym same)
    ] told

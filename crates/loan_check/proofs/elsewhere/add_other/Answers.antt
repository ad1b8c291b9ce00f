-- The thread itself adds nothing, another one the registers that it sets.
use Rattle.std.proofs.Common.{refl, arith, ◌∙◌, ap}
use Rattle.std.proofs.lemmas.Option.{slice_get_read}
use Rattle.demand_checks.proofs.Pointed.{widths_in}
use Rattle.loan_check.specs.Elsewhere.{with_sets}
use Rattle.loan_check.proofs.OtherSets.{same_thread, other_thread}
use Rattle.loan_check.proofs.elsewhere.add_other.Goals as goal

pub returns-then-index-thread : goal.returns-then-index-thread
returns-then-index-thread c = λ are. same_thread c.args.proc.now c.args.thread c.args.index _ (omega (arith, c.if-index-thread.true)) are

pub returns : goal.returns
returns c = λ are.
    other_thread c.args.proc.now c.args.thread c.args.index c.index.result.now c.in_ok-deeds.deeds.items _ _ (slice_get_read _ _ c.args.index c.index.result.now refl c.requires c.index.ensures)
    (λ same. omega (arith, same, c.if-index-thread.false)) (c.in_ok-deeds.ensures.numbered (widths_in c.args.proc.now)) (c.in_ok-deeds.ensures.deeds (widths_in c.args.proc.now))
    (c.in_ok-add_sets.ensures ∙ ap (λ deeds. with_sets deeds c.args.registers.now.items) c.deref.ensures.value) are

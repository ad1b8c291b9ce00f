-- The thread's body is that of the definitions, so all is ready for its checks.
use Rattle.std.proofs.Common.{refl, sym, subst}
use Rattle.std.proofs.lemmas.Option.{slice_get_read}
use Rattle.core_term.specs.Term.{Term}
use Rattle.core_term.specs.AcceptedFile.{process_in}
use Rattle.elaborator.specs.Turns.{IsTwice}
use Rattle.demand_checks.specs.Thread.{AreLastsOf}
use Rattle.demand_checks.proofs.Pointed.{body_is, widths_in}
use Rattle.timing_check.proofs.threads.first_of_thread.Goals as goal

pub first_by_rules-requires : goal.first_by_rules-requires
first_by_rules-requires c =
    let proc = c.args.proc.now in
    let widths = widths_in proc in
    let same = body_is proc c.args.thread c.index-body.result.now (slice_get_read _ _ c.args.thread c.index-body.result.now refl c.requires c.index-body.ensures) in
    let Twice : Term → Type 0 = λ body. IsTwice body c.in_ok-elab.elab in
    let Lasts : Term → Type 0 = λ body. AreLastsOf (process_in proc) body c.in_ok-lasts.lasts in
    record {
      inside = c.requires;
      twice = subst Twice (sym same) (c.in_ok-elab.ensures.twice refl widths);
      order_is = c.in_ok-order.ensures;
      lasts_are = subst Lasts (sym same) (c.in_ok-lasts.ensures widths);
    }

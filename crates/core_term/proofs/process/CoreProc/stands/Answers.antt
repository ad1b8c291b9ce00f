use Rattle.std.proofs.Common.{inl, inr, sym, subst, ◌∙◌}
use Rattle.std.proofs.lemmas.List.{take_all}
use Rattle.core_term.specs.Lists.{Has}
use Rattle.core_term.specs.Body.{IsBody}
use Rattle.core_term.proofs.code_tables.Ports.{has_more}
use Rattle.core_term.proofs.code_tables.Fits.{is_process}
use Rattle.core_term.proofs.process.CoreProc.stands.Goals as goal

pub loop-thread-preserved : goal.loop-thread-preserved
loop-thread-preserved c = λ body there.
    elim (has_more c.as_slice-thread-items.result.now c.loop-thread.thread-index c.thread-item.result body c.loop-thread-test.true there) [
      | inl before ↦ c.loop-thread.invariant body before
      | inr this ↦ subst IsBody (sym (this ∙ sym c.thread-item.is)) c.body-body.ensures.body
    ]

pub returns : goal.returns
returns c =
    let proc = c.args.self.now in
    is_process proc.name proc.ports.items proc.regs.items proc.threads.items proc.sized proc.owned (λ body there.
    c.loop-thread.invariant body (subst (λ bodies. Has bodies body) (sym (take_all c.loop-thread.thread-index c.as_slice-thread-items.result.now c.loop-thread-test.false ∙ c.as_slice-thread-items.ensures.value)) there))

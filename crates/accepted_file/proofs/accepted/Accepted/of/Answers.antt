use Rattle.std.proofs.Common.{inl, inr, sym, subst, ◌∙◌}
use Rattle.std.proofs.lemmas.List.{take_all}
use Rattle.core_term.specs.Lists.{Has}
use Rattle.core_term.specs.Process.{IsProcess}
use Rattle.core_term.specs.AcceptedFile.{process_in}
use Rattle.core_term.proofs.code_tables.Ports.{has_more}
use Rattle.run_laws.proofs.safe_runs.AllSafe.{all_safe}
use Rattle.accepted_file.proofs.accepted.Accepted.of.Goals as goal

pub loop-proc-preserved : goal.loop-proc-preserved
loop-proc-preserved c = λ proc there.
    elim (has_more c.as_slice-proc-items.result.now c.loop-proc.proc-index c.proc-item.result proc c.loop-proc-test.true there) [
      | inl before ↦ c.loop-proc.invariant proc before
      | inr this ↦ subst (λ process. IsProcess (process_in process)) (sym (this ∙ sym c.proc-item.is)) c.stands.ensures
    ]

pub returns-clause-safe : goal.returns-clause-safe
returns-clause-safe c =
    all_safe c.args.file.procs.items (λ proc there.
    c.loop-proc.invariant proc (subst (λ procs. Has procs proc) (sym (take_all c.loop-proc.proc-index c.as_slice-proc-items.result.now c.loop-proc-test.false ∙ c.as_slice-proc-items.ensures.value)) there)) c.requires

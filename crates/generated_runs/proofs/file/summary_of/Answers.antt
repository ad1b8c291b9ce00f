-- The file is that of the number, and its processes are ready.
use Rattle.std.proofs.Common.{◌∙◌, ap, arith, length, refl, subst, sym}
use Rattle.core_term.specs.AcceptedFile.{file_of}
use Rattle.checked_files.specs.Check.{IsCheckRefused}
use Rattle.checked_files.proofs.Ruled.{accepted_or_refused}
use Rattle.generated_file.specs.Generated.{generated}
use Rattle.generated_runs.specs.Totals.{IsTotalOf}
use Rattle.generated_runs.proofs.Summed.{accepted_text, ready_of, total_of}
use Rattle.generated_runs.proofs.file.summary_of.Goals as goal

pub count_all-counted-requires-clause-few : goal.count_all-counted-requires-clause-few
count_all-counted-requires-clause-few c =
    let is = c.deref.ensures.value ∙ c.in-Ok.ensures.text in
    let ready = ready_of c.args.count c.deref.result.now is c.in-Ok-accepted_of_bytes.accepted.procs.items c.in-Ok-accepted_of_bytes.ensures.accepted c.requires.some c.requires.few in
    let many = ready.many in
    rw (c.deref-2.ensures.value, c.file.ensures.same) (omega (arith, many, c.requires.few))

pub count_all-counted-requires-clause-ready : goal.count_all-counted-requires-clause-ready
count_all-counted-requires-clause-ready c =
    let is = c.deref.ensures.value ∙ c.in-Ok.ensures.text in
    let ready = ready_of c.args.count c.deref.result.now is c.in-Ok-accepted_of_bytes.accepted.procs.items c.in-Ok-accepted_of_bytes.ensures.accepted c.requires.some c.requires.few in
    rw (c.deref-2.ensures.value, c.file.ensures.same) ready.ready

pub returns-in-Ok-counted-clause-summary : goal.returns-in-Ok-counted-clause-summary
returns-in-Ok-counted-clause-summary c =
    let is = c.deref.ensures.value ∙ c.in-Ok.ensures.text in
    let procs = c.in-Ok-accepted_of_bytes.accepted.procs.items in
    let sums : IsTotalOf (file_of procs) c.in-Ok-counted.totals = rw (c.deref-2.ensures.value, c.file.ensures.same) at c.in-Ok-counted.ensures in
    record {
      processes = refl;
      bytes = c.len.ensures ∙ (sym c.deref.ensures.len ∙ ap length is);
      counted = total_of c.args.count c.deref.result.now is procs c.in-Ok-accepted_of_bytes.ensures.accepted c.in-Ok-counted.totals sums;
    }

pub returns-in-Ok-counted-clause-every_refusal : goal.returns-in-Ok-counted-clause-every_refusal
returns-in-Ok-counted-clause-every_refusal c = λ refusal refused.
    let is = c.deref.ensures.value ∙ c.in-Ok.ensures.text in
    accepted_or_refused (generated c.args.count) refusal refused
    (accepted_text c.args.count c.deref.result.now is c.in-Ok-accepted_of_bytes.accepted.procs.items c.in-Ok-accepted_of_bytes.ensures.accepted)

pub returns-in-Err-accepted_of_bytes-clause-every_refusal : goal.returns-in-Err-accepted_of_bytes-clause-every_refusal
returns-in-Err-accepted_of_bytes-clause-every_refusal c = λ refusal refused.
    let is = c.deref.ensures.value ∙ c.in-Ok.ensures.text in
    c.in-Err-accepted_of_bytes.ensures.every_refusal refusal (subst (λ text. IsCheckRefused text refusal) (sym is) refused)

-- No core file, one that keeps the rules, or one that breaks them.
use Rattle.std.specs.Prelude.{◌≢◌}
use Rattle.anvil_tree.specs.View.{file_of}
use Rattle.tool_answers.specs.declared.refusal.Refusal.TheVariants.{NoMemory}
use Rattle.checked_files.specs.Check.{IsAcceptedFile, IsCheckRefused, by_file, by_rules}
use Rattle.checked_files.proofs.Ruled.{accepted_by, rejected_by, accepted_or_refused, each_told, file_told}
use Rattle.checked_files.proofs.rules.accepted_of_bytes.Goals as goal

pub returns-in-Err-clause-refused : goal.returns-in-Err-clause-refused
returns-in-Err-clause-refused c = λ not_memory. by_file c.in-Err.refusal (c.in-Err.ensures.refused not_memory)

pub returns-in-Err-clause-every_refusal : goal.returns-in-Err-clause-every_refusal
returns-in-Err-clause-every_refusal c = each_told c.args.bytes.now c.in-Err.refusal (λ not_memory. by_file c.in-Err.refusal (c.in-Err.ensures.refused not_memory))

pub returns-in-Err-clause-every_file : goal.returns-in-Err-clause-every_file
returns-in-Err-clause-every_file c = file_told c.args.bytes.now c.in-Err.refusal (λ not_memory. by_file c.in-Err.refusal (c.in-Err.ensures.refused not_memory))

pub returns-in-Ok-accepted_of-clause-accepted : goal.returns-in-Ok-accepted_of-clause-accepted
returns-in-Ok-accepted_of-clause-accepted c =
    let is : IsAcceptedFile c.args.bytes.now (file_of c.in-Ok.front.tree) =
    accepted_by (file_of c.in-Ok.front.tree) c.in-Ok.front.core.procs.items c.in-Ok.ensures.core c.args.bytes.now c.in-Ok.ensures.spelled
    c.in-Ok-accepted_of.ensures.accepted c.in-Ok-accepted_of.ensures.safe in
    record { file = file_of c.in-Ok.front.tree; accepted = is; core = rw c.in-Ok-accepted_of.ensures.same c.in-Ok.ensures.core }

pub returns-in-Ok-accepted_of-clause-every_refusal : goal.returns-in-Ok-accepted_of-clause-every_refusal
returns-in-Ok-accepted_of-clause-every_refusal c = λ refusal refused.
    let is : IsAcceptedFile c.args.bytes.now (file_of c.in-Ok.front.tree) =
    accepted_by (file_of c.in-Ok.front.tree) c.in-Ok.front.core.procs.items c.in-Ok.ensures.core c.args.bytes.now c.in-Ok.ensures.spelled
    c.in-Ok-accepted_of.ensures.accepted c.in-Ok-accepted_of.ensures.safe in
    accepted_or_refused c.args.bytes.now refusal refused (record { file = file_of c.in-Ok.front.tree; is = is })

pub returns-clause-refused : goal.returns-clause-refused
returns-clause-refused c = λ not_memory.
    by_rules (file_of c.in-Ok.front.tree) c.in-Err-accepted_of.refusal c.in-Ok.ensures.spelled
    (rejected_by (file_of c.in-Ok.front.tree) c.in-Ok.front.core.procs.items c.in-Ok.ensures.core c.in-Err-accepted_of.refusal (c.in-Err-accepted_of.ensures.refused not_memory))

pub returns-clause-every_refusal : goal.returns-clause-every_refusal
returns-clause-every_refusal c =
    let told : c.in-Err-accepted_of.refusal ≢ NoMemory → IsCheckRefused c.args.bytes.now c.in-Err-accepted_of.refusal = returns-clause-refused c in
    each_told c.args.bytes.now c.in-Err-accepted_of.refusal told

pub returns-clause-every_file : goal.returns-clause-every_file
returns-clause-every_file c =
    let told : c.in-Err-accepted_of.refusal ≢ NoMemory → IsCheckRefused c.args.bytes.now c.in-Err-accepted_of.refusal = returns-clause-refused c in
    file_told c.args.bytes.now c.in-Err-accepted_of.refusal told

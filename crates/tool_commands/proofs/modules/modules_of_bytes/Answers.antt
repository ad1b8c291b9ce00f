-- The modules of the processes of the code are those of the file that was accepted, which has no refusal.
use Rattle.tool_stages.proofs.Described.{modules_are}
use Rattle.checked_files.proofs.Ruled.{accepted_or_refused}
use Rattle.tool_commands.proofs.modules.modules_of_bytes.Goals as goal

pub returns-in-Ok-modules_of-clause-modules : goal.returns-in-Ok-modules_of-clause-modules
returns-in-Ok-modules_of-clause-modules c =
    modules_are c.args.bytes.now c.in-Ok.ensures.accepted.file c.in-Ok.accepted.procs.items c.in-Ok-modules_of.modules.items c.in-Ok.ensures.accepted.accepted c.in-Ok.ensures.accepted.core
    (rw (c.deref.ensures.value, c.file.ensures.same) at c.in-Ok-modules_of.ensures)

pub returns-in-Ok-modules_of-clause-every_refusal : goal.returns-in-Ok-modules_of-clause-every_refusal
returns-in-Ok-modules_of-clause-every_refusal c = λ refusal refused.
    accepted_or_refused c.args.bytes.now refusal refused (record { file = c.in-Ok.ensures.accepted.file; is = c.in-Ok.ensures.accepted.accepted })

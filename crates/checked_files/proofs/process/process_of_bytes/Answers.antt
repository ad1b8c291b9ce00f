-- The file is not accepted, it has no such process, or one was found.
use Rattle.std.proofs.Common.{◌≡◌, ◌∙◌, ap, sym, subst, map, get_or, None, Some}
use Rattle.core_file.specs.CoreFile.{placed_of}
use Rattle.core_term.specs.declared.process.CoreFile.{CoreFile}
use Rattle.tool_answers.specs.declared.refusal.Code.TheVariants as code
use Rattle.tool_answers.specs.declared.refusal.Refusal.TheVariants.{Bare}
use Rattle.checked_files.specs.Named.{process_named, by_check, no_process}
use Rattle.checked_files.proofs.Processes.{each_told, process_told, process_or_refused, item_of}
use Rattle.checked_files.proofs.process.process_of_bytes.Goals as goal

pub returns-in-Err-clause-refused : goal.returns-in-Err-clause-refused
returns-in-Err-clause-refused c = λ not_memory. by_check c.in-Err.refusal (c.in-Err.ensures.refused not_memory)

pub returns-in-Err-clause-every_refusal : goal.returns-in-Err-clause-every_refusal
returns-in-Err-clause-every_refusal c =
    each_told c.args.bytes.now c.args.name.now c.in-Err.refusal (λ not_memory. by_check c.in-Err.refusal (c.in-Err.ensures.refused not_memory))

pub returns-in-Err-clause-every_process : goal.returns-in-Err-clause-every_process
returns-in-Err-clause-every_process c =
    process_told c.args.bytes.now c.args.name.now c.in-Err.refusal (λ not_memory. by_check c.in-Err.refusal (c.in-Err.ensures.refused not_memory))

pub returns-in-None-clause-refused : goal.returns-in-None-clause-refused
returns-in-None-clause-refused c = λ not_memory.
    let named : process_named c.args.name.now (map placed_of c.in-Ok.accepted.procs.items) ≡ None = rw c.file.ensures.same at c.in-None.ensures in
    no_process (record { file = c.in-Ok.ensures.accepted.file; accepted = c.in-Ok.ensures.accepted.accepted; named = ap (process_named c.args.name.now) (sym c.in-Ok.ensures.accepted.core) ∙ named })

pub returns-in-None-clause-every_refusal : goal.returns-in-None-clause-every_refusal
returns-in-None-clause-every_refusal c =
    each_told c.args.bytes.now c.args.name.now (Bare code.NoProcess) (λ not_memory. returns-in-None-clause-refused c not_memory)

pub returns-in-None-clause-every_process : goal.returns-in-None-clause-every_process
returns-in-None-clause-every_process c =
    process_told c.args.bytes.now c.args.name.now (Bare code.NoProcess) (λ not_memory. returns-in-None-clause-refused c not_memory)

pub returns-in-Some-clause-every_refusal : goal.returns-in-Some-clause-every_refusal
returns-in-Some-clause-every_refusal c = λ refusal refused.
    let (inside, each) = c.in-Some.ensures in
    let default = item_of c.file.result.now.procs.items c.in-Some.index inside in
    let named : process_named c.args.name.now (map placed_of c.in-Ok.accepted.procs.items)
    ≡ Some (placed_of (get_or c.file.result.now.procs.items c.in-Some.index default)).process = subst (λ (core : CoreFile). process_named c.args.name.now (map placed_of core.procs.items) ≡ Some (placed_of (get_or c.file.result.now.procs.items c.in-Some.index default)).process) c.file.ensures.same (each default) in
    process_or_refused c.args.bytes.now c.args.name.now refusal refused
    (record { process = _; of_file = record { file = c.in-Ok.ensures.accepted.file; accepted = c.in-Ok.ensures.accepted.accepted; named = ap (process_named c.args.name.now) (sym c.in-Ok.ensures.accepted.core) ∙ named } })

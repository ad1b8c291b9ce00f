-- No file, a check that failed, or both trees.
use Rattle.anvil_tree.specs.View.{file_of}
use Rattle.checked_files.specs.Refused.{unread, unchecked}
use Rattle.checked_files.proofs.Refusals.{IsTheFile, told_by_reader, told_by_checks, none_for_file, checked_by}
use Rattle.checked_files.proofs.front.core_of_bytes.Goals as goal

pub returns-in-Err-clause-refused : goal.returns-in-Err-clause-refused
returns-in-Err-clause-refused c = λ not_memory. unread c.in-Err.refusal (c.in-Err.ensures.refused not_memory)

pub returns-in-Err-clause-every_refusal : goal.returns-in-Err-clause-every_refusal
returns-in-Err-clause-every_refusal c = told_by_reader c.args.bytes.now c.in-Err.refusal c.in-Err.ensures.every_file c.in-Err.ensures.every_refusal

pub returns-in-Err-clause-every_file : goal.returns-in-Err-clause-every_file
returns-in-Err-clause-every_file c = λ file text. c.in-Err.ensures.every_file file text.spelled

pub returns-in-Ok-core_of_file-clause-every_refusal : goal.returns-in-Ok-core_of_file-clause-every_refusal
returns-in-Ok-core_of_file-clause-every_refusal c = λ refusal refused.
    let the : IsTheFile c.args.bytes.now (file_of c.in-Ok.tree) = record { spelled = c.in-Ok.ensures.spelled; only = c.in-Ok.ensures.every_file; read = c.in-Ok.ensures.every_refusal } in
    none_for_file c.args.bytes.now (file_of c.in-Ok.tree) refusal the c.in-Ok-core_of_file.ensures.checked refused

pub returns-in-Ok-core_of_file-clause-every_file : goal.returns-in-Ok-core_of_file-clause-every_file
returns-in-Ok-core_of_file-clause-every_file c = λ file text. c.in-Ok.ensures.every_file file text.spelled

pub returns-in-Err-core_of_file-clause-refused : goal.returns-in-Err-core_of_file-clause-refused
returns-in-Err-core_of_file-clause-refused c = λ not_memory.
    unchecked (file_of c.in-Ok.tree) c.in-Err-core_of_file.refusal c.in-Ok.ensures.spelled (c.in-Err-core_of_file.ensures.refused not_memory)

pub returns-in-Err-core_of_file-clause-every_refusal : goal.returns-in-Err-core_of_file-clause-every_refusal
returns-in-Err-core_of_file-clause-every_refusal c =
    let the : IsTheFile c.args.bytes.now (file_of c.in-Ok.tree) = record { spelled = c.in-Ok.ensures.spelled; only = c.in-Ok.ensures.every_file; read = c.in-Ok.ensures.every_refusal } in
    told_by_checks c.args.bytes.now (file_of c.in-Ok.tree) c.in-Err-core_of_file.refusal the c.in-Err-core_of_file.ensures.every_refusal

pub returns-in-Err-core_of_file-clause-every_file : goal.returns-in-Err-core_of_file-clause-every_file
returns-in-Err-core_of_file-clause-every_file c = λ file text.
    let the : IsTheFile c.args.bytes.now (file_of c.in-Ok.tree) = record { spelled = c.in-Ok.ensures.spelled; only = c.in-Ok.ensures.every_file; read = c.in-Ok.ensures.every_refusal } in
    c.in-Err-core_of_file.ensures.every_core (checked_by c.args.bytes.now (file_of c.in-Ok.tree) file the text)

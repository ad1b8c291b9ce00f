-- The file is loaded, or not.
use Rattle.std.proofs.Common.{[], refl}
use Rattle.command_words.specs.Form.{file_load}
use Rattle.tool_answers.specs.Answer.{MayGive}
use Rattle.tool_answers.proofs.Steps.{load_fails, loads_on}
use Rattle.tool_stages.specs.Output.{IsOutput}
use Rattle.tool_stages.specs.Stages.{file_stages}
use Rattle.tool_stages.proofs.Exact.{file_exact}
use Rattle.tool_commands.proofs.compile.compile_file.Goals as goal

pub returns-in-Ok : goal.returns-in-Ok
returns-in-Ok g c =
    let told = g.S.Shelf.told c.args.shelf.now in
    let given : MayGive told (file_load c.args.file.now) c.deref.result.now = rw c.deref.ensures.value (record { kept = c.in-Ok.ensures.bytes; within = c.in-Ok.ensures.within }) in
    loads_on (file_stages IsOutput) (file_exact IsOutput) [] (file_load c.args.file.now) [] tt told c.deref.result.now given _ _ _ _ _ _ _ told (g.S.Shelf.faults c.load.new.self) (g.S.Shelf.taken c.load.new.self) refl c.in-Ok.ensures.fault.ok
    c.in-Ok.ensures.too_long.later (c.compile.ensures told (g.S.Shelf.faults c.load.new.self) (g.S.Shelf.taken c.load.new.self))

pub returns : goal.returns
returns g c =
    load_fails (file_stages IsOutput) (file_exact IsOutput) [] (file_load c.args.file.now) [] tt _ _ _ _ (record { same = refl; fine = refl }) c.in-Err.fault c.in-Err.ensures.fault c.in-Err.ensures.too_long c.complain_load.ensures

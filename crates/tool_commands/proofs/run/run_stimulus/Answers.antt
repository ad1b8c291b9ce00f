-- The stimulus is loaded, or not.
use Rattle.std.proofs.Common.{[], ◌∷◌, refl}
use Rattle.command_words.specs.Form.{stimulus_load}
use Rattle.tool_answers.specs.Answer.{MayGive}
use Rattle.tool_answers.proofs.Steps.{load_fails, loads_on}
use Rattle.checked_files.specs.Named.{HasProcess}
use Rattle.tool_stages.specs.Stages.{run_stages}
use Rattle.tool_stages.proofs.SourceRuns.{run_exact}
use Rattle.tool_commands.proofs.run.run_stimulus.Goals as goal

pub returns-in-Ok : goal.returns-in-Ok
returns-in-Ok g c = λ bytes name is.
    let told = g.S.Shelf.told c.args.shelf.now in
    let has : HasProcess bytes name = record { process = _; of_file = is } in
    let given : MayGive told (stimulus_load c.args.stimulus.now) c.deref.result.now = rw c.deref.ensures.value (record { kept = c.in-Ok.ensures.bytes; within = c.in-Ok.ensures.within }) in
    loads_on (run_stages name) (run_exact name) (bytes ∷ []) (stimulus_load c.args.stimulus.now) [] has told c.deref.result.now given _ _ _ _ _ _ _ told (g.S.Shelf.faults c.load.new.self) (g.S.Shelf.taken c.load.new.self) refl c.in-Ok.ensures.fault.ok
    c.in-Ok.ensures.too_long.later (c.run_text.ensures told (g.S.Shelf.faults c.load.new.self) (g.S.Shelf.taken c.load.new.self) bytes name is)

pub returns : goal.returns
returns g c = λ bytes name is.
    let has : HasProcess bytes name = record { process = _; of_file = is } in
    load_fails (run_stages name) (run_exact name) (bytes ∷ []) (stimulus_load c.args.stimulus.now) [] has _ _ _ _ (record { same = refl; fine = refl }) c.in-Err.fault c.in-Err.ensures.fault c.in-Err.ensures.too_long c.complain_load.ensures

-- The stimulus is loaded, or not.
use Rattle.std.proofs.Common.{[], ◌∷◌, refl}
use Rattle.command_words.specs.Form.{stimulus_load}
use Rattle.tool_answers.specs.Answer.{MayGive}
use Rattle.tool_answers.proofs.Steps.{load_fails, loads_on}
use Rattle.tool_stages.specs.RunModule.{HasModule}
use Rattle.tool_stages.specs.Stages.{module_stages}
use Rattle.tool_stages.proofs.ModuleRuns.{module_exact}
use Rattle.tool_commands.proofs.run_module.load_rows.Goals as goal

pub returns-in-Ok : goal.returns-in-Ok
returns-in-Ok g c = λ bytes text name is.
    let told = g.S.Shelf.told c.args.shelf.now in
    let has : HasModule bytes text name = record { process = _; tree = _; pair = is } in
    let given : MayGive told (stimulus_load c.args.stimulus.now) c.deref.result.now = rw c.deref.ensures.value (record { kept = c.in-Ok.ensures.bytes; within = c.in-Ok.ensures.within }) in
    loads_on (module_stages name) (module_exact name) (bytes ∷ text ∷ []) (stimulus_load c.args.stimulus.now) ([]) has told c.deref.result.now given _ _ _ _ _ _ _
    told (g.S.Shelf.faults c.load.new.self) (g.S.Shelf.taken c.load.new.self) refl c.in-Ok.ensures.fault.ok c.in-Ok.ensures.too_long.later (c.run_rows.ensures told (g.S.Shelf.faults c.load.new.self) (g.S.Shelf.taken c.load.new.self) bytes text name is)

pub returns : goal.returns
returns g c = λ bytes text name is.
    let has : HasModule bytes text name = record { process = _; tree = _; pair = is } in
    load_fails (module_stages name) (module_exact name) (bytes ∷ text ∷ []) (stimulus_load c.args.stimulus.now) ([]) has _ _ _ _ (record { same = refl; fine = refl }) c.in-Err.fault c.in-Err.ensures.fault
    c.in-Err.ensures.too_long c.complain_load.ensures

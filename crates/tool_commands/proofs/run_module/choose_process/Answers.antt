-- The file has the process, or the stage refuses.
use Rattle.std.proofs.Common.{[], ◌∷◌, refl}
use Rattle.core_term.specs.AcceptedFile.{process_in}
use Rattle.command_words.specs.Form.{stimulus_load, text_load}
use Rattle.tool_answers.proofs.Steps.{stage_refuses}
use Rattle.checked_files.specs.Named.{IsProcessOf}
use Rattle.tool_stages.specs.Stages.{module_stages}
use Rattle.tool_stages.proofs.ModuleRuns.{module_exact}
use Rattle.tool_commands.proofs.run_module.choose_process.Goals as goal

pub returns-in-Ok : goal.returns-in-Ok
returns-in-Ok g c =
    let of_file : IsProcessOf c.args.bytes.now c.args.words.process.now (process_in c.process.result.now) =
    rw c.as_bytes.ensures.value at c.in-Ok.ensures.process c.process.result.now (c.process.ensures c.process.result.now) in
    c.load_modules.ensures c.args.bytes.now of_file

pub returns-in-Err : goal.returns-in-Err
returns-in-Err g c =
    stage_refuses (module_stages c.args.words.process.now) (module_exact c.args.words.process.now) (c.args.bytes.now ∷ []) (text_load c.args.words.text.now ∷ stimulus_load c.args.words.stimulus.now ∷ []) _ _ _ _
    (record { same = refl; fine = refl }) refl c.in-Err.refusal (rw c.as_bytes.ensures.value at c.in-Err.ensures.refused) c.complain_refusal.ensures

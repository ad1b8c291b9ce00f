-- The file has the process, or the stage refuses.
use Rattle.std.proofs.Common.{[], ◌∷◌, refl}
use Rattle.core_term.specs.AcceptedFile.{process_in}
use Rattle.command_words.specs.Form.{stimulus_load}
use Rattle.tool_answers.proofs.Steps.{stage_refuses}
use Rattle.checked_files.specs.Named.{IsProcessOf}
use Rattle.tool_stages.specs.Stages.{run_stages}
use Rattle.tool_stages.proofs.SourceRuns.{run_exact}
use Rattle.tool_commands.proofs.run.run_process.Goals as goal

pub returns-in-Ok : goal.returns-in-Ok
returns-in-Ok g c =
    let of_file : IsProcessOf c.args.bytes.now c.args.process.now (process_in c.process.result.now) =
    rw c.as_bytes.ensures.value at c.in-Ok.ensures.process c.process.result.now (c.process.ensures c.process.result.now) in
    c.run_stimulus.ensures c.args.bytes.now c.args.process.now of_file

pub returns-in-Err : goal.returns-in-Err
returns-in-Err g c =
    stage_refuses (run_stages c.args.process.now) (run_exact c.args.process.now) (c.args.bytes.now ∷ []) (stimulus_load c.args.stimulus.now ∷ []) _ _ _ _ (record { same = refl; fine = refl }) refl c.in-Err.refusal
    (rw c.as_bytes.ensures.value at c.in-Err.ensures.refused) c.complain_refusal.ensures

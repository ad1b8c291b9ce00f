-- The text has the module, or the stage refuses.
use Rattle.std.proofs.Common.{[], ◌∷◌, refl}
use Rattle.core_term.specs.AcceptedFile.{process_in}
use Rattle.command_words.specs.Form.{stimulus_load}
use Rattle.tool_answers.proofs.Steps.{stage_refuses}
use Rattle.tool_stages.specs.RunModule.{IsModuleIn}
use Rattle.tool_stages.specs.Stages.{module_stages}
use Rattle.tool_stages.proofs.ModuleRuns.{module_exact}
use Rattle.tool_commands.proofs.run_module.choose_module.Goals as goal

pub load_rows-requires-clause-same : goal.load_rows-requires-clause-same
load_rows-requires-clause-same g c =
    let of_text : IsModuleIn (process_in c.args.proc.now) c.args.words.process.now c.args.text.now c.«module».result.now =
    rw c.as_bytes.ensures.value at c.in-Ok.ensures.found c.«module».result.now (c.«module».ensures c.«module».result.now) in
    of_text.same

pub returns-in-Ok : goal.returns-in-Ok
returns-in-Ok g c = λ bytes is.
    let of_text : IsModuleIn (process_in c.args.proc.now) c.args.words.process.now c.args.text.now c.«module».result.now =
    rw c.as_bytes.ensures.value at c.in-Ok.ensures.found c.«module».result.now (c.«module».ensures c.«module».result.now) in
    c.load_rows.ensures bytes c.args.text.now c.args.words.process.now (record { of_file = is; of_text = of_text })

pub returns-in-Err : goal.returns-in-Err
returns-in-Err g c = λ bytes is.
    stage_refuses (module_stages c.args.words.process.now) (module_exact c.args.words.process.now) (bytes ∷ c.args.text.now ∷ []) (stimulus_load c.args.words.stimulus.now ∷ []) _ _ _ _
    (record { same = refl; fine = refl }) refl c.in-Err.refusal (λ not_memory. record { process = _; of_file = is; refused = (rw c.as_bytes.ensures.value at c.in-Err.ensures.refused) not_memory }) c.complain_refusal.ensures

-- The stage refuses, or the texts of the modules are put, or a front part of them.
use Rattle.std.proofs.Common.{[], ◌∷◌, refl}
use Rattle.sv_tree.specs.Text.{modules_text}
use Rattle.tool_answers.proofs.Steps.{cuts_text, puts_text, stage_refuses}
use Rattle.checked_files.specs.Check.{IsAcceptedText}
use Rattle.tool_stages.specs.Output.{IsOutput}
use Rattle.tool_stages.specs.Stages.{file_stages}
use Rattle.tool_stages.proofs.Exact.{file_exact}
use Rattle.tool_stages.proofs.Written.{output_of}
use Rattle.tool_commands.proofs.compile.compile.Goals as goal

pub returns-in-Err : goal.returns-in-Err
returns-in-Err g c = λ told faults taken.
    stage_refuses (file_stages IsOutput) (file_exact IsOutput) (c.args.bytes.now ∷ []) [] _ _ _ _ (record { same = refl; fine = refl }) refl c.in-Err.refusal c.in-Err.ensures.refused c.complain_refusal.ensures

pub returns-in-Ok-put_modules : goal.returns-in-Ok-put_modules
returns-in-Ok-put_modules g c = λ told faults taken.
    let are = c.in-Ok.ensures.modules in
    let accepted : IsAcceptedText c.args.bytes.now = record { file = are.file; is = are.accepted } in
    puts_text (file_stages IsOutput) (file_exact IsOutput) (c.args.bytes.now ∷ []) accepted _ _ _ _ refl refl (modules_text c.in-Ok.modules.items) (output_of c.args.bytes.now c.in-Ok.modules.items are)
    (rw c.deref.ensures.value at c.in-Ok-put_modules.ensures.whole) c.in-Ok-put_modules.ensures.fine (record { same = refl; fine = refl }) (λ whole line broken. broken)

pub returns : goal.returns
returns g c = λ told faults taken.
    let are = c.in-Ok.ensures.modules in
    let accepted : IsAcceptedText c.args.bytes.now = record { file = are.file; is = are.accepted } in
    cuts_text (file_stages IsOutput) (file_exact IsOutput) (c.args.bytes.now ∷ []) accepted _ _ _ _ refl refl (modules_text c.in-Ok.modules.items) (output_of c.args.bytes.now c.in-Ok.modules.items are)
    (rw c.deref.ensures.value at c.in-Err-put_modules.ensures.part) c.in-Err-put_modules.ensures.cause (record { same = refl; fine = refl })

-- The stage refuses, or the line is put.
use Rattle.std.proofs.Common.{[], ◌∷◌, codes, refl}
use Rattle.tool_answers.proofs.Steps.{cuts_text, puts_text, stage_refuses}
use Rattle.checked_files.specs.Check.{IsAcceptedText}
use Rattle.tool_stages.specs.Stages.{IsAcceptedLine, file_stages}
use Rattle.tool_stages.proofs.Exact.{file_exact}
use Rattle.tool_commands.proofs.check.check.Goals as goal

pub returns-in-Err : goal.returns-in-Err
returns-in-Err g c = λ told faults taken.
    stage_refuses (file_stages IsAcceptedLine) (file_exact IsAcceptedLine) (c.args.bytes.now ∷ []) [] _ _ _ _ (record { same = refl; fine = refl }) refl c.in-Err.refusal c.in-Err.ensures.refused c.complain_refusal.ensures

pub returns-in-Ok : goal.returns-in-Ok
returns-in-Ok g c = λ told faults taken.
    let accepted : IsAcceptedText c.args.bytes.now = record { file = c.in_default.ensures.accepted.file; is = c.in_default.ensures.accepted.accepted } in
    puts_text (file_stages IsAcceptedLine) (file_exact IsAcceptedLine) (c.args.bytes.now ∷ []) accepted _ _ _ _ refl refl (codes "accepted\n") (record { accepted = accepted; is = refl }) c.in-Ok.ensures.whole c.in-Ok.ensures.fine
    (record { same = refl; fine = refl }) (λ whole line broken. broken)

pub returns-in-Err-put_all : goal.returns-in-Err-put_all
returns-in-Err-put_all g c = λ told faults taken.
    let accepted : IsAcceptedText c.args.bytes.now = record { file = c.in_default.ensures.accepted.file; is = c.in_default.ensures.accepted.accepted } in
    cuts_text (file_stages IsAcceptedLine) (file_exact IsAcceptedLine) (c.args.bytes.now ∷ []) accepted _ _ _ _ refl refl (codes "accepted\n") (record { accepted = accepted; is = refl }) c.in-Err-put_all.ensures.part c.in-Err-put_all.ensures.cause
    (record { same = refl; fine = refl })

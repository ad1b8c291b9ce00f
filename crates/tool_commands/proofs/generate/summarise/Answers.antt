-- The one stage refuses, or the line is put, or a part of it.
use Rattle.std.proofs.Common.{[], refl}
use Rattle.tool_answers.proofs.Steps.{cuts_text, puts_text, stage_refuses}
use Rattle.tool_stages.specs.Stages.{gen_stages}
use Rattle.tool_stages.proofs.Exact.{gen_exact}
use Rattle.tool_stages.proofs.Summarised.{accepted_by, from_start, line_of, written_by}
use Rattle.tool_commands.proofs.generate.summarise.Goals as goal

pub returns-in-Err : goal.returns-in-Err
returns-in-Err g c = λ told faults taken.
    from_start c.args.count c.requires.some c.requires.few _ _ _ _
    (stage_refuses (gen_stages c.args.count) (gen_exact c.args.count) [] [] _ _ _ _ (record { same = refl; fine = refl }) refl c.in-Err.refusal c.in-Err.ensures.refused c.complain_refusal.ensures)

pub returns-in-Ok-put_summary : goal.returns-in-Ok-put_summary
returns-in-Ok-put_summary g c = λ told faults taken.
    let summed = c.in-Ok.ensures.summary in
    from_start c.args.count c.requires.some c.requires.few _ _ _ _
    (puts_text (gen_stages c.args.count) (gen_exact c.args.count) [] (accepted_by c.args.count c.in-Ok.summary summed) _ _ _ _ refl refl (line_of c.in-Ok.summary) (written_by c.args.count c.in-Ok.summary summed)
    c.in-Ok-put_summary.ensures.whole c.in-Ok-put_summary.ensures.fine (record { same = refl; fine = refl }) (λ whole line broken. broken))

pub returns-in-Err-put_summary : goal.returns-in-Err-put_summary
returns-in-Err-put_summary g c = λ told faults taken.
    let summed = c.in-Ok.ensures.summary in
    from_start c.args.count c.requires.some c.requires.few _ _ _ _
    (cuts_text (gen_stages c.args.count) (gen_exact c.args.count) [] (accepted_by c.args.count c.in-Ok.summary summed) _ _ _ _ refl refl (line_of c.in-Ok.summary) (written_by c.args.count c.in-Ok.summary summed)
    c.in-Err-put_summary.ensures.part c.in-Err-put_summary.ensures.cause (record { same = refl; fine = refl }))

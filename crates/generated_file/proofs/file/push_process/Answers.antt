-- The pieces are those of the line.
use Rattle.std.proofs.Common.{◌++◌, ◌∙◌, ap}
use Rattle.std.proofs.lemmas.Result.{IfOk-weaker}
use Rattle.generated_file.proofs.Lines.{line_of}
use Rattle.generated_file.proofs.file.push_process.Goals as goal

pub returns : goal.returns
returns c =
    let name = c.as_bytes.ensures.value ∙ c.format.ensures.text in
    let reset = c.as_bytes-2.ensures.value ∙ c.format-2.ensures.text in
    let pause = c.as_bytes-3.ensures.value ∙ c.format-3.ensures.text in
    let line = line_of c.args.index _ _ _ name reset pause in
    IfOk-weaker c.push_all.result _ _ (λ done put. put ∙ ap (λ bytes. c.args.text.now.items ++ bytes) line) c.push_all.ensures

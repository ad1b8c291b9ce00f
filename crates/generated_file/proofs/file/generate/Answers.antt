-- One process more; and the text is short.
use Rattle.std.proofs.Common.{◌≡◌, ◌++◌, ◌∙◌, ap, arith}
use Rattle.generated_file.specs.Generated.{generated, process_line}
use Rattle.generated_file.proofs.Lengths.{generated_short}
use Rattle.generated_file.proofs.Lines.{generated_more}
use Rattle.generated_file.proofs.file.generate.Goals as goal

pub loop-index-preserved : goal.loop-index-preserved
loop-index-preserved c =
    c.in_ok-push_process.ensures ∙ ap (λ text. text ++ process_line c.loop-index.index) c.loop-index.invariant
    ∙ generated_more c.loop-index.index

pub returns : goal.returns
returns c =
    let ended : c.loop-index.index ≡ c.args.count = omega arith in
    let whole = c.loop-index.invariant ∙ ap generated ended in
    record { text = whole; small = rw whole (generated_short c.args.count c.requires.few) }

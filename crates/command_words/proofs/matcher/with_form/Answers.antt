use Rattle.std.proofs.Common.{◌∙◌, ap}
use Rattle.std.proofs.lemmas.Result.{IfOk-weaker}
use Rattle.clap.specs.Words.{app_of}
use Rattle.clap.specs.Simple.{with_subcommand}
use Rattle.command_words.proofs.matcher.with_form.Goals as goal

pub returns : goal.returns
returns c =
    IfOk-weaker c.subcommand.result _ _
    (λ made added. added.shape c.in_ok-form.ensures.local ∙ ap (with_subcommand (app_of c.args.command)) c.in_ok-form.ensures.shape)
    c.subcommand.ensures

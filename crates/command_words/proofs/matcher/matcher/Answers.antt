use Rattle.std.proofs.Common.{◌≡◌, ◌∙◌, ap, true}
use Rattle.std.proofs.lemmas.Result.{IfOk-weaker}
use Rattle.clap.specs.Words.{App, app_of}
use Rattle.clap.specs.Simple.{app_of_fields, on_top, with_subcommand}
use Rattle.clap.specs.declared.builder.command.Command as built
use Rattle.clap.specs.declared.builder.command.Command.TheOpen.{Command-F}
use Rattle.command_words.specs.Form.{Command, check, compile, run, runsv, gen}
use Rattle.command_words.specs.Matched.{subcommand_shape}
use Rattle.command_words.proofs.matcher.matcher.Goals as goal

abbrev with_settings : App → App
with_settings = on_top (λ s. record s {
  no_binary_name = true;
  disable_help_flag = true;
  disable_help_subcommand = true;
  disable_version_flag = true;
  subcommand_required = true;
})

abbrev with_command : Command → App → App
with_command command app = with_subcommand app (subcommand_shape command)

pub returns : goal.returns
returns c =
    let fields = c.subcommand_required-command.ensures
    ∙ ap (λ (f : Command-F built.Command). record f { subcommand_required = true }) (c.disable_version_flag.ensures
    ∙ ap (λ (f : Command-F built.Command). record f { disable_version_flag = true }) (c.disable_help_subcommand.ensures
    ∙ ap (λ (f : Command-F built.Command). record f { disable_help_subcommand = true }) (c.disable_help_flag.ensures
    ∙ ap (λ (f : Command-F built.Command). record f { disable_help_flag = true }) c.no_binary_name.ensures))) in
    let settings : app_of c.subcommand_required-command.result ≡ with_settings (app_of c.new.result) = ap app_of_fields fields in
    let top = settings ∙ ap with_settings c.new.ensures.app in
    let one = c.in_ok-command.ensures ∙ ap (with_command check) top in
    let two = c.in_ok-command-2.ensures ∙ ap (with_command compile) one in
    let three = c.in_ok-command-3.ensures ∙ ap (with_command run) two in
    let four = c.in_ok-command-4.ensures ∙ ap (with_command runsv) three in
    IfOk-weaker c.with_form-5.result _ _ (λ made added. added ∙ ap (with_command gen) four) c.with_form-5.ensures

use Rattle.std.proofs.Common.{◌≡◌, false}
use Rattle.std.specs.Prelude.{map, take}
use Rattle.clap.specs.Words.{app_of}
use Rattle.clap.specs.declared.builder.command.Command.TheViews.{out-Command}
use Rattle.command_words.specs.Matched.{with_labels}
use Rattle.command_words.proofs.matcher.with_operands.Given as goal

abbrev pub invariant-loop-label : goal.invariant-loop-label
invariant-loop-label l = record {
  shape : (app_of l.command).top ≡ with_labels l.name (map (λ label. label.now) (take l.label-index l.labels));
  local : (out-Command l.command).has_globals ≡ false;
}

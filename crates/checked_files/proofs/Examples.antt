-- Lines of refusals, computed.
use Rattle.std.proofs.Common.{◌≡◌, codes, refl}
use Rattle.std.specs.Fmt.{digits}
use Rattle.anvil_lexer.specs.declared.error.LexErr.TheVariants as lexer
use Rattle.anvil_grammar.specs.declared.error.Counted.TheVariants as counted
use Rattle.anvil_grammar.specs.declared.error.ParseErr.TheVariants as parser
use Rattle.channel_classes.specs.declared.error.ClassErr.TheVariants as class
use Rattle.core_file.specs.declared.error.NameErr.TheVariants as name
use Rattle.tool_answers.specs.Lines.{refusal_line}
use Rattle.checked_files.specs.Refused.{of_classes, of_lexer, of_parser, of_processes}

of_the_lexer : refusal_line (of_lexer (lexer.LongName 0)) ≡ codes "refused: LongName at 0\n"
unfolding digits
of_the_lexer = refl

of_the_parser : refusal_line (of_parser (parser.TooMany counted.Thread 283)) ≡ codes "refused: TooMany at 283\n"
unfolding digits
of_the_parser = refl

of_a_class : refusal_line (of_classes (class.OwnLife 28)) ≡ codes "refused: OwnLife at 28\n"
unfolding digits
of_a_class = refl

of_widths : refusal_line (of_processes (name.WidthDiffers 48 8 1)) ≡ codes "refused: WidthDiffers at 48\n"
unfolding digits
of_widths = refl

-- Where the tokens are a file, the parser fails by want of memory alone.
use Rattle.std.proofs.Common.{ap, ◌∙◌}
use Rattle.checked_files.specs.Refused.{of_parser}
use Rattle.checked_files.proofs.front.tree_of.Goals as goal

pub returns-in-Err-clause-every_file : goal.returns-in-Err-clause-every_file
returns-in-Err-clause-every_file c = λ file accepted. c.of_parser.ensures ∙ ap of_parser (c.in-Err.ensures.every_file file accepted)

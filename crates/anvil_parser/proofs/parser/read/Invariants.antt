-- Reading on from here comes to what reading the whole comes to.
use Rattle.std.proofs.Common.{◌≡◌, drop}
use Rattle.anvil_grammar.specs.Limited.{read, verdict}
use Rattle.anvil_parser.specs.SeenFile.{reading_of}
use Rattle.parse_steps.specs.SeenCounts.{tally_of}
use Rattle.anvil_parser.proofs.parser.read.Given as goal

abbrev pub invariant-loop-token : goal.invariant-loop-token
invariant-loop-token l = verdict l.fn.tokens ≡ read (reading_of l.reading) (tally_of l.counts) (drop l.token-index l.fn.tokens)

-- None of the numbers so far is the word.
use Rattle.std.proofs.Common.{◌≡◌, ◌-◌}
use Rattle.command_words.specs.Form.{number_among, number_of}
use Rattle.command_words.proofs.words.number_of.Given as goal

abbrev pub invariant-loop-number : goal.invariant-loop-number
invariant-loop-number l = number_of l.fn.word ≡ number_among l.number (65 - l.number) l.fn.word

-- What each refusal of a stimulus says of its text.
use Rattle.std.specs.Prelude.{ℕ, ◌-◌, ◌<◌, List}
use Rattle.core_term.specs.Process.{Port}
use Rattle.stim_text.specs.declared.stimulus.StimErr.{StimErr}
use Rattle.stim_text.specs.declared.stimulus.StimErr.TheVariants.{BadStim, TooManyRows, NoMemory}
use Rattle.stim_text.specs.Answers.{IsFirstBadLine, HasTooManyRows}

-- lines are counted from 1 in the answer
abbrev pub IsRefusedBy : List Port → List ℕ → StimErr → Type 0
IsRefusedBy ports text (BadStim line) = (0 < line) × IsFirstBadLine ports text (line - 1)
IsRefusedBy ports text TooManyRows = HasTooManyRows ports text
IsRefusedBy ports text NoMemory = Unit {0}

-- The exit status of the program for each answer of the tool.
use Rattle.std.specs.Prelude.{ℕ}
use Rattle.tool_answers.specs.declared.status.Status.{Status}
use Rattle.tool_answers.specs.declared.status.Status.TheVariants.{Done, Refused, Usage, ReadFault, TooLong, WriteFault, Breach, NoMemory}

abbrev pub number_of : Status → ℕ
number_of Done = 0
number_of Refused = 1
number_of Usage = 2
number_of ReadFault = 3
number_of TooLong = 4
number_of WriteFault = 5
number_of Breach = 6
number_of NoMemory = 7

-- The lines on standard error.
use Rattle.std.specs.Prelude.{◌≡◌, ◌⊎◌, ℕ, List, ◌++◌, codes}
use Rattle.std.specs.Fmt.{decimal}
use Rattle.tool_answers.specs.declared.refusal.Code.{Code}
use Rattle.tool_answers.specs.declared.refusal.Code.TheVariants as code
use Rattle.tool_answers.specs.declared.refusal.Refusal.{Refusal}
use Rattle.tool_answers.specs.declared.refusal.Refusal.TheVariants.{Bare, Placed, Paired, Lined, NoMemory}

-- A refusal.

abbrev pub spelling : Code → List ℕ
spelling code.NotUtf8 = codes "NotUtf8"
spelling code.BadChar = codes "BadChar"
spelling code.BadNumber = codes "BadNumber"
spelling code.LongName = codes "LongName"
spelling code.Unexpected = codes "Unexpected"
spelling code.TooDeep = codes "TooDeep"
spelling code.TooMany = codes "TooMany"
spelling code.BadName = codes "BadName"
spelling code.Twice = codes "Twice"
spelling code.BadWidth = codes "BadWidth"
spelling code.BadCount = codes "BadCount"
spelling code.OwnLife = codes "OwnLife"
spelling code.NoSuchLife = codes "NoSuchLife"
spelling code.Unknown = codes "Unknown"
spelling code.TooManyPorts = codes "TooManyPorts"
spelling code.LiteralTooLarge = codes "LiteralTooLarge"
spelling code.WidthDiffers = codes "WidthDiffers"
spelling code.UnitUsed = codes "UnitUsed"
spelling code.WrongSide = codes "WrongSide"
spelling code.EndpointShared = codes "EndpointShared"
spelling code.RegisterShared = codes "RegisterShared"
spelling code.NotTail = codes "NotTail"
spelling code.V2 = codes "V2"
spelling code.V3 = codes "V3"
spelling code.V4 = codes "V4"
spelling code.V5 = codes "V5"
spelling code.V6 = codes "V6"
spelling code.V7 = codes "V7"
spelling code.V8 = codes "V8"
spelling code.NoProcess = codes "NoProcess"
spelling code.NotEmitted = codes "NotEmitted"
spelling code.NoModule = codes "NoModule"
spelling code.OtherPorts = codes "OtherPorts"
spelling code.BadStim = codes "BadStim"
spelling code.TooManyRows = codes "TooManyRows"

abbrev pub no_memory_line : List ℕ
no_memory_line = codes "no memory\n"

-- `refused: CODE`, and then the place, both places, or the number of the line, in decimal
abbrev pub refusal_line : Refusal → List ℕ
refusal_line (Bare code) = codes "refused: " ++ (spelling code ++ codes "\n")
refusal_line (Placed code at) = codes "refused: " ++ (spelling code ++ (codes " at " ++ (decimal at ++ codes "\n")))
refusal_line (Paired code at other) =
    codes "refused: " ++
    (spelling code ++ (codes " at " ++ (decimal at ++ (codes " and " ++ (decimal other ++ codes "\n")))))
refusal_line (Lined code line) = codes "refused: " ++ (spelling code ++ (codes " at " ++ (decimal line ++ codes "\n")))
refusal_line NoMemory = no_memory_line

-- a line that may be told where bytes have the refusal: its own, or that of want of memory
abbrev pub IsLineOf : Refusal → List ℕ → Type 0
IsLineOf refusal line = (line ≡ refusal_line refusal) ⊎ (line ≡ no_memory_line)

-- A load.

abbrev pub read_fault_line : List ℕ → List ℕ
read_fault_line name = codes "read fault: " ++ (name ++ codes "\n")

abbrev pub too_long_line : List ℕ → List ℕ
too_long_line name = codes "too long: " ++ (name ++ codes "\n")

-- A broken promise, by the names of its port.
abbrev pub promise_line : ℕ → (endpoint message : List ℕ) → List ℕ
promise_line cycle endpoint message =
    codes "breach: cycle "
    ++ (decimal cycle ++ (codes " port " ++ (endpoint ++ (codes "." ++ (message ++ codes "\n")))))

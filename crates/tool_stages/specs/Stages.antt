-- The stages of each command: what they say of the bytes that they have.
use Rattle.std.specs.Prelude.{◌≡◌, ◌⊎◌, ℕ, List, [], ◌∷◌, codes, Option, Some, None}
use Rattle.command_words.specs.Form.{Command, check, compile, run, runsv, gen, Form, loads_of, number_of, usage_line}
use Rattle.tool_answers.specs.declared.refusal.Refusal.{Refusal}
use Rattle.tool_answers.specs.Stages.{Stage, Stages}
use Rattle.tool_answers.specs.Lines.{no_memory_line}
use Rattle.tool_answers.specs.Answer.{IsLine}
use Rattle.checked_files.specs.Check.{IsAcceptedText, IsCheckRefused}
use Rattle.checked_files.specs.Named.{HasProcess, IsProcessRefused}
use Rattle.generated_file.specs.Generated.{generated}
use Rattle.generated_runs.specs.Summary.{IsSummary}
use Rattle.tool_stages.specs.Output.{IsOutput}
use Rattle.tool_stages.specs.Run.{HasRun, IsBrokenRun, IsRunFront, IsRunLog, IsTextRefused}
use Rattle.tool_stages.specs.RunModule.{
  HasModule,
  HasModuleRun,
  IsBrokenModule,
  IsModuleFront,
  IsModuleLog,
  IsModuleTextRefused,
  IsSvRefused,
}

-- `check` and `compile`: FILE keeps the timing rules, or is refused. What is written for it is their own.

abbrev pub file_refuses : List (List ℕ) → Refusal → Type 0
file_refuses [] refusal = ⊥
file_refuses (file ∷ []) refusal = IsCheckRefused file refusal
file_refuses (file ∷ other ∷ more) refusal = ⊥

abbrev pub file_goes_on : List (List ℕ) → Type 0
file_goes_on [] = Unit {0}
file_goes_on (file ∷ []) = IsAcceptedText file
file_goes_on (file ∷ other ∷ more) = ⊥

abbrev pub file_writes : (output : List ℕ → List ℕ → Type 0) → List (List ℕ) → List ℕ → Type 0
file_writes output [] text = ⊥
file_writes output (file ∷ []) text = output file text
file_writes output (file ∷ other ∷ more) text = ⊥

abbrev pub file_stages : (output : List ℕ → List ℕ → Type 0) → Stages
file_stages output = record {
  refuses = file_refuses;
  goes_on = file_goes_on;
  writes = file_writes output;
  begins = file_writes output;
  breaks = λ loaded text line. ⊥;
}

-- what `check` writes for an accepted file
pub record IsAcceptedLine (bytes text : List ℕ) : Type 0 where
  pub accepted : IsAcceptedText bytes
  pub is : text ≡ codes "accepted\n"

-- `run`: FILE has a process of the name, then STIM has rows for it.

abbrev pub run_refuses : List ℕ → List (List ℕ) → Refusal → Type 0
run_refuses name [] refusal = ⊥
run_refuses name (file ∷ []) refusal = IsProcessRefused file name refusal
run_refuses name (file ∷ stimulus ∷ []) refusal = IsTextRefused file name stimulus refusal
run_refuses name (file ∷ stimulus ∷ other ∷ more) refusal = ⊥

abbrev pub run_goes_on : List ℕ → List (List ℕ) → Type 0
run_goes_on name [] = Unit {0}
run_goes_on name (file ∷ []) = HasProcess file name
run_goes_on name (file ∷ stimulus ∷ []) = HasRun file name stimulus
run_goes_on name (file ∷ stimulus ∷ other ∷ more) = ⊥

-- behind the last stage
abbrev pub run_texts : (texts : (file stimulus : List ℕ) → Type 0) → List (List ℕ) → Type 0
run_texts texts [] = ⊥
run_texts texts (file ∷ []) = ⊥
run_texts texts (file ∷ stimulus ∷ []) = texts file stimulus
run_texts texts (file ∷ stimulus ∷ other ∷ more) = ⊥

abbrev pub run_stages : List ℕ → Stages
run_stages name = record {
  refuses = run_refuses name;
  goes_on = run_goes_on name;
  writes = λ loaded text. run_texts (λ file stimulus. IsRunLog file name stimulus text) loaded;
  begins = λ loaded text. run_texts (λ file stimulus. IsRunFront file name stimulus text) loaded;
  breaks = λ loaded text line. run_texts (λ file stimulus. IsBrokenRun file name stimulus text line) loaded;
}

-- `runsv`: FILE has a process of the name, then SV a module of it, then STIM has rows for it.

abbrev pub module_refuses : List ℕ → List (List ℕ) → Refusal → Type 0
module_refuses name [] refusal = ⊥
module_refuses name (file ∷ []) refusal = IsProcessRefused file name refusal
module_refuses name (file ∷ text ∷ []) refusal = IsSvRefused file text name refusal
module_refuses name (file ∷ text ∷ stimulus ∷ []) refusal = IsModuleTextRefused file text name stimulus refusal
module_refuses name (file ∷ text ∷ stimulus ∷ other ∷ more) refusal = ⊥

abbrev pub module_goes_on : List ℕ → List (List ℕ) → Type 0
module_goes_on name [] = Unit {0}
module_goes_on name (file ∷ []) = HasProcess file name
module_goes_on name (file ∷ text ∷ []) = HasModule file text name
module_goes_on name (file ∷ text ∷ stimulus ∷ []) = HasModuleRun file text name stimulus
module_goes_on name (file ∷ text ∷ stimulus ∷ other ∷ more) = ⊥

abbrev pub module_texts : (texts : (file text stimulus : List ℕ) → Type 0) → List (List ℕ) → Type 0
module_texts texts [] = ⊥
module_texts texts (file ∷ []) = ⊥
module_texts texts (file ∷ text ∷ []) = ⊥
module_texts texts (file ∷ text ∷ stimulus ∷ []) = texts file text stimulus
module_texts texts (file ∷ text ∷ stimulus ∷ other ∷ more) = ⊥

abbrev pub module_stages : List ℕ → Stages
module_stages name = record {
  refuses = module_refuses name;
  goes_on = module_goes_on name;
  writes = λ loaded log. module_texts (λ file text stimulus. IsModuleLog file text name stimulus log) loaded;
  begins = λ loaded log. module_texts (λ file text stimulus. IsModuleFront file text name stimulus log) loaded;
  breaks = λ loaded log line.
      module_texts (λ file text stimulus. IsBrokenModule file text name stimulus log line) loaded;
}

-- `gen`: no file is loaded, and the generated file of the number keeps the timing rules, or is refused.

abbrev pub gen_refuses : ℕ → List (List ℕ) → Refusal → Type 0
gen_refuses count [] refusal = IsCheckRefused (generated count) refusal
gen_refuses count (file ∷ more) refusal = ⊥

abbrev pub gen_goes_on : ℕ → List (List ℕ) → Type 0
gen_goes_on count [] = IsAcceptedText (generated count)
gen_goes_on count (file ∷ more) = ⊥

abbrev pub gen_writes : ℕ → List (List ℕ) → List ℕ → Type 0
gen_writes count [] text = IsSummary count text
gen_writes count (file ∷ more) text = ⊥

abbrev pub gen_stages : ℕ → Stages
gen_stages count = record {
  refuses = gen_refuses count;
  goes_on = gen_goes_on count;
  writes = gen_writes count;
  begins = gen_writes count;
  breaks = λ loaded text line. ⊥;
}

-- The stages of each command, which may ask for the words of the form too.

-- the word of the number, from 0
abbrev pub second_of : List (List ℕ) → List ℕ
second_of [] = []
second_of (first ∷ []) = []
second_of (first ∷ second ∷ more) = second

abbrev pub third_of : List (List ℕ) → List ℕ
third_of [] = []
third_of (first ∷ more) = second_of more

abbrev pub number_or_none : Option ℕ → ℕ
number_or_none None = 0
number_or_none (Some number) = number

-- the number that the first word is
abbrev pub count_of : List (List ℕ) → ℕ
count_of [] = 0
count_of (first ∷ more) = number_or_none (number_of first)

abbrev pub stages_by : Command → List (List ℕ) → Stages
stages_by check operands = file_stages IsAcceptedLine
stages_by compile operands = file_stages IsOutput
stages_by run operands = run_stages (second_of operands)
stages_by runsv operands = module_stages (third_of operands)
stages_by gen operands = gen_stages (count_of operands)

-- where a form begins: nothing is loaded yet
abbrev pub start_of : Form → Stage
start_of form = record { of = stages_by form.command form.operands; loaded = []; loads = loads_of form }

-- a line that some answer has, where the words have a form and where they have none
abbrev pub IsLineFor : (List ℕ → Option (List ℕ)) → Option Form → List ℕ → Type 0
IsLineFor told None line = (line ≡ usage_line) ⊎ (line ≡ no_memory_line)
IsLineFor told (Some form) line = IsLine told (start_of form) line

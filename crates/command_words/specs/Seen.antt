-- The command that the code reads, as a form.
use Rattle.std.specs.Prelude.{⊤, ◌≤◌}
use Rattle.command_words.specs.declared.words.Command.{Command}
use Rattle.command_words.specs.declared.words.Command.TheVariants.{Check, Compile, Run, RunModule, Generate}
use Rattle.command_words.specs.Form.{Form, check_form, compile_form, gen_form, most_number, run_form, runsv_form}

abbrev pub form_seen : Command → Form
form_seen (Check file) = check_form file.now
form_seen (Compile file) = compile_form file.now
form_seen (Run file process stimulus) = run_form file.now process.now stimulus.now
form_seen (RunModule file text process stimulus) = runsv_form file.now text.now process.now stimulus.now
form_seen (Generate count) = gen_form count

-- the number of `gen` is from 1 to 64
abbrev pub HasNumber : Command → Type 0
HasNumber (Check file) = ⊤
HasNumber (Compile file) = ⊤
HasNumber (Run file process stimulus) = ⊤
HasNumber (RunModule file text process stimulus) = ⊤
HasNumber (Generate count) = (1 ≤ count) × (count ≤ most_number)

-- The stages of every command are exact, so at most one answer has its cause.
use Rattle.std.proofs.Common.{◌≡◌, ◌∙◌, ℕ, ◌≤◌, List, [], ◌∷◌, Option, Some, None, refl, sym, ap}
use Rattle.command_words.specs.Form.{Command, check, compile, run, runsv, gen, Form, gen_form, most_number, usage_line}
use Rattle.command_words.proofs.Numbers.{number_of_decimal}
use Rattle.tool_answers.specs.declared.refusal.Refusal.{Refusal}
use Rattle.tool_answers.specs.declared.status.Status.{Status}
use Rattle.tool_answers.specs.declared.status.Status.TheVariants.{Usage}
use Rattle.tool_answers.specs.Stages.{AreExact, Stage}
use Rattle.tool_answers.specs.OneAnswer.{HasCause}
use Rattle.tool_answers.proofs.OneAnswer.{one_answer}
use Rattle.checked_files.proofs.Ruled.{check_refused_once, accepted_or_refused}
use Rattle.generated_file.specs.Generated.{generated}
use Rattle.tool_stages.specs.Laws.{HasOneAnswer, IsCaused, of_form, of_words}
use Rattle.tool_stages.specs.Stages.{count_of, file_goes_on, file_refuses, file_stages, gen_goes_on, gen_refuses, gen_stages, number_or_none, second_of, stages_by, start_of, third_of}
use Rattle.tool_stages.proofs.SourceRuns.{run_exact}
use Rattle.tool_stages.proofs.ModuleRuns.{module_exact}

file_once : (loaded : List (List ℕ)) (one other : Refusal) → file_refuses loaded one → file_refuses loaded other → one ≡ other
file_once [] one other first second = absurd first
file_once (file ∷ []) one other first second = check_refused_once file one other first second
file_once (file ∷ next ∷ more) one other first second = absurd first

file_apart : (loaded : List (List ℕ)) (refusal : Refusal) → file_refuses loaded refusal → file_goes_on loaded → ⊥
file_apart [] refusal first accepted = first
file_apart (file ∷ []) refusal first accepted = accepted_or_refused file refusal first accepted
file_apart (file ∷ next ∷ more) refusal first accepted = first

pub file_exact : (output : List ℕ → List ℕ → Type 0) → AreExact (file_stages output)
file_exact output = record { once = file_once; apart = file_apart; one_break = λ loaded text other line said first second. absurd first }

gen_once : (count : ℕ) (loaded : List (List ℕ)) (one other : Refusal) → gen_refuses count loaded one → gen_refuses count loaded other → one ≡ other
gen_once count [] one other first second = check_refused_once (generated count) one other first second
gen_once count (file ∷ more) one other first second = absurd first

gen_apart : (count : ℕ) (loaded : List (List ℕ)) (refusal : Refusal) → gen_refuses count loaded refusal → gen_goes_on count loaded → ⊥
gen_apart count [] refusal first accepted = accepted_or_refused (generated count) refusal first accepted
gen_apart count (file ∷ more) refusal first accepted = first

pub gen_exact : (count : ℕ) → AreExact (gen_stages count)
gen_exact count = record { once = gen_once count; apart = gen_apart count; one_break = λ loaded text other line said first second. absurd first }

-- where `gen` of a number begins

abbrev pub gen_start : ℕ → Stage
gen_start count = record { of = gen_stages count; loaded = []; loads = [] }

pub gen_begins : (count : ℕ) → 1 ≤ count → count ≤ most_number → start_of (gen_form count) ≡ gen_start count
gen_begins count some few = ap (λ found. gen_start (number_or_none found)) (number_of_decimal count some few)

pub exact : (command : Command) (operands : List (List ℕ)) → AreExact (stages_by command operands)
exact check operands = file_exact _
exact compile operands = file_exact _
exact run operands = run_exact (second_of operands)
exact runsv operands = module_exact (third_of operands)
exact gen operands = gen_exact (count_of operands)

-- At most one answer has its cause.

record Caused (told : List ℕ → Option (List ℕ)) (form : Form) (status : Status) (line : List ℕ) : Type 0 where
  cause : HasCause told (start_of form) status line

caused : (told : List ℕ → Option (List ℕ)) (form : Form) (status : Status) (line : List ℕ) → IsCaused told (Some form) status line → Caused told form status line
caused told form status line (of_form same some said cause) = record { cause = cause }

without_form : (told : List ℕ → Option (List ℕ)) (status : Status) (line : List ℕ) → IsCaused told None status line → (status ≡ Usage) × (line ≡ usage_line)
without_form told status line of_words = (refl, refl)

pub has_one : HasOneAnswer
has_one told None one other line said first second =
    let here = without_form told one line first in
    let there = without_form told other said second in
    (here.0 ∙ sym there.0, here.1 ∙ sym there.1)
has_one told (Some form) one other line said first second =
    one_answer told (start_of form) (exact form.command form.operands) one other line said (caused told form one line first).cause (caused told form other said second).cause

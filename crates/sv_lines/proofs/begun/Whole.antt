-- What the reading of a whole text comes to. Each state is good and has printed the text before it; so a text that is read to its end
-- between two modules is that of these modules, what is read begins a valid text, and every other text is not emitted, at one place.
use Rattle.std.proofs.Common.{◌≡◌, ℕ, List, [], ◌∷◌, ◌++◌, Some, refl, ◌∙◌, ap, subst}
use Rattle.sv_tree.specs.Module.{Module}
use Rattle.sv_tree.specs.Text.{IsTextOf}
use Rattle.sv_lines.specs.State.{State, between, inside, start, text_of}
use Rattle.sv_lines.specs.Step.{read_on, read_to_end, step}
use Rattle.sv_lines.specs.Good.{IsGood}
use Rattle.sv_lines.proofs.kept.GoodKept.{good_kept, start_good, kept_of_good, viable as good_begins}
use Rattle.sv_lines.proofs.kept.StepsKeep.{is_text_of}
use Rattle.sv_lines.proofs.read.FixedText.{with_line}
use Rattle.sv_lines.proofs.read.TextKept.{StandsAt, text_kept}
use Rattle.sv_lines.proofs.answer.NotEmitted.{Viable}
use Rattle.sv_lines.proofs.answer.Along.{kept_whole, viable_by}
use Rattle.sv_lines.specs.Refused.{BeginsText}

stands_of : (state : State) → IsGood state → StandsAt state
stands_of (between whole) good = tt
stands_of (inside whole tree wanted) good = good.placed

abbrev Holds : State → List ℕ → Type 0
Holds state front = IsGood state × (text_of state ≡ front)

steps_keep : (from next : State) (before line : List ℕ) → Holds from before → step from line ≡ Some next → Holds next (before ++ (line ++ (10 ∷ [])))
steps_keep from next before line holds is =
    (good_kept from next line holds.0 is, text_kept from next line (stands_of from holds.0) is ∙ ap (λ text. with_line text line) holds.1)

begins_by : (state : State) (front : List ℕ) → Holds state front → BeginsText front
begins_by state front holds = subst BeginsText holds.1 (good_begins state holds.0)

start_holds : Holds start []
start_holds = (start_good, refl)

pub viable : Viable
viable = viable_by Holds steps_keep start_holds begins_by

pub read_is_text : (text : List ℕ) (modules : List Module) → read_on start 0 [] text ≡ read_to_end (between modules) [] → IsTextOf text modules
read_is_text text modules read =
    let holds = kept_whole Holds steps_keep start_holds (between modules) text read in
    subst (λ t. IsTextOf t modules) holds.1 (is_text_of modules (kept_of_good (between modules) holds.0))

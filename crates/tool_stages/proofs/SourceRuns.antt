-- What `run` says of a file, a name and a stimulus is one.
--
-- The claim: the stages of `run` are exact. The argument: the process is one and its rows are one.
use Rattle.std.proofs.Common.{◌≡◌, ℕ, List, [], ◌∷◌, length, ap, refl, subst}
use Rattle.core_term.specs.declared.rows.Row.{Row}
use Rattle.core_term.specs.History.{history}
use Rattle.core_term.specs.Inputs.{Inputs}
use Rattle.core_term.specs.Outputs.{wires}
use Rattle.core_term.specs.Process.{Process}
use Rattle.run_log.specs.Log.{IsKeptTo}
use Rattle.run_log.specs.Shown.{Shown}
use Rattle.stim_text.specs.Answers.{AreRowsOf}
use Rattle.source_log.specs.Log.{shown_on}
use Rattle.tool_answers.specs.declared.refusal.Refusal.{Refusal}
use Rattle.tool_answers.specs.Stages.{AreExact}
use Rattle.checked_files.specs.Named.{IsProcessOf}
use Rattle.checked_files.proofs.Processes.{same_process, process_refused_once, process_or_refused, ports_fit}
use Rattle.tool_stages.specs.Logs.{HasRows, IsBrokenLog, IsStimulusRefused}
use Rattle.tool_stages.specs.Run.{HasRun, IsBrokenRun, IsTextRefused}
use Rattle.tool_stages.specs.Stages.{run_goes_on, run_refuses, run_stages}
use Rattle.tool_stages.proofs.Stimuli.{rows_or_refused, stimulus_refused_once, same_inputs}
use Rattle.tool_stages.proofs.Runs.{IsRun, broken_once, kept_or_broken}

abbrev shown_by : Process → Inputs → Shown
shown_by p inputs = record { wires = wires p inputs (history p inputs); registers = history p inputs }

pub source_run : (p : Process) → IsRun (shown_on p)
source_run p = record {
  alike = λ rows others same. ap (shown_by p) (same_inputs rows others same);
  count = λ rows. refl;
}

text_refused_once : (bytes name stimulus : List ℕ) (one other : Refusal) → IsTextRefused bytes name stimulus one → IsTextRefused bytes name stimulus other → one ≡ other
text_refused_once bytes name stimulus one other first second =
    let same = same_process bytes name second.process first.process second.of_file first.of_file in
    stimulus_refused_once first.process.ports stimulus (ports_fit bytes name first.process first.of_file) one other first.refused
    (subst (λ (p : Process). IsStimulusRefused p.ports stimulus other) same second.refused)

run_or_refused : (bytes name stimulus : List ℕ) (refusal : Refusal) → IsTextRefused bytes name stimulus refusal → HasRun bytes name stimulus → ⊥
run_or_refused bytes name stimulus refusal refused run =
    let same = same_process bytes name run.process refused.process run.of_file refused.of_file in
    let has : HasRows refused.process.ports stimulus = subst (λ (p : Process). HasRows p.ports stimulus) same run.of_text in
    rows_or_refused refused.process.ports stimulus (ports_fit bytes name refused.process refused.of_file) has.rows refusal has.are refused.refused

broken_run_once : (bytes name stimulus text other line said : List ℕ) → IsBrokenRun bytes name stimulus text line → IsBrokenRun bytes name stimulus other said → (text ≡ other) × (line ≡ said)
broken_run_once bytes name stimulus text other line said one two =
    let same = same_process bytes name two.process one.process two.of_file one.of_file in
    broken_once one.process (shown_on one.process) (source_run one.process) stimulus (ports_fit bytes name one.process one.of_file) text other line said one.log
    (subst (λ p. IsBrokenLog p (shown_on p) stimulus other said) same two.log)

-- By what is loaded.

module _ (name : List ℕ) where
  once : (loaded : List (List ℕ)) (one other : Refusal) → run_refuses name loaded one → run_refuses name loaded other → one ≡ other
  once [] one other first second = absurd first
  once (file ∷ []) one other first second = process_refused_once file name one other first second
  once (file ∷ stimulus ∷ []) one other first second = text_refused_once file name stimulus one other first second
  once (file ∷ stimulus ∷ next ∷ more) one other first second = absurd first

  apart : (loaded : List (List ℕ)) (refusal : Refusal) → run_refuses name loaded refusal → run_goes_on name loaded → ⊥
  apart [] refusal first goes = first
  apart (file ∷ []) refusal first goes = process_or_refused file name refusal first goes
  apart (file ∷ stimulus ∷ []) refusal first goes = run_or_refused file name stimulus refusal first goes
  apart (file ∷ stimulus ∷ next ∷ more) refusal first goes = first

  one_break : (loaded : List (List ℕ)) (text other line said : List ℕ) → (run_stages name).breaks loaded text line → (run_stages name).breaks loaded other said → (text ≡ other) × (line ≡ said)
  one_break [] text other line said first second = absurd first
  one_break (file ∷ []) text other line said first second = absurd first
  one_break (file ∷ stimulus ∷ []) text other line said first second = broken_run_once file name stimulus text other line said first second
  one_break (file ∷ stimulus ∷ next ∷ more) text other line said first second = absurd first

  pub run_exact : AreExact (run_stages name)
  run_exact = record { once = once; apart = apart; one_break = one_break }

-- Where every promise of a run on the rows is kept, it does not stop early.
pub kept_run : (bytes name stimulus : List ℕ) (p : Process) → IsProcessOf bytes name p → (rows : List Row) → AreRowsOf p.ports stimulus rows → IsKeptTo p (shown_on p rows) (length rows)
    → (text line : List ℕ) → IsBrokenRun bytes name stimulus text line → ⊥
kept_run bytes name stimulus p of_file rows are kept text line broken =
    let same = same_process bytes name broken.process p broken.of_file of_file in
    kept_or_broken p (shown_on p) (source_run p) stimulus (ports_fit bytes name p of_file) rows are kept text line
    (subst (λ q. IsBrokenLog q (shown_on q) stimulus text line) same broken.log)

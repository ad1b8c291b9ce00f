-- What `runsv` says of a file, a text, a name and a stimulus is one.
--
-- The claim: the stages of `runsv` are exact. The argument: the process is one, a text is of one list of modules or of none, at one
-- place, so the module is one, and its rows are one.
use Rattle.std.proofs.Common.{◌≡◌, ◌∙◌, ℕ, List, [], ◌∷◌, length, Some, None, ap, refl, sym, subst}
use Rattle.core_term.specs.declared.rows.Row.{Row}
use Rattle.core_term.specs.Inputs.{Inputs}
use Rattle.core_term.specs.Process.{Process}
use Rattle.machine_meaning.specs.ModuleRun.{shown_registers, shown_wires}
use Rattle.run_log.specs.Log.{IsKeptTo}
use Rattle.run_log.specs.Shown.{Shown}
use Rattle.stim_text.specs.Answers.{AreRowsOf}
use Rattle.sv_tree.specs.Module.{Module}
use Rattle.sv_lines.proofs.back.TextRead.{one_list}
use Rattle.sv_lines.proofs.answer.NotEmitted.{emitted_or_not, one_place}
use Rattle.sv_lines.proofs.begun.Whole.{viable}
use Rattle.module_log.specs.SamePorts.{HasPortsOf}
use Rattle.module_log.specs.Log.{module_shown}
use Rattle.tool_answers.specs.declared.refusal.Code.TheVariants as code
use Rattle.tool_answers.specs.declared.refusal.Refusal.{Refusal}
use Rattle.tool_answers.specs.declared.refusal.Refusal.TheVariants.{Placed}
use Rattle.tool_answers.specs.Stages.{AreExact}
use Rattle.checked_files.proofs.Processes.{same_process, process_refused_once, process_or_refused, ports_fit}
use Rattle.tool_stages.specs.Logs.{HasRows, IsBrokenLog, IsStimulusRefused}
use Rattle.tool_stages.specs.RunModule.{
  HasModule,
  HasModuleRun,
  IsBrokenModule,
  IsModuleIn,
  IsModuleRefused,
  IsModuleTextRefused,
  IsPair,
  IsSvRefused,
  module_named,
  not_emitted,
  no_module,
  other_ports,
}
use Rattle.tool_stages.specs.Stages.{module_goes_on, module_refuses, module_stages}
use Rattle.tool_stages.proofs.Stimuli.{rows_or_refused, stimulus_refused_once, same_inputs}
use Rattle.tool_stages.proofs.Runs.{IsRun, broken_once, kept_or_broken}

abbrev module_shown_by : Process → Module → Inputs → Shown
module_shown_by p tree inputs = record { wires = shown_wires p tree inputs; registers = shown_registers p tree inputs }

pub module_run : (p : Process) (tree : Module) → IsRun (module_shown p tree)
module_run p tree = record {
  alike = λ rows others same. ap (module_shown_by p tree) (same_inputs rows others same);
  count = λ rows. refl;
}

-- One module.

module _ (p : Process) (name text : List ℕ) where
  same_module : (tree other : Module) → IsModuleIn p name text tree → IsModuleIn p name text other → tree ≡ other
  same_module tree other one two =
      let modules = one_list text one.modules two.modules one.of_text two.of_text in
      let same : Some tree ≡ Some other = sym one.named ∙ (ap (module_named name) modules ∙ two.named) in
      cc

  module_refused_once : (one other : Refusal) → IsModuleRefused p name text one → IsModuleRefused p name text other → one ≡ other
  module_refused_once one other (not_emitted place first) (not_emitted other_place second) = ap (Placed code.NotEmitted) (one_place viable text place other_place first second)
  module_refused_once one other (not_emitted place first) (no_module modules is none) = absurd (emitted_or_not text modules place is first)
  module_refused_once one other (not_emitted place first) (other_ports modules tree is named differs) = absurd (emitted_or_not text modules place is first)
  module_refused_once one other (no_module modules is none) (not_emitted place second) = absurd (emitted_or_not text modules place is second)
  module_refused_once one other (no_module modules is none) (no_module others is_too none_too) = refl
  module_refused_once one other (no_module modules is none) (other_ports others tree is_too named differs) =
      let same : None ≡ Some tree = sym none ∙ (ap (module_named name) (one_list text modules others is is_too) ∙ named) in absurd cc
  module_refused_once one other (other_ports modules tree is named differs) (not_emitted place second) = absurd (emitted_or_not text modules place is second)
  module_refused_once one other (other_ports modules tree is named differs) (no_module others is_too none) =
      let same : None ≡ Some tree = sym none ∙ (ap (module_named name) (one_list text others modules is_too is) ∙ named) in absurd cc
  module_refused_once one other (other_ports modules tree is named differs) (other_ports others found is_too named_too differs_too) = refl

  module_or_refused : (refusal : Refusal) (tree : Module) → IsModuleRefused p name text refusal → IsModuleIn p name text tree → ⊥
  module_or_refused refusal tree (not_emitted place first) is = emitted_or_not text is.modules place is.of_text first
  module_or_refused refusal tree (no_module modules of_text none) is =
      let same : None ≡ Some tree = sym none ∙ (ap (module_named name) (one_list text modules is.modules of_text is.of_text) ∙ is.named) in cc
  module_or_refused refusal tree (other_ports modules found of_text named differs) is =
      let same : Some tree ≡ Some found = sym is.named ∙ (ap (module_named name) (one_list text is.modules modules is.of_text of_text) ∙ named) in
      let one : tree ≡ found = cc in
      differs (subst (HasPortsOf p) one is.same)

-- One process and its module.

module _ (bytes text name : List ℕ) where
  -- what is said of a module of the process holds of the other
  pub of_pair : (G : Process → Module → Type 0) (p other : Process) (tree found : Module) → IsPair bytes text name p tree → IsPair bytes text name other found → G other found → G p tree
  of_pair G p other tree found one two holds =
      let same = same_process bytes name other p two.of_file one.of_file in
      let there : IsModuleIn p name text found = subst (λ q. IsModuleIn q name text found) same two.of_text in
      let modules = same_module p name text found tree there one.of_text in
      subst (G p) modules (subst (λ q. G q found) same holds)

  sv_refused_once : (one other : Refusal) → IsSvRefused bytes text name one → IsSvRefused bytes text name other → one ≡ other
  sv_refused_once one other first second =
      let same = same_process bytes name second.process first.process second.of_file first.of_file in
      module_refused_once first.process name text one other first.refused (subst (λ p. IsModuleRefused p name text other) same second.refused)

  pub sv_or_refused : (refusal : Refusal) → IsSvRefused bytes text name refusal → HasModule bytes text name → ⊥
  sv_or_refused refusal refused has =
      let same = same_process bytes name has.process refused.process has.pair.of_file refused.of_file in
      module_or_refused refused.process name text refusal has.tree refused.refused (subst (λ p. IsModuleIn p name text has.tree) same has.pair.of_text)

  rows_refused_once : (stimulus : List ℕ) (one other : Refusal) → IsModuleTextRefused bytes text name stimulus one → IsModuleTextRefused bytes text name stimulus other → one ≡ other
  rows_refused_once stimulus one other first second =
      stimulus_refused_once first.process.ports stimulus (ports_fit bytes name first.process first.pair.of_file) one other first.refused
      (of_pair (λ p tree. IsStimulusRefused p.ports stimulus other) first.process second.process first.tree second.tree first.pair second.pair second.refused)

  rows_or_stimulus : (stimulus : List ℕ) (refusal : Refusal) → IsModuleTextRefused bytes text name stimulus refusal → HasModuleRun bytes text name stimulus → ⊥
  rows_or_stimulus stimulus refusal refused run =
      let has : HasRows refused.process.ports stimulus = of_pair (λ p tree. HasRows p.ports stimulus) refused.process run.process refused.tree run.tree refused.pair run.pair run.rows in
      rows_or_refused refused.process.ports stimulus (ports_fit bytes name refused.process refused.pair.of_file) has.rows refusal has.are refused.refused

  broken_module_once : (stimulus log other line said : List ℕ) → IsBrokenModule bytes text name stimulus log line → IsBrokenModule bytes text name stimulus other said → (log ≡ other) × (line ≡ said)
  broken_module_once stimulus log other line said one two =
      broken_once one.process (module_shown one.process one.tree) (module_run one.process one.tree) stimulus (ports_fit bytes name one.process one.pair.of_file) log other line said one.log
      (of_pair (λ p tree. IsBrokenLog p (module_shown p tree) stimulus other said) one.process two.process one.tree two.tree one.pair two.pair two.log)

-- By what is loaded.

module _ (name : List ℕ) where
  once : (loaded : List (List ℕ)) (one other : Refusal) → module_refuses name loaded one → module_refuses name loaded other → one ≡ other
  once [] one other first second = absurd first
  once (file ∷ []) one other first second = process_refused_once file name one other first second
  once (file ∷ text ∷ []) one other first second = sv_refused_once file text name one other first second
  once (file ∷ text ∷ stimulus ∷ []) one other first second = rows_refused_once file text name stimulus one other first second
  once (file ∷ text ∷ stimulus ∷ next ∷ more) one other first second = absurd first

  apart : (loaded : List (List ℕ)) (refusal : Refusal) → module_refuses name loaded refusal → module_goes_on name loaded → ⊥
  apart [] refusal first goes = first
  apart (file ∷ []) refusal first goes = process_or_refused file name refusal first goes
  apart (file ∷ text ∷ []) refusal first goes = sv_or_refused file text name refusal first goes
  apart (file ∷ text ∷ stimulus ∷ []) refusal first goes = rows_or_stimulus file text name stimulus refusal first goes
  apart (file ∷ text ∷ stimulus ∷ next ∷ more) refusal first goes = first

  one_break : (loaded : List (List ℕ)) (log other line said : List ℕ) → (module_stages name).breaks loaded log line → (module_stages name).breaks loaded other said → (log ≡ other) × (line ≡ said)
  one_break [] log other line said first second = absurd first
  one_break (file ∷ []) log other line said first second = absurd first
  one_break (file ∷ text ∷ []) log other line said first second = absurd first
  one_break (file ∷ text ∷ stimulus ∷ []) log other line said first second = broken_module_once file text name stimulus log other line said first second
  one_break (file ∷ text ∷ stimulus ∷ next ∷ more) log other line said first second = absurd first

  pub module_exact : AreExact (module_stages name)
  module_exact = record { once = once; apart = apart; one_break = one_break }

-- Where every promise of a run on the rows is kept, it does not stop early.
pub kept_module : (bytes text name stimulus : List ℕ) (p : Process) (tree : Module) → IsPair bytes text name p tree → (rows : List Row) → AreRowsOf p.ports stimulus rows
    → IsKeptTo p (module_shown p tree rows) (length rows) → (log line : List ℕ) → IsBrokenModule bytes text name stimulus log line → ⊥
kept_module bytes text name stimulus p tree pair rows are kept log line broken =
    kept_or_broken p (module_shown p tree) (module_run p tree) stimulus (ports_fit bytes name p pair.of_file) rows are kept log line
    (of_pair bytes text name (λ q found. IsBrokenLog q (module_shown q found) stimulus log line) p broken.process tree broken.tree pair broken.pair broken.log)

-- `runsv` of what `compile` wrote for a file puts what `run` puts.
--
-- The claim: the text has a module of the name for each process of the name, with its ports and registers; its log is that of the
-- source run. The argument: the modules stand in the order of the processes and have their names, and each is promised to have the log
-- of its process, on input lists that fit, as those of a stimulus are.
use Rattle.std.proofs.Common.{◌≡◌, ◌∙◌, ℕ, suc, ◌<◌, Bool, true, false, List, [], ◌∷◌, inl, inr, length, map, get_or, Some, refl, sym, subst, arith}
use Rattle.std.specs.Prelude.{IsTrue, bytes_eq}
use Rattle.std.specs.List.{AllZip}
use Rattle.std.proofs.lemmas.Option.{same_Some}
use Rattle.channel_classes.specs.Classes.{classes_of}
use Rattle.core_file.specs.CoreFile.{Placed, core_file}
use Rattle.core_term.specs.declared.rows.Row.{Row}
use Rattle.core_term.specs.Breach.{IsFirstBreach}
use Rattle.core_term.specs.Fitting.{RowsFit}
use Rattle.core_term.specs.History.{history}
use Rattle.core_term.specs.Process.{Process}
use Rattle.core_term.specs.Rows.{inputs_of, row_fits}
use Rattle.core_term.proofs.code_tables.FittingRows.{inputs_fit}
use Rattle.run_laws.proofs.source_runs.Exists.{is_history}
use Rattle.stim_text.specs.Answers.{AreRowsOf}
use Rattle.sv_tree.specs.Module.{Module}
use Rattle.machine_meaning.specs.Meaning.{HasSameLog, LogsAlike}
use Rattle.source_log.specs.Log.{shown_on}
use Rattle.module_log.specs.Log.{module_shown}
use Rattle.generated_runs.proofs.BuiltPorts.{has_ports}
use Rattle.checked_files.specs.Named.{IsProcessOf, process_named}
use Rattle.checked_files.proofs.OneRefusal.{one_file}
use Rattle.tool_stages.specs.Logs.{IsBrokenLog, IsLog}
use Rattle.tool_stages.specs.Output.{IsModule, IsOutput}
use Rattle.tool_stages.specs.RunModule.{IsPair, module_named}
use Rattle.tool_stages.specs.SameLog.{LogsAreOne}
use Rattle.tool_stages.proofs.ModuleRuns.{of_pair}
use Rattle.tool_stages.proofs.Stimuli.{rows_fit}

-- The module of a process.

pub record Made (name : List ℕ) (modules : List Module) (p : Process) : Type 0 where
  pub tree : Module
  pub named : module_named name modules ≡ Some tree
  pub is : IsModule p tree
  pub logs : LogsAlike p tree

made_for : (name : List ℕ) (placed : List Placed) (modules : List Module) (p : Process) → AllZip IsModule (map (λ (one : Placed). one.process) placed) modules
    → AllZip LogsAlike (map (λ (one : Placed). one.process) placed) modules → process_named name placed ≡ Some p → Made name modules p
made_for name [] modules p are alike named = absurd cc
made_for name (one ∷ placed) [] p are alike named = absurd are
made_for name (one ∷ placed) (tree ∷ modules) p (first, others) (log, logs) named = by_case (bytes_eq one.process.name name) refl (λ later. made_for name placed modules p others logs later)
  where
    by_case : (b : Bool) → bytes_eq one.process.name name ≡ b → (process_named name placed ≡ Some p → Made name modules p) → Made name (tree ∷ modules) p
    by_case true test later =
        let same : one.process ≡ p = same_Some one.process p (rw test at named) in
        let here : bytes_eq tree.proc name ≡ true = subst (λ n. bytes_eq n name ≡ true) (sym first.parts.named) test in
        record { tree = tree; named = rw here refl; is = subst (λ q. IsModule q tree) same first; logs = subst (λ q. LogsAlike q tree) same log }
    by_case false test later =
        let there : bytes_eq tree.proc name ≡ false = subst (λ n. bytes_eq n name ≡ false) (sym first.parts.named) test in
        let made = later (rw test at named) in
        record { tree = made.tree; named = rw there made.named; is = made.is; logs = made.logs }

-- One log.

module _ (p : Process) (tree : Module) (alike : LogsAlike p tree) (stimulus : List ℕ) where
  rows_given : (rows : List Row) → AreRowsOf p.ports stimulus rows → RowsFit p.ports rows
  rows_given rows are = fits rows (rows_fit p.ports stimulus rows are)
    where
      fits : (rows : List Row) → ((index : ℕ) (default : Row) → index < length rows → IsTrue (row_fits p.ports (get_or rows index default))) → RowsFit p.ports rows
      fits [] all row has = absurd has
      fits (first ∷ rows) all row (inl same) = subst (λ other. IsTrue (row_fits p.ports other)) (sym same) (all 0 first (omega arith))
      fits (first ∷ rows) all row (inr has) = fits rows (λ i default inside. all (suc i) default (omega arith)) row has

  one : (rows : List Row) → AreRowsOf p.ports stimulus rows
      → HasSameLog p (shown_on p rows).wires (module_shown p tree rows).wires (shown_on p rows).registers (module_shown p tree rows).registers
  one rows are = alike (inputs_of rows) (inputs_fit p rows (rows_given rows are)) (history p (inputs_of rows)) (is_history p (inputs_of rows))

  pub log_there : (log : List ℕ) → IsLog p (shown_on p) stimulus log → IsLog p (module_shown p tree) stimulus log
  log_there log is =
      let same = one is.rows is.are in
      record { rows = is.rows; are = is.are; kept = (same.kept (length is.rows) (omega arith)).0 is.kept; is = is.is ∙ same.same.text (length is.rows) (omega arith) is.kept }

  pub log_back : (log : List ℕ) → IsLog p (module_shown p tree) stimulus log → IsLog p (shown_on p) stimulus log
  log_back log is =
      let same = one is.rows is.are in
      let kept = (same.kept (length is.rows) (omega arith)).1 is.kept in
      record { rows = is.rows; are = is.are; kept = kept; is = is.is ∙ sym (same.same.text (length is.rows) (omega arith) kept) }

  pub broken_there : (log line : List ℕ) → IsBrokenLog p (shown_on p) stimulus log line → IsBrokenLog p (module_shown p tree) stimulus log line
  broken_there log line is =
      let same = one is.rows is.are in
      let within : is.cycle < length is.rows = is.first.within in
      record {
        rows = is.rows;
        are = is.are;
        cycle = is.cycle;
        port = is.port;
        first = (same.same.breach is.cycle is.port).0 is.first;
        is = is.is ∙ same.same.text is.cycle (omega (arith, within)) is.first.before;
        told = is.told;
      }

  pub broken_back : (log line : List ℕ) → IsBrokenLog p (module_shown p tree) stimulus log line → IsBrokenLog p (shown_on p) stimulus log line
  broken_back log line is =
      let same = one is.rows is.are in
      let first : IsFirstBreach p (shown_on p is.rows).wires is.cycle is.port = (same.same.breach is.cycle is.port).1 is.first in
      let within : is.cycle < length is.rows = first.within in
      record {
        rows = is.rows;
        are = is.are;
        cycle = is.cycle;
        port = is.port;
        first = first;
        is = is.is ∙ sym (same.same.text is.cycle (omega (arith, within)) first.before);
        told = is.told;
      }

-- Of what was written for a file.

module _ (file text name : List ℕ) (output : IsOutput file text) where
  made : (p : Process) → IsProcessOf file name p → Made name output.modules p
  made p is =
      let same = one_file file is.file output.describe.file is.accepted.spelled.spelled output.describe.accepted.spelled.spelled in
      made_for name (core_file (classes_of output.describe.file) output.describe.file) output.modules p output.describe.describe output.describe.logs
      (subst (λ one. process_named name (core_file (classes_of one) one) ≡ Some p) same is.named)

  pair : (p : Process) (is : IsProcessOf file name p) → IsPair file text name p (made p is).tree
  pair p is = record {
    of_file = is;
    of_text = record { modules = output.modules; of_text = output.of_modules; named = (made p is).named; same = has_ports p (made p is).tree (made p is).is.parts };
  }

  -- what is said of a module of the process in the text is said of the one that was made for it
  to_made : (G : Process → Module → Type 0) (p : Process) (tree : Module) (one : IsPair file text name p tree) → G p tree → G p (made p one.of_file).tree
  to_made G p tree one holds = of_pair file text name G p p (made p one.of_file).tree tree (pair p one.of_file) one holds

pub logs_are_one : LogsAreOne
logs_are_one file text name stimulus output = record {
  has_module = λ has. record { process = has.process; tree = (made file text name output has.process has.of_file).tree; pair = pair file text name output has.process has.of_file };
  whole = λ log. (
    λ is.
        let one = made file text name output is.process is.of_file in
        record { process = is.process; tree = one.tree; pair = pair file text name output is.process is.of_file; log = log_there is.process one.tree one.logs stimulus log is.log },
    λ is.
        let one = made file text name output is.process is.pair.of_file in
        let there = to_made file text name output (λ p tree. IsLog p (module_shown p tree) stimulus log) is.process is.tree is.pair is.log in
        record { process = is.process; of_file = is.pair.of_file; log = log_back is.process one.tree one.logs stimulus log there },
  );
  broken = λ log line. (
    λ is.
        let one = made file text name output is.process is.of_file in
        record { process = is.process; tree = one.tree; pair = pair file text name output is.process is.of_file; log = broken_there is.process one.tree one.logs stimulus log line is.log },
    λ is.
        let one = made file text name output is.process is.pair.of_file in
        let there = to_made file text name output (λ p tree. IsBrokenLog p (module_shown p tree) stimulus log line) is.process is.tree is.pair is.log in
        record { process = is.process; of_file = is.pair.of_file; log = broken_back is.process one.tree one.logs stimulus log line there },
  );
}

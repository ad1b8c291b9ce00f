-- A module that means the re-reading run of an accepted process agrees with its source run, and has its log.
--
-- The argument is that of the re-reading run, whose registers and wires are those of the module. A promise of a cycle breaks in both
-- or in neither, where all were kept before; so all are kept in the same first cycles.
use Rattle.std.proofs.Common.{◌≡◌, ℕ, zero, suc, ◌<◌, ◌≤◌, Bool, true, false, nat_lt, refl, sym, subst, arith}
use Rattle.std.proofs.lemmas.Bool.Decides.{nat_tests}
use Rattle.core_term.specs.Breach.{PromisesKept}
use Rattle.core_term.specs.History.{IsHistory}
use Rattle.core_term.specs.Inputs.{Inputs}
use Rattle.core_term.specs.Outputs.{wires}
use Rattle.core_term.specs.Process.{Process, IsProcess}
use Rattle.core_term.specs.Reread.{Reread, IsReread}
use Rattle.core_term.specs.Rules.{KeepsDemands}
use Rattle.run_laws.proofs.rereading.Agreed.{agrees}
use Rattle.run_laws.proofs.rereading.Breaks.{breaks_alike}
use Rattle.run_laws.proofs.rereading.SameLogs.{same_log}
use Rattle.machine_meaning.specs.Meaning.{ModuleLogsAreSame, ModulesAgree}
use Rattle.machine_meaning.specs.ModuleRun.{shown_run}

pub module_agrees : ModulesAgree
module_agrees p process keeps tree means inputs fit registers history cycle within promised =
    let run = means inputs fit in
    agrees p process keeps inputs registers history (shown_run p tree inputs run.0 run.1) run.2 cycle within promised

module _ (p : Process) (process : IsProcess p) (keeps : KeepsDemands p) (inputs : Inputs) (registers : ℕ → ℕ → ℕ) (history : IsHistory p inputs registers) (run : Reread) (again : IsReread p inputs run) where
  abbrev KeptTo : ℕ → Type 0
  KeptTo n = (t : ℕ) → t < n → PromisesKept p (wires p inputs registers) t

  kept_there : (n : ℕ) → n ≤ inputs.count → KeptTo n → (t : ℕ) → t < n → PromisesKept p run.wires t
  kept_there n within kept t less m received =
      (breaks_alike p process keeps inputs registers history run again t (omega arith) (λ s before. kept s (omega arith)) m received).0 (kept t less m received)

  kept_back : (n : ℕ) → n ≤ inputs.count → ((t : ℕ) → t < n → PromisesKept p run.wires t) → KeptTo n
  kept_back zero within kept t less = absurd (omega arith)
  kept_back (suc n) within kept t less = by_case (kept_back n (omega arith) (λ s before. kept s (omega arith))) (nat_lt t n) refl
    where
      by_case : KeptTo n → (b : Bool) → nat_lt t n ≡ b → PromisesKept p (wires p inputs registers) t
      by_case earlier true test = let before : t < n = grind (arith, nat_tests) in earlier t before
      by_case earlier false test =
          let past : n ≤ t = grind (arith, nat_tests) in
          let last : t ≡ n = omega arith in
          subst (λ c. PromisesKept p (wires p inputs registers) c) (sym last)
          (λ m received. (breaks_alike p process keeps inputs registers history run again n (omega arith) earlier m received).1 (kept n (omega arith) m received))

pub module_logs : ModuleLogsAreSame
module_logs p process keeps tree means inputs fit registers history =
    let run = means inputs fit in
    let shown = shown_run p tree inputs run.0 run.1 in
    record {
      same = same_log p process keeps inputs registers history shown run.2;
      kept = λ n within. (kept_there p process keeps inputs registers history shown run.2 n within, kept_back p process keeps inputs registers history shown run.2 n within);
    }

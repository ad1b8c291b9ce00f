-- Modules of processes, one after the other.
--
-- The claim: one process more with its module keeps that each process has its module, place by place. The argument is by the
-- list. And where the processes of the code are those of an accepted file, their modules are those of the file.
use Rattle.std.proofs.Common.{◌≡◌, ℕ, suc, ◌+◌, ◌<◌, List, [], ◌∷◌, ◌++◌, length, get_or, map, take, refl, sym, ap, subst, ◌∙◌}
use Rattle.std.specs.List.{AllZip}
use Rattle.std.proofs.lemmas.List.{take_more, map_push}
use Rattle.anvil_tree.specs.Tree.{File}
use Rattle.channel_classes.specs.Classes.{classes_of}
use Rattle.core_file.specs.CoreFile.{placed_of, core_file}
use Rattle.core_term.specs.AcceptedFile.{process_in, file_of}
use Rattle.core_term.specs.declared.process.CoreProc.{CoreProc}
use Rattle.sv_tree.specs.Module.{Module}
use Rattle.core_term.specs.Process.{Process}
use Rattle.core_term.specs.Rules.{KeepsDemands}
use Rattle.core_term.specs.Violations.{IsNth}
use Rattle.run_laws.proofs.safe_runs.NoViolations.{from_empty}
use Rattle.machine_meaning.specs.Meaning.{Agrees, LogsAlike}
use Rattle.checked_files.specs.Check.{IsAcceptedFile, processes_in}
use Rattle.tool_stages.specs.Output.{IsModule, AreModules, AreModulesOf}
use Rattle.checked_files.proofs.Ruled.{processes_are}

zip_more : {A B : Type 0} (R : A → B → Type 0) (xs : List A) (ys : List B) (x : A) (y : B) → AllZip R xs ys → R x y → AllZip R (xs ++ x ∷ []) (ys ++ y ∷ [])
zip_more R [] [] x y all last = (last, tt)
zip_more R [] (y' ∷ ys) x y all last = absurd all
zip_more R (x' ∷ xs) [] x y all last = absurd all
zip_more R (x' ∷ xs) (y' ∷ ys) x y (first, others) last = (first, zip_more R xs ys x y others last)

pub module_more : (procs : List CoreProc) (index : ℕ) (proc : CoreProc) (modules : List Module) (tree : Module) → index < length procs → proc ≡ get_or procs index proc
    → AreModules (file_of (take index procs)) modules → IsModule (process_in proc) tree
    → AreModules (file_of (take (index + 1) procs)) (modules ++ tree ∷ [])
module_more procs index proc modules tree inside is before last =
    let longer : take (index + 1) procs ≡ take index procs ++ proc ∷ [] = take_more procs index proc inside ∙ ap (λ one. take index procs ++ one ∷ []) (sym is) in
    rw (ap (map process_in) longer ∙ map_push process_in (take index procs) proc) (zip_more IsModule _ _ _ _ before last)

-- While promises are kept, the modules of processes that keep the rules agree with them.

from_each : (R : Process → Module → Type 0) → ((p : Process) (tree : Module) → KeepsDemands p → IsModule p tree → R p tree) → (processes : List Process) (modules : List Module)
    → ((i : ℕ) (p : Process) → IsNth processes i p → KeepsDemands p) → AreModules processes modules → AllZip R processes modules
from_each R gives [] [] keep are = tt
from_each R gives [] (tree ∷ modules) keep are = absurd are
from_each R gives (p ∷ processes) [] keep are = absurd are
from_each R gives (p ∷ processes) (tree ∷ modules) keep (first, others) =
    (gives p tree (keep 0 p refl) first, from_each R gives processes modules (λ i q nth. keep (suc i) q nth) others)

pub modules_are : (bytes : List ℕ) (file : File) (procs : List CoreProc) (modules : List Module) → IsAcceptedFile bytes file → map placed_of procs ≡ core_file (classes_of file) file
    → AreModules (file_of procs) modules → AreModulesOf bytes modules
modules_are bytes file procs modules accepted core are =
    let describe : AreModules (processes_in file) modules = subst (λ processes. AreModules processes modules) (processes_are file procs core) are in
    record {
      file = file;
      accepted = accepted;
      describe = describe;
      agree = from_each Agrees (λ p tree keeps one. one.agrees keeps) (processes_in file) modules (from_empty (processes_in file) accepted.accepted) describe;
      logs = from_each LogsAlike (λ p tree keeps one. one.logs keeps) (processes_in file) modules (from_empty (processes_in file) accepted.accepted) describe;
    }

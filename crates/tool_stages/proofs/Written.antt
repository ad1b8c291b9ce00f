-- The texts of the modules of an accepted file are a text of modules.
--
-- The claim: those modules are well-formed, and their names differ. The argument: each is well-formed and has the name of its
-- process, and the checks of a file say that the name of each process is none of those before it.
use Rattle.std.proofs.Common.{◌≡◌, ℕ, List, [], ◌∷◌, ◌++◌, Bool, true, false, ◌&&◌, map, refl, ap, sym, subst, ◌∙◌}
use Rattle.std.specs.Prelude.{IsTrue, bytes_eq}
use Rattle.std.specs.List.{list_all}
use Rattle.anvil_tree.specs.Tree.{File, Name, class, process}
use Rattle.first_check.proofs.Fails.{all_hold}
use Rattle.channel_classes.specs.Classes.{Class, classes_of}
use Rattle.core_file.specs.CoreFile.{Placed, core_file}
use Rattle.core_file.specs.ProcessChecks.{checks_of_processes}
use Rattle.core_file.proofs.Apart.{AllNew, names_turned, new_apart, no_twice}
use Rattle.core_file.proofs.ProcessHeld.{FileHeld, file_held}
use Rattle.core_term.specs.Process.{Process}
use Rattle.sv_tree.specs.Module.{Module}
use Rattle.sv_tree.specs.WellFormed.{is_well_formed, has_no_twice}
use Rattle.sv_tree.specs.Text.{modules_text}
use Rattle.checked_files.specs.Check.{processes_in}
use Rattle.checked_files.specs.FileText.{IsChecked}
use Rattle.tool_stages.specs.Output.{AreModules, AreModulesOf, IsOutput}

both : (one other : Bool) → IsTrue one → IsTrue other → IsTrue (one && other)
both true other first second = second
both false other first second = cc

are_well_formed : (processes : List Process) (modules : List Module) → AreModules processes modules → IsTrue (list_all is_well_formed modules)
are_well_formed [] [] all = refl
are_well_formed [] (tree ∷ modules) all = absurd all
are_well_formed (p ∷ processes) [] all = absurd all
are_well_formed (p ∷ processes) (tree ∷ modules) (first, others) =
    both (is_well_formed tree) (list_all is_well_formed modules) first.well_formed (are_well_formed processes modules others)

-- Names.

abbrev names_of : List Process → List Name
names_of = map (λ (p : Process). p.name)

abbrev names_in : List Module → List Name
names_in = map (λ (tree : Module). tree.proc)

-- the modules have the names of the processes
same_names : (processes : List Process) (modules : List Module) → AreModules processes modules → names_in modules ≡ names_of processes
same_names [] [] all = refl
same_names [] (tree ∷ modules) all = absurd all
same_names (p ∷ processes) [] all = absurd all
same_names (p ∷ processes) (tree ∷ modules) (first, others) =
    ap (λ name. name ∷ names_in modules) first.parts.named ∙ ap (λ names. p.name ∷ names) (same_names processes modules others)

-- each process of a file has a name that none before it has
all_new : (classes : List Class) (before : List Name) (items : File) → FileHeld classes before items
    → AllNew bytes_eq before (names_of (map (λ (placed : Placed). placed.process) (core_file classes items)))
all_new classes before [] held = tt
all_new classes before (class c ∷ items) held = all_new classes before items held
all_new classes before (process written ∷ items) (first, others) = (first.new, all_new classes (before ++ (written.name ∷ [])) items others)

names_differ : (file : File) (modules : List Module) → IsChecked file → AreModules (processes_in file) modules
    → IsTrue (has_no_twice bytes_eq (names_in modules))
names_differ file modules checked are =
    let held = file_held (classes_of file) [] file (all_hold (checks_of_processes (classes_of file) file) checked.processes) in
    let apart = new_apart bytes_eq names_turned [] (names_of (processes_in file)) (all_new (classes_of file) [] file held) in
    subst (λ names. IsTrue (has_no_twice bytes_eq names)) (sym (same_names (processes_in file) modules are))
    (no_twice bytes_eq (names_of (processes_in file)) apart)

pub output_of : (bytes : List ℕ) (modules : List Module) → AreModulesOf bytes modules → IsOutput bytes (modules_text modules)
output_of bytes modules are = record {
  modules = modules;
  describe = are;
  of_modules = record {
    well_formed = are_well_formed (processes_in are.file) modules are.describe;
    names_differ = names_differ are.file modules are.accepted.spelled.checked are.describe;
    written = refl;
  };
}

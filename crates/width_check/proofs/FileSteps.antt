-- The items of a file one after the other: what stands after the processes that were read of it.
use Rattle.std.proofs.Common.{◌≡◌, ◌∙◌, ◌⊎◌, ◌+◌, ◌<◌, ◌≤◌, ℕ, false, List, [], ◌∷◌, ◌++◌, None, Some, length, map, drop, get_or, refl, ap, sym, subst, inl, inr, arith, append_assoc, add-one, suc, zero}
use Rattle.std.specs.Prelude.{IsTrue, bytes_eq, if◌then◌else◌}
use Rattle.std.specs.List.{AllByRecursion, list_any}
use Rattle.std.proofs.lemmas.List.{append-nil, length-map}
use Rattle.anvil_tree.specs.declared.file.Item.{Item as CodeItem}
use Rattle.anvil_tree.specs.Tree as tree
use Rattle.anvil_tree.specs.Tree.{Name, File, class, process}
use Rattle.anvil_tree.specs.View.{item_of}
use Rattle.anvil_tree.specs.Few.{IsFew, ItemIsFew, most_parts}
use Rattle.anvil_tree.specs.Order.{ActsNeverFall, ActsNeverFallIn}
use Rattle.core_term.specs.declared.process.CoreProc.{CoreProc}
use Rattle.core_term.specs.Names.{has_no_twice}
use Rattle.first_check.specs.Check.{first_refusal}
use Rattle.first_check.proofs.Walks.{passes, stops}
use Rattle.first_check.proofs.Fails.{all_hold}
use Rattle.channel_classes.specs.Classes.{Class, classes_of}
use Rattle.channel_classes.specs.ClassChecks.{checks_of_classes}
use Rattle.channel_classes.proofs.Table.{map_more}
use Rattle.core_file.specs.Scope.{is_among}
use Rattle.core_file.specs.CoreFile.{Placed, core_file, placed_of}
use Rattle.core_file.specs.ProcessChecks.{process_checks, items_checks, checks_of_processes}
use Rattle.core_file.specs.declared.error.NameErr.{NameErr}
use Rattle.core_file.specs.declared.error.NameErr.TheVariants.{NoMemory}
use Rattle.core_file.proofs.ProcessHeld.{process_held}
use Rattle.core_file.proofs.CoreFiles.{each_has_core_file}
use Rattle.core_file.proofs.Files.{processes_are_few_and_differ}
use Rattle.core_file.specs.IsCoreFile.{IsCoreFileOf}
use Rattle.width_check.specs.ReadProcess.{ProcessRead, ProcessFails}

pub record Standing (classes : List Class) (all : File) (names : List Name) (procs : List CoreProc) (rest : File) : Type 0 where
  pub refused : first_refusal (checks_of_processes classes all) ≡ first_refusal (items_checks classes names rest)
  pub same : core_file classes all ≡ map placed_of procs ++ core_file classes rest
  pub few : AllByRecursion ItemIsFew rest
  pub in_order : AllByRecursion ActsNeverFallIn rest

pub begins : (classes : List Class) (all : File) (names : List Name) (procs : List CoreProc) → names ≡ [] → procs ≡ [] → IsFew all → ActsNeverFall all
    → Standing classes all names procs all
begins classes all names procs none no_procs few order = rw (none, no_procs) (record { refused = refl; same = refl; few = few.each; in_order = order })

pub past_class : (classes : List Class) (all : File) (names : List Name) (procs : List CoreProc) (c : tree.Class) (rest : File)
    → Standing classes all names procs (class c ∷ rest) → Standing classes all names procs rest
past_class classes all names procs c rest s = record { refused = s.refused; same = s.same; few = s.few.1; in_order = s.in_order.1 }

fresh_key : (names : List Name) (name : Name) → is_among names name ≡ false → (if list_any (bytes_eq name) names then names else names ++ (name ∷ [])) ≡ names ++ (name ∷ [])
fresh_key names name fresh = rw fresh refl

pub past_process : (classes : List Class) (all : File) (names more_names : List Name) (procs more : List CoreProc) (p : tree.Process) (read : CoreProc) (rest : File)
    → Standing classes all names procs (process p ∷ rest) → ProcessRead classes names p read
    → more_names ≡ (if list_any (bytes_eq p.name) names then names else names ++ (p.name ∷ [])) → more ≡ procs ++ (read ∷ []) → Standing classes all more_names more rest
past_process classes all names more_names procs more p read rest s one keys is =
    let held = process_held classes names p (all_hold (process_checks classes names p) one.passes) in
    rw (keys ∙ fresh_key names p.name held.new, is)
    (record {
      refused = s.refused ∙ passes (process_checks classes names p) (items_checks classes (names ++ (p.name ∷ [])) rest) one.passes;
      same = s.same ∙ ap (λ q. map placed_of procs ++ (q ∷ core_file classes rest)) (sym one.same) ∙ rw (map_more placed_of procs read, append_assoc) refl;
      few = s.few.1;
      in_order = s.in_order.1;
    })

pub process_stops : (classes : List Class) (all : File) (names : List Name) (procs : List CoreProc) (p : tree.Process) (rest : File) (fault : NameErr)
    → Standing classes all names procs (process p ∷ rest) → ProcessFails classes names p fault
    → (fault ≡ NoMemory) ⊎ (first_refusal (checks_of_processes classes all) ≡ Some fault)
process_stops classes all names procs p rest fault s fails =
    elim (fails.why) [ inl none ↦ inl none | inr some ↦ inr (s.refused ∙ stops (process_checks classes names p) (items_checks classes (names ++ (p.name ∷ [])) rest) fault some) ]

next_by : (items : List CodeItem) (index : ℕ) (item : CodeItem) → index < length items → item ≡ get_or items index item
    → drop index (map item_of items) ≡ item_of item ∷ drop (suc index) (map item_of items)
next_by [] index item inside is = absurd (omega arith)
next_by (first ∷ items) zero item inside is = ap (λ i. item_of i ∷ map item_of items) (sym is)
next_by (first ∷ items) (suc index) item inside is = next_by items index item (omega arith) is

pub next : (classes : List Class) (all : File) (names : List Name) (procs : List CoreProc) (items : List CodeItem) (index : ℕ) (item : CodeItem) → all ≡ map item_of items
    → index < length items → item ≡ get_or items index item
    → Standing classes all names procs (drop index all) → Standing classes all names procs (item_of item ∷ drop (index + 1) all)
next classes all names procs items index item same inside is standing =
    subst (Standing classes all names procs)
    (ap (drop index) same ∙ next_by items index item inside is ∙ ap (λ n. item_of item ∷ drop n (map item_of items)) (sym (add-one index))
    ∙ ap (λ l. item_of item ∷ drop (index + 1) l) (sym same))
    standing

drop_all : (items : List CodeItem) (index : ℕ) → length items ≤ index → drop index (map item_of items) ≡ []
drop_all [] zero behind = refl
drop_all [] (suc index) behind = refl
drop_all (first ∷ items) zero behind = absurd (omega arith)
drop_all (first ∷ items) (suc index) behind = drop_all items index (omega arith)

names_of : (procs : List CoreProc) → map (λ (placed : Placed). placed.process.name) (map placed_of procs) ≡ map (λ (p : CoreProc). p.name) procs
names_of [] = refl
names_of (first ∷ procs) = ap (λ l. first.name ∷ l) (names_of procs)

-- what is answered
pub record Resolved (file : File) (procs : List CoreProc) : Type 0 where
  pub passes : first_refusal (checks_of_processes (classes_of file) file) ≡ None
  pub same : IsCoreFileOf file (map placed_of procs)
  pub few : length procs ≤ most_parts
  pub differ : IsTrue (has_no_twice bytes_eq (map (λ (p : CoreProc). p.name) procs))

pub ends : (all : File) (names : List Name) (procs : List CoreProc) (items : List CodeItem) (index : ℕ) → all ≡ map item_of items → length items ≤ index
    → first_refusal (checks_of_classes all) ≡ None → IsFew all → ActsNeverFall all
    → Standing (classes_of all) all names procs (drop index all) → Resolved all procs
ends all names procs items index same behind pass few order standing =
    let s = subst (Standing (classes_of all) all names procs) (ap (drop index) same ∙ drop_all items index behind) standing in
    let whole = sym (s.same ∙ append-nil (map placed_of procs)) in
    let law = processes_are_few_and_differ all (record { classes = pass; processes = s.refused; few = few; in_order = order }) in
    let count = ap length whole in
    let mapped = length-map procs placed_of in
    let most = law.0 in
    record {
      passes = s.refused;
      same = subst (IsCoreFileOf all) (sym whole) (each_has_core_file all s.refused);
      few = omega arith;
      differ = ap (has_no_twice bytes_eq) (sym (ap (map (λ (placed : Placed). placed.process.name)) (sym whole) ∙ names_of procs)) ∙ law.1;
    }

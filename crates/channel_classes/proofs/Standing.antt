-- The items of a file one after the other: what stands after the classes that were read of it.
use Rattle.std.proofs.Common.{◌≡◌, ◌∙◌, ℕ, ◌+◌, ◌<◌, ◌≤◌, List, [], ◌∷◌, ◌++◌, None, Some, length, map, drop, get_or, refl, ap, sym, arith, append_assoc, length-append, add-one, subst, suc, zero}
use Rattle.std.specs.List.{AllByRecursion}
use Rattle.anvil_tree.specs.declared.file.Item.{Item as CodeItem}
use Rattle.anvil_tree.specs.Tree as tree
use Rattle.anvil_tree.specs.Tree.{File, class, process}
use Rattle.anvil_tree.specs.View.{item_of}
use Rattle.anvil_tree.specs.Few.{IsFew, ItemIsFew, class_count, most_parts}
use Rattle.first_check.specs.Check.{first_refusal}
use Rattle.first_check.proofs.Walks.{passes, stops}
use Rattle.channel_classes.specs.declared.error.ClassErr.{ClassErr}
use Rattle.channel_classes.specs.Classes.{Class, classes_of, known_class, names_of}
use Rattle.channel_classes.specs.ClassChecks.{checks_of_classes, class_checks, items_checks}
use Rattle.channel_classes.proofs.Table.{map_more}

-- the classes were read of the items before the rest, and the checks of the rest decide
pub record Standing (all : File) (classes : List Class) (rest : File) : Type 0 where
  pub refused : first_refusal (checks_of_classes all) ≡ first_refusal (items_checks (names_of classes) rest)
  pub read : classes_of all ≡ classes ++ classes_of rest
  pub room : length classes + class_count rest ≤ most_parts
  pub each : AllByRecursion ItemIsFew rest

pub begins : (all : File) → IsFew all → Standing all [] all
begins all few = let room = few.classes in record { refused = refl; read = refl; room = omega arith; each = few.each }

pub past_process : (all : File) (classes : List Class) (p : tree.Process) (rest : File) → Standing all classes (process p ∷ rest) → Standing all classes rest
past_process all classes p rest s = record { refused = s.refused; read = s.read; room = s.room; each = s.each.1 }

pub past_class : (all : File) (classes more : List Class) (c : tree.Class) (rest : File) → Standing all classes (class c ∷ rest)
    → first_refusal (class_checks (names_of classes) c) ≡ None → more ≡ classes ++ (known_class c ∷ []) → Standing all more rest
past_class all classes more c rest s none is =
    rw is
    (record {
      refused =
          s.refused ∙ passes (class_checks (names_of classes) c) (items_checks (names_of classes ++ (c.name ∷ [])) rest) none
          ∙ ap (λ names. first_refusal (items_checks names rest)) (sym (map_more (λ (known : Class). known.name) classes (known_class c)));
      read = s.read ∙ rw append_assoc refl;
      room = let room = s.room in omega (arith, length-append classes (known_class c ∷ []));
      each = s.each.1;
    })

pub class_stops : (all : File) (classes : List Class) (c : tree.Class) (rest : File) (fault : ClassErr) → Standing all classes (class c ∷ rest)
    → first_refusal (class_checks (names_of classes) c) ≡ Some fault → first_refusal (checks_of_classes all) ≡ Some fault
class_stops all classes c rest fault s some =
    s.refused ∙ stops (class_checks (names_of classes) c) (items_checks (names_of classes ++ (c.name ∷ [])) rest) fault some

next_by : (items : List CodeItem) (index : ℕ) (item : CodeItem) → index < length items → item ≡ get_or items index item
    → drop index (map item_of items) ≡ item_of item ∷ drop (suc index) (map item_of items)
next_by [] index item inside is = absurd (omega arith)
next_by (first ∷ items) zero item inside is = ap (λ i. item_of i ∷ map item_of items) (sym is)
next_by (first ∷ items) (suc index) item inside is = next_by items index item (omega arith) is

-- the item of the index comes next
pub next : (all : File) (classes : List Class) (items : List CodeItem) (index : ℕ) (item : CodeItem) → all ≡ map item_of items
    → index < length items → item ≡ get_or items index item
    → Standing all classes (drop index all) → Standing all classes (item_of item ∷ drop (index + 1) all)
next all classes items index item same inside is standing =
    subst (Standing all classes)
    (ap (drop index) same ∙ next_by items index item inside is ∙ ap (λ n. item_of item ∷ drop n (map item_of items)) (sym (add-one index))
    ∙ ap (λ l. item_of item ∷ drop (index + 1) l) (sym same))
    standing

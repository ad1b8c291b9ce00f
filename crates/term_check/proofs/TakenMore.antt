-- Names taken one after the other.
use Rattle.std.proofs.Common.{◌≡◌, ◌∙◌, Bool, true, false, ◌||◌, List, [], ◌∷◌, ◌++◌, refl, ap, sym}
use Rattle.std.specs.Prelude.{bytes_eq, if◌then◌else◌}
use Rattle.std.proofs.lemmas.Slice.Eq.{bytes_eq-Decides}
use Rattle.std.specs.List.{list_any}
use Rattle.std.proofs.lemmas.List.Folds.{list_any-append}
use Rattle.anvil_tree.specs.Tree.{Name}
use Rattle.core_file.specs.Scope.{is_among}
use Rattle.core_file.specs.TermChecks as definition
use Rattle.term_check.specs.Taken.{Takes}

bytes_same : (one other : Name) → bytes_eq one other ≡ true → one ≡ other
bytes_same one other e = (bytes_eq-Decides one other).0 e

or_none : (one : Bool) → one ≡ (one || false)
or_none true = refl
or_none false = refl

or_turned : (one two three : Bool) → ((one || two) || three) ≡ (one || (two || three))
or_turned true two three = refl
or_turned false two three = refl

more_among : (old mid new one two : List Name) (name : Name) → is_among mid name ≡ (is_among old name || is_among one name)
    → is_among new name ≡ (is_among mid name || is_among two name) → is_among new name ≡ (is_among old name || is_among (one ++ two) name)
more_among old mid new one two name first second =
    second ∙ ap (λ b. b || is_among two name) first ∙ or_turned (is_among old name) (is_among one name) (is_among two name)
    ∙ ap (λ b. is_among old name || b) (sym (list_any-append (bytes_eq name) one two))

pub takes_both : (old mid new : definition.Taken) (registers more_registers endpoints more_endpoints : List Name)
    → Takes old registers endpoints mid → Takes mid more_registers more_endpoints new → Takes old (registers ++ more_registers) (endpoints ++ more_endpoints) new
takes_both old mid new registers more_registers endpoints more_endpoints first second = record {
  registers_are = λ name. more_among old.registers mid.registers new.registers registers more_registers name (first.registers_are name) (second.registers_are name);
  endpoints_are = λ name. more_among old.endpoints mid.endpoints new.endpoints endpoints more_endpoints name (first.endpoints_are name) (second.endpoints_are name);
}

pub takes_none : (old : definition.Taken) → Takes old [] [] old
takes_none old = record { registers_are = λ name. or_none (is_among old.registers name); endpoints_are = λ name. or_none (is_among old.endpoints name) }

-- one name more in a set
insert_by : (there : Bool) (names : List Name) (added name : Name) → list_any (bytes_eq added) names ≡ there
    → is_among (if there then names else names ++ (added ∷ [])) name ≡ (is_among names name || is_among (added ∷ []) name)
insert_by false names added name is = list_any-append (bytes_eq name) names (added ∷ [])
insert_by true names added name is = among_by (bytes_eq name added) names added name is refl
  where
    among_by : (same : Bool) (names : List Name) (added name : Name) → list_any (bytes_eq added) names ≡ true → bytes_eq name added ≡ same
        → is_among names name ≡ (is_among names name || (same || false))
    among_by false names added name there is = or_none (is_among names name)
    among_by true names added name there is =
        let equal : name ≡ added = bytes_same name added is in
        let here : is_among names name ≡ true = ap (λ n. list_any (bytes_eq n) names) equal ∙ there in
        rw here refl

pub inserted : (names : List Name) (added name : Name)
    → is_among (if list_any (bytes_eq added) names then names else names ++ (added ∷ [])) name ≡ (is_among names name || is_among (added ∷ []) name)
inserted names added name = insert_by (list_any (bytes_eq added) names) names added name refl

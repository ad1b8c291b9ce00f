-- What earlier threads have taken, as the definitions see it; and one set of names that more was put to.
use Rattle.std.specs.Prelude.{◌≡◌, ◌||◌, List}
use Rattle.anvil_tree.specs.Tree.{Name}
use Rattle.core_file.specs.Scope.{is_among}
use Rattle.core_file.specs.TermChecks as definition
use Rattle.term_check.specs.declared.taken.Taken.{Taken}

abbrev pub taken_of : Taken → definition.Taken
taken_of taken = record { registers = taken.registers.keys; endpoints = taken.endpoints.keys }

-- the new registers and endpoints are the old ones and these
pub record Takes (old : definition.Taken) (registers endpoints : List Name) (new : definition.Taken) : Type 0 where
  pub registers_are : (name : Name) → is_among new.registers name ≡ (is_among old.registers name || is_among registers name)
  pub endpoints_are : (name : Name) → is_among new.endpoints name ≡ (is_among old.endpoints name || is_among endpoints name)

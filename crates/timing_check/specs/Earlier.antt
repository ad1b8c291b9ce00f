-- The earlier of two violations of a thread, by rule, first and second site.
use Rattle.std.specs.Prelude.{◌==◌, ◌&&◌, ◌||◌, nat_lt, Bool, if◌then◌else◌, List, [], ◌∷◌, Option, Some, None}
use Rattle.core_term.specs.declared.rules.Violation.{Violation}
use Rattle.core_term.specs.Violations.{rule_number}

abbrev pub is_earlier : Violation → Violation → Bool
is_earlier one other =
    nat_lt (rule_number one.rule) (rule_number other.rule)
    || ((rule_number one.rule == rule_number other.rule)
    && (nat_lt one.first other.first || ((one.first == other.first) && nat_lt one.second other.second)))

abbrev pub earlier_than : Violation → Option Violation → Violation
earlier_than one None = one
earlier_than one (Some other) = if is_earlier one other then one else other

abbrev pub earliest : Option Violation → Option Violation → Option Violation
earliest None other = other
earliest (Some one) other = Some (earlier_than one other)

abbrev pub first_of : List Violation → Option Violation
first_of [] = None
first_of (one ∷ rest) = Some one

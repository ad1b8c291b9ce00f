-- What a good name of a module has: bytes of a text, and 1 to 64 of them.
use Rattle.std.proofs.Common.{◌≡◌, ℕ, ◌≤◌, true, List, length, arith}
use Rattle.std.proofs.lemmas.Bool.{and_parts}
use Rattle.std.proofs.lemmas.Bool.Decides.{nat_tests}
use Rattle.std.specs.Prelude.{nat_le}
use Rattle.std.specs.Str.{IsUtf8}
use Rattle.anvil_lexer.specs.GoodName.{is_good_name}
use Rattle.anvil_lexer.proofs.GoodNames.{good_name_is_text, good_name_is_not_empty}
use Rattle.sv_tree.specs.Limits.{longest_name}
use Rattle.sv_tree.specs.WellFormed.{is_name}

pub name_is_text : (name : List ℕ) → is_name name ≡ true → IsUtf8 name
name_is_text name e = good_name_is_text name (and_parts (is_good_name name) (nat_le (length name) longest_name) e).0

pub name_is_not_empty : (name : List ℕ) → is_name name ≡ true → 1 ≤ length name
name_is_not_empty name e = good_name_is_not_empty name (and_parts (is_good_name name) (nat_le (length name) longest_name) e).0

pub name_is_short : (name : List ℕ) → is_name name ≡ true → length name ≤ longest_name
name_is_short name e = let short = (and_parts (is_good_name name) (nat_le (length name) longest_name) e).1 in grind (arith, nat_tests)

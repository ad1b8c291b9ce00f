-- A good name is ASCII text of at least one byte, so it can be held as a name wherever it is not too long.
--
-- Each byte that a name may have lies below 128: it is in one of three ranges, or is `_`. That there is a first byte is
-- what "begins with a letter" says.
use Rattle.std.proofs.Common.{◌≡◌, ℕ, zero, suc, ◌<◌, ◌≤◌, Bool, true, false, ◌||◌, leb, List, [], ◌∷◌, length, refl, arith}
use Rattle.std.specs.Str.{IsAscii, IsUtf8}
use Rattle.std.specs.List.{list_all}
use Rattle.std.specs.Int.{is_in_range}
use Rattle.std.specs.Char.{is_ascii_alphanumeric}
use Rattle.std.specs.Prelude.{◌==◌}
use Rattle.std.proofs.lemmas.Bool.{and_parts, leb-true, eqb-true, false≢true}
use Rattle.std.proofs.lemmas.Str.{IsUtf8-from_ascii}
use Rattle.anvil_lexer.specs.GoodName.{is_good_name, is_name_byte, begins_with_letter}

from_either : {P : Type 0} → (one other : Bool) → (one ≡ true → P) → (other ≡ true → P) → (one || other) ≡ true → P
from_either true other first second holds = first refl
from_either false other first second holds = second holds

in_range_below : (low high byte : ℕ) → high < 128 → is_in_range low high byte ≡ true → byte < 128
in_range_below low high byte small holds =
    let above : byte ≤ high = leb-true byte high (and_parts (leb low byte) (leb byte high) holds).1 in
    omega (arith, above, small)

name_byte_below : (byte : ℕ) → is_name_byte byte ≡ true → byte < 128
name_byte_below byte holds =
    from_either (is_ascii_alphanumeric byte) (byte == 95)
    (λ in_ranges.
    from_either (is_in_range 48 57 byte || is_in_range 65 90 byte) (is_in_range 97 122 byte)
    (λ in_first.
    from_either (is_in_range 48 57 byte) (is_in_range 65 90 byte)
    (in_range_below 48 57 byte (omega arith))
    (in_range_below 65 90 byte (omega arith))
    in_first)
    (in_range_below 97 122 byte (omega arith))
    in_ranges)
    (λ underscore. let same : byte ≡ 95 = eqb-true byte 95 underscore in omega (arith, same))
    holds

names_are_ascii : (name : List ℕ) → list_all is_name_byte name ≡ true → IsAscii name
names_are_ascii [] holds i = omega arith
names_are_ascii (byte ∷ rest) holds zero = name_byte_below byte (and_parts (is_name_byte byte) (list_all is_name_byte rest) holds).0
names_are_ascii (byte ∷ rest) holds (suc i) =
    names_are_ascii rest (and_parts (is_name_byte byte) (list_all is_name_byte rest) holds).1 i

pub good_name_is_text : (name : List ℕ) → is_good_name name ≡ true → IsUtf8 name
good_name_is_text name holds =
    let three = and_parts _ _ holds in
    let two = and_parts _ _ three.0 in
    let one = and_parts (list_all is_name_byte name) (begins_with_letter name) two.0 in
    IsUtf8-from_ascii name (names_are_ascii name one.0)

pub good_name_is_not_empty : (name : List ℕ) → is_good_name name ≡ true → 1 ≤ length name
good_name_is_not_empty [] holds = absurd (false≢true holds)
good_name_is_not_empty (byte ∷ rest) holds = omega arith

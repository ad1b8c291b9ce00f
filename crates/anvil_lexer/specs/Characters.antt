-- The characters of identifiers and digits, and the value of digits. A character is its code.
use Rattle.std.specs.Prelude.{ℕ, ◌+◌, ◌*◌, Bool, false, ◌||◌, ◌==◌, List, [], ◌∷◌}
use Rattle.std.specs.Char.{is_ascii_digit, is_ascii_hexdigit, digit_value}
use Rattle.unicode_ident.specs.Ident.{is_xid_start, is_xid_continue}
use Rattle.anvil_lexer.specs.declared.class.Base.{Base}
use Rattle.anvil_lexer.specs.declared.class.Base.TheVariants.{Decimal, Hexadecimal, Binary}
use Rattle.anvil_lexer.specs.declared.class.Class.{Class}
use Rattle.anvil_lexer.specs.declared.class.Class.TheVariants.{Identifier, Digit, Only}

-- an identifier begins with `_` or a character of XID_Start, and goes on with characters of XID_Continue
abbrev pub begins_identifier : ℕ → Bool
begins_identifier c = c == 95 || is_xid_start c

abbrev pub continues_identifier : ℕ → Bool
continues_identifier = is_xid_continue

-- the digits of a base: hexadecimal ones in either case
abbrev pub is_digit : Base → ℕ → Bool
is_digit Decimal c = is_ascii_digit c
is_digit Hexadecimal c = is_ascii_hexdigit c
is_digit Binary c = c == 48 || c == 49

-- how many digits a base has
abbrev pub radix : Base → ℕ
radix Decimal = 10
radix Hexadecimal = 16
radix Binary = 2

-- the letter that names a base in a literal: `d`, `h` or `b`
abbrev pub letter : Base → ℕ
letter Decimal = 100
letter Hexadecimal = 104
letter Binary = 98

-- the number that digits spell, after digits that spell `before`
abbrev pub value_after : Base → ℕ → List ℕ → ℕ
value_after base before [] = before
value_after base before (digit ∷ digits) = value_after base (before * radix base + digit_value digit) digits

abbrev pub value_of : Base → List ℕ → ℕ
value_of base digits = value_after base 0 digits

-- the test that the code makes by a kind of characters
abbrev pub belongs : Class → ℕ → Bool
belongs Identifier c = continues_identifier c
belongs (Digit base) c = is_digit base c
belongs (Only wanted) c = c == wanted

-- whether a text of these characters begins with one that passes
abbrev pub begins_with : (ℕ → Bool) → List ℕ → Bool
begins_with passes [] = false
begins_with passes (c ∷ cs) = passes c

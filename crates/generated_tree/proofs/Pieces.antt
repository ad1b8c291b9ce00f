-- The pieces of a line with a number in them, read as a token each, whatever follows: the name of a process, its reset, its pause.
--
-- The digits of the number are read to their end, since the character behind them is no digit and goes on with no identifier.
use Rattle.std.proofs.Common.{◌≡◌, ℕ, zero, suc, ◌+◌, ◌%◌, mod-lt, ◌^◌, ◌<◌, Bool, true, false, nat_le, List, [], ◌∷◌, ◌++◌, refl, ap, ◌∙◌, length, arith, append-nil, Some, Ok, Err, if◌then◌else◌}
use Rattle.std.specs.Fmt.{decimal, digits}
use Rattle.std.specs.Char.{is_ascii_digit}
use Rattle.std.proofs.lemmas.Fmt.{decimal_nonempty, length-decimal-le}
use Rattle.std.proofs.lemmas.List.{drop_at}
use Rattle.std.proofs.lemmas.Bool.{le-leb, lt-leb}
use Rattle.unicode_ident.proofs.Computing.{unicode_ident}
use Rattle.anvil_lexer.specs.declared.error.LexErr.{LexErr}
use Rattle.anvil_lexer.specs.declared.error.LexErr.TheVariants.{BadNumber}
use Rattle.anvil_lexer.specs.declared.token.TokenKind.{TokenKind}
use Rattle.anvil_lexer.specs.declared.token.TokenKind.TheVariants.{Word, Number, Literal}
use Rattle.anvil_lexer.specs.Characters.{continues_identifier, radix, value_of}
use Rattle.anvil_lexer.specs.Spelling.{kind_of_word}
use Rattle.anvil_lexer.specs.Lexeme.{Lexeme, identifier, literal}
use Rattle.anvil_lexer.specs.TokenText.{said_by}
use Rattle.anvil_lexer.specs.Scan.{ended_by, front, scan, skip, some_digits}
use Rattle.anvil_lexer.proofs.Fronts.{front_append}
use Rattle.generated_tree.proofs.Reading.{kind_said, behind, Reads, reads}
use Rattle.generated_tree.proofs.Numbers.{decimal_bytes, decimal_continues, decimal_digits, decimal_value}

-- one token
one_read : (cs : List ℕ) (lexeme : Lexeme) (kind : TokenKind) (rest : List ℕ) → scan (skip false cs) ≡ Some lexeme
    → behind lexeme (skip false cs) ≡ rest → kind_said (said_by 0 lexeme rest) ≡ Some kind → Reads cs (kind ∷ []) rest
one_read cs lexeme kind rest scanned left says = reads 1 cs (kind ∷ []) rest (rw (scanned, left, says) refl)

-- ` gI(`
pub name_read : (index : ℕ) (rest : List ℕ) → index < 64
    → Reads (32 ∷ 103 ∷ (decimal index ++ (40 ∷ rest))) (Word (103 ∷ decimal index) ∷ []) (40 ∷ rest)
unfolding scan kind_of_word unicode_ident lib.Utf8.encode
name_read index rest few =
    let short = length-decimal-le 2 index (omega arith) (omega (arith, few)) (omega (arith, few)) in
    let digits : front continues_identifier (decimal index ++ (40 ∷ rest)) ≡ decimal index =
    front_append continues_identifier (decimal index) (40 ∷ rest) (decimal_continues index (omega (arith, few))) ∙ append-nil (decimal index) in
    let within : nat_le (length (103 ∷ decimal index)) 64 ≡ true = le-leb (length (103 ∷ decimal index)) 64 (omega (arith, short)) in
    one_read (32 ∷ 103 ∷ (decimal index ++ (40 ∷ rest))) (identifier 103 (decimal index)) (Word (103 ∷ decimal index)) (40 ∷ rest)
    (ap (λ l. Some (identifier 103 l)) digits)
    (drop_at (103 ∷ decimal index) (40 ∷ rest) (length (103 ∷ decimal index)) refl)
    (rw (decimal_bytes index (omega (arith, few)), within) refl)

-- digits of a base, whose type `_` stands for
digits_found : (base : _) (digits : List ℕ) → 0 < length digits → some_digits base digits ≡ Some (base, digits)
digits_found base [] some = absurd (omega (arith, some))
digits_found base (digit ∷ digits) some = refl

-- a token that is not too large
says_kind : (over : Bool) (e : LexErr) (kind also : TokenKind) → over ≡ false → kind ≡ also
    → kind_said (if over then Err e else Ok kind) ≡ Some also
says_kind over e kind also within same = rw (within, same) refl

-- ` 8'dI;`, where the base that is read has ten digits
literal_by : (base : _) (index : ℕ) (rest : List ℕ) → index < 64 → radix base ≡ 10
    → scan (56 ∷ 39 ∷ 100 ∷ (decimal index ++ (59 ∷ rest)))
    ≡ Some (ended_by (56 ∷ []) (some_digits base (front is_ascii_digit (decimal index ++ (59 ∷ rest)))))
    → Reads (32 ∷ 56 ∷ 39 ∷ 100 ∷ (decimal index ++ (59 ∷ rest))) (Literal 8 index ∷ []) (59 ∷ rest)
unfolding unicode_ident
literal_by base index rest few ten scanned =
    let small : index < 2 ^ 64 = omega (arith, few) in
    let digits : front is_ascii_digit (decimal index ++ (59 ∷ rest)) ≡ decimal index =
    front_append is_ascii_digit (decimal index) (59 ∷ rest) (decimal_digits index small) ∙ append-nil (decimal index) in
    let found = digits_found base (decimal index) (decimal_nonempty index small) in
    let value = decimal_value base ten index small in
    let within = lt-leb (2 ^ 128) (value_of base (decimal index)) (omega (arith, value, few)) in
    one_read (32 ∷ 56 ∷ 39 ∷ 100 ∷ (decimal index ++ (59 ∷ rest))) (literal (56 ∷ []) base (decimal index)) (Literal 8 index) (59 ∷ rest)
    (scanned ∙ rw (digits, found) refl)
    (drop_at (56 ∷ 39 ∷ 100 ∷ decimal index) (59 ∷ rest) (length (56 ∷ 39 ∷ 100 ∷ decimal index)) refl)
    (says_kind (nat_le (2 ^ 128) (value_of base (decimal index))) (BadNumber 0) _ _ within (ap (λ number. Literal 8 number) value))

pub literal_read : (index : ℕ) (rest : List ℕ) → index < 64
    → Reads (32 ∷ 56 ∷ 39 ∷ 100 ∷ (decimal index ++ (59 ∷ rest))) (Literal 8 index ∷ []) (59 ∷ rest)
unfolding scan unicode_ident
literal_read index rest few = literal_by _ index rest few refl refl

-- ` K }`, for a number of one digit
pause_of : (left : ℕ) (rest : List ℕ) → left < 3 → Reads (32 ∷ (decimal (1 + left) ++ (32 ∷ 125 ∷ rest))) (Number (1 + left) ∷ []) (32 ∷ 125 ∷ rest)
unfolding scan unicode_ident digits
pause_of zero rest small = reads 1 (32 ∷ (decimal 1 ++ (32 ∷ 125 ∷ rest))) (Number 1 ∷ []) (32 ∷ 125 ∷ rest) refl
pause_of (suc zero) rest small = reads 1 (32 ∷ (decimal 2 ++ (32 ∷ 125 ∷ rest))) (Number 2 ∷ []) (32 ∷ 125 ∷ rest) refl
pause_of (suc (suc zero)) rest small = reads 1 (32 ∷ (decimal 3 ++ (32 ∷ 125 ∷ rest))) (Number 3 ∷ []) (32 ∷ 125 ∷ rest) refl
pause_of (suc (suc (suc left))) rest small = absurd (omega (arith, small))

pub pause_read : (index : ℕ) (rest : List ℕ) → Reads (32 ∷ (decimal (1 + index % 3) ++ (32 ∷ 125 ∷ rest))) (Number (1 + index % 3) ∷ []) (32 ∷ 125 ∷ rest)
pause_read index rest = pause_of (index % 3) rest (mod-lt index (omega arith))

-- The value of digits only grows as more of them are read, so a limit that is passed stays passed.
use Rattle.std.proofs.Common.{◌≡◌, ℕ, ◌+◌, ◌*◌, ◌<◌, ◌≤◌, List, [], ◌∷◌, ◌++◌, ap, sym, ◌∙◌, arith}
use Rattle.std.specs.Str.{IsUtf8, chars}
use Rattle.std.specs.Char.{encode_utf8, digit_value}
use Rattle.std.proofs.lemmas.Str.{chars_past_char}
use Rattle.anvil_lexer.specs.declared.class.Base.{Base}
use Rattle.anvil_lexer.specs.declared.class.Base.TheVariants.{Decimal, Hexadecimal, Binary}
use Rattle.anvil_lexer.specs.Characters.{radix, value_after}

grows_by : (base : Base) (before digit : ℕ) → before ≤ before * radix base + digit
grows_by Decimal before digit = omega arith
grows_by Hexadecimal before digit = omega arith
grows_by Binary before digit = omega arith

value_grows : (base : Base) (before : ℕ) (digits : List ℕ) → before ≤ value_after base before digits
value_grows base before [] = omega arith
value_grows base before (digit ∷ digits) =
    omega (arith, grows_by base before (digit_value digit), value_grows base (before * radix base + digit_value digit) digits)

-- one digit more
pub value_step : (base : Base) (before whole : ℕ) (here rest : List ℕ) (digit : ℕ) → IsUtf8 here
    → here ≡ encode_utf8 digit ++ rest → value_after base before (chars here) ≡ whole
    → value_after base (before * radix base + digit_value digit) (chars rest) ≡ whole
value_step base before whole here rest digit utf8 e counted = ap (value_after base before) (sym (chars_past_char here rest digit utf8 e))
    ∙ counted

pub value_past : (base : Base) (before whole most : ℕ) (digits : List ℕ) → value_after base before digits ≡ whole → most < before
    → most < whole
value_past base before whole most digits counted past = omega (arith, value_grows base before digits, counted)

-- where a product or a sum is past a bound above the limit, the next number is past the limit
pub product_past : (bound most value by factor digit : ℕ) → by ≡ factor → (value * by < bound → ⊥) → most < bound
    → most < value * factor + digit
product_past bound most value by factor digit same over less =
    let past : bound ≤ value * by = omega arith in
    let is : value * by ≡ value * factor = ap (λ n. value * n) same in
    omega arith

pub sum_past : (bound most value by factor shifted added digit : ℕ) → by ≡ factor → shifted ≡ value * by → added ≡ digit
    → (shifted + added < bound → ⊥) → most < bound → most < value * factor + digit
sum_past bound most value by factor shifted added digit same is added_is over less =
    let past : bound ≤ shifted + added = omega arith in
    let product : value * by ≡ value * factor = ap (λ n. value * n) same in
    omega arith

pub next_is : (value by factor shifted added digit next : ℕ) → by ≡ factor → shifted ≡ value * by → added ≡ digit
    → next ≡ shifted + added → value * factor + digit ≡ next
next_is value by factor shifted added digit next same is added_is e =
    let product : value * by ≡ value * factor = ap (λ n. value * n) same in
    omega arith

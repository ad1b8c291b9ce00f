-- Every byte of the generated file is below 128: those of its fixed text by computing, and digits are.
use Rattle.std.proofs.Common.{◌≡◌, ℕ, zero, suc, ◌+◌, ◌%◌, ◌≤◌, ◌<◌, true, ltb, List, [], ◌∷◌, ◌++◌, codes, flat_map, refl, arith, mod-lt}
use Rattle.std.specs.Fmt.{decimal}
use Rattle.std.specs.List.{list_all, range_with_len}
use Rattle.std.specs.Str.{IsAscii}
use Rattle.std.proofs.lemmas.Bool.{and_parts, ltb-true}
use Rattle.std.proofs.lemmas.Fmt.{IsAscii-decimal}
use Rattle.std.proofs.lemmas.Str.{IsAscii-append}
use Rattle.generated_file.specs.Generated.{channel_line, process_line, generated}

ascii_from : (bytes : List ℕ) → list_all (λ b. ltb b 128) bytes ≡ true → IsAscii bytes
ascii_from [] holds i = omega arith
ascii_from (byte ∷ rest) holds zero = ltb-true byte 128 (and_parts (ltb byte 128) (list_all (λ b. ltb b 128) rest) holds).0
ascii_from (byte ∷ rest) holds (suc i) = ascii_from rest (and_parts (ltb byte 128) (list_all (λ b. ltb b 128) rest) holds).1 i

-- fixed text before other text
fixed : (text rest : List ℕ) → list_all (λ b. ltb b 128) text ≡ true → IsAscii rest → IsAscii (text ++ rest)
fixed text rest holds others = IsAscii-append text rest (ascii_from text holds) others

line_ascii : (index : ℕ) → index < 64 → IsAscii (process_line index)
line_ascii index few =
    let number = IsAscii-decimal index (omega (arith, few)) in
    let below : index % 3 < 3 = mod-lt index (omega arith) in
    let pause = IsAscii-decimal (1 + index % 3) (omega (arith, below)) in
    let end = IsAscii-append (decimal (1 + index % 3)) (codes " } }\n") pause (ascii_from (codes " } }\n") refl) in
    let loop = fixed (codes "; loop { let x = recv p.req >> set r := *r + x >> send p.res(*r) >> cycle ") _ refl end in
    let reset = IsAscii-append (decimal index) _ number loop in
    let register = fixed (codes "(p : left ch) { reg r : logic[8] = 8'd") _ refl reset in
    let name = IsAscii-append (decimal index) _ number register in
    fixed (codes "proc g") _ refl name

lines_ascii : (from count : ℕ) → from + count ≤ 64 → IsAscii (flat_map process_line (range_with_len from count))
lines_ascii from zero few = ascii_from [] refl
lines_ascii from (suc count) few =
    IsAscii-append (process_line from) (flat_map process_line (range_with_len (from + 1) count)) (line_ascii from (omega (arith, few)))
    (lines_ascii (from + 1) count (omega (arith, few)))

pub generated_ascii : (count : ℕ) → count ≤ 64 → IsAscii (generated count)
generated_ascii count few =
    fixed channel_line (flat_map process_line (range_with_len 0 count)) refl (lines_ascii 0 count (omega (arith, few)))

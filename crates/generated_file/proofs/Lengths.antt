-- A file is short: the line of a process has at most 200 bytes, since its three numbers have at most two digits.
use Rattle.std.proofs.Common.{ℕ, ◌+◌, ◌*◌, ◌^◌, ◌%◌, ◌≤◌, ◌<◌, List, ◌++◌, codes, flat_map, length, zero, suc, arith}
use Rattle.std.specs.Fmt.{decimal}
use Rattle.std.specs.List.{range_with_len}
use Rattle.std.proofs.Math.Nat.{mod-lt}
use Rattle.std.proofs.lemmas.Fmt.{length-decimal-le}
use Rattle.std.proofs.lemmas.List.{length-append}
use Rattle.generated_file.specs.Generated.{channel_line, generated, process_line}

-- two texts, one after the other
both_short : (front rest : List ℕ) (of_front of_rest : ℕ) → length front ≤ of_front → length rest ≤ of_rest
    → length (front ++ rest) ≤ of_front + of_rest
both_short front rest of_front of_rest first second = omega (arith, length-append front rest, first, second)

-- what stands before the reset, and what stands behind it
line_short : (index : ℕ) → index < 64 → length (process_line index) ≤ 200
line_short index few =
    let number = length-decimal-le 2 index (omega arith) (omega (arith, few)) (omega (arith, few)) in
    let below : index % 3 < 3 = mod-lt index (omega arith) in
    let pause = length-decimal-le 1 (1 + index % 3) (omega arith) (omega (arith, below)) (omega (arith, below)) in
    let end = both_short (decimal (1 + index % 3)) (codes " } }\n") 1 5 pause (omega arith) in
    let loop = both_short (codes "; loop { let x = recv p.req >> set r := *r + x >> send p.res(*r) >> cycle ") _ 80 6 (omega arith) end in
    let reset = both_short (decimal index) _ 2 86 number loop in
    let register = both_short (codes "(p : left ch) { reg r : logic[8] = 8'd") _ 40 88 (omega arith) reset in
    let name = both_short (decimal index) _ 2 128 number register in
    both_short (codes "proc g") _ 70 130 (omega arith) name

-- lines, one after another
lines_short : (from count : ℕ) → from + count ≤ 64 → length (flat_map process_line (range_with_len from count)) ≤ 200 * count
lines_short from zero few = omega arith
lines_short from (suc count) few =
    let first = line_short from (omega (arith, few)) in
    let rest = lines_short (from + 1) count (omega (arith, few)) in
    let all = both_short (process_line from) (flat_map process_line (range_with_len (from + 1) count)) 200 (200 * count) first rest in
    omega (arith, all)

pub generated_short : (count : ℕ) → count ≤ 64 → length (generated count) ≤ 2 ^ 20
generated_short count few =
    let lines = lines_short 0 count (omega (arith, few)) in
    let all = both_short channel_line (flat_map process_line (range_with_len 0 count)) 70 (200 * count) (omega arith) lines in
    omega (arith, all, few)

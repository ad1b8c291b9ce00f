-- The line of a process from its pieces, and the lines of the first processes, one more: those of one process less, and behind them that of the last.
use Rattle.std.proofs.Common.{◌≡◌, ℕ, ◌+◌, List, [], ◌∷◌, ◌++◌, ◌%◌, codes, flat_map, zero, suc, refl, arith, ap, sym, ◌∙◌}
use Rattle.std.specs.List.{range_with_len}
use Rattle.std.specs.Fmt.{decimal}
use Rattle.std.proofs.lemmas.List.{flat_map_more}
use Rattle.generated_file.specs.Generated.{channel_line, generated, process_line}

-- a range of one number more
range_more : (from count last : ℕ) → from + count ≡ last → range_with_len from (suc count) ≡ range_with_len from count ++ last ∷ []
range_more from zero last is = ap (λ number. number ∷ []) (omega (arith, is))
range_more from (suc count) last is = ap (λ rest. from ∷ rest) (range_more (from + 1) count last (omega (arith, is)))

-- a file of one process more
pub generated_more : (count : ℕ) → generated count ++ process_line count ≡ generated (count + 1)
generated_more count =
    let next : count + 1 ≡ suc count = omega arith in
    rw next
    (flat_map_more process_line channel_line (range_with_len 0 count) count
    ∙ ap (λ numbers. channel_line ++ flat_map process_line numbers) (sym (range_more 0 count count (omega arith))))

-- the line of a process, with the texts of its numbers
pub line_of : (index : ℕ) (name reset pause : List ℕ) → name ≡ decimal index → reset ≡ decimal index → pause ≡ decimal (1 + index % 3)
    → codes "proc g" ++ (name ++ (codes "(p : left ch) { reg r : logic[8] = 8'd" ++ (reset
    ++ (codes "; loop { let x = recv p.req >> set r := *r + x >> send p.res(*r) >> cycle " ++ (pause ++ codes " } }\n")))))
    ≡ process_line index
line_of index name reset pause first second third = rw (first, second, third) refl

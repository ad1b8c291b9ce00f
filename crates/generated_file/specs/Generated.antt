-- The generated file of a number: the class of a channel, and behind it as many processes, a line each.
--
-- README.md, "The file". Process `gI` adds what it receives to a register that begins at I, sends the sum, and waits
-- for 1 + (I mod 3) cycles.
use Rattle.std.specs.Prelude.{ℕ, ◌+◌, ◌%◌, List, ◌++◌, codes, flat_map}
use Rattle.std.specs.Fmt.{decimal}
use Rattle.std.specs.List.{range_with_len}

abbrev pub channel_line : List ℕ
channel_line = codes "chan ch { left req : (logic[8]@res), right res : (logic[8]@#1) }\n"

abbrev pub process_line : ℕ → List ℕ
process_line index =
    codes "proc g"
    ++ (decimal index
    ++ (codes "(p : left ch) { reg r : logic[8] = 8'd"
    ++ (decimal index
    ++ (codes "; loop { let x = recv p.req >> set r := *r + x >> send p.res(*r) >> cycle "
    ++ (decimal (1 + index % 3) ++ codes " } }\n")))))

-- processes 0 to count - 1, in order
abbrev pub generated : ℕ → List ℕ
generated count = channel_line ++ flat_map process_line (range_with_len 0 count)

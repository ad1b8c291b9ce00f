-- Generated files, computed.
use Rattle.std.proofs.Common.{◌≡◌, ◌++◌, codes, length, refl}
use Rattle.std.specs.Fmt.{digits}
use Rattle.core_term.specs.StimulusText.{row_text}
use Rattle.generated_file.specs.Generated.{generated}
use Rattle.generated_file.specs.Rows.{row_of, rows_of}

of_one : generated 1
    ≡ codes "chan ch { left req : (logic[8]@res), right res : (logic[8]@#1) }\n"
    ++ codes "proc g0(p : left ch) { reg r : logic[8] = 8'd0; loop { let x = recv p.req >> set r := *r + x >> send p.res(*r) >> cycle 1 } }\n"
unfolding digits
of_one = refl

length_of_one : length (generated 1) ≡ 191
unfolding digits
length_of_one = refl

length_of_three : length (generated 3) ≡ 443
unfolding digits
length_of_three = refl

length_of_all : length (generated 64) ≡ 8237
unfolding digits
length_of_all = refl

-- The text of a row.

row_of_first : row_text (row_of 0) ≡ codes "1:1 1"
unfolding digits
row_of_first = refl

row_of_last : row_text (row_of 63) ≡ codes "1:64 1"
unfolding digits
row_of_last = refl

number_of_rows : length (rows_of 5) ≡ 100
number_of_rows = refl

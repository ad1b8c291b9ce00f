-- The kinds of the tokens of the generated file: those of the line of the channel, those of each line of a process, and the end.
--
-- Between the pieces with numbers the text is fixed and ends where a token surely ends, so it is read by computing, whatever follows. Each line
-- ends with its line feed, which is read as a blank before the next.
use Rattle.std.proofs.Common.{◌≡◌, ℕ, zero, suc, ◌+◌, ◌%◌, ◌<◌, ◌≤◌, List, [], ◌∷◌, ◌++◌, codes, flat_map, refl, ap, sym, ◌∙◌, subst, append_assoc, arith}
use Rattle.std.specs.Fmt.{decimal}
use Rattle.std.specs.List.{range_with_len}
use Rattle.unicode_ident.proofs.Computing.{unicode_ident}
use Rattle.anvil_lexer.specs.declared.token.TokenKind.{TokenKind}
use Rattle.anvil_lexer.specs.declared.token.TokenKind.TheVariants.{Key, Word, Number, Literal, Mark}
use Rattle.anvil_lexer.specs.declared.token.Keyword.TheVariants as key
use Rattle.anvil_lexer.specs.declared.token.Mark.TheVariants as mark
use Rattle.anvil_lexer.specs.Spelling.{kind_of_word}
use Rattle.anvil_lexer.specs.Scan.{scan, mark_spelled}
use Rattle.generated_file.specs.Generated.{channel_line, process_line, generated}
use Rattle.generated_tree.proofs.Reading.{Reads, reads, reads_on}
use Rattle.generated_tree.proofs.Pieces.{name_read, literal_read, pause_read}

abbrev pub channel_kinds : List TokenKind
channel_kinds =
    Key key.Chan ∷ Word (codes "ch") ∷ Mark mark.OpenBrace
    ∷ Key key.Left ∷ Word (codes "req") ∷ Mark mark.Colon ∷ Mark mark.OpenParen ∷ Key key.Logic ∷ Mark mark.OpenBracket ∷ Number 8
    ∷ Mark mark.CloseBracket ∷ Mark mark.At ∷ Word (codes "res") ∷ Mark mark.CloseParen ∷ Mark mark.Comma
    ∷ Key key.Right ∷ Word (codes "res") ∷ Mark mark.Colon ∷ Mark mark.OpenParen ∷ Key key.Logic ∷ Mark mark.OpenBracket ∷ Number 8
    ∷ Mark mark.CloseBracket ∷ Mark mark.At ∷ Mark mark.Hash ∷ Number 1 ∷ Mark mark.CloseParen ∷ Mark mark.CloseBrace ∷ []

channel_read : (rest : List ℕ) → Reads (channel_line ++ rest) channel_kinds (10 ∷ rest)
unfolding scan kind_of_word unicode_ident mark_spelled lib.Utf8.encode
channel_read rest = reads 28 _ _ _ refl

-- `(p : left ch) { reg r : logic[8] =`
abbrev head_kinds : List TokenKind
head_kinds =
    Mark mark.OpenParen ∷ Word (codes "p") ∷ Mark mark.Colon ∷ Key key.Left ∷ Word (codes "ch") ∷ Mark mark.CloseParen ∷ Mark mark.OpenBrace
    ∷ Key key.Reg ∷ Word (codes "r") ∷ Mark mark.Colon ∷ Key key.Logic ∷ Mark mark.OpenBracket ∷ Number 8 ∷ Mark mark.CloseBracket
    ∷ Mark mark.Equals ∷ []

-- `; loop { let x = recv p.req >> set r := *r + x >> send p.res(*r) >> cycle`
abbrev loop_kinds : List TokenKind
loop_kinds =
    Mark mark.Semicolon ∷ Key key.Loop ∷ Mark mark.OpenBrace
    ∷ Key key.Let ∷ Word (codes "x") ∷ Mark mark.Equals ∷ Key key.Recv ∷ Word (codes "p") ∷ Mark mark.Dot ∷ Word (codes "req") ∷ Mark mark.Chain
    ∷ Key key.Set ∷ Word (codes "r") ∷ Mark mark.Assign ∷ Mark mark.Star ∷ Word (codes "r") ∷ Mark mark.Plus ∷ Word (codes "x") ∷ Mark mark.Chain
    ∷ Key key.Send ∷ Word (codes "p") ∷ Mark mark.Dot ∷ Word (codes "res") ∷ Mark mark.OpenParen ∷ Mark mark.Star ∷ Word (codes "r")
    ∷ Mark mark.CloseParen ∷ Mark mark.Chain ∷ Key key.Cycle ∷ []

abbrev pub line_kinds : ℕ → List TokenKind
line_kinds index =
    Key key.Proc ∷ Word (103 ∷ decimal index)
    ∷ (head_kinds ++ (Literal 8 index ∷ (loop_kinds ++ (Number (1 + index % 3) ∷ Mark mark.CloseBrace ∷ Mark mark.CloseBrace ∷ []))))

proc_read : (rest : List ℕ) → Reads (10 ∷ (codes "proc g" ++ rest)) (Key key.Proc ∷ []) (codes " g" ++ rest)
unfolding scan kind_of_word unicode_ident mark_spelled lib.Utf8.encode
proc_read rest = reads 1 _ _ _ refl

head_read : (rest : List ℕ) → Reads (codes "(p : left ch) { reg r : logic[8] = 8'd" ++ rest) head_kinds (codes " 8'd" ++ rest)
unfolding scan kind_of_word unicode_ident mark_spelled lib.Utf8.encode
head_read rest = reads 15 _ _ _ refl

loop_read : (rest : List ℕ)
    → Reads (codes "; loop { let x = recv p.req >> set r := *r + x >> send p.res(*r) >> cycle " ++ rest) loop_kinds (32 ∷ rest)
unfolding scan kind_of_word unicode_ident mark_spelled lib.Utf8.encode
loop_read rest = reads 29 _ _ _ refl

tail_read : (rest : List ℕ) → Reads (codes " } }\n" ++ rest) (Mark mark.CloseBrace ∷ Mark mark.CloseBrace ∷ []) (10 ∷ rest)
unfolding scan kind_of_word unicode_ident mark_spelled lib.Utf8.encode
tail_read rest = reads 2 _ _ _ refl

-- what stands behind the reset, and before it, with what follows the line
abbrev behind_reset : ℕ → List ℕ → List ℕ
behind_reset index rest =
    codes "; loop { let x = recv p.req >> set r := *r + x >> send p.res(*r) >> cycle " ++ (decimal (1 + index % 3) ++ (codes " } }\n" ++ rest))

abbrev behind_name : ℕ → List ℕ → List ℕ
behind_name index rest = codes "(p : left ch) { reg r : logic[8] = 8'd" ++ (decimal index ++ behind_reset index rest)

line_joined : (index : ℕ) (rest : List ℕ) → process_line index ++ rest ≡ codes "proc g" ++ (decimal index ++ behind_name index rest)
line_joined index rest =
    ap (λ l. codes "proc g" ++ l)
    (append_assoc (decimal index) (behind_name index []) rest
    ∙ ap (λ l. decimal index ++ (codes "(p : left ch) { reg r : logic[8] = 8'd" ++ l))
    (append_assoc (decimal index) (behind_reset index []) rest
    ∙ ap (λ l. decimal index ++ (codes "; loop { let x = recv p.req >> set r := *r + x >> send p.res(*r) >> cycle " ++ l))
    (append_assoc (decimal (1 + index % 3)) (codes " } }\n") rest)))

line_read : (index : ℕ) → index < 64 → (rest : List ℕ) → Reads (10 ∷ (process_line index ++ rest)) (line_kinds index) (10 ∷ rest)
line_read index few rest =
    subst (λ (l : List ℕ). Reads (10 ∷ l) (line_kinds index) (10 ∷ rest)) (sym (line_joined index rest))
    (reads_on (proc_read (decimal index ++ behind_name index rest))
    (reads_on (name_read index (codes "p : left ch) { reg r : logic[8] = 8'd" ++ (decimal index ++ behind_reset index rest)) few)
    (reads_on (head_read (decimal index ++ behind_reset index rest))
    (reads_on
    (literal_read index (codes " loop { let x = recv p.req >> set r := *r + x >> send p.res(*r) >> cycle " ++ (decimal (1 + index % 3) ++ (codes " } }\n" ++ rest))) few)
    (reads_on (loop_read (decimal (1 + index % 3) ++ (codes " } }\n" ++ rest)))
    (reads_on (pause_read index (codes " }\n" ++ rest)) (tail_read rest)))))))

lines_read : (from count : ℕ) → from + count ≤ 64
    → Reads (10 ∷ flat_map process_line (range_with_len from count)) (flat_map line_kinds (range_with_len from count)) (10 ∷ [])
lines_read from zero few = reads 0 _ _ _ refl
lines_read from (suc count) few =
    reads_on (line_read from (omega (arith, few)) (flat_map process_line (range_with_len (from + 1) count)))
    (lines_read (from + 1) count (omega (arith, few)))

abbrev pub file_kinds : ℕ → List TokenKind
file_kinds count = channel_kinds ++ flat_map line_kinds (range_with_len 0 count)

pub file_read : (count : ℕ) → count ≤ 64 → Reads (generated count) (file_kinds count) (10 ∷ [])
file_read count few =
    reads_on (channel_read (flat_map process_line (range_with_len 0 count))) (lines_read 0 count (omega (arith, few)))

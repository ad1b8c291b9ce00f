-- Digits that are no UTF-8, or that `parse` refuses, are no number's.
use Rattle.std.proofs.Common.{◌≡◌, ◌<◌, ◌^◌, ◌∙◌, arith}
use Rattle.std.proofs.lemmas.Bool.Decides.{nat_tests}
use Rattle.std.proofs.lemmas.Fmt.{parse-decimal, IsAscii-decimal}
use Rattle.std.proofs.lemmas.Str.{IsUtf8-from_ascii}
use Rattle.std.specs.Fmt.{decimal}
use Rattle.std.specs.Str.{IsUtf8}
use Rattle.sv_lines.specs.Pieces.{number_at}
use Rattle.sv_lines.proofs.read.Decided.{none_of}
use Rattle.sv_lines.proofs.read.PiecesRead.{number_read}
use Rattle.sv_pieces.proofs.pieces.number_at.Goals as goal

pub returns-in_default : goal.returns-in_default
returns-in_default c =
    none_of (number_at c.args.text.now) (λ found is.
    let read = number_read c.args.text.now found is in
    let below = read.below in
    let small : found.0 < 2 ^ 64 = grind (arith, nat_tests) in
    let digits : c.run_at.result.0.now ≡ decimal found.0 = c.run_at.ensures.front ∙ read.digits in
    let utf8 : IsUtf8 c.run_at.result.0.now = rw digits (IsUtf8-from_ascii (decimal found.0) (IsAscii-decimal found.0 small)) in
    c.in_default.ensures.cases.0 utf8)

pub returns-in_default-parse : goal.returns-in_default-parse
returns-in_default-parse c =
    none_of (number_at c.args.text.now) (λ found is.
    let read = number_read c.args.text.now found is in
    let below = read.below in
    let small : found.0 < 2 ^ 64 = grind (arith, nat_tests) in
    let written : c.in-Ok.written.now ≡ decimal found.0 = c.in-Ok.ensures.cases.0 ∙ (c.run_at.ensures.front ∙ read.digits) in
    let parsed = parse-decimal 64 found.0 c.in-Ok.written.now c.parse.result small small written c.parse.ensures.value.0 in
    let was = c.in_default-parse.is in
    absurd cc)

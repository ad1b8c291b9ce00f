-- The field of the register at an index stands there in the line, behind those of the ports.
use Rattle.std.proofs.Common.{◌≡◌, ◌+◌, ◌<◌, arith, length, List, ℕ, get_or}
use Rattle.std.specs.List.{enumerate_from}
use Rattle.std.proofs.lemmas.List.FromFn.{length-enumerate_from}
use Rattle.stim_text.specs.LogLine.{number_field, number_fields, gapped}
use Rattle.stim_text.proofs.PutParts.{line_put, line_failed, lines_done, numbered_from, puts_as}
use Rattle.stim_text.proofs.Texts.{register_text, number_at, numbers_count}
use Rattle.stim_text.proofs.log.put_registers.Goals as goal

pub loop-index-preserved : goal.loop-index-preserved
loop-index-preserved g c =
    let loop = c.loop-index in
    let fields : List (List ℕ) = number_fields c.args.regs.now c.args.numbers.now in
    let field : List ℕ = number_field c.index-regs-index.result c.index-numbers-index.result in
    let count = numbers_count c.args.regs.now c.args.numbers.now c.requires.numbers in
    let here : field ≡ get_or fields loop.index field =
    number_at c.args.regs.now c.args.numbers.now loop.index c.index-regs-index.result c.index-numbers-index.result field c.requires.numbers c.loop-index-test.true c.index-regs-index.is c.index-numbers-index.is in
    let there = numbered_from c.args.before fields loop.index field (omega (arith, count, c.loop-index-test.true)) here in
    line_put gapped (enumerate_from c.args.before fields) loop.index (c.args.before + loop.index, field) _ (g.W.Sink.held loop.to) _ _ _ _ _ there.0 there.1 loop.invariant
    (puts_as (register_text (c.args.before + loop.index) c.index-regs-index.result c.index-numbers-index.result) c.in_ok-put_register.ensures)

pub returns-in_err-put_register : goal.returns-in_err-put_register
returns-in_err-put_register g c =
    let loop = c.loop-index in
    let fields : List (List ℕ) = number_fields c.args.regs.now c.args.numbers.now in
    let field : List ℕ = number_field c.index-regs-index.result c.index-numbers-index.result in
    let count = numbers_count c.args.regs.now c.args.numbers.now c.requires.numbers in
    let here : field ≡ get_or fields loop.index field =
    number_at c.args.regs.now c.args.numbers.now loop.index c.index-regs-index.result c.index-numbers-index.result field c.requires.numbers c.loop-index-test.true c.index-regs-index.is c.index-numbers-index.is in
    let there = numbered_from c.args.before fields loop.index field (omega (arith, count, c.loop-index-test.true)) here in
    line_failed gapped (enumerate_from c.args.before fields) loop.index (c.args.before + loop.index, field) _ (g.W.Sink.held loop.to) _ _ _ _ _ _ there.0 there.1 loop.invariant c.from_residual.ensures.0
    (puts_as (register_text (c.args.before + loop.index) c.index-regs-index.result c.index-numbers-index.result) c.in_err-put_register.ensures)

pub returns : goal.returns
returns g c =
    let loop = c.loop-index in
    let count = numbers_count c.args.regs.now c.args.numbers.now c.requires.numbers in
    let fields : List (List ℕ) = number_fields c.args.regs.now c.args.numbers.now in
    lines_done gapped (enumerate_from c.args.before fields) loop.index _ _ _ _ _ (omega (arith, length-enumerate_from c.args.before fields, count, c.loop-index-test.false)) loop.invariant

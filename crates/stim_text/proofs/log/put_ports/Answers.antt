-- The field of the port at an index stands there in the line, with the space before it.
use Rattle.std.proofs.Common.{◌≡◌, ◌+◌, ◌<◌, ◌∙◌, arith, length, List, ℕ, get_or, false, refl}
use Rattle.std.specs.List.{enumerate_from}
use Rattle.std.proofs.lemmas.List.FromFn.{length-enumerate_from}
use Rattle.stim_text.specs.LogLine.{wires_at, field_of, fields_of, gapped}
use Rattle.stim_text.proofs.LogLines.{fields_count}
use Rattle.stim_text.proofs.PutParts.{line_put, line_failed, lines_done, numbered_from, puts_as}
use Rattle.stim_text.proofs.Texts.{port_text, field_at, from_zero}
use Rattle.stim_text.proofs.log.put_ports.Goals as goal

pub loop-index-preserved : goal.loop-index-preserved
loop-index-preserved g c =
    let loop = c.loop-index in
    let fields : List (List ℕ) = fields_of c.args.ports.now c.args.cells.now c.args.outs.now c.args.shown.now in
    let wires = wires_at c.index-cells-index.result c.index-outs-index.result in
    let field : List ℕ = field_of c.index-ports-index.result (get_or c.args.shown.now c.loop-index.index false) wires in
    let count = fields_count c.args.ports.now c.args.cells.now c.args.outs.now c.args.shown.now c.requires.cells c.requires.outs c.requires.shown in
    let here : field ≡ get_or fields loop.index field =
    field_at c.args.ports.now c.args.cells.now c.args.outs.now c.args.shown.now loop.index c.index-ports-index.result c.index-cells-index.result c.index-outs-index.result (get_or c.args.shown.now loop.index false) field
    c.requires.cells c.requires.outs c.requires.shown c.loop-index-test.true c.index-ports-index.is c.index-cells-index.is c.index-outs-index.is refl in
    let there = numbered_from 0 fields loop.index field (omega (arith, count, c.loop-index-test.true)) here in
    line_put gapped (enumerate_from 0 fields) loop.index (0 + loop.index, field) _ (g.W.Sink.held loop.to) _ _ _ _ _ there.0 there.1 loop.invariant
    (puts_as (port_text loop.index c.index-ports-index.result wires (get_or c.args.shown.now loop.index false) ∙ from_zero loop.index field) c.in_ok-put_port.ensures)

pub returns-in_err-put_port : goal.returns-in_err-put_port
returns-in_err-put_port g c =
    let loop = c.loop-index in
    let fields : List (List ℕ) = fields_of c.args.ports.now c.args.cells.now c.args.outs.now c.args.shown.now in
    let wires = wires_at c.index-cells-index.result c.index-outs-index.result in
    let field : List ℕ = field_of c.index-ports-index.result (get_or c.args.shown.now c.loop-index.index false) wires in
    let count = fields_count c.args.ports.now c.args.cells.now c.args.outs.now c.args.shown.now c.requires.cells c.requires.outs c.requires.shown in
    let here : field ≡ get_or fields loop.index field =
    field_at c.args.ports.now c.args.cells.now c.args.outs.now c.args.shown.now loop.index c.index-ports-index.result c.index-cells-index.result c.index-outs-index.result (get_or c.args.shown.now loop.index false) field
    c.requires.cells c.requires.outs c.requires.shown c.loop-index-test.true c.index-ports-index.is c.index-cells-index.is c.index-outs-index.is refl in
    let there = numbered_from 0 fields loop.index field (omega (arith, count, c.loop-index-test.true)) here in
    line_failed gapped (enumerate_from 0 fields) loop.index (0 + loop.index, field) _ (g.W.Sink.held loop.to) _ _ _ _ _ _ there.0 there.1 loop.invariant c.from_residual.ensures.0
    (puts_as (port_text loop.index c.index-ports-index.result wires (get_or c.args.shown.now loop.index false) ∙ from_zero loop.index field) c.in_err-put_port.ensures)

pub returns : goal.returns
returns g c =
    let loop = c.loop-index in
    let count = fields_count c.args.ports.now c.args.cells.now c.args.outs.now c.args.shown.now c.requires.cells c.requires.outs c.requires.shown in
    let fields : List (List ℕ) = fields_of c.args.ports.now c.args.cells.now c.args.outs.now c.args.shown.now in
    lines_done gapped (enumerate_from 0 fields) loop.index _ _ _ _ _ (omega (arith, length-enumerate_from 0 fields, count, c.loop-index-test.false)) loop.invariant

-- Each line is a row, or is the first that is none, or is one too many.
use Rattle.std.proofs.Common.{◌≡◌, ◌<◌, ◌≤◌, ◌+◌, ◌-◌, ◌∙◌, arith, length, map, sym, subst, Some, None}
use Rattle.core_term.specs.ProcessView.{port_of}
use Rattle.core_term.specs.declared.rows.Row.{Row}
use Rattle.stim_text.specs.Answers.{IsFirstBadLine}
use Rattle.stim_text.specs.Fields.{row_of}
use Rattle.stim_text.proofs.Decided.{where_some, where_none}
use Rattle.stim_text.proofs.FieldsRead.{row_read, no_row}
use Rattle.stim_text.proofs.PortsFit.{ports_fit}
use Rattle.stim_text.proofs.StimulusRead.{reads_all, reads_one, too_many, bad_line}
use Rattle.stim_text.proofs.stimulus.read_stim.Goals as goal

pub returns-then-len-ge-MOST_ROWS-clause-refused : goal.returns-then-len-ge-MOST_ROWS-clause-refused
returns-then-len-ge-MOST_ROWS-clause-refused c =
    too_many (map port_of c.args.proc.now.ports.items) c.args.text.now c.loop-line.rows.items c.loop-line.rest.now c.loop-line.invariant c.in-Some.line.now c.in-Some.behind.now c.in-Some.ensures
    (omega (arith, c.if-len-ge-MOST_ROWS.true, c.len.ensures))

pub read_row-requires : goal.read_row-requires
read_row-requires c = rw c.as_slice-ports.ensures.value (ports_fit c.args.proc.now.name c.args.proc.now.ports.items c.args.proc.now.regs.items c.args.proc.now.threads.items c.args.proc.now.sized)

pub loop-line-preserved : goal.loop-line-preserved
loop-line-preserved c =
    let ports = map port_of c.args.proc.now.ports.items in
    let found = rw c.as_slice-ports.ensures.value at c.in-Ok-Some.ensures in
    let is = where_some c.in-Ok-Some.field-0 (row_of ports c.in-Some.line.now ≡ None) (λ (row : Row). row_of ports c.in-Some.line.now ≡ Some row.cells.items) c.in-Ok-Some.row found c.in-Ok-Some.field-0-is in
    reads_one ports c.args.text.now c.loop-line.rows.items c.loop-line.rest.now c.loop-line.invariant c.in-Some.line.now c.in-Some.behind.now c.in-Some.ensures c.in-Ok-Some.row c.push_row.new.rows.items
    (omega (arith, c.if-len-ge-MOST_ROWS.false, c.len.ensures)) c.in-Ok.ensures (row_read ports c.in-Some.line.now c.in-Ok-Some.row.cells.items is)

pub returns-in-Ok-None-clause-refused : goal.returns-in-Ok-None-clause-refused
returns-in-Ok-None-clause-refused c =
    let ports = map port_of c.args.proc.now.ports.items in
    let fit = ports_fit c.args.proc.now.name c.args.proc.now.ports.items c.args.proc.now.regs.items c.args.proc.now.threads.items c.args.proc.now.sized in
    let found = rw c.as_slice-ports.ensures.value at c.in-Ok-None.ensures in
    let none = where_none c.in-Ok-None.field-0 (row_of ports c.in-Some.line.now ≡ None) (λ (row : Row). row_of ports c.in-Some.line.now ≡ Some row.cells.items) found c.in-Ok-None.field-0-is in
    let count : length c.loop-line.rows.items ≡ c.len-in-Ok-None.result + 1 - 1 = omega (arith, c.len-in-Ok-None.ensures) in (
      omega arith,
      subst (IsFirstBadLine ports c.args.text.now) count
          (bad_line ports c.args.text.now c.loop-line.rows.items c.loop-line.rest.now c.loop-line.invariant c.in-Some.line.now c.in-Some.behind.now c.in-Some.ensures (omega (arith, c.if-len-ge-MOST_ROWS.false, c.len.ensures))
          (no_row ports c.in-Some.line.now fit none)),
    )

pub returns-clause-rows : goal.returns-clause-rows
returns-clause-rows c = reads_all (map port_of c.args.proc.now.ports.items) c.args.text.now c.loop-line.rows.items c.loop-line.rest.now c.loop-line.invariant c.in_default.ensures

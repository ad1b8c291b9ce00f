-- The line is the fields of the ports, those of the registers and the line feed.
use Rattle.std.proofs.Common.{◌≡◌, ◌≤◌, ◌∙◌, ◌++◌, length, map, arith}
use Rattle.std.specs.Prelude.{codes}
use Rattle.exchanges.proofs.LivesKept.{ports_few}
use Rattle.stim_text.specs.LogLine.{gapped_from, number_fields}
use Rattle.stim_text.proofs.LogLines.{line_is}
use Rattle.stim_text.proofs.PortsFit.{registers_few}
use Rattle.stim_text.proofs.PutParts.{then_put, failed_before}
use Rattle.stim_text.proofs.log.put_row.Goals as goal

pub put_registers-requires-clause-few : goal.put_registers-requires-clause-few
put_registers-requires-clause-few g c =
    let few = ports_few c.args.proc.now.name c.args.proc.now.ports.items c.args.proc.now.regs.items c.args.proc.now.threads.items c.args.proc.now.sized in
    omega (arith, few, c.len.ensures)

pub put_registers-requires-clause-some : goal.put_registers-requires-clause-some
put_registers-requires-clause-some g c =
    rw c.as_slice-4.ensures.value (registers_few c.args.proc.now.name c.args.proc.now.ports.items c.args.proc.now.regs.items c.args.proc.now.threads.items c.args.proc.now.sized)

pub returns-in_err-put_registers-clause-put : goal.returns-in_err-put_registers-clause-put
returns-in_err-put_registers-clause-put g c =
    let count : c.len.result ≡ length c.args.proc.now.ports.items = omega (arith, c.len.ensures) in
    then_put (rw (c.as_slice.ensures.value, c.as_slice-2.ensures.value, c.as_slice-3.ensures.value, c.flags.ensures) at c.in_ok-put_ports.ensures)
    (failed_before (codes "\n") c.from_residual-in_err-put_registers.result c.from_residual-in_err-put_registers.ensures.0
    (rw (count, c.as_slice-4.ensures.value, c.as_slice-5.ensures.value) at c.in_err-put_registers.ensures))

pub returns-clause-put : goal.returns-clause-put
returns-clause-put g c =
    let count : c.len.result ≡ length c.args.proc.now.ports.items = omega (arith, c.len.ensures) in
    then_put (rw (c.as_slice.ensures.value, c.as_slice-2.ensures.value, c.as_slice-3.ensures.value, c.flags.ensures) at c.in_ok-put_ports.ensures)
    (then_put (rw (count, c.as_slice-4.ensures.value, c.as_slice-5.ensures.value) at c.in_ok-put_registers.ensures) c.put_all.ensures)

pub returns-in_err-put_ports-clause-line : goal.returns-in_err-put_ports-clause-line
returns-in_err-put_ports-clause-line g c = λ rows outs wires registers fits out_fits stands showing shows.
    line_is c.args.proc.now.name c.args.proc.now.ports.items c.args.proc.now.regs.items c.args.proc.now.threads.items rows outs c.args.row.now c.args.out.now c.args.watch.now wires registers
    c.requires.cells c.requires.outs c.requires.shown fits out_fits stands showing shows

pub returns-in_err-put_registers-clause-line : goal.returns-in_err-put_registers-clause-line
returns-in_err-put_registers-clause-line g c = λ rows outs wires registers fits out_fits stands showing shows.
    line_is c.args.proc.now.name c.args.proc.now.ports.items c.args.proc.now.regs.items c.args.proc.now.threads.items rows outs c.args.row.now c.args.out.now c.args.watch.now wires registers
    c.requires.cells c.requires.outs c.requires.shown fits out_fits stands showing shows

pub returns-clause-line : goal.returns-clause-line
returns-clause-line g c = λ rows outs wires registers fits out_fits stands showing shows.
    line_is c.args.proc.now.name c.args.proc.now.ports.items c.args.proc.now.regs.items c.args.proc.now.threads.items rows outs c.args.row.now c.args.out.now c.args.watch.now wires registers
    c.requires.cells c.requires.outs c.requires.shown fits out_fits stands showing shows

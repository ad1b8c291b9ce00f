-- The block is cut into its five parts; each failure leaves a front part of the parts up to it.
use Rattle.std.proofs.Common.{◌++◌, flat_map, zip}
use Rattle.sv_tree.specs.Text.{clock_else_line, clock_closing_lines, reset_line, next_line}
use Rattle.sv_writer.proofs.Parts.{then_put, failed_before}
use Rattle.sv_writer.proofs.clock.put_block.Goals as goal

pub returns-in_err-put_all : goal.returns-in_err-put_all
returns-in_err-put_all g c =
    let m = c.args.module.now in
    failed_before (flat_map reset_line m.regs ++ (clock_else_line ++ (flat_map (next_line m) (zip m.regs m.nexts) ++ clock_closing_lines)))
    c.from_residual.result c.from_residual.ensures.0 c.in_err-put_all.ensures

pub returns-in_err-put_resets : goal.returns-in_err-put_resets
returns-in_err-put_resets g c =
    let m = c.args.module.now in
    then_put c.in_ok-put_all.ensures
    (failed_before (clock_else_line ++ (flat_map (next_line m) (zip m.regs m.nexts) ++ clock_closing_lines))
    c.from_residual-in_err-put_resets.result c.from_residual-in_err-put_resets.ensures.0 c.in_err-put_resets.ensures)

pub returns-in_err-put_all-2 : goal.returns-in_err-put_all-2
returns-in_err-put_all-2 g c =
    let m = c.args.module.now in
    then_put c.in_ok-put_all.ensures
    (then_put c.in_ok-put_resets.ensures
    (failed_before (flat_map (next_line m) (zip m.regs m.nexts) ++ clock_closing_lines)
    c.from_residual-in_err-put_all-2.result c.from_residual-in_err-put_all-2.ensures.0 c.in_err-put_all-2.ensures))

pub returns-in_err-put_nexts : goal.returns-in_err-put_nexts
returns-in_err-put_nexts g c =
    then_put c.in_ok-put_all.ensures
    (then_put c.in_ok-put_resets.ensures
    (then_put c.in_ok-put_all-2.ensures
    (failed_before clock_closing_lines
    c.from_residual-in_err-put_nexts.result c.from_residual-in_err-put_nexts.ensures.0 c.in_err-put_nexts.ensures)))

pub returns : goal.returns
returns g c =
    then_put c.in_ok-put_all.ensures
    (then_put c.in_ok-put_resets.ensures
    (then_put c.in_ok-put_all-2.ensures
    (then_put c.in_ok-put_nexts.ensures c.put_all-3.ensures)))

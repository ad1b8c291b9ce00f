-- The text is cut into its parts; each failure leaves a front part of the parts up to it.
use Rattle.std.proofs.Common.{ℕ, List, ◌++◌, append_assoc, flat_map, zip}
use Rattle.std.specs.List.{enumerate_from}
use Rattle.sv_tree.specs.Module.{Module}
use Rattle.sv_tree.specs.Text.{module_text, register_line, net_lines, out_lines, clock_lines, last_line}
use Rattle.sv_writer.proofs.Parts.{then_put, failed_before}
use Rattle.sv_writer.proofs.write_module.Goals as goal

-- what is left of the text behind each part
abbrev behind_outputs : Module → List ℕ
behind_outputs m = clock_lines m m.regs ++ last_line

abbrev behind_nets : Module → List ℕ
behind_nets m = flat_map (out_lines m) (zip m.ports m.outs) ++ behind_outputs m

abbrev behind_registers : Module → List ℕ
behind_registers m = flat_map (net_lines m) (enumerate_from 0 m.nets) ++ behind_nets m

abbrev behind_header : Module → List ℕ
behind_header m = flat_map register_line m.regs ++ behind_registers m

pub returns-in_err-put_header : goal.returns-in_err-put_header
unfolding module_text
returns-in_err-put_header g c =
    simp append_assoc at
    (failed_before (behind_header c.args.module.now) c.from_residual.result c.from_residual.ensures.0 c.in_err-put_header.ensures)

pub returns-in_err-put_registers : goal.returns-in_err-put_registers
unfolding module_text
returns-in_err-put_registers g c =
    simp append_assoc at
    (then_put c.in_ok-put_header.ensures
    (failed_before (behind_registers c.args.module.now) c.from_residual-in_err-put_registers.result c.from_residual-in_err-put_registers.ensures.0 c.in_err-put_registers.ensures))

pub returns-in_err-put_nets : goal.returns-in_err-put_nets
unfolding module_text
returns-in_err-put_nets g c =
    simp append_assoc at
    (then_put c.in_ok-put_header.ensures
    (then_put c.in_ok-put_registers.ensures
    (failed_before (behind_nets c.args.module.now) c.from_residual-in_err-put_nets.result c.from_residual-in_err-put_nets.ensures.0 c.in_err-put_nets.ensures)))

pub returns-in_err-put_outputs : goal.returns-in_err-put_outputs
unfolding module_text
returns-in_err-put_outputs g c =
    simp append_assoc at
    (then_put c.in_ok-put_header.ensures
    (then_put c.in_ok-put_registers.ensures
    (then_put c.in_ok-put_nets.ensures
    (failed_before (behind_outputs c.args.module.now) c.from_residual-in_err-put_outputs.result c.from_residual-in_err-put_outputs.ensures.0 c.in_err-put_outputs.ensures))))

pub returns-in_err-put_clock : goal.returns-in_err-put_clock
unfolding module_text
returns-in_err-put_clock g c =
    simp append_assoc at
    (then_put c.in_ok-put_header.ensures
    (then_put c.in_ok-put_registers.ensures
    (then_put c.in_ok-put_nets.ensures
    (then_put c.in_ok-put_outputs.ensures
    (failed_before last_line c.from_residual-in_err-put_clock.result c.from_residual-in_err-put_clock.ensures.0 c.in_err-put_clock.ensures)))))

pub returns : goal.returns
unfolding module_text
returns g c =
    simp append_assoc at
    (then_put c.in_ok-put_header.ensures
    (then_put c.in_ok-put_registers.ensures
    (then_put c.in_ok-put_nets.ensures
    (then_put c.in_ok-put_outputs.ensures
    (then_put c.in_ok-put_clock.ensures c.put_all.ensures)))))

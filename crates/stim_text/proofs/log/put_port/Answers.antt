-- A field is its wires and then its data.
use Rattle.core_term.specs.LogText.{data_text}
use Rattle.stim_text.specs.LogLine.{wires_at}
use Rattle.stim_text.proofs.PutParts.{then_put, failed_before}
use Rattle.stim_text.proofs.log.put_port.Goals as goal

pub returns-in_err-put_wires : goal.returns-in_err-put_wires
returns-in_err-put_wires g c =
    failed_before (data_text c.args.port.now.received c.args.shown (wires_at c.args.cell.now c.args.out.now).number.value) c.from_residual.result c.from_residual.ensures.0 c.in_err-put_wires.ensures

pub returns : goal.returns
returns g c = rw (← c.data_of.ensures) (then_put c.in_ok-put_wires.ensures c.put_data.ensures)

-- A field is its name and then its number.
use Rattle.stim_text.proofs.PutParts.{then_put}
use Rattle.stim_text.proofs.log.put_register.Goals as goal

pub returns : goal.returns
returns g c = rw (← c.gap_before.ensures, ← c.bytes.ensures.bytes) (then_put c.in_ok-put_all.ensures c.put_number.ensures)

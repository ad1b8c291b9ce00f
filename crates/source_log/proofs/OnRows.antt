-- What is seen of the source run on rows is what comes in: of each port by its side.
use Rattle.std.proofs.Common.{List, refl}
use Rattle.core_term.specs.declared.rows.Row.{Row}
use Rattle.core_term.specs.Process.{Process}
use Rattle.run_log.specs.OnRows.{IsOnRows}
use Rattle.source_log.specs.Log.{shown_on}

pub on_rows : (p : Process) (rows : List Row) → IsOnRows p rows (shown_on p rows)
on_rows p rows = record {
  count = refl;
  valid = λ m t received. rw received refl;
  data_at = λ m t received. rw received refl;
  ack = λ m t received. rw received refl;
}

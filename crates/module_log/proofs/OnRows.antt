-- What is seen of a module on rows is what comes in: of each port by its side.
use Rattle.std.proofs.Common.{List, refl}
use Rattle.core_term.specs.declared.rows.Row.{Row}
use Rattle.core_term.specs.Process.{Process}
use Rattle.run_log.specs.OnRows.{IsOnRows}
use Rattle.sv_tree.specs.Module.{Module}
use Rattle.module_log.specs.Log.{module_shown}

pub on_rows : (p : Process) (tree : Module) (rows : List Row) → IsOnRows p rows (module_shown p tree rows)
on_rows p tree rows = record {
  count = refl;
  valid = λ m t received. rw received refl;
  data_at = λ m t received. rw received refl;
  ack = λ m t received. rw received refl;
}

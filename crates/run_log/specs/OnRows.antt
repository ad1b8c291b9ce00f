-- What is seen of a run on rows: what comes in is what the rows are.
use Rattle.std.specs.Prelude.{ℕ, ◌≡◌, true, false, List, length}
use Rattle.core_term.specs.declared.rows.Row.{Row}
use Rattle.core_term.specs.Process.{Process, is_received}
use Rattle.core_term.specs.Rows.{inputs_of}
use Rattle.run_log.specs.Shown.{Shown}

-- it has a cycle for each row; `valid` and the data come in on a received port, and `ack` on any other
pub record IsOnRows (p : Process) (rows : List Row) (shown : Shown) : Type 0 where
  pub count : shown.wires.count ≡ length rows
  pub valid : (m t : ℕ) → is_received p m ≡ true → shown.wires.valid m t ≡ (inputs_of rows).valid m t
  pub data_at : (m t : ℕ) → is_received p m ≡ true → shown.wires.data_at m t ≡ (inputs_of rows).data_at m t
  pub ack : (m t : ℕ) → is_received p m ≡ false → shown.wires.ack m t ≡ (inputs_of rows).ack m t

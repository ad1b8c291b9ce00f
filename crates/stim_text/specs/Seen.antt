-- The wires that rows of inputs and of outputs show, cycle by cycle: what a watch has seen.
use Rattle.std.specs.Prelude.{ℕ, ◌≡◌, ◌≤◌, ◌<◌, Bool, false, if◌then◌else◌, List, [], ◌∷◌, length, zero, suc, Option, Some, None}
use Rattle.std.specs.List.{slice_get}
use Rattle.core_term.specs.declared.rows.Row.{Row}
use Rattle.core_term.specs.declared.rows.OutRow.{OutRow}
use Rattle.core_term.specs.declared.rows.OutCell.{OutCell}
use Rattle.core_term.specs.declared.rows.OutCell.TheVariants as outgoing
use Rattle.core_term.specs.Process.{Process, is_received}
use Rattle.core_term.specs.Rows.{inputs_of}
use Rattle.core_term.specs.Wires.{Wires}
use Rattle.run_laws.specs.OneRun.{SameWires}

abbrev pub nth_out : List OutRow → ℕ → List OutCell
nth_out [] t = []
nth_out (row ∷ rows) zero = row.cells.items
nth_out (row ∷ rows) (suc t) = nth_out rows t

-- the wire that a process drives: `ack` of a received port, `valid` of a sent one
abbrev pub driven_by : Option OutCell → Bool
driven_by (Some (outgoing.Received ack)) = ack
driven_by (Some (outgoing.Sent valid v)) = valid
driven_by None = false

abbrev pub data_by : Option OutCell → ℕ
data_by (Some (outgoing.Received ack)) = 0
data_by (Some (outgoing.Sent valid v)) = v.value
data_by None = 0

abbrev pub wires_seen : Process → List Row → List OutRow → Wires
wires_seen p rows outs = record {
  count = length rows;
  valid = λ m t. if is_received p m then (inputs_of rows).valid m t else driven_by (slice_get (nth_out outs t) m);
  ack = λ m t. if is_received p m then driven_by (slice_get (nth_out outs t) m) else (inputs_of rows).ack m t;
  data_at = λ m t. if is_received p m then (inputs_of rows).data_at m t else data_by (slice_get (nth_out outs t) m);
}

-- the wires begin with what the rows show; what comes later is left open
pub record ShowsRows (p : Process) (wires : Wires) (rows : List Row) (outs : List OutRow) : Type 0 where
  pub long : length rows ≤ wires.count
  pub together : length outs ≡ length rows
  pub same : (t : ℕ) → t < length rows → SameWires wires (wires_seen p rows outs) t

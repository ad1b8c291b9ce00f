-- A watch, as contracts see it, and where it stands: after rows of inputs and outputs that it does not keep.
use Rattle.std.specs.Prelude.{ℕ, ◌≡◌, ◌+◌, ◌<◌, Bool, false, true, not, ◌&&◌, List, [], ◌∷◌, length, slice_index_or, IsTrue, ◌==◌}
use Rattle.core_term.specs.declared.rows.OutCell.{OutCell}
use Rattle.core_term.specs.declared.rows.OutCell.TheVariants as outgoing
use Rattle.core_term.specs.declared.rows.OutRow.{OutRow}
use Rattle.core_term.specs.declared.rows.Row.{Row}
use Rattle.core_term.specs.Breach.{PromisesKept}
use Rattle.core_term.specs.LogText.{exchanged, is_shown}
use Rattle.core_term.specs.Process.{LifeEnd, Port, Process, life_of}
use Rattle.core_term.specs.Wires.{Wires}
use Rattle.exchanges.specs.declared.latest.Latest.{Latest}
use Rattle.exchanges.specs.Broken.{no_latest}
use Rattle.exchanges.specs.Lives.{lives_of}
use Rattle.exchanges.specs.Next.{IsLatest}
use Rattle.stim_text.specs.Seen.{ShowsRows}

-- the lives of the ports, the latest exchange of each, and whether each shows its data in the cycle last taken
pub record Watching : Type 0 where
  pub lives : List (List LifeEnd)
  pub latests : List Latest
  pub shown : List Bool

abbrev pub shown_at : Watching → ℕ → Bool
shown_at watch m = slice_index_or watch.shown m false

-- a row of outputs that fits the ports: a cell for each, of its direction
abbrev pub out_cell_fits : Port → OutCell → Bool
out_cell_fits port (outgoing.Received ack) = port.received
out_cell_fits port (outgoing.Sent valid v) = not port.received

abbrev pub out_cells_fit : List Port → List OutCell → Bool
out_cells_fit [] [] = true
out_cells_fit [] (cell ∷ cells) = false
out_cells_fit (port ∷ ports) [] = false
out_cells_fit (port ∷ ports) (cell ∷ cells) = out_cell_fits port cell && out_cells_fit ports cells

-- before the cycle n: every promise was kept so far, and what is kept is of the wires
pub record StandsAt (p : Process) (wires : Wires) (n : ℕ) (watch : Watching) : Type 0 where
  pub kept : (t : ℕ) → t < n → PromisesKept p wires t
  pub latest : (m : ℕ) → m < length p.ports → IsLatest (exchanged wires) (life_of p m) m (wires.data_at m) n (slice_index_or watch.latests m no_latest)
  pub shown : (t m : ℕ) → n ≡ t + 1 → m < length p.ports → shown_at watch m ≡ is_shown wires (life_of p m) m t

-- a watch of this process that stands after the rows, whatever comes later
pub record StandsAfter (p : Process) (rows : List Row) (outs : List OutRow) (watch : Watching) : Type 0 where
  pub lives : watch.lives ≡ lives_of p.ports
  pub stands : (wires : Wires) → ShowsRows p wires rows outs → StandsAt p wires (length rows) watch

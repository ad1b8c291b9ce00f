-- Room for what a cycle shows.
use Rattle.std.specs.Prelude.{◌≡◌, length}
use Rattle.core_term.specs.declared.rows.OutRow.{OutRow}
use Rattle.core_term.specs.Process.{Process}
use Rattle.stim_text.specs.Watching.{Watching}

-- one cell for each port, and one place for each register
abbrev pub HasPlaces : Process → OutRow → Type 0
HasPlaces p row = (length row.cells.items ≡ length p.ports) × (length row.regs.items ≡ length p.registers)

-- a watch with a life and a flag for each port
pub record IsWatched (p : Process) (w : Watching) : Type 0 where
  pub lives : length w.lives ≡ length p.ports
  pub places : length w.shown ≡ length p.ports

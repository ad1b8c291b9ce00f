-- Rows that fit are an input list that fits.
use Rattle.std.proofs.Common.{◌≡◌, ℕ, ◌<◌, ◌^◌, inl, inr, arith, refl, true, ◌&&◌, ◌==◌, nat_lt, IsTrue, List, [], ◌∷◌, length, zero, suc}
use Rattle.std.proofs.lemmas.Bool.Decides.{nat_tests}
use Rattle.core_term.specs.declared.rows.InCell.{InCell}
use Rattle.core_term.specs.declared.rows.InCell.TheVariants.{Received, Sent}
use Rattle.core_term.specs.declared.rows.Row.{Row}
use Rattle.core_term.specs.Process.{Port, Process, nth_port}
use Rattle.core_term.specs.Rows.{cell_fits, cells_fit, nth_cell, nth_row, data_in, inputs_of}
use Rattle.core_term.specs.Fitting.{InputsFit, RowsFit}
use Rattle.core_term.proofs.code_tables.Ports.{first_part, second_part}

-- the cell of a received port carries data below 2 to its width
cell_below : (ports : List Port) (cells : List InCell) (m : ℕ) → IsTrue (cells_fit ports cells) → (nth_port ports m).received ≡ true
    → data_in (nth_cell cells m) < 2 ^ (nth_port ports m).width
cell_below [] cells m fits received = absurd cc
cell_below (port ∷ ports) [] m fits received = absurd cc
cell_below (port ∷ ports) (Received valid v ∷ cells) zero fits received =
    let cell : IsTrue (port.received && ((v.width == port.width) && nat_lt v.value (2 ^ port.width))) = first_part _ _ fits in
    let below : nat_lt v.value (2 ^ port.width) ≡ true = second_part (v.width == port.width) _ (second_part port.received _ cell) in
    grind (arith, nat_tests)
cell_below (port ∷ ports) (Sent ack ∷ cells) zero fits received = let is_less : 0 < 2 ^ port.width = grind arith in is_less
cell_below (port ∷ ports) (cell ∷ cells) (suc m) fits received = cell_below ports cells m (second_part (cell_fits port cell) _ fits) received

row_below : (ports : List Port) (rows : List Row) (m t : ℕ) → RowsFit ports rows → t < length rows → (nth_port ports m).received ≡ true
    → data_in (nth_cell (nth_row rows t) m) < 2 ^ (nth_port ports m).width
row_below ports [] m t fit short received = absurd (omega arith)
row_below ports (row ∷ rows) m zero fit short received = cell_below ports row.cells.items m (fit row (inl refl)) received
row_below ports (row ∷ rows) m (suc t) fit short received = row_below ports rows m t (λ other has. fit other (inr has)) (omega arith) received

pub inputs_fit : (p : Process) (rows : List Row) → RowsFit p.ports rows → InputsFit p (inputs_of rows)
inputs_fit p rows fit m t short received = row_below p.ports rows m t fit short received

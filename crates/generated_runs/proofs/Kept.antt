-- On the rows of a generated process every promise is kept.
--
-- The claim holds of every process: the rows are all the same, so what comes in on a received port never changes.
use Rattle.std.proofs.Common.{◌≡◌, ◌∙◌, ℕ, zero, suc, ◌<◌, true, List, [], ◌∷◌, map, ap, sym, arith}
use Rattle.std.specs.Prelude.{replicate}
use Rattle.core_term.specs.declared.rows.InCell.{InCell}
use Rattle.core_term.specs.declared.rows.Row.{Row}
use Rattle.core_term.specs.Process.{Process, is_received}
use Rattle.core_term.specs.Rows.{data_in, nth_cell, nth_row}
use Rattle.run_log.specs.Log.{IsKeptTo}
use Rattle.source_log.specs.Log.{shown_on, wires_on}
use Rattle.generated_file.specs.Rows.{cells_of, cycles, row_of, rows_of}

row_is : (count : ℕ) (row : List InCell) (rows : List Row) (t : ℕ) → map cells_of rows ≡ replicate count row → t < count → nth_row rows t ≡ row
row_is zero row rows t are within = absurd (omega (arith, within))
row_is (suc count) row [] t are within = absurd cc
row_is (suc count) row (first ∷ rows) zero are within = cc
row_is (suc count) row (first ∷ rows) (suc t) are within =
    let rest : map cells_of rows ≡ replicate count row = cc in
    row_is count row rows t rest (omega (arith, within))

module _ (p : Process) (index : ℕ) (rows : List Row) (are : map cells_of rows ≡ rows_of index) where
  data_is : (m t : ℕ) → is_received p m ≡ true → t < cycles → (wires_on p rows).data_at m t ≡ data_in (nth_cell (row_of index) m)
  data_is m t received within = rw received (ap (λ cells. data_in (nth_cell cells m)) (row_is cycles (row_of index) rows t are within))

  pub kept : IsKeptTo p (shown_on p rows) cycles
  kept t within m received start cycle exchange up_to in_life =
      let begun = in_life.0 in
      data_is m cycle received (omega (arith, within, up_to)) ∙ sym (data_is m start received (omega (arith, within, up_to, begun)))

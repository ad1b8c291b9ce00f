-- The laws of a simulation, over lists of rows: an input list that begins with some rows and one more has that row in the cycle
-- after them, and begins with them alone too.
use Rattle.std.proofs.Common.{◌≡◌, ℕ, ◌+◌, ◌<◌, arith, refl, sym, ◌∙◌, ap, subst, List, [], ◌∷◌, ◌++◌, length, zero, suc}
use Rattle.core_term.specs.declared.rows.Row.{Row}
use Rattle.core_term.specs.Inputs.{Inputs}
use Rattle.core_term.specs.Rows.{nth_cell, nth_row, valid_in, data_in, ack_in}
use Rattle.sim_laws.specs.Stands.{none_yet, StandsAt, state_after}
use Rattle.sim_laws.specs.SimLaws.{BeginsWith, NewStands, StepStands, StepShows}
use Rattle.sim_laws.proofs.Cycle.{CellsAt, stands_on, cells_now}

longer : (rows : List Row) (row : Row) → length (rows ++ row ∷ []) ≡ length rows + 1
longer [] row = refl
longer (first ∷ rows) row = let z : length (rows ++ row ∷ []) ≡ length rows + 1 = longer rows row in omega arith

last_row : (rows : List Row) (row : Row) → nth_row (rows ++ row ∷ []) (length rows) ≡ row.cells.items
last_row [] row = refl
last_row (first ∷ rows) row = last_row rows row

row_before : (rows : List Row) (row : Row) (t : ℕ) → t < length rows → nth_row (rows ++ row ∷ []) t ≡ nth_row rows t
row_before [] row t l = absurd (omega arith)
row_before (first ∷ rows) row zero l = refl
row_before (first ∷ rows) row (suc t) l = row_before rows row t (omega arith)

begins_before : (inputs : Inputs) (rows : List Row) (row : Row) → BeginsWith inputs (rows ++ row ∷ []) → BeginsWith inputs rows
begins_before inputs rows row k =
    let long : length (rows ++ row ∷ []) ≡ length rows + 1 = longer rows row in record {
      long = let z = k.long in omega arith;
      other_long = omega arith;
      valid = λ m t l. k.valid m t (omega arith) ∙ ap (λ cells. valid_in (nth_cell cells m)) (row_before rows row t l);
      data_at = λ m t l. k.data_at m t (omega arith) ∙ ap (λ cells. data_in (nth_cell cells m)) (row_before rows row t l);
      ack = λ m t l. k.ack m t (omega arith) ∙ ap (λ cells. ack_in (nth_cell cells m)) (row_before rows row t l);
    }

cells_at : (inputs : Inputs) (rows : List Row) (row : Row) → BeginsWith inputs (rows ++ row ∷ []) → CellsAt (length rows) inputs row.cells.items
cells_at inputs rows row k =
    let long : length (rows ++ row ∷ []) ≡ length rows + 1 = longer rows row in record {
      inside = let z = k.long in omega arith;
      valid = λ m. k.valid m (length rows) (omega arith) ∙ ap (λ cells. valid_in (nth_cell cells m)) (last_row rows row);
      data_at = λ m. k.data_at m (length rows) (omega arith) ∙ ap (λ cells. data_in (nth_cell cells m)) (last_row rows row);
      ack = λ m. k.ack m (length rows) (omega arith) ∙ ap (λ cells. ack_in (nth_cell cells m)) (last_row rows row);
    }

pub new_told : NewStands
new_told p state begun long registers quiet inputs k = record {
  threads = none_yet refl begun long;
  registers = registers;
  latests = λ m l. quiet m;
}

pub step_told : StepStands
step_told p good rows row state fits places stands inputs k =
    let n : length (rows ++ row ∷ []) ≡ length rows + 1 = longer rows row in
    subst (λ c. StandsAt c p inputs (state_after p row.cells.items state)) (sym n)
    (stands_on p good (length rows) inputs row.cells.items (cells_at inputs rows row k) fits state (stands inputs (begins_before inputs rows row k)) places.0 places.1)

pub shows_told : StepShows
shows_told p good rows row state fits places wide stands inputs k =
    let before = stands inputs (begins_before inputs rows row k) in (
      cells_now p good (length rows) inputs row.cells.items (cells_at inputs rows row k) fits state before places.0 places.1 (record { drives_wide = wide.0; latests_wide = wide.1 }),
      before.registers,
    )

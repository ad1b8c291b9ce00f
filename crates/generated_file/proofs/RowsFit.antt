-- The rows of a process fit its ports, and are no more than a stimulus may have.
--
-- What holds of the cells of each row holds of each row; and the cells are those of one row over and over.
use Rattle.std.proofs.Common.{◌≡◌, ℕ, ◌+◌, ◌<◌, List, [], ◌∷◌, length, map, arith, ap, sym, ◌∙◌, true, false, IsTrue}
use Rattle.std.specs.Prelude.{nat_lt, ◌&&◌}
use Rattle.std.specs.List.{All}
use Rattle.std.proofs.lemmas.List.Elements.{All-cons, All-head, All-nil, All-replicate, All-same, All-tail}
use Rattle.std.proofs.lemmas.Bool.{lt-ltb}
use Rattle.std.proofs.lemmas.List.{length-map, length-replicate}
use Rattle.core_term.specs.declared.rows.InCell.{InCell}
use Rattle.core_term.specs.declared.rows.Row.{Row}
use Rattle.core_term.specs.Process.{Port}
use Rattle.core_term.specs.Rows.{cells_fit, row_fits}
use Rattle.generated_file.specs.Rows.{cells_of, cycles, row_of, rows_of}

-- what holds of the cells of each row
of_cells : (holds : List InCell → Type 0) (rows : List Row) → All holds (map cells_of rows) → All (λ row. holds (cells_of row)) rows
of_cells holds [] all = All-nil _
of_cells holds (row ∷ rows) all =
    All-cons (λ other. holds (cells_of other)) row rows (All-head holds (cells_of row) (map cells_of rows) all)
    (of_cells holds rows (All-tail holds (cells_of row) (map cells_of rows) all))

-- the rows of a process, where one fits
pub rows_fit : (ports : List Port) (index : ℕ) (rows : List Row) → map cells_of rows ≡ rows_of index
    → IsTrue (cells_fit ports (row_of index)) → All (λ row. IsTrue (row_fits ports row)) rows
rows_fit ports index rows same fits =
    let Fits = λ (cells : List InCell). IsTrue (cells_fit ports cells) in
    of_cells Fits rows (All-same Fits (map cells_of rows) (rows_of index) same (All-replicate Fits cycles (row_of index) fits))

-- it fits a received port and a sent one, of 8 bits
pub row_fits_ports : (req res : Port) (index : ℕ) → req.received ≡ true → req.width ≡ 8 → res.received ≡ false → index < 64
    → IsTrue (cells_fit (req ∷ res ∷ []) (row_of index))
row_fits_ports req res index comes wide goes few =
    let small : nat_lt (index + 1) 256 ≡ true = lt-ltb (index + 1) 256 (omega (arith, few)) in
    rw (comes, wide, goes) (ap (λ fits. fits && true) small)

-- how many they are
pub rows_count : (index : ℕ) (rows : List Row) → map cells_of rows ≡ rows_of index → length rows ≡ 100
rows_count index rows same = sym (length-map rows cells_of) ∙ ap length same ∙ length-replicate cycles (row_of index)

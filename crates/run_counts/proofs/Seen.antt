-- The cells and registers of a cycle, against what is seen of the run.
--
-- The claim: what comes in and goes out on the ports of a cycle meets exactly where the run has an exchange. The argument goes
-- along the ports: a row that fits has a cell of the side of each, `valid` comes in on a received port and `ack` on any other.
use Rattle.std.proofs.Common.{◌≡◌, ◌∙◌, ◌<◌, ◌+◌, ◌∷◌, ℕ, zero, suc, Bool, true, false, List, [], length, get_or, refl, ap, sym, subst, arith}
use Rattle.std.specs.Prelude.{IsTrue, not}
use Rattle.std.proofs.lemmas.Bool.{and_parts, false≢true}
use Rattle.anvil_bits.specs.Operators.{truth}
use Rattle.core_term.specs.declared.rows.InCell.{InCell}
use Rattle.core_term.specs.declared.rows.InCell.TheVariants as incoming
use Rattle.core_term.specs.declared.rows.Row.{Row}
use Rattle.core_term.specs.Process.{Port, Process, nth_port}
use Rattle.core_term.specs.Rows.{cell_fits, cells_fit, row_fits, nth_cell, nth_row, valid_in, ack_in, out_cell, cells_shown}
use Rattle.run_log.specs.OnRows.{IsOnRows}
use Rattle.run_log.specs.Shown.{Shown}
use Rattle.run_counts.specs.Cells.{is_met, meetings}
use Rattle.run_counts.specs.Counts.{exchanges_at, is_exchange}

module _ (shown : Shown) (t : ℕ) where
  -- what comes in on the ports from the number m on
  record ComesIn (m : ℕ) (ports : List Port) (came : List InCell) : Type 0 where
    valid : (k number : ℕ) → number ≡ m + k → (nth_port ports k).received ≡ true
        → shown.wires.valid number t ≡ valid_in (nth_cell came k)
    ack : (k number : ℕ) → number ≡ m + k → (nth_port ports k).received ≡ false
        → shown.wires.ack number t ≡ ack_in (nth_cell came k)

  rest_comes : (m : ℕ) (port : Port) (ports : List Port) (cell : InCell) (came : List InCell)
      → ComesIn m (port ∷ ports) (cell ∷ came) → ComesIn (m + 1) ports came
  rest_comes m port ports cell came comes = record {
    valid = λ k number is. comes.valid (suc k) number (omega (arith, is));
    ack = λ k number is. comes.ack (suc k) number (omega (arith, is));
  }

  -- on one port
  met : (m : ℕ) (side : Bool) (width number : ℕ) (port : Port) (cell : InCell) → port.received ≡ side → cell_fits port cell ≡ true
      → (side ≡ true → shown.wires.valid m t ≡ valid_in (nth_cell (cell ∷ []) 0))
      → (side ≡ false → shown.wires.ack m t ≡ ack_in (nth_cell (cell ∷ []) 0))
      → is_met cell (out_cell side width (shown.wires.ack m t) (shown.wires.valid m t) number) ≡ is_exchange shown m t
  met m true width number port (incoming.Received valid value) is fits comes acks = rw (comes refl) refl
  met m true width number port (incoming.Sent ack) is fits comes acks = absurd (false≢true (sym (ap not is) ∙ fits))
  met m false width number port (incoming.Received valid value) is fits comes acks =
      absurd (false≢true (sym is ∙ (and_parts port.received _ fits).0))
  met m false width number port (incoming.Sent ack) is fits comes acks = rw (acks refl) refl

  meets : (m : ℕ) (ports : List Port) (came : List InCell) → cells_fit ports came ≡ true → ComesIn m ports came
      → meetings came (cells_shown shown.wires t m ports) ≡ exchanges_at shown t m ports
  meets m [] [] fits comes = refl
  meets m [] (cell ∷ came) fits comes = absurd (false≢true fits)
  meets m (port ∷ ports) [] fits comes = absurd (false≢true fits)
  meets m (port ∷ ports) (cell ∷ came) fits comes =
      let parts = and_parts (cell_fits port cell) _ fits in
      let rest = meets (m + 1) ports came parts.1 (rest_comes m port ports cell came comes) in
      let here = met m port.received port.width (shown.wires.data_at m t) port cell refl parts.0
      (λ side. comes.valid 0 m (omega arith) side) (λ side. comes.ack 0 m (omega arith) side) in
      λ i. truth (here i) + rest i

row_at : (rows : List Row) (n : ℕ) (row : Row) → n < length rows → nth_row rows n ≡ (get_or rows n row).cells.items
row_at [] n row inside = absurd (omega arith)
row_at (first ∷ rows) zero row inside = refl
row_at (first ∷ rows) (suc n) row inside = row_at rows n row (omega arith)

-- the row of the cycle meets what goes out in it
pub row_meets : (p : Process) (shown : Shown) (rows : List Row) → IsOnRows p rows shown
    → (n : ℕ) (row : Row) → n < length rows → row ≡ get_or rows n row → IsTrue (row_fits p.ports row)
    → meetings row.cells.items (cells_shown shown.wires n 0 p.ports) ≡ exchanges_at shown n 0 p.ports
row_meets p shown rows on_rows n row inside is fits =
    let cells : nth_row rows n ≡ row.cells.items = row_at rows n row inside ∙ sym (ap (λ other. other.cells.items) is) in
    meets shown n 0 p.ports row.cells.items fits
    (record {
      valid = λ k number same side.
          on_rows.valid number n (subst (λ j. (nth_port p.ports j).received ≡ true) (omega (arith, same)) side)
          ∙ rw cells (ap (λ j. valid_in (nth_cell row.cells.items j)) (omega (arith, same)));
      ack = λ k number same side.
          on_rows.ack number n (subst (λ j. (nth_port p.ports j).received ≡ false) (omega (arith, same)) side)
          ∙ rw cells (ap (λ j. ack_in (nth_cell row.cells.items j)) (omega (arith, same)));
    })

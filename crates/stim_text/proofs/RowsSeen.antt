-- Rows with one more: what the wires show before it, and what they show in its cycle.
use Rattle.std.proofs.Common.{◌≡◌, ℕ, ◌+◌, ◌<◌, ◌≤◌, Bool, true, false, if◌then◌else◌, ◌&&◌, List, [], ◌∷◌, ◌++◌, length, zero, suc, refl, ap, sym, subst, ◌∙◌, arith, Option, Some, None}
use Rattle.std.specs.Prelude.{not}
use Rattle.std.specs.List.{slice_get}
use Rattle.anvil_bits.specs.Number.{Number}
use Rattle.core_term.specs.declared.rows.InCell.{InCell}
use Rattle.core_term.specs.declared.rows.InCell.TheVariants as incoming
use Rattle.core_term.specs.declared.rows.OutCell.{OutCell}
use Rattle.core_term.specs.declared.rows.OutCell.TheVariants as outgoing
use Rattle.core_term.specs.declared.rows.OutRow.{OutRow}
use Rattle.core_term.specs.declared.rows.Row.{Row}
use Rattle.core_term.specs.Process.{Port, Process, nth_port, is_received}
use Rattle.run_laws.specs.OneRun.{SameWires}
use Rattle.core_term.specs.Rows.{number_of, nth_cell, nth_row, valid_in, data_in, ack_in, cell_fits, cells_fit, inputs_of}
use Rattle.core_term.specs.Wires.{Wires}
use Rattle.run_laws.proofs.source_runs.Offers.{and_first, and_second}
use Rattle.stim_text.specs.LogLine.{PortWires, wires_at}
use Rattle.stim_text.specs.Seen.{nth_out, driven_by, data_by, wires_seen, ShowsRows}
use Rattle.stim_text.specs.Watching.{out_cell_fits, out_cells_fit}

-- Lists with one more row.

row_before : (rows : List Row) (row : Row) (t : ℕ) → t < length rows → nth_row (rows ++ row ∷ []) t ≡ nth_row rows t
row_before [] row t less = absurd (omega arith)
row_before (first ∷ rows) row zero less = refl
row_before (first ∷ rows) row (suc t) less = row_before rows row t (omega arith)

row_here : (rows : List Row) (row : Row) (t : ℕ) → t ≡ length rows → nth_row (rows ++ row ∷ []) t ≡ row.cells.items
row_here [] row t here = rw here refl
row_here (first ∷ rows) row zero here = absurd (omega arith)
row_here (first ∷ rows) row (suc t) here = row_here rows row t (omega arith)

out_before : (outs : List OutRow) (out : OutRow) (t : ℕ) → t < length outs → nth_out (outs ++ out ∷ []) t ≡ nth_out outs t
out_before [] out t less = absurd (omega arith)
out_before (first ∷ outs) out zero less = refl
out_before (first ∷ outs) out (suc t) less = out_before outs out t (omega arith)

out_here : (outs : List OutRow) (out : OutRow) (t : ℕ) → t ≡ length outs → nth_out (outs ++ out ∷ []) t ≡ out.cells.items
out_here [] out t here = rw here refl
out_here (first ∷ outs) out zero here = absurd (omega arith)
out_here (first ∷ outs) out (suc t) here = out_here outs out t (omega arith)

pub one_more : {X : Type 0} (xs : List X) (x : X) → length (xs ++ x ∷ []) ≡ length xs + 1
one_more [] x = refl
one_more (first ∷ xs) x = let rest = one_more xs x in omega arith

-- The two cells of a port.

abbrev pub wires_nth : List InCell → List OutCell → ℕ → PortWires
wires_nth [] outs m = record { valid = false; ack = false; number = number_of 1 0 }
wires_nth (cell ∷ cells) [] m = record { valid = false; ack = false; number = number_of 1 0 }
wires_nth (cell ∷ cells) (out ∷ outs) zero = wires_at cell out
wires_nth (cell ∷ cells) (out ∷ outs) (suc m) = wires_nth cells outs m

-- a port of the direction of both
side : (port : Port) (cell : InCell) (out : OutCell) → cell_fits port cell ≡ true → out_cell_fits port out ≡ true
    → ((if port.received then valid_in (Some cell) else driven_by (Some out)) ≡ (wires_at cell out).valid)
    × ((if port.received then driven_by (Some out) else ack_in (Some cell)) ≡ (wires_at cell out).ack)
    × ((if port.received then data_in (Some cell) else data_by (Some out)) ≡ (wires_at cell out).number.value)
side port (incoming.Received valid v) (outgoing.Received ack) fits out_fits = rw out_fits (refl, refl, refl)
side port (incoming.Received valid v) (outgoing.Sent on w) fits out_fits =
    let received : port.received ≡ true = and_first port.received _ fits in
    let never : not true ≡ true = ap not (sym received) ∙ out_fits in
    absurd cc
side port (incoming.Sent ack) (outgoing.Received on) fits out_fits = let never : not true ≡ true = ap not (sym out_fits) ∙ fits in absurd cc
side port (incoming.Sent ack) (outgoing.Sent valid v) fits out_fits = by_case port.received fits
  where
    by_case : (b : Bool) → not b ≡ true
        → ((if b then valid_in (Some (incoming.Sent ack)) else driven_by (Some (outgoing.Sent valid v))) ≡ valid)
        × ((if b then driven_by (Some (outgoing.Sent valid v)) else ack_in (Some (incoming.Sent ack))) ≡ ack)
        × ((if b then data_in (Some (incoming.Sent ack)) else data_by (Some (outgoing.Sent valid v))) ≡ v.value)
    by_case true is = absurd cc
    by_case false is = (refl, refl, refl)

-- of every port, and of a number that is none
pub record PortSeen (ports : List Port) (cells : List InCell) (outs : List OutCell) (m : ℕ) : Type 0 where
  pub valid : (if (nth_port ports m).received then valid_in (nth_cell cells m) else driven_by (slice_get outs m)) ≡ (wires_nth cells outs m).valid
  pub ack : (if (nth_port ports m).received then driven_by (slice_get outs m) else ack_in (nth_cell cells m)) ≡ (wires_nth cells outs m).ack
  pub number : (if (nth_port ports m).received then data_in (nth_cell cells m) else data_by (slice_get outs m)) ≡ (wires_nth cells outs m).number.value

pub port_seen : (ports : List Port) (cells : List InCell) (outs : List OutCell) (m : ℕ) → cells_fit ports cells ≡ true → out_cells_fit ports outs ≡ true → PortSeen ports cells outs m
port_seen [] [] [] m fits out_fits = record { valid = refl; ack = refl; number = refl }
port_seen [] [] (out ∷ outs) m fits out_fits = absurd cc
port_seen [] (cell ∷ cells) outs m fits out_fits = absurd cc
port_seen (port ∷ ports) [] outs m fits out_fits = absurd cc
port_seen (port ∷ ports) (cell ∷ cells) [] m fits out_fits = absurd cc
port_seen (port ∷ ports) (cell ∷ cells) (out ∷ outs) zero fits out_fits =
    let all = side port cell out (and_first (cell_fits port cell) _ fits) (and_first (out_cell_fits port out) _ out_fits) in
    record { valid = all.0; ack = all.1; number = all.2 }
port_seen (port ∷ ports) (cell ∷ cells) (out ∷ outs) (suc m) fits out_fits =
    let rest = port_seen ports cells outs m (and_second (cell_fits port cell) _ fits) (and_second (out_cell_fits port out) _ out_fits) in
    record { valid = rest.valid; ack = rest.ack; number = rest.number }

-- Wires that show rows with one more.

module _ (p : Process) (wires : Wires) (rows : List Row) (outs : List OutRow) (row : Row) (out : OutRow) (shows : ShowsRows p wires (rows ++ row ∷ []) (outs ++ out ∷ [])) where
  same_count : length outs ≡ length rows
  same_count = let a = one_more rows row in let b = one_more outs out in let c = shows.together in omega arith

  pub within : length rows < wires.count
  within = let a = one_more rows row in let b = shows.long in omega arith

  pub shows_before : ShowsRows p wires rows outs
  shows_before = record {
    long = (let a = within in omega arith);
    together = same_count;
    same = λ t less. before t less;
  }
    where
      before : (t : ℕ) → t < length rows → SameWires wires (wires_seen p rows outs) t
      before t less =
          let count = same_count in
          let a = one_more rows row in
          let there = shows.same t (omega arith) in
          let cells = row_before rows row t less in
          let driven = out_before outs out t (omega arith) in
          record {
            valid = λ m. there.valid m ∙ rw (cells, driven) refl;
            ack = λ m. there.ack m ∙ rw (cells, driven) refl;
            data_at = λ m. there.data_at m ∙ rw (cells, driven) refl;
          }

  -- in the cycle of the row
  pub record Now (m : ℕ) : Type 0 where
    pub valid : wires.valid m (length rows) ≡ (if is_received p m then valid_in (nth_cell row.cells.items m) else driven_by (slice_get out.cells.items m))
    pub ack : wires.ack m (length rows) ≡ (if is_received p m then driven_by (slice_get out.cells.items m) else ack_in (nth_cell row.cells.items m))
    pub data_at : wires.data_at m (length rows) ≡ (if is_received p m then data_in (nth_cell row.cells.items m) else data_by (slice_get out.cells.items m))

  pub now : (m : ℕ) → Now m
  now m =
      let a = one_more rows row in
      let there = shows.same (length rows) (omega arith) in
      let cells = row_here rows row (length rows) refl in
      let driven = out_here outs out (length rows) (sym same_count) in
      record {
        valid = there.valid m ∙ rw (cells, driven) refl;
        ack = there.ack m ∙ rw (cells, driven) refl;
        data_at = there.data_at m ∙ rw (cells, driven) refl;
      }

-- Rows that are taken one by one, and what the wires of the run show of them.
--
-- The claim: where the rows so far and the outputs so far show the wires of the ports, so do those with one row more and the
-- outputs of its cycle. The argument is by the port: one that the process has shows its cell, and on any other there is nothing.
use Rattle.std.proofs.Common.{◌≡◌, ◌∙◌, inl, inr, ℕ, zero, suc, ◌+◌, ◌<◌, ◌≤◌, Bool, true, false, if◌then◌else◌, nat_lt, List, [], ◌∷◌, ◌++◌, length, get_or, take, Some, None, refl, ap, sym, subst, arith}
use Rattle.std.specs.Prelude.{not}
use Rattle.std.specs.List.{slice_get}
use Rattle.std.proofs.lemmas.Bool.{cases_order}
use Rattle.std.proofs.lemmas.Bool.Decides.{nat_tests}
use Rattle.std.proofs.lemmas.List.{take_more}
use Rattle.core_term.specs.declared.rows.InCell.{InCell}
use Rattle.core_term.specs.declared.rows.OutRow.{OutRow}
use Rattle.core_term.specs.declared.rows.Row.{Row}
use Rattle.run_laws.specs.OneRun.{SameRows, SameWires}
use Rattle.core_term.specs.Process.{Port, Process, nth_port, is_received}
use Rattle.core_term.specs.Rows.{nth_cell, nth_row, valid_in, data_in, ack_in, inputs_of, out_cell, cell_shown, cells_shown, cell_fits, cells_fit}
use Rattle.core_term.specs.Wires.{Wires}
use Rattle.run_laws.proofs.source_runs.Offers.{and_second}
use Rattle.stim_text.specs.Seen.{nth_out, driven_by, data_by, wires_seen, ShowsRows}
use Rattle.stim_text.specs.Watching.{out_cell_fits, out_cells_fit}
use Rattle.run_log.specs.OnRows.{IsOnRows}
use Rattle.run_log.specs.Ports.{port_wires}
use Rattle.run_log.specs.Shown.{Shown}

-- Lists.

pub taken_long : {X : Type 0} (xs : List X) (n : ℕ) → n ≤ length xs → length (take n xs) ≡ n
taken_long [] zero within = refl
taken_long [] (suc n) within = absurd (omega arith)
taken_long (x ∷ xs) zero within = refl
taken_long (x ∷ xs) (suc n) within = ap suc (taken_long xs n (omega arith))

one_more : {X : Type 0} (xs : List X) (x : X) → length (xs ++ x ∷ []) ≡ length xs + 1
one_more [] x = refl
one_more (first ∷ xs) x = let rest = one_more xs x in omega (arith, rest)

nth_taken : (rows : List Row) (k t : ℕ) → t < k → nth_row (take k rows) t ≡ nth_row rows t
nth_taken [] zero t less = absurd (omega arith)
nth_taken [] (suc k) t less = refl
nth_taken (row ∷ rows) zero t less = absurd (omega arith)
nth_taken (row ∷ rows) (suc k) zero less = refl
nth_taken (row ∷ rows) (suc k) (suc t) less = nth_taken rows k t (omega arith)

out_before : (outs : List OutRow) (out : OutRow) (t : ℕ) → t < length outs → nth_out (outs ++ out ∷ []) t ≡ nth_out outs t
out_before [] out t less = absurd (omega arith)
out_before (first ∷ outs) out zero less = refl
out_before (first ∷ outs) out (suc t) less = out_before outs out t (omega arith)

out_here : (outs : List OutRow) (out : OutRow) (t : ℕ) → t ≡ length outs → nth_out (outs ++ out ∷ []) t ≡ out.cells.items
out_here [] out t here = rw here refl
out_here (first ∷ outs) out zero here = absurd (omega arith)
out_here (first ∷ outs) out (suc t) here = out_here outs out t (omega arith)

-- Cells.

cell_at : (wires : Wires) (t base m : ℕ) (ports : List Port) → m < length ports → slice_get (cells_shown wires t base ports) m ≡ Some (cell_shown wires t (base + m) (nth_port ports m))
cell_at wires t base m [] less = absurd (omega arith)
cell_at wires t base zero (port ∷ ports) less = let same : base ≡ base + 0 = omega arith in ap (λ k. Some (cell_shown wires t k port)) same
cell_at wires t base (suc m) (port ∷ ports) less =
    let same : (base + 1) + m ≡ base + suc m = omega arith in
    cell_at wires t (base + 1) m ports (omega arith) ∙ ap (λ k. Some (cell_shown wires t k (nth_port ports m))) same

no_cell : (wires : Wires) (t base m : ℕ) (ports : List Port) → length ports ≤ m → (slice_get (cells_shown wires t base ports) m ≡ None) × ((nth_port ports m).received ≡ false)
no_cell wires t base m [] past = (refl, refl)
no_cell wires t base zero (port ∷ ports) past = absurd (omega arith)
no_cell wires t base (suc m) (port ∷ ports) past = no_cell wires t (base + 1) m ports (omega arith)

fits_by : (port : Port) (b : Bool) (width : ℕ) (ack valid : Bool) (number : ℕ) → port.received ≡ b → out_cell_fits port (out_cell b width ack valid number) ≡ true
fits_by port true width ack valid number is = is
fits_by port false width ack valid number is = ap not is

pub shown_fit : (wires : Wires) (t base : ℕ) (ports : List Port) → out_cells_fit ports (cells_shown wires t base ports) ≡ true
shown_fit wires t base [] = refl
shown_fit wires t base (port ∷ ports) =
    rw (fits_by port port.received port.width (wires.ack base t) (wires.valid base t) (wires.data_at base t) refl) (shown_fit wires t (base + 1) ports)

from_zero : (m : ℕ) → 0 + m ≡ m
from_zero m = omega arith

pub cells_long : (ports : List Port) (cells : List InCell) → cells_fit ports cells ≡ true → length cells ≡ length ports
cells_long [] [] fits = refl
cells_long [] (cell ∷ cells) fits = absurd cc
cells_long (port ∷ ports) [] fits = absurd cc
cells_long (port ∷ ports) (cell ∷ cells) fits = ap suc (cells_long ports cells (and_second (cell_fits port cell) _ fits))

-- what a port shows, by its side
valid_by : (b : Bool) (width : ℕ) (came ack valid : Bool) (number : ℕ) → (b ≡ true → valid ≡ came)
    → valid ≡ (if b then came else driven_by (Some (out_cell b width ack valid number)))
valid_by true width came ack valid number comes = comes refl
valid_by false width came ack valid number comes = refl

ack_by : (b : Bool) (width : ℕ) (came ack valid : Bool) (number : ℕ) → (b ≡ false → ack ≡ came)
    → ack ≡ (if b then driven_by (Some (out_cell b width ack valid number)) else came)
ack_by true width came ack valid number comes = refl
ack_by false width came ack valid number comes = comes refl

number_by : (b : Bool) (width : ℕ) (ack valid : Bool) (came number : ℕ) → (b ≡ true → number ≡ came)
    → number ≡ (if b then came else data_by (Some (out_cell b width ack valid number)))
number_by true width ack valid came number comes = comes refl
number_by false width ack valid came number comes = refl

-- The rows with one more.

module _ (rows : List Row) (n : ℕ) (row : Row) (inside : n < length rows) (is : row ≡ get_or rows n row) where
  pub more : take (n + 1) rows ≡ take n rows ++ row ∷ []
  more = take_more rows n row inside ∙ ap (λ one. take n rows ++ one ∷ []) (sym is)

  pub long : length (take n rows) ≡ n
  long = taken_long rows n (omega (arith, inside))

  pub same_row : (t : ℕ) → t < n + 1 → nth_row (take n rows ++ row ∷ []) t ≡ nth_row rows t
  same_row t less = ap (λ (taken : List Row). nth_row taken t) (sym more) ∙ nth_taken rows (n + 1) t less

  pub begins : SameRows (length (take n rows ++ row ∷ [])) (inputs_of rows) (inputs_of (take n rows ++ row ∷ []))
  begins =
      let count = one_more (take n rows) row in
      let so_far = long in
      record {
        long = omega (arith, count, so_far, inside);
        other_long = omega arith;
        valid = λ m t less. sym (ap (λ cells. valid_in (nth_cell cells m)) (same_row t (omega (arith, less, count, so_far))));
        data_at = λ m t less. sym (ap (λ cells. data_in (nth_cell cells m)) (same_row t (omega (arith, less, count, so_far))));
        ack = λ m t less. sym (ap (λ cells. ack_in (nth_cell cells m)) (same_row t (omega (arith, less, count, so_far))));
      }

  module _ (p : Process) (shown : Shown) (on_rows : IsOnRows p rows shown) (outs : List OutRow) (out : OutRow)
      (shows : ShowsRows p (port_wires p shown.wires) (take n rows) outs)
      (cells : out.cells.items ≡ cells_shown shown.wires n 0 p.ports) where
    abbrev full : Wires
    full = shown.wires

    abbrev own : Wires
    own = port_wires p shown.wires

    before : (t : ℕ) → t < n → SameWires own (wires_seen p (take n rows ++ row ∷ []) (outs ++ out ∷ [])) t
    before t less =
        let so_far = long in
        let count = shows.together in
        let there = shows.same t (omega (arith, less, so_far)) in
        let row_same : nth_row (take n rows ++ row ∷ []) t ≡ nth_row (take n rows) t = same_row t (omega (arith, less)) ∙ sym (nth_taken rows n t less) in
        let out_same = out_before outs out t (omega (arith, less, so_far, count)) in
        record {
          valid = λ m. there.valid m ∙ rw (row_same, out_same) refl;
          ack = λ m. there.ack m ∙ rw (row_same, out_same) refl;
          data_at = λ m. there.data_at m ∙ rw (row_same, out_same) refl;
        }

    -- in the cycle of the row, of each port
    record Now (m : ℕ) : Type 0 where
      valid : own.valid m n ≡ (if is_received p m then valid_in (nth_cell (nth_row rows n) m) else driven_by (slice_get (cells_shown full n 0 p.ports) m))
      ack : own.ack m n ≡ (if is_received p m then driven_by (slice_get (cells_shown full n 0 p.ports) m) else ack_in (nth_cell (nth_row rows n) m))
      data_at : own.data_at m n ≡ (if is_received p m then data_in (nth_cell (nth_row rows n) m) else data_by (slice_get (cells_shown full n 0 p.ports) m))

    now_within : (m : ℕ) → nat_lt m (length p.ports) ≡ true → Now m
    now_within m within =
        let found : slice_get (cells_shown full n 0 p.ports) m ≡ Some (cell_shown full n m (nth_port p.ports m)) =
        cell_at full n 0 m p.ports (grind (arith, nat_tests)) ∙ ap (λ k. Some (cell_shown full n k (nth_port p.ports m))) (from_zero m) in
        record {
          valid = rw (within, found) (valid_by (is_received p m) (nth_port p.ports m).width _ (full.ack m n) (full.valid m n) (full.data_at m n) (on_rows.valid m n));
          ack = rw found (ack_by (is_received p m) (nth_port p.ports m).width _ (full.ack m n) (full.valid m n) (full.data_at m n) (on_rows.ack m n));
          data_at = rw (within, found) (number_by (is_received p m) (nth_port p.ports m).width (full.ack m n) (full.valid m n) _ (full.data_at m n) (on_rows.data_at m n));
        }

    now_past : (m : ℕ) → nat_lt m (length p.ports) ≡ false → Now m
    now_past m past =
        let none = no_cell full n 0 m p.ports (grind (arith, nat_tests)) in
        record {
          valid = rw (past, none.0, none.1) refl;
          ack = rw (none.0, none.1) (on_rows.ack m n none.1);
          data_at = rw (past, none.0, none.1) refl;
        }

    now : (m : ℕ) → Now m
    now m = by_case (nat_lt m (length p.ports)) refl
      where
        by_case : (b : Bool) → nat_lt m (length p.ports) ≡ b → Now m
        by_case true within = now_within m within
        by_case false past = now_past m past

    here : SameWires own (wires_seen p (take n rows ++ row ∷ []) (outs ++ out ∷ [])) n
    here =
        let so_far = long in
        let count = shows.together in
        let row_same : nth_row (take n rows ++ row ∷ []) n ≡ nth_row rows n = same_row n (omega arith) in
        let out_same : nth_out (outs ++ out ∷ []) n ≡ cells_shown full n 0 p.ports = out_here outs out n (omega (arith, so_far, count)) ∙ cells in
        record {
          valid = λ m. rw (row_same, out_same) ((now m).valid);
          ack = λ m. rw (row_same, out_same) ((now m).ack);
          data_at = λ m. rw (row_same, out_same) ((now m).data_at);
        }

    pub shows_more : ShowsRows p own (take n rows ++ row ∷ []) (outs ++ out ∷ [])
    shows_more =
        let so_far = long in
        let count = one_more (take n rows) row in
        let outs_count = one_more outs out in
        let together = shows.together in
        let all_count = on_rows.count in
        record {
          long = omega (arith, so_far, count, inside, all_count);
          together = omega (arith, count, outs_count, together);
          same = λ t less. at_or_before t (omega (arith, less, count, so_far));
        }
      where
        at_or_before : (t : ℕ) → t < n + 1 → SameWires own (wires_seen p (take n rows ++ row ∷ []) (outs ++ out ∷ [])) t
        at_or_before t less = elim (cases_order t n) [
          | inl same ↦ subst (SameWires own (wires_seen p (take n rows ++ row ∷ []) (outs ++ out ∷ []))) (sym same) here
          | inr (inl earlier) ↦ before t earlier
          | inr (inr later) ↦ absurd (omega (arith, less, later))
        ]

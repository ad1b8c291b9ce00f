-- One cycle of a run with a watch beside it, and the lines so far.
--
-- The claim: where the watch stands after the rows so far, it stands after one row more, the line of the cycle is that of the
-- run, and the first broken promise that the watch tells is that of the run. The argument: the watch has seen the wires of the
-- ports, which tell the same as those of the run.
use Rattle.std.proofs.Common.{◌≡◌, ◌∙◌, ℕ, zero, suc, ◌+◌, ◌<◌, true, List, [], ◌∷◌, ◌++◌, append_assoc, append-nil, length, get_or, take, refl, ap, sym, subst, arith}
use Rattle.std.specs.Prelude.{IsTrue}
use Rattle.std.specs.List.{All}
use Rattle.core_term.specs.declared.rows.OutRow.{OutRow}
use Rattle.core_term.specs.declared.rows.Row.{Row}
use Rattle.core_term.specs.Breach.{IsFirstBreach}
use Rattle.core_term.specs.LogText.{log_line, log_text}
use Rattle.core_term.specs.Process.{Port, Process}
use Rattle.core_term.specs.Rows.{row_fits, cells_fit, nth_row, cells_shown}
use Rattle.core_term.specs.Wires.{Wires}
use Rattle.stim_text.specs.Seen.{ShowsRows}
use Rattle.stim_text.specs.Watching.{StandsAfter, Watching, out_cells_fit}
use Rattle.run_log.specs.Log.{IsKeptTo, log_to}
use Rattle.run_log.specs.OnRows.{IsOnRows}
use Rattle.run_log.specs.Ports.{port_wires}
use Rattle.run_log.specs.Running.{Standing}
use Rattle.run_log.specs.Shown.{Shown}
use Rattle.run_log.proofs.PortWires.{promises_full, breach_full, same_line}
use Rattle.run_log.proofs.RowsTaken.{taken_long, more, long, shown_fit, shows_more}

module _ (p : Process) (seen : Shown) (rows : List Row) (n : ℕ) (row : Row) (inside : n < length rows) (is : row ≡ get_or rows n row)
    (w : Watching) (out : OutRow) (standing : Standing p seen rows n w)
    (cells : out.cells.items ≡ cells_shown seen.wires n 0 p.ports) where
  pub out_fits : IsTrue (out_cells_fit p.ports out.cells.items)
  out_fits = rw cells (shown_fit seen.wires n 0 p.ports)

  pub shows : ShowsRows p (port_wires p seen.wires) (take n rows ++ row ∷ []) (standing.outs ++ out ∷ [])
  shows = shows_more rows n row inside is p seen standing.on_rows standing.outs out standing.shows cells

  module _ (after : Watching) (watched : StandsAfter p (take n rows ++ row ∷ []) (standing.outs ++ out ∷ []) after) where
    pub kept_now : IsKeptTo p seen (n + 1)
    kept_now = λ t less.
        let taken = ap length (more rows n row inside is) in
        let count : length (take (n + 1) rows) ≡ n + 1 = taken_more in
        promises_full p rows seen standing.on_rows standing.fit t
        ((watched.stands (port_wires p seen.wires) shows).kept t (omega (arith, less, taken, count)))
      where
        taken_more : length (take (n + 1) rows) ≡ n + 1
        taken_more = taken_long rows (n + 1) (omega (arith, inside))

    pub stands_now : Standing p seen rows (n + 1) after
    stands_now = record {
      fit = standing.fit;
      on_rows = standing.on_rows;
      outs = standing.outs ++ out ∷ [];
      watched = subst (λ taken. StandsAfter p taken (standing.outs ++ out ∷ []) after) (sym (more rows n row inside is)) watched;
      shows = subst (λ taken. ShowsRows p (port_wires p seen.wires) taken (standing.outs ++ out ∷ [])) (sym (more rows n row inside is)) shows;
    }

  pub line_now : log_line p (port_wires p seen.wires) seen.registers (length (take n rows)) ≡ log_line p seen.wires seen.registers n
  line_now =
      ap (log_line p (port_wires p seen.wires) seen.registers) (long rows n row inside is)
      ∙ same_line p rows seen standing.on_rows standing.fit seen.registers n

  pub breach_now : (port : ℕ)
      → ((wires : Wires) → ShowsRows p wires (take n rows ++ row ∷ []) (standing.outs ++ out ∷ []) → IsFirstBreach p wires (length (take n rows)) port)
      → IsFirstBreach p seen.wires n port
  breach_now port first =
      breach_full p rows seen standing.on_rows standing.fit n port
      (subst (λ t. IsFirstBreach p (port_wires p seen.wires) t port) (long rows n row inside is) (first (port_wires p seen.wires) shows))

-- Lines.

line_behind : (p : Process) (seen : Wires) (registers : ℕ → ℕ → ℕ) (t n : ℕ) → log_text p seen registers t (suc n) ≡ log_text p seen registers t n ++ log_line p seen registers (t + n)
line_behind p seen registers t zero =
    let same : t ≡ t + 0 = omega arith in
    append-nil (log_line p seen registers t) ∙ ap (log_line p seen registers) same
line_behind p seen registers t (suc n) =
    let same : (t + 1) + n ≡ t + suc n = omega arith in
    ap (λ rest. log_line p seen registers t ++ rest) (line_behind p seen registers (t + 1) n ∙ ap (λ k. log_text p seen registers (t + 1) n ++ log_line p seen registers k) same)
    ∙ sym (append_assoc (log_line p seen registers t) (log_text p seen registers (t + 1) n) (log_line p seen registers (t + suc n)))

pub log_more : (p : Process) (shown : Shown) (n : ℕ) → log_to p shown (n + 1) ≡ log_to p shown n ++ log_line p shown.wires shown.registers n
log_more p shown n =
    let later : n + 1 ≡ suc n = omega arith in
    let from_zero : 0 + n ≡ n = omega arith in
    ap (log_to p shown) later
    ∙ (line_behind p shown.wires shown.registers 0 n ∙ ap (λ k. log_to p shown n ++ log_line p shown.wires shown.registers k) from_zero)

-- Before the first row.

nth_fits : (ports : List Port) (rows : List Row) → All (λ row. IsTrue (row_fits ports row)) rows → (t : ℕ) → t < length rows → cells_fit ports (nth_row rows t) ≡ true
nth_fits ports [] all t less = absurd (omega arith)
nth_fits ports (row ∷ rows) all zero less = all 0 row less
nth_fits ports (row ∷ rows) all (suc t) less = nth_fits ports rows (λ i default inside. all (suc i) default (omega arith)) t (omega arith)

pub starts : (p : Process) (shown : Shown) (rows : List Row) (w : Watching) → All (λ row. IsTrue (row_fits p.ports row)) rows
    → IsOnRows p rows shown → StandsAfter p [] [] w → Standing p shown rows 0 w
starts p shown rows w all on_rows watched = record {
  fit = nth_fits p.ports rows all;
  on_rows = on_rows;
  outs = [];
  watched = watched;
  shows = record { long = omega arith; together = refl; same = λ t less. absurd (omega arith) };
}

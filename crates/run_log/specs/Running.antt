-- A watch beside a run of a process, after the first n of some rows.
use Rattle.std.specs.Prelude.{ℕ, ◌≡◌, ◌+◌, ◌<◌, ◌≤◌, true, List, length, take, Option, Result, MatchResult}
use Rattle.std.specs.Io.KnownBytes.{Appends}
use Rattle.anvil_io.specs.Causes.{AppendsPrefix, Rose}
use Rattle.anvil_io.specs.declared.outside.SinkFault.{SinkFault}
use Rattle.core_term.specs.declared.rows.OutRow.{OutRow}
use Rattle.core_term.specs.declared.rows.Row.{Row}
use Rattle.core_term.specs.Breach.{IsFirstBreach}
use Rattle.core_term.specs.LogText.{log_line}
use Rattle.core_term.specs.Process.{Process}
use Rattle.core_term.specs.Rows.{cells_fit, nth_row}
use Rattle.stim_text.specs.declared.seen.Seen.{Seen}
use Rattle.stim_text.specs.declared.seen.Seen.TheVariants.{Kept, Broken}
use Rattle.stim_text.specs.Seen.{ShowsRows}
use Rattle.stim_text.specs.Watching.{StandsAfter, Watching}
use Rattle.run_log.specs.Log.{IsKeptTo, IsNothing}
use Rattle.run_log.specs.OnRows.{IsOnRows}
use Rattle.run_log.specs.Ports.{port_wires}
use Rattle.run_log.specs.Shown.{Shown}

-- the watch stands after the rows, and has seen the outputs of the run
pub record Standing (p : Process) (shown : Shown) (rows : List Row) (n : ℕ) (w : Watching) : Type 0 where
  pub fit : (t : ℕ) → t < length rows → cells_fit p.ports (nth_row rows t) ≡ true
  pub on_rows : IsOnRows p rows shown
  pub outs : List OutRow
  pub watched : StandsAfter p (take n rows) outs w
  pub shows : ShowsRows p (port_wires p shown.wires) (take n rows) outs

-- what the cycle of the number n leaves: where its promises are kept, its line was put
abbrev pub IsCycle :
    Process → Shown → List Row → ℕ → Seen → Watching → (old new : Option (List ℕ)) (before now : ℕ) → Type 0
IsCycle p shown rows n Kept w old new before now =
    Standing p shown rows (n + 1) w × IsKeptTo p shown (n + 1)
    × Appends old new (log_line p shown.wires shown.registers n) × (now ≡ before)
IsCycle p shown rows n (Broken port) w old new before now =
    IsFirstBreach p shown.wires n port × IsNothing old new before now

-- and where the put failed
pub record IsCutCycle (p : Process) (shown : Shown) (n : ℕ) (old new : Option (List ℕ)) (before now : ℕ) : Type 0 where
  pub kept : IsKeptTo p shown (n + 1)
  pub part : AppendsPrefix old new (log_line p shown.wires shown.registers n)
  pub cause : Rose before now
  pub later : before ≤ now

abbrev pub TakesCycle :
    Process → Shown → List Row → ℕ → Result Seen SinkFault → Watching
    → (old new : Option (List ℕ)) (before now : ℕ) → Type 0
TakesCycle p shown rows n result w old new before now =
    MatchResult result (λ seen. IsCycle p shown rows n seen w old new before now)
    (λ fault. IsCutCycle p shown n old new before now)

-- The run and the watch stand after the rows so far, and their lines were put.
use Rattle.std.specs.Io.KnownBytes.{Appends}
use Rattle.std.proofs.Common.{◌≡◌}
use Rattle.core_term.specs.ProcessView.{process_of}
use Rattle.run_log.specs.Log.{IsKeptTo, log_to}
use Rattle.run_log.specs.OnRows.{IsOnRows}
use Rattle.run_log.specs.Places.{HasPlaces, IsWatched}
use Rattle.run_log.specs.Running.{Standing}
use Rattle.run_log.specs.Shown.{Shown}
use Rattle.run_log.proofs.log.put_lines.Given as goal

abbrev pub invariant-loop-index : goal.invariant-loop-index
invariant-loop-index g l =
    (g.R.Run.process l.run ≡ process_of l.fn.proc.name l.fn.proc.ports.items l.fn.proc.regs.items l.fn.proc.threads.items)
    × g.R.Run.is_ready l.run
    × IsWatched (process_of l.fn.proc.name l.fn.proc.ports.items l.fn.proc.regs.items l.fn.proc.threads.items) l.watch
    × HasPlaces (process_of l.fn.proc.name l.fn.proc.ports.items l.fn.proc.regs.items l.fn.proc.threads.items) l.shown
    × ((seen : Shown) → IsOnRows (process_of l.fn.proc.name l.fn.proc.ports.items l.fn.proc.regs.items l.fn.proc.threads.items) l.fn.rows seen
    → g.R.Run.stands l.fn.run l.fn.rows seen 0
    → g.R.Run.stands l.run l.fn.rows seen l.index
    × Standing (process_of l.fn.proc.name l.fn.proc.ports.items l.fn.proc.regs.items l.fn.proc.threads.items) seen l.fn.rows l.index l.watch
    × IsKeptTo (process_of l.fn.proc.name l.fn.proc.ports.items l.fn.proc.regs.items l.fn.proc.threads.items) seen l.index
    × Appends (g.O.Sink.held l.fn.out) (g.O.Sink.held l.out) (log_to (process_of l.fn.proc.name l.fn.proc.ports.items l.fn.proc.regs.items l.fn.proc.threads.items) seen l.index)
    × (g.O.Sink.faults l.out ≡ g.O.Sink.faults l.fn.out))

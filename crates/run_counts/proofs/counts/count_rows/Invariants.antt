-- The machine stands after the rows so far, and their exchanges and the registers of the last one were counted.
use Rattle.std.proofs.Common.{◌≡◌, ◌≤◌, ◌*◌, ◌^◌}
use Rattle.core_term.specs.Limits.{most_ports, most_registers}
use Rattle.core_term.specs.ProcessView.{process_of}
use Rattle.module_log.specs.Stands.{IsMachineOf, StandsBefore}
use Rattle.run_log.specs.Places.{HasPlaces}
use Rattle.run_log.specs.Shown.{Shown}
use Rattle.run_counts.specs.Counts.{exchanges_in, registers_last}
use Rattle.run_counts.proofs.counts.count_rows.Given as goal

abbrev pub invariant-loop-index : goal.invariant-loop-index
invariant-loop-index l =
    IsMachineOf (process_of l.fn.proc.name l.fn.proc.ports.items l.fn.proc.regs.items l.fn.proc.threads.items) l.machine
    × HasPlaces (process_of l.fn.proc.name l.fn.proc.ports.items l.fn.proc.regs.items l.fn.proc.threads.items) l.shown
    × (l.exchanges ≤ most_ports * l.index)
    × (l.registers ≤ most_registers * 2 ^ 64)
    × ((seen : Shown)
    → StandsBefore (process_of l.fn.proc.name l.fn.proc.ports.items l.fn.proc.regs.items l.fn.proc.threads.items) l.fn.machine l.fn.rows seen 0
    → StandsBefore (process_of l.fn.proc.name l.fn.proc.ports.items l.fn.proc.regs.items l.fn.proc.threads.items) l.machine l.fn.rows seen l.index
    × (l.exchanges ≡ exchanges_in (process_of l.fn.proc.name l.fn.proc.ports.items l.fn.proc.regs.items l.fn.proc.threads.items) seen l.index)
    × (l.registers ≡ registers_last (process_of l.fn.proc.name l.fn.proc.ports.items l.fn.proc.regs.items l.fn.proc.threads.items) seen l.index))

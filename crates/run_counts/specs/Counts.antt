-- What the summary of a run counts: the exchanges of all ports of the process, and the sum of its registers in the last
-- cycle. It is said of whatever is seen of a run, so alike of a source run and of a module.
use Rattle.std.specs.Prelude.{ℕ, ◌+◌, ◌*◌, ◌^◌, ◌≤◌, ◌&&◌, Bool, List, [], ◌∷◌, zero, suc}
use Rattle.std.specs.List.{sum_by}
use Rattle.anvil_bits.specs.Number.{Number}
use Rattle.anvil_bits.specs.Operators.{truth}
use Rattle.core_term.specs.Limits.{most_ports, most_registers}
use Rattle.core_term.specs.Process.{Port, Process}
use Rattle.core_term.specs.Rows.{registers_shown}
use Rattle.run_log.specs.Shown.{Shown}
use Rattle.stim_text.specs.Answers.{most_rows}
use Rattle.run_counts.specs.declared.counts.Counts.{Counts}

-- `valid` and `ack` of the port m are both 1 in cycle t
abbrev pub is_exchange : Shown → (m t : ℕ) → Bool
is_exchange shown m t = shown.wires.valid m t && shown.wires.ack m t

-- how many ports of a list, numbered from m on, have an exchange in cycle t
abbrev pub exchanges_at : Shown → (t m : ℕ) → List Port → ℕ
exchanges_at shown t m [] = 0
exchanges_at shown t m (port ∷ ports) = truth (is_exchange shown m t) + exchanges_at shown t (m + 1) ports

-- how many pairs of a port and one of the first n cycles have an exchange
abbrev pub exchanges_in : Process → Shown → (n : ℕ) → ℕ
exchanges_in p shown zero = 0
exchanges_in p shown (suc n) = exchanges_in p shown n + exchanges_at shown n 0 p.ports

abbrev pub shown_value : Number → ℕ
shown_value number = number.value

-- the sum of what the registers show in cycle t
abbrev pub registers_at : Process → Shown → (t : ℕ) → ℕ
registers_at p shown t = sum_by shown_value (registers_shown shown.registers t 0 p.registers)

-- in the last of the first n cycles; 0 where there is none
abbrev pub registers_last : Process → Shown → (n : ℕ) → ℕ
registers_last p shown zero = 0
registers_last p shown (suc t) = registers_at p shown t

-- of the first n cycles
abbrev pub counts_of : Process → Shown → (n : ℕ) → Counts
counts_of p shown n = record { exchanges = exchanges_in p shown n; registers = registers_last p shown n }

-- the greatest counts: an exchange of each port in each row, and the greatest number in each register
abbrev pub most_exchanges : ℕ
most_exchanges = most_ports * most_rows

abbrev pub AreFew : Counts → Type 0
AreFew counts = (counts.exchanges ≤ most_exchanges) × (counts.registers ≤ most_registers * 2 ^ 64)

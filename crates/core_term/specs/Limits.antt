-- The limits that a core process keeps.
use Rattle.std.specs.Prelude.{ℕ}
-- the most bits of a number
pub use Rattle.anvil_bits.specs.Number.{widest}

-- the most cycles of a `cycle` and of a life that has a number
abbrev pub longest_delay : ℕ
longest_delay = 65535

-- the most acts of a thread, and nodes of an expression
abbrev pub most_acts : ℕ
most_acts = 512

abbrev pub most_nodes : ℕ
most_nodes = 256

-- the most threads, registers and ports of a process
abbrev pub most_threads : ℕ
most_threads = 16

abbrev pub most_registers : ℕ
most_registers = 64

abbrev pub most_ports : ℕ
most_ports = 64

-- the most ends of a life
abbrev pub most_ends : ℕ
most_ends = 8

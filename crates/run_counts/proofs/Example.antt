-- The counts of a tiny run, worked out by hand: a received and a sent port, and two registers, over three cycles.
--
-- `valid` is always 1. The received port has `ack` in cycle 0 alone, the other one in cycle 1 alone. The registers show t and
-- t + 10 in cycle t. So there are two exchanges, one of each port, and in the last cycle the registers show 2 and 12.
use Rattle.std.proofs.Common.{◌≡◌, ◌+◌, ◌*◌, ◌∷◌, ℕ, Bool, true, false, [], refl}
use Rattle.std.specs.Prelude.{◌==◌}
use Rattle.core_term.specs.Process.{Port, Process, Register}
use Rattle.run_log.specs.Shown.{Shown}
use Rattle.run_counts.specs.declared.counts.Counts.{Counts}
use Rattle.run_counts.specs.Counts.{counts_of}

abbrev port : (received : Bool) → Port
port received = record { endpoint = []; message = []; received = received; width = 8; life = [] }

abbrev register : Register
register = record { name = []; width = 8; reset = 0 }

abbrev process : Process
process = record { name = []; ports = port true ∷ port false ∷ []; registers = register ∷ register ∷ []; threads = [] }

abbrev seen : Shown
seen = record {
  wires = record { count = 3; valid = λ m t. true; ack = λ m t. m == t; data_at = λ m t. 0 };
  registers = λ t r. t + 10 * r;
}

abbrev counted : (exchanges registers : ℕ) → Counts
counted exchanges registers = record { exchanges = exchanges; registers = registers }

pub three_cycles : counts_of process seen 3 ≡ counted 2 14
three_cycles = refl

pub one_cycle : counts_of process seen 1 ≡ counted 1 10
one_cycle = refl

pub no_cycle : counts_of process seen 0 ≡ counted 0 0
no_cycle = refl

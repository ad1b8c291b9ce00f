-- What a module shows of a process in each cycle, by its clocked meaning: the registers of the source and all wires.
use Rattle.std.specs.Prelude.{
  ℕ,
  ◌==◌,
  nat_lt,
  if◌then◌else◌,
  Bool,
  false,
  length,
  Option,
  Some,
  None,
  slice_get,
  slice_index,
}
use Rattle.core_term.specs.Inputs.{Inputs}
use Rattle.core_term.specs.Process.{Process, is_received}
use Rattle.core_term.specs.Wires.{Wires}
use Rattle.core_term.specs.Reread.{Reread}
use Rattle.sv_tree.specs.Module.{Module}
use Rattle.sv_tree.specs.Clocked.{Output, received, sent, registers_at, outputs_at}

-- the registers of the source stand first in the module; past them nothing is shown
abbrev pub shown_registers : Process → Module → Inputs → (cycle register : ℕ) → ℕ
shown_registers p tree inputs cycle register =
    if nat_lt register (length p.registers) then slice_index (registers_at tree inputs cycle) register else 0

-- what the output of a port shows, which is there for each port of a well-formed module of the process
abbrev pub ack_of : Option Output → Bool
ack_of None = false
ack_of (Some (received ack)) = ack == 1
ack_of (Some (sent value valid)) = false

abbrev pub valid_of : Option Output → Bool
valid_of None = false
valid_of (Some (received ack)) = false
valid_of (Some (sent value valid)) = valid == 1

abbrev pub data_of : Option Output → ℕ
data_of None = 0
data_of (Some (received ack)) = 0
data_of (Some (sent value valid)) = value

-- the wires of all ports: what comes in, and what the module puts out
abbrev pub shown_wires : Process → Module → Inputs → Wires
shown_wires p tree inputs = record {
  count = inputs.count;
  valid = λ port cycle. if is_received p port
      then inputs.valid port cycle
      else valid_of (slice_get (outputs_at tree inputs cycle) port);
  ack = λ port cycle. if is_received p port
      then ack_of (slice_get (outputs_at tree inputs cycle) port)
      else inputs.ack port cycle;
  data_at = λ port cycle. if is_received p port
      then inputs.data_at port cycle
      else data_of (slice_get (outputs_at tree inputs cycle) port);
}

-- as a run, with decisions and sides, which no wire shows
abbrev pub shown_run : Process → Module → Inputs → (decision side : (thread site cycle : ℕ) → Bool) → Reread
shown_run p tree inputs decision side = record {
  registers = shown_registers p tree inputs;
  decision = decision;
  side = side;
  wires = shown_wires p tree inputs;
}

-- Wires of the ports that a process has: those of any other number carry nothing.
use Rattle.std.specs.Prelude.{◌&&◌, if◌then◌else◌, nat_lt, length}
use Rattle.core_term.specs.Process.{Process}
use Rattle.core_term.specs.Wires.{Wires}

abbrev pub port_wires : Process → Wires → Wires
port_wires p wires = record {
  count = wires.count;
  valid = λ m t. nat_lt m (length p.ports) && wires.valid m t;
  ack = wires.ack;
  data_at = λ m t. if nat_lt m (length p.ports) then wires.data_at m t else 0;
}

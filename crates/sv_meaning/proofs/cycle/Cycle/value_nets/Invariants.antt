use Rattle.std.proofs.Common.{◌≡◌, [], map, take, vec_capacity, vec_len}
use Rattle.sv_tree.specs.Clocked.{net_values_after}
use Rattle.sv_meaning.specs.Cycle.{in_cells, values, widths}
use Rattle.sv_meaning.proofs.cycle.Cycle.value_nets.Given as goal

abbrev pub invariant-loop-net : goal.invariant-loop-net
invariant-loop-net l = record {
  valued : values l.nets.items ≡ net_values_after l.self.module.now (in_cells l.self.cells.now) 0 (values l.self.registers.now) [] (take l.net-index l.net-items);
  wide : widths l.nets.items ≡ map (λ net. net.width) (take l.net-index l.net-items);
  count : vec_len l.nets ≡ l.net-index;
  room : vec_capacity l.nets ≡ vec_capacity l.fn.nets;
}

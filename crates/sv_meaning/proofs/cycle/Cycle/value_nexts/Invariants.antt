use Rattle.std.proofs.Common.{◌≡◌, map, take, vec_capacity, vec_len}
use Rattle.sv_meaning.specs.Cycle.{operand_in}
use Rattle.sv_meaning.proofs.cycle.Cycle.value_nexts.Given as goal

abbrev pub invariant-loop-next : goal.invariant-loop-next
invariant-loop-next l = record {
  valued : l.nexts.items ≡ map (operand_in l.self l.nets) (take l.next-index l.next-items);
  count : vec_len l.nexts ≡ l.next-index;
  room : vec_capacity l.nexts ≡ vec_capacity l.fn.nexts;
}

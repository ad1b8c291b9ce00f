use Rattle.std.proofs.Common.{◌≡◌, map, take, length}
use Rattle.sv_meaning.specs.Cycle.{out_in}
use Rattle.sv_meaning.proofs.cycle.Cycle.show_outs.Given as goal

abbrev pub invariant-loop-index : goal.invariant-loop-index
invariant-loop-index l = record {
  shown : take l.index l.cells ≡ map (out_in l.self l.nets) (take l.index l.out-items);
  count : length l.cells ≡ length l.fn.cells;
}

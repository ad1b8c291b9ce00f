use Rattle.std.proofs.Common.{◌≡◌, take, length}
use Rattle.sv_meaning.proofs.machine.show_sources.Given as goal

abbrev pub invariant-loop-index : goal.invariant-loop-index
invariant-loop-index l = record {
  shown : take l.index l.shown ≡ take l.index l.numbers;
  count : length l.shown ≡ length l.fn.shown;
}

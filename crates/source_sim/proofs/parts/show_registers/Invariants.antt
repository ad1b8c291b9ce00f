-- The registers so far are shown.
use Rattle.std.proofs.Common.{◌≡◌, take}
use Rattle.source_sim.proofs.parts.show_registers.Given as goal

abbrev pub invariant-loop-index : goal.invariant-loop-index
invariant-loop-index l = take l.index l.shown ≡ take l.index l.numbers

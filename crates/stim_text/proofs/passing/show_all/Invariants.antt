-- The ports so far are found.
use Rattle.std.proofs.Common.{◌≡◌, take}
use Rattle.stim_text.specs.Passing.{all_show}
use Rattle.stim_text.proofs.passing.show_all.Given as goal

abbrev pub invariant-loop-index : goal.invariant-loop-index
invariant-loop-index l = take l.index l.shown ≡ take l.index (all_show l.cells l.outs l.latests)

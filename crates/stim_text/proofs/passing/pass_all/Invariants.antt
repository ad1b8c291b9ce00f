-- The latest exchanges so far are those of the next cycle, the others are as they were, and the ends so far are numbers of the code.
use Rattle.std.proofs.Common.{◌≡◌, ℕ, ◌<◌, take, drop, List, Some}
use Rattle.std.specs.List.{slice_get}
use Rattle.core_term.specs.Process.{LifeEnd}
use Rattle.exchanges.specs.Next.{Bounded}
use Rattle.stim_text.specs.Passing.{all_next}
use Rattle.stim_text.proofs.passing.pass_all.Given as goal

abbrev pub invariant-loop-index : goal.invariant-loop-index
invariant-loop-index l = record {
  done : take l.index l.latests ≡ take l.index (all_next l.exchanged l.exchanged l.lives l.cells l.outs l.fn.latests);
  rest : drop l.index l.latests ≡ drop l.index l.fn.latests;
  bounded : (port : ℕ) (life : List LifeEnd) → port < l.index → slice_get l.lives port ≡ Some life → Bounded life;
}

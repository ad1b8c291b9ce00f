use Rattle.std.proofs.Common.{◌≡◌, length}
use Rattle.anvil_lexer.specs.GoodName.{ends_with_underscore}
use Rattle.anvil_lexer.proofs.good_name.ends_with_underscore.Given as goal

abbrev pub invariant-loop-rest : goal.invariant-loop-rest
invariant-loop-rest l = ends_with_underscore l.rest ≡ ends_with_underscore l.fn.name

abbrev pub decreases-loop-rest : goal.decreases-loop-rest
decreases-loop-rest l = length l.rest

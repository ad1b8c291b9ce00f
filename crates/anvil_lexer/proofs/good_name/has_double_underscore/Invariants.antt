use Rattle.std.proofs.Common.{◌≡◌, length}
use Rattle.anvil_lexer.specs.GoodName.{has_double_underscore}
use Rattle.anvil_lexer.proofs.good_name.has_double_underscore.Given as goal

abbrev pub invariant-loop-rest : goal.invariant-loop-rest
invariant-loop-rest l = has_double_underscore l.rest ≡ has_double_underscore l.fn.name

abbrev pub decreases-loop-rest : goal.decreases-loop-rest
decreases-loop-rest l = length l.rest

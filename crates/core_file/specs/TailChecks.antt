-- The checks that a body is tail-stepped, in the order of its failures: the end of a turn takes at least a cycle,
-- every `send` and `recv` of a turn ends before it, and nothing is bound by a `let` that begins with the rest of its
-- chain.
use Rattle.std.specs.Prelude.{ℕ, false, [], ◌∷◌, ◌++◌, Some, None}
use Rattle.anvil_tree.specs.Tree as tree
use Rattle.anvil_tree.specs.Places.{place_of_act}
use Rattle.first_check.specs.Check.{must}
use Rattle.core_file.specs.declared.error.NameErr.TheVariants.{NotTail}
use Rattle.core_file.specs.Refused.{Checks}

-- the act at the place cannot end a turn
abbrev pub fails_at : ℕ → Checks
fails_at at = must false (NotTail at) ∷ []

abbrev mutual
  pub tail_checks : tree.Term → Checks
  tail_checks (tree.single act) = tail_checks_in act
  tail_checks (tree.follow bound act rest) = tail_checks rest
  tail_checks (tree.beside None act rest) = tail_checks_in act ++ tail_checks rest
  tail_checks (tree.beside (Some name) act rest) = fails_at (place_of_act act)

  pub tail_checks_in : tree.Act → Checks
  tail_checks_in (tree.cycle at count count_at) = []
  tail_checks_in (tree.set at register register_at value) = []
  tail_checks_in (tree.either at condition first second) = tail_checks first ++ tail_checks second
  tail_checks_in (tree.block at body) = tail_checks body
  tail_checks_in (tree.send at endpoint endpoint_at message message_at value) = fails_at at
  tail_checks_in (tree.receive at endpoint endpoint_at message message_at) = fails_at at
  tail_checks_in (tree.when at condition first) = fails_at at
  tail_checks_in (tree.pure at expr) = fails_at at

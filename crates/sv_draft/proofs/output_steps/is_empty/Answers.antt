use Rattle.std.proofs.Common.{◌≡◌, ◌<◌, ◌≤◌, List, [], ◌∷◌, length, true, false, refl, arith}
use Rattle.sv_lines.specs.Step.{is_empty}
use Rattle.sv_draft.proofs.output_steps.is_empty.Goals as goal

none : {X : Type 0} (items : List X) → length items < 1 → true ≡ is_empty items
none [] below = refl
none (item ∷ items) below = absurd (omega (arith, below))

some : {X : Type 0} (items : List X) → 1 ≤ length items → false ≡ is_empty items
some [] least = absurd (omega (arith, least))
some (item ∷ items) least = refl

pub returns-in-empty : goal.returns-in-empty
returns-in-empty g c = none c.args.items.now c.in-empty.len_below

pub returns-in-len1-up : goal.returns-in-len1-up
returns-in-len1-up g c = some c.args.items.now c.in-len1-up.len_at_least

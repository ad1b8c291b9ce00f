-- That the log text shows the data of a sent port exactly where it counts.
use Rattle.std.specs.Prelude.{ℕ, ◌≡◌, true, List}
use Rattle.core_term.specs.Process.{LifeEnd}
use Rattle.core_term.specs.Wires.{Wires}
use Rattle.core_term.specs.Agreement.{Shows}
use Rattle.core_term.specs.LogText.{is_shown}

-- The test of the log text holds exactly where the port is offered or in the life of one of its exchanges.
abbrev pub ShownTells : Type 0
ShownTells =
    (wires : Wires) (life : List LifeEnd) (m t : ℕ)
    → (is_shown wires life m t ≡ true → Shows wires life m t) × (Shows wires life m t → is_shown wires life m t ≡ true)

-- How many nodes the graph of a body has.
use Rattle.std.specs.Prelude.{◌+◌, ◌*◌, ◌≤◌, length}
use Rattle.core_term.specs.Term.{Term}
use Rattle.core_term.specs.Numbering.{size}
use Rattle.event_points.specs.Nodes.{once, twice}

-- Less than three an act and turn, and one for the start.
abbrev pub GraphsAreSmall : Type 0
GraphsAreSmall = (body : Term) → (length (once body) + 1 ≤ 3 * size body) × (length (twice body) + 3 ≤ 6 * size body)

-- The ends of a life over the graph of two turns, as the code makes them, for one more end of the life.
use Rattle.std.specs.Prelude.{ℕ, ◌≡◌, List, [], ◌∷◌, ◌++◌}
use Rattle.core_term.specs.Term.{Term}
use Rattle.core_term.specs.Process.{LifeEnd}
use Rattle.event_points.specs.Nodes.{node_of}
use Rattle.event_points.specs.Endings.{ends_at, endings}
use Rattle.lifetimes.specs.declared.life.End.{End}
use Rattle.lifetimes.specs.Ends.{endings_of}

-- the new ends are the old ones and those of one more end of a life
abbrev pub AddsEnd : Term → LifeEnd → List End → List End → Type 0
AddsEnd body end old new = endings_of new ≡ endings_of old ++ endings body (node_of body) (end ∷ [])

-- the new ends are the old ones and those at the acts of these sites, in both turns
abbrev pub AddsActs : Term → List ℕ → List End → List End → Type 0
AddsActs body sites old new = endings_of new ≡ endings_of old ++ ends_at (node_of body) sites

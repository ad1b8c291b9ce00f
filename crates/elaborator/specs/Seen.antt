-- The nodes of the begins and ends that an elaboration gives, by turn and site.
use Rattle.std.specs.Prelude.{ℕ, ◌==◌, if◌then◌else◌, slice_get, Option, Some, None}
use Rattle.core_term.specs.Term.{Term}
use Rattle.core_term.specs.Points.{Spot, Begin, End}
use Rattle.event_points.specs.Owned.{begin_of, end_of}
use Rattle.elaborator.specs.declared.points.Points.{Points}
use Rattle.elaborator.specs.declared.turn.Turn.{Turn}
use Rattle.elaborator.specs.declared.elab.Elab.{Elab}

-- the turn of a number, where it was elaborated
abbrev pub turn_in : Elab → ℕ → Option Turn
turn_in elab turn = if turn == 2 then elab.second else (if turn == 1 then Some elab.first else None)

abbrev pub acts_of : Option Turn → ℕ → Option Points
acts_of None site = None
acts_of (Some turn) site = slice_get turn.acts.items site

abbrev pub body_of : Option Turn → Option Points
body_of None = None
body_of (Some turn) = Some turn.body

-- the nodes of the act of a site, where the turn was elaborated and the thread has the site
abbrev pub points_in : Elab → ℕ → ℕ → Option Points
points_in elab turn site = acts_of (turn_in elab turn) site

-- the nodes of the body, where the turn was elaborated
abbrev pub body_in : Elab → ℕ → Option Points
body_in elab turn = body_of (turn_in elab turn)

-- what they are, from the nodes of all points of a turn
abbrev pub points_at : (Spot → ℕ) → ℕ → Points
points_at node site = record { begin = node (Begin site); end = node (End site) }

abbrev pub body_at : (Spot → ℕ) → Term → Points
body_at node t = record { begin = node (begin_of t); end = node (end_of t) }

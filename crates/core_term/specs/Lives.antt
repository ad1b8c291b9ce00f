-- The order of the last cycle of the life of a sent message against the points of its thread.
use Rattle.std.specs.Prelude.{ℕ, ◌≡◌, ℤ, false, List}
use Rattle.order_rules.specs.Last.{Ending, Within, At, Last}
use Rattle.core_term.specs.Lists.{Has}
use Rattle.core_term.specs.Term.{Term}
use Rattle.core_term.specs.Acts.{ActOn}
use Rattle.core_term.specs.Process.{LifeEnd, Cycles, Until}
use Rattle.core_term.specs.Points.{End}
use Rattle.core_term.specs.Order.{Point, point, HasForm, Exclusive}

-- how a life ends, as the text of the thread shows it: after its cycles, or at the end of an act on an ending port, in
-- either turn
abbrev pub HasEnding : Term → List LifeEnd → Ending Point → Type 0
HasEnding body life (Within n) = Has life (Cycles n)
HasEnding body life (At b) = (m w : ℕ) × Has life (Until m) × ActOn body w m × (b.spot ≡ End w)

-- the last cycle of the life of the exchange that the act of the site q ends, + d, is no later than b
abbrev pub LastPrecedes : Term → List LifeEnd → ℕ → ℤ → Point → Type 0
LastPrecedes body life q = Last Point (HasForm body) (Exclusive body) (HasEnding body life) (point false (End q))

-- When the nodes of a graph occur: each at a cycle or never, given a cycle for each start, a delay or none for each sync, and a
-- side for each `if` of each turn.
use Rattle.std.specs.Prelude.{ℕ, ◌≡◌, ◌+◌, ◌<◌, max, min, Bool, true, false, if◌then◌else◌, List, [], ◌∷◌, length, Option, Some, None}
use Rattle.order_rules.specs.Form.{Form, Start, Same, After, Sync, Join, Side, Merge}
use Rattle.event_graph.specs.declared.node.Arm.{Arm}
use Rattle.event_graph.specs.Event.{Event}
use Rattle.event_graph.specs.Forms.{form_at, arms_at}

-- the cycle of each start, by its node; the delay of each sync, by its node, or none where it never comes; and whether an `if`
-- takes the side where its condition is not 0
pub record Given : Type 0 where
  pub start : ℕ → ℕ
  pub delay : ℕ → Option ℕ
  pub side : (turn site : ℕ) → Bool

abbrev pub plus : ℕ → Option ℕ → Option ℕ
plus cycles None = None
plus cycles (Some t) = Some (t + cycles)

abbrev pub by_delay : Option ℕ → Option ℕ → Option ℕ
by_delay None time = None
by_delay (Some cycles) time = plus cycles time

-- the later of two that both come
abbrev pub later_of : Option ℕ → Option ℕ → Option ℕ
later_of None u = None
later_of (Some t) None = None
later_of (Some t) (Some u) = Some (max t u)

-- the earliest of those that come
abbrev pub earlier_of : Option ℕ → Option ℕ → Option ℕ
earlier_of None u = u
earlier_of (Some t) None = Some t
earlier_of (Some t) (Some u) = Some (min t u)

abbrev pub same_side : Bool → Bool → Bool
same_side true side = side
same_side false true = false
same_side false false = true

-- the last arm is the side that is taken, or there is no arm
abbrev pub is_taken : (ℕ → ℕ → Bool) → List Arm → Bool
is_taken side [] = true
is_taken side (arm ∷ []) = same_side (side arm.turn arm.site) arm.yes
is_taken side (arm ∷ next ∷ rest) = is_taken side (next ∷ rest)

-- the time of the node n with these arms and this form, from the times of its predecessors
abbrev pub time_by : Given → (ℕ → Option ℕ) → ℕ → List Arm → Form ℕ → Option ℕ
time_by given time n arms Start = Some (given.start n)
time_by given time n arms (Same c) = time c
time_by given time n arms (After cycles c) = plus cycles (time c)
time_by given time n arms (Sync c) = by_delay (given.delay n) (time c)
time_by given time n arms (Join c e) = later_of (time c) (time e)
time_by given time n arms (Side c) = if is_taken given.side arms then time c else None
time_by given time n arms (Merge c e) = earlier_of (time c) (time e)

-- these are the times of the nodes
abbrev pub AreTimes : List Event → Given → (ℕ → Option ℕ) → Type 0
AreTimes events given time =
    (n : ℕ) → n < length events → time n ≡ time_by given time n (arms_at events n) (form_at events n)

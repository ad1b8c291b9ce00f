-- The ends of the tail: which ends of a body may fall together with its own end.
--
-- In a turn that ends, each other end comes before the turn's own. A turn begins where the one before has ended, so the
-- machine of a thread has to know the ends of the tail before it knows whether a turn begins.
use Rattle.std.specs.Prelude.{
  ℕ,
  ◌≡◌,
  ◌+◌,
  ◌<◌,
  ◌≤◌,
  ◌==◌,
  nat_lt,
  if◌then◌else◌,
  Bool,
  true,
  false,
  [],
}
use Rattle.core_term.specs.Term.{Term, One, Then, Both, Act, If, Block, site, head}
use Rattle.core_term.specs.Numbering.{act_size, Numbered}
use Rattle.core_term.specs.Points.{Spot, TermBegin, TermEnd, Begin, End, NoSide}

-- by site, whether the end of the act is of the tail, and the end of the term that it heads
pub record TailEnds : Type 0 where
  pub act : (site : ℕ) → Bool
  pub term : (site : ℕ) → Bool

-- no end at a site from low to high is of the tail
abbrev pub NoTailEnds : TailEnds → (low high : ℕ) → Type 0
NoTailEnds ends low high =
    (place : ℕ) → low ≤ place → place < high → (ends.act place ≡ false) × (ends.term place ≡ false)

-- The ends of the tail of a term that ends a turn: its own end; the end of its last act, and what is of the tail in
-- that; of parts that begin together, those of both. What comes before in a chain has none.
abbrev mutual
  pub AreTailEnds : TailEnds → Term → Type 0
  AreTailEnds ends (One act) =
      (ends.term (site act) ≡ true) × (ends.act (site act) ≡ true) × AreTailEndsIn ends act
  AreTailEnds ends (Then act rest) =
      (ends.term (site act) ≡ true) × (ends.act (site act) ≡ false)
      × NoTailEnds ends (site act + 1) (site act + act_size act) × AreTailEnds ends rest
  AreTailEnds ends (Both act rest) =
      (ends.term (site act) ≡ true) × (ends.act (site act) ≡ true) × AreTailEndsIn ends act × AreTailEnds ends rest

  pub AreTailEndsIn : TailEnds → Act → Type 0
  AreTailEndsIn ends (If place condition first second valued) = AreTailEnds ends first × AreTailEnds ends second
  AreTailEndsIn ends (Block place inner) = AreTailEnds ends inner
  AreTailEndsIn ends act = Unit {0}

-- They are read off a body: whether the act of a site stands in the tail, and whether the term that it heads does.
abbrev mutual
  pub is_tail_act : Term → ℕ → Bool
  is_tail_act (One act) place = if place == site act then true else is_tail_act_in act place
  is_tail_act (Then act rest) place = if nat_lt place (site (head rest)) then false else is_tail_act rest place
  is_tail_act (Both act rest) place =
      if nat_lt place (site (head rest))
      then (if place == site act then true else is_tail_act_in act place)
      else is_tail_act rest place

  pub is_tail_act_in : Act → ℕ → Bool
  is_tail_act_in (If p condition first second valued) place =
      if nat_lt place (site (head second)) then is_tail_act first place else is_tail_act second place
  is_tail_act_in (Block p inner) place = is_tail_act inner place
  is_tail_act_in act place = false

abbrev mutual
  pub is_tail_term : Term → ℕ → Bool
  is_tail_term (One act) place = if place == site act then true else is_tail_term_in act place
  is_tail_term (Then act rest) place =
      if nat_lt place (site (head rest)) then place == site act else is_tail_term rest place
  is_tail_term (Both act rest) place =
      if nat_lt place (site (head rest))
      then (if place == site act then true else is_tail_term_in act place)
      else is_tail_term rest place

  pub is_tail_term_in : Act → ℕ → Bool
  is_tail_term_in (If p condition first second valued) place =
      if nat_lt place (site (head second)) then is_tail_term first place else is_tail_term second place
  is_tail_term_in (Block p inner) place = is_tail_term inner place
  is_tail_term_in act place = false

abbrev pub tail_ends : Term → TailEnds
tail_ends body = record { act = is_tail_act body; term = is_tail_term body }

abbrev pub TailEndsAreRead : Type 0
TailEndsAreRead = (body : Term) → Numbered [] 0 body → AreTailEnds (tail_ends body) body

-- whether a point is an end of the tail
abbrev pub is_tail : TailEnds → Spot → Bool
is_tail ends (TermBegin place) = false
is_tail ends (TermEnd place) = ends.term place
is_tail ends (Begin place) = false
is_tail ends (End place) = ends.act place
is_tail ends (NoSide place) = false

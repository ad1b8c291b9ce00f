-- That nodes and arms of points are those of a turn: which number and which arms each point of a term has.
--
-- Both are products by cases on the term, so what is asked of a part of a body is a part of what is asked of the body.
use Rattle.std.specs.Prelude.{ℕ, ◌≡◌, ◌+◌, Bool, true, false, List, [], ◌∷◌, ◌++◌}
use Rattle.core_term.specs.Term.{Term, One, Then, Both, Act, If, When, Block, Pure, Nothing, site}
use Rattle.core_term.specs.Points.{Spot, TermBegin, TermEnd, Begin, End, NoSide}
use Rattle.event_graph.specs.declared.node.Arm.{Arm}
use Rattle.event_points.specs.Owned.{begin_of, end_of, count, count_of}

-- the nodes of the points of a term, whose own nodes have the numbers from `from` on
abbrev mutual
  pub Placed : (Spot → ℕ) → ℕ → Term → Type 0
  Placed node from (One a) =
      (node (Begin (site a)) ≡ node (TermBegin (site a))) × (node (TermEnd (site a)) ≡ node (End (site a))) × PlacedAct node from a
  Placed node from (Then a t) =
      (node (Begin (site a)) ≡ node (TermBegin (site a))) × (node (begin_of t) ≡ node (End (site a)))
      × (node (TermEnd (site a)) ≡ node (end_of t)) × PlacedAct node from a × Placed node (from + count_of a) t
  Placed node from (Both a t) =
      (node (Begin (site a)) ≡ node (TermBegin (site a))) × (node (begin_of t) ≡ node (TermBegin (site a)))
      × (node (TermEnd (site a)) ≡ from + count_of a + count t) × PlacedAct node from a × Placed node (from + count_of a) t

  pub PlacedAct : (Spot → ℕ) → ℕ → Act → Type 0
  PlacedAct node from (If p e t u w) =
      (node (begin_of t) ≡ from) × Placed node (from + 1) t × (node (begin_of u) ≡ from + 1 + count t)
      × Placed node (from + 1 + count t + 1) u × (node (End p) ≡ from + 1 + count t + 1 + count u)
  PlacedAct node from (When p e t) =
      (node (begin_of t) ≡ from) × Placed node (from + 1) t × (node (NoSide p) ≡ from + 1 + count t)
      × (node (End p) ≡ from + 1 + count t + 1)
  PlacedAct node from (Block p t) =
      (node (begin_of t) ≡ node (Begin p)) × (node (End p) ≡ node (end_of t)) × Placed node from t
  PlacedAct node from (Pure p e) = node (End p) ≡ node (Begin p)
  PlacedAct node from (Nothing p) = node (End p) ≡ node (Begin p)
  PlacedAct node from a = node (End (site a)) ≡ from

-- the side of an `if` that is taken where its condition is not 0, or the other, in a turn
abbrev pub arm : (turn site : ℕ) → Bool → Arm
arm turn p taken = record { turn = turn; site = p; yes = taken }

-- the points of an act, and of the term that it heads, lie in these sides
pub record HeadLies (arms : Spot → List Arm) (these : List Arm) (p : ℕ) : Type 0 where
  pub term_begin : arms (TermBegin p) ≡ these
  pub begin : arms (Begin p) ≡ these
  pub end : arms (End p) ≡ these
  pub term_end : arms (TermEnd p) ≡ these

-- a term lies in these sides
abbrev mutual
  pub Lies : (turn : ℕ) → (Spot → List Arm) → List Arm → Term → Type 0
  Lies turn arms these (One a) = HeadLies arms these (site a) × LiesAct turn arms these a
  Lies turn arms these (Then a t) = HeadLies arms these (site a) × LiesAct turn arms these a × Lies turn arms these t
  Lies turn arms these (Both a t) = HeadLies arms these (site a) × LiesAct turn arms these a × Lies turn arms these t

  pub LiesAct : (turn : ℕ) → (Spot → List Arm) → List Arm → Act → Type 0
  LiesAct turn arms these (If p e t u w) =
      Lies turn arms (these ++ arm turn p true ∷ []) t × Lies turn arms (these ++ arm turn p false ∷ []) u
  LiesAct turn arms these (When p e t) =
      Lies turn arms (these ++ arm turn p true ∷ []) t × (arms (NoSide p) ≡ these ++ arm turn p false ∷ [])
  LiesAct turn arms these (Block p t) = Lies turn arms these t
  LiesAct turn arms these a = Unit {0}

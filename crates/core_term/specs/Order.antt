-- The points of two turns of a thread that follow each other, their forms, which of them exclude each other, and their
-- order.
--
-- Points exclude each other where they lie in one turn on different sides of one `if`. A side is its first point and
-- all points inside; the end of the `if` is outside.
use Rattle.std.specs.Prelude.{ℕ, ◌≡◌, ◌+◌, ◌<◌, ◌≤◌, ◌⊎◌, ℤ, Bool, true, false, List, [], ◌∷◌}
use Rattle.order_rules.specs.Form.{Form, Start, Same, After, Sync, Join, Side, Merge}
use Rattle.order_rules.specs.Before.{Before}
use Rattle.core_term.specs.Term.{Term, One, Then, Both, Act, If, When, Block, site, head}
use Rattle.core_term.specs.Numbering.{size}
use Rattle.core_term.specs.Points.{Spot, TermBegin, TermEnd, Begin, End, NoSide, Formed, ◌is◌, forms}

-- late: of the second of the two turns
pub record Point : Type 0 where
  pub late : Bool
  pub spot : Spot

abbrev pub point : Bool → Spot → Point
point l b = record { late = l; spot = b }

abbrev pub IsFormed : List Formed → Spot → Form Spot → Type 0
IsFormed [] b f = ⊥
IsFormed (g ∷ gs) b f = (g ≡ (b is f)) ⊎ IsFormed gs b f

-- the later turn begins where the earlier one ends
abbrev pub Follows : Term → Point → Point → Type 0
Follows body b c =
    (b.late ≡ true) × (b.spot ≡ TermBegin (site (head body))) × (c.late ≡ false) × (c.spot ≡ TermEnd (site (head body)))

abbrev pub HasForm : Term → Point → Form Point → Type 0
HasForm body b Start = (b.late ≡ false) × (b.spot ≡ TermBegin (site (head body)))
HasForm body b (Same c) = ((b.late ≡ c.late) × IsFormed (forms body) b.spot (Same c.spot)) ⊎ Follows body b c
HasForm body b (Side c) = (b.late ≡ c.late) × IsFormed (forms body) b.spot (Side c.spot)
HasForm body b (After n c) = (b.late ≡ c.late) × IsFormed (forms body) b.spot (After n c.spot)
HasForm body b (Sync c) = (b.late ≡ c.late) × IsFormed (forms body) b.spot (Sync c.spot)
HasForm body b (Join c d) = (b.late ≡ c.late) × (b.late ≡ d.late) × IsFormed (forms body) b.spot (Join c.spot d.spot)
HasForm body b (Merge c d) = (b.late ≡ c.late) × (b.late ≡ d.late) × IsFormed (forms body) b.spot (Merge c.spot d.spot)

abbrev pub spot_site : Spot → ℕ
spot_site (TermBegin p) = p
spot_site (TermEnd p) = p
spot_site (Begin p) = p
spot_site (End p) = p
spot_site (NoSide p) = p

-- a point of a term: the sites of a numbered term are those from its first one on
abbrev pub IsIn : Term → Spot → Type 0
IsIn t a = (site (head t) ≤ spot_site a) × (spot_site a < site (head t) + size t)

-- on different sides of one `if`
abbrev mutual
  pub Apart : Term → Spot → Spot → Type 0
  Apart (One a) b c = ApartIn a b c
  Apart (Then a t) b c = ApartIn a b c ⊎ Apart t b c
  Apart (Both a t) b c = ApartIn a b c ⊎ Apart t b c

  pub ApartIn : Act → Spot → Spot → Type 0
  ApartIn (If p e t u w) b c = ((IsIn t b × IsIn u c) ⊎ (IsIn u b × IsIn t c)) ⊎ (Apart t b c ⊎ Apart u b c)
  ApartIn (When p e t) b c = ((IsIn t b × (c ≡ NoSide p)) ⊎ ((b ≡ NoSide p) × IsIn t c)) ⊎ Apart t b c
  ApartIn (Block p t) b c = Apart t b c
  ApartIn a b c = ⊥

abbrev pub Exclusive : Term → Point → Point → Type 0
Exclusive body b c = (b.late ≡ c.late) × Apart body b.spot c.spot

-- a + d <= b, for points of two turns
abbrev pub Precedes : Term → Point → ℤ → Point → Type 0
Precedes body = Before Point (HasForm body) (Exclusive body)

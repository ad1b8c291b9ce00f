-- Tail-stepped bodies: the end of a turn takes at least a cycle, and every `send` and `recv` of a turn ends before it.
--
-- A chain of two that begin together has no variable: nothing in its rest names its act.
use Rattle.std.specs.Prelude.{ℕ, ◌≡◌, ◌<◌, ◌⊎◌}
use Rattle.core_term.specs.Term.{Term, One, Then, Both, Act, Cycle, Set, Send, If, When, Block, Wait, Pure, site}
use Rattle.core_term.specs.Numbering.{Mentions}

-- the variable y stands somewhere in a term
abbrev mutual
  pub Names : Term → ℕ → Type 0
  Names (One a) y = NamesIn a y
  Names (Then a t) y = NamesIn a y ⊎ Names t y
  Names (Both a t) y = NamesIn a y ⊎ Names t y

  pub NamesIn : Act → ℕ → Type 0
  NamesIn (Set p r e) y = Mentions e y
  NamesIn (Send p m e) y = Mentions e y
  NamesIn (If p e t u w) y = Mentions e y ⊎ (Names t y ⊎ Names u y)
  NamesIn (When p e t) y = Mentions e y ⊎ Names t y
  NamesIn (Block p t) y = Names t y
  NamesIn (Wait p z) y = y ≡ z
  NamesIn (Pure p e) y = Mentions e y
  NamesIn a y = ⊥

abbrev mutual
  pub IsTail : Term → Type 0
  IsTail (One a) = IsTailAct a
  IsTail (Then a t) = IsTail t
  IsTail (Both a t) = IsTailAct a × IsTail t × (Names t (site a) → ⊥)

  pub IsTailAct : Act → Type 0
  IsTailAct (Cycle p n) = 0 < n
  IsTailAct (Set p r e) = Unit {0}
  IsTailAct (If p e t u w) = IsTail t × IsTail u
  IsTailAct (Block p t) = IsTail t
  IsTailAct a = ⊥

-- every `cycle` of a term, in its tail or not, takes at least a cycle
abbrev mutual
  pub CyclesTakeTime : Term → Type 0
  CyclesTakeTime (One a) = CyclesTakeTimeIn a
  CyclesTakeTime (Then a t) = CyclesTakeTimeIn a × CyclesTakeTime t
  CyclesTakeTime (Both a t) = CyclesTakeTimeIn a × CyclesTakeTime t

  pub CyclesTakeTimeIn : Act → Type 0
  CyclesTakeTimeIn (Cycle p n) = 0 < n
  CyclesTakeTimeIn (If p e t u w) = CyclesTakeTime t × CyclesTakeTime u
  CyclesTakeTimeIn (When p e t) = CyclesTakeTime t
  CyclesTakeTimeIn (Block p t) = CyclesTakeTime t
  CyclesTakeTimeIn a = Unit {0}

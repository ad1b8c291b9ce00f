-- The first site of a numbered term is its lowest, and each term has one.
use Rattle.std.proofs.Common.{◌≡◌, ℕ, ◌+◌, ◌<◌, arith, List}
use Rattle.core_term.specs.Term.{Term, One, Then, Both, Act, Cycle, Set, Send, Recv, If, When, Block, Wait, Pure, Nothing, site, head}
use Rattle.core_term.specs.Numbering.{size, act_size, Numbered, NumberedAct}

mutual
  pub head_site : (vs : List Act) (low : ℕ) (t : Term) → Numbered vs low t → site (head t) ≡ low
  head_site vs low (One a) n = act_site vs low a n
  head_site vs low (Then a t) n = act_site vs low a n.0
  head_site vs low (Both a t) n = act_site vs low a n.0

  pub act_site : (vs : List Act) (low : ℕ) (a : Act) → NumberedAct vs low a → site a ≡ low
  act_site vs low (If p e t u w) n = n.0
  act_site vs low (When p e t) n = n.0
  act_site vs low (Block p t) n = n.0
  act_site vs low (Wait p y) n = n.0
  act_site vs low (Cycle p k) n = n
  act_site vs low (Set p r e) n = n.0
  act_site vs low (Send p m e) n = n.0
  act_site vs low (Recv p m) n = n
  act_site vs low (Pure p e) n = n.0
  act_site vs low (Nothing p) n = n

mutual
  pub size_positive : (t : Term) → 0 < size t
  size_positive (One a) = act_size_positive a
  size_positive (Then a t) = let is_less : 0 < act_size a = act_size_positive a in omega arith
  size_positive (Both a t) = let next_is_less : 0 < act_size a = act_size_positive a in omega arith

  pub act_size_positive : (a : Act) → 0 < act_size a
  act_size_positive (If p e t u w) = omega arith
  act_size_positive (When p e t) = omega arith
  act_size_positive (Block p t) = omega arith
  act_size_positive (Wait p y) = omega arith
  act_size_positive (Cycle p k) = omega arith
  act_size_positive (Set p r e) = omega arith
  act_size_positive (Send p m e) = omega arith
  act_size_positive (Recv p m) = omega arith
  act_size_positive (Pure p e) = omega arith
  act_size_positive (Nothing p) = omega arith

-- Numbered bodies: the acts have the sites 0, 1, 2 and so on in tree order, each act before the acts inside it, and
-- each variable is the site of an act in scope.
--
-- The act of a chain is in scope in the rest of its chain, and so in all that stands inside that rest.
use Rattle.std.specs.Prelude.{ℕ, ◌≡◌, ◌+◌, ◌⊎◌, List, [], ◌∷◌}
use Rattle.core_term.specs.Term.{Expr, Lit, Var, Reg, Not, Bin, Slice, Choose, Term, One, Then, Both, Act, Set, Send}
use Rattle.core_term.specs.Term.{If, When, Block, Wait, Pure, site}

-- how many acts a term has
abbrev mutual
  pub size : Term → ℕ
  size (One a) = act_size a
  size (Then a t) = act_size a + size t
  size (Both a t) = act_size a + size t

  pub act_size : Act → ℕ
  act_size (If p e t u w) = 1 + (size t + size u)
  act_size (When p e t) = 1 + size t
  act_size (Block p t) = 1 + size t
  act_size a = 1

-- the variable y stands in an expression
abbrev pub Mentions : Expr → ℕ → Type 0
Mentions (Lit w n) y = ⊥
Mentions (Var z) y = y ≡ z
Mentions (Reg r) y = ⊥
Mentions (Not w e) y = Mentions e y
Mentions (Bin o w v a b) y = Mentions a y ⊎ Mentions b y
Mentions (Slice z high low) y = y ≡ z
Mentions (Choose c a b) y = Mentions c y ⊎ (Mentions a y ⊎ Mentions b y)

-- one of the acts in scope, innermost first, makes the variable y
abbrev pub OneOf : List Act → ℕ → Type 0
OneOf [] y = ⊥
OneOf (a ∷ scope) y = (y ≡ site a) ⊎ OneOf scope y

abbrev pub InScope : List Act → Expr → Type 0
InScope scope e = (y : ℕ) → Mentions e y → OneOf scope y

-- the acts have the numbers from low on
abbrev mutual
  pub Numbered : List Act → ℕ → Term → Type 0
  Numbered scope low (One a) = NumberedAct scope low a
  Numbered scope low (Then a t) = NumberedAct scope low a × Numbered (a ∷ scope) (low + act_size a) t
  Numbered scope low (Both a t) = NumberedAct scope low a × Numbered (a ∷ scope) (low + act_size a) t

  pub NumberedAct : List Act → ℕ → Act → Type 0
  NumberedAct scope low (If p e t u w) =
      (p ≡ low) × Numbered scope (low + 1) t × Numbered scope (low + (1 + size t)) u × InScope scope e
  NumberedAct scope low (When p e t) = (p ≡ low) × Numbered scope (low + 1) t × InScope scope e
  NumberedAct scope low (Block p t) = (p ≡ low) × Numbered scope (low + 1) t
  NumberedAct scope low (Wait p y) = (p ≡ low) × OneOf scope y
  NumberedAct scope low (Set p r e) = (p ≡ low) × InScope scope e
  NumberedAct scope low (Send p m e) = (p ≡ low) × InScope scope e
  NumberedAct scope low (Pure p e) = (p ≡ low) × InScope scope e
  NumberedAct scope low a = site a ≡ low

-- Numbers that are read again: what an expression has in a cycle where nothing was fixed when it was made.
use Rattle.std.specs.Prelude.{ℕ, ◌==◌, if◌then◌else◌, Bool, true, false, List, [], ◌∷◌}
use Rattle.anvil_bits.specs.Operators.{not_of, slice_of, choice_of}
use Rattle.core_term.specs.Operators.{operate}
use Rattle.core_term.specs.Term.{Expr, Lit, Var, Reg, Not, Bin, Slice, Choose, Term, One, Then, Both, Act, Recv, If}
use Rattle.core_term.specs.Term.{Block, Wait, Pure, site}

-- what can be read in a cycle: the data of each port, each register, and the side of the latest decision of each `if`
pub record Sight : Type 0 where
  pub wire : (port : ℕ) → ℕ
  pub register : (register : ℕ) → ℕ
  pub side : (site : ℕ) → Bool

-- of an expression, from those of the variables in scope
abbrev pub number : Sight → (ℕ → ℕ) → Expr → ℕ
number sight now (Lit w n) = n
number sight now (Var y) = now y
number sight now (Reg r) = sight.register r
number sight now (Not w e) = not_of w (number sight now e)
number sight now (Bin o w v a b) = operate o w v (number sight now a) (number sight now b)
number sight now (Slice y high low) = slice_of high low (now y)
number sight now (Choose c a b) = choice_of (number sight now c) (number sight now a) (number sight now b)

abbrev pub put : (ℕ → ℕ) → ℕ → ℕ → ℕ → ℕ
put now p n y = if y == p then n else now y

-- of the value of a term: a `recv` has the data of its port, an `if` the side of its latest decision, a wait its
-- variable, and a chain its last part
abbrev mutual
  pub again : Sight → (ℕ → ℕ) → Term → ℕ
  again sight now (One a) = act_again sight now a
  again sight now (Then a t) = again sight (put now (site a) (act_again sight now a)) t
  again sight now (Both a t) = again sight (put now (site a) (act_again sight now a)) t

  pub act_again : Sight → (ℕ → ℕ) → Act → ℕ
  act_again sight now (Recv p m) = sight.wire m
  act_again sight now (If p e t u true) = if sight.side p then again sight now t else again sight now u
  act_again sight now (If p e t u false) = 0
  act_again sight now (Block p t) = again sight now t
  act_again sight now (Wait p y) = now y
  act_again sight now (Pure p e) = number sight now e
  act_again sight now a = 0

-- of the variables of a scope, innermost first
abbrev pub now_in : Sight → List Act → ℕ → ℕ
now_in sight [] y = 0
now_in sight (a ∷ scope) y = put (now_in sight scope) (site a) (act_again sight (now_in sight scope) a) y

-- What the values of a thread may rest on, told from its text: the source of an atom without its cycle.
use Rattle.std.specs.Prelude.{ℕ, ◌==◌, if◌then◌else◌, true, false, List, [], ◌∷◌, ◌++◌}
use Rattle.core_term.specs.Term.{Expr, Lit, Var, Reg, Not, Bin, Slice, Choose, Term, One, Then, Both, Act, Recv, If}
use Rattle.core_term.specs.Term.{Block, Wait, Pure, site}

-- the data that a `recv` has, a register that an act reads, the side of an `if`
pub data Source : Type 0 where
  WireOf : (site : ℕ) → Source
  RegOf : (site register : ℕ) → Source
  ChoiceOf : (site : ℕ) → Source

abbrev pub bind_sources : (ℕ → List Source) → ℕ → List Source → ℕ → List Source
bind_sources scope p sources y = if y == p then sources else scope y

-- of an expression in the act p, from those of the variables in scope
abbrev pub expr_sources : ℕ → (ℕ → List Source) → Expr → List Source
expr_sources p scope (Lit w n) = []
expr_sources p scope (Var y) = scope y
expr_sources p scope (Reg r) = RegOf p r ∷ []
expr_sources p scope (Not w e) = expr_sources p scope e
expr_sources p scope (Bin o w v a b) = expr_sources p scope a ++ expr_sources p scope b
expr_sources p scope (Slice y high low) = scope y
expr_sources p scope (Choose c a b) = expr_sources p scope c ++ (expr_sources p scope a ++ expr_sources p scope b)

-- of the value of a term: those of its last part
abbrev mutual
  pub sources : (ℕ → List Source) → Term → List Source
  sources scope (One a) = act_sources scope a
  sources scope (Then a t) = sources (bind_sources scope (site a) (act_sources scope a)) t
  sources scope (Both a t) = sources (bind_sources scope (site a) (act_sources scope a)) t

  pub act_sources : (ℕ → List Source) → Act → List Source
  act_sources scope (Recv p m) = WireOf p ∷ []
  act_sources scope (If p e t u true) = ChoiceOf p ∷ (sources scope t ++ sources scope u)
  act_sources scope (If p e t u false) = []
  act_sources scope (Block p t) = sources scope t
  act_sources scope (Wait p y) = scope y
  act_sources scope (Pure p e) = expr_sources p scope e
  act_sources scope a = []

abbrev pub no_sources : ℕ → List Source
no_sources y = []

-- of the variables of a scope, innermost first
abbrev pub sources_in : List Act → ℕ → List Source
sources_in [] = no_sources
sources_in (a ∷ scope) = bind_sources (sources_in scope) (site a) (act_sources (sources_in scope) a)

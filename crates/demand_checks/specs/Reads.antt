-- The variables that the acts of a body read: pairs of the site of the act that reads and the site of the act that
-- makes the variable.
use Rattle.std.specs.Prelude.{ℕ, ◌≡◌, List, [], ◌∷◌, ◌++◌}
use Rattle.core_term.specs.declared.term.CoreExpr as expr
use Rattle.core_term.specs.declared.term.CoreExpr.{CoreExpr}
use Rattle.core_term.specs.declared.term.CoreTerm.{CoreTerm, One', Then', Both'}
use Rattle.core_term.specs.declared.term.CoreKind.{CoreKind, Set, Send, If', Block', Pure, Held-CoreKind-If-2, None', Some'}
use Rattle.core_term.specs.Lists.{Has}
use Rattle.core_term.specs.Term.{Term, Act, site, head}
use Rattle.core_term.specs.Acts.{Reads}
use Rattle.core_term.specs.Stands.{Stands}
use Rattle.demand_checks.specs.declared.place.Pair.{Pair}

abbrev pub pair : ℕ → ℕ → Pair
pair p y = record { first = p; second = y }

-- a term of the body begins with the act of the site p, which reads the variable y
abbrev pub IsRead : Term → ℕ → ℕ → Type 0
IsRead body p y = (scope : List Act) × (u : Term) × Stands [] body scope u × (site (head u) ≡ p) × Reads (head u) y

-- these are all reads of a body
pub record AreReads (body : Term) (reads : List Pair) : Type 0 where
  pub sound : (read : Pair) → Has reads read → IsRead body read.first read.second
  pub whole : (p y : ℕ) → IsRead body p y → Has reads (pair p y)

-- As the code reads them off a body.

abbrev pub expr_reads : ℕ → CoreExpr → List Pair
expr_reads p (expr.Lit b) = []
expr_reads p (expr.Var y) = pair p y ∷ []
expr_reads p (expr.Reg r) = []
expr_reads p (expr.Not' h e) = expr_reads p e
expr_reads p (expr.Bin' o h a k b) = expr_reads p a ++ expr_reads p b
expr_reads p (expr.Slice y high low) = pair p y ∷ []
expr_reads p (expr.Choose' h c k a l b) = expr_reads p c ++ (expr_reads p a ++ expr_reads p b)

-- of an act in its own expression; a wait has none
abbrev pub kind_reads : ℕ → CoreKind → List Pair
kind_reads p (Set r e) = expr_reads p e
kind_reads p (Send m e) = expr_reads p e
kind_reads p (If' e h t u w) = expr_reads p e
kind_reads p (Pure e) = expr_reads p e
kind_reads p k = []

abbrev mutual
  pub reads_of : CoreTerm → List Pair
  reads_of (One' s p k) = kind_reads s k ++ reads_in k
  reads_of (Then' s p k q t) = (kind_reads s k ++ reads_in k) ++ reads_of t
  reads_of (Both' s p k q t) = (kind_reads s k ++ reads_in k) ++ reads_of t

  pub reads_in : CoreKind → List Pair
  reads_in (If' e p t u w) = reads_of t ++ reads_of_else u
  reads_in (Block' p t) = reads_of t
  reads_in k = []

  pub reads_of_else : Held-CoreKind-If-2 → List Pair
  reads_of_else None' = []
  reads_of_else (Some' p t) = reads_of t

-- of an act and the acts inside it
abbrev pub act_reads : ℕ → CoreKind → List Pair
act_reads p k = kind_reads p k ++ reads_in k

-- A core term of the code as the plain term that it stands for, one clause for each constructor.
--
-- The plain operators carry widths, which come from the widths of the registers and ports of the process and from the
-- acts that make the variables.
use Rattle.std.specs.Prelude.{ℕ, true, false, List, [], ◌∷◌, ◌++◌, Option, Some, None}
use Rattle.core_term.specs.declared.operators.BinOp.{BinOp}
use Rattle.core_term.specs.declared.term.CoreExpr.{CoreExpr, Lit, Var, Reg, Not', Bin', Slice, Choose'}
use Rattle.core_term.specs.declared.term.CoreTerm.{CoreTerm, One', Then', Both'}
use Rattle.core_term.specs.declared.term.CoreKind.{CoreKind, Cycle, Set, Send, Recv, If', Block', Wait, Pure, Unit}
use Rattle.core_term.specs.declared.term.CoreKind.{Held-CoreKind-If-2, None', Some'}
use Rattle.core_term.specs.Term as term
use Rattle.core_term.specs.Term.{Expr, Term, Act}
use Rattle.core_term.specs.Widths.{Widths, bind_width, result_width, expr_width, act_width}

abbrev pub not_of_width : Widths → Expr → Expr
not_of_width widths e = term.Not (expr_width widths e) e

abbrev pub operation_of : Widths → BinOp → Expr → Expr → Expr
operation_of widths o a b =
    term.Bin o (result_width o (expr_width widths a) (expr_width widths b)) (expr_width widths b) a b

abbrev pub expr_of : Widths → CoreExpr → Expr
expr_of widths (Lit b) = term.Lit b.width b.value
expr_of widths (Var x) = term.Var x
expr_of widths (Reg r) = term.Reg r
expr_of widths (Not' p e) = not_of_width widths (expr_of widths e)
expr_of widths (Bin' o p a q b) = operation_of widths o (expr_of widths a) (expr_of widths b)
expr_of widths (Slice x h l) = term.Slice x h l
expr_of widths (Choose' p c q a r b) = term.Choose (expr_of widths c) (expr_of widths a) (expr_of widths b)

abbrev pub if_of : ℕ → Expr → Term → Option Term → Option ℕ → Act
if_of s e t None w = term.When s e t
if_of s e t (Some u) None = term.If s e t u false
if_of s e t (Some u) (Some n) = term.If s e t u true

-- the widths in the rest of a chain
abbrev pub after_act : Widths → Act → Widths
after_act widths a = bind_width widths (term.site a) (act_width widths a)

abbrev mutual
  pub term_of : Widths → CoreTerm → Term
  term_of widths (One' s p k) = term.One (act_of widths s k)
  term_of widths (Then' s p k q t) = term.Then (act_of widths s k) (term_of (after_act widths (act_of widths s k)) t)
  term_of widths (Both' s p k q t) = term.Both (act_of widths s k) (term_of (after_act widths (act_of widths s k)) t)

  -- of an act with its site
  pub act_of : Widths → ℕ → CoreKind → Act
  act_of widths s (Cycle n) = term.Cycle s n
  act_of widths s (Set r e) = term.Set s r (expr_of widths e)
  act_of widths s (Send m e) = term.Send s m (expr_of widths e)
  act_of widths s (Recv m) = term.Recv s m
  act_of widths s (If' e p t u w) = if_of s (expr_of widths e) (term_of widths t) (else_of widths u) w
  act_of widths s (Block' p t) = term.Block s (term_of widths t)
  act_of widths s (Wait y) = term.Wait s y
  act_of widths s (Pure e) = term.Pure s (expr_of widths e)
  act_of widths s Unit = term.Nothing s

  pub else_of : Widths → Held-CoreKind-If-2 → Option Term
  else_of widths None' = None
  else_of widths (Some' p t) = Some (term_of widths t)

-- the places of the acts in the source, each act before the acts inside it: so the act of the site i has the place at i
abbrev mutual
  pub places_of : CoreTerm → List ℕ
  places_of (One' s p k) = p ∷ places_in k
  places_of (Then' s p k q t) = (p ∷ places_in k) ++ places_of t
  places_of (Both' s p k q t) = (p ∷ places_in k) ++ places_of t

  pub places_in : CoreKind → List ℕ
  places_in (Cycle n) = []
  places_in (Set r e) = []
  places_in (Send m e) = []
  places_in (Recv m) = []
  places_in (If' e p t u w) = places_of t ++ places_of_else u
  places_in (Block' p t) = places_of t
  places_in (Wait y) = []
  places_in (Pure e) = []
  places_in Unit = []

  pub places_of_else : Held-CoreKind-If-2 → List ℕ
  places_of_else None' = []
  places_of_else (Some' p t) = places_of t

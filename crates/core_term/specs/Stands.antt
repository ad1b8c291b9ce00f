-- Where a term stands in a body, with the acts in scope there, innermost first.
use Rattle.std.specs.Prelude.{ℕ, Bool, List, ◌∷◌}
use Rattle.core_term.specs.Term.{Expr, Term, One, Then, Both, Act, If, When, Block}

-- Stands scope body inner term: the term stands in the body, whose scope is the first list; its own scope is the second
mutual
  pub data Stands : List Act → Term → List Act → Term → Type 0 where
    here : {vs : List Act} {t : Term} → Stands vs t vs t
    in_one : {vs ws : List Act} {a : Act} {u : Term} → StandsIn vs a ws u → Stands vs (One a) ws u
    in_then : {vs ws : List Act} {a : Act} {t u : Term} → StandsIn vs a ws u → Stands vs (Then a t) ws u
    after_then : {vs ws : List Act} {a : Act} {t u : Term} → Stands (a ∷ vs) t ws u → Stands vs (Then a t) ws u
    in_both : {vs ws : List Act} {a : Act} {t u : Term} → StandsIn vs a ws u → Stands vs (Both a t) ws u
    after_both : {vs ws : List Act} {a : Act} {t u : Term} → Stands (a ∷ vs) t ws u → Stands vs (Both a t) ws u

  pub data StandsIn : List Act → Act → List Act → Term → Type 0 where
    in_yes : {vs ws : List Act} {p : ℕ} {e : Expr} {t f u : Term} {w : Bool} → Stands vs t ws u
        → StandsIn vs (If p e t f w) ws u
    in_no : {vs ws : List Act} {p : ℕ} {e : Expr} {t f u : Term} {w : Bool} → Stands vs f ws u
        → StandsIn vs (If p e t f w) ws u
    in_when : {vs ws : List Act} {p : ℕ} {e : Expr} {t u : Term} → Stands vs t ws u → StandsIn vs (When p e t) ws u
    in_block : {vs ws : List Act} {p : ℕ} {t u : Term} → Stands vs t ws u → StandsIn vs (Block p t) ws u

-- Demands in the form in which the proofs about one thread use them: variables are made before they are read, two sets of one
-- register are apart, and no `if` decides again while its side is in use. Each follows from the demands of the rules.
use Rattle.std.specs.Prelude.{ℕ, ◌≡◌, ◌⊎◌, pos, true, false, List, []}
use Rattle.core_term.specs.Lists.{Has}
use Rattle.core_term.specs.Term.{Expr, Term, Act, Set, If, When, site, head}
use Rattle.core_term.specs.Stands.{Stands}
use Rattle.core_term.specs.Acts.{Sets, Reads}
use Rattle.core_term.specs.Points.{Begin, End}
use Rattle.core_term.specs.Order.{point, Precedes}
use Rattle.core_term.specs.Sources.{ChoiceOf, expr_sources, sources_in}

-- an act that uses the value of an expression in the cycle in which it begins
abbrev pub UsesAtOnce : Act → Expr → Type 0
UsesAtOnce (Set p r f) e = f ≡ e
UsesAtOnce (If p f t u w) e = f ≡ e
UsesAtOnce (When p f t) e = f ≡ e
UsesAtOnce a e = ⊥

-- each variable is made before it is read
abbrev pub MadeFirst : Term → Type 0
MadeFirst body = (vs : List Act) (u : Term) → Stands [] body vs u → (y : ℕ) → Reads (head u) y → Precedes body (point false (End y)) (pos 0) (point false (Begin (site (head u))))

-- two sets of one register are apart
abbrev pub SetsApart : Term → Type 0
SetsApart body =
    (vs ws : List Act) (u v : Term) → Stands [] body vs u → Stands [] body ws v → (r : ℕ) → Sets (head u) r → Sets (head v) r → (site (head u) ≡ site (head v) → ⊥)
    → Precedes body (point false (End (site (head u)))) (pos 0) (point false (Begin (site (head v)))) ⊎ Precedes body (point false (End (site (head v)))) (pos 0) (point false (Begin (site (head u))))

-- no `if` decides again while its side is in use
abbrev pub ChoicesKept : Term → Type 0
ChoicesKept body =
    (vs : List Act) (u : Term) → Stands [] body vs u → (e : Expr) → UsesAtOnce (head u) e → (p : ℕ) → Has (expr_sources (site (head u)) (sources_in vs) e) (ChoiceOf p)
    → Precedes body (point false (Begin (site (head u)))) (pos 1) (point true (Begin p))

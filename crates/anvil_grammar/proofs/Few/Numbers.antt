-- The numbers of the things that begin in a list. Where none is one past a limit, each finds fewer than the most of its kind, and so does
-- each of those in front and of those behind them. Things that leave the number of a kind leave it together. An expression has as many
-- nodes by its tree as begin in the text.
use Rattle.std.proofs.Common.{◌≡◌, ◌+◌, ◌-◌, ◌≤◌, ◌<◌, ℕ, List, [], ◌∷◌, ◌++◌, ◌∙◌, refl, ap, arith, length, length-append, inl, inr, eq-or-lt_of_le}
use Rattle.std.specs.Prelude.{map}
use Rattle.anvil_lexer.specs.declared.token.Token.{Token}
use Rattle.anvil_tree.specs.declared.expr.BinOp.{BinOp}
use Rattle.anvil_tree.specs.declared.expr.BinOp.TheVariants as operator
use Rattle.anvil_tree.specs.Tree as tree
use Rattle.anvil_tree.specs.Tree.{Expr}
use Rattle.anvil_tree.specs.Few.{most_nodes, node_count}
use Rattle.anvil_tree.specs.Order.{with_root, nodes_of}
use Rattle.anvil_grammar.specs.declared.error.Counted.{Counted}
use Rattle.anvil_grammar.specs.declared.error.Counted.TheVariants as counted
use Rattle.anvil_grammar.specs.Begun.{Begin, most, count_after, count}
use Rattle.anvil_grammar.specs.Limits.{first_begins, nodes}
use Rattle.anvil_grammar.proofs.Limited.Counts.{Numbers, after_one, after_all, AllFit, AllBounded, bounded_one, count_both}

-- where none finds the most of its kind, all fit
abbrev pub NonePast : Numbers → List Begin → Type 0
NonePast many begun =
    (before after : List Begin) (begin : Begin) → begun ≡ before ++ (begin ∷ after)
    → count begin.kind (many begin.kind) before ≡ most begin.kind → ⊥

pub all_fit : (begun : List Begin) (many : Numbers) → AllBounded many → NonePast many begun → AllFit many begun
all_fit [] many bounded none_past = tt
all_fit (begin ∷ begun) many bounded none_past =
    let less : many begin.kind < most begin.kind =
    elim (eq-or-lt_of_le (bounded begin.kind)) [ inl full ↦ absurd (none_past [] begun begin refl full) | inr less ↦ less ] in (
      less,
      all_fit begun (after_one many begin) (bounded_one many begin bounded less)
          (λ before after one joined full. none_past (begin ∷ before) after one (ap (λ these. begin ∷ these) joined) full),
    )

-- of things that fit, those in front fit, and those behind them fit after them
pub fit_front : (begun others : List Begin) (many : Numbers) → AllFit many (begun ++ others) → AllFit many begun
fit_front [] others many fit = tt
fit_front (begin ∷ begun) others many fit = (fit.0, fit_front begun others (after_one many begin) fit.1)

pub fit_behind : (begun others : List Begin) (many : Numbers) → AllFit many (begun ++ others) → AllFit (after_all many begun) others
fit_behind [] others many fit = fit
fit_behind (begin ∷ begun) others many fit = fit_behind begun others (after_one many begin) fit.1

-- a thing leaves the number of a kind, and so do things
abbrev pub Leaves : Counted → Counted → Type 0
Leaves begun kind = (many : ℕ) → count_after kind begun many ≡ many

abbrev pub AllLeave : List Begin → Counted → Type 0
AllLeave begun kind = (many : ℕ) → count kind many begun ≡ many

pub both_leave : (kind : Counted) (begun others : List Begin) → AllLeave begun kind → AllLeave others kind → AllLeave (begun ++ others) kind
both_leave kind begun others first second many =
    count_both begun others kind many ∙ (ap (λ these. count kind these others) (first many) ∙ second many)

pub first_leaves : (kind begins : Counted) (from : List Token) (others : List Begin) → Leaves begins kind → AllLeave others kind
    → AllLeave (first_begins begins from others) kind
first_leaves kind begins [] others leaves all many = all many
first_leaves kind begins (token ∷ from) others leaves all many = ap (λ these. count kind these others) (leaves many) ∙ all many

-- Expressions.

pub rooted_length : (sign : BinOp) (place : ℕ) (first second : List ℕ) → length (with_root place sign first second) ≡ 1 + (length first + length second)
rooted_length operator.Shl place first second = omega (arith, length-append first second)
rooted_length operator.Shr place first second = omega (arith, length-append first second)
rooted_length operator.Cat place first second = omega (arith, length-append first second)
rooted_length sign place first second = omega (arith, length-append first (place ∷ second))

pub nodes_counted : (expr : Expr) → length (nodes_of expr) ≡ node_count expr
nodes_counted (tree.inverse place operand) = let inner = nodes_counted operand in omega arith
nodes_counted (tree.binary place sign first second) =
    let left = nodes_counted first in
    let right = nodes_counted second in
    let whole = rooted_length sign place (nodes_of first) (nodes_of second) in
    omega arith
nodes_counted (tree.choice place condition first second) =
    let test = nodes_counted condition in
    let left = nodes_counted first in
    let right = nodes_counted second in
    omega (arith, length-append (nodes_of condition) (place ∷ (nodes_of first ++ nodes_of second)), length-append (nodes_of first) (nodes_of second))
nodes_counted leaf = refl

abbrev pub nodes_at : List ℕ → List Begin
nodes_at places = map (λ place. record { kind = counted.Expr; at = place }) places

pub nodes_leave : (kind : Counted) → Leaves counted.Expr kind → (places : List ℕ) → AllLeave (nodes_at places) kind
nodes_leave kind leaves [] many = refl
nodes_leave kind leaves (place ∷ places) many =
    ap (λ these. count kind these (nodes_at places)) (leaves many) ∙ nodes_leave kind leaves places many

pub nodes_few : (places : List ℕ) (many : Numbers) → AllFit many (nodes_at places) → length places ≤ most_nodes - many counted.Expr
nodes_few [] many fit = omega arith
nodes_few (place ∷ places) many fit =
    let others = nodes_few places (after_one many (record { kind = counted.Expr; at = place })) fit.1 in
    let less = fit.0 in
    omega arith

pub expr_few : (expr : Expr) (many : Numbers) → AllFit many (nodes expr) → node_count expr ≤ most_nodes
expr_few expr many fit =
    let few = nodes_few (nodes_of expr) many fit in
    let same = nodes_counted expr in
    omega arith

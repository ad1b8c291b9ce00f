-- The acts of a term that fit are no more than their most, and the nodes of each of its expressions are no more than theirs. By induction
-- on the cases of the grammar: an act begins with one more act, and what it holds begins after it.
use Rattle.std.proofs.Common.{◌≡◌, ◌+◌, ◌-◌, ◌≤◌, ℕ, List, [], ◌∷◌, ◌++◌, ◌∙◌, refl, ap, arith}
use Rattle.anvil_lexer.specs.declared.token.Token.{Token}
use Rattle.anvil_tree.specs.Tree.{Expr, Term, Act}
use Rattle.anvil_tree.specs.Few.{most_nodes, most_acts, node_count, act_count, act_count_in, HasFewNodes, HasFewNodesIn}
use Rattle.anvil_tree.specs.Order.{nodes_of}
use Rattle.anvil_grammar.specs.declared.error.Counted.{Counted}
use Rattle.anvil_grammar.specs.declared.error.Counted.TheVariants as counted
use Rattle.anvil_grammar.specs.Grammar.{IsTerm, single, follow, beside, follow_bound, beside_bound, IsAct, cycle, set, send, receive, when, either, block, pure}
use Rattle.anvil_grammar.specs.Begun.{Begin, count}
use Rattle.anvil_grammar.specs.Limits.{first_begins, nodes, begun_in_act, begun_in_term}
use Rattle.anvil_grammar.proofs.Limited.Counts.{Numbers, after_one, after_all, AllFit, count_both}
use Rattle.anvil_grammar.proofs.Walked.OperandFirst.{BeginsOperand, expr_begins}
use Rattle.anvil_grammar.proofs.Few.Numbers.{fit_front, fit_behind, Leaves, AllLeave, both_leave, first_leaves, nodes_leave, expr_few}

-- Acts and terms.

-- a kind that acts and nodes leave
pub record IsOutside (kind : Counted) : Type 0 where
  pub act : Leaves counted.Act kind
  pub node : Leaves counted.Expr kind

pub expr_leaves : (kind : Counted) → IsOutside kind → (expr : Expr) → AllLeave (nodes expr) kind
expr_leaves kind outside expr = nodes_leave kind outside.node (nodes_of expr)

pub none_leave : (kind : Counted) → AllLeave [] kind
none_leave kind many = refl

mutual
  pub act_leaves : (kind : Counted) → IsOutside kind → {from rest : List Token} {act : Act} (is : IsAct from act rest) → AllLeave (begun_in_act is) kind
  act_leaves kind outside {from = from} (cycle a b) = first_leaves kind counted.Act from [] outside.act (none_leave kind)
  act_leaves kind outside {from = from} (set {value = value} a b c d) =
      first_leaves kind counted.Act from (nodes value) outside.act (expr_leaves kind outside value)
  act_leaves kind outside {from = from} (send {value = value} a b c d e f g) =
      first_leaves kind counted.Act from (nodes value) outside.act (expr_leaves kind outside value)
  act_leaves kind outside {from = from} (receive a b c d) = first_leaves kind counted.Act from [] outside.act (none_leave kind)
  act_leaves kind outside {from = from} (when {condition = condition} a b c first d) =
      first_leaves kind counted.Act from (nodes condition ++ begun_in_term first) outside.act
      (both_leave kind (nodes condition) (begun_in_term first) (expr_leaves kind outside condition) (term_leaves kind outside first))
  act_leaves kind outside {from = from} (either {condition = condition} a b c first d e f second g) =
      first_leaves kind counted.Act from (nodes condition ++ (begun_in_term first ++ begun_in_term second)) outside.act
      (both_leave kind (nodes condition) (begun_in_term first ++ begun_in_term second) (expr_leaves kind outside condition)
      (both_leave kind (begun_in_term first) (begun_in_term second) (term_leaves kind outside first) (term_leaves kind outside second)))
  act_leaves kind outside {from = from} (block a term b) =
      first_leaves kind counted.Act from (begun_in_term term) outside.act (term_leaves kind outside term)
  act_leaves kind outside {from = from} (pure {expr = expr} a) =
      first_leaves kind counted.Act from (nodes expr) outside.act (expr_leaves kind outside expr)

  pub term_leaves : (kind : Counted) → IsOutside kind → {from rest : List Token} {term : Term} (is : IsTerm from term rest) → AllLeave (begun_in_term is) kind
  term_leaves kind outside (single act) = act_leaves kind outside act
  term_leaves kind outside (follow act a term) =
      both_leave kind (begun_in_act act) (begun_in_term term) (act_leaves kind outside act) (term_leaves kind outside term)
  term_leaves kind outside (beside act a term) =
      both_leave kind (begun_in_act act) (begun_in_term term) (act_leaves kind outside act) (term_leaves kind outside term)
  term_leaves kind outside (follow_bound a b c act d term) =
      both_leave kind (begun_in_act act) (begun_in_term term) (act_leaves kind outside act) (term_leaves kind outside term)
  term_leaves kind outside (beside_bound a b c act d term) =
      both_leave kind (begun_in_act act) (begun_in_term term) (act_leaves kind outside act) (term_leaves kind outside term)

-- the acts of a term are counted
pub nodes_no_act : (expr : Expr) → AllLeave (nodes expr) counted.Act
nodes_no_act expr = nodes_leave counted.Act (λ many. refl) (nodes_of expr)

pub pure_counted : (from : List Token) → BeginsOperand from → (expr : Expr) (many : ℕ) → count counted.Act many (first_begins counted.Act from (nodes expr)) ≡ many + 1
pure_counted [] starts expr many = absurd starts
pure_counted (token ∷ from) starts expr many = nodes_no_act expr (many + 1)

pub counted_both : (begun others : List Begin) (many first second : ℕ) → count counted.Act many begun ≡ many + first
    → count counted.Act (many + first) others ≡ (many + first) + second → count counted.Act many (begun ++ others) ≡ many + (first + second)
counted_both begun others many first second one two =
    let joined = count_both begun others counted.Act many ∙ (ap (λ these. count counted.Act these others) one ∙ two) in
    omega arith

mutual
  pub act_counted : {from rest : List Token} {act : Act} (is : IsAct from act rest) (many : ℕ) → count counted.Act many (begun_in_act is) ≡ many + act_count_in act
  act_counted (cycle a b) many = refl
  act_counted (set {value = value} a b c d) many = nodes_no_act value (many + 1)
  act_counted (send {value = value} a b c d e f g) many = nodes_no_act value (many + 1)
  act_counted (receive a b c d) many = refl
  act_counted (when {condition = condition} a b c first d) many =
      let inner = term_counted first (many + 1) in
      let joined = count_both (nodes condition) (begun_in_term first) counted.Act (many + 1)
      ∙ ap (λ these. count counted.Act these (begun_in_term first)) (nodes_no_act condition (many + 1)) in
      omega arith
  act_counted (either {condition = condition} {first = taken} {second = other} a b c first d e f second g) many =
      let sides = counted_both (begun_in_term first) (begun_in_term second) (many + 1) (act_count taken) (act_count other)
      (term_counted first (many + 1)) (term_counted second ((many + 1) + act_count taken)) in
      let joined = count_both (nodes condition) (begun_in_term first ++ begun_in_term second) counted.Act (many + 1)
      ∙ ap (λ these. count counted.Act these (begun_in_term first ++ begun_in_term second)) (nodes_no_act condition (many + 1)) in
      omega arith
  act_counted (block a term b) many = let inner = term_counted term (many + 1) in omega arith
  act_counted {from = from} (pure {expr = expr} is) many = pure_counted from (expr_begins is) expr many

  pub term_counted : {from rest : List Token} {term : Term} (is : IsTerm from term rest) (many : ℕ) → count counted.Act many (begun_in_term is) ≡ many + act_count term
  term_counted (single act) many = act_counted act many
  term_counted (follow {act = one} {term = others} act a term) many =
      counted_both (begun_in_act act) (begun_in_term term) many (act_count_in one) (act_count others) (act_counted act many) (term_counted term (many + act_count_in one))
  term_counted (beside {act = one} {term = others} act a term) many =
      counted_both (begun_in_act act) (begun_in_term term) many (act_count_in one) (act_count others) (act_counted act many) (term_counted term (many + act_count_in one))
  term_counted (follow_bound {act = one} {term = others} a b c act d term) many =
      counted_both (begun_in_act act) (begun_in_term term) many (act_count_in one) (act_count others) (act_counted act many) (term_counted term (many + act_count_in one))
  term_counted (beside_bound {act = one} {term = others} a b c act d term) many =
      counted_both (begun_in_act act) (begun_in_term term) many (act_count_in one) (act_count others) (act_counted act many) (term_counted term (many + act_count_in one))

-- acts and nodes within the limits
pub record FewActs (many : ℕ) (acts : ℕ) (nodes : Type 0) : Type 0 where
  pub counted : acts ≤ most_acts - many
  pub each : nodes

pub pure_few : (from : List Token) → BeginsOperand from → (expr : Expr) (many : Numbers) → AllFit many (first_begins counted.Act from (nodes expr))
    → FewActs (many counted.Act) 1 (node_count expr ≤ most_nodes)
pure_few [] starts expr many fit = absurd starts
pure_few (token ∷ from) starts expr many fit =
    let less = fit.0 in
    record { counted = omega arith; each = expr_few expr (after_one many (record { kind = counted.Act; at = token.at })) fit.1 }

pub chain_few : {from middle : List Token} {act : Act} (is : IsAct from act middle) (many : Numbers) {acts : ℕ} {nodes : Type 0}
    → FewActs (many counted.Act) (act_count_in act) (HasFewNodesIn act) → FewActs (after_all many (begun_in_act is) counted.Act) acts nodes
    → FewActs (many counted.Act) (act_count_in act + acts) (HasFewNodesIn act × nodes)
chain_few is many one two =
    let passed = act_counted is (many counted.Act) in
    let few = one.counted in
    let more = two.counted in
    record { counted = omega arith; each = (one.each, two.each) }

mutual
  pub act_few : {from rest : List Token} {act : Act} (is : IsAct from act rest) (many : Numbers) → AllFit many (begun_in_act is)
      → FewActs (many counted.Act) (act_count_in act) (HasFewNodesIn act)
  act_few (cycle a b) many fit = let less = fit.0 in record { counted = omega arith; each = tt }
  act_few {from = from} (set {word = word} {value = value} a b c d) many fit =
      let less = fit.0 in
      record { counted = omega arith; each = expr_few value (after_one many (record { kind = counted.Act; at = word.at })) fit.1 }
  act_few (send {word = word} {value = value} a b c d e f g) many fit =
      let less = fit.0 in
      record { counted = omega arith; each = expr_few value (after_one many (record { kind = counted.Act; at = word.at })) fit.1 }
  act_few (receive a b c d) many fit = let less = fit.0 in record { counted = omega arith; each = tt }
  act_few (when {word = word} {condition = condition} a b c first d) many fit =
      let less = fit.0 in
      let after = after_one many (record { kind = counted.Act; at = word.at }) in
      let inner = term_few first (after_all after (nodes condition)) (fit_behind (nodes condition) (begun_in_term first) after fit.1) in
      let kept = nodes_no_act condition (many counted.Act + 1) in
      let few = inner.counted in
      record {
        counted = omega arith;
        each = (expr_few condition after (fit_front (nodes condition) (begun_in_term first) after fit.1), inner.each);
      }
  act_few (either {word = word} {condition = condition} a b c first d e f second g) many fit =
      let less = fit.0 in
      let after = after_one many (record { kind = counted.Act; at = word.at }) in
      let sides = begun_in_term first ++ begun_in_term second in
      let inside = after_all after (nodes condition) in
      let both = fit_behind (nodes condition) sides after fit.1 in
      let one = term_few first inside (fit_front (begun_in_term first) (begun_in_term second) inside both) in
      let two = term_few second (after_all inside (begun_in_term first)) (fit_behind (begun_in_term first) (begun_in_term second) inside both) in
      let kept = nodes_no_act condition (many counted.Act + 1) in
      let passed = term_counted first (inside counted.Act) in
      let few = one.counted in
      let others = two.counted in
      record {
        counted = omega arith;
        each = (expr_few condition after (fit_front (nodes condition) sides after fit.1), one.each, two.each);
      }
  act_few (block {opening = opening} a term b) many fit =
      let less = fit.0 in
      let inner = term_few term (after_one many (record { kind = counted.Act; at = opening.at })) fit.1 in
      let few = inner.counted in
      record { counted = omega arith; each = inner.each }
  act_few {from = from} (pure {expr = expr} is) many fit = pure_few from (expr_begins is) expr many fit

  pub term_few : {from rest : List Token} {term : Term} (is : IsTerm from term rest) (many : Numbers) → AllFit many (begun_in_term is)
      → FewActs (many counted.Act) (act_count term) (HasFewNodes term)
  term_few (single is) many fit = act_few is many fit
  term_few (follow is a others) many fit =
      chain_few is many (act_few is many (fit_front (begun_in_act is) (begun_in_term others) many fit))
      (term_few others (after_all many (begun_in_act is)) (fit_behind (begun_in_act is) (begun_in_term others) many fit))
  term_few (beside is a others) many fit =
      chain_few is many (act_few is many (fit_front (begun_in_act is) (begun_in_term others) many fit))
      (term_few others (after_all many (begun_in_act is)) (fit_behind (begun_in_act is) (begun_in_term others) many fit))
  term_few (follow_bound a b c is d others) many fit =
      chain_few is many (act_few is many (fit_front (begun_in_act is) (begun_in_term others) many fit))
      (term_few others (after_all many (begun_in_act is)) (fit_behind (begun_in_act is) (begun_in_term others) many fit))
  term_few (beside_bound a b c is d others) many fit =
      chain_few is many (act_few is many (fit_front (begun_in_act is) (begun_in_term others) many fit))
      (term_few others (after_all many (begun_in_act is)) (fit_behind (begun_in_act is) (begun_in_term others) many fit))

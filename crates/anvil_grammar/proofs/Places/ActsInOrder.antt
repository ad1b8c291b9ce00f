-- The acts of each thread never fall in place in the order of the tree, where the places of the tokens rise: each act is placed at one of
-- its own tokens, ahead of the tokens of the acts inside it and of those behind it. An act that is an expression is placed at the root of
-- the expression, which is among the nodes that the expression picks.
use Rattle.std.proofs.Common.{ℕ, List, [], ◌∷◌, ◌++◌}
use Rattle.std.specs.List.{AllByRecursion}
use Rattle.anvil_lexer.specs.declared.token.Token.{Token}
use Rattle.anvil_lexer.specs.TokenText.{ArePlacesRising}
use Rattle.anvil_tree.specs.declared.expr.BinOp.{BinOp}
use Rattle.anvil_tree.specs.declared.expr.BinOp.TheVariants as operator
use Rattle.anvil_tree.specs.Tree as tree
use Rattle.anvil_tree.specs.Tree.{Expr, Term, Act, Process, File}
use Rattle.anvil_tree.specs.Places.{place_of_expr}
use Rattle.anvil_tree.specs.Order.{with_root, nodes_of, acts_of_act, acts_of_term, NeverFall, ActsNeverFallIn, ActsNeverFall}
use Rattle.anvil_grammar.specs.Grammar.{IsTerm, single, follow, beside, follow_bound, beside_bound, IsAct, cycle, set, send, receive, when, either, block, pure, AreThreads, ended, more, IsProcess, of_parts, IsFile, class_next, process_next}
use Rattle.anvil_grammar.proofs.Places.InOrder.{Picks, here, passing, taking, joined_picks, past, expr_picks, class_picks, ports_pick, registers_pick, process_picks, rising_on, picks_never_fall}

-- places that are some of others, in their order
data IsPart : List ℕ → List ℕ → Type 0 where
  empty : IsPart [] []
  leaving : {place : ℕ} {some all : List ℕ} → IsPart some all → IsPart some (place ∷ all)
  keeping : {place : ℕ} {some all : List ℕ} → IsPart some all → IsPart (place ∷ some) (place ∷ all)

none_kept : (all : List ℕ) → IsPart [] all
none_kept [] = empty
none_kept (place ∷ all) = leaving (none_kept all)

all_left : (before : List ℕ) {some all : List ℕ} → IsPart some all → IsPart some (before ++ all)
all_left [] part = part
all_left (place ∷ before) part = leaving (all_left before part)

-- what picks places picks some of them
thinned : {from rest : List Token} {some all : List ℕ} → Picks from all rest → IsPart some all → Picks from some rest
thinned here empty = here
thinned (passing one) part = passing (thinned one part)
thinned (taking one) (leaving part) = passing (thinned one part)
thinned (taking one) (keeping part) = taking (thinned one part)

passed_over : {from rest : List Token} {places : List ℕ} → Picks from places rest → Picks from [] rest
passed_over {places = places} one = thinned one (none_kept places)

rising_past : {from rest : List Token} {places : List ℕ} → Picks from places rest → ArePlacesRising from → ArePlacesRising rest
rising_past here rising = rising
rising_past (passing {token = token} {from = from} one) rising = rising_past one (rising_on token from rising)
rising_past (taking {token = token} {from = from} one) rising = rising_past one (rising_on token from rising)

-- the root of an expression is one of its nodes
root_in : (sign : BinOp) (place : ℕ) (first second : List ℕ) → IsPart (place ∷ []) (with_root place sign first second)
root_in operator.Shl place first second = keeping (none_kept (first ++ second))
root_in operator.Shr place first second = keeping (none_kept (first ++ second))
root_in operator.Cat place first second = keeping (none_kept (first ++ second))
root_in sign place first second = all_left first (keeping (none_kept second))

root_kept : (expr : Expr) → IsPart (place_of_expr expr ∷ []) (nodes_of expr)
root_kept (tree.inverse place operand) = keeping (none_kept (nodes_of operand))
root_kept (tree.binary place sign first second) = root_in sign place (nodes_of first) (nodes_of second)
root_kept (tree.choice place condition first second) =
    all_left (nodes_of condition) (keeping (none_kept (nodes_of first ++ nodes_of second)))
root_kept leaf = keeping empty

mutual
  act_acts : {from rest : List Token} {act : Act} → IsAct from act rest → Picks from (acts_of_act act) rest
  act_acts (cycle is a) = taking (passing here)
  act_acts (set is a b is_value) = taking (passing (passing (passed_over (expr_picks is_value))))
  act_acts {rest = rest} (send {closing = closing} is a b c d is_value e) =
      taking (passing (passing (passing (passing (past closing rest (passed_over (expr_picks is_value)))))))
  act_acts (receive is a b c) = taking (passing (passing (passing here)))
  act_acts {rest = rest} (when {closing = closing} is is_condition a is_first b) =
      taking (joined_picks (passed_over (expr_picks is_condition)) (passing (past closing rest (term_acts is_first))))
  act_acts {rest = rest} (either {closing' = closing'} is is_condition a is_first b c d is_second e) =
      taking (joined_picks (passed_over (expr_picks is_condition)) (passing (joined_picks (term_acts is_first)
      (passing (passing (passing (past closing' rest (term_acts is_second))))))))
  act_acts {rest = rest} (block {closing = closing} is is_term a) = taking (past closing rest (term_acts is_term))
  act_acts (pure {expr = expr} is) = thinned (expr_picks is) (root_kept expr)

  term_acts : {from rest : List Token} {term : Term} → IsTerm from term rest → Picks from (acts_of_term term) rest
  term_acts (single is) = act_acts is
  term_acts (follow is a others) = joined_picks (act_acts is) (passing (term_acts others))
  term_acts (beside is a others) = joined_picks (act_acts is) (passing (term_acts others))
  term_acts (follow_bound a b c is d others) = passing (passing (passing (joined_picks (act_acts is) (passing (term_acts others)))))
  term_acts (beside_bound a b c is d others) = passing (passing (passing (joined_picks (act_acts is) (passing (term_acts others)))))

threads_in_order : {from rest : List Token} {threads : List Term} → AreThreads from threads rest → ArePlacesRising from
    → AllByRecursion (λ term. NeverFall (acts_of_term term)) threads
threads_in_order ended rising = tt
threads_in_order (more {loop = loop} {opening = opening} {closing = closing} {from = from} {middle = middle} a b is c others) rising =
    let inside = rising_on opening from (rising_on loop (opening ∷ from) rising) in
    (picks_never_fall (term_acts is) inside, threads_in_order others (rising_on closing middle (rising_past (term_acts is) inside)))

process_in_order : {from rest : List Token} {process : Process} → IsProcess from process rest → ArePlacesRising from → ActsNeverFallIn (tree.process process)
process_in_order (of_parts {proc = proc} {word = word} {opening = opening} {closing = closing} {opening' = opening'} {from = from} {middle = middle} a b c ports d e registers threads f) rising =
    let inside = rising_on opening from (rising_on word (opening ∷ from) (rising_on proc (word ∷ opening ∷ from) rising)) in
    let behind = rising_past (ports_pick ports) inside in
    let body = rising_on opening' middle (rising_on closing (opening' ∷ middle) behind) in
    threads_in_order threads (rising_past (registers_pick registers) body)

pub acts_in_order : {tokens : List Token} {file : File} → IsFile tokens file → ArePlacesRising tokens → ActsNeverFall file
acts_in_order (ended a) rising = tt
acts_in_order (class_next is others) rising = (tt, acts_in_order others (rising_past (class_picks is) rising))
acts_in_order (process_next is others) rising = (process_in_order is rising, acts_in_order others (rising_past (process_picks is) rising))

-- An expression of a level ends before a token that is weaker than the level's operators, and before no `[`; the frame on top of
-- the stack is weaker than them. Operands of a level are of the next stronger one, so both pass to them.
use Rattle.std.proofs.Common.{◌≡◌, ◌<◌, ◌≤◌, ℕ, suc, List, [], ◌∷◌, true, false, Some, arith}
use Rattle.std.specs.Prelude.{⊤}
use Rattle.anvil_lexer.specs.declared.token.Token.{Token}
use Rattle.anvil_lexer.specs.declared.token.TokenKind.{TokenKind}
use Rattle.anvil_tree.specs.declared.expr.BinOp.{BinOp}
use Rattle.anvil_tree.specs.Tree.{Expr}
use Rattle.anvil_grammar.specs.Words.{Is, Joining, disjunction, exclusion, conjunction, comparison, addition, multiplication, Level, unary, joined, operand_level, operator_of, goes_on_after}
use Rattle.anvil_grammar.specs.Grammar.{IsGrown, ended, grown, IsFurther, once, again}
use Rattle.anvil_grammar.specs.State.{Frame, inverting, operating}
use Rattle.anvil_grammar.specs.Step.{strength, strength_of, takes_first}
use Rattle.anvil_grammar.proofs.Walked.TakenFirst.{Waits, opens_slice, joining_strength, joins, first_of_weaker, first_of_equal}

abbrev pub level_strength : Level → ℕ
level_strength unary = 8
level_strength (joined joining) = joining_strength joining

operand_stronger : (joining : Joining) → joining_strength joining < level_strength (operand_level joining)
operand_stronger disjunction = omega arith
operand_stronger exclusion = omega arith
operand_stronger conjunction = omega arith
operand_stronger comparison = omega arith
operand_stronger addition = omega arith
operand_stronger multiplication = omega arith

-- Where an expression ends.

abbrev pub Stops : ℕ → List Token → Type 0
Stops strong [] = ⊥
Stops strong (token ∷ rest) = (strength token.kind < strong) × (opens_slice token.kind ≡ false)

pub stops_at : (strong : ℕ) (kind : TokenKind) (token : Token) (rest : List Token) → Is kind token → strength kind < strong → opens_slice kind ≡ false
    → Stops strong (token ∷ rest)
stops_at strong kind token rest is weaker none = rw is (weaker, none)

pub stops_stronger : (weak strong : ℕ) (rest : List Token) → weak ≤ strong → Stops weak rest → Stops strong rest
stops_stronger weak strong [] less stops = stops
stops_stronger weak strong (token ∷ rest) less stops = (omega (arith, less, stops.0), stops.1)

operand_stops : (joining : Joining) (rest : List Token) → Stops (joining_strength joining) rest → Stops (level_strength (operand_level joining)) rest
operand_stops joining rest stops =
    let stronger = operand_stronger joining in
    stops_stronger (joining_strength joining) (level_strength (operand_level joining)) rest (omega (arith, stronger)) stops

-- an operand ends before an operator of its level
stops_at_sign : (joining : Joining) (sign : Token) (operator : BinOp) (from : List Token) → operator_of joining sign.kind ≡ Some operator
    → Stops (level_strength (operand_level joining)) (sign ∷ from)
stops_at_sign joining sign operator from is =
    let what = joins joining sign.kind operator is in
    let strong = what.token_strong in
    let stronger = operand_stronger joining in
    (omega (arith, strong, stronger), what.no_bracket)

pub stops_before : {joining : Joining} {left whole : Expr} {from rest : List Token} → IsGrown joining left from whole rest
    → Stops (joining_strength joining) rest → Stops (level_strength (operand_level joining)) from
stops_before {joining = joining} {rest = rest} ended stops = operand_stops joining rest stops
stops_before {joining = joining} (grown {sign = sign} {from = from} {operator = operator} is right others) stops =
    stops_at_sign joining sign operator from is

pub stops_before_further : {joining : Joining} {left whole : Expr} {from rest : List Token} → IsFurther joining left from whole rest
    → Stops (joining_strength joining) rest → Stops (level_strength (operand_level joining)) from
stops_before_further {joining = joining} {rest = rest} once stops = operand_stops joining rest stops
stops_before_further (again goes others) stops = stops_before others stops

-- Which stacks wait for one.

waits_stronger : (weak strong : ℕ) (stack : List Frame) → weak ≤ strong → Waits weak stack → Waits strong stack
waits_stronger weak strong (inverting at ∷ stack) less waits = waits
waits_stronger weak strong (operating operator at left ∷ stack) less waits = omega (arith, less, waits)
waits_stronger weak strong stack less waits = tt

abbrev pub WaitsAt : Level → List Frame → Type 0
WaitsAt unary stack = ⊤
WaitsAt (joined joining) stack = Waits (joining_strength joining) stack

level_waits : (level : Level) (weak : ℕ) (stack : List Frame) → weak ≤ level_strength level → Waits weak stack → WaitsAt level stack
level_waits unary weak stack less waits = tt
level_waits (joined joining) weak stack less waits = waits_stronger weak (joining_strength joining) stack less waits

pub operand_waits : (joining : Joining) (stack : List Frame) → Waits (joining_strength joining) stack → WaitsAt (operand_level joining) stack
operand_waits joining stack waits =
    let stronger = operand_stronger joining in
    level_waits (operand_level joining) (joining_strength joining) stack (omega (arith, stronger)) waits

-- an operator of a level waits for an operand of it
pub operating_waits : (joining : Joining) (operator : BinOp) (at : ℕ) (left : Expr) (stack : List Frame) → strength_of operator ≡ joining_strength joining
    → WaitsAt (operand_level joining) (operating operator at left ∷ stack)
operating_waits joining operator at left stack is =
    let stronger = operand_stronger joining in
    level_waits (operand_level joining) (suc (strength_of operator)) (operating operator at left ∷ stack) (omega (arith, stronger, is)) (omega arith)

pub open_waits : (stack : List Frame) → Waits 1 stack → Waits 2 stack
open_waits stack waits = waits_stronger 1 2 stack (omega arith) waits

-- An operator takes its right operand ahead of what follows it.

abbrev pub TakesBefore : BinOp → List Token → Type 0
TakesBefore operator [] = ⊥
TakesBefore operator (token ∷ rest) = takes_first operator (strength token.kind) ≡ true

takes_before_end : (joining : Joining) (operator : BinOp) (rest : List Token) → strength_of operator ≡ joining_strength joining → Stops (joining_strength joining) rest
    → TakesBefore operator rest
takes_before_end joining operator [] is stops = stops
takes_before_end joining operator (token ∷ rest) is stops = first_of_weaker operator (strength token.kind) (omega (arith, is, stops.0))

takes_before_grown : {joining : Joining} {left whole : Expr} {from rest : List Token} (operator : BinOp) → strength_of operator ≡ joining_strength joining
    → goes_on_after joining → IsGrown joining left from whole rest → Stops (joining_strength joining) rest → TakesBefore operator from
takes_before_grown {joining = joining} {rest = rest} operator is goes ended stops = takes_before_end joining operator rest is stops
takes_before_grown {joining = joining} operator is goes (grown {sign = sign} {operator = next} is_next right others) stops =
    first_of_equal joining operator (strength sign.kind) is ((joins joining sign.kind next is_next).token_strong) goes

pub takes_before : {joining : Joining} {left whole : Expr} {from rest : List Token} (operator : BinOp) → strength_of operator ≡ joining_strength joining
    → IsFurther joining left from whole rest → Stops (joining_strength joining) rest → TakesBefore operator from
takes_before {joining = joining} {rest = rest} operator is once stops = takes_before_end joining operator rest is stops
takes_before operator is (again goes others) stops = takes_before_grown operator is goes others stops

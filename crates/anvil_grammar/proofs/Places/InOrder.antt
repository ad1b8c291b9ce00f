-- The places of a tree are in order. What a part of the tree picks from its tokens are places of tokens, each behind the one
-- before it; so where the places of the tokens rise, those of the tree never fall. By induction on the cases of the grammar.
use Rattle.std.proofs.Common.{◌≡◌, ◌<◌, ℕ, List, [], ◌∷◌, ◌++◌, map, refl, arith, subst, sym}
use Rattle.std.specs.Prelude.{Some}
use Rattle.anvil_lexer.specs.declared.token.Token.{Token}
use Rattle.anvil_lexer.specs.declared.token.TokenKind.{TokenKind}
use Rattle.anvil_lexer.specs.declared.token.TokenKind.TheVariants.{Key, Mark}
use Rattle.anvil_lexer.specs.declared.token.Keyword.TheVariants as key
use Rattle.anvil_lexer.specs.declared.token.Mark.TheVariants as mark
use Rattle.anvil_lexer.specs.TokenText.{ArePlacesRising}
use Rattle.anvil_tree.specs.declared.expr.BinOp.{BinOp}
use Rattle.anvil_tree.specs.declared.expr.BinOp.TheVariants as operator
use Rattle.anvil_tree.specs.declared.file.LifeText.{LifeText}
use Rattle.anvil_tree.specs.declared.file.LiteralText.{LiteralText}
use Rattle.anvil_tree.specs.declared.file.Endpoint.{Endpoint}
use Rattle.anvil_tree.specs.declared.file.Message.{Message}
use Rattle.anvil_tree.specs.declared.file.Register.{Register}
use Rattle.std.specs.Prelude.{Option}
use Rattle.anvil_tree.specs.Tree as tree
use Rattle.anvil_tree.specs.Tree.{Expr, Term, Act, Class, Process, File}
use Rattle.anvil_grammar.specs.Words.{Joining, disjunction, exclusion, conjunction, comparison, addition, multiplication, Level, operator_of, function_of}
use Rattle.anvil_grammar.specs.Grammar.{IsUnary, inverse, shown, literal, variable, slice, function, unit, grouped, IsAt, alone, begun, IsGrown, ended, grown, IsFurther, once, again, IsExpr, plain, choice, IsTerm, single, follow, beside, follow_bound, beside_bound, IsAct, cycle, set, send, receive, when, either, block, pure, IsLife, cycles, until, IsWidth, bits, IsMessage, travelling, AreMessages, last, last_with_comma, more, IsClass, of_messages, IsEndpoint, held, AreEndpoints, ArePorts, without, some, IsReset, unsaid, said, IsRegister, kept, AreRegisters, AreThreads, IsProcess, of_parts, IsFile, class_next, process_next}
use Rattle.anvil_tree.specs.Order.{with_root, nodes_of, places_of_act, places_of_term, places_of_terms, places_of_item, places_of_file, NeverFall}

-- the places are those of some of the tokens before the rest, in their order
pub data Picks : List Token → List ℕ → List Token → Type 0 where
  here : {rest : List Token} → Picks rest [] rest
  passing : {token : Token} {from rest : List Token} {places : List ℕ} → Picks from places rest → Picks (token ∷ from) places rest
  taking : {token : Token} {from rest : List Token} {places : List ℕ} → Picks from places rest → Picks (token ∷ from) (token.at ∷ places) rest

pub joined_picks : {from middle rest : List Token} {places others : List ℕ} → Picks from places middle → Picks middle others rest → Picks from (places ++ others) rest
joined_picks here others = others
joined_picks (passing one) others = passing (joined_picks one others)
joined_picks (taking one) others = taking (joined_picks one others)

-- what is passed at the end
pub past : {from : List Token} (token : Token) (rest : List Token) {places : List ℕ} → Picks from places (token ∷ rest) → Picks from places rest
past token rest here = passing here
past token rest (passing one) = passing (past token rest one)
past token rest (taking one) = taking (past token rest one)

-- what picks nothing
passed : {from middle rest : List Token} {places : List ℕ} → Picks from [] middle → Picks middle places rest → Picks from places rest
passed one others = joined_picks one others

-- an operator stands between its operands, a function before them
by_operator : (found sign : BinOp) (place : ℕ) (first second whole : List ℕ) → Some found ≡ Some sign → with_root place found first second ≡ whole
    → with_root place sign first second ≡ whole
by_operator found sign place first second whole same known =
    let is : found ≡ sign = cc in
    subst (λ o. with_root place o first second ≡ whole) is known

between : (joining : Joining) (kind : TokenKind) (sign : BinOp) → operator_of joining kind ≡ Some sign → (place : ℕ) (first second : List ℕ)
    → with_root place sign first second ≡ first ++ (place ∷ second)
between disjunction (Mark mark.Bar) sign is place first second = by_operator operator.Or sign place first second (first ++ (place ∷ second)) is refl
between exclusion (Mark mark.Caret) sign is place first second = by_operator operator.Xor sign place first second (first ++ (place ∷ second)) is refl
between conjunction (Mark mark.Amp) sign is place first second = by_operator operator.And sign place first second (first ++ (place ∷ second)) is refl
between comparison (Mark mark.EqEq) sign is place first second = by_operator operator.Eq sign place first second (first ++ (place ∷ second)) is refl
between comparison (Mark mark.NotEq) sign is place first second = by_operator operator.Ne sign place first second (first ++ (place ∷ second)) is refl
between comparison (Mark mark.Less) sign is place first second = by_operator operator.Lt sign place first second (first ++ (place ∷ second)) is refl
between comparison (Mark mark.LessEq) sign is place first second = by_operator operator.Le sign place first second (first ++ (place ∷ second)) is refl
between comparison (Mark mark.Greater) sign is place first second = by_operator operator.Gt sign place first second (first ++ (place ∷ second)) is refl
between comparison (Mark mark.GreaterEq) sign is place first second = by_operator operator.Ge sign place first second (first ++ (place ∷ second)) is refl
between addition (Mark mark.Plus) sign is place first second = by_operator operator.Add sign place first second (first ++ (place ∷ second)) is refl
between addition (Mark mark.Minus) sign is place first second = by_operator operator.Sub sign place first second (first ++ (place ∷ second)) is refl
between multiplication (Mark mark.Star) sign is place first second = by_operator operator.Mul sign place first second (first ++ (place ∷ second)) is refl
between joining kind sign is place first second = absurd cc

before_both : (kind : TokenKind) (sign : BinOp) → function_of kind ≡ Some sign → (place : ℕ) (first second : List ℕ)
    → with_root place sign first second ≡ place ∷ (first ++ second)
before_both (Key key.Shl) sign is place first second = by_operator operator.Shl sign place first second (place ∷ (first ++ second)) is refl
before_both (Key key.Shr) sign is place first second = by_operator operator.Shr sign place first second (place ∷ (first ++ second)) is refl
before_both (Key key.Cat) sign is place first second = by_operator operator.Cat sign place first second (place ∷ (first ++ second)) is refl
before_both kind sign is place first second = absurd cc

mutual
  unary_picks : {from rest : List Token} {expr : Expr} → IsUnary from expr rest → Picks from (nodes_of expr) rest
  unary_picks (inverse is operand) = taking (unary_picks operand)
  unary_picks (shown is is_word) = taking (passing here)
  unary_picks (literal is) = taking here
  unary_picks (variable is) = taking here
  unary_picks (slice is a b c d e) = taking (passing (passing (passing (passing (passing here)))))
  unary_picks {rest = rest} (function {word = word} {opening = opening} {closing = closing} {from = from} {operator = sign} {first = first} {second = second} is a is_first b is_second c) =
      subst (λ places. Picks (word ∷ opening ∷ from) places rest) (sym (before_both word.kind sign is word.at (nodes_of first) (nodes_of second)))
      (taking (passing (joined_picks (expr_picks is_first) (passing (past closing rest (expr_picks is_second))))))
  unary_picks (unit is a) = taking (passing here)
  unary_picks {rest = rest} (grouped {closing = closing} is inner a) = passing (past closing rest (expr_picks inner))

  level_picks : {level : Level} {from rest : List Token} {expr : Expr} → IsAt level from expr rest → Picks from (nodes_of expr) rest
  level_picks (alone is) = unary_picks is
  level_picks (begun is others) = grown_picks others (level_picks is)

  grown_picks : {joining : Joining} {left whole : Expr} {start from rest : List Token} → IsGrown joining left from whole rest → Picks start (nodes_of left) from
      → Picks start (nodes_of whole) rest
  grown_picks ended before = before
  grown_picks {joining = joining} {left = left} {start = start} (grown {right = right} {sign = sign} {middle = middle} {operator = operator} is is_right others) before =
      further_picks others (subst (λ places. Picks start places middle) (sym (between joining sign.kind operator is sign.at (nodes_of left) (nodes_of right)))
      (joined_picks before (taking (level_picks is_right))))

  further_picks : {joining : Joining} {left whole : Expr} {start from rest : List Token} → IsFurther joining left from whole rest → Picks start (nodes_of left) from
      → Picks start (nodes_of whole) rest
  further_picks once before = before
  further_picks (again goes others) before = grown_picks others before

  pub expr_picks : {from rest : List Token} {expr : Expr} → IsExpr from expr rest → Picks from (nodes_of expr) rest
  expr_picks (plain is) = level_picks is
  expr_picks (choice is_condition a is_first b is_second) =
      joined_picks (level_picks is_condition) (taking (joined_picks (expr_picks is_first) (passing (expr_picks is_second))))

mutual
  act_picks : {from rest : List Token} {act : Act} → IsAct from act rest → Picks from (places_of_act act) rest
  act_picks (cycle is a) = taking (passing here)
  act_picks (set is a b is_value) = taking (passing (passing (expr_picks is_value)))
  act_picks {rest = rest} (send {closing = closing} is a b c d is_value e) = taking (passing (passing (passing (passing (past closing rest (expr_picks is_value))))))
  act_picks (receive is a b c) = taking (passing (passing (passing here)))
  act_picks {rest = rest} (when {closing = closing} is is_condition a is_first b) =
      taking (joined_picks (expr_picks is_condition) (passing (past closing rest (term_picks is_first))))
  act_picks {rest = rest} (either {closing' = closing'} is is_condition a is_first b c d is_second e) =
      taking (joined_picks (expr_picks is_condition) (passing (joined_picks (term_picks is_first) (passing (passing (passing (past closing' rest (term_picks is_second))))))))
  act_picks {rest = rest} (block {closing = closing} is is_term a) = taking (past closing rest (term_picks is_term))
  act_picks (pure is) = expr_picks is

  term_picks : {from rest : List Token} {term : Term} → IsTerm from term rest → Picks from (places_of_term term) rest
  term_picks (single is) = act_picks is
  term_picks (follow is a others) = joined_picks (act_picks is) (passing (term_picks others))
  term_picks (beside is a others) = joined_picks (act_picks is) (passing (term_picks others))
  term_picks (follow_bound a b c is d others) = passing (passing (passing (joined_picks (act_picks is) (passing (term_picks others)))))
  term_picks (beside_bound a b c is d others) = passing (passing (passing (joined_picks (act_picks is) (passing (term_picks others)))))

width_passes : {from rest : List Token} {width place : ℕ} → IsWidth from width place rest → Picks from [] rest
width_passes (bits a b c d) = passing (passing (passing (passing here)))

life_passes : {from rest : List Token} {life : LifeText} {place : ℕ} → IsLife from life place rest → Picks from [] rest
life_passes (cycles a b) = passing (passing here)
life_passes (until a) = passing here

reset_passes : {from rest : List Token} {reset : Option LiteralText} → IsReset from reset rest → Picks from [] rest
reset_passes unsaid = here
reset_passes (said a b) = passing (passing here)

message_picks : {from rest : List Token} {message : Message} → IsMessage from message rest → Picks from (message.at ∷ []) rest
message_picks (travelling a b c d is_width e is_life f) =
    passing (taking (passing (passing (passed (width_passes is_width) (passing (passed (life_passes is_life) (passing here)))))))

messages_pick : {from rest : List Token} {messages : List Message} → AreMessages from messages rest → Picks from (map (λ (message : Message). message.at) messages) rest
messages_pick (last is) = message_picks is
messages_pick {rest = rest} (last_with_comma {comma = comma} is a) = past comma rest (message_picks is)
messages_pick (more is a others) = joined_picks (message_picks is) (passing (messages_pick others))

pub class_picks : {from rest : List Token} {class : Class} → IsClass from class rest → Picks from (places_of_item (tree.class class)) rest
class_picks {rest = rest} (of_messages {closing = closing} a b c are d) = passing (taking (passing (past closing rest (messages_pick are))))

endpoint_picks : {from rest : List Token} {endpoint : Endpoint} → IsEndpoint from endpoint rest → Picks from (endpoint.at ∷ []) rest
endpoint_picks (held a b c d) = taking (passing (passing (passing here)))

endpoints_pick : {from rest : List Token} {endpoints : List Endpoint} → AreEndpoints from endpoints rest
    → Picks from (map (λ (endpoint : Endpoint). endpoint.at) endpoints) rest
endpoints_pick (last is) = endpoint_picks is
endpoints_pick (more is a others) = joined_picks (endpoint_picks is) (passing (endpoints_pick others))

pub ports_pick : {from rest : List Token} {endpoints : List Endpoint} → ArePorts from endpoints rest → Picks from (map (λ (endpoint : Endpoint). endpoint.at) endpoints) rest
ports_pick without = here
ports_pick (some are) = endpoints_pick are

register_picks : {from rest : List Token} {register : Register} → IsRegister from register rest → Picks from (register.at ∷ []) rest
register_picks (kept a b c is_width is_reset d) = passing (taking (passing (passed (width_passes is_width) (passed (reset_passes is_reset) (passing here)))))

pub registers_pick : {from rest : List Token} {registers : List Register} → AreRegisters from registers rest
    → Picks from (map (λ (register : Register). register.at) registers) rest
registers_pick ended = here
registers_pick (more is others) = joined_picks (register_picks is) (registers_pick others)

threads_pick : {from rest : List Token} {threads : List Term} → AreThreads from threads rest → Picks from (places_of_terms threads) rest
threads_pick ended = here
threads_pick (more a b is c others) = passing (passing (joined_picks (term_picks is) (passing (threads_pick others))))

pub process_picks : {from rest : List Token} {process : Process} → IsProcess from process rest → Picks from (places_of_item (tree.process process)) rest
process_picks {rest = rest} (of_parts {closing' = closing'} a b c are_ports d e are_registers are_threads f) =
    passing (taking (passing (joined_picks (ports_pick are_ports) (passing (passing
    (joined_picks (registers_pick are_registers) (past closing' rest (threads_pick are_threads))))))))

file_picks : {tokens : List Token} {file : File} → IsFile tokens file → Picks tokens (places_of_file file) []
file_picks (ended a) = passing here
file_picks (class_next is others) = joined_picks (class_picks is) (file_picks others)
file_picks (process_next is others) = joined_picks (process_picks is) (file_picks others)

-- what is picked behind a token has a greater place
rising_behind : (token next : Token) (from : List Token) → ArePlacesRising (token ∷ next ∷ from) → ArePlacesRising (token ∷ from)
rising_behind token next [] rising = tt
rising_behind token next (later ∷ from) rising = (omega (arith, rising.0, rising.1.0), rising.1.1)

behind : (token : Token) {from rest : List Token} {place : ℕ} {places : List ℕ} → ArePlacesRising (token ∷ from) → Picks from (place ∷ places) rest → token.at < place
behind token rising (passing {token = next} {from = from} one) = behind token (rising_behind token next from rising) one
behind token rising (taking one) = rising.0

pub rising_on : (token : Token) (from : List Token) → ArePlacesRising (token ∷ from) → ArePlacesRising from
rising_on token [] rising = tt
rising_on token (next ∷ from) rising = rising.1

with_front : (token : Token) {from rest : List Token} (places : List ℕ) → ArePlacesRising (token ∷ from) → Picks from places rest → NeverFall places
    → NeverFall (token.at ∷ places)
with_front token [] rising one never = tt
with_front token (later ∷ places) rising one never =
    let further = behind token rising one in
    (omega (arith, further), never)

pub picks_never_fall : {from rest : List Token} {places : List ℕ} → Picks from places rest → ArePlacesRising from → NeverFall places
picks_never_fall here rising = tt
picks_never_fall (passing {token = token} {from = from} one) rising = picks_never_fall one (rising_on token from rising)
picks_never_fall (taking {token = token} {from = from} {places = places} one) rising =
    with_front token places rising one (picks_never_fall one (rising_on token from rising))

-- the tree of tokens whose places rise is in order
pub in_order : (tokens : List Token) (file : File) → ArePlacesRising tokens → IsFile tokens file → NeverFall (places_of_file file)
in_order tokens file rising is = picks_never_fall (file_picks is) rising

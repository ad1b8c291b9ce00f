-- What the stack of a thread that is being read says of the tokens so far, in the grammar's words. `first` are the tokens from
-- the thread's term on, and `now` those that are left where the top of the stack waits for a term, an act or an operand. Each
-- case names the tokens that its frame has taken, and where the part behind it waits, so that a part that is put into the frame
-- gives a larger part by one case of the grammar. `Reads` says the same of a state: the tokens of a straight part are told
-- one by one.
use Rattle.std.proofs.Common.{◌≡◌, ◌≤◌, ◌+◌, ℕ, List, [], ◌∷◌, Some, None}
use Rattle.anvil_lexer.specs.declared.token.Token.{Token}
use Rattle.anvil_lexer.specs.declared.token.TokenKind.TheVariants.{Key, Word, Number, Mark}
use Rattle.anvil_lexer.specs.declared.token.Keyword.TheVariants as key
use Rattle.anvil_lexer.specs.declared.token.Mark.TheVariants as mark
use Rattle.anvil_tree.specs.declared.expr.BinOp.{BinOp}
use Rattle.anvil_tree.specs.Tree.{Expr, Term, Act, Name}
use Rattle.anvil_grammar.specs.Words.{Is, Joining, disjunction, joined, operator_of, function_of}
use Rattle.anvil_grammar.specs.Grammar.{IsUnary, IsAt, IsExpr, IsTerm, IsAct}
use Rattle.anvil_grammar.specs.State as states
use Rattle.anvil_grammar.specs.State.{Label, Frame, ThreadState}
use Rattle.anvil_grammar.specs.Step.{strength_of, labelled}
use Rattle.anvil_grammar.proofs.Kept.Loosened.{left_level, level_strength}

-- how tight an operand the top of the stack asks for
abbrev pub asked : List Frame → ℕ
asked (states.inverting at ∷ stack) = 8
asked (states.operating operator at left ∷ stack) = strength_of operator + 1
asked stack = 1

mutual
  pub data WantsTerm (first : List Token) : List Frame → List Token → Type 0 where
    at_first : WantsTerm first [] first
    chained : {stack : List Frame} {sign : Token} {from now : List Token} {act : Act} → WantsTerm first stack from → IsAct from act (sign ∷ now)
        → Is (Mark mark.Chain) sign → WantsTerm first (states.following None act ∷ stack) now
    parted : {stack : List Frame} {sign : Token} {from now : List Token} {act : Act} → WantsTerm first stack from → IsAct from act (sign ∷ now)
        → Is (Mark mark.Semicolon) sign → WantsTerm first (states.besides None act ∷ stack) now
    chained_bound : {stack : List Frame} {let' word equals sign : Token} {from now : List Token} {name : Name} {act : Act}
        → WantsTerm first stack (let' ∷ word ∷ equals ∷ from) → Is (Key key.Let) let' → Is (Word name) word → Is (Mark mark.Equals) equals
        → IsAct from act (sign ∷ now) → Is (Mark mark.Chain) sign → WantsTerm first (states.following (Some name) act ∷ stack) now
    parted_bound : {stack : List Frame} {let' word equals sign : Token} {from now : List Token} {name : Name} {act : Act}
        → WantsTerm first stack (let' ∷ word ∷ equals ∷ from) → Is (Key key.Let) let' → Is (Word name) word → Is (Mark mark.Equals) equals
        → IsAct from act (sign ∷ now) → Is (Mark mark.Semicolon) sign → WantsTerm first (states.besides (Some name) act ∷ stack) now
    in_first_side : {stack : List Frame} {word opening : Token} {from now : List Token} {condition : Expr} → WantsAct first stack (word ∷ from)
        → Is (Key key.If) word → IsExpr from condition (opening ∷ now) → Is (Mark mark.OpenBrace) opening
        → WantsTerm first (states.first_side word.at condition ∷ stack) now
    in_second_side : {stack : List Frame} {word opening closing else' opening' : Token} {from middle now : List Token} {condition : Expr} {term : Term}
        → WantsAct first stack (word ∷ from) → Is (Key key.If) word → IsExpr from condition (opening ∷ middle) → Is (Mark mark.OpenBrace) opening
        → IsTerm middle term (closing ∷ else' ∷ opening' ∷ now) → Is (Mark mark.CloseBrace) closing → Is (Key key.Else) else'
        → Is (Mark mark.OpenBrace) opening' → WantsTerm first (states.second_side word.at condition term ∷ stack) now
    in_block : {stack : List Frame} {opening : Token} {now : List Token} → WantsAct first stack (opening ∷ now) → Is (Mark mark.OpenBrace) opening
        → WantsTerm first (states.blocking opening.at ∷ stack) now

  pub data WantsAct (first : List Token) : List Frame → List Token → Type 0 where
    unbound : {stack : List Frame} {now : List Token} → WantsTerm first stack now → WantsAct first stack now
    bound : {stack : List Frame} {let' word equals : Token} {now : List Token} {name : Name} → WantsTerm first stack (let' ∷ word ∷ equals ∷ now)
        → Is (Key key.Let) let' → Is (Word name) word → Is (Mark mark.Equals) equals → WantsAct first (states.binding name ∷ stack) now

pub data WantsOperand (first : List Token) : List Frame → List Token → Type 0 where
  inverted : {stack : List Frame} {tilde : Token} {now : List Token} → WantsOperand first stack (tilde ∷ now) → Is (Mark mark.Tilde) tilde
      → WantsOperand first (states.inverting tilde.at ∷ stack) now
  operated : {stack : List Frame} {sign : Token} {from now : List Token} {left : Expr} {operator : BinOp} (joining : Joining) → WantsOperand first stack from
      → asked stack ≤ level_strength (joined joining) → IsAt (left_level joining) from left (sign ∷ now)
      → operator_of joining sign.kind ≡ Some operator → WantsOperand first (states.operating operator sign.at left ∷ stack) now
  grouped : {stack : List Frame} {opening : Token} {now : List Token} → WantsOperand first stack (opening ∷ now) → Is (Mark mark.OpenParen) opening
      → WantsOperand first (states.grouping ∷ stack) now
  called : {stack : List Frame} {word opening : Token} {now : List Token} {operator : BinOp} → WantsOperand first stack (word ∷ opening ∷ now)
      → function_of word.kind ≡ Some operator → Is (Mark mark.OpenParen) opening → WantsOperand first (states.calling operator word.at ∷ stack) now
  called_second : {stack : List Frame} {word opening comma : Token} {from now : List Token} {operator : BinOp} {one : Expr}
      → WantsOperand first stack (word ∷ opening ∷ from) → function_of word.kind ≡ Some operator → Is (Mark mark.OpenParen) opening
      → IsExpr from one (comma ∷ now) → Is (Mark mark.Comma) comma → WantsOperand first (states.calling_second operator word.at one ∷ stack) now
  chosen : {stack : List Frame} {question : Token} {from now : List Token} {condition : Expr} → WantsOperand first stack from → asked stack ≤ 1
      → IsAt (joined disjunction) from condition (question ∷ now) → Is (Mark mark.Question) question
      → WantsOperand first (states.choosing question.at condition ∷ stack) now
  chosen_second : {stack : List Frame} {question colon : Token} {from middle now : List Token} {condition one : Expr} → WantsOperand first stack from
      → asked stack ≤ 1 → IsAt (joined disjunction) from condition (question ∷ middle) → Is (Mark mark.Question) question
      → IsExpr middle one (colon ∷ now) → Is (Mark mark.Colon) colon → WantsOperand first (states.choosing_second question.at condition one ∷ stack) now
  setting : {stack : List Frame} {word target assign : Token} {now : List Token} {name : Name} → WantsAct first stack (word ∷ target ∷ assign ∷ now)
      → Is (Key key.Set) word → Is (Word name) target → Is (Mark mark.Assign) assign
      → WantsOperand first (states.setting word.at (labelled name target) ∷ stack) now
  sending : {stack : List Frame} {word holder dot sent opening : Token} {now : List Token} {endpoint message : Name}
      → WantsAct first stack (word ∷ holder ∷ dot ∷ sent ∷ opening ∷ now) → Is (Key key.Send) word → Is (Word endpoint) holder → Is (Mark mark.Dot) dot
      → Is (Word message) sent → Is (Mark mark.OpenParen) opening
      → WantsOperand first (states.sending word.at (labelled endpoint holder) (labelled message sent) ∷ stack) now
  deciding : {stack : List Frame} {word : Token} {now : List Token} → WantsAct first stack (word ∷ now) → Is (Key key.If) word
      → WantsOperand first (states.deciding word.at ∷ stack) now
  evaluating : {stack : List Frame} {now : List Token} → WantsAct first stack now → WantsOperand first (states.evaluating ∷ stack) now

pub data Reads (first : List Token) : List Frame → ThreadState → List Token → Type 0 where
  at_term : {stack : List Frame} {now : List Token} → WantsTerm first stack now → Reads first stack states.term_wanted now
  let_read : {stack : List Frame} {let' : Token} {now : List Token} → WantsTerm first stack (let' ∷ now) → Is (Key key.Let) let'
      → Reads first stack states.let_name now
  let_named : {stack : List Frame} {word : Token} {now : List Token} {name : Name} → Reads first stack states.let_name (word ∷ now) → Is (Word name) word
      → Reads first stack (states.let_equals name) now
  at_act : {stack : List Frame} {now : List Token} → WantsAct first stack now → Reads first stack states.act_wanted now
  cycle_read : {stack : List Frame} {word : Token} {now : List Token} → WantsAct first stack (word ∷ now) → Is (Key key.Cycle) word
      → Reads first stack (states.cycle_count word.at) now
  set_read : {stack : List Frame} {word : Token} {now : List Token} → WantsAct first stack (word ∷ now) → Is (Key key.Set) word
      → Reads first stack (states.set_register word.at) now
  set_named : {stack : List Frame} {target : Token} {now : List Token} {at : ℕ} {name : Name} → Reads first stack (states.set_register at) (target ∷ now)
      → Is (Word name) target → Reads first stack (states.set_assign at (labelled name target)) now
  send_read : {stack : List Frame} {word : Token} {now : List Token} → WantsAct first stack (word ∷ now) → Is (Key key.Send) word
      → Reads first stack (states.send_endpoint word.at) now
  send_held : {stack : List Frame} {holder : Token} {now : List Token} {at : ℕ} {name : Name} → Reads first stack (states.send_endpoint at) (holder ∷ now)
      → Is (Word name) holder → Reads first stack (states.send_dot at (labelled name holder)) now
  send_dotted : {stack : List Frame} {dot : Token} {now : List Token} {at : ℕ} {endpoint : Label} → Reads first stack (states.send_dot at endpoint) (dot ∷ now)
      → Is (Mark mark.Dot) dot → Reads first stack (states.send_message at endpoint) now
  send_named : {stack : List Frame} {sent : Token} {now : List Token} {at : ℕ} {endpoint : Label} {name : Name}
      → Reads first stack (states.send_message at endpoint) (sent ∷ now) → Is (Word name) sent
      → Reads first stack (states.send_opening at endpoint (labelled name sent)) now
  receive_read : {stack : List Frame} {word : Token} {now : List Token} → WantsAct first stack (word ∷ now) → Is (Key key.Recv) word
      → Reads first stack (states.receive_endpoint word.at) now
  receive_held : {stack : List Frame} {holder : Token} {now : List Token} {at : ℕ} {name : Name} → Reads first stack (states.receive_endpoint at) (holder ∷ now)
      → Is (Word name) holder → Reads first stack (states.receive_dot at (labelled name holder)) now
  receive_dotted : {stack : List Frame} {dot : Token} {now : List Token} {at : ℕ} {endpoint : Label}
      → Reads first stack (states.receive_dot at endpoint) (dot ∷ now) → Is (Mark mark.Dot) dot → Reads first stack (states.receive_message at endpoint) now
  act_read : {stack : List Frame} {from now : List Token} {act : Act} → WantsAct first stack from → IsAct from act now
      → Reads first stack (states.after_act act) now
  first_read : {stack : List Frame} {word opening closing : Token} {from middle now : List Token} {condition : Expr} {term : Term}
      → WantsAct first stack (word ∷ from) → Is (Key key.If) word → IsExpr from condition (opening ∷ middle) → Is (Mark mark.OpenBrace) opening
      → IsTerm middle term (closing ∷ now) → Is (Mark mark.CloseBrace) closing → Reads first stack (states.after_first word.at condition term) now
  else_read : {stack : List Frame} {else' : Token} {now : List Token} {at : ℕ} {condition : Expr} {term : Term}
      → Reads first stack (states.after_first at condition term) (else' ∷ now) → Is (Key key.Else) else'
      → Reads first stack (states.else_opening at condition term) now
  at_operand : {stack : List Frame} {now : List Token} → WantsOperand first stack now → Reads first stack states.operand_wanted now
  star_read : {stack : List Frame} {star : Token} {now : List Token} → WantsOperand first stack (star ∷ now) → Is (Mark mark.Star) star
      → Reads first stack (states.shown_register star.at) now
  parenthesis_read : {stack : List Frame} {opening : Token} {now : List Token} → WantsOperand first stack (opening ∷ now) → Is (Mark mark.OpenParen) opening
      → Reads first stack (states.parenthesis_opened opening.at) now
  function_read : {stack : List Frame} {word : Token} {now : List Token} {operator : BinOp} → WantsOperand first stack (word ∷ now)
      → function_of word.kind ≡ Some operator → Reads first stack (states.call_opening operator word.at) now
  word_read : {stack : List Frame} {word : Token} {now : List Token} {name : Name} → WantsOperand first stack (word ∷ now) → Is (Word name) word
      → Reads first stack (states.after_word word.at name) now
  slice_opened : {stack : List Frame} {opening : Token} {now : List Token} {at : ℕ} {name : Name} → Reads first stack (states.after_word at name) (opening ∷ now)
      → Is (Mark mark.OpenBracket) opening → Reads first stack (states.slice_high at name) now
  slice_topped : {stack : List Frame} {top : Token} {now : List Token} {at high : ℕ} {name : Name} → Reads first stack (states.slice_high at name) (top ∷ now)
      → Is (Number high) top → Reads first stack (states.slice_colon at name high) now
  slice_parted : {stack : List Frame} {colon : Token} {now : List Token} {at high : ℕ} {name : Name}
      → Reads first stack (states.slice_colon at name high) (colon ∷ now) → Is (Mark mark.Colon) colon → Reads first stack (states.slice_low at name high) now
  slice_bottomed : {stack : List Frame} {bottom : Token} {now : List Token} {at high low : ℕ} {name : Name}
      → Reads first stack (states.slice_low at name high) (bottom ∷ now) → Is (Number low) bottom
      → Reads first stack (states.slice_closing at name high low) now
  operand_read : {stack : List Frame} {from now : List Token} {operand : Expr} → WantsOperand first stack from → IsUnary from operand now
      → Reads first stack (states.after_operand operand) now

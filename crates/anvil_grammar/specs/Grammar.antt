-- The grammar: which lists of tokens are a file, and which tree the file is. Each relation says of two lists of tokens,
-- and of a part of the tree, that the part stands at the front of the first list and that the second list is what
-- follows it. Places are those of the tokens named in each case. There is one case for each way to write a thing, and
-- none for parentheses but that they stand round an expression.
use Rattle.std.specs.Prelude.{◌≡◌, ℕ, List, [], ◌∷◌, Option, Some, None}
use Rattle.anvil_lexer.specs.declared.token.Token.{Token}
use Rattle.anvil_lexer.specs.declared.token.TokenKind.TheVariants.{Key, Word, Number, Literal, Mark, End}
use Rattle.anvil_lexer.specs.declared.token.Keyword.TheVariants as key
use Rattle.anvil_lexer.specs.declared.token.Mark.TheVariants as mark
use Rattle.anvil_tree.specs.declared.expr.BinOp.{BinOp}
use Rattle.anvil_tree.specs.declared.file.Side.{Side}
use Rattle.anvil_tree.specs.declared.file.Endpoint.{Endpoint}
use Rattle.anvil_tree.specs.declared.file.Message.{Message}
use Rattle.anvil_tree.specs.declared.file.Register.{Register}
use Rattle.anvil_tree.specs.declared.file.LifeText.{LifeText}
use Rattle.anvil_tree.specs.declared.file.LifeText.TheVariants.{Cycles, Until}
use Rattle.anvil_tree.specs.declared.file.LiteralText.{LiteralText}
use Rattle.anvil_tree.specs.Tree as tree
use Rattle.anvil_tree.specs.Tree.{Expr, Term, Act, Class, Process, Item, File}
use Rattle.anvil_tree.specs.Places.{place_of_expr}
use Rattle.anvil_grammar.specs.Words.{Is, Joining, disjunction, Level, unary, joined, operand_level, operator_of, goes_on_after, function_of, side_of}

-- Expressions, from the tightest on.
mutual
  -- with at most one operand, or in brackets
  pub data IsUnary : List Token → Expr → List Token → Type 0 where
    inverse : {tilde : Token} {from rest : List Token} {operand : Expr} → Is (Mark mark.Tilde) tilde
        → IsUnary from operand rest
        → IsUnary (tilde ∷ from) (tree.inverse tilde.at operand) rest
    shown : {star word : Token} {rest : List Token} {name : tree.Name} → Is (Mark mark.Star) star → Is (Word name) word
        → IsUnary (star ∷ word ∷ rest) (tree.shown star.at name) rest
    literal : {number : Token} {rest : List Token} {width value : ℕ} → Is (Literal width value) number
        → IsUnary (number ∷ rest) (tree.literal number.at width value) rest
    variable : {word : Token} {rest : List Token} {name : tree.Name} → Is (Word name) word
        → IsUnary (word ∷ rest) (tree.variable word.at name) rest
    slice : {word opening top colon bottom closing : Token} {rest : List Token} {name : tree.Name} {high low : ℕ}
        → Is (Word name) word
        → Is (Mark mark.OpenBracket) opening → Is (Number high) top → Is (Mark mark.Colon) colon
        → Is (Number low) bottom → Is (Mark mark.CloseBracket) closing
        → IsUnary (word ∷ opening ∷ top ∷ colon ∷ bottom ∷ closing ∷ rest) (tree.slice word.at name high low) rest
    function : {word opening comma closing : Token} {from middle rest : List Token} {operator : BinOp}
        {first second : Expr}
        → function_of word.kind ≡ Some operator → Is (Mark mark.OpenParen) opening → IsExpr from first (comma ∷ middle)
        → Is (Mark mark.Comma) comma
        → IsExpr middle second (closing ∷ rest) → Is (Mark mark.CloseParen) closing
        → IsUnary (word ∷ opening ∷ from) (tree.binary word.at operator first second) rest
    unit : {opening closing : Token} {rest : List Token} → Is (Mark mark.OpenParen) opening
        → Is (Mark mark.CloseParen) closing
        → IsUnary (opening ∷ closing ∷ rest) (tree.unit opening.at) rest
    grouped : {opening closing : Token} {from rest : List Token} {expr : Expr} → Is (Mark mark.OpenParen) opening
        → IsExpr from expr (closing ∷ rest)
        → Is (Mark mark.CloseParen) closing → IsUnary (opening ∷ from) expr rest

  -- with the operators of a level and of tighter ones
  pub data IsAt : Level → List Token → Expr → List Token → Type 0 where
    alone : {from rest : List Token} {expr : Expr} → IsUnary from expr rest → IsAt unary from expr rest
    begun : {joining : Joining} {from middle rest : List Token} {first whole : Expr}
        → IsAt (operand_level joining) from first middle
        → IsGrown joining first middle whole rest → IsAt (joined joining) from whole rest

  -- what an expression on the left grows to by the operators of one level that follow it: they group to the left, and a
  -- comparison takes one alone
  pub data IsGrown : Joining → Expr → List Token → Expr → List Token → Type 0 where
    ended : {joining : Joining} {left : Expr} {rest : List Token} → IsGrown joining left rest left rest
    grown : {joining : Joining} {left right whole : Expr} {sign : Token} {from middle rest : List Token}
        {operator : BinOp}
        → operator_of joining sign.kind ≡ Some operator → IsAt (operand_level joining) from right middle
        → IsFurther joining (tree.binary sign.at operator left right) middle whole rest
        → IsGrown joining left (sign ∷ from) whole rest

  pub data IsFurther : Joining → Expr → List Token → Expr → List Token → Type 0 where
    once : {joining : Joining} {left : Expr} {rest : List Token} → IsFurther joining left rest left rest
    again : {joining : Joining} {left whole : Expr} {from rest : List Token} → goes_on_after joining
        → IsGrown joining left from whole rest
        → IsFurther joining left from whole rest

  pub data IsExpr : List Token → Expr → List Token → Type 0 where
    plain : {from rest : List Token} {expr : Expr} → IsAt (joined disjunction) from expr rest → IsExpr from expr rest
    choice : {from middle after rest : List Token} {question colon : Token} {condition first second : Expr}
        → IsAt (joined disjunction) from condition (question ∷ middle) → Is (Mark mark.Question) question
        → IsExpr middle first (colon ∷ after) → Is (Mark mark.Colon) colon → IsExpr after second rest
        → IsExpr from (tree.choice question.at condition first second) rest

-- Terms and acts.
mutual
  -- a chain of acts, which groups to the right
  pub data IsTerm : List Token → Term → List Token → Type 0 where
    single : {from rest : List Token} {act : Act} → IsAct from act rest → IsTerm from (tree.single act) rest
    follow : {from middle rest : List Token} {sign : Token} {act : Act} {term : Term} → IsAct from act (sign ∷ middle)
        → Is (Mark mark.Chain) sign
        → IsTerm middle term rest → IsTerm from (tree.follow None act term) rest
    beside : {from middle rest : List Token} {sign : Token} {act : Act} {term : Term} → IsAct from act (sign ∷ middle)
        → Is (Mark mark.Semicolon) sign
        → IsTerm middle term rest → IsTerm from (tree.beside None act term) rest
    follow_bound : {let' word equals sign : Token} {from middle rest : List Token} {name : tree.Name} {act : Act}
        {term : Term}
        → Is (Key key.Let) let' → Is (Word name) word → Is (Mark mark.Equals) equals → IsAct from act (sign ∷ middle)
        → Is (Mark mark.Chain) sign
        → IsTerm middle term rest → IsTerm (let' ∷ word ∷ equals ∷ from) (tree.follow (Some name) act term) rest
    beside_bound : {let' word equals sign : Token} {from middle rest : List Token} {name : tree.Name} {act : Act}
        {term : Term}
        → Is (Key key.Let) let' → Is (Word name) word → Is (Mark mark.Equals) equals → IsAct from act (sign ∷ middle)
        → Is (Mark mark.Semicolon) sign
        → IsTerm middle term rest → IsTerm (let' ∷ word ∷ equals ∷ from) (tree.beside (Some name) act term) rest

  pub data IsAct : List Token → Act → List Token → Type 0 where
    cycle : {word number : Token} {rest : List Token} {count : ℕ} → Is (Key key.Cycle) word → Is (Number count) number
        → IsAct (word ∷ number ∷ rest) (tree.cycle word.at count number.at) rest
    set : {word target assign : Token} {from rest : List Token} {register : tree.Name} {value : Expr}
        → Is (Key key.Set) word
        → Is (Word register) target → Is (Mark mark.Assign) assign → IsExpr from value rest
        → IsAct (word ∷ target ∷ assign ∷ from) (tree.set word.at register target.at value) rest
    send : {word holder dot sent opening closing : Token} {from rest : List Token} {endpoint message : tree.Name}
        {value : Expr}
        → Is (Key key.Send) word
        → Is (Word endpoint) holder → Is (Mark mark.Dot) dot → Is (Word message) sent → Is (Mark mark.OpenParen) opening
        → IsExpr from value (closing ∷ rest) → Is (Mark mark.CloseParen) closing
        → IsAct (word ∷ holder ∷ dot ∷ sent ∷ opening ∷ from)
        (tree.send word.at endpoint holder.at message sent.at value) rest
    receive : {word holder dot received : Token} {rest : List Token} {endpoint message : tree.Name}
        → Is (Key key.Recv) word
        → Is (Word endpoint) holder → Is (Mark mark.Dot) dot → Is (Word message) received
        → IsAct (word ∷ holder ∷ dot ∷ received ∷ rest) (tree.receive word.at endpoint holder.at message received.at)
        rest
    when : {word opening closing : Token} {from middle rest : List Token} {condition : Expr} {first : Term}
        → Is (Key key.If) word
        → IsExpr from condition (opening ∷ middle) → Is (Mark mark.OpenBrace) opening
        → IsTerm middle first (closing ∷ rest) → Is (Mark mark.CloseBrace) closing
        → IsAct (word ∷ from) (tree.when word.at condition first) rest
    either : {word opening closing else' opening' closing' : Token} {from middle after rest : List Token}
        {condition : Expr} {first second : Term}
        → Is (Key key.If) word
        → IsExpr from condition (opening ∷ middle) → Is (Mark mark.OpenBrace) opening
        → IsTerm middle first (closing ∷ else' ∷ opening' ∷ after)
        → Is (Mark mark.CloseBrace) closing → Is (Key key.Else) else' → Is (Mark mark.OpenBrace) opening'
        → IsTerm after second (closing' ∷ rest) → Is (Mark mark.CloseBrace) closing'
        → IsAct (word ∷ from) (tree.either word.at condition first second) rest
    block : {opening closing : Token} {from rest : List Token} {term : Term} → Is (Mark mark.OpenBrace) opening
        → IsTerm from term (closing ∷ rest)
        → Is (Mark mark.CloseBrace) closing → IsAct (opening ∷ from) (tree.block opening.at term) rest
    pure : {from rest : List Token} {expr : Expr} → IsExpr from expr rest
        → IsAct from (tree.pure (place_of_expr expr) expr) rest

-- Classes.

-- how long the data of a message stands, with the place of its number or word
pub data IsLife : List Token → LifeText → ℕ → List Token → Type 0 where
  cycles : {hash number : Token} {rest : List Token} {count : ℕ} → Is (Mark mark.Hash) hash → Is (Number count) number
      → IsLife (hash ∷ number ∷ rest) (Cycles count) number.at rest
  until : {word : Token} {rest : List Token} {name : tree.Name} → Is (Word name) word
      → IsLife (word ∷ rest) (Until name) word.at rest

-- `logic` and a width in bits, with the place of its number
pub data IsWidth : List Token → (width at : ℕ) → List Token → Type 0 where
  bits : {word opening number closing : Token} {rest : List Token} {width : ℕ} → Is (Key key.Logic) word
      → Is (Mark mark.OpenBracket) opening
      → Is (Number width) number → Is (Mark mark.CloseBracket) closing
      → IsWidth (word ∷ opening ∷ number ∷ closing ∷ rest) width number.at rest

pub data IsMessage : List Token → Message → List Token → Type 0 where
  travelling : {way word colon opening at closing : Token} {from middle rest : List Token} {toward : Side}
      {name : tree.Name} {width width_at life_at : ℕ} {life : LifeText}
      → side_of way.kind ≡ Some toward → Is (Word name) word → Is (Mark mark.Colon) colon
      → Is (Mark mark.OpenParen) opening
      → IsWidth from width width_at (at ∷ middle) → Is (Mark mark.At) at → IsLife middle life life_at (closing ∷ rest)
      → Is (Mark mark.CloseParen) closing
      → IsMessage (way ∷ word ∷ colon ∷ opening ∷ from)
      (record {
        toward = toward;
        name = name;
        at = word.at;
        width = width;
        width_at = width_at;
        life = life;
        life_at = life_at;
      }) rest

-- one or more, with commas between them; a comma may stand behind the last one
pub data AreMessages : List Token → List Message → List Token → Type 0 where
  last : {from rest : List Token} {message : Message} → IsMessage from message rest
      → AreMessages from (message ∷ []) rest
  last_with_comma : {from rest : List Token} {comma : Token} {message : Message} → IsMessage from message (comma ∷ rest)
      → Is (Mark mark.Comma) comma
      → AreMessages from (message ∷ []) rest
  more : {from middle rest : List Token} {comma : Token} {message : Message} {messages : List Message}
      → IsMessage from message (comma ∷ middle)
      → Is (Mark mark.Comma) comma → AreMessages middle messages rest → AreMessages from (message ∷ messages) rest

pub data IsClass : List Token → Class → List Token → Type 0 where
  of_messages : {chan word opening closing : Token} {from rest : List Token} {name : tree.Name}
      {messages : List Message}
      → Is (Key key.Chan) chan
      → Is (Word name) word → Is (Mark mark.OpenBrace) opening → AreMessages from messages (closing ∷ rest)
      → Is (Mark mark.CloseBrace) closing
      → IsClass (chan ∷ word ∷ opening ∷ from) (record { name = name; at = word.at; messages = messages }) rest

-- Processes.

pub data IsEndpoint : List Token → Endpoint → List Token → Type 0 where
  held : {word colon way class' : Token} {rest : List Token} {side : Side} {name class_name : tree.Name}
      → Is (Word name) word
      → Is (Mark mark.Colon) colon → side_of way.kind ≡ Some side → Is (Word class_name) class'
      → IsEndpoint (word ∷ colon ∷ way ∷ class' ∷ rest)
      (record { name = name; at = word.at; side = side; class = class_name; class_at = class'.at }) rest

-- one or more, with commas between them
pub data AreEndpoints : List Token → List Endpoint → List Token → Type 0 where
  last : {from rest : List Token} {endpoint : Endpoint} → IsEndpoint from endpoint rest
      → AreEndpoints from (endpoint ∷ []) rest
  more : {from middle rest : List Token} {comma : Token} {endpoint : Endpoint} {endpoints : List Endpoint}
      → IsEndpoint from endpoint (comma ∷ middle)
      → Is (Mark mark.Comma) comma → AreEndpoints middle endpoints rest → AreEndpoints from (endpoint ∷ endpoints) rest

-- what a process has between its parentheses: none, or one and more
pub data ArePorts : List Token → List Endpoint → List Token → Type 0 where
  without : {rest : List Token} → ArePorts rest [] rest
  some : {from rest : List Token} {endpoints : List Endpoint} → AreEndpoints from endpoints rest
      → ArePorts from endpoints rest

-- what a register is reset to, where it is said
pub data IsReset : List Token → Option LiteralText → List Token → Type 0 where
  unsaid : {rest : List Token} → IsReset rest None rest
  said : {equals number : Token} {rest : List Token} {width value : ℕ} → Is (Mark mark.Equals) equals
      → Is (Literal width value) number
      → IsReset (equals ∷ number ∷ rest) (Some (record { width = width; value = value; at = number.at })) rest

pub data IsRegister : List Token → Register → List Token → Type 0 where
  kept : {reg word colon semicolon : Token} {from middle rest : List Token} {name : tree.Name} {width width_at : ℕ}
      {reset : Option LiteralText}
      → Is (Key key.Reg) reg → Is (Word name) word → Is (Mark mark.Colon) colon → IsWidth from width width_at middle
      → IsReset middle reset (semicolon ∷ rest) → Is (Mark mark.Semicolon) semicolon
      → IsRegister (reg ∷ word ∷ colon ∷ from)
      (record { name = name; at = word.at; width = width; width_at = width_at; reset = reset }) rest

pub data AreRegisters : List Token → List Register → List Token → Type 0 where
  ended : {rest : List Token} → AreRegisters rest [] rest
  more : {from middle rest : List Token} {register : Register} {registers : List Register}
      → IsRegister from register middle
      → AreRegisters middle registers rest → AreRegisters from (register ∷ registers) rest

pub data AreThreads : List Token → List Term → List Token → Type 0 where
  ended : {rest : List Token} → AreThreads rest [] rest
  more : {loop opening closing : Token} {from middle rest : List Token} {term : Term} {terms : List Term}
      → Is (Key key.Loop) loop
      → Is (Mark mark.OpenBrace) opening → IsTerm from term (closing ∷ middle) → Is (Mark mark.CloseBrace) closing
      → AreThreads middle terms rest
      → AreThreads (loop ∷ opening ∷ from) (term ∷ terms) rest

pub data IsProcess : List Token → Process → List Token → Type 0 where
  of_parts : {proc word opening closing opening' closing' : Token} {from middle after rest : List Token}
      {name : tree.Name} {endpoints : List Endpoint} {registers : List Register} {threads : List Term}
      → Is (Key key.Proc) proc → Is (Word name) word → Is (Mark mark.OpenParen) opening
      → ArePorts from endpoints (closing ∷ opening' ∷ middle)
      → Is (Mark mark.CloseParen) closing → Is (Mark mark.OpenBrace) opening' → AreRegisters middle registers after
      → AreThreads after threads (closing' ∷ rest) → Is (Mark mark.CloseBrace) closing'
      → IsProcess (proc ∷ word ∷ opening ∷ from)
      (record { name = name; at = word.at; endpoints = endpoints; registers = registers; threads = threads }) rest

-- Files: any number of classes and processes, and the end.
pub data IsFile : List Token → File → Type 0 where
  ended : {end : Token} → Is End end → IsFile (end ∷ []) []
  class_next : {from middle : List Token} {class : Class} {items : File} → IsClass from class middle
      → IsFile middle items
      → IsFile from (tree.class class ∷ items)
  process_next : {from middle : List Token} {process : Process} {items : File} → IsProcess from process middle
      → IsFile middle items
      → IsFile from (tree.process process ∷ items)

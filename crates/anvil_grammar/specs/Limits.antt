-- The limits of a file: how many brackets may be open at once, and how many things of each kind one owner may have. The
-- things of a file are told from the way in which the tokens are a file, since the tree has not all their places: it
-- has none of keywords, and none of the parenthesis by which an act may begin.
use Rattle.std.specs.Prelude.{ℕ, ◌+◌, ◌-◌, List, [], ◌∷◌, ◌++◌, map}
use Rattle.anvil_lexer.specs.declared.token.Token.{Token}
use Rattle.anvil_lexer.specs.declared.token.TokenKind.{TokenKind}
use Rattle.anvil_lexer.specs.declared.token.TokenKind.TheVariants.{Mark}
use Rattle.anvil_lexer.specs.declared.token.Mark.TheVariants as mark
use Rattle.anvil_tree.specs.declared.file.Endpoint.{Endpoint}
use Rattle.anvil_tree.specs.declared.file.Message.{Message}
use Rattle.anvil_tree.specs.declared.file.Register.{Register}
use Rattle.anvil_tree.specs.Tree.{Expr, Term, Act, Class, Process, File}
use Rattle.anvil_grammar.specs.declared.error.Counted.{Counted}
use Rattle.anvil_grammar.specs.declared.error.Counted.TheVariants as counted
use Rattle.anvil_grammar.specs.Begun.{Begin, HasOnePast}
use Rattle.anvil_grammar.specs.Grammar.{IsTerm, single, follow, beside, follow_bound, beside_bound, IsAct, cycle, set, send, receive, when, either, block, pure, AreMessages, last, last_with_comma, more, IsClass, of_messages, AreEndpoints, ArePorts, without, some, AreRegisters, ended, AreThreads, IsProcess, of_parts, IsFile, class_next, process_next}
use Rattle.anvil_tree.specs.Order.{nodes_of}

-- the most brackets that may be open at once
abbrev pub most_open : ℕ
most_open = 64

abbrev pub open_after : ℕ → TokenKind → ℕ
open_after depth (Mark mark.OpenBrace) = depth + 1
open_after depth (Mark mark.OpenParen) = depth + 1
open_after depth (Mark mark.OpenBracket) = depth + 1
open_after depth (Mark mark.CloseBrace) = depth - 1
open_after depth (Mark mark.CloseParen) = depth - 1
open_after depth (Mark mark.CloseBracket) = depth - 1
open_after depth kind = depth

-- how many brackets are open after the tokens, of so many before them
abbrev pub open_brackets : ℕ → List Token → ℕ
open_brackets depth [] = depth
open_brackets depth (token ∷ tokens) = open_brackets (open_after depth token.kind) tokens

-- a thing that begins by the first of the tokens, ahead of others
abbrev pub first_begins : Counted → List Token → List Begin → List Begin
first_begins kind [] others = others
first_begins kind (token ∷ tokens) others = record { kind = kind; at = token.at } ∷ others

-- the nodes of an expression, from left to right
abbrev pub nodes : Expr → List Begin
nodes expr = map (λ place. record { kind = counted.Expr; at = place }) (nodes_of expr)

-- an act begins by its first token, before its expression and the acts inside it
abbrev mutual
  pub begun_in_act : {from rest : List Token} {act : Act} → IsAct from act rest → List Begin
  begun_in_act {from = from} (cycle a b) = first_begins counted.Act from []
  begun_in_act {from = from} (set {value = value} a b c d) = first_begins counted.Act from (nodes value)
  begun_in_act {from = from} (send {value = value} a b c d e f g) = first_begins counted.Act from (nodes value)
  begun_in_act {from = from} (receive a b c d) = first_begins counted.Act from []
  begun_in_act {from = from} (when {condition = condition} a b c first d) =
      first_begins counted.Act from (nodes condition ++ begun_in_term first)
  begun_in_act {from = from} (either {condition = condition} a b c first d e f second g) =
      first_begins counted.Act from (nodes condition ++ (begun_in_term first ++ begun_in_term second))
  begun_in_act {from = from} (block a term b) = first_begins counted.Act from (begun_in_term term)
  begun_in_act {from = from} (pure {expr = expr} a) = first_begins counted.Act from (nodes expr)

  pub begun_in_term : {from rest : List Token} {term : Term} → IsTerm from term rest → List Begin
  begun_in_term (single act) = begun_in_act act
  begun_in_term (follow act a term) = begun_in_act act ++ begun_in_term term
  begun_in_term (beside act a term) = begun_in_act act ++ begun_in_term term
  begun_in_term (follow_bound a b c act d term) = begun_in_act act ++ begun_in_term term
  begun_in_term (beside_bound a b c act d term) = begun_in_act act ++ begun_in_term term

-- a message begins by its side, an endpoint by its name
abbrev pub begun_in_messages : {from rest : List Token} {messages : List Message} → AreMessages from messages rest
    → List Begin
begun_in_messages {from = from} (last a) = first_begins counted.Message from []
begun_in_messages {from = from} (last_with_comma a b) = first_begins counted.Message from []
begun_in_messages {from = from} (more a b others) = first_begins counted.Message from (begun_in_messages others)

abbrev pub begun_in_class : {from rest : List Token} {class : Class} → IsClass from class rest → List Begin
begun_in_class {from = from} (of_messages a b c messages d) =
    first_begins counted.Class from (begun_in_messages messages)

abbrev pub begun_in_endpoints : {from rest : List Token} {endpoints : List Endpoint} → AreEndpoints from endpoints rest
    → List Begin
begun_in_endpoints {from = from} (last a) = first_begins counted.Endpoint from []
begun_in_endpoints {from = from} (more a b others) = first_begins counted.Endpoint from (begun_in_endpoints others)

abbrev pub begun_in_ports : {from rest : List Token} {endpoints : List Endpoint} → ArePorts from endpoints rest
    → List Begin
begun_in_ports without = []
begun_in_ports (some endpoints) = begun_in_endpoints endpoints

-- registers, threads, classes and processes begin by their keywords
abbrev pub begun_in_registers : {from rest : List Token} {registers : List Register} → AreRegisters from registers rest
    → List Begin
begun_in_registers ended = []
begun_in_registers {from = from} (more a others) = first_begins counted.Register from (begun_in_registers others)

abbrev pub begun_in_threads : {from rest : List Token} {threads : List Term} → AreThreads from threads rest → List Begin
begun_in_threads ended = []
begun_in_threads {from = from} (more a b term c others) =
    first_begins counted.Thread from (begun_in_term term ++ begun_in_threads others)

abbrev pub begun_in_process : {from rest : List Token} {process : Process} → IsProcess from process rest → List Begin
begun_in_process {from = from} (of_parts a b c ports d e registers threads f) =
    first_begins counted.Process from
    (begun_in_ports ports ++ (begun_in_registers registers ++ begun_in_threads threads))

-- the things of a file
abbrev pub begun_in : {from : List Token} {file : File} → IsFile from file → List Begin
begun_in (ended a) = []
begun_in (class_next class others) = begun_in_class class ++ begun_in others
begun_in (process_next process others) = begun_in_process process ++ begun_in others

-- no owner is past a limit
abbrev pub AreFew : {from : List Token} {file : File} → IsFile from file → Type 0
AreFew is = (kind : Counted) (place : ℕ) → HasOnePast kind place (begun_in is) → ⊥

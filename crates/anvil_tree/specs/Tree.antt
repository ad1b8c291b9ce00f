-- The tree of a source file as plain data, which every definition and every proof speaks of. The types of the crate hold boxes
-- and vectors, so two equal trees of theirs need not be one value; `View` says which tree of this file each of them is.
-- Each part has the place of the token that it is named by. A name is its bytes.
use Rattle.std.specs.Prelude.{ℕ, List, Option}
use Rattle.anvil_tree.specs.declared.expr.BinOp.{BinOp}
use Rattle.anvil_tree.specs.declared.file.Endpoint.{Endpoint}
use Rattle.anvil_tree.specs.declared.file.Message.{Message}
use Rattle.anvil_tree.specs.declared.file.Register.{Register}

abbrev pub Name : Type 0
Name = List ℕ

-- expressions, by their root node and its place
pub data Expr : Type 0 where
  literal : (at width value : ℕ) → Expr
  variable : (at : ℕ) (name : Name) → Expr
  shown : (at : ℕ) (register : Name) → Expr
  inverse : (at : ℕ) (operand : Expr) → Expr
  binary : (at : ℕ) (operator : BinOp) (first second : Expr) → Expr
  slice : (at : ℕ) (name : Name) (high low : ℕ) → Expr
  choice : (at : ℕ) (condition first second : Expr) → Expr
  unit : (at : ℕ) → Expr

-- chains of acts, with the variable that a `let` binds, and the acts with their places
mutual
  pub data Term : Type 0 where
    single : Act → Term
    follow : (bound : Option Name) → Act → Term → Term
    beside : (bound : Option Name) → Act → Term → Term

  pub data Act : Type 0 where
    cycle : (at count count_at : ℕ) → Act
    set : (at : ℕ) (register : Name) (register_at : ℕ) (value : Expr) → Act
    send : (at : ℕ) (endpoint : Name) (endpoint_at : ℕ) (message : Name) (message_at : ℕ) (value : Expr) → Act
    receive : (at : ℕ) (endpoint : Name) (endpoint_at : ℕ) (message : Name) (message_at : ℕ) → Act
    when : (at : ℕ) (condition : Expr) → Term → Act
    either : (at : ℕ) (condition : Expr) → Term → Term → Act
    block : (at : ℕ) → Term → Act
    pure : (at : ℕ) → Expr → Act

pub record Class : Type 0 where
  pub name : Name
  pub at : ℕ
  pub messages : List Message

pub record Process : Type 0 where
  pub name : Name
  pub at : ℕ
  pub endpoints : List Endpoint
  pub registers : List Register
  pub threads : List Term

pub data Item : Type 0 where
  class : Class → Item
  process : Process → Item

-- a file is its items
abbrev pub File : Type 0
File = List Item

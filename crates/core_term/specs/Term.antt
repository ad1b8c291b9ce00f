-- A thread's body as plain data: terms, acts and expressions, after names stand for numbers. This is what every other
-- definition speaks of; `View` reads it off the types of the code.
--
-- A site is the number of an act in its thread. A variable has the number of the act that makes it. Registers and ports
-- have their numbers in the process.
use Rattle.std.specs.Prelude.{ℕ, Bool}
use Rattle.core_term.specs.declared.operators.BinOp.{BinOp}

-- Lit: a number of a width. Var: a variable. Reg: what a register shows. Not, with the width. Bin: an operator, with
-- the width of its result and that of its second operand. Slice: the bits of a variable from `high` down to `low`.
-- Choose: the second where the first is 1, else the third
pub data Expr : Type 0 where
  Lit : (width number : ℕ) → Expr
  Var : (variable : ℕ) → Expr
  Reg : (register : ℕ) → Expr
  Not : (width : ℕ) → Expr → Expr
  Bin : BinOp → (width low_width : ℕ) → Expr → Expr → Expr
  Slice : (variable high low : ℕ) → Expr
  Choose : Expr → Expr → Expr → Expr

-- One: an act alone. Then: the rest begins where the act ends. Both: the rest begins with the act.
-- If: with both sides; `worded` where it has a value. When: without an else. Wait: a variable alone. Pure: any other
-- expression. Nothing: `()`
mutual
  pub data Term : Type 0 where
    One : Act → Term
    Then : Act → Term → Term
    Both : Act → Term → Term

  pub data Act : Type 0 where
    Cycle : (site : ℕ) → (count : ℕ) → Act
    Set : (site : ℕ) → (register : ℕ) → Expr → Act
    Send : (site : ℕ) → (port : ℕ) → Expr → Act
    Recv : (site : ℕ) → (port : ℕ) → Act
    If : (site : ℕ) → Expr → Term → Term → (worded : Bool) → Act
    When : (site : ℕ) → Expr → Term → Act
    Block : (site : ℕ) → Term → Act
    Wait : (site : ℕ) → (variable : ℕ) → Act
    Pure : (site : ℕ) → Expr → Act
    Nothing : (site : ℕ) → Act

abbrev pub site : Act → ℕ
site (Cycle p n) = p
site (Set p r e) = p
site (Send p m e) = p
site (Recv p m) = p
site (If p e t u w) = p
site (When p e t) = p
site (Block p t) = p
site (Wait p x) = p
site (Pure p e) = p
site (Nothing p) = p

-- the act that a term begins with
abbrev pub head : Term → Act
head (One a) = a
head (Then a t) = a
head (Both a t) = a

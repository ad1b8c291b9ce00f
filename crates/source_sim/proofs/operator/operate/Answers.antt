-- Each operator is that of `Bits`; the widths that its call asks for are those that are asked here.
use Rattle.std.proofs.Common.{◌≡◌, ℕ, ◌==◌, true, IsTrue, subst, sym, arith}
use Rattle.std.proofs.lemmas.Bool.Decides.{nat_tests}
use Rattle.anvil_bits.specs.Number.{Number}
use Rattle.core_term.specs.declared.operators.BinOp.{BinOp}
use Rattle.core_term.specs.declared.operators.BinOp.TheVariants as operator
use Rattle.core_term.specs.Operators.{operate as operated}
use Rattle.core_term.specs.Rows.{number_of}
use Rattle.core_term.specs.Sized.{operands_fit}
use Rattle.core_term.specs.Widths.{result_width}
use Rattle.source_sim.proofs.operator.operate.Goals as goal

same : (w v : ℕ) → (w == v) ≡ true → w ≡ v
same w v e = grind (arith, nat_tests)

fit : (o o' : BinOp) (w v : ℕ) → o ≡ o' → IsTrue (operands_fit o w v) → IsTrue (operands_fit o' w v)
fit o o' w v e = subst (λ p. IsTrue (operands_fit p w v)) e

given : (o o' : BinOp) (x y r : Number) → o ≡ o' → r ≡ number_of (result_width o' x.width y.width) (operated o' (result_width o' x.width y.width) y.width x.value y.value)
    → r ≡ number_of (result_width o x.width y.width) (operated o (result_width o x.width y.width) y.width x.value y.value)
given o o' x y r e = subst (λ p. r ≡ number_of (result_width p x.width y.width) (operated p (result_width p x.width y.width) y.width x.value y.value)) (sym e)

pub add-requires : goal.add-requires
add-requires c = same c.args.x.width c.args.y.width (fit c.args.operator operator.Add c.args.x.width c.args.y.width c.in-Add.is c.requires)

pub sub-requires : goal.sub-requires
sub-requires c = same c.args.x.width c.args.y.width (fit c.args.operator operator.Sub c.args.x.width c.args.y.width c.in-Sub.is c.requires)

pub mul-requires : goal.mul-requires
mul-requires c = same c.args.x.width c.args.y.width (fit c.args.operator operator.Mul c.args.x.width c.args.y.width c.in-Mul.is c.requires)

pub and-requires : goal.and-requires
and-requires c = same c.args.x.width c.args.y.width (fit c.args.operator operator.And c.args.x.width c.args.y.width c.in-And.is c.requires)

pub or-requires : goal.or-requires
or-requires c = same c.args.x.width c.args.y.width (fit c.args.operator operator.Or c.args.x.width c.args.y.width c.in-Or.is c.requires)

pub xor-requires : goal.xor-requires
xor-requires c = same c.args.x.width c.args.y.width (fit c.args.operator operator.Xor c.args.x.width c.args.y.width c.in-Xor.is c.requires)

pub eq_bits-requires : goal.eq_bits-requires
eq_bits-requires c = same c.args.x.width c.args.y.width (fit c.args.operator operator.Eq c.args.x.width c.args.y.width c.in-Eq.is c.requires)

pub ne_bits-requires : goal.ne_bits-requires
ne_bits-requires c = same c.args.x.width c.args.y.width (fit c.args.operator operator.Ne c.args.x.width c.args.y.width c.in-Ne.is c.requires)

pub lt-requires : goal.lt-requires
lt-requires c = same c.args.x.width c.args.y.width (fit c.args.operator operator.Lt c.args.x.width c.args.y.width c.in-Lt.is c.requires)

pub le-requires : goal.le-requires
le-requires c = same c.args.x.width c.args.y.width (fit c.args.operator operator.Le c.args.x.width c.args.y.width c.in-Le.is c.requires)

pub gt-requires : goal.gt-requires
gt-requires c = same c.args.x.width c.args.y.width (fit c.args.operator operator.Gt c.args.x.width c.args.y.width c.in-Gt.is c.requires)

pub ge-requires : goal.ge-requires
ge-requires c = same c.args.x.width c.args.y.width (fit c.args.operator operator.Ge c.args.x.width c.args.y.width c.in-Ge.is c.requires)

pub returns-in-Add : goal.returns-in-Add
returns-in-Add c = given c.args.operator operator.Add c.args.x c.args.y c.add.result c.in-Add.is c.add.ensures

pub returns-in-Sub : goal.returns-in-Sub
returns-in-Sub c = given c.args.operator operator.Sub c.args.x c.args.y c.sub.result c.in-Sub.is c.sub.ensures

pub returns-in-Mul : goal.returns-in-Mul
returns-in-Mul c = given c.args.operator operator.Mul c.args.x c.args.y c.mul.result c.in-Mul.is c.mul.ensures

pub returns-in-And : goal.returns-in-And
returns-in-And c = given c.args.operator operator.And c.args.x c.args.y c.and.result c.in-And.is c.and.ensures

pub returns-in-Or : goal.returns-in-Or
returns-in-Or c = given c.args.operator operator.Or c.args.x c.args.y c.or.result c.in-Or.is c.or.ensures

pub returns-in-Xor : goal.returns-in-Xor
returns-in-Xor c = given c.args.operator operator.Xor c.args.x c.args.y c.xor.result c.in-Xor.is c.xor.ensures

pub returns-in-Eq : goal.returns-in-Eq
returns-in-Eq c = given c.args.operator operator.Eq c.args.x c.args.y c.eq_bits.result c.in-Eq.is c.eq_bits.ensures

pub returns-in-Ne : goal.returns-in-Ne
returns-in-Ne c = given c.args.operator operator.Ne c.args.x c.args.y c.ne_bits.result c.in-Ne.is c.ne_bits.ensures

pub returns-in-Lt : goal.returns-in-Lt
returns-in-Lt c = given c.args.operator operator.Lt c.args.x c.args.y c.lt.result c.in-Lt.is c.lt.ensures

pub returns-in-Le : goal.returns-in-Le
returns-in-Le c = given c.args.operator operator.Le c.args.x c.args.y c.le.result c.in-Le.is c.le.ensures

pub returns-in-Gt : goal.returns-in-Gt
returns-in-Gt c = given c.args.operator operator.Gt c.args.x c.args.y c.gt.result c.in-Gt.is c.gt.ensures

pub returns-in-Ge : goal.returns-in-Ge
returns-in-Ge c = given c.args.operator operator.Ge c.args.x c.args.y c.ge.result c.in-Ge.is c.ge.ensures

pub returns-in-Shl : goal.returns-in-Shl
returns-in-Shl c = given c.args.operator operator.Shl c.args.x c.args.y c.shl.result c.in-Shl.is c.shl.ensures

pub returns-in-Shr : goal.returns-in-Shr
returns-in-Shr c = given c.args.operator operator.Shr c.args.x c.args.y c.shr.result c.in-Shr.is c.shr.ensures

pub returns-in-Cat : goal.returns-in-Cat
returns-in-Cat c = given c.args.operator operator.Cat c.args.x c.args.y c.cat.result c.in-Cat.is c.cat.ensures

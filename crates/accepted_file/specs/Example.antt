-- The term of the worked example: a register counts up every second cycle.
use Rattle.std.specs.Prelude.{ℕ}
use Rattle.core_term.specs.declared.operators.BinOp.TheVariants.{Add}
use Rattle.core_term.specs.Term.{Term, Lit, Reg, Bin, One, Then, Cycle, Set}
use Rattle.core_term.specs.Widths.{Widths}

-- set r := *r + 8'd1 >> cycle 2, for the register r
abbrev pub counting_term : Widths → ℕ → Term
counting_term widths r = Then (Set 0 r (Bin Add (widths.registers r) 8 (Reg r) (Lit 8 1))) (One (Cycle 1 2))

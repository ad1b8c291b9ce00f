-- Terms that can be drawn: what the checks on widths say of them, as far as their nets are concerned.
use Rattle.std.specs.Prelude.{ℕ, ◌==◌, nat_lt, Bool, true, ◌&&◌}
use Rattle.core_term.specs.Term.{Expr, Term, One, Then, Both, Act, Set, Send, Recv, If, When, Block, Pure}
use Rattle.core_term.specs.Widths.{Widths, expr_width, term_width}
use Rattle.core_term.specs.Sized.{parts_fit, word_fits}
use Rattle.core_term.specs.View.{after_act}

-- the condition of an `if`, in a process with so many registers
abbrev pub asks_fit : (registers : ℕ) → Widths → Expr → Bool
asks_fit registers widths condition = parts_fit registers widths condition && (expr_width widths condition == 1)

abbrev mutual
  pub acts_fit : (registers : ℕ) → Widths → Term → Bool
  acts_fit registers widths (One act) = one_fits registers widths act
  acts_fit registers widths (Then act rest) =
      one_fits registers widths act && acts_fit registers (after_act widths act) rest
  acts_fit registers widths (Both act rest) =
      one_fits registers widths act && acts_fit registers (after_act widths act) rest

  pub one_fits : (registers : ℕ) → Widths → Act → Bool
  one_fits registers widths (Set place register value) = parts_fit registers widths value
  one_fits registers widths (Send place port value) = parts_fit registers widths value
  one_fits registers widths (Recv place port) = nat_lt 0 (widths.ports port)
  one_fits registers widths (If place condition first second worded) =
      asks_fit registers widths condition
      && (acts_fit registers widths first
      && (acts_fit registers widths second
      && word_fits worded (term_width widths first) (term_width widths second)))
  one_fits registers widths (When place condition first) =
      asks_fit registers widths condition && acts_fit registers widths first
  one_fits registers widths (Block place inner) = acts_fit registers widths inner
  one_fits registers widths (Pure place value) = parts_fit registers widths value
  one_fits registers widths act = true

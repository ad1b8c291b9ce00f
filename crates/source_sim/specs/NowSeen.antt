-- What an act sees of a cycle, as widths, and what an act of no parts makes of it.
use Rattle.std.specs.Prelude.{ℕ, IsTrue, Bool, List, length, map, slice_index_or, Option, Some, None}
use Rattle.std.specs.List.{slice_get}
use Rattle.anvil_bits.specs.Number.{Number}
use Rattle.core_term.specs.declared.process.CorePort.{CorePort}
use Rattle.core_term.specs.declared.process.CoreReg.{CoreReg}
use Rattle.core_term.specs.declared.rows.InCell.{InCell}
use Rattle.core_term.specs.declared.term.CoreAct.{CoreAct}
use Rattle.core_term.specs.declared.term.CoreKind as code
use Rattle.core_term.specs.declared.term.CoreKind.{CoreKind}
use Rattle.core_term.specs.declared.term.CoreExpr.{CoreExpr}
use Rattle.core_term.specs.declared.term.CoreTerm.{CoreTerm}
use Rattle.core_term.specs.Process.{Port, nth_port, nth_register}
use Rattle.core_term.specs.ProcessView.{port_of, register_of}
use Rattle.core_term.specs.Rows.{nth_cell, valid_in, ack_in, cells_fit}
use Rattle.core_term.specs.Sized.{parts_fit}
use Rattle.core_term.specs.Term.{Expr, Term, Act, Cycle, Set, Send, Recv, Wait, Pure, Nothing}
use Rattle.core_term.specs.View.{expr_of}
use Rattle.core_term.specs.Widths.{Widths}
use Rattle.sim_laws.specs.declared.act_state.ActState.{ActState}
use Rattle.sim_laws.specs.Advance.{Advanced, state_at, number_in, timed, talked, waited_for, advance, inside, advance_act}
use Rattle.sim_laws.specs.Passes.{thread_step}
use Rattle.sim_laws.specs.Typed.{term_in, act_in, Typed, TypedAct, AreWide, AreRegisters}
use Rattle.sim_laws.specs.WidthsFound.{or_zero, port_width, expr_found}
use Rattle.source_sim.specs.declared.now.Now.{Now}

-- the widths that are seen in a cycle
abbrev pub widths_in : Now → Widths
widths_in now = record {
  registers = λ r. (nth_register (map register_of now.regs.now) r).width;
  ports = λ m. (nth_port (map port_of now.ports.now) m).width;
  variables = λ y. slice_index_or now.widths.now y 0;
}

abbrev pub ports_in : Now → List Port
ports_in now = map port_of now.ports.now

-- an act, a term and an expression of the code, read with these widths
abbrev pub act_now : Now → CoreAct → Act
act_now now act = act_in (widths_in now) act.site act.kind

abbrev pub term_now : Now → CoreTerm → Term
term_now now term = term_in (widths_in now) term

abbrev pub expr_now : Now → CoreExpr → Expr
expr_now now e = expr_of (widths_in now) e

-- an act, a term and an expression go with these widths
abbrev pub ActFits : Now → Act → Type 0
ActFits now a = TypedAct (length now.widths.now) (length now.registers.now) (ports_in now) (widths_in now) a

abbrev pub TermFits : Now → Term → Type 0
TermFits now t = Typed (length now.widths.now) (length now.registers.now) (ports_in now) (widths_in now) t

abbrev pub ExprFits : Now → Expr → Type 0
ExprFits now e = IsTrue (parts_fit (length now.registers.now) (widths_in now) e)

-- what is kept of the acts, the registers and the row have these widths
pub record IsSeen (now : Now) (acts : List ActState) : Type 0 where
  pub wide : AreWide now.widths.now (widths_in now) acts
  pub registers : AreRegisters now.regs.now now.registers.now
  pub cells : IsTrue (cells_fit (ports_in now) now.cells.now)

-- one cycle of a term, of an act, and of what stands inside an act that was reached
abbrev pub advance_now : Now → Term → List ActState → Advanced
advance_now now t acts = advance now.cells.now now.registers.now t acts

abbrev pub advance_act_now : Now → Act → List ActState → Advanced
advance_act_now now a acts = advance_act now.cells.now now.registers.now a acts

abbrev pub inside_now : Now → Act → List ActState → Advanced
inside_now now a acts = inside now.cells.now now.registers.now a acts

-- one cycle of a thread, of which a turn has begun or none has
abbrev pub step_now : Now → Term → Bool → List ActState → List ActState
step_now now t begun acts = thread_step now.cells.now now.registers.now t begun acts

-- what an act of no parts has made by now, once it was reached
abbrev pub made_alone : List InCell → Act → List ActState → Option Number
made_alone cells (Cycle p n) acts = timed (state_at acts p)
made_alone cells (Set p r e) acts = timed (state_at acts p)
made_alone cells (Send p m e) acts = talked (state_at acts p) (ack_in (nth_cell cells m)) (state_at acts p).made
made_alone cells (Recv p m) acts = talked (state_at acts p) (valid_in (nth_cell cells m)) (number_in (nth_cell cells m))
made_alone cells (Wait p y) acts = waited_for (state_at acts y)
made_alone cells (Pure p e) acts = talked (state_at acts p) (state_at acts p).fresh (state_at acts p).taken
made_alone cells (Nothing p) acts = Some (state_at acts p).made
made_alone cells a acts = None

-- the width of its value, by the widths of the sites before; it is 0 where the act has none
abbrev pub width_alone : List CorePort → List CoreReg → List ℕ → CoreKind → ℕ
width_alone ports registers widths (code.Recv m) = port_width (slice_get ports m)
width_alone ports registers widths (code.Wait y) = or_zero (slice_get widths y)
width_alone ports registers widths (code.Pure e) = expr_found registers widths e
width_alone ports registers widths k = 0

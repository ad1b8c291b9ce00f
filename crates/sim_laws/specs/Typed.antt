-- Widths of what is kept: those of the sites of a thread do not change.
--
-- A variable is named by its site, and each site has one act; so one list of widths, by sites, serves the whole body.
use Rattle.std.specs.Prelude.{ℕ, ◌≡◌, ◌<◌, ◌==◌, if◌then◌else◌, IsTrue, true, false, List, length, map, slice_index_or, Option, Some, None}
use Rattle.anvil_bits.specs.Number.{Number}
use Rattle.core_term.specs.declared.term.CoreTerm.{CoreTerm, One', Then', Both'}
use Rattle.core_term.specs.declared.term.CoreKind.{CoreKind, Cycle, Set, Send, Recv, If', Block', Wait, Pure, Unit, Held-CoreKind-If-2, None', Some'}
use Rattle.core_term.specs.declared.process.CoreReg.{CoreReg}
use Rattle.core_term.specs.Process.{Port, nth_port, nth_register}
use Rattle.core_term.specs.ProcessView.{port_of, register_of}
use Rattle.core_term.specs.Sized.{parts_fit}
use Rattle.core_term.specs.Term as term
use Rattle.core_term.specs.Term.{Expr, Term, Act, One, Then, Both}
use Rattle.core_term.specs.View.{expr_of, if_of}
use Rattle.core_term.specs.Widths.{Widths, expr_width}
use Rattle.sim_laws.specs.declared.act_state.ActState.{ActState}
use Rattle.sim_laws.specs.declared.act_state.Does.{Does}
use Rattle.sim_laws.specs.declared.act_state.Does.TheVariants as does
use Rattle.sim_laws.specs.Advance.{zero_bit, state_at}

-- the numbers of the registers have their widths
pub record AreRegisters (regs : List CoreReg) (numbers : List Number) : Type 0 where
  pub long : length numbers ≡ length regs
  pub wide : (r : ℕ) → r < length numbers → (slice_index_or numbers r zero_bit).width ≡ (nth_register (map register_of regs) r).width

-- the value of an act that is unit is kept as a number of one bit
abbrev pub kept_width : ℕ → ℕ
kept_width w = if w == 0 then 1 else w

-- what an act takes has the width of the register that it sets, or of the port that it sends on
abbrev pub TakeFits : Widths → Does → Number → Type 0
TakeFits widths does.Nothing v = v ≡ v
TakeFits widths (does.Sends m) v = v.width ≡ widths.ports m
TakeFits widths (does.Receives m) v = v ≡ v
TakeFits widths (does.Sets r) v = v.width ≡ widths.registers r

-- what is kept of each site has its widths
pub record AreWide (list : List ℕ) (widths : Widths) (acts : List ActState) : Type 0 where
  pub long : length acts ≡ length list
  pub made : (y : ℕ) → y < length list → (state_at acts y).made.width ≡ kept_width (slice_index_or list y 0)
  pub takes : (y : ℕ) → (state_at acts y).begun ≡ true → TakeFits widths (state_at acts y).does (state_at acts y).taken

-- A core term as a plain term, with the one list of widths throughout.
abbrev mutual
  pub term_in : Widths → CoreTerm → Term
  term_in widths (One' s p k) = One (act_in widths s k)
  term_in widths (Then' s p k q t) = Then (act_in widths s k) (term_in widths t)
  term_in widths (Both' s p k q t) = Both (act_in widths s k) (term_in widths t)

  pub act_in : Widths → ℕ → CoreKind → Act
  act_in widths s (Cycle n) = term.Cycle s n
  act_in widths s (Set r e) = term.Set s r (expr_of widths e)
  act_in widths s (Send m e) = term.Send s m (expr_of widths e)
  act_in widths s (Recv m) = term.Recv s m
  act_in widths s (If' e p t u w) = if_of s (expr_of widths e) (term_in widths t) (else_in widths u) w
  act_in widths s (Block' p t) = term.Block s (term_in widths t)
  act_in widths s (Wait y) = term.Wait s y
  act_in widths s (Pure e) = term.Pure s (expr_of widths e)
  act_in widths s Unit = term.Nothing s

  pub else_in : Widths → Held-CoreKind-If-2 → Option Term
  else_in widths None' = None
  else_in widths (Some' p t) = Some (term_in widths t)

-- the width of the value of a term: that of its last act
abbrev pub last_width : Widths → Term → ℕ
last_width widths (One a) = widths.variables (term.site a)
last_width widths (Then a t) = last_width widths t
last_width widths (Both a t) = last_width widths t

-- an expression fits, in a process with so many registers
abbrev pub Fits : ℕ → Widths → Expr → Type 0
Fits count widths e = IsTrue (parts_fit count widths e)

-- every act has a site below `sites`, names ports and registers that there are, and takes and makes numbers of its widths
abbrev mutual
  pub Typed : (sites registers : ℕ) → List Port → Widths → Term → Type 0
  Typed sites registers ports widths (One a) = TypedAct sites registers ports widths a
  Typed sites registers ports widths (Then a t) = TypedAct sites registers ports widths a × Typed sites registers ports widths t
  Typed sites registers ports widths (Both a t) = TypedAct sites registers ports widths a × Typed sites registers ports widths t

  pub TypedAct : (sites registers : ℕ) → List Port → Widths → Act → Type 0
  TypedAct sites registers ports widths (term.Cycle p n) = p < sites
  TypedAct sites registers ports widths (term.Set p r e) = (p < sites) × Fits registers widths e × (r < registers) × (expr_width widths e ≡ widths.registers r)
  TypedAct sites registers ports widths (term.Send p m e) = (p < sites) × Fits registers widths e × (m < length ports) × (expr_width widths e ≡ widths.ports m)
  TypedAct sites registers ports widths (term.Recv p m) = (p < sites) × (m < length ports) × ((nth_port ports m).received ≡ true) × (widths.ports m ≡ widths.variables p) × (0 < widths.ports m)
  TypedAct sites registers ports widths (term.If p e t u true) =
      (p < sites) × Fits registers widths e × Typed sites registers ports widths t × Typed sites registers ports widths u × (last_width widths t ≡ widths.variables p) × (last_width widths u ≡ widths.variables p)
  TypedAct sites registers ports widths (term.If p e t u false) = (p < sites) × Fits registers widths e × Typed sites registers ports widths t × Typed sites registers ports widths u
  TypedAct sites registers ports widths (term.When p e t) = (p < sites) × Fits registers widths e × Typed sites registers ports widths t
  TypedAct sites registers ports widths (term.Block p t) = (p < sites) × Typed sites registers ports widths t × (last_width widths t ≡ widths.variables p)
  TypedAct sites registers ports widths (term.Wait p y) = (p < sites) × (y < sites) × (widths.variables y ≡ widths.variables p)
  TypedAct sites registers ports widths (term.Pure p e) = (p < sites) × Fits registers widths e × (expr_width widths e ≡ widths.variables p) × (0 < widths.variables p)
  TypedAct sites registers ports widths (term.Nothing p) = p < sites

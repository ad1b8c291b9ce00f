-- The widths of the acts of a body, found in one walk over the code, each act before the acts inside it.
--
-- What the walk finds of a body that fits its process are the widths by sites of the definitions. A number that is out of range
-- counts as 0 here, and a sum as far as the code counts, so that the walk needs no premise.
use Rattle.std.specs.Prelude.{ℕ, ◌+◌, ◌-◌, min, if◌then◌else◌, false, List, [], ◌∷◌, ◌++◌, length, map, slice_set, Option, Some, None}
use Rattle.std.specs.List.{slice_get}
use Rattle.anvil_bits.specs.Number.{Number}
use Rattle.core_term.specs.declared.operators.BinOp.{BinOp}
use Rattle.core_term.specs.declared.operators.BinOp.TheVariants.{Add, Sub, Mul, And, Or, Xor, Eq, Ne, Lt, Le, Gt, Ge, Shl, Shr, Cat}
use Rattle.core_term.specs.declared.process.CorePort.{CorePort}
use Rattle.core_term.specs.declared.process.CoreReg.{CoreReg}
use Rattle.core_term.specs.declared.term.CoreExpr.{CoreExpr, Lit, Var, Reg, Not', Bin', Slice, Choose'}
use Rattle.core_term.specs.declared.term.CoreTerm.{CoreTerm, One', Then', Both'}
use Rattle.core_term.specs.declared.term.CoreKind.{CoreKind, Cycle, Set, Send, Recv, If', Block', Wait, Pure, Unit, Held-CoreKind-If-2, None', Some'}
use Rattle.core_term.specs.Rows.{number_of}
use Rattle.core_term.specs.Sized.{is_width}
use Rattle.exchanges.specs.declared.latest.Latest.{Latest}
use Rattle.sim_laws.specs.declared.act_state.ActState.{ActState}
use Rattle.sim_laws.specs.declared.act_state.Does.TheVariants as does
use Rattle.sim_laws.specs.Advance.{zero_bit}
use Rattle.sim_laws.specs.Kept.{Kept}

abbrev pub or_zero : Option ℕ → ℕ
or_zero None = 0
or_zero (Some width) = width

abbrev pub register_width : Option CoreReg → ℕ
register_width None = 0
register_width (Some register) = register.width

abbrev pub port_width : Option CorePort → ℕ
port_width None = 0
port_width (Some port) = port.width

-- Expressions.

abbrev pub result_found : BinOp → ℕ → ℕ → ℕ
result_found Add w v = w
result_found Sub w v = w
result_found Mul w v = w
result_found And w v = w
result_found Or w v = w
result_found Xor w v = w
result_found Eq w v = 1
result_found Ne w v = 1
result_found Lt w v = 1
result_found Le w v = 1
result_found Gt w v = 1
result_found Ge w v = 1
result_found Shl w v = w
result_found Shr w v = w
result_found Cat w v = min (w + v) 255

-- `widths` are those of the sites before
abbrev pub expr_found : List CoreReg → List ℕ → CoreExpr → ℕ
expr_found registers widths (Lit number) = number.width
expr_found registers widths (Var y) = or_zero (slice_get widths y)
expr_found registers widths (Reg r) = register_width (slice_get registers r)
expr_found registers widths (Not' p e) = expr_found registers widths e
expr_found registers widths (Bin' o p a q b) = result_found o (expr_found registers widths a) (expr_found registers widths b)
expr_found registers widths (Slice y high low) = min (high + 1) 255 - low
expr_found registers widths (Choose' p c q a r b) = expr_found registers widths a

-- Terms. What a walk gives: the width of the term, and the widths of all sites so far.

pub record Found : Type 0 where
  pub width : ℕ
  pub widths : List ℕ

abbrev pub with_width : List ℕ → ℕ → Found
with_width widths width = record { width = width; widths = widths ++ width ∷ [] }

-- the width of a block is found after what stands inside it
abbrev pub block_found : (place : ℕ) → Found → Found
block_found place inside = record { width = inside.width; widths = slice_set inside.widths place inside.width }

abbrev mutual
  pub walk : List CorePort → List CoreReg → CoreTerm → List ℕ → Found
  walk ports registers (One' s p k) widths = walk_act ports registers k widths
  walk ports registers (Then' s p k q t) widths = walk ports registers t (walk_act ports registers k widths).widths
  walk ports registers (Both' s p k q t) widths = walk ports registers t (walk_act ports registers k widths).widths

  pub walk_act : List CorePort → List CoreReg → CoreKind → List ℕ → Found
  walk_act ports registers (Cycle n) widths = with_width widths 0
  walk_act ports registers (Set r e) widths = with_width widths 0
  walk_act ports registers (Send m e) widths = with_width widths 0
  walk_act ports registers (Recv m) widths = with_width widths (port_width (slice_get ports m))
  walk_act ports registers (If' e p t u w) widths =
      record { width = or_zero w; widths = walk_else ports registers u (walk ports registers t (widths ++ or_zero w ∷ [])).widths }
  walk_act ports registers (Block' p t) widths = block_found (length widths) (walk ports registers t (widths ++ 0 ∷ []))
  walk_act ports registers (Wait y) widths = with_width widths (or_zero (slice_get widths y))
  walk_act ports registers (Pure e) widths = with_width widths (expr_found registers widths e)
  walk_act ports registers Unit widths = with_width widths 0

  pub walk_else : List CorePort → List CoreReg → Held-CoreKind-If-2 → List ℕ → List ℕ
  walk_else ports registers None' widths = widths
  walk_else ports registers (Some' p t) widths = (walk ports registers t widths).widths

-- What is kept of a thread at the start: no act has begun, and its value is 0.

-- the value of an act that is unit is kept as a number of one bit
abbrev pub start_width : ℕ → ℕ
start_width width = if is_width width then width else 1

abbrev pub start_state : (width : ℕ) → ActState
start_state width = record {
  does = does.Nothing;
  begun = false;
  fresh = false;
  ended = false;
  over = false;
  left = 0;
  taken = zero_bit;
  made = number_of (start_width width) 0;
}

abbrev pub start_of : List CorePort → List CoreReg → CoreTerm → Kept
start_of ports registers body = record { widths = (walk ports registers body []).widths; acts = map start_state (walk ports registers body []).widths }

abbrev pub start_number : CoreReg → Number
start_number register = register.reset

abbrev pub start_latest : CorePort → Latest
start_latest port = record { lives = false; age = 0; number = number_of port.width 0 }

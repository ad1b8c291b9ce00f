-- Acts without acts inside: their values are read where they stand, and nothing is added to what is drawn.
use Rattle.std.proofs.Common.{◌≡◌, ℕ, ◌<◌, Bool, true, false, List, length, refl, sym, ap, subst, arith}
use Rattle.std.proofs.lemmas.Bool.{ltb-true}
use Rattle.core_term.specs.declared.term.CoreExpr.{CoreExpr}
use Rattle.core_term.specs.Term.{Term, Act, Cycle, Set, Send, Recv, If, When, Block, Wait, Pure, Nothing}
use Rattle.core_term.specs.Numbering.{act_size}
use Rattle.core_term.specs.Stands.{StandsIn, in_yes, in_no, in_when, in_block}
use Rattle.core_term.specs.Sized.{parts_fit}
use Rattle.core_term.specs.View.{expr_of}
use Rattle.core_term.specs.Widths.{Widths, act_width}
use Rattle.sv_tree.specs.Module.{Module}
use Rattle.module_nets.specs.declared.signal.Signal.{Signal}
use Rattle.module_nets.specs.declared.scope.Variable.{Variable}
use Rattle.module_nets.specs.Netlist.{Extends}
use Rattle.module_nets.specs.Signals.{no_signal, signal_at, variable_in}
use Rattle.module_nets.proofs.Growing.{extends_self}
use Rattle.thread_nets.specs.declared.setting.Walk.{Walk}
use Rattle.thread_nets.specs.declared.setting.Drawn.{Drawn}
use Rattle.thread_nets.specs.Walk.{act_value, kept_ports, kept_registers, widths_at, widths_here, InsideDrawn, InsidePlan, IsValue, ReadOnce}
use Rattle.thread_nets.proofs.Lists.{continues_self}
use Rattle.thread_nets.proofs.Later.{scope_later, grown_self}
use Rattle.thread_nets.proofs.Acts.{same_step, read_value}
use Rattle.thread_nets.proofs.Parts.{no_value}

-- whether an act has no acts inside
abbrev pub is_leaf : Act → Bool
is_leaf (If p e t u w) = false
is_leaf (When p e t) = false
is_leaf (Block p t) = false
is_leaf a = true

leaf_size : (a : Act) → is_leaf a ≡ true → act_size a ≡ 1
leaf_size (Cycle p n) is = refl
leaf_size (Set p r e) is = refl
leaf_size (Send p m e) is = refl
leaf_size (Recv p m) is = refl
leaf_size (If p e t u w) is = absurd cc
leaf_size (When p e t) is = absurd cc
leaf_size (Block p t) is = absurd cc
leaf_size (Wait p y) is = refl
leaf_size (Pure p e) is = refl
leaf_size (Nothing p) is = refl

leaf_empty : {scope ws : List Act} {a : Act} {u : Term} → StandsIn scope a ws u → is_leaf a ≡ true → ⊥
leaf_empty (in_yes s) is = cc
leaf_empty (in_no s) is = cc
leaf_empty (in_when s) is = cc
leaf_empty (in_block s) is = cc

-- whether it has no value either
abbrev pub is_plain : Act → Bool
is_plain (Cycle p n) = true
is_plain (Set p r e) = true
is_plain (Send p m e) = true
is_plain (Nothing p) = true
is_plain a = false

module _ (old : Module) (walk : Walk) (before : Drawn) (variables : List Variable) (scope : List Act) where
  leaf_drawn : (a : Act) (new : Module) (value : Signal) → is_leaf a ≡ true → InsidePlan old walk before variables scope a → Extends old new → IsValue new walk before.sides.items value (act_width (widths_at walk scope) a) (act_value scope a) → InsideDrawn old new walk before before scope a value
  leaf_drawn a new value leaf plan e is = record {
    step = same_step old new walk before e plan.ready.so_far;
    count = let s = leaf_size a leaf in omega (arith, s);
    value = is;
    sites = λ ws u s. absurd (leaf_empty s leaf);
  }

  pub plain_returns : (a : Act) (value : Signal) → is_plain a ≡ true → value ≡ no_signal → InsidePlan old walk before variables scope a → InsideDrawn old old walk before before scope a value
  plain_returns (Cycle p n) value plain is plan = let none = no_value walk old before.sides.items value is in leaf_drawn (Cycle p n) old value refl plan (extends_self old) record { stands = none.stands; width = none.width; shows = none.shows }
  plain_returns (Set p r e) value plain is plan = let none = no_value walk old before.sides.items value is in leaf_drawn (Set p r e) old value refl plan (extends_self old) record { stands = none.stands; width = none.width; shows = none.shows }
  plain_returns (Send p m e) value plain is plan = let none = no_value walk old before.sides.items value is in leaf_drawn (Send p m e) old value refl plan (extends_self old) record { stands = none.stands; width = none.width; shows = none.shows }
  plain_returns (Nothing p) value plain is plan = let none = no_value walk old before.sides.items value is in leaf_drawn (Nothing p) old value refl plan (extends_self old) record { stands = none.stands; width = none.width; shows = none.shows }
  plain_returns (Recv p m) value plain is plan = absurd cc
  plain_returns (If p e t u w) value plain is plan = absurd cc
  plain_returns (When p e t) value plain is plan = absurd cc
  plain_returns (Block p t) value plain is plan = absurd cc
  plain_returns (Wait p y) value plain is plan = absurd cc
  plain_returns (Pure p e) value plain is plan = absurd cc

  pub recv_wide : (p m : ℕ) → InsidePlan old walk before variables scope (Recv p m) → 0 < (signal_at (kept_ports walk) m).width
  recv_wide p m plan =
      let some : 0 < (widths_at walk scope).ports m = ltb-true _ _ plan.fits in
      let same : (signal_at (kept_ports walk) m).width ≡ (widths_at walk scope).ports m = ap (λ (w : Widths). w.ports m) plan.ready.scope_shown.widths in
      omega (arith, some, same)

  pub recv_returns : (p m : ℕ) (value : Signal) → value ≡ signal_at (kept_ports walk) m → InsidePlan old walk before variables scope (Recv p m) → InsideDrawn old old walk before before scope (Recv p m) value
  recv_returns p m value is plan =
      subst (λ signal. InsideDrawn old old walk before before scope (Recv p m) signal) (sym is)
      (leaf_drawn (Recv p m) old (signal_at (kept_ports walk) m) refl plan (extends_self old) record {
        stands = λ some. plan.ready.ground.places.ports_stand m some;
        width = ap (λ (w : Widths). w.ports m) plan.ready.scope_shown.widths;
        shows = λ final on now of. refl;
      })

  pub wait_returns : (p y : ℕ) (value : Signal) → value ≡ variable_in no_signal variables y → InsidePlan old walk before variables scope (Wait p y) → InsideDrawn old old walk before before scope (Wait p y) value
  wait_returns p y value is plan =
      subst (λ signal. InsideDrawn old old walk before before scope (Wait p y) signal) (sym is)
      (leaf_drawn (Wait p y) old (variable_in no_signal variables y) refl plan (extends_self old) record {
        stands = λ some. plan.ready.scope_shown.stand y some;
        width = ap (λ (w : Widths). w.variables y) plan.ready.scope_shown.widths;
        shows = λ final on now of. ap (λ (f : ℕ → ℕ). f y) (plan.ready.scope_shown.shows final on now of);
      })

  pub pure_fits : (p : ℕ) (e : CoreExpr) → InsidePlan old walk before variables scope (Pure p (expr_of (widths_at walk scope) e)) → parts_fit (length (kept_registers walk)) (widths_here walk variables) (expr_of (widths_here walk variables) e) ≡ true
  pure_fits p e plan = subst (λ w. parts_fit (length (kept_registers walk)) w (expr_of w e) ≡ true) (sym plan.ready.scope_shown.widths) plan.fits

  pub pure_returns : (p : ℕ) (e : CoreExpr) (new : Module) (value : Signal) → Extends old new → ReadOnce new walk variables value (expr_of (widths_here walk variables) e) → InsidePlan old walk before variables scope (Pure p (expr_of (widths_at walk scope) e))
      → InsideDrawn old new walk before before scope (Pure p (expr_of (widths_at walk scope) e)) value
  pure_returns p e new value later read plan =
      let shown_here = scope_later old new walk before before later (grown_self before) variables scope plan.ready.scope_shown in
      let once : ReadOnce new walk variables value (expr_of (widths_at walk scope) e) = subst (λ w. ReadOnce new walk variables value (expr_of w e)) plan.ready.scope_shown.widths read in
      let reads = read_value new walk before.sides.items variables scope value (expr_of (widths_at walk scope) e) shown_here once in
      leaf_drawn (Pure p (expr_of (widths_at walk scope) e)) new value refl plan later record {
        stands = λ some. once.stands;
        width = (reads before.sides.items (continues_self before.sides.items)).width;
        shows = λ final on. (reads final on).shows;
      }

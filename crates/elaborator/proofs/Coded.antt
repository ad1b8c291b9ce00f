-- The plans along the code: each lemma is one step of a function of the walk.
--
-- The code has its terms behind pointers. What is planned for the plain term of a part of the code is handed on to its plain parts, and
-- what they draw is put together again; `Plans` does both for plain terms.
use Rattle.std.proofs.Common.{◌≡◌, ℕ, ◌+◌, ◌<◌, arith, refl, sym, ◌∙◌, ap, subst, Bool, List, [], ◌∷◌, ◌++◌, length, length-append, Option, get_or, Box, Global}
use Rattle.core_term.specs.Term.{Expr, Act, If, When, Wait}
use Rattle.core_term.specs.Points.{Spot, Begin, End, ◌is◌}
use Rattle.order_rules.specs.Form.{Join}
use Rattle.std.proofs.lemmas.Option.{get_or_from_slice_get}
use Rattle.core_term.specs.declared.term.CoreExpr.{CoreExpr}
use Rattle.core_term.specs.declared.term.CoreTerm.{CoreTerm, One', Then', Both'}
use Rattle.core_term.specs.declared.term.CoreKind as core
use Rattle.core_term.specs.declared.term.CoreKind.{CoreKind, Held-CoreKind-If-2}
use Rattle.core_term.specs.Widths.{Widths}
use Rattle.core_term.specs.View.{term_of, act_of, after_act, expr_of}
use Rattle.event_graph.specs.declared.node.Arm.{Arm}
use Rattle.event_graph.specs.declared.node.Kind.TheVariants as kind
use Rattle.event_graph.specs.Event.{Event}
use Rattle.elaborator.specs.declared.points.Points.{Points}
use Rattle.event_points.specs.Owned.{owned_of, count_of, drawn, drawn_all}
use Rattle.core_term.specs.declared.term.CoreAct.{CoreAct}
use Rattle.elaborator.specs.Seen.{points_at}
use Rattle.elaborator.specs.Walk.{Plan, ActPlan, Drawn, ActDrawn, then_of, both_of}
use Rattle.event_points.proofs.Steps.{length_owned_of}
use Rattle.event_points.proofs.Reading.{length_drawn}
use Rattle.elaborator.proofs.Plans.{one_plan, then_plan, both_plan, block_plan, then_rest, both_rest, one_drawn, then_drawn, both_drawn, block_drawn, term_early, end_early}
use Rattle.elaborator.proofs.SidePlans.{length_grown}
use Rattle.elaborator.proofs.Seen.{if_is, worded}

length_grown_act : (node : Spot → ℕ) (arms : Spot → List Arm) (old new : List Event) (a : Act) → new ≡ old ++ drawn_all node arms (owned_of a) → length new ≡ length old + count_of a
length_grown_act node arms old new a e = omega (arith, ap length e, length-append old (drawn_all node arms (owned_of a)), length_drawn node arms (owned_of a), length_owned_of a)

-- what is known of an act that was added
abbrev pub AskAct : (turn begin : ℕ) → List Arm → List Points → (old new : List Event) → List Points → ℕ → Act → Type 0
AskAct turn begin these points old new written end a = (plan : ActPlan turn (length old) begin these points a) → ActDrawn plan plan.low old new written end

-- what the last node of a chain of two that begin together needs
pub record CanJoin (late : List Event) (begun last : ℕ) : Type 0 where
  pub room : length late < 8192
  pub first : begun < length late
  pub second : last < length late

module _ {turn begin : ℕ} {these : List Arm} {points : List Points} (old : List Event) where
  grown : (a : Act) (plan : ActPlan turn (length old) begin these points a) (low : ℕ) (new : List Event) (written : List Points) (end : ℕ) → ActDrawn plan low old new written end → length old + count_of a ≡ length new
  grown a plan low new written end d = sym (length_grown_act plan.node plan.arms old new a d.events)

  pub one_returns : (w : Widths) (term : CoreTerm) (s at : ℕ) (k : CoreKind) (new : List Event) (written : List Points) (end : ℕ) → term ≡ One' s at k → AskAct turn begin these points old new written end (act_of w s k) → (plan : Plan turn (length old) begin these points (term_of w term)) → Drawn plan old new written end
  one_returns w term s at k new written end e f plan =
      let P : CoreTerm → Type 0 = λ z. (plan : Plan turn (length old) begin these points (term_of w z)) → Drawn plan old new written end in
      subst P (sym e) (λ plan. one_drawn (act_of w s k) plan old new written end (f (one_plan (act_of w s k) plan))) plan

  pub then_term : (w : Widths) (term : CoreTerm) (act : CoreAct) (p : Box (Unit {0}) Global) (rest value : CoreTerm) (new : List Event) (written : List Points) (end : ℕ) → term ≡ Then' act.site act.at act.kind p value → rest ≡ value
      → ((w : Widths) (plan : Plan turn (length old) begin these points (then_of w act rest)) → Drawn plan old new written end) → (plan : Plan turn (length old) begin these points (term_of w term)) → Drawn plan old new written end
  then_term w term act p rest value new written end e g f plan =
      let P : CoreTerm → Type 0 = λ z. (plan : Plan turn (length old) begin these points (term_of w z)) → Drawn plan old new written end in
      let Q : CoreTerm → Type 0 = λ z. (w : Widths) (plan : Plan turn (length old) begin these points (then_of w act z)) → Drawn plan old new written end in
      subst P (sym e) (λ plan. (subst Q g f) w plan) plan

  pub both_term : (w : Widths) (term : CoreTerm) (act : CoreAct) (p : Box (Unit {0}) Global) (rest value : CoreTerm) (new : List Event) (written : List Points) (end : ℕ) → term ≡ Both' act.site act.at act.kind p value → rest ≡ value
      → ((w : Widths) (plan : Plan turn (length old) begin these points (both_of w act rest)) → Drawn plan old new written end) → (plan : Plan turn (length old) begin these points (term_of w term)) → Drawn plan old new written end
  both_term w term act p rest value new written end e g f plan =
      let P : CoreTerm → Type 0 = λ z. (plan : Plan turn (length old) begin these points (term_of w z)) → Drawn plan old new written end in
      let Q : CoreTerm → Type 0 = λ z. (w : Widths) (plan : Plan turn (length old) begin these points (both_of w act z)) → Drawn plan old new written end in
      subst P (sym e) (λ plan. (subst Q g f) w plan) plan

  pub then_requires : (w : Widths) (act : CoreAct) (rest : CoreTerm) (mid : List Event) (first : List Points) (end : ℕ) → AskAct turn begin these points old mid first end (act_of w act.site act.kind) → Plan turn (length old) begin these points (then_of w act rest)
      → (w' : Widths) × Plan turn (length mid) end these first (term_of w' rest)
  then_requires w act rest mid first end f plan =
      let a = act_of w act.site act.kind in
      let t = term_of (after_act w a) rest in
      let d = f (then_plan a t plan) in
      (after_act w a, then_rest a t plan old mid first end (length mid) d (grown a (then_plan a t plan) plan.low mid first end d))

  pub then_returns : (w : Widths) (act : CoreAct) (rest : CoreTerm) (mid new : List Event) (first written : List Points) (begun end : ℕ) → AskAct turn begin these points old mid first begun (act_of w act.site act.kind)
      → ((w' : Widths) (plan : Plan turn (length mid) begun these first (term_of w' rest)) → Drawn plan mid new written end) → (plan : Plan turn (length old) begin these points (then_of w act rest)) → Drawn plan old new written end
  then_returns w act rest mid new first written begun end f h plan =
      let a = act_of w act.site act.kind in
      let t = term_of (after_act w a) rest in
      let d = f (then_plan a t plan) in
      let l = grown a (then_plan a t plan) plan.low mid first begun d in
      then_drawn a t plan old mid new first written begun end (length mid) d l (h (after_act w a) (then_rest a t plan old mid first begun (length mid) d l))

  pub both_requires : (w : Widths) (act : CoreAct) (rest : CoreTerm) (mid : List Event) (first : List Points) (end : ℕ) → AskAct turn begin these points old mid first end (act_of w act.site act.kind) → Plan turn (length old) begin these points (both_of w act rest)
      → (w' : Widths) × Plan turn (length mid) begin these first (term_of w' rest)
  both_requires w act rest mid first end f plan =
      let a = act_of w act.site act.kind in
      let t = term_of (after_act w a) rest in
      let d = f (both_plan a t plan) in
      (after_act w a, both_rest a t plan old mid first end (length mid) d (grown a (both_plan a t plan) plan.low mid first end d))

  pub both_join : (w : Widths) (act : CoreAct) (rest : CoreTerm) (mid late : List Event) (first written : List Points) (begun last : ℕ) → AskAct turn begin these points old mid first begun (act_of w act.site act.kind)
      → ((w' : Widths) (plan : Plan turn (length mid) begin these first (term_of w' rest)) → Drawn plan mid late written last) → Plan turn (length old) begin these points (both_of w act rest) → CanJoin late begun last
  both_join w act rest mid late first written begun last f h plan =
      let a = act_of w act.site act.kind in
      let t = term_of (after_act w a) rest in
      let outer = both_plan a t plan in
      let d = f outer in
      let l = grown a outer plan.low mid first begun d in
      let inner = both_rest a t plan old mid first begun (length mid) d l in
      let r = h (after_act w a) inner in
      let n = length_grown inner.node inner.arms mid late t r.events in
      let i = end_early outer in
      let j = term_early inner in
      let o = plan.room in
      let u = d.end_is in
      let v = r.end_is in
      record { room = omega arith; first = omega arith; second = omega arith }

  pub both_returns : (w : Widths) (act : CoreAct) (rest : CoreTerm) (mid late new : List Event) (first written : List Points) (begun last end : ℕ) → AskAct turn begin these points old mid first begun (act_of w act.site act.kind)
      → ((w' : Widths) (plan : Plan turn (length mid) begin these first (term_of w' rest)) → Drawn plan mid late written last)
      → (end ≡ length late) × (new ≡ late ++ record { kind = kind.Join; preds = begun ∷ last ∷ []; arms = these } ∷ []) → (plan : Plan turn (length old) begin these points (both_of w act rest)) → Drawn plan old new written end
  both_returns w act rest mid late new first written begun last end f h join plan =
      let a = act_of w act.site act.kind in
      let t = term_of (after_act w a) rest in
      let d = f (both_plan a t plan) in
      let l = grown a (both_plan a t plan) plan.low mid first begun d in
      let inner = both_rest a t plan old mid first begun (length mid) d l in
      let r = h (after_act w a) inner in
      let n = length_grown inner.node inner.arms mid late t r.events in
      both_drawn a t plan old mid late new first written begun last end (length mid) d l r (omega (arith, join.0)) join.1

  pub block_returns : (w : Widths) (k : CoreKind) (s : ℕ) (p : Box (Unit {0}) Global) (inner value : CoreTerm) (new : List Event) (written : List Points) (end : ℕ) → k ≡ core.Block' p value → inner ≡ value → ((w' : Widths) (plan : Plan turn (length old) begin these points (term_of w' inner)) → Drawn plan old new written end)
      → (plan : ActPlan turn (length old) begin these points (act_of w s k)) → ActDrawn plan (plan.low + 1) old new written end
  block_returns w k s p inner value new written end e g h plan =
      let P : CoreKind → Type 0 = λ z. (plan : ActPlan turn (length old) begin these points (act_of w s z)) → ActDrawn plan (plan.low + 1) old new written end in
      let Q : CoreTerm → Type 0 = λ z. (w' : Widths) (plan : Plan turn (length old) begin these points (term_of w' z)) → Drawn plan old new written end in
      let h' = subst Q g h in
      subst P (sym e) (λ plan. block_drawn s (term_of w value) plan old new written end (h' w (block_plan s (term_of w value) plan))) plan

  pub none_returns : (w : Widths) (k : CoreKind) (s : ℕ) (p : Box (Unit {0}) Global) (e : CoreExpr) (inner value : CoreTerm) (v : Option ℕ) (new : List Event) (written : List Points) (end : ℕ) → k ≡ core.If' e p value core.None' v → inner ≡ value
      → ((w' : Widths) (e : Expr) (plan : ActPlan turn (length old) begin these points (When s e (term_of w' inner))) → ActDrawn plan (plan.low + 1) old new written end)
      → (plan : ActPlan turn (length old) begin these points (act_of w s k)) → ActDrawn plan (plan.low + 1) old new written end
  none_returns w k s p e inner value v new written end f g h plan =
      let P : CoreKind → Type 0 = λ z. (plan : ActPlan turn (length old) begin these points (act_of w s z)) → ActDrawn plan (plan.low + 1) old new written end in
      let Q : CoreTerm → Type 0 = λ z. (w' : Widths) (e : Expr) (plan : ActPlan turn (length old) begin these points (When s e (term_of w' z))) → ActDrawn plan (plan.low + 1) old new written end in
      let h' = subst Q g h in
      subst P (sym f) (λ plan. h' w (expr_of w e) plan) plan

  pub some_returns : (w : Widths) (k : CoreKind) (s : ℕ) (p q : Box (Unit {0}) Global) (e : CoreExpr) (inner value other another : CoreTerm) (v : Option ℕ) (new : List Event) (written : List Points) (end : ℕ) → k ≡ core.If' e p value (core.Some' q another) v → inner ≡ value → other ≡ another
      → ((w' : Widths) (e : Expr) (b : Bool) (plan : ActPlan turn (length old) begin these points (If s e (term_of w' inner) (term_of w' other) b)) → ActDrawn plan (plan.low + 1) old new written end)
      → (plan : ActPlan turn (length old) begin these points (act_of w s k)) → ActDrawn plan (plan.low + 1) old new written end
  some_returns w k s p q e inner value other another v new written end f g i h plan =
      let P : CoreKind → Type 0 = λ z. (plan : ActPlan turn (length old) begin these points (act_of w s z)) → ActDrawn plan (plan.low + 1) old new written end in
      let Q : CoreTerm → Type 0 = λ z. (w' : Widths) (e : Expr) (b : Bool) (plan : ActPlan turn (length old) begin these points (If s e (term_of w' z) (term_of w' other) b)) → ActDrawn plan (plan.low + 1) old new written end in
      let R : CoreTerm → Type 0 = λ z. (w' : Widths) (e : Expr) (b : Bool) (plan : ActPlan turn (length old) begin these points (If s e (term_of w' value) (term_of w' z) b)) → ActDrawn plan (plan.low + 1) old new written end in
      let S : Act → Type 0 = λ z. (plan : ActPlan turn (length old) begin these points z) → ActDrawn plan (plan.low + 1) old new written end in
      let h' = subst R i (subst Q g h) in
      subst P (sym f) (λ plan. subst S (sym (if_is s (expr_of w e) (term_of w value) (term_of w another) v)) (λ plan. h' w (expr_of w e) (worded v) plan) plan) plan

  pub one_requires : (w : Widths) (term : CoreTerm) (act : CoreAct) → term ≡ One' act.site act.at act.kind → Plan turn (length old) begin these points (term_of w term) → (w' : Widths) × ActPlan turn (length old) begin these points (act_of w' act.site act.kind)
  one_requires w term act e plan =
      let P : CoreTerm → Type 0 = λ z. Plan turn (length old) begin these points (term_of w z) in
      (w, one_plan (act_of w act.site act.kind) (subst P e plan))

  pub then_asked : (w : Widths) (term : CoreTerm) (act : CoreAct) (p : Box (Unit {0}) Global) (rest value : CoreTerm) → term ≡ Then' act.site act.at act.kind p value → rest ≡ value → Plan turn (length old) begin these points (term_of w term) → (w' : Widths) × Plan turn (length old) begin these points (then_of w' act rest)
  then_asked w term act p rest value e g plan =
      let P : CoreTerm → Type 0 = λ z. Plan turn (length old) begin these points (term_of w z) in
      let Q : CoreTerm → Type 0 = λ z. Plan turn (length old) begin these points (then_of w act z) in
      (w, subst Q (sym g) (subst P e plan))

  pub both_asked : (w : Widths) (term : CoreTerm) (act : CoreAct) (p : Box (Unit {0}) Global) (rest value : CoreTerm) → term ≡ Both' act.site act.at act.kind p value → rest ≡ value → Plan turn (length old) begin these points (term_of w term) → (w' : Widths) × Plan turn (length old) begin these points (both_of w' act rest)
  both_asked w term act p rest value e g plan =
      let P : CoreTerm → Type 0 = λ z. Plan turn (length old) begin these points (term_of w z) in
      let Q : CoreTerm → Type 0 = λ z. Plan turn (length old) begin these points (both_of w act z) in
      (w, subst Q (sym g) (subst P e plan))

  pub block_asked : (w : Widths) (k : CoreKind) (s : ℕ) (p : Box (Unit {0}) Global) (inner value : CoreTerm) → k ≡ core.Block' p value → inner ≡ value → ActPlan turn (length old) begin these points (act_of w s k) → (w' : Widths) × Plan turn (length old) begin these points (term_of w' inner)
  block_asked w k s p inner value e g plan =
      let P : CoreKind → Type 0 = λ z. ActPlan turn (length old) begin these points (act_of w s z) in
      let Q : CoreTerm → Type 0 = λ z. Plan turn (length old) begin these points (term_of w z) in
      (w, subst Q (sym g) (block_plan s (term_of w value) (subst P e plan)))

  pub none_asked : (w : Widths) (k : CoreKind) (s : ℕ) (p : Box (Unit {0}) Global) (e : CoreExpr) (inner value : CoreTerm) (v : Option ℕ) → k ≡ core.If' e p value core.None' v → inner ≡ value → ActPlan turn (length old) begin these points (act_of w s k)
      → (w' : Widths) × (e : Expr) × ActPlan turn (length old) begin these points (When s e (term_of w' inner))
  none_asked w k s p e inner value v f g plan =
      let P : CoreKind → Type 0 = λ z. ActPlan turn (length old) begin these points (act_of w s z) in
      let Q : CoreTerm → Type 0 = λ z. ActPlan turn (length old) begin these points (When s (expr_of w e) (term_of w z)) in
      (w, expr_of w e, subst Q (sym g) (subst P f plan))

  pub some_asked : (w : Widths) (k : CoreKind) (s : ℕ) (p q : Box (Unit {0}) Global) (e : CoreExpr) (inner value other another : CoreTerm) (v : Option ℕ) → k ≡ core.If' e p value (core.Some' q another) v → inner ≡ value → other ≡ another → ActPlan turn (length old) begin these points (act_of w s k)
      → (w' : Widths) × (e : Expr) × (b : Bool) × ActPlan turn (length old) begin these points (If s e (term_of w' inner) (term_of w' other) b)
  some_asked w k s p q e inner value other another v f g i plan =
      let P : CoreKind → Type 0 = λ z. ActPlan turn (length old) begin these points (act_of w s z) in
      let S : Act → Type 0 = λ z. ActPlan turn (length old) begin these points z in
      let Q : CoreTerm → Type 0 = λ z. ActPlan turn (length old) begin these points (If s (expr_of w e) (term_of w z) (term_of w other) (worded v)) in
      let R : CoreTerm → Type 0 = λ z. ActPlan turn (length old) begin these points (If s (expr_of w e) (term_of w value) (term_of w z) (worded v)) in
      (w, expr_of w e, worded v, subst Q (sym g) (subst R (sym i) (subst S (if_is s (expr_of w e) (term_of w value) (term_of w another) v) (subst P f plan))))

  wait_end : (s y : ℕ) (plan : ActPlan turn (length old) begin these points (Wait s y)) (d : Points) → (get_or points y d).end ≡ plan.node (End y)
  wait_end s y plan d = ap (λ (z : Points). z.end) (get_or_from_slice_get points y (points_at plan.node y) d (plan.made y plan.numbered.1).1.at)

  pub wait_preds : (w : Widths) (k : CoreKind) (s y : ℕ) (d : Points) → k ≡ core.Wait y → ActPlan turn (length old) begin these points (act_of w s k) → (begin < length old) × ((get_or points y d).end < length old)
  wait_preds w k s y d e plan =
      let P : CoreKind → Type 0 = λ z. ActPlan turn (length old) begin these points (act_of w s z) in
      let plan' : ActPlan turn (length old) begin these points (Wait s y) = subst P e plan in
      let m = (plan'.made y plan'.numbered.1).1.early in
      let g = wait_end s y plan' d in
      (plan'.early, omega arith)

  pub wait_returns : (w : Widths) (k : CoreKind) (s y : ℕ) (d : Points) (new : List Event) (end : ℕ) → k ≡ core.Wait y → (end ≡ length old) × (new ≡ old ++ record { kind = kind.Join; preds = begin ∷ (get_or points y d).end ∷ []; arms = these } ∷ [])
      → (plan : ActPlan turn (length old) begin these points (act_of w s k)) → ActDrawn plan (plan.low + 1) old new points end
  wait_returns w k s y d new end e join plan =
      let P : CoreKind → Type 0 = λ z. (plan : ActPlan turn (length old) begin these points (act_of w s z)) → ActDrawn plan (plan.low + 1) old new points end in
      subst P (sym e) (λ plan.
      let same : record { kind = kind.Join; preds = begin ∷ (get_or points y d).end ∷ []; arms = these } ≡ drawn plan.node plan.arms (End s is Join (Begin s) (End y)) = rw (wait_end s y plan d, plan.begin_is, plan.head.end) refl in
      record {
        end_is = join.0 ∙ sym plan.placed;
        events = join.1 ∙ ap (λ (z : Event). old ++ z ∷ []) same;
        short = omega arith;
        written = record { length_is = refl; at = λ q i j. absurd (omega arith); kept = λ q i. refl };
      }) plan

-- One variable more: it hides an earlier one of its number, and leaves the others as they are. So the variables stay the values of
-- the acts in scope.
use Rattle.std.proofs.Common.{◌≡◌, ℕ, ◌<◌, Bool, true, false, List, [], ◌∷◌, ◌++◌, refl, sym, ◌∙◌, ap, subst}
use Rattle.std.specs.Prelude.{◌==◌, if◌then◌else◌}
use Rattle.core_term.specs.Term.{Act, site}
use Rattle.core_term.specs.Again.{now_in, put}
use Rattle.core_term.specs.Widths.{bind_width, act_width}
use Rattle.sv_tree.specs.Module.{Module}
use Rattle.module_nets.specs.declared.signal.Signal.{Signal}
use Rattle.module_nets.specs.declared.scope.Variable.{Variable}
use Rattle.module_nets.specs.Netlist.{Stands}
use Rattle.module_nets.specs.Shown.{Moment, shown}
use Rattle.module_nets.specs.Signals.{no_signal, variable_in, widths_in, shown_in, VariablesStand}
use Rattle.thread_nets.specs.declared.setting.Walk.{Walk}
use Rattle.thread_nets.specs.Walk.{act_value, kept_ports, kept_registers, sight_at, widths_at, IsValue, ScopeShown}

variable_pushed : (other : Signal) (variables : List Variable) (variable : Variable) (y : ℕ) → variable_in other (variables ++ variable ∷ []) y ≡ (if y == variable.site then variable.value else variable_in other variables y)
variable_pushed other [] variable y = refl
variable_pushed other (first ∷ rest) variable y = variable_pushed (if y == first.site then first.value else other) rest variable y

if_both : {X Y : Type 0} (f : X → Y) (b : Bool) (x y : X) → f (if b then x else y) ≡ (if b then f x else f y)
if_both f true x y = refl
if_both f false x y = refl

same_functions : {X : Type 0} (f g : ℕ → X) → ((y : ℕ) → f y ≡ g y) → f ≡ g
same_functions f g same = λ i y. same y i

shown_pushed : (now : Moment) (variables : List Variable) (p : ℕ) (value : Signal) → shown_in now (variables ++ record { site = p; value = value } ∷ []) ≡ put (shown_in now variables) p (shown now value)
shown_pushed now variables p value =
    same_functions _ _ (λ y. ap (λ x. shown now x) (variable_pushed no_signal variables (record { site = p; value = value }) y) ∙ if_both (λ x. shown now x) (y == p) value (variable_in no_signal variables y))

widths_pushed : (registers ports : List Signal) (variables : List Variable) (p : ℕ) (value : Signal)
    → widths_in registers ports (variables ++ record { site = p; value = value } ∷ []) ≡ bind_width (widths_in registers ports variables) p value.width
widths_pushed registers ports variables p value =
    ap (λ made. record { registers = (widths_in registers ports variables).registers; ports = (widths_in registers ports variables).ports; variables = made })
    (same_functions _ _ (λ y. ap (λ x. x.width) (variable_pushed no_signal variables (record { site = p; value = value }) y) ∙ if_both (λ x. x.width) (y == p) value (variable_in no_signal variables y)))

variables_pushed : (old : Module) (variables : List Variable) (p : ℕ) (value : Signal) → VariablesStand old variables → (0 < value.width → Stands old value) → VariablesStand old (variables ++ record { site = p; value = value } ∷ [])
variables_pushed old variables p value all mine y some =
    let is = variable_pushed no_signal variables (record { site = p; value = value }) y in
    subst (λ x. Stands old x) (sym is) (at (y == p) (subst (λ x. 0 < x.width) is some))
  where
    at : (b : Bool) → 0 < (if b then value else variable_in no_signal variables y).width → Stands old (if b then value else variable_in no_signal variables y)
    at true wide = mine wide
    at false wide = all y wide

pub scope_after : (old : Module) (walk : Walk) (sides : List Signal) (variables longer : List Variable) (scope : List Act) (act : Act) (value : Signal) → longer ≡ variables ++ record { site = site act; value = value } ∷ [] → ScopeShown old walk sides variables scope
    → IsValue old walk sides value (act_width (widths_at walk scope) act) (act_value scope act) → ScopeShown old walk sides longer (act ∷ scope)
scope_after old walk sides variables longer scope act value is given made =
    subst (λ list. ScopeShown old walk sides list (act ∷ scope)) (sym is) record {
      stand = variables_pushed old variables (site act) value given.stand made.stands;
      widths =
          widths_pushed (kept_registers walk) (kept_ports walk) variables (site act) value
          ∙ (ap (λ widths. bind_width widths (site act) value.width) given.widths ∙ ap (λ width. bind_width (widths_at walk scope) (site act) width) made.width);
      shows = λ final on now of.
          shown_pushed now variables (site act) value
          ∙ (ap (λ f. put f (site act) (shown now value)) (given.shows final on now of)
          ∙ ap (λ n. put (now_in (sight_at now walk final) scope) (site act) n) (made.shows final on now of));
    }

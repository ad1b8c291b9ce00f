-- What an act of the code has of its own: an `if` decides and shows a side, and other acts have bits 0 in their places.
use Rattle.std.proofs.Common.{◌≡◌, ℕ, ◌<◌, Bool, true, false, List, [], ◌∷◌, ◌++◌, length, refl, sym, ◌∙◌, ap, subst}
use Rattle.std.specs.Prelude.{if◌then◌else◌}
use Rattle.core_term.specs.declared.term.CoreKind.{CoreKind}
use Rattle.core_term.specs.Term.{Expr, Act, site}
use Rattle.core_term.specs.Acts.{Uses}
use Rattle.core_term.specs.Sized.{parts_fit}
use Rattle.core_term.specs.View.{act_of}
use Rattle.core_term.specs.Widths.{expr_width}
use Rattle.sv_tree.specs.Module.{Module}
use Rattle.module_nets.specs.declared.signal.Signal.{Signal}
use Rattle.module_nets.specs.declared.scope.Variable.{Variable}
use Rattle.module_nets.specs.Netlist.{Extends}
use Rattle.module_nets.specs.Bits.{IsBit, Tells, told}
use Rattle.module_nets.proofs.Growing.{of_later, stands_later, extends_on}
use Rattle.module_nets.proofs.BitsTold.{bit_later}
use Rattle.pulse_nets.specs.declared.forms.Pulse.{Pulse}
use Rattle.pulse_nets.specs.Pulses.{pulse_at, pulses_told}
use Rattle.machine_parts.specs.Parts.{bit_at, zero_bit, node_at}
use Rattle.machine_parts.specs.Nodes.{AreBits}
use Rattle.thread_nets.specs.declared.setting.Walk.{Walk}
use Rattle.thread_nets.specs.declared.setting.Drawn.{Drawn}
use Rattle.thread_nets.specs.Walk.{act_at, begins_in, is_choice, kept_sides, kept_registers, widths_at, widths_here, ActPlan, OwnDrawn, ReadOnce, Step}
use Rattle.turn_nets.proofs.BitLists.{bits_later, zero_is_bit}
use Rattle.thread_nets.proofs.Acts.{site_is, used_fits, Condition, condition_of, asks_none, decides_none, next_site, site_inside, own_drawn}

read_later : (old new : Module) (walk : Walk) (variables : List Variable) (signal : Signal) (used : Expr) → Extends old new → ReadOnce old walk variables signal used → ReadOnce new walk variables signal used
read_later old new walk variables signal used e read = record {
  stands = stands_later old new signal e read.stands;
  width = read.width;
  shows = λ now of. read.shows now (of_later old new now e of);
}

same_either : {X : Type 0} (test : Bool) (x : X) → (if test then x else x) ≡ x
same_either true x = refl
same_either false x = refl

module _ (old : Module) (walk : Walk) (before : Drawn) (variables : List Variable) (scope : List Act) (p : ℕ) (k : CoreKind) (plan : ActPlan old walk before variables scope (act_at walk scope p k)) where
  act : Act
  act = act_at walk scope p k

  at : site (act_at walk scope p k) ≡ p
  at = site_is (widths_at walk scope) p k

  widths : widths_here walk variables ≡ widths_at walk scope
  widths = plan.ready.scope_shown.widths

  abbrev Reads : Module → Signal → Type 0
  Reads new value = (used : Expr) → Uses (act_of (widths_here walk variables) p k) used → ReadOnce new walk variables value used

  pub own_next : p ≡ length before.values.items
  own_next = sym at ∙ next_site plan

  pub own_inside : p < length (begins_in walk)
  own_inside = subst (λ s. s < length (begins_in walk)) at (site_inside plan)

  pub own_fits : (used : Expr) → Uses (act_of (widths_here walk variables) p k) used → parts_fit (length (kept_registers walk)) (widths_here walk variables) used ≡ true
  own_fits =
      subst (λ w. (used : Expr) → Uses (act_of w p k) used → parts_fit (length (kept_registers walk)) w used ≡ true) (sym widths)
      (λ used uses. used_fits (length (kept_registers walk)) (widths_at walk scope) (act_at walk scope p k) used plan.fits uses)

  reads_here : (new : Module) (value : Signal) → Reads new value → (used : Expr) → Uses (act_at walk scope p k) used → ReadOnce new walk variables value used
  reads_here new value reads used uses = reads used (subst (λ w. Uses (act_of w p k) used) (sym widths) uses)

  pub own_bit : (new : Module) (value : Signal) (test : Bool) → Reads new value → test ≡ is_choice (act_at walk scope p k) → test ≡ true → IsBit new value
  own_bit new value test reads decides is =
      let c : Condition (widths_at walk scope) (act_at walk scope p k) = condition_of (length (kept_registers walk)) (widths_at walk scope) (act_at walk scope p k) (sym decides ∙ is) plan.fits in
      let read = reads_here new value reads c.condition c.uses in
      record { stands = read.stands; one_bit = read.width ∙ (ap (λ w. expr_width w c.condition) widths ∙ c.one_bit) }

  pub own_kept : (mid new : Module) (begun : Drawn) → Step old mid walk before begun → Extends mid new → AreBits new (kept_sides walk)
  own_kept mid new begun step e = bits_later old new (kept_sides walk) (extends_on old mid new step.extends e) plan.ready.ground.kept

  pub own_pulse : (mid new : Module) (begun : Drawn) (pulses : List Pulse) → Step old mid walk before begun → pulses ≡ begun.pulses.items → node_at (begins_in walk) p < length begun.pulses.items → Extends mid new → IsBit new (pulse_at pulses (node_at (begins_in walk) p)).pulse
  own_pulse mid new begun pulses step are inside e =
      subst (λ list. IsBit new (pulse_at list (node_at (begins_in walk) p)).pulse) (sym are)
      (bit_later mid new (pulse_at begun.pulses.items (node_at (begins_in walk) p)).pulse e (step.so_far.pulses.drawn (node_at (begins_in walk) p) inside).pulse)

  module _ (mid used_at : Module) (begun after : Drawn) (value : Signal) (test : Bool) (step : Step old mid walk before begun) (there : node_at (begins_in walk) p < length begun.pulses.items) (same_values : begun.values.items ≡ before.values.items) (later : Extends mid used_at) (reads : Reads used_at value)
      (decides : test ≡ is_choice (act_at walk scope p k)) where
    begun_there : node_at (begins_in walk) (site (act_at walk scope p k)) < length begun.pulses.items
    begun_there = subst (λ s. node_at (begins_in walk) s < length begun.pulses.items) (sym at) there

    pub choice_drawn : (new : Module) (side : Signal) (pulses : List Pulse) → test ≡ true → pulses ≡ begun.pulses.items → Extends used_at new → IsBit new side
        → Tells new side (λ now. if pulses_told now pulses (node_at (begins_in walk) p) then told now value else told now (bit_at (kept_sides walk) p))
        → after.pulses.items ≡ begun.pulses.items → after.values.items ≡ begun.values.items ++ value ∷ [] → after.decisions.items ≡ begun.decisions.items ++ value ∷ [] → after.sides.items ≡ begun.sides.items ++ side ∷ []
        → OwnDrawn old new walk before after scope (act_at walk scope p k)
    choice_drawn new side pulses is are e bit tells pulses_are values_are decisions_are sides_are =
        let c : Condition (widths_at walk scope) (act_at walk scope p k) = condition_of (length (kept_registers walk)) (widths_at walk scope) (act_at walk scope p k) (sym decides ∙ is) plan.fits in
        let at_site : Tells new side (λ now. if pulses_told now begun.pulses.items (node_at (begins_in walk) (site (act_at walk scope p k))) then told now value else told now (bit_at (kept_sides walk) (site (act_at walk scope p k)))) =
        subst (λ s. Tells new side (λ now. if pulses_told now begun.pulses.items (node_at (begins_in walk) s) then told now value else told now (bit_at (kept_sides walk) s))) (sym at)
        (subst (λ list. Tells new side (λ now. if pulses_told now list (node_at (begins_in walk) p) then told now value else told now (bit_at (kept_sides walk) p))) are tells) in
        own_drawn old mid new walk before begun after variables scope (act_at walk scope p k) value value side plan step begun_there same_values (extends_on mid used_at new later e) pulses_are values_are decisions_are sides_are
        (bit_later used_at new value e (own_bit used_at value test reads decides is))
        bit
        at_site
        (λ used uses. read_later used_at new walk variables value used e (reads_here used_at value reads used uses))
        (λ condition asks. refl)
        (λ none. absurd (none c.condition c.asks))

    pub plain_drawn : (decision side : Signal) → test ≡ false → decision ≡ zero_bit → side ≡ zero_bit → after.pulses.items ≡ begun.pulses.items → after.values.items ≡ begun.values.items ++ value ∷ [] → after.decisions.items ≡ begun.decisions.items ++ decision ∷ []
        → after.sides.items ≡ begun.sides.items ++ side ∷ [] → OwnDrawn old used_at walk before after scope (act_at walk scope p k)
    plain_drawn decision side is decision_is side_is pulses_are values_are decisions_are sides_are =
        let plain : is_choice (act_at walk scope p k) ≡ false = sym decides ∙ is in
        let kept : bit_at (kept_sides walk) (site (act_at walk scope p k)) ≡ zero_bit = plan.ready.ground.placed.no_side (site (act_at walk scope p k)) (λ deed. decides_none (act_at walk scope p k) plain (sym plan.deed ∙ deed)) in
        own_drawn old mid used_at walk before begun after variables scope (act_at walk scope p k) value decision side plan step begun_there same_values later pulses_are values_are decisions_are sides_are
        (subst (λ bit. IsBit used_at bit) (sym decision_is) (zero_is_bit used_at))
        (subst (λ bit. IsBit used_at bit) (sym side_is) (zero_is_bit used_at))
        (λ now of.
        let test = pulses_told now begun.pulses.items (node_at (begins_in walk) (site (act_at walk scope p k))) in
        ap (λ bit. told now bit) side_is
        ∙ (sym (same_either test (told now zero_bit))
        ∙ (ap (λ bit. if test then told now bit else told now zero_bit) (sym decision_is)
        ∙ ap (λ bit. if test then told now decision else told now bit) (sym kept))))
        (λ used uses. reads_here used_at value reads used uses)
        (λ condition asks. absurd (asks_none (act_at walk scope p k) condition plain asks))
        (λ none. decision_is)

-- What an act has of its own.
use Rattle.std.proofs.Common.{◌≡◌, ℕ, ◌+◌, ◌<◌, ◌≤◌, ◌⊎◌, inl, inr, true, false, List, [], ◌∷◌, ◌++◌, length, refl, sym, ◌∙◌, ap, subst, arith}
use Rattle.std.specs.Prelude.{if◌then◌else◌}
use Rattle.std.proofs.lemmas.Bool.{and_parts, eqb-true}
use Rattle.core_term.specs.declared.term.CoreKind.{CoreKind, Cycle, Set, Send, Recv, If', Block', Wait, Pure, Unit, None', Some'}
use Rattle.std.specs.Prelude.{Some, None}
use Rattle.core_term.specs.Term as term
use Rattle.core_term.specs.Term.{Expr, Lit, Var, Reg, Not, Bin, Slice, Choose, Term, Act, site}
use Rattle.core_term.specs.Acts.{Uses, Asks}
use Rattle.core_term.specs.Again.{number}
use Rattle.core_term.specs.Operators.{operate}
use Rattle.core_term.specs.Sized.{parts_fit}
use Rattle.core_term.specs.View.{act_of}
use Rattle.core_term.specs.Widths.{Widths, expr_width}
use Rattle.core_term.proofs.code_tables.FirstSites.{act_site, act_size_positive}
use Rattle.anvil_bits.specs.Operators.{not_of, choice_of}
use Rattle.sv_tree.specs.Module.{Module}
use Rattle.module_nets.specs.declared.signal.Signal.{Signal}
use Rattle.module_nets.specs.declared.scope.Variable.{Variable}
use Rattle.module_nets.specs.Netlist.{Extends}
use Rattle.module_nets.specs.Shown.{Moment}
use Rattle.module_nets.specs.Bits.{IsBit, Tells, told}
use Rattle.module_nets.specs.Signals.{sight_in, shown_in}
use Rattle.module_nets.proofs.Growing.{extends_on}
use Rattle.pulse_nets.specs.declared.forms.Pulse.{Pulse}
use Rattle.pulse_nets.specs.Pulses.{begins, pulse_at, pulses_told}
use Rattle.act_deeds.specs.declared.deed.Deed.TheVariants.{Decides}
use Rattle.act_deeds.specs.Deeds.{deed_in}
use Rattle.machine_parts.specs.declared.plan.NodePlan.{NodePlan}
use Rattle.machine_parts.specs.Parts.{bit_at, zero_bit, node_at}
use Rattle.machine_parts.specs.Threads.{SideDrawn, ValueDrawn}
use Rattle.machine_parts.specs.Nodes.{AreBits, PulsesSoFar, TailsDrawn, WaitBelow}
use Rattle.thread_nets.specs.declared.setting.Walk.{Walk}
use Rattle.thread_nets.specs.declared.setting.Drawn.{Drawn}
use Rattle.thread_nets.specs.Fits.{one_fits}
use Rattle.thread_nets.specs.Walk.{begins_in, is_choice, kept_sides, kept_registers, kept_ports, nodes_in, plan_in, sight_at, states_in, wires_in}
use Rattle.thread_nets.specs.Walk.{ActPlan, Continues, Grown, IsPlaced, OwnDrawn, ReadOnce, ScopeShown, SoFar, Step}
use Rattle.thread_nets.proofs.Lists.{bit_kept, bit_next, continues_same, continues_with, length_with, signal_next}
use Rattle.turn_nets.proofs.BitLists.{bits_later, bits_pushed}
use Rattle.turn_nets.proofs.FirstNodes.{so_far_decided, so_far_later}
use Rattle.thread_nets.proofs.Later.{grown_on, scope_later, side_later}

-- The plain act of an act of the code.

pub site_is : (widths : Widths) (p : ℕ) (k : CoreKind) → site (act_of widths p k) ≡ p
site_is widths p (Cycle n) = refl
site_is widths p (Set r e) = refl
site_is widths p (Send m e) = refl
site_is widths p (Recv m) = refl
site_is widths p (If' e q t None' w) = refl
site_is widths p (If' e q t (Some' r u) None) = refl
site_is widths p (If' e q t (Some' r u) (Some n)) = refl
site_is widths p (Block' q t) = refl
site_is widths p (Wait y) = refl
site_is widths p (Pure e) = refl
site_is widths p Unit = refl

-- An expression reads no side.

pub number_sides : (now : Moment) (registers ports one other : List Signal) (f : ℕ → ℕ) (e : Expr) → number (sight_in now registers ports one) f e ≡ number (sight_in now registers ports other) f e
number_sides now registers ports one other f (Lit w n) = refl
number_sides now registers ports one other f (Var y) = refl
number_sides now registers ports one other f (Reg r) = refl
number_sides now registers ports one other f (Not w e) = ap (λ x. not_of w x) (number_sides now registers ports one other f e)
number_sides now registers ports one other f (Bin o w v a b) =
    ap (λ x. operate o w v x (number (sight_in now registers ports one) f b)) (number_sides now registers ports one other f a)
    ∙ ap (λ x. operate o w v (number (sight_in now registers ports other) f a) x) (number_sides now registers ports one other f b)
number_sides now registers ports one other f (Slice y high low) = refl
number_sides now registers ports one other f (Choose c a b) =
    ap (λ x. choice_of x (number (sight_in now registers ports one) f a) (number (sight_in now registers ports one) f b)) (number_sides now registers ports one other f c)
    ∙ (ap (λ x. choice_of (number (sight_in now registers ports other) f c) x (number (sight_in now registers ports one) f b)) (number_sides now registers ports one other f a)
    ∙ ap (λ x. choice_of (number (sight_in now registers ports other) f c) (number (sight_in now registers ports other) f a) x) (number_sides now registers ports one other f b))

pub read_value : (old : Module) (walk : Walk) (sides : List Signal) (variables : List Variable) (scope : List Act) (signal : Signal) (used : Expr) → ScopeShown old walk sides variables scope → ReadOnce old walk variables signal used
    → (final : List Signal) → Continues sides final → ValueDrawn old (kept_registers walk) (kept_ports walk) final signal scope used
read_value old walk sides variables scope signal used given read final on = record {
  stands = read.stands;
  width = read.width ∙ ap (λ widths. expr_width widths used) given.widths;
  shows = λ now of.
      read.shows now of
      ∙ (number_sides now (kept_registers walk) (kept_ports walk) [] final (shown_in now variables) used
      ∙ ap (λ f. number (sight_at now walk final) f used) (given.shows final on now of));
}

-- What is asked of an act, and what follows.

pub used_fits : (count : ℕ) (widths : Widths) (act : Act) (used : Expr) → one_fits count widths act ≡ true → Uses act used → parts_fit count widths used ≡ true
used_fits count widths (term.Set p r e) used fits uses = subst (λ e. parts_fit count widths e ≡ true) uses fits
used_fits count widths (term.Send p m e) used fits uses = subst (λ e. parts_fit count widths e ≡ true) uses fits
used_fits count widths (term.If p e t u w) used fits uses = subst (λ e. parts_fit count widths e ≡ true) uses (and_parts _ _ (and_parts _ _ fits).0).0
used_fits count widths (term.When p e t) used fits uses = subst (λ e. parts_fit count widths e ≡ true) uses (and_parts _ _ (and_parts _ _ fits).0).0
used_fits count widths (term.Cycle p n) used fits uses = absurd uses
used_fits count widths (term.Recv p m) used fits uses = absurd uses
used_fits count widths (term.Block p t) used fits uses = absurd uses
used_fits count widths (term.Wait p y) used fits uses = absurd uses
used_fits count widths (term.Pure p e) used fits uses = absurd uses
used_fits count widths (term.Nothing p) used fits uses = absurd uses

-- an `if` has a condition, of one bit
pub record Condition (widths : Widths) (act : Act) : Type 0 where
  pub condition : Expr
  pub asks : Asks act condition
  pub uses : Uses act condition
  pub one_bit : expr_width widths condition ≡ 1

pub condition_of : (count : ℕ) (widths : Widths) (act : Act) → is_choice act ≡ true → one_fits count widths act ≡ true → Condition widths act
condition_of count widths (term.If p e t u w) is fits = record { condition = e; asks = refl; uses = refl; one_bit = eqb-true _ _ (and_parts _ _ (and_parts _ _ fits).0).1 }
condition_of count widths (term.When p e t) is fits = record { condition = e; asks = refl; uses = refl; one_bit = eqb-true _ _ (and_parts _ _ (and_parts _ _ fits).0).1 }
condition_of count widths (term.Set p r e) is fits = absurd cc
condition_of count widths (term.Send p m e) is fits = absurd cc
condition_of count widths (term.Cycle p n) is fits = absurd cc
condition_of count widths (term.Recv p m) is fits = absurd cc
condition_of count widths (term.Block p t) is fits = absurd cc
condition_of count widths (term.Wait p y) is fits = absurd cc
condition_of count widths (term.Pure p e) is fits = absurd cc
condition_of count widths (term.Nothing p) is fits = absurd cc

pub asks_none : (act : Act) (condition : Expr) → is_choice act ≡ false → Asks act condition → ⊥
asks_none (term.If p e t u w) condition is asks = cc
asks_none (term.When p e t) condition is asks = cc
asks_none (term.Set p r e) condition is asks = asks
asks_none (term.Send p m e) condition is asks = asks
asks_none (term.Cycle p n) condition is asks = asks
asks_none (term.Recv p m) condition is asks = asks
asks_none (term.Block p t) condition is asks = asks
asks_none (term.Wait p y) condition is asks = asks
asks_none (term.Pure p e) condition is asks = asks
asks_none (term.Nothing p) condition is asks = asks

pub decides_none : (act : Act) → is_choice act ≡ false → deed_in act ≡ Decides → ⊥
decides_none (term.If p e t u w) is deed = cc
decides_none (term.When p e t) is deed = cc
decides_none (term.Set p r e) is deed = cc
decides_none (term.Send p m e) is deed = cc
decides_none (term.Cycle p n) is deed = cc
decides_none (term.Recv p m) is deed = cc
decides_none (term.Block p t) is deed = cc
decides_none (term.Wait p y) is deed = cc
decides_none (term.Pure p e) is deed = cc
decides_none (term.Nothing p) is deed = cc

module _ {old : Module} {walk : Walk} {before : Drawn} {variables : List Variable} {scope : List Act} {act : Act} (plan : ActPlan old walk before variables scope act) where
  pub next_site : site act ≡ length before.values.items
  next_site = act_site scope (length before.values.items) act plan.numbered

  pub site_inside : site act < length (begins_in walk)
  site_inside = let n = next_site in let r = plan.room in let s = act_size_positive act in omega arith

-- The pulses up to the begin of the next act wait for earlier decisions alone.

pub waits_below : (plan : Walk) (site : ℕ) → IsPlaced (plan_in plan) (kept_sides plan) → site < length (begins_in plan) → WaitBelow (nodes_in plan) (node_at (begins_in plan) site + 1) site
waits_below walk site placed inside node place first below there is =
    by_case (less place site)
  where
    less : (k m : ℕ) → (k < m) ⊎ (m ≤ k)
    less k m = grind arith

    by_case : (place < site) ⊎ (site ≤ place) → place < site
    by_case (inl before) = before
    by_case (inr after) = let late = (placed.in_order node place first there is).1 site after in absurd (omega arith)

pub tails_there : (old : Module) (nodes other : List NodePlan) (states others wires : List Signal) (tails : List Pulse) → other ≡ nodes → others ≡ states → TailsDrawn old nodes states wires tails → TailsDrawn old other others wires tails
tails_there old nodes other states others wires tails one two drawn =
    subst (λ list. TailsDrawn old list others wires tails) (sym one) (subst (λ list. TailsDrawn old nodes list wires tails) (sym two) drawn)

pub begun_step : (old new : Module) (walk : Walk) (before after : Drawn) (nodes : List NodePlan) (states decisions : List Signal) → nodes ≡ nodes_in walk → states ≡ states_in walk → decisions ≡ before.decisions.items → Extends old new → SoFar old walk before
    → after.values.items ≡ before.values.items → after.decisions.items ≡ before.decisions.items → after.sides.items ≡ before.sides.items
    → length before.pulses.items ≤ length after.pulses.items → ((node : ℕ) → node < length before.pulses.items → pulse_at after.pulses.items node ≡ pulse_at before.pulses.items node)
    → PulsesSoFar new nodes states (wires_in walk) decisions (begins walk.begin) walk.tails.now after.pulses.items → Step old new walk before after
begun_step old new walk before after nodes states decisions nodes_are states_are decisions_are e so_far values decided sides longer kept pulses =
    let P : List NodePlan → List Signal → List Signal → Type 0 = λ nodes states decisions. PulsesSoFar new nodes states (wires_in walk) decisions (begins walk.begin) walk.tails.now after.pulses.items in
    let count : length after.values.items ≡ length before.values.items = ap (λ list. length list) values in
    record {
      extends = e;
      so_far = record {
        pulses = subst (λ n. P n (states_in walk) after.decisions.items) nodes_are
            (subst (λ s. P nodes s after.decisions.items) states_are
            (subst (λ d. P nodes states d) (decisions_are ∙ sym decided) pulses));
        decision_count = ap (λ list. length list) decided ∙ (so_far.decision_count ∙ sym count);
        side_count = ap (λ list. length list) sides ∙ (so_far.side_count ∙ sym count);
        bits = subst (λ list. AreBits new list) (sym decided) (bits_later old new before.decisions.items e so_far.bits);
        begun = λ place inside. let i = so_far.begun place (omega (arith, count, inside)) in omega arith;
        sides = λ place inside.
            let there : place < length before.values.items = omega (arith, count, inside) in
            side_later old new (begins_in walk) (kept_sides walk) before.pulses.items after.pulses.items before.decisions.items after.decisions.items before.sides.items after.sides.items place e
            (kept (node_at (begins_in walk) place) (so_far.begun place there))
            (ap (λ list. bit_at list place) decided)
            (ap (λ list. bit_at list place) sides)
            (so_far.sides place there);
      };
      grown = record {
        pulse_count = longer;
        pulses = kept;
        values = continues_same before.values.items after.values.items values;
        decisions = continues_same before.decisions.items after.decisions.items decided;
        sides = continues_same before.sides.items after.sides.items sides;
      };
    }

-- Nets alone are added.
pub same_step : (old new : Module) (walk : Walk) (drawn : Drawn) → Extends old new → SoFar old walk drawn → Step old new walk drawn drawn
same_step old new walk drawn e so_far =
    begun_step old new walk drawn drawn (nodes_in walk) (states_in walk) drawn.decisions.items refl refl refl e so_far refl refl refl (omega arith) (λ node inside. refl)
    (so_far_later old new (nodes_in walk) (states_in walk) (wires_in walk) drawn.decisions.items (begins walk.begin) walk.tails.now drawn.pulses.items e so_far.pulses)

-- One site more.

last_or_below : (place count : ℕ) → place < count + 1 → (place < count) ⊎ (place ≡ count)
last_or_below place count below = grind arith

module _ (old mid new : Module) (walk : Walk) (before begun after : Drawn) (variables : List Variable) (scope : List Act) (act : Act) (value decision side : Signal) (plan : ActPlan old walk before variables scope act) (step : Step old mid walk before begun)
    (there : node_at (begins_in walk) (site act) < length begun.pulses.items) (same_values : begun.values.items ≡ before.values.items) (later : Extends mid new) (pulses_are : after.pulses.items ≡ begun.pulses.items) (values_are : after.values.items ≡ begun.values.items ++ value ∷ [])
    (decisions_are : after.decisions.items ≡ begun.decisions.items ++ decision ∷ []) (sides_are : after.sides.items ≡ begun.sides.items ++ side ∷ []) (decides : IsBit new decision) (shows : IsBit new side)
    (tells : Tells new side (λ now. if pulses_told now begun.pulses.items (node_at (begins_in walk) (site act)) then told now decision else told now (bit_at (kept_sides walk) (site act)))) where
  at_site : site act ≡ length begun.values.items
  at_site = next_site plan ∙ sym (ap (λ list. length list) same_values)

  own_side : (place : ℕ) → place ≡ site act → SideDrawn new (begins_in walk) (kept_sides walk) after.pulses.items after.decisions.items after.sides.items place
  own_side place at =
      let decided = bit_next begun.decisions.items after.decisions.items decision (site act) decisions_are (at_site ∙ sym step.so_far.decision_count) in
      let shown = bit_next begun.sides.items after.sides.items side (site act) sides_are (at_site ∙ sym step.so_far.side_count) in
      subst (λ place. SideDrawn new (begins_in walk) (kept_sides walk) after.pulses.items after.decisions.items after.sides.items place) (sym at) (
        subst (λ bit. IsBit new bit) (sym shown) shows,
        λ now of.
            ap (λ bit. told now bit) shown
            ∙ (tells now of
            ∙ (ap (λ list. if pulses_told now list (node_at (begins_in walk) (site act)) then told now decision else told now (bit_at (kept_sides walk) (site act))) (sym pulses_are)
            ∙ ap (λ bit. if pulses_told now after.pulses.items (node_at (begins_in walk) (site act)) then told now bit else told now (bit_at (kept_sides walk) (site act))) (sym decided))),
      )

  earlier_side : (place : ℕ) → place < length begun.values.items → SideDrawn new (begins_in walk) (kept_sides walk) after.pulses.items after.decisions.items after.sides.items place
  earlier_side place inside =
      side_later mid new (begins_in walk) (kept_sides walk) begun.pulses.items after.pulses.items begun.decisions.items after.decisions.items begun.sides.items after.sides.items place later
      (ap (λ list. pulse_at list (node_at (begins_in walk) place)) pulses_are)
      (bit_kept begun.decisions.items after.decisions.items place (continues_with begun.decisions.items after.decisions.items decision decisions_are) (let c = step.so_far.decision_count in omega (arith, c, inside)))
      (bit_kept begun.sides.items after.sides.items place (continues_with begun.sides.items after.sides.items side sides_are) (let c = step.so_far.side_count in omega (arith, c, inside)))
      (step.so_far.sides place inside)

  values_longer : length after.values.items ≡ length begun.values.items + 1
  values_longer = length_with begun.values.items after.values.items value values_are

  own_so_far : SoFar new walk after
  own_so_far = record {
    pulses = subst (λ list. PulsesSoFar new (nodes_in walk) (states_in walk) (wires_in walk) after.decisions.items (begins walk.begin) walk.tails.now list) (sym pulses_are)
        (subst (λ list. PulsesSoFar new (nodes_in walk) (states_in walk) (wires_in walk) list (begins walk.begin) walk.tails.now begun.pulses.items) (sym decisions_are)
        (so_far_decided new (nodes_in walk) (states_in walk) (wires_in walk) begun.decisions.items (begins walk.begin) walk.tails.now begun.pulses.items (decision ∷ [])
        (so_far_later mid new (nodes_in walk) (states_in walk) (wires_in walk) begun.decisions.items (begins walk.begin) walk.tails.now begun.pulses.items later step.so_far.pulses)));
    decision_count =
        let l = length_with begun.decisions.items after.decisions.items decision decisions_are in let m = values_longer in let c = step.so_far.decision_count in omega (arith, l, m, c);
    side_count = let l = length_with begun.sides.items after.sides.items side sides_are in let m = values_longer in let c = step.so_far.side_count in omega (arith, l, m, c);
    bits = subst (λ list. AreBits new list) (sym decisions_are) (bits_pushed new begun.decisions.items decision (bits_later mid new begun.decisions.items later step.so_far.bits) decides);
    begun = λ place inside. begun_there place (last_or_below place (length begun.values.items) (let m = values_longer in omega (arith, m, inside)));
    sides = λ place inside. side_there place (last_or_below place (length begun.values.items) (let m = values_longer in omega (arith, m, inside)));
  }
    where
      pulse_count : length after.pulses.items ≡ length begun.pulses.items
      pulse_count = ap (λ list. length list) pulses_are

      begun_there : (place : ℕ) → (place < length begun.values.items) ⊎ (place ≡ length begun.values.items) → node_at (begins_in walk) place < length after.pulses.items
      begun_there place (inl below) = let i = step.so_far.begun place below in let c = pulse_count in omega (arith, c, i)
      begun_there place (inr at) = subst (λ place. node_at (begins_in walk) place < length after.pulses.items) (at_site ∙ sym at) (let c = pulse_count in let t = there in omega (arith, c, t))

      side_there : (place : ℕ) → (place < length begun.values.items) ⊎ (place ≡ length begun.values.items) → SideDrawn new (begins_in walk) (kept_sides walk) after.pulses.items after.decisions.items after.sides.items place
      side_there place (inl below) = earlier_side place below
      side_there place (inr at) = own_side place (at ∙ sym at_site)

  own_grown : Grown begun after
  own_grown = record {
    pulse_count = let c = ap (λ list. length list) pulses_are in omega (arith, c);
    pulses = λ node inside. ap (λ list. pulse_at list node) pulses_are;
    values = continues_with begun.values.items after.values.items value values_are;
    decisions = continues_with begun.decisions.items after.decisions.items decision decisions_are;
    sides = continues_with begun.sides.items after.sides.items side sides_are;
  }

  pub own_drawn : ((used : Expr) → Uses act used → ReadOnce new walk variables value used) → ((condition : Expr) → Asks act condition → decision ≡ value) → (((condition : Expr) → Asks act condition → ⊥) → decision ≡ zero_bit) → OwnDrawn old new walk before after scope act
  own_drawn reads chosen plain =
      let grown = grown_on before begun after step.grown own_grown in
      let is_value = signal_next begun.values.items after.values.items value (site act) values_are at_site in
      let is_decision = bit_next begun.decisions.items after.decisions.items decision (site act) decisions_are (at_site ∙ sym step.so_far.decision_count) in
      let scope_shown = scope_later old new walk before after (extends_on old mid new step.extends later) grown variables scope plan.ready.scope_shown in
      record {
        step = record { extends = extends_on old mid new step.extends later; so_far = own_so_far; grown = grown };
        count = values_longer ∙ ap (λ list. length list + 1) same_values;
        site = record {
          there = let m = values_longer in let s = at_site in omega (arith, m, s);
          value = λ used uses final on.
              subst (λ signal. ValueDrawn new (kept_registers walk) (kept_ports walk) final signal scope used) (sym is_value) (read_value new walk after.sides.items variables scope value used scope_shown (reads used uses) final on);
          decision = λ condition asks. is_decision ∙ (chosen condition asks ∙ sym is_value);
          undecided = λ none. is_decision ∙ plain none;
        };
      }

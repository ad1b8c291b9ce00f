-- What is drawn stays as it is told while nets, pulses and sites are added.
use Rattle.std.proofs.Common.{append-nil, ◌≡◌, ℕ, ◌<◌, List, [], length, refl, sym, ◌∙◌, ap, subst, arith}
use Rattle.std.specs.Prelude.{if◌then◌else◌}
use Rattle.core_term.specs.Term.{Expr, Act, site}
use Rattle.core_term.specs.Again.{Sight}
use Rattle.sv_tree.specs.Module.{Module}
use Rattle.module_nets.specs.declared.signal.Signal.{Signal}
use Rattle.module_nets.specs.declared.scope.Variable.{Variable}
use Rattle.module_nets.specs.Netlist.{Extends}
use Rattle.module_nets.specs.Shown.{shown}
use Rattle.module_nets.specs.Bits.{IsBit, told}
use Rattle.module_nets.specs.Signals.{signal_at}
use Rattle.module_nets.proofs.Growing.{of_later, stands_later, extends_on}
use Rattle.module_nets.proofs.BitsTold.{bit_later}
use Rattle.module_nets.proofs.Expressions.{places_later, variables_later}
use Rattle.pulse_nets.specs.declared.forms.Pulse.{Pulse}
use Rattle.pulse_nets.specs.Pulses.{pulse_at, pulses_told}
use Rattle.machine_parts.specs.Parts.{bit_at, node_at}
use Rattle.machine_parts.specs.Threads.{SideDrawn, ValueDrawn}
use Rattle.turn_nets.proofs.BitLists.{bits_later}
use Rattle.turn_nets.proofs.OneNode.{states_later}
use Rattle.turn_nets.proofs.TailNodes.{tails_later}
use Rattle.thread_nets.specs.declared.setting.Walk.{Walk}
use Rattle.thread_nets.specs.declared.setting.Drawn.{Drawn}
use Rattle.thread_nets.specs.Walk.{kept_sides, kept_registers, kept_ports, nodes_in, states_in, wires_in, Ground, Grown, IsValue, Ready, ScopeShown, SiteDrawn, SoFar, Step}
use Rattle.thread_nets.proofs.Lists.{continues_on, continues_length, bit_kept, signal_kept}

pub ground_later : (old new : Module) (walk : Walk) → Extends old new → Ground old walk → Ground new walk
ground_later old new walk e ground = record {
  placed = ground.placed;
  places = places_later old new (kept_registers walk) (kept_ports walk) [] e ground.places;
  states = states_later old new (nodes_in walk) (states_in walk) e ground.states;
  kept = bits_later old new (kept_sides walk) e ground.kept;
  wires = bits_later old new (wires_in walk) e ground.wires;
  begin = bit_later old new walk.begin e ground.begin;
  tails = tails_later old new (nodes_in walk) (states_in walk) (wires_in walk) walk.tails.now e ground.tails;
  tail_count = ground.tail_count;
}

-- The sides so far.

pub side_later : (old new : Module) (nodes : List ℕ) (kept : List Signal) (pulses more : List Pulse) (decisions decided sides shown : List Signal) (place : ℕ) → Extends old new → pulse_at more (node_at nodes place) ≡ pulse_at pulses (node_at nodes place)
    → bit_at decided place ≡ bit_at decisions place → bit_at shown place ≡ bit_at sides place → SideDrawn old nodes kept pulses decisions sides place → SideDrawn new nodes kept more decided shown place
side_later old new nodes kept pulses more decisions decided sides shown place e pulse decision side drawn = (
  subst (λ bit. IsBit new bit) (sym side) (bit_later old new (bit_at sides place) e drawn.0),
  λ now of.
      ap (λ bit. told now bit) side
      ∙ (drawn.1 now (of_later old new now e of)
      ∙ (ap (λ (p : Pulse). if told now p.pulse then told now (bit_at decisions place) else told now (bit_at kept place)) (sym pulse)
      ∙ ap (λ bit. if pulses_told now more (node_at nodes place) then told now bit else told now (bit_at kept place)) (sym decision))),
)

pub grown_self : (drawn : Drawn) → Grown drawn drawn
grown_self drawn = record {
  pulse_count = omega arith;
  pulses = λ node inside. refl;
  values = record { more = []; is = sym (append-nil drawn.values.items) };
  decisions = record { more = []; is = sym (append-nil drawn.decisions.items) };
  sides = record { more = []; is = sym (append-nil drawn.sides.items) };
}

pub grown_on : (first second third : Drawn) → Grown first second → Grown second third → Grown first third
grown_on first second third one two = record {
  pulse_count = let i = one.pulse_count in let j = two.pulse_count in omega arith;
  pulses = λ node inside. two.pulses node (let i = one.pulse_count in omega arith) ∙ one.pulses node inside;
  values = continues_on first.values.items second.values.items third.values.items one.values two.values;
  decisions = continues_on first.decisions.items second.decisions.items third.decisions.items one.decisions two.decisions;
  sides = continues_on first.sides.items second.sides.items third.sides.items one.sides two.sides;
}

pub step_on : (old mid new : Module) (walk : Walk) (first second third : Drawn) → Step old mid walk first second → Step mid new walk second third → Step old new walk first third
step_on old mid new walk first second third one two = record {
  extends = extends_on old mid new one.extends two.extends;
  so_far = two.so_far;
  grown = grown_on first second third one.grown two.grown;
}

module _ (old new : Module) (walk : Walk) (before after : Drawn) (e : Extends old new) (grown : Grown before after) where
  pub scope_later : (variables : List Variable) (scope : List Act) → ScopeShown old walk before.sides.items variables scope → ScopeShown new walk after.sides.items variables scope
  scope_later variables scope given = record {
    stand = variables_later old new variables e given.stand;
    widths = given.widths;
    shows = λ final on now of. given.shows final (continues_on before.sides.items after.sides.items final grown.sides on) now (of_later old new now e of);
  }

  pub value_later : (signal : Signal) (expected : ℕ) (value : Sight → ℕ) → IsValue old walk before.sides.items signal expected value → IsValue new walk after.sides.items signal expected value
  value_later signal expected value is = record {
    stands = λ some. stands_later old new signal e (is.stands some);
    width = is.width;
    shows = λ final on now of. is.shows final (continues_on before.sides.items after.sides.items final grown.sides on) now (of_later old new now e of);
  }

  drawn_later : (signal : Signal) (final : List Signal) (scope : List Act) (used : Expr) → ValueDrawn old (kept_registers walk) (kept_ports walk) final signal scope used → ValueDrawn new (kept_registers walk) (kept_ports walk) final signal scope used
  drawn_later signal final scope used drawn = record {
    stands = stands_later old new signal e drawn.stands;
    width = drawn.width;
    shows = λ now of. drawn.shows now (of_later old new now e of);
  }

  pub site_later : (scope : List Act) (act : Act) → length before.decisions.items ≡ length before.values.items → SiteDrawn old walk before scope act → SiteDrawn new walk after scope act
  site_later scope act count drawn =
      let there = drawn.there in
      let decided : site act < length before.decisions.items = omega (arith, there, count) in
      let value_same = signal_kept before.values.items after.values.items (site act) grown.values there in
      let decision_same = bit_kept before.decisions.items after.decisions.items (site act) grown.decisions decided in
      record {
        there = let l = continues_length before.values.items after.values.items grown.values in omega arith;
        value = λ used uses final on.
            subst (λ signal. ValueDrawn new (kept_registers walk) (kept_ports walk) final signal scope used) (sym value_same)
            (drawn_later (signal_at before.values.items (site act)) final scope used (drawn.value used uses final (continues_on before.sides.items after.sides.items final grown.sides on)));
        decision = λ condition asks. decision_same ∙ (drawn.decision condition asks ∙ sym value_same);
        undecided = λ none. decision_same ∙ drawn.undecided none;
      }

  pub ready_later : (variables : List Variable) (scope : List Act) → Ready old walk before variables scope → SoFar new walk after → Ready new walk after variables scope
  ready_later variables scope ready so_far = record {
    ground = ground_later old new walk e ready.ground;
    so_far = so_far;
    scope_shown = scope_later variables scope ready.scope_shown;
  }

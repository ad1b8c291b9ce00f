-- What the walk over a body needs and gives, part by part.
--
-- The values of a part are told for every list of sides that continues the sides drawn so far, so that they stay as
-- they are told while sides are added.
use Rattle.std.specs.Prelude.{ℕ, ◌≡◌, ◌+◌, ◌<◌, ◌≤◌, Bool, true, false, List, [], ◌++◌, length}
use Rattle.core_term.specs.Term.{Expr, Term, Then, Both, Act, If, When, site, head}
use Rattle.core_term.specs.Numbering.{size, act_size, Numbered, NumberedAct}
use Rattle.core_term.specs.Stands.{Stands, StandsIn}
use Rattle.core_term.specs.Acts.{Uses, Asks}
use Rattle.core_term.specs.Again.{Sight, again, act_again, number, now_in}
use Rattle.core_term.specs.Widths.{Widths, expr_width, term_width, act_width}
use Rattle.core_term.specs.View.{term_of, act_of, after_act}
use Rattle.core_term.specs.declared.term.CoreTerm.{CoreTerm}
use Rattle.core_term.specs.declared.term.CoreAct.{CoreAct}
use Rattle.core_term.specs.declared.term.CoreKind.{CoreKind}
use Rattle.sv_tree.specs.Module.{Module}
use Rattle.module_nets.specs.declared.signal.Signal.{Signal}
use Rattle.module_nets.specs.declared.scope.Variable.{Variable}
use Rattle.module_nets.specs.Netlist as netlist
use Rattle.module_nets.specs.Netlist.{Extends}
use Rattle.module_nets.specs.Shown.{Moment, IsMomentOf, Shows}
use Rattle.module_nets.specs.Bits.{IsBit}
use Rattle.module_nets.specs.Signals.{signal_at, sight_in, shown_in, widths_in, PlacesStand, VariablesStand}
use Rattle.pulse_nets.specs.Pulses.{begins, pulse_at}
use Rattle.act_deeds.specs.declared.deed.Deed.TheVariants.{Decides}
use Rattle.act_deeds.specs.Deeds.{deed_at, deed_in}
use Rattle.machine_parts.specs.declared.plan.Event.TheVariants as event
use Rattle.machine_parts.specs.declared.plan.NodePlan.{NodePlan}
use Rattle.machine_parts.specs.declared.plan.TurnPlan.{TurnPlan}
use Rattle.machine_parts.specs.Parts.{bit_at, zero_bit, plan_at, node_at}
use Rattle.machine_parts.specs.Threads.{SideDrawn, ValueDrawn, widths_after}
use Rattle.machine_parts.specs.Nodes.{AreBits, AreNodes, AreStatesDrawn, PulsesSoFar, TailsDrawn}
use Rattle.thread_nets.specs.declared.setting.Walk.{Walk}
use Rattle.thread_nets.specs.declared.setting.Drawn.{Drawn}
use Rattle.thread_nets.specs.Fits.{acts_fit, one_fits}

-- what the walk reads
abbrev pub plan_in : Walk → TurnPlan
plan_in walk = walk.setting.plan.now

abbrev pub nodes_in : Walk → List NodePlan
nodes_in walk = walk.setting.plan.now.nodes.items

abbrev pub begins_in : Walk → List ℕ
begins_in walk = walk.setting.plan.now.begins.items

abbrev pub states_in : Walk → List Signal
states_in walk = walk.setting.states.now.nodes.items

abbrev pub kept_sides : Walk → List Signal
kept_sides walk = walk.setting.states.now.sides.items

abbrev pub kept_registers : Walk → List Signal
kept_registers walk = walk.setting.registers.now

abbrev pub kept_ports : Walk → List Signal
kept_ports walk = walk.setting.ports.now

abbrev pub wires_in : Walk → List Signal
wires_in walk = walk.setting.wires.now

abbrev pub widths_here : Walk → List Variable → Widths
widths_here walk variables = widths_in (kept_registers walk) (kept_ports walk) variables

abbrev pub widths_at : Walk → List Act → Widths
widths_at walk scope = widths_after (widths_in (kept_registers walk) (kept_ports walk) []) scope

abbrev pub sight_at : Moment → Walk → (sides : List Signal) → Sight
sight_at now walk sides = sight_in now (kept_registers walk) (kept_ports walk) sides

-- an act by its site and kind, a term, and a chain, in a scope
abbrev pub act_at : Walk → List Act → (place : ℕ) → CoreKind → Act
act_at walk scope place kind = act_of (widths_at walk scope) place kind

abbrev pub term_at : Walk → List Act → CoreTerm → Term
term_at walk scope term = term_of (widths_at walk scope) term

-- a rest that begins with the act, or where it ends
abbrev pub chain : (together : Bool) → Act → Term → Term
chain true act rest = Both act rest
chain together act rest = Then act rest

abbrev pub chain_at : (together : Bool) → Walk → List Act → CoreAct → CoreTerm → Term
chain_at together walk scope act rest =
    chain together (act_at walk scope act.site act.kind)
    (term_of (after_act (widths_at walk scope) (act_at walk scope act.site act.kind)) rest)

-- what is asked of a plan and of the kept sides of its `if`s
pub record IsPlaced (plan : TurnPlan) (kept : List Signal) : Type 0 where
  pub few : length plan.nodes.items < 8192
  pub nodes : AreNodes plan.nodes.items
  pub begins_inside : (place : ℕ) → place < length plan.begins.items
      → node_at plan.begins.items place < length plan.nodes.items
  pub in_order : (node place : ℕ) (first : Bool) → node < length plan.nodes.items
      → (plan_at plan.nodes.items node).event ≡ event.Side place first
      → (place < length plan.begins.items)
      × ((before : ℕ) → before ≤ place → node_at plan.begins.items before < node)
  pub no_side : (place : ℕ) → (deed_at plan.deeds.items place ≡ Decides → ⊥) → bit_at kept place ≡ zero_bit

-- what stands from the start
pub record Ground (old : Module) (walk : Walk) : Type 0 where
  pub placed : IsPlaced (plan_in walk) (kept_sides walk)
  pub places : PlacesStand old (kept_registers walk) (kept_ports walk) []
  pub states : AreStatesDrawn old (nodes_in walk) (states_in walk)
  pub kept : AreBits old (kept_sides walk)
  pub wires : AreBits old (wires_in walk)
  pub begin : IsBit old walk.begin
  pub tails : TailsDrawn old (nodes_in walk) (states_in walk) (wires_in walk) walk.tails.now
  pub tail_count : length walk.tails.now ≡ length (nodes_in walk)

-- what is drawn so far
pub record SoFar (old : Module) (walk : Walk) (drawn : Drawn) : Type 0 where
  pub pulses : PulsesSoFar old (nodes_in walk) (states_in walk) (wires_in walk) drawn.decisions.items
      (begins walk.begin) walk.tails.now drawn.pulses.items
  pub decision_count : length drawn.decisions.items ≡ length drawn.values.items
  pub side_count : length drawn.sides.items ≡ length drawn.values.items
  pub bits : AreBits old drawn.decisions.items
  pub begun : (place : ℕ) → place < length drawn.values.items
      → node_at (begins_in walk) place < length drawn.pulses.items
  pub sides : (place : ℕ) → place < length drawn.values.items
      → SideDrawn old (begins_in walk) (kept_sides walk) drawn.pulses.items drawn.decisions.items drawn.sides.items
      place

-- a list that begins with another
pub record Continues (old new : List Signal) : Type 0 where
  pub more : List Signal
  pub is : new ≡ old ++ more

pub record Grown (old new : Drawn) : Type 0 where
  pub pulse_count : length old.pulses.items ≤ length new.pulses.items
  pub pulses : (node : ℕ) → node < length old.pulses.items
      → pulse_at new.pulses.items node ≡ pulse_at old.pulses.items node
  pub values : Continues old.values.items new.values.items
  pub decisions : Continues old.decisions.items new.decisions.items
  pub sides : Continues old.sides.items new.sides.items

-- the variables are the values of the acts in scope, whatever sides are added
pub record ScopeShown (old : Module) (walk : Walk) (sides : List Signal) (variables : List Variable)
    (scope : List Act) : Type 0 where
  pub stand : VariablesStand old variables
  pub widths : widths_here walk variables ≡ widths_at walk scope
  pub shows : (final : List Signal) → Continues sides final → (now : Moment) → IsMomentOf old now
      → shown_in now variables ≡ now_in (sight_at now walk final) scope

-- the nets of an act at its site
pub record SiteDrawn (old : Module) (walk : Walk) (drawn : Drawn) (scope : List Act) (act : Act) : Type 0 where
  pub there : site act < length drawn.values.items
  pub value : (used : Expr) → Uses act used → (final : List Signal) → Continues drawn.sides.items final
      → ValueDrawn old (kept_registers walk) (kept_ports walk) final (signal_at drawn.values.items (site act)) scope
      used
  pub decision : (condition : Expr) → Asks act condition
      → bit_at drawn.decisions.items (site act) ≡ signal_at drawn.values.items (site act)
  pub undecided : ((condition : Expr) → Asks act condition → ⊥) → bit_at drawn.decisions.items (site act) ≡ zero_bit

-- a signal of this width shows this value, whatever sides are added; where the width is 0 it need not stand
pub record IsValue (old : Module) (walk : Walk) (sides : List Signal) (signal : Signal) (expected : ℕ)
    (value : Sight → ℕ) : Type 0 where
  pub stands : 0 < signal.width → netlist.Stands old signal
  pub width : signal.width ≡ expected
  pub shows : (final : List Signal) → Continues sides final → Shows old signal (λ now. value (sight_at now walk final))

-- what a part of the body needs where so much is drawn
pub record Ready (old : Module) (walk : Walk) (drawn : Drawn) (variables : List Variable)
    (scope : List Act) : Type 0 where
  pub ground : Ground old walk
  pub so_far : SoFar old walk drawn
  pub scope_shown : ScopeShown old walk drawn.sides.items variables scope

pub record TermPlan (old : Module) (walk : Walk) (drawn : Drawn) (variables : List Variable) (scope : List Act)
    (term : Term) : Type 0 where
  pub ready : Ready old walk drawn variables scope
  pub numbered : Numbered scope (length drawn.values.items) term
  pub room : length drawn.values.items + size term ≤ length (begins_in walk)
  pub fits : acts_fit (length (kept_registers walk)) (widths_at walk scope) term ≡ true
  pub deeds : (within : List Act) (part : Term) → Stands scope term within part
      → deed_at (plan_in walk).deeds.items (site (head part)) ≡ deed_in (head part)

pub record ActPlan (old : Module) (walk : Walk) (drawn : Drawn) (variables : List Variable) (scope : List Act)
    (act : Act) : Type 0 where
  pub ready : Ready old walk drawn variables scope
  pub numbered : NumberedAct scope (length drawn.values.items) act
  pub room : length drawn.values.items + act_size act ≤ length (begins_in walk)
  pub fits : one_fits (length (kept_registers walk)) (widths_at walk scope) act ≡ true
  pub deed : deed_at (plan_in walk).deeds.items (site act) ≡ deed_in act
  pub deeds : (within : List Act) (part : Term) → StandsIn scope act within part
      → deed_at (plan_in walk).deeds.items (site (head part)) ≡ deed_in (head part)

-- the same once the nets of its own site are drawn
pub record InsidePlan (old : Module) (walk : Walk) (drawn : Drawn) (variables : List Variable) (scope : List Act)
    (act : Act) : Type 0 where
  pub ready : Ready old walk drawn variables scope
  pub low : ℕ
  pub count : length drawn.values.items ≡ low + 1
  pub numbered : NumberedAct scope low act
  pub room : low + act_size act ≤ length (begins_in walk)
  pub fits : one_fits (length (kept_registers walk)) (widths_at walk scope) act ≡ true
  pub deeds : (within : List Act) (part : Term) → StandsIn scope act within part
      → deed_at (plan_in walk).deeds.items (site (head part)) ≡ deed_in (head part)

-- whether an act is an `if`
abbrev pub is_choice : Act → Bool
is_choice (If place condition first second worded) = true
is_choice (When place condition first) = true
is_choice act = false

-- the value that an act uses, read where the variables are these
pub record ReadOnce (old : Module) (walk : Walk) (variables : List Variable) (signal : Signal)
    (used : Expr) : Type 0 where
  pub stands : netlist.Stands old signal
  pub width : signal.width ≡ expr_width (widths_here walk variables) used
  pub shows : Shows old signal (λ now. number (sight_at now walk []) (shown_in now variables) used)

-- one step of the walk
pub record Step (old new : Module) (walk : Walk) (before after : Drawn) : Type 0 where
  pub extends : Extends old new
  pub so_far : SoFar new walk after
  pub grown : Grown before after

abbrev pub term_value : List Act → Term → Sight → ℕ
term_value scope term sight = again sight (now_in sight scope) term

abbrev pub act_value : List Act → Act → Sight → ℕ
act_value scope act sight = act_again sight (now_in sight scope) act

-- what it gives
pub record TermDrawn (old new : Module) (walk : Walk) (before after : Drawn) (scope : List Act) (term : Term)
    (signal : Signal) : Type 0 where
  pub step : Step old new walk before after
  pub count : length after.values.items ≡ length before.values.items + size term
  pub value : IsValue new walk after.sides.items signal (term_width (widths_at walk scope) term) (term_value scope term)
  pub sites : (within : List Act) (part : Term) → Stands scope term within part
      → SiteDrawn new walk after within (head part)

pub record ActDrawn (old new : Module) (walk : Walk) (before after : Drawn) (scope : List Act) (act : Act)
    (signal : Signal) : Type 0 where
  pub step : Step old new walk before after
  pub count : length after.values.items ≡ length before.values.items + act_size act
  pub value : IsValue new walk after.sides.items signal (act_width (widths_at walk scope) act) (act_value scope act)
  pub site : SiteDrawn new walk after scope act
  pub sites : (within : List Act) (part : Term) → StandsIn scope act within part
      → SiteDrawn new walk after within (head part)

pub record OwnDrawn (old new : Module) (walk : Walk) (before after : Drawn) (scope : List Act)
    (act : Act) : Type 0 where
  pub step : Step old new walk before after
  pub count : length after.values.items ≡ length before.values.items + 1
  pub site : SiteDrawn new walk after scope act

pub record InsideDrawn (old new : Module) (walk : Walk) (before after : Drawn) (scope : List Act) (act : Act)
    (signal : Signal) : Type 0 where
  pub step : Step old new walk before after
  pub count : length after.values.items + 1 ≡ length before.values.items + act_size act
  pub value : IsValue new walk after.sides.items signal (act_width (widths_at walk scope) act) (act_value scope act)
  pub sites : (within : List Act) (part : Term) → StandsIn scope act within part
      → SiteDrawn new walk after within (head part)

-- all of a body
pub record BodyDrawn (old new : Module) (walk : Walk) (drawn : Drawn) (body : Term) : Type 0 where
  pub extends : Extends old new
  pub so_far : SoFar new walk drawn
  pub pulse_count : length drawn.pulses.items ≡ length (nodes_in walk)
  pub count : length drawn.values.items ≡ size body
  pub sites : (scope : List Act) (part : Term) → Stands [] body scope part → SiteDrawn new walk drawn scope (head part)

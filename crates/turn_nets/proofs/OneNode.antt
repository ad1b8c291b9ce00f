-- The pulse of one node: it stays what it is when nets are added, and where the pulses that it reads are the same; and a node of
-- the tail reads neither its event nor whether a turn begins.
use Rattle.std.proofs.Common.{◌≡◌, ℕ, ◌<◌, Bool, true, not, List, refl, ◌∙◌, ap, subst}
use Rattle.order_rules.specs.Form.{Form, Start, Same, After, Sync, Join, Side, Merge}
use Rattle.order_rules.specs.Entry.{IsEarlier}
use Rattle.sv_tree.specs.Module.{Module}
use Rattle.module_nets.specs.declared.signal.Signal.{Signal}
use Rattle.module_nets.specs.Netlist.{Extends}
use Rattle.module_nets.specs.Shown.{Moment, IsMomentOf, shown}
use Rattle.module_nets.specs.Bits.{IsBit, Tells, told}
use Rattle.module_nets.proofs.Growing.{of_later, stands_later}
use Rattle.module_nets.proofs.BitsTold.{bit_later}
use Rattle.pulse_nets.specs.declared.node.Part.{Part}
use Rattle.pulse_nets.specs.declared.forms.Pulse.{Pulse}
use Rattle.pulse_nets.specs.Pulses.{pulse_from, Knows, pulses_told, pulse_at, IsPulse, IsKnown, IsDrawn, ArePredecessorsDrawn, PartStands, form_of}
use Rattle.machine_parts.specs.declared.plan.NodePlan.{NodePlan}
use Rattle.machine_parts.specs.Parts.{bit_at, plan_at, form_in, event_told}
use Rattle.machine_parts.specs.Threads.{PulseDrawn}
use Rattle.machine_parts.specs.Nodes.{IsOfTail, StateStands, AreStatesDrawn}
use Rattle.turn_nets.specs.Planned.{NodeDrawn}

-- each predecessor whose pulse a node reads has the property
abbrev pub EachFrom : (ℕ → Type 0) → Form ℕ → Type 0
EachFrom P Start = Unit {0}
EachFrom P (Same from) = P from
EachFrom P (After cycles from) = Unit {0}
EachFrom P (Sync from) = P from
EachFrom P (Side from) = P from
EachFrom P (Join first second) = P first × P second
EachFrom P (Merge first second) = P first × P second

pub each_weaker : (P Q : ℕ → Type 0) (form : Form ℕ) → ((node : ℕ) → P node → Q node) → EachFrom P form → EachFrom Q form
each_weaker P Q Start weaker each = tt
each_weaker P Q (Same from) weaker each = weaker from each
each_weaker P Q (After cycles from) weaker each = tt
each_weaker P Q (Sync from) weaker each = weaker from each
each_weaker P Q (Side from) weaker each = weaker from each
each_weaker P Q (Join first second) weaker each = (weaker first each.0, weaker second each.1)
each_weaker P Q (Merge first second) weaker each = (weaker first each.0, weaker second each.1)

-- a property of all nodes is one of the predecessors
pub each_all : (P : ℕ → Type 0) (form : Form ℕ) → ((node : ℕ) → P node) → EachFrom P form
each_all P Start all = tt
each_all P (Same from) all = all from
each_all P (After cycles from) all = tt
each_all P (Sync from) all = all from
each_all P (Side from) all = all from
each_all P (Join first second) all = (all first, all second)
each_all P (Merge first second) all = (all first, all second)

pub each_earlier : (node : ℕ) (form : Form ℕ) → IsEarlier node form → EachFrom (λ from. from < node) form
each_earlier node Start earlier = tt
each_earlier node (Same from) earlier = earlier
each_earlier node (After cycles from) earlier = tt
each_earlier node (Sync from) earlier = earlier
each_earlier node (Side from) earlier = earlier
each_earlier node (Join first second) earlier = earlier
each_earlier node (Merge first second) earlier = earlier

-- the predecessors of a node of the tail are earlier nodes of the tail
abbrev pub EarlierTail : List NodePlan → (node from : ℕ) → Type 0
EarlierTail nodes node from = (from < node) × ((plan_at nodes from).tail ≡ true)

pub each_tail : (nodes : List NodePlan) (node : ℕ) (form : Form ℕ) → IsEarlier node form → IsOfTail nodes form → EachFrom (EarlierTail nodes node) form
each_tail nodes node Start earlier tail = tt
each_tail nodes node (Same from) earlier tail = (earlier, tail)
each_tail nodes node (After cycles from) earlier tail = tt
each_tail nodes node (Sync from) earlier tail = absurd tail
each_tail nodes node (Side from) earlier tail = absurd tail
each_tail nodes node (Join first second) earlier tail = ((earlier.0, tail.0), (earlier.1, tail.1))
each_tail nodes node (Merge first second) earlier tail = ((earlier.0, tail.0), (earlier.1, tail.1))

pub each_drawn : (old : Module) (pulses : List Pulse) (form : Form ℕ) → EachFrom (IsDrawn old pulses) form → ArePredecessorsDrawn old pulses form
each_drawn old pulses Start each = tt
each_drawn old pulses (Same from) each = each
each_drawn old pulses (After cycles from) each = tt
each_drawn old pulses (Sync from) each = each
each_drawn old pulses (Side from) each = each
each_drawn old pulses (Join first second) each = each
each_drawn old pulses (Merge first second) each = each

-- the same pulses of predecessors, the same pulse

pulse_same : (one other : ℕ → Bool) (bit : Bool) (counter : ℕ) (event begin forgets : Bool) (form : Form ℕ) → EachFrom (λ from. one from ≡ other from) form
    → pulse_from one bit counter event begin forgets form ≡ pulse_from other bit counter event begin forgets form
pulse_same one other bit counter event begin forgets Start same = refl
pulse_same one other bit counter event begin forgets (Same from) same = same
pulse_same one other bit counter event begin forgets (After cycles from) same = refl
pulse_same one other bit counter event begin forgets (Sync from) same = rw same refl
pulse_same one other bit counter event begin forgets (Side from) same = rw same refl
pulse_same one other bit counter event begin forgets (Join first second) same = rw (same.0, same.1) refl
pulse_same one other bit counter event begin forgets (Merge first second) same = rw (same.0, same.1) refl

knows_same : (known : Bool) (one other : ℕ → Bool) (bit begin forgets : Bool) (form : Form ℕ) → EachFrom (λ from. one from ≡ other from) form
    → Knows known one bit begin forgets form → Knows known other bit begin forgets form
knows_same known one other bit begin forgets Start same knows = tt
knows_same known one other bit begin forgets (Same from) same knows = tt
knows_same known one other bit begin forgets (After cycles from) same knows = tt
knows_same known one other bit begin forgets (Sync from) same knows = rw same at knows
knows_same known one other bit begin forgets (Side from) same knows = tt
knows_same known one other bit begin forgets (Join first second) same knows = knows
knows_same known one other bit begin forgets (Merge first second) same knows = tt

module _ (plan : NodePlan) (state : Signal) (event begin : Moment → Bool) (drawn : Pulse) where
  pub node_later : (old new : Module) (one other : List Pulse) → Extends old new → EachFrom (λ from. pulse_at one from ≡ pulse_at other from) (form_of plan.shape)
      → NodeDrawn old plan state event begin one drawn → NodeDrawn new plan state event begin other drawn
  node_later old new one other e same is = record {
    pulse = bit_later old new drawn.pulse e is.pulse;
    known = bit_later old new drawn.known e is.known;
    tells = λ now of. is.tells now (of_later old new now e of) ∙ pulse_same (pulses_told now one) (pulses_told now other) _ _ _ _ _ (form_of plan.shape) (agree now);
    knows = λ now of. knows_same (told now drawn.known) (pulses_told now one) (pulses_told now other) (told now state) (begin now) (not plan.tail) (form_of plan.shape) (agree now) (is.knows now (of_later old new now e of));
  }
    where
      agree : (now : Moment) → EachFrom (λ from. pulses_told now one from ≡ pulses_told now other from) (form_of plan.shape)
      agree now =
          each_weaker (λ from. pulse_at one from ≡ pulse_at other from) (λ from. pulses_told now one from ≡ pulses_told now other from) (form_of plan.shape)
          (λ from same. ap (λ drawn. told now drawn.pulse) same) same

  pub node_event : (old : Module) (other : Moment → Bool) (before : List Pulse) → ((now : Moment) → IsMomentOf old now → event now ≡ other now)
      → NodeDrawn old plan state event begin before drawn → NodeDrawn old plan state other begin before drawn
  node_event old other before same is = record {
    pulse = is.pulse;
    known = is.known;
    tells = λ now of. is.tells now of ∙ ap (λ event. pulse_from (pulses_told now before) (told now state) (shown now state) event (begin now) (not plan.tail) (form_of plan.shape)) (same now of);
    knows = is.knows;
  }

-- a node of the tail reads neither its event nor whether a turn begins

pulse_of_tail : (nodes : List NodePlan) (pulse : ℕ → Bool) (bit : Bool) (counter : ℕ) (event begin other late tail : Bool) (form : Form ℕ) → tail ≡ true → IsOfTail nodes form
    → pulse_from pulse bit counter event begin (not tail) form ≡ pulse_from pulse bit counter other late (not tail) form
pulse_of_tail nodes pulse bit counter event begin other late tail Start is of = absurd of
pulse_of_tail nodes pulse bit counter event begin other late tail (Same from) is of = refl
pulse_of_tail nodes pulse bit counter event begin other late tail (After cycles from) is of = refl
pulse_of_tail nodes pulse bit counter event begin other late tail (Sync from) is of = absurd of
pulse_of_tail nodes pulse bit counter event begin other late tail (Side from) is of = absurd of
pulse_of_tail nodes pulse bit counter event begin other late tail (Join first second) is of = rw is refl
pulse_of_tail nodes pulse bit counter event begin other late tail (Merge first second) is of = refl

knows_of_tail : (nodes : List NodePlan) (known : Bool) (pulse : ℕ → Bool) (bit begin late tail : Bool) (form : Form ℕ) → tail ≡ true → IsOfTail nodes form
    → Knows known pulse bit begin (not tail) form → Knows known pulse bit late (not tail) form
knows_of_tail nodes known pulse bit begin late tail Start is of knows = tt
knows_of_tail nodes known pulse bit begin late tail (Same from) is of knows = tt
knows_of_tail nodes known pulse bit begin late tail (After cycles from) is of knows = tt
knows_of_tail nodes known pulse bit begin late tail (Sync from) is of knows = absurd of
knows_of_tail nodes known pulse bit begin late tail (Side from) is of knows = tt
knows_of_tail nodes known pulse bit begin late tail (Join first second) is of knows = knows ∙ rw is refl
knows_of_tail nodes known pulse bit begin late tail (Merge first second) is of knows = tt

pub node_of_tail : (nodes : List NodePlan) (old : Module) (plan : NodePlan) (state : Signal) (event begin other late : Moment → Bool) (before : List Pulse) (drawn : Pulse) → plan.tail ≡ true
    → IsOfTail nodes (form_of plan.shape) → NodeDrawn old plan state event begin before drawn → NodeDrawn old plan state other late before drawn
node_of_tail nodes old plan state event begin other late before drawn tail of is = record {
  pulse = is.pulse;
  known = is.known;
  tells = λ now moment. is.tells now moment ∙ pulse_of_tail nodes (pulses_told now before) (told now state) (shown now state) (event now) (begin now) (other now) (late now) plan.tail (form_of plan.shape) tail of;
  knows = λ now moment. knows_of_tail nodes (told now drawn.known) (pulses_told now before) (told now state) (begin now) (late now) plan.tail (form_of plan.shape) tail of (is.knows now moment);
}

-- what is drawn from the part of a node
abbrev pub part_for : NodePlan → (state event : Signal) → Part
part_for plan state event = record { shape = plan.shape; forgets = not plan.tail; state = state; event = event }

pub node_from_part : (old new : Module) (plan : NodePlan) (state signal : Signal) (event begin : Moment → Bool) (before : List Pulse) (part : Part) (drawn : Pulse) → Extends old new
    → part ≡ part_for plan state signal → Tells old signal event → IsBit new drawn.pulse → IsBit new drawn.known → IsPulse new before begin part drawn → IsKnown new before begin part drawn
    → NodeDrawn new plan state event begin before drawn
node_from_part old new plan state signal event begin before part drawn e is event_tells pulse known tells knows =
    node_event plan state (λ now. told now signal) begin drawn new event before (λ now of. event_tells now (of_later old new now e of)) record {
      pulse = pulse;
      known = known;
      tells = subst (λ part. IsPulse new before begin part drawn) is tells;
      knows = subst (λ part. IsKnown new before begin part drawn) is knows;
    }

pub part_stands : (old new : Module) (state event : Signal) (form : Form ℕ) → Extends old new → StateStands old state form → IsBit new event → PartStands new state event form
part_stands old new state event Start e stood bit = tt
part_stands old new state event (Same from) e stood bit = tt
part_stands old new state event (After cycles from) e stood bit = (stands_later old new state e stood.0, stood.1)
part_stands old new state event (Sync from) e stood bit = (bit_later old new state e stood, bit)
part_stands old new state event (Side from) e stood bit = bit
part_stands old new state event (Join first second) e stood bit = bit_later old new state e stood
part_stands old new state event (Merge first second) e stood bit = tt

state_later : (old new : Module) (state : Signal) (form : Form ℕ) → Extends old new → StateStands old state form → StateStands new state form
state_later old new state Start e stood = tt
state_later old new state (Same from) e stood = tt
state_later old new state (After cycles from) e stood = (stands_later old new state e stood.0, stood.1)
state_later old new state (Sync from) e stood = bit_later old new state e stood
state_later old new state (Side from) e stood = tt
state_later old new state (Join first second) e stood = bit_later old new state e stood
state_later old new state (Merge first second) e stood = tt

pub states_later : (old new : Module) (nodes : List NodePlan) (states : List Signal) → Extends old new → AreStatesDrawn old nodes states → AreStatesDrawn new nodes states
states_later old new nodes states e are node within = state_later old new (bit_at states node) (form_in nodes node) e (are node within)

-- the pulse of a node of a list is one by its plan, and the other way round

module _ (old : Module) (nodes : List NodePlan) (states wires decisions : List Signal) (begin : Moment → Bool) (pulses : List Pulse) (node : ℕ) where
  pub as_node : PulseDrawn old nodes states wires decisions begin pulses node
      → NodeDrawn old (plan_at nodes node) (bit_at states node) (λ now. event_told now wires decisions (plan_at nodes node).event) begin pulses (pulse_at pulses node)
  as_node is = record { pulse = is.pulse; known = is.known; tells = is.tells; knows = is.knows }

  pub as_pulse : NodeDrawn old (plan_at nodes node) (bit_at states node) (λ now. event_told now wires decisions (plan_at nodes node).event) begin pulses (pulse_at pulses node)
      → PulseDrawn old nodes states wires decisions begin pulses node
  as_pulse is = record { pulse = is.pulse; known = is.known; tells = is.tells; knows = is.knows }

pub drawn_later : (old new : Module) (nodes : List NodePlan) (states wires decisions : List Signal) (begin : Moment → Bool) (pulses : List Pulse) (node : ℕ) → Extends old new
    → PulseDrawn old nodes states wires decisions begin pulses node → PulseDrawn new nodes states wires decisions begin pulses node
drawn_later old new nodes states wires decisions begin pulses node e is =
    as_pulse new nodes states wires decisions begin pulses node
    (node_later (plan_at nodes node) (bit_at states node) (λ now. event_told now wires decisions (plan_at nodes node).event) begin (pulse_at pulses node) old new pulses pulses e
    (each_all (λ from. pulse_at pulses from ≡ pulse_at pulses from) (form_in nodes node) (λ from. refl)) (as_node old nodes states wires decisions begin pulses node is))

-- One node of the tail more: the pulses of the tail read earlier ones of the tail alone.
use Rattle.std.proofs.Common.{◌≡◌, ℕ, ◌<◌, ◌≤◌, ◌⊎◌, inl, inr, true, List, [], ◌∷◌, ◌++◌, length, sym, subst, arith}
use Rattle.std.proofs.lemmas.Bool.{cases_lt}
use Rattle.std.proofs.lemmas.List.{get_or_append_left, get_or_at, length-append}
use Rattle.sv_tree.specs.Module.{Module}
use Rattle.module_nets.specs.declared.signal.Signal.{Signal}
use Rattle.module_nets.specs.Netlist.{Extends}
use Rattle.module_nets.specs.Bits.{IsBit}
use Rattle.module_nets.proofs.Growing.{extends_self}
use Rattle.pulse_nets.specs.declared.forms.Pulse.{Pulse}
use Rattle.pulse_nets.specs.Pulses.{pulse_at, no_pulse, IsDrawn, ArePredecessorsDrawn}
use Rattle.machine_parts.specs.declared.plan.NodePlan.{NodePlan}
use Rattle.machine_parts.specs.Parts.{bit_at, plan_at, form_in, event_told}
use Rattle.machine_parts.specs.Nodes.{AreNodes, TailsDrawn}
use Rattle.turn_nets.specs.Planned.{NodeDrawn, TailDrawn, TailsSoFar}
use Rattle.turn_nets.proofs.OneNode.{EachFrom, each_weaker, each_tail, each_drawn, EarlierTail, node_later, as_pulse, drawn_later}

-- pulses stay when one is pushed, which is the last

pub kept_pushed : (pulses : List Pulse) (drawn : Pulse) (node : ℕ) → node < length pulses → pulse_at pulses node ≡ pulse_at (pulses ++ drawn ∷ []) node
kept_pushed pulses drawn node within = sym (get_or_append_left pulses (drawn ∷ []) no_pulse node within)

pub last_pushed : (pulses : List Pulse) (drawn : Pulse) (node : ℕ) → length pulses ≡ node → pulse_at (pulses ++ drawn ∷ []) node ≡ drawn
last_pushed pulses drawn node count = get_or_at pulses drawn [] no_pulse node count

module _ (nodes : List NodePlan) (are : AreNodes nodes) (states : List Signal) where
  tail_before : (node : ℕ) → node < length nodes → (plan_at nodes node).tail ≡ true → EachFrom (EarlierTail nodes node) (form_in nodes node)
  tail_before node within tail = each_tail nodes node (form_in nodes node) (are.earlier node within) (are.tails node within tail)

  pub tails_from : (old : Module) (tails : List Pulse) → length tails < length nodes → TailsSoFar old nodes states tails → (plan_at nodes (length tails)).tail ≡ true
      → ArePredecessorsDrawn old tails (form_in nodes (length tails))
  tails_from old tails within drawn tail =
      each_drawn old tails (form_in nodes (length tails))
      (each_weaker (EarlierTail nodes (length tails)) (IsDrawn old tails) (form_in nodes (length tails))
      (λ from earlier. (earlier.0, (drawn from earlier.0 (λ now. true) (λ now. true) earlier.1).pulse))
      (tail_before (length tails) within tail))

  pub tails_pushed : (old new : Module) (tails : List Pulse) (drawn : Pulse) → Extends old new → length tails < length nodes → TailsSoFar old nodes states tails
      → TailDrawn new nodes states (length tails) tails drawn → TailsSoFar new nodes states (tails ++ drawn ∷ [])
  tails_pushed old new tails drawn e room before here node within event begin tail = at (cases_lt node (length tails))
    where
      inside : node ≤ length tails
      inside = let long = length-append tails (drawn ∷ []) in omega (arith, long, within)

      same : EachFrom (λ from. pulse_at tails from ≡ pulse_at (tails ++ drawn ∷ []) from) (form_in nodes node)
      same =
          each_weaker (EarlierTail nodes node) (λ from. pulse_at tails from ≡ pulse_at (tails ++ drawn ∷ []) from) (form_in nodes node)
          (λ from earlier. let less = earlier.0 in kept_pushed tails drawn from (omega (arith, less, inside)))
          (tail_before node (omega (arith, inside, room)) tail)

      at : (node < length tails) ⊎ (length tails ≤ node) → NodeDrawn new (plan_at nodes node) (bit_at states node) event begin (tails ++ drawn ∷ []) (pulse_at (tails ++ drawn ∷ []) node)
      at (inl less) =
          subst (λ pulse. NodeDrawn new (plan_at nodes node) (bit_at states node) event begin (tails ++ drawn ∷ []) pulse) (kept_pushed tails drawn node less)
          (node_later (plan_at nodes node) (bit_at states node) event begin (pulse_at tails node) old new tails (tails ++ drawn ∷ []) e same (before node less event begin tail))
      at (inr past) =
          let is : length tails ≡ node = omega (arith, past, inside) in
          let mine : NodeDrawn new (plan_at nodes node) (bit_at states node) event begin tails drawn = subst (λ at. TailDrawn new nodes states at tails drawn) is here event begin tail in
          subst (λ pulse. NodeDrawn new (plan_at nodes node) (bit_at states node) event begin (tails ++ drawn ∷ []) pulse) (sym (last_pushed tails drawn node is))
          (node_later (plan_at nodes node) (bit_at states node) event begin drawn new new tails (tails ++ drawn ∷ []) (extends_self new) same mine)

  pub tails_all : (old : Module) (wires : List Signal) (tails : List Pulse) → length tails ≡ length nodes → TailsSoFar old nodes states tails → TailsDrawn old nodes states wires tails
  tails_all old wires tails count drawn begin decisions node within tail =
      as_pulse old nodes states wires decisions begin tails node
      (drawn node (omega (arith, within, count)) (λ now. event_told now wires decisions (plan_at nodes node).event) begin tail)

pub tails_later : (old new : Module) (nodes : List NodePlan) (states wires : List Signal) (tails : List Pulse) → Extends old new → TailsDrawn old nodes states wires tails → TailsDrawn new nodes states wires tails
tails_later old new nodes states wires tails e drawn begin decisions node within tail =
    drawn_later old new nodes states wires decisions begin tails node e (drawn begin decisions node within tail)

-- so the pulse of a node of the tail is a bit, as the end of a turn has to be
pub tail_is_bit : (old : Module) (nodes : List NodePlan) (states wires : List Signal) (tails : List Pulse) (node : ℕ) → node < length nodes → (plan_at nodes node).tail ≡ true
    → TailsDrawn old nodes states wires tails → IsBit old (pulse_at tails node).pulse
tail_is_bit old nodes states wires tails node within tail drawn = (drawn (λ now. true) [] node within tail).pulse

-- A drawn thread is one that registers and ports can be given from: its pulses, values and bits stand, each value with the width of its
-- register or port.
use Rattle.std.proofs.Common.{◌≡◌, ℕ, zero, suc, ◌<◌, inl, inr, true, List, [], ◌∷◌, length, map, sym, ◌∙◌, ap, subst, arith}
use Rattle.std.specs.Prelude.{slice_get, Some}
use Rattle.std.proofs.lemmas.Bool.{cases_lt}
use Rattle.std.proofs.lemmas.List.{get_or_past}
use Rattle.order_rules.specs.Form.{Form}
use Rattle.core_term.specs.declared.process.CorePort.{CorePort}
use Rattle.core_term.specs.Term.{Expr, Term, One, Then, Both, Act, site, head}
use Rattle.core_term.specs.Numbering.{size, Numbered}
use Rattle.core_term.specs.Stands.{Stands}
use Rattle.core_term.specs.Acts.{HasAct, Sends, Sets, Uses}
use Rattle.core_term.specs.Points.{Spot, End, forms, act_forms}
use Rattle.core_term.specs.Order.{IsFormed}
use Rattle.core_term.specs.Process.{Process, nth_port, nth_register}
use Rattle.core_term.specs.ProcessView.{port_of}
use Rattle.core_term.specs.Sized.{term_fits}
use Rattle.core_term.specs.Widths.{Widths, expr_width}
use Rattle.core_term.proofs.code_tables.Acting.{each_site}
use Rattle.run_laws.proofs.graph_tables.OfText.{act_end, in_left, part}
use Rattle.event_points.proofs.Once.{formed_inside}
use Rattle.sv_tree.specs.Module.{Module}
use Rattle.module_nets.specs.declared.signal.Signal.{Signal}
use Rattle.module_nets.specs.Netlist.{Stands as StandsIn}
use Rattle.module_nets.specs.Bits.{IsBit}
use Rattle.module_nets.specs.Signals.{signal_at, widths_in}
use Rattle.act_deeds.proofs.Deeds.{deed_send, deed_set}
use Rattle.machine_parts.specs.declared.plan.TurnPlan.{TurnPlan}
use Rattle.machine_parts.specs.declared.thread.ThreadDraft.{ThreadDraft}
use Rattle.machine_parts.specs.Parts.{bit_at, zero_bit}
use Rattle.machine_parts.specs.Plans.{IsTurnPlan, node_of}
use Rattle.machine_parts.specs.Nodes.{AreBits, AreStatesDrawn}
use Rattle.machine_parts.specs.Threads.{ThreadDrawn, widths_after}
use Rattle.machine_parts.specs.Drafts.{NewestDrawn}
use Rattle.machine_parts.specs.Modules.{DraftStands}
use Rattle.turn_machine.specs.OneTurn.{IsTurnBody}
use Rattle.drawn_machine.proofs.Named.{fits_at, send_width, set_width}
use Rattle.drawn_machine.proofs.PlannedNodes.{nodes_are}
use Rattle.drawn_machine.proofs.Placed.{zero_is_bit}

end_here : (term : Term) → (form : Form Spot) × IsFormed (forms term) (End (site (head term))) form
end_here (One act) = let known = act_end act in (known.form, inr (inr known.formed))
end_here (Then act rest) = let known = act_end act in (known.form, inr (inr (inr (in_left (act_forms act) (forms rest) _ _ known.formed))))
end_here (Both act rest) = let known = act_end act in (known.form, inr (inr (inr (in_left (act_forms act) (forms rest) _ _ known.formed))))

-- the node of the end of each act is one of the nodes
pub end_inside : (body : Term) → Numbered [] 0 body → (plan : TurnPlan) → IsTurnPlan body plan → (place : ℕ) → place < size body → node_of body (End place) < length plan.nodes.items
end_inside body numbered plan is place inside =
    let act = each_site body numbered place inside in
    let known = end_here act.term in
    let formed = part act.stands _ _ known.1 in
    let below = formed_inside body numbered (End (site (head act.term))) known.0 formed in
    let count = is.count in
    subst (λ place. node_of body (End place) < length plan.nodes.items) act.is_site (omega (arith, below, count))

bits_of : (old : Module) (bits : List Signal) (count : ℕ) → length bits ≡ count → ((place : ℕ) → place < count → IsBit old (bit_at bits place)) → AreBits old bits
bits_of old bits count counted inside place = elim (cases_lt place count) [
  | inl less ↦ inside place less
  | inr past ↦ subst (λ signal. IsBit old signal) (sym (get_or_past bits place zero_bit (omega (arith, counted, past)))) (zero_is_bit old)
]

port_width : (ports : List CorePort) (port : ℕ) (is : CorePort) → slice_get ports port ≡ Some is → (nth_port (map port_of ports) port).width ≡ is.width
port_width [] port is there = absurd cc
port_width (first ∷ ports) zero is there = let same : first ≡ is = cc in ap (λ port. port.width) same
port_width (first ∷ ports) (suc port) is there = port_width ports port is there

module _ (p : Process) (ports : List CorePort) (ports_are : p.ports ≡ map port_of ports) (old : Module) (sources received wires : List Signal)
    (base : Widths) (widths_are : widths_in sources received [] ≡ base) (registers_wide : (register : ℕ) → (nth_register p.registers register).width ≡ (signal_at sources register).width)
    (body : Term) (body_is : IsTurnBody body) (fits : term_fits p base body ≡ true) (draft : ThreadDraft) (plan : IsTurnPlan body draft.plan.now)
    (states : AreStatesDrawn old draft.plan.now.nodes.items draft.states.now.nodes.items)
    (drawn : ThreadDrawn old sources received wires body draft.plan.now draft.states.now draft.nets)
    (newest : NewestDrawn old draft.plan.now draft.states.now.newest.items draft.nets.pulses.items draft.newest.items) where
  acts : length draft.plan.now.deeds.items ≡ size body
  acts = plan.deeds.count

  value_wide : (scope : List Act) (term : Term) (used : Expr) → Stands [] body scope term → Uses (head term) used
      → (signal_at draft.nets.values.items (site (head term))).width ≡ expr_width (widths_after base scope) used
  value_wide scope term used stands uses =
      (drawn.values scope term used stands uses).width ∙ ap (λ widths. expr_width (widths_after widths scope) used) widths_are

  set_stands : (place register : ℕ) → HasAct body place (λ act. Sets act register)
      → StandsIn old (signal_at draft.nets.values.items place) × ((signal_at draft.nets.values.items place).width ≡ (signal_at sources register).width)
  set_stands place register has =
      let uses = set_width p (widths_after base has.0) (head has.1) register has.4 (fits_at p base has.2 fits) in
      subst (λ place. StandsIn old (signal_at draft.nets.values.items place) × ((signal_at draft.nets.values.items place).width ≡ (signal_at sources register).width)) has.3
      ((drawn.values has.0 has.1 uses.0 has.2 uses.1).stands, value_wide has.0 has.1 uses.0 has.2 uses.1 ∙ (uses.2 ∙ registers_wide register))

  send_stands : (place port : ℕ) (is : CorePort) → slice_get ports port ≡ Some is → HasAct body place (λ act. Sends act port)
      → StandsIn old (signal_at draft.nets.values.items place) × ((signal_at draft.nets.values.items place).width ≡ is.width)
  send_stands place port is there has =
      let uses = send_width p (widths_after base has.0) (head has.1) port has.4 (fits_at p base has.2 fits) in
      let wide : (nth_port p.ports port).width ≡ is.width = ap (λ ports. (nth_port ports port).width) ports_are ∙ port_width ports port is there in
      subst (λ place. StandsIn old (signal_at draft.nets.values.items place) × ((signal_at draft.nets.values.items place).width ≡ is.width)) has.3
      ((drawn.values has.0 has.1 uses.0 has.2 uses.1).stands, value_wide has.0 has.1 uses.0 has.2 uses.1 ∙ (uses.2 ∙ wide))

  pub draft_stands : DraftStands old sources ports wires draft
  draft_stands =
      let begin_count = plan.begin_count in
      let end_count = plan.end_count in
      let value_count = drawn.value_count in
      let side_count = drawn.side_count in
      let newest_count = newest.count in
      record {
        pulse_count = drawn.pulse_count;
        pulses = λ node inside. let pulse = drawn.pulses node inside in (pulse.pulse, pulse.known);
        earlier = (nodes_are body body_is draft.plan.now plan).earlier;
        states = states;
        begin_count = omega (arith, begin_count, acts);
        end_count = omega (arith, end_count, acts);
        begins = λ place inside.
            let within : place < size body = omega (arith, inside, acts) in
            subst (λ node. node < length draft.plan.now.nodes.items) (sym (plan.begins place within)) (plan.begins_inside place within);
        ends = λ place inside.
            let within : place < size body = omega (arith, inside, acts) in
            subst (λ node. node < length draft.plan.now.nodes.items) (sym (plan.ends place within)) (end_inside body body_is.numbered draft.plan.now plan place within);
        value_count = omega (arith, value_count, acts);
        sets = λ place register is. set_stands place register (deed_set body draft.plan.now.deeds.items plan.deeds body_is.numbered place register is);
        sends = λ place port is sends there. send_stands place port is there (deed_send body draft.plan.now.deeds.items plan.deeds body_is.numbered place port sends);
        side_count = omega (arith, side_count, acts);
        side_bits = bits_of old draft.nets.sides.items (size body) side_count (λ place inside. (drawn.sides place inside).0);
        newest_count = newest_count;
        newest_bits = bits_of old draft.newest.items (length draft.plan.now.deeds.items) newest_count newest.bits;
        decisions = bits_of old draft.nets.decisions.items (size body) drawn.decision_count drawn.decision_bits;
      }

-- The finished module: what is asked of the threads is what is asked of registers and ports, and what these are given fits them.
use Rattle.std.proofs.Common.{◌≡◌, ℕ, zero, suc, ◌<◌, true, not, List, [], ◌∷◌, length, map, Some, refl, sym, ◌∙◌, ap, subst, arith}
use Rattle.std.specs.Prelude.{slice_get, slice_index_or, ◌==◌, ◌&&◌, nat_le}
use Rattle.std.specs.List.{list_all}
use Rattle.std.proofs.lemmas.Bool.{and_from, and_parts, leb-true}
use Rattle.std.proofs.lemmas.Option.{slice_get_within}
use Rattle.order_rules.specs.Form.{Form, Start, Same, After, Sync, Join, Side, Merge}
use Rattle.core_term.specs.declared.process.CorePort.{CorePort}
use Rattle.sv_tree.specs.declared.tree.SvPort.{SvPort}
use Rattle.sv_tree.specs.declared.tree.SvReg.{SvReg}
use Rattle.sv_tree.specs.declared.tree.SvOperand.{SvOperand}
use Rattle.sv_tree.specs.declared.tree.SvOut.{SvOut}
use Rattle.sv_tree.specs.declared.tree.SvOut.TheVariants.{Received, Sent}
use Rattle.sv_tree.specs.Module.{Module}
use Rattle.sv_tree.specs.WellFormed.{gives, is_width, nexts_fit, operand_stands, operand_width, out_fits, outs_fit}
use Rattle.module_nets.specs.declared.signal.Signal.{Signal}
use Rattle.module_nets.specs.Netlist.{Extends, NextsFit, OutsFit, Stands}
use Rattle.module_nets.specs.Signals.{signal_at}
use Rattle.module_nets.proofs.Growing.{longer, operand_later}
use Rattle.machine_parts.specs.declared.plan.TurnPlan.{TurnPlan}
use Rattle.machine_parts.specs.declared.frame.Keep.{Keep}
use Rattle.machine_parts.specs.declared.frame.Keep.TheVariants as keep
use Rattle.machine_parts.specs.declared.thread.ThreadDraft.{ThreadDraft}
use Rattle.machine_parts.specs.Parts.{bit_at, form_in, node_at}
use Rattle.machine_parts.specs.Frames.{HasWidth, KeepFits, keep_at, keeps_state, port_of, register_at}
use Rattle.machine_parts.specs.Modules.{DraftStands, ModuleDrawn, NextDrawn, next_at, no_operand}
use Rattle.process_nets.specs.Acts.{DataStand, EachDraft, OffersStand, WritesStand}
use Rattle.process_nets.specs.Kept.{IsKept, KeepStands, KeepWidth, KeptDrawn, NextsDrawn, NodesStand}
use Rattle.process_nets.specs.Outs.{OutFits, PortsDrawn, PortStands}
use Rattle.process_nets.proofs.Kept.{kept_later}
use Rattle.process_nets.proofs.Ports.{out_later}

-- what is asked of a thread, part by part
module _ (old : Module) (registers : List Signal) (ports : List CorePort) (wires : List Signal) (draft : ThreadDraft) (stand : DraftStands old registers ports wires draft) where
  writes_of : (register : ℕ) → WritesStand old register (signal_at registers register).width draft
  writes_of register = record {
    begins = λ site within. (stand.pulses (node_at draft.plan.now.begins.items site) (stand.begins site within)).0;
    values = λ site is. stand.sets site register is;
  }

  offers_of : OffersStand old draft
  offers_of site within = (stand.pulses (node_at draft.plan.now.ends.items site) (stand.ends site within)).1

  data_of : (port : ℕ) (is : CorePort) → slice_get ports port ≡ Some is → DataStand old port is.width draft
  data_of port is get = record { newest = stand.newest_bits; values = λ site deed. stand.sends site port is deed get }

  nodes_of : NodesStand old draft
  nodes_of = record {
    pulse_count = stand.pulse_count;
    pulses = stand.pulses;
    earlier = stand.earlier;
    states = stand.states;
    decisions = stand.decisions;
  }

-- the thread of a plan
plan_found : (drafts : List ThreadDraft) (thread : ℕ) (plan : TurnPlan) → slice_get (map (λ draft. draft.plan.now) drafts) thread ≡ Some plan
    → (draft : ThreadDraft) × (slice_get drafts thread ≡ Some draft) × (plan ≡ draft.plan.now)
plan_found [] thread plan is = absurd cc
plan_found (first ∷ rest) zero plan is = (first, refl, cc)
plan_found (first ∷ rest) (suc thread) plan is = plan_found rest thread plan is

same_width : (form : Form ℕ) (one other : ℕ) → HasWidth one form → HasWidth other form → one ≡ other
same_width Start one other first second = first ∙ sym second
same_width (Same from) one other first second = first ∙ sym second
same_width (After delay from) one other first second = first.0 ∙ sym second.0
same_width (Sync from) one other first second = first ∙ sym second
same_width (Join left right) one other first second = first ∙ sym second
same_width (Side from) one other first second = first ∙ sym second
same_width (Merge left right) one other first second = first ∙ sym second

-- registers
module _ (old : Module) (keeps : List Keep) (registers : List Signal) (drafts : List ThreadDraft) (kept : IsKept old keeps registers drafts) where
  module _ (ports : List CorePort) (wires : List Signal) (stand : EachDraft (DraftStands old registers ports wires) drafts) where
    stands_of : (place : ℕ) (one : Keep) → KeepFits old.regs kept.sources (map (λ draft. draft.plan.now) drafts) place one → KeepStands old registers drafts one
    stands_of place (keep.Source register) fits =
        ((kept.stand register fits.0 fits.1).0, λ thread draft get. writes_of old registers ports wires draft (stand thread draft get) register)
    stands_of place (keep.Started thread) fits = tt
    stands_of place (keep.Node thread node) fits =
        let found = plan_found drafts thread fits.0 fits.1 in (
          found.0,
          found.1,
          nodes_of old registers ports wires found.0 (stand thread found.0 found.1),
          subst (λ (plan : TurnPlan). node < length plan.nodes.items) found.2 fits.2,
          subst (λ (plan : TurnPlan). keeps_state (form_in plan.nodes.items node) ≡ true) found.2 fits.3,
        )
    stands_of place (keep.Side thread site) fits =
        let found = plan_found drafts thread fits.0 fits.1 in
        (found.0, found.1, (stand thread found.0 found.1).side_bits)
    stands_of place (keep.Newest thread site) fits =
        let found = plan_found drafts thread fits.0 fits.1 in
        (found.0, found.1, (stand thread found.0 found.1).newest_bits)

    pub keeps_stand : (place : ℕ) → place < length keeps → KeepStands old registers drafts (keep_at keeps place)
    keeps_stand place within = stands_of place (keep_at keeps place) (kept.fits place within)

  width_of : (place width : ℕ) (one : Keep) → KeepFits old.regs kept.sources (map (λ draft. draft.plan.now) drafts) place one
      → KeepWidth registers drafts one width → width ≡ (register_at old.regs place).width
  width_of place width (keep.Source register) fits is =
      is ∙ ((kept.stand register fits.0 fits.1).1 ∙ sym (ap (λ (reg : SvReg). reg.width) fits.2))
  width_of place width (keep.Started thread) fits is = is ∙ sym fits.2
  width_of place width (keep.Node thread node) fits is =
      let found = plan_found drafts thread fits.0 fits.1 in
      let form = form_in found.0.plan.now.nodes.items node in
      let inside = subst (λ (plan : TurnPlan). node < length plan.nodes.items) found.2 fits.2 in
      let keeps_it = subst (λ (plan : TurnPlan). keeps_state (form_in plan.nodes.items node) ≡ true) found.2 fits.3 in
      let wide = subst (λ (plan : TurnPlan). HasWidth (register_at old.regs place).width (form_in plan.nodes.items node)) found.2 fits.4 in
      is found.0 found.1
      ∙ same_width form (bit_at found.0.states.now.nodes.items node).width (register_at old.regs place).width (kept.widths thread node found.0 found.1 inside keeps_it) wide
  width_of place width (keep.Side thread site) fits is = is ∙ sym fits.3
  width_of place width (keep.Newest thread site) fits is = is ∙ sym fits.4

  pub place_width : (place width : ℕ) → place < length keeps → KeepWidth registers drafts (keep_at keeps place) width → width ≡ (register_at old.regs place).width
  place_width place width within is = width_of place width (keep_at keeps place) (kept.fits place within) is

-- an operand that stands is one of its width
gives_of : (old new : Module) (signal : Signal) → Extends old new → Stands old signal → gives new signal.width signal.operand ≡ true
gives_of old new signal e stands =
    let both = and_parts (operand_stands new (length old.nets) signal.operand) (operand_width new signal.operand == signal.width) (stands.stands new e) in
    and_from (operand_stands new (length new.nets) signal.operand) (operand_width new signal.operand == signal.width)
    (operand_later new (length old.nets) (length new.nets) signal.operand (longer old new e) both.0) both.1

nexts_one_by_one : (tree : Module) (regs : List SvReg) (nexts : List SvOperand) → length nexts ≡ length regs
    → ((k : ℕ) → k < length regs → gives tree (register_at regs k).width (slice_index_or nexts k no_operand) ≡ true) → nexts_fit tree regs nexts ≡ true
nexts_one_by_one tree [] [] count each = refl
nexts_one_by_one tree [] (next ∷ nexts) count each = absurd (omega (arith, count))
nexts_one_by_one tree (reg ∷ regs) [] count each = absurd (omega (arith, count))
nexts_one_by_one tree (reg ∷ regs) (next ∷ nexts) count each =
    and_from (gives tree reg.width next) (nexts_fit tree regs nexts) (each 0 (omega arith))
    (nexts_one_by_one tree regs nexts (omega (arith, count)) (λ k within. each (suc k) (omega (arith, within))))

outs_one_by_one : (old new : Module) → Extends old new → (ports : List CorePort) (outs : List SvOut) → length outs ≡ length ports
    → ((port : ℕ) (is : CorePort) → slice_get ports port ≡ Some is → (out : SvOut) × (slice_get outs port ≡ Some out) × OutFits old is out)
    → outs_fit new (map port_of ports) outs ≡ true
outs_one_by_one old new e [] [] count each = refl
outs_one_by_one old new e [] (out ∷ outs) count each = absurd (omega (arith, count))
outs_one_by_one old new e (is ∷ ports) [] count each = absurd (omega (arith, count))
outs_one_by_one old new e (is ∷ ports) (out ∷ outs) count each =
    and_from (out_fits new (port_of is) out) (outs_fit new (map port_of ports) outs) (first out mine)
    (outs_one_by_one old new e ports outs (omega (arith, count)) (λ port other get. each (suc port) other get))
  where
    mine : OutFits old is out
    mine = let here = each 0 is refl in subst (OutFits old is) (same here.0 here.1) here.2
      where
        same : (other : SvOut) → Some out ≡ Some other → other ≡ out
        same other is = cc

    first : (one : SvOut) → OutFits old is one → out_fits new (port_of is) one ≡ true
    first (Received ack) fits = and_from is.received (gives new 1 ack) fits.0 (gives_of old new record { operand = ack; width = 1 } e fits.1.stands)
    first (Sent value valid) fits =
        and_from (not is.received && gives new is.width value) (gives new 1 valid)
        (and_from (not is.received) (gives new is.width value) (ap not fits.0) (gives_of old new record { operand = value; width = is.width } e fits.1))
        (gives_of old new record { operand = valid; width = 1 } e fits.2.stands)

pub outs_all_fit : (old : Module) (sv_ports : List SvPort) (ports : List CorePort) (drafts : List ThreadDraft) (outs : List SvOut) → sv_ports ≡ map port_of ports → length outs ≡ length ports
    → PortsDrawn old drafts ports outs (length ports) → OutsFit old sv_ports outs
outs_all_fit old sv_ports ports drafts outs are count drawn new e =
    subst (λ list. outs_fit new list outs ≡ true) (sym are)
    (outs_one_by_one old new e ports outs count
    (λ port is get.
    let one = drawn port is (inside port is get) get in
    (one.0, one.1, one.2.fits)))
  where
    inside : (port : ℕ) (is : CorePort) → slice_get ports port ≡ Some is → port < length ports
    inside port is get = slice_get_within ports port is get

module _ (start old : Module) (keeps : List Keep) (registers wires : List Signal) (drafts : List ThreadDraft) (kept : IsKept start keeps registers drafts) (regs_are : old.regs ≡ start.regs)
    (nexts : List SvOperand) (drawn : NextsDrawn old registers wires drafts keeps nexts (length keeps)) where
  wide : (place : ℕ) → (within : place < length keeps) → (drawn place within).0 ≡ (register_at old.regs place).width
  wide place within =
      place_width start keeps registers drafts kept place (drawn place within).0 within (drawn place within).1.width
      ∙ sym (ap (λ (regs : List SvReg). (register_at regs place).width) regs_are)

  place_drawn : (place : ℕ) → place < length keeps → KeptDrawn old registers wires drafts (keep_at keeps place) record { operand = slice_index_or nexts place no_operand; width = (register_at old.regs place).width }
  place_drawn place within =
      subst (λ w. KeptDrawn old registers wires drafts (keep_at keeps place) record { operand = slice_index_or nexts place no_operand; width = w }) (wide place within) (drawn place within).1

  pub nexts_all_fit : length nexts ≡ length keeps → NextsFit old old.regs nexts
  nexts_all_fit count new e =
      let all = ap (λ (regs : List SvReg). length regs) regs_are in
      let many = kept.count in
      nexts_one_by_one new old.regs nexts (omega (arith, all, many, count))
      (λ place within.
      gives_of old new record { operand = slice_index_or nexts place no_operand; width = (register_at old.regs place).width } e
      (place_drawn place (omega (arith, within, all, many))).stands)

  pub all_drawn : (tree : Module) (ports : List CorePort) (outs : List SvOut) → Extends old tree → tree.nexts ≡ nexts → tree.outs ≡ outs
      → PortsDrawn old drafts ports outs (length ports) → ModuleDrawn tree keeps ports registers wires drafts
  all_drawn tree ports outs e nexts_are outs_are given = record {
    nexts = λ place within.
        subst (λ signal. NextDrawn tree registers wires drafts (keep_at keeps place) signal) (same place)
        (kept_later old tree e registers wires drafts (keep_at keeps place) _ (place_drawn place within)).drawn;
    outs = λ port is get.
        let one = given port is (slice_get_within ports port is get) get in
        (one.0, ap (λ (list : List SvOut). slice_get list port) outs_are ∙ one.1, out_later old tree e drafts port is one.0 one.2.drawn);
  }
    where
      signal_of : List SvOperand → List SvReg → ℕ → Signal
      signal_of list regs place = record { operand = slice_index_or list place no_operand; width = (register_at regs place).width }

      same : (place : ℕ) → signal_of nexts old.regs place ≡ next_at tree place
      same place = rw (nexts_are, e.regs) refl

-- ports
width_within : (ports : List CorePort) (port : ℕ) (is : CorePort) → slice_get ports port ≡ Some is → list_all (λ (p : SvPort). is_width p.width) (map port_of ports) ≡ true → is_width is.width ≡ true
width_within [] port is get all = absurd cc
width_within (first ∷ rest) zero is get all =
    let same : first ≡ is = cc in
    subst (λ (p : CorePort). is_width p.width ≡ true) same (and_parts (is_width first.width) (list_all (λ (p : SvPort). is_width p.width) (map port_of rest)) all).0
width_within (first ∷ rest) (suc port) is get all =
    width_within rest port is get (and_parts (is_width first.width) (list_all (λ (p : SvPort). is_width p.width) (map port_of rest)) all).1

pub ports_stand : (old : Module) (registers : List Signal) (ports : List CorePort) (wires : List Signal) (drafts : List ThreadDraft)
    → list_all (λ (p : SvPort). is_width p.width) (map port_of ports) ≡ true → EachDraft (DraftStands old registers ports wires) drafts
    → (port : ℕ) (is : CorePort) → slice_get ports port ≡ Some is → PortStands old drafts port is
ports_stand old registers ports wires drafts widths stand port is get =
    let both = and_parts (nat_le 1 is.width) (nat_le is.width 64) (width_within ports port is get widths) in
    record {
      some = leb-true 1 is.width both.0;
      few = leb-true is.width 64 both.1;
      offers = λ thread draft found. offers_of old registers ports wires draft (stand thread draft found);
      sends = λ thread draft found. data_of old registers ports wires draft (stand thread draft found) port is get;
    }

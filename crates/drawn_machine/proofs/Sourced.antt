-- The signals that threads read are those of the registers and ports of the process, and stand in each netlist over the frame.
use Rattle.std.proofs.Common.{◌≡◌, ℕ, zero, suc, ◌<◌, ◌≤◌, inl, inr, Bool, true, false, not, nat_le, nat_lt, IsTrue, List, [], ◌∷◌, get_or, length, map, refl, sym, ◌∙◌, ap, subst, arith}
use Rattle.std.specs.Prelude.{◌==◌, ◌^◌, slice_get, slice_index, Some}
use Rattle.std.proofs.lemmas.Bool.{and_from, cases_lt, eq-eqb, false≢true, le-leb, lt-ltb}
use Rattle.std.proofs.lemmas.Nat.{pow_pos}
use Rattle.std.proofs.lemmas.List.{get_or_past, get_or_append_left, length-append, length-map}
use Rattle.core_term.specs.declared.process.CorePort.{CorePort}
use Rattle.core_term.specs.declared.process.CoreReg.{CoreReg}
use Rattle.core_term.specs.declared.term.CoreTerm.{CoreTerm}
use Rattle.core_term.specs.Process.{Process, is_received, nth_port, nth_register}
use Rattle.core_term.specs.ProcessView.{port_of, process_of, register_of, widths_of}
use Rattle.sv_tree.specs.Module.{Module}
use Rattle.sv_tree.specs.WellFormed as well
use Rattle.sv_tree.specs.WellFormed.{is_width}
use Rattle.module_nets.specs.declared.signal.Signal.{Signal}
use Rattle.module_nets.specs.Netlist.{Extends, Stands}
use Rattle.module_nets.specs.Bits.{IsBit}
use Rattle.module_nets.specs.Signals.{PlacesStand, no_signal, signal_at, widths_in}
use Rattle.source_signals.specs.Sources.{AreWide, numbered, register_signal, wire_signal, word_signal}
use Rattle.source_signals.proofs.Numbered.{numbered_count, numbered_get}
use Rattle.machine_parts.specs.declared.frame.Frame.{Frame}
use Rattle.machine_parts.specs.declared.plan.TurnPlan.{TurnPlan}
use Rattle.machine_parts.specs.Parts.{zero_bit}
use Rattle.machine_parts.specs.Frames as frames
use Rattle.machine_parts.specs.Frames.{IsFrameOf, no_register, register_at, source_of}
use Rattle.machine_parts.specs.Nodes.{AreBits}
use Rattle.drawn_machine.specs.Drawn.{AreSources}
use Rattle.drawn_machine.proofs.Placed.{register_stands, zero_is_bit}

get_at : {A : Type 0} (items : List A) (place : ℕ) → place < length items → (item : A) × (slice_get items place ≡ Some item)
get_at [] place inside = absurd (omega (arith, inside))
get_at (first ∷ items) zero inside = (first, refl)
get_at (first ∷ items) (suc place) inside = get_at items place (omega (arith, inside))

-- a port and a register by their numbers
port_is : (ports : List CorePort) (port : ℕ) (is : CorePort) → slice_get ports port ≡ Some is → nth_port (map port_of ports) port ≡ port_of is
port_is [] port is there = absurd cc
port_is (first ∷ ports) zero is there = let same : first ≡ is = cc in ap port_of same
port_is (first ∷ ports) (suc port) is there = port_is ports port is there

pub register_is : (registers : List CoreReg) (place : ℕ) (is : CoreReg) → slice_get registers place ≡ Some is → nth_register (map register_of registers) place ≡ register_of is
register_is [] place is there = absurd cc
register_is (first ∷ registers) zero is there = let same : first ≡ is = cc in ap register_of same
register_is (first ∷ registers) (suc place) is there = register_is registers place is there

no_port_width : (ports : List CorePort) (port : ℕ) → length ports ≤ port → (nth_port (map port_of ports) port).width ≡ 0
no_port_width [] port past = refl
no_port_width (first ∷ ports) zero past = absurd (omega (arith, past))
no_port_width (first ∷ ports) (suc port) past = no_port_width ports port (omega (arith, past))

no_port_received : (ports : List CorePort) (port : ℕ) → length ports ≤ port → (nth_port (map port_of ports) port).received ≡ false
no_port_received [] port past = refl
no_port_received (first ∷ ports) zero past = absurd (omega (arith, past))
no_port_received (first ∷ ports) (suc port) past = no_port_received ports port (omega (arith, past))

no_register_width : (registers : List CoreReg) (place : ℕ) → length registers ≤ place → (nth_register (map register_of registers) place).width ≡ 0
no_register_width [] place past = refl
no_register_width (first ∷ registers) zero past = absurd (omega (arith, past))
no_register_width (first ∷ registers) (suc place) past = no_register_width registers place (omega (arith, past))

frame_port : (ports : List CorePort) (port : ℕ) (is : CorePort) → slice_get ports port ≡ Some is → slice_get (map frames.port_of ports) port ≡ Some (frames.port_of is)
frame_port [] port is there = absurd cc
frame_port (first ∷ ports) zero is there = let same : first ≡ is = cc in ap (λ port. Some (frames.port_of port)) same
frame_port (first ∷ ports) (suc port) is there = frame_port ports port is there

frame_width : (ports : List CorePort) (port : ℕ) (is : CorePort) → slice_get ports port ≡ Some is → slice_index (map (λ p. p.width) (map frames.port_of ports)) port ≡ is.width
frame_width [] port is there = absurd cc
frame_width (first ∷ ports) zero is there = let same : first ≡ is = cc in ap (λ port. port.width) same
frame_width (first ∷ ports) (suc port) is there = frame_width ports port is there

frame_register : (registers : List CoreReg) (place : ℕ) (is : CoreReg) → slice_get registers place ≡ Some is → register_at (map source_of registers) place ≡ source_of is
frame_register [] place is there = absurd cc
frame_register (first ∷ registers) zero is there = let same : first ≡ is = cc in ap source_of same
frame_register (first ∷ registers) (suc place) is there = frame_register registers place is there

module _ (name : List ℕ) (ports : List CorePort) (registers : List CoreReg) (threads : List CoreTerm) where
  abbrev pub p : Process
  p = process_of name ports registers threads

  abbrev pub sources : List Signal
  sources = numbered register_signal 0 registers

  abbrev pub words : List Signal
  words = numbered word_signal 0 ports

  abbrev pub wires : List Signal
  wires = numbered wire_signal 0 ports

  source_at : (place : ℕ) (register : CoreReg) (none : Signal) → slice_get registers place ≡ Some register → get_or sources place none ≡ register_signal place register
  source_at place register none there = numbered_get register_signal 0 place registers register none there ∙ ap (λ place. register_signal place register) (omega arith)

  word_at : (place : ℕ) (port : CorePort) (none : Signal) → slice_get ports place ≡ Some port → get_or words place none ≡ word_signal place port
  word_at place port none there = numbered_get word_signal 0 place ports port none there ∙ ap (λ place. word_signal place port) (omega arith)

  wire_at : (place : ℕ) (port : CorePort) (none : Signal) → slice_get ports place ≡ Some port → get_or wires place none ≡ wire_signal place port
  wire_at place port none there = numbered_get wire_signal 0 place ports port none there ∙ ap (λ place. wire_signal place port) (omega arith)

  -- the side of a port that is there
  side_of : (port : ℕ) (is : CorePort) → slice_get ports port ≡ Some is → (side : Bool) → is_received p port ≡ side → is.received ≡ side
  side_of port is there side known = sym (ap (λ port. port.received) (port_is ports port is there)) ∙ known

  there_if_received : (port : ℕ) → is_received p port ≡ true → port < length ports
  there_if_received port received = elim (cases_lt port (length ports)) [
    | inl less ↦ less
    | inr past ↦ absurd (false≢true (sym (no_port_received ports port past) ∙ received))
  ]

  pub are_sources : AreSources p sources words wires
  are_sources = record {
    register_count = numbered_count register_signal 0 registers ∙ sym (length-map registers register_of);
    registers_are = λ place inside.
        let count = length-map registers register_of in
        let is = get_at registers place (omega (arith, inside, count)) in
        ap (λ signal. signal.operand) (source_at place is.0 no_signal is.1);
    data_are = λ port received.
        let is = get_at ports port (there_if_received port received) in
        let side = side_of port is.0 is.1 true received in
        ap (λ signal. signal.operand) (word_at port is.0 no_signal is.1) ∙ rw side refl;
    valids = λ port inside received.
        let is = get_at ports port (there_if_received port received) in
        let side = side_of port is.0 is.1 true received in
        ap (λ signal. signal.operand) (wire_at port is.0 zero_bit is.1) ∙ rw side refl;
    acks = λ port inside sent.
        let count = length-map ports port_of in
        let is = get_at ports port (omega (arith, inside, count)) in
        let side = side_of port is.0 is.1 false sent in
        ap (λ signal. signal.operand) (wire_at port is.0 zero_bit is.1) ∙ rw side refl;
  }

  -- the widths that a body sees in its signals are those of the process
  pub register_widths : (place : ℕ) → (signal_at sources place).width ≡ (nth_register p.registers place).width
  register_widths place = elim (cases_lt place (length registers)) [
    | inl less ↦
        let is = get_at registers place less in
        ap (λ signal. signal.width) (source_at place is.0 no_signal is.1) ∙ sym (ap (λ register. register.width) (register_is registers place is.0 is.1))
    | inr past ↦
        let count = numbered_count register_signal 0 registers in
        ap (λ signal. signal.width) (get_or_past sources place no_signal (omega (arith, past, count))) ∙ sym (no_register_width registers place past)
  ]

  pub port_widths : (port : ℕ) → (signal_at words port).width ≡ (nth_port p.ports port).width
  port_widths port = elim (cases_lt port (length ports)) [
    | inl less ↦
        let is = get_at ports port less in
        ap (λ signal. signal.width) (word_at port is.0 no_signal is.1) ∙ sym (ap (λ port. port.width) (port_is ports port is.0 is.1))
    | inr past ↦
        let count = numbered_count word_signal 0 ports in
        ap (λ signal. signal.width) (get_or_past words port no_signal (omega (arith, past, count))) ∙ sym (no_port_width ports port past)
  ]

  pub registers_wide : (register : ℕ) → (nth_register p.registers register).width ≡ (signal_at sources register).width
  registers_wide register = sym (register_widths register)

  pub widths_same : widths_in sources words [] ≡ widths_of p.ports p.registers
  widths_same = λ i. record { registers = λ place. register_widths place i; ports = λ port. port_widths port i; variables = λ y. 0 }

  module _ (plans : List TurnPlan) (frame : Frame) (is_frame : IsFrameOf ports registers plans frame) (wide : AreWide ports)
      (old : Module) (ports_are : old.ports ≡ frame.ports.items) (regs_are : old.regs ≡ frame.regs.items) where
    tree_ports : (new : Module) → Extends old new → new.ports ≡ map frames.port_of ports
    tree_ports new extends = extends.ports ∙ (ports_are ∙ is_frame.ports_are)

    pub source_stands : (place : ℕ) → place < length registers → Stands old (signal_at sources place)
    source_stands place inside =
        let is = get_at registers place inside in
        let mapped = length-map registers source_of in
        let sum = length-append (map source_of registers) is_frame.states in
        let all = ap (λ regs. length regs) is_frame.registers_are in
        let at_place : register_at frame.regs.items place ≡ source_of is.0 =
        ap (λ regs. register_at regs place) is_frame.registers_are
        ∙ (get_or_append_left (map source_of registers) is_frame.states no_register place (omega (arith, inside, mapped)) ∙ frame_register registers place is.0 is.1) in
        subst (λ signal. Stands old signal) (sym (source_at place is.0 no_signal is.1))
        (register_stands old frame.regs.items (register_signal place is.0) place regs_are is_frame.is_frame.register_widths (omega (arith, inside, mapped, sum, all)) refl (ap (λ register. register.width) at_place))

    received_in : (port : ℕ) (is : CorePort) → slice_get ports port ≡ Some is → is.received ≡ true → (new : Module) → Extends old new → well.is_received (slice_get new.ports port) ≡ true
    received_in port is there received new extends =
        ap (λ list. well.is_received (slice_get list port)) (tree_ports new extends) ∙ (ap well.is_received (frame_port ports port is there) ∙ received)

    sent_in : (port : ℕ) (is : CorePort) → slice_get ports port ≡ Some is → is.received ≡ false → (new : Module) → Extends old new → well.is_sent (slice_get new.ports port) ≡ true
    sent_in port is there sent new extends =
        ap (λ list. well.is_sent (slice_get list port)) (tree_ports new extends) ∙ (ap well.is_sent (frame_port ports port is there) ∙ ap (λ side. not side) sent)

    word_stands : (port : ℕ) (is : CorePort) → slice_get ports port ≡ Some is → (side : Bool) → is.received ≡ side → Stands old (word_signal port is)
    word_stands port is there true received =
        let bounds = wide port is there in
        record {
          some = bounds.0;
          few = bounds.1;
          stands = λ new extends.
              let width_there : slice_index (map (λ p. p.width) new.ports) port ≡ is.width =
              ap (λ list. slice_index (map (λ p. p.width) list) port) (tree_ports new extends) ∙ frame_width ports port is there in
              rw received (and_from _ (slice_index (map (λ p. p.width) new.ports) port == is.width) (received_in port is there received new extends) (eq-eqb _ _ width_there));
        }
    word_stands port is there false sent =
        let bounds = wide port is there in
        let pow : IsTrue (nat_lt 0 (2 ^ is.width)) = lt-ltb _ _ (pow_pos is.width) in
        record {
          some = bounds.0;
          few = bounds.1;
          stands = λ new extends.
              rw sent (and_from _ (is.width == is.width) (and_from (is_width is.width) _ (and_from (nat_le 1 is.width) (nat_le is.width 64) (le-leb 1 is.width bounds.0) (le-leb is.width 64 bounds.1)) pow) (eq-eqb _ _ refl));
        }

    pub word_signals_stand : (port : ℕ) → 0 < (signal_at words port).width → Stands old (signal_at words port)
    word_signals_stand port some = elim (cases_lt port (length ports)) [
      | inl less ↦
          let is = get_at ports port less in
          subst (λ signal. Stands old signal) (sym (word_at port is.0 no_signal is.1)) (word_stands port is.0 is.1 is.0.received refl)
      | inr past ↦
          let count = numbered_count word_signal 0 ports in
          let none : (signal_at words port).width ≡ 0 = ap (λ signal. signal.width) (get_or_past words port no_signal (omega (arith, past, count))) in
          absurd (omega (arith, some, none))
    ]

    pub places_stand : PlacesStand old sources words []
    places_stand = record {
      registers_stand = λ place inside. let count = numbered_count register_signal 0 registers in source_stands place (omega (arith, inside, count));
      ports_stand = word_signals_stand;
      sides_stand = λ site inside. absurd (omega (arith, inside));
    }

    wire_stands : (port : ℕ) (is : CorePort) → slice_get ports port ≡ Some is → (side : Bool) → is.received ≡ side → IsBit old (wire_signal port is)
    wire_stands port is there true received = record {
      stands = record { some = omega arith; few = omega arith; stands = λ new extends. rw received (and_from _ (1 == 1) (received_in port is there received new extends) refl) };
      one_bit = refl;
    }
    wire_stands port is there false sent = record {
      stands = record { some = omega arith; few = omega arith; stands = λ new extends. rw sent (and_from _ (1 == 1) (sent_in port is there sent new extends) refl) };
      one_bit = refl;
    }

    pub wires_are_bits : AreBits old wires
    wires_are_bits port = elim (cases_lt port (length ports)) [
      | inl less ↦
          let is = get_at ports port less in
          subst (λ signal. IsBit old signal) (sym (wire_at port is.0 zero_bit is.1)) (wire_stands port is.0 is.1 is.0.received refl)
      | inr past ↦
          let count = numbered_count wire_signal 0 ports in
          subst (λ signal. IsBit old signal) (sym (get_or_past wires port zero_bit (omega (arith, past, count)))) (zero_is_bit old)
    ]

-- A module that is drawn for a process shows a machine of it: its registers are those of the module, its threads those that are drawn, and
-- its wires those of the module.
use Rattle.std.proofs.Common.{◌≡◌, ℕ, zero, suc, ◌<◌, ◌≤◌, ◌^◌, inl, inr, true, false, List, [], ◌∷◌, length, map, refl, sym, ◌∙◌, ap, subst, arith}
use Rattle.std.specs.Prelude.{◌==◌, nat_lt, slice_get, slice_index, slice_index_or, Some, None, option_map}
use Rattle.std.proofs.lemmas.Bool.{cases_lt, false≢true, lt-ltb, le-ltb}
use Rattle.std.proofs.lemmas.List.{get_or_past, get_or_append_left, length-map}
use Rattle.std.proofs.lemmas.Option.{slice_get-map, slice_get_past}
use Rattle.core_term.specs.Inputs.{Inputs}
use Rattle.core_term.specs.Fitting as fitting
use Rattle.core_term.specs.declared.process.CorePort.{CorePort}
use Rattle.core_term.specs.declared.process.CoreReg.{CoreReg}
use Rattle.core_term.specs.declared.term.CoreTerm.{CoreTerm}
use Rattle.core_term.specs.Process.{Process, is_received, nth_port, resets, resets_of}
use Rattle.core_term.specs.ProcessView.{process_of, port_of, register_of}
use Rattle.core_term.specs.Wires.{Wires}
use Rattle.sv_tree.specs.Module.{Module}
use Rattle.sv_tree.specs.Clocked.{output_value, outputs_at, registers_at}
use Rattle.sv_tree.specs.WellFormed as well
use Rattle.sv_tree.specs.Fitting.{InputsFit}
use Rattle.sv_tree.specs.declared.tree.SvOut.{SvOut}
use Rattle.sv_tree.specs.declared.tree.SvOut.TheVariants.{Received, Sent}
use Rattle.sv_tree.proofs.WellFormedPoints.{output_count}
use Rattle.module_nets.specs.declared.signal.Signal.{Signal}
use Rattle.module_nets.specs.Shown.{IsMomentOf, operand_shown, shown}
use Rattle.module_nets.specs.Signals.{no_signal, signal_at}
use Rattle.machine_meaning.specs.ModuleRun.{ack_of, data_of, valid_of, shown_registers, shown_wires}
use Rattle.machine_parts.specs.declared.frame.Frame.{Frame}
use Rattle.machine_parts.specs.declared.thread.ThreadDraft.{ThreadDraft}
use Rattle.machine_parts.specs.Frames as frames
use Rattle.machine_parts.specs.Frames.{source_of, register_at, no_register}
use Rattle.machine_parts.specs.Modules.{OutDrawn}
use Rattle.machine_parts.specs.Drafts.{data_now, port_offered}
use Rattle.drawn_machine.specs.Drawn.{IsDrawn}
use Rattle.drawn_machine.proofs.Moments.{at, is_moment, registers_within, settled_within, word_of}

-- a port by its number
port_at : (ports : List CorePort) (port : ℕ) → (nth_port (map port_of ports) port).received ≡ true → (is : CorePort) × (slice_get ports port ≡ Some is) × (is.received ≡ true)
port_at [] port there = absurd (false≢true there)
port_at (first ∷ ports) zero there = (first, refl, there)
port_at (first ∷ ports) (suc port) there = port_at ports port there

port_is : (ports : List CorePort) (port : ℕ) (is : CorePort) → slice_get ports port ≡ Some is → nth_port (map port_of ports) port ≡ port_of is
port_is [] port is there = absurd cc
port_is (first ∷ ports) zero is there = let same : first ≡ is = cc in ap port_of same
port_is (first ∷ ports) (suc port) is there = port_is ports port is there

received_port : (ports : List CorePort) (port : ℕ) → well.is_received (slice_get (map frames.port_of ports) port) ≡ (nth_port (map port_of ports) port).received
received_port [] port = refl
received_port (first ∷ ports) zero = refl
received_port (first ∷ ports) (suc port) = received_port ports port

width_port : (ports : List CorePort) (port : ℕ) → slice_index (map (λ p. p.width) (map frames.port_of ports)) port ≡ (nth_port (map port_of ports) port).width
width_port [] port = refl
width_port (first ∷ ports) zero = refl
width_port (first ∷ ports) (suc port) = width_port ports port

reset_at : (registers : List CoreReg) (place : ℕ) → place < length registers → (register_at (map source_of registers) place).reset.value ≡ slice_index_or (resets_of (map register_of registers)) place 0
reset_at [] place inside = absurd (omega (arith, inside))
reset_at (register ∷ registers) zero inside = refl
reset_at (register ∷ registers) (suc place) inside = reset_at registers place (omega (arith, inside))

reset_count : (registers : List CoreReg) → length (resets_of (map register_of registers)) ≡ length registers
reset_count [] = refl
reset_count (register ∷ registers) = let rest = reset_count registers in omega (arith, rest)

module _ (name : List ℕ) (ports : List CorePort) (registers : List CoreReg) (threads : List CoreTerm)
    (tree : Module) (frame : Frame) (sources words wires : List Signal) (drafts : List ThreadDraft)
    (is : IsDrawn name ports registers threads tree frame sources words wires drafts)
    (inputs : Inputs) (fit : fitting.InputsFit (process_of name ports registers threads) inputs) where
  abbrev pub p : Process
  p = process_of name ports registers threads

  tree_ports : tree.ports ≡ map frames.port_of ports
  tree_ports = is.ports_are ∙ is.frame_is.ports_are

  module_fit : InputsFit tree inputs
  module_fit port cycle inside there =
      let there_too : well.is_received (slice_get (map frames.port_of ports) port) ≡ true = subst (λ list. well.is_received (slice_get list port) ≡ true) tree_ports there in
      let below = fit port cycle inside (sym (received_port ports port) ∙ there_too) in
      let width : slice_index (map (λ p. p.width) tree.ports) port ≡ (nth_port p.ports port).width = ap (λ list. slice_index (map (λ p. p.width) list) port) tree_ports ∙ width_port ports port in
      subst (λ width. inputs.data_at port cycle < 2 ^ width) (sym width) below

  pub moments : (cycle : ℕ) → IsMomentOf tree (at tree inputs cycle)
  moments cycle = is_moment tree inputs is.well_formed module_fit cycle

  abbrev pub run_registers : (cycle register : ℕ) → ℕ
  run_registers = shown_registers p tree inputs

  abbrev pub run_wires : Wires
  run_wires = shown_wires p tree inputs

  register_count : length p.registers ≡ length registers
  register_count = length-map registers register_of

  pub inside_shown : (cycle register : ℕ) → cycle ≤ inputs.count → register < length registers → run_registers cycle register ≡ shown (at tree inputs cycle) (signal_at sources register)
  inside_shown cycle register within inside =
      let count = register_count in
      let there : register < length p.registers = omega (arith, inside, count) in
      let less : nat_lt register (length p.registers) ≡ true = lt-ltb register (length p.registers) there in
      rw (less, is.sources_are.registers_are register there) (ap (λ values. slice_index values register) (registers_within tree inputs cycle within))

  pub past_shown : (cycle register : ℕ) → length registers ≤ register → run_registers cycle register ≡ 0
  past_shown cycle register past =
      let count = register_count in
      let none : nat_lt register (length p.registers) ≡ false = le-ltb register (length p.registers) (omega (arith, past, count)) in rw none refl

  pub sources_shown : (cycle register : ℕ) → cycle < inputs.count → shown (at tree inputs cycle) (signal_at sources register) ≡ run_registers cycle register
  sources_shown cycle register inside = elim (cases_lt register (length registers)) [
    | inl less ↦ sym (inside_shown cycle register (omega (arith, inside)) less)
    | inr past ↦
        let count = register_count in
        let long = is.sources_are.register_count in
        ap (λ signal. shown (at tree inputs cycle) signal) (get_or_past sources register no_signal (omega (arith, past, count, long))) ∙ sym (past_shown cycle register past)
  ]

  pub words_shown : (cycle port : ℕ) → cycle < inputs.count → is_received p port ≡ true → shown (at tree inputs cycle) (signal_at words port) ≡ inputs.data_at port cycle
  words_shown cycle port inside there = ap (λ operand. operand_shown (at tree inputs cycle) operand) (is.sources_are.data_are port there) ∙ word_of tree inputs port cycle inside

  -- what the module puts out on a port
  pub out_shown : (cycle port : ℕ) (out : SvOut) → slice_get tree.outs port ≡ Some out
      → slice_get (outputs_at tree inputs cycle) port ≡ Some (output_value tree inputs cycle (registers_at tree inputs cycle) out)
  out_shown cycle port out there =
      slice_get-map (output_value tree inputs cycle (registers_at tree inputs cycle)) tree.outs port
      ∙ ap (option_map (output_value tree inputs cycle (registers_at tree inputs cycle))) there

  no_out : (cycle port : ℕ) → length ports ≤ port → slice_get (outputs_at tree inputs cycle) port ≡ None
  no_out cycle port past =
      let long = output_count tree is.well_formed in
      let same : length tree.ports ≡ length ports = ap (λ list. length list) tree_ports ∙ length-map ports frames.port_of in
      slice_get-map (output_value tree inputs cycle (registers_at tree inputs cycle)) tree.outs port
      ∙ ap (option_map (output_value tree inputs cycle (registers_at tree inputs cycle))) (slice_get_past tree.outs port (omega (arith, past, long, same)))

  ack_told : (cycle port : ℕ) (core : CorePort) (out : SvOut) → cycle < inputs.count → core.received ≡ true → OutDrawn tree drafts port core out
      → ack_of (Some (output_value tree inputs cycle (registers_at tree inputs cycle) out)) ≡ port_offered (at tree inputs cycle) drafts port
  ack_told cycle port core (Received ack) inside there drawn =
      ap (λ n. n == 1) (settled_within tree inputs cycle inside ack) ∙ drawn.1 (at tree inputs cycle) (moments cycle)
  ack_told cycle port core (Sent value valid) inside there drawn = absurd (false≢true (sym drawn.0 ∙ there))

  valid_told : (cycle port : ℕ) (core : CorePort) (out : SvOut) → cycle < inputs.count → core.received ≡ false → OutDrawn tree drafts port core out
      → valid_of (Some (output_value tree inputs cycle (registers_at tree inputs cycle) out)) ≡ port_offered (at tree inputs cycle) drafts port
  valid_told cycle port core (Received ack) inside there drawn = absurd (false≢true (sym there ∙ drawn.0))
  valid_told cycle port core (Sent value valid) inside there drawn =
      ap (λ n. n == 1) (settled_within tree inputs cycle inside valid) ∙ drawn.1 (at tree inputs cycle) (moments cycle)

  data_told : (cycle port : ℕ) (core : CorePort) (out : SvOut) → cycle < inputs.count → core.received ≡ false → OutDrawn tree drafts port core out
      → data_of (Some (output_value tree inputs cycle (registers_at tree inputs cycle) out)) ≡ data_now (at tree inputs cycle) drafts port
  data_told cycle port core (Received ack) inside there drawn = absurd (false≢true (sym there ∙ drawn.0))
  data_told cycle port core (Sent value valid) inside there drawn =
      settled_within tree inputs cycle inside value ∙ drawn.2 (at tree inputs cycle) (moments cycle)

  pub ack_shown : (cycle port : ℕ) → cycle < inputs.count → is_received p port ≡ true → run_wires.ack port cycle ≡ port_offered (at tree inputs cycle) drafts port
  ack_shown cycle port inside there =
      let core = port_at ports port there in
      let out = is.gives.outs port core.0 core.1 in
      rw there (ap ack_of (out_shown cycle port out.0 out.1) ∙ ack_told cycle port core.0 out.0 inside core.2 out.2)

  core_at : (port : ℕ) → port < length ports → (core : CorePort) × (slice_get ports port ≡ Some core)
  core_at port inside = at_place ports port inside
    where
      at_place : (ports : List CorePort) (port : ℕ) → port < length ports → (core : CorePort) × (slice_get ports port ≡ Some core)
      at_place [] port inside = absurd (omega (arith, inside))
      at_place (first ∷ ports) zero inside = (first, refl)
      at_place (first ∷ ports) (suc port) inside = at_place ports port (omega (arith, inside))

  pub valid_shown : (cycle port : ℕ) → cycle < inputs.count → is_received p port ≡ false → port < length ports → run_wires.valid port cycle ≡ port_offered (at tree inputs cycle) drafts port
  valid_shown cycle port inside there within =
      let core = core_at port within in
      let out = is.gives.outs port core.0 core.1 in
      let sent_here : core.0.received ≡ false = sym (ap (λ port. port.received) (port_is ports port core.0 core.1)) ∙ there in
      rw there (ap valid_of (out_shown cycle port out.0 out.1) ∙ valid_told cycle port core.0 out.0 inside sent_here out.2)

  pub data_shown : (cycle port : ℕ) → cycle < inputs.count → is_received p port ≡ false → port < length ports → run_wires.data_at port cycle ≡ data_now (at tree inputs cycle) drafts port
  data_shown cycle port inside there within =
      let core = core_at port within in
      let out = is.gives.outs port core.0 core.1 in
      let sent_here : core.0.received ≡ false = sym (ap (λ port. port.received) (port_is ports port core.0 core.1)) ∙ there in
      rw there (ap data_of (out_shown cycle port out.0 out.1) ∙ data_told cycle port core.0 out.0 inside sent_here out.2)

  -- past the ports nothing is shown
  pub no_valid : (cycle port : ℕ) → is_received p port ≡ false → length ports ≤ port → run_wires.valid port cycle ≡ false
  no_valid cycle port there past = rw there (ap valid_of (no_out cycle port past))

  pub no_data : (cycle port : ℕ) → is_received p port ≡ false → length ports ≤ port → run_wires.data_at port cycle ≡ 0
  no_data cycle port there past = rw there (ap data_of (no_out cycle port past))

  pub reset_value : (place : ℕ) → place < length registers → (register_at tree.regs place).reset.value ≡ slice_index_or (resets p) place 0
  reset_value place inside =
      let count = length-map registers source_of in
      let regs : register_at tree.regs place ≡ register_at (map source_of registers) place =
      ap (λ regs. register_at regs place) (is.registers_are ∙ is.frame_is.registers_are)
      ∙ get_or_append_left (map source_of registers) is.frame_is.states no_register place (omega (arith, inside, count)) in
      ap (λ register. register.reset.value) regs ∙ reset_at registers place inside

  pub no_reset : (place : ℕ) → length registers ≤ place → slice_index_or (resets p) place 0 ≡ 0
  no_reset place past = let count = reset_count registers in get_or_past (resets p) place 0 (omega (arith, past, count))

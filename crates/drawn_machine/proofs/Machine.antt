-- The machine of the process that a drawn module shows, and what the module means.
use Rattle.std.proofs.Common.{◌≡◌, ℕ, zero, suc, ◌+◌, ◌<◌, ◌≤◌, inl, inr, Bool, false, List, [], ◌∷◌, length, map, refl, sym, ◌∙◌, ap, subst, arith}
use Rattle.std.specs.Prelude.{◌&&◌, slice_get, slice_index_or, Some}
use Rattle.std.proofs.lemmas.Bool.{cases_lt}
use Rattle.std.proofs.lemmas.List.{length-append, length-map}
use Rattle.core_term.specs.Inputs.{Inputs}
use Rattle.core_term.specs.Fitting as fitting
use Rattle.core_term.specs.declared.process.CorePort.{CorePort}
use Rattle.core_term.specs.declared.process.CoreReg.{CoreReg}
use Rattle.core_term.specs.declared.term.CoreTerm.{CoreTerm}
use Rattle.core_term.specs.Acts.{OnPort, Sets}
use Rattle.core_term.specs.Numbering.{size}
use Rattle.core_term.specs.Process.{Process, Thread, IsProcess, IsThread, resets}
use Rattle.core_term.specs.ProcessView.{process_of, port_of, register_of}
use Rattle.sv_tree.specs.Module.{Module}
use Rattle.module_nets.specs.declared.signal.Signal.{Signal}
use Rattle.module_nets.specs.Shown.{shown}
use Rattle.module_nets.specs.Signals.{signal_at}
use Rattle.turn_pulses.specs.Latest.{IsNewest}
use Rattle.turn_pulses.proofs.Reflects.{off}
use Rattle.process_machine.specs.ActTests.{sets_register, is_on_port}
use Rattle.process_machine.proofs.ActTests.{reflects_at, reflects_sets, reflects_on_port}
use Rattle.turn_pulses.proofs.Reflects.{fact_of}
use Rattle.process_machine.proofs.PortEnds.{on_its_port}
use Rattle.process_machine.specs.ThreadMachine.{IsThreadMachine, ThreadMachine}
use Rattle.process_machine.specs.ProcessMachine.{ProcessMachine, IsProcessMachine, act_offered, send_begins, set_begins, written}
use Rattle.process_machine.specs.TurnMachine.{machine_of}
use Rattle.machine_meaning.specs.Meaning.{IsShown}
use Rattle.machine_meaning.proofs.Meaning.{meaning}
use Rattle.act_deeds.specs.Deeds.{deed_at}
use Rattle.act_deeds.proofs.Deeds.{deed_send}
use Rattle.machine_parts.specs.declared.frame.Frame.{Frame}
use Rattle.machine_parts.specs.declared.frame.Keep.{Keep}
use Rattle.machine_parts.specs.declared.frame.Keep.TheVariants as keep
use Rattle.machine_parts.specs.declared.thread.ThreadDraft.{ThreadDraft}
use Rattle.machine_parts.specs.Frames.{HasRegister, source_of}
use Rattle.machine_parts.specs.Modules.{NextDrawn, next_at}
use Rattle.drawn_machine.specs.Drawn.{DrawnMeansReread, IsDrawn, NamesThere, plan_of}
use Rattle.drawn_machine.proofs.Moments.{at}
use Rattle.drawn_machine.proofs.Registers.{takes_of}
use Rattle.drawn_machine.proofs.Kept.{IsState, Kept, kept_of, source_kept}
use Rattle.drawn_machine.proofs.ThreadMachines.{machine_is}
use Rattle.drawn_machine.proofs.Threads.{does_same, kept_in, machine_same, machines_in, nets_by, newest_are, newest_in, sending}
use Rattle.drawn_machine.proofs.Folding.{DoesSame, InStep, data_same, offered_same, written_same}
use Rattle.drawn_machine.proofs.Quiet.{not_offered, not_sent, not_written}
use Rattle.drawn_machine.proofs.Whole.{ack_shown, data_shown, inside_shown, moments, no_data, no_reset, no_valid, past_shown, reset_value, run_registers, run_wires, sources_shown, valid_shown, words_shown}

-- a thread has a draft of its number
draft_at : (threads : List Thread) (drafts : List ThreadDraft) (number : ℕ) (thread : Thread) → IsThread threads number thread → length drafts ≡ length threads
    → (draft : ThreadDraft) × (slice_get drafts number ≡ Some draft)
draft_at [] drafts number thread is count = elim is [ ]
draft_at (first ∷ threads) [] number thread is count = absurd (omega (arith, count))
draft_at (first ∷ threads) (draft ∷ drafts) zero thread is count = (draft, refl)
draft_at (first ∷ threads) (draft ∷ drafts) (suc number) thread is count = draft_at threads drafts number thread is (omega (arith, count))

both_false : (a b : Bool) → a ≡ false → (a && b) ≡ false
both_false a b none = rw none refl

module _ (name : List ℕ) (ports : List CorePort) (registers : List CoreReg) (threads : List CoreTerm)
    (process : IsProcess (process_of name ports registers threads)) (there : NamesThere (process_of name ports registers threads))
    (tree : Module) (frame : Frame) (sources words wires : List Signal) (drafts : List ThreadDraft)
    (is : IsDrawn name ports registers threads tree frame sources words wires drafts)
    (inputs : Inputs) (fit : fitting.InputsFit (process_of name ports registers threads) inputs) where
  abbrev p : Process
  p = process_of name ports registers threads

  thread_count : length drafts ≡ length p.threads
  thread_count = is.thread_count ∙ sym (length-map threads _)

  abbrev machines : ℕ → ThreadMachine
  machines = machines_in tree inputs wires p.threads drafts

  abbrev newest : (thread port site cycle : ℕ) → Bool
  newest number = newest_in tree inputs (slice_get drafts number)

  abbrev newest_kept : (thread port site cycle : ℕ) → Bool
  newest_kept number = kept_in tree inputs (slice_get drafts number)

  abbrev machine : ProcessMachine
  machine = record {
    registers = run_registers name ports registers threads tree frame sources words wires drafts is inputs fit;
    threads = machines;
    newest = newest;
    newest_kept = newest_kept;
    wires = run_wires name ports registers threads tree frame sources words wires drafts is inputs fit;
  }

  kept : (kept : Keep) → IsState kept → (signal : Signal) → HasRegister frame kept signal → Kept tree inputs sources wires drafts kept signal
  kept = kept_of ports registers (map plan_of drafts) frame is.frame_is tree is.well_formed is.registers_are sources wires drafts is.gives inputs

  thread_is : (number : ℕ) (thread : Thread) (draft : ThreadDraft) → IsThread p.threads number thread → slice_get drafts number ≡ Some draft
      → IsThreadMachine inputs machine.registers thread.body (machine_of thread.body (nets_by tree inputs wires thread.body draft))
  thread_is number thread draft is_thread here =
      machine_is p process there tree inputs (moments name ports registers threads tree frame sources words wires drafts is inputs fit) frame sources words wires is.sources_are number thread is_thread draft
      (is.drawn number thread draft is_thread here) drafts here kept machine.registers
      (words_shown name ports registers threads tree frame sources words wires drafts is inputs fit)
      (sources_shown name ports registers threads tree frame sources words wires drafts is inputs fit)

  in_step : (cycle : ℕ) → InStep (at tree inputs cycle) machines newest 0 p.threads drafts
  in_step cycle = (
    thread_count,
    λ number thread draft is_thread here.
        let does = does_same tree inputs (moments name ports registers threads tree frame sources words wires drafts is inputs fit) frame sources words wires number thread draft
        (is.drawn number thread draft is_thread here) drafts here kept (process.numbered number thread is_thread) machine.registers (thread_is number thread draft is_thread here) cycle in
        let counted : 0 + number ≡ number = omega arith in
        subst (λ number. DoesSame (at tree inputs cycle) (machines number) (newest number) thread draft) (sym counted)
        (subst (λ other. DoesSame (at tree inputs cycle) (machines number) (newest_in tree inputs other) thread draft) (sym here)
        (subst (λ machine. DoesSame (at tree inputs cycle) machine (newest_in tree inputs (Some draft)) thread draft) (sym (machine_same tree inputs wires p.threads drafts number thread draft is_thread here)) does)),
  )

  -- no act sets a register that is not there, and none is on a port that is not there
  no_set : (register cycle : ℕ) → length p.registers ≤ register → (number : ℕ) (thread : Thread) → IsThread p.threads number thread
      → (place : ℕ) → set_begins (machines (0 + number)) thread.body register place cycle ≡ false
  no_set register cycle past number thread is_thread place =
      both_false _ _ (off (λ passes.
      let act = fact_of (reflects_at (sets_register register) (λ act. Sets act register) (reflects_sets register) [] thread.body place) passes in
      let inside = there.sets number thread place register is_thread act in
      absurd (omega (arith, inside, past))))

  no_act : (port cycle : ℕ) → length p.ports ≤ port → (number : ℕ) (thread : Thread) → IsThread p.threads number thread
      → (place : ℕ) → act_offered (machines (0 + number)) thread.body port place cycle ≡ false
  no_act port cycle past number thread is_thread place =
      both_false _ _ (off (λ passes.
      let act = fact_of (reflects_at (is_on_port port) (λ act. OnPort act port) (reflects_on_port port) [] thread.body place) passes in
      let inside = there.acts number thread place port is_thread act in
      absurd (omega (arith, inside, past))))

  next_of : (cycle register : ℕ) → cycle < inputs.count → machine.registers (cycle + 1) register ≡ written machines 0 p.threads register cycle (machine.registers cycle register)
  next_of cycle register inside = elim (cases_lt register (length registers)) [
    | inl less ↦
        let count = is.frame_is.keep_count in
        let regs : length tree.regs ≡ length frame.regs.items = ap (λ regs. length regs) is.registers_are in
        let more = ap (λ regs. length regs) is.frame_is.registers_are in
        let sum = length-append (map source_of registers) is.frame_is.states in
        let mapped = length-map registers source_of in
        let core = length-map registers register_of in
        let in_tree : register < length tree.regs = omega (arith, less, regs, more, sum, mapped) in
        let in_keeps : register < length frame.keeps.items = omega (arith, count, less, more, sum, mapped) in
        let takes = takes_of tree inputs register (signal_at sources register) is.well_formed in_tree (is.sources_are.registers_are register (omega (arith, less, core))) in
        let gives : NextDrawn tree sources wires drafts (keep.Source register) (next_at tree register) =
        subst (λ kept. NextDrawn tree sources wires drafts kept (next_at tree register)) (source_kept ports registers (map plan_of drafts) frame is.frame_is tree is.well_formed is.registers_are sources wires drafts is.gives register less)
        (is.gives.nexts register in_keeps) in
        inside_shown name ports registers threads tree frame sources words wires drafts is inputs fit (cycle + 1) register (omega (arith, inside)) less
        ∙ (takes.takes cycle
        ∙ (gives (at tree inputs cycle) (moments name ports registers threads tree frame sources words wires drafts is inputs fit cycle)
        ∙ sym (written_same (at tree inputs cycle) machines newest 0 p.threads drafts (in_step cycle) register (machine.registers cycle register) (shown (at tree inputs cycle) (signal_at sources register))
        (sym (sources_shown name ports registers threads tree frame sources words wires drafts is inputs fit cycle register inside)))))
    | inr past ↦
        let core = length-map registers register_of in
        past_shown name ports registers threads tree frame sources words wires drafts is inputs fit (cycle + 1) register past
        ∙ sym (not_written machines 0 p.threads register cycle (machine.registers cycle register) (no_set register cycle (omega (arith, past, core)))
        ∙ past_shown name ports registers threads tree frame sources words wires drafts is inputs fit cycle register past)
  ]

  reset_of : (register : ℕ) → machine.registers 0 register ≡ slice_index_or (resets p) register 0
  reset_of register = elim (cases_lt register (length registers)) [
    | inl less ↦
        let regs : length tree.regs ≡ length frame.regs.items = ap (λ regs. length regs) is.registers_are in
        let more = ap (λ regs. length regs) is.frame_is.registers_are in
        let sum = length-append (map source_of registers) is.frame_is.states in
        let mapped = length-map registers source_of in
        let core = length-map registers register_of in
        let in_tree : register < length tree.regs = omega (arith, less, regs, more, sum, mapped) in
        let takes = takes_of tree inputs register (signal_at sources register) is.well_formed in_tree (is.sources_are.registers_are register (omega (arith, less, core))) in
        inside_shown name ports registers threads tree frame sources words wires drafts is inputs fit 0 register (omega arith) less
        ∙ (takes.reset ∙ reset_value name ports registers threads tree frame sources words wires drafts is inputs fit register less)
    | inr past ↦
        past_shown name ports registers threads tree frame sources words wires drafts is inputs fit 0 register past
        ∙ sym (no_reset name ports registers threads tree frame sources words wires drafts is inputs fit register past)
  ]

  -- no `send` on a port that is not there began last of it
  no_newest : (port cycle : ℕ) → length p.ports ≤ port → (number : ℕ) (thread : Thread) → IsThread p.threads number thread
      → (place : ℕ) → newest (0 + number) port place cycle ≡ false
  no_newest port cycle past number thread is_thread place =
      let draft = draft_at p.threads drafts number thread is_thread thread_count in
      let counted : 0 + number ≡ number = omega arith in
      subst (λ number. newest number port place cycle ≡ false) (sym counted)
      (subst (λ other. newest_in tree inputs other port place cycle ≡ false) (sym draft.1)
      (both_false _ _ (off (λ sends.
      let act = deed_send thread.body draft.0.plan.now.deeds.items (is.drawn number thread draft.0 is_thread draft.1).plan.deeds (process.numbered number thread is_thread) place port
      (sending port (deed_at draft.0.plan.now.deeds.items place) sends) in
      let inside = there.acts number thread place port is_thread (act.0, act.1, act.2, act.3, on_its_port _ port act.4) in
      absurd (omega (arith, inside, past))))))

  pub machine_of_process : IsProcessMachine p inputs machine
  machine_of_process = record {
    threads_are = λ number thread is_thread.
        let draft = draft_at p.threads drafts number thread is_thread thread_count in
        subst (λ other. IsThreadMachine inputs machine.registers thread.body other) (sym (machine_same tree inputs wires p.threads drafts number thread draft.0 is_thread draft.1)) (thread_is number thread draft.0 is_thread draft.1);
    reset = reset_of;
    next = next_of;
    long = refl;
    valid_in = λ port cycle received. rw received refl;
    data_in = λ port cycle received. rw received refl;
    ack_in = λ port cycle sent. rw sent refl;
    ack_out = λ port cycle inside received.
        ack_shown name ports registers threads tree frame sources words wires drafts is inputs fit cycle port inside received
        ∙ sym (offered_same (at tree inputs cycle) machines newest 0 p.threads drafts (in_step cycle) port);
    valid_out = λ port cycle inside sent. elim (cases_lt port (length ports)) [
      | inl less ↦
          valid_shown name ports registers threads tree frame sources words wires drafts is inputs fit cycle port inside sent less
          ∙ sym (offered_same (at tree inputs cycle) machines newest 0 p.threads drafts (in_step cycle) port)
      | inr past ↦
          let core = length-map ports port_of in
          no_valid name ports registers threads tree frame sources words wires drafts is inputs fit cycle port sent past
          ∙ sym (not_offered machines 0 p.threads port cycle (no_act port cycle (omega (arith, past, core))))
    ];
    data_out = λ port cycle inside sent. elim (cases_lt port (length ports)) [
      | inl less ↦
          data_shown name ports registers threads tree frame sources words wires drafts is inputs fit cycle port inside sent less
          ∙ sym (data_same (at tree inputs cycle) machines newest 0 p.threads drafts (in_step cycle) port)
      | inr past ↦
          let core = length-map ports port_of in
          no_data name ports registers threads tree frame sources words wires drafts is inputs fit cycle port sent past
          ∙ sym (not_sent machines newest 0 p.threads port cycle (no_newest port cycle (omega (arith, past, core))))
    ];
    newest_is = λ number thread port is_thread sent.
        let draft = draft_at p.threads drafts number thread is_thread thread_count in
        let are = newest_are tree inputs (moments name ports registers threads tree frame sources words wires drafts is inputs fit) frame sources words wires number thread draft.0
        (is.drawn number thread draft.0 is_thread draft.1) drafts draft.1 kept (process.numbered number thread is_thread) machine.registers (thread_is number thread draft.0 is_thread draft.1) port in
        subst (λ other. IsNewest (size thread.body) (send_begins (machines number) thread.body port) (newest_in tree inputs other port) (kept_in tree inputs other port)) (sym draft.1)
        (subst (λ machine. IsNewest (size thread.body) (send_begins machine thread.body port) (newest_in tree inputs (Some draft.0) port) (kept_in tree inputs (Some draft.0) port))
        (sym (machine_same tree inputs wires p.threads drafts number thread draft.0 is_thread draft.1)) are);
  }

  pub shown_machine : IsShown p tree inputs machine
  shown_machine = record { registers = refl; wires = refl }

pub means_reread : DrawnMeansReread
means_reread name ports registers threads process there tree frame sources words wires drafts is inputs fit =
    meaning (process_of name ports registers threads) process tree inputs _
    (shown_machine name ports registers threads process there tree frame sources words wires drafts is inputs fit)
    (machine_of_process name ports registers threads process there tree frame sources words wires drafts is inputs fit)

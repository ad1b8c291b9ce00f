-- A frame with the registers of the source and the states of all threads is the frame of the process.
use Rattle.std.proofs.Common.{◌≡◌, ℕ, ◌+◌, ◌*◌, ◌<◌, ◌≤◌, arith, refl, sym, ◌∙◌, subst, ap, true, IsTrue, List, [], ◌∷◌, ◌++◌, length, map, nat_le, slice_get, Some, zero, suc}
use Rattle.std.specs.List.{list_all}
use Rattle.std.proofs.lemmas.Bool.Decides.{nat_tests}
use Rattle.core_term.specs.declared.term.CoreTerm.{CoreTerm}
use Rattle.core_term.specs.declared.process.CorePort.{CorePort}
use Rattle.core_term.specs.declared.process.CoreReg.{CoreReg}
use Rattle.core_term.specs.Limits.{most_ports, most_threads, most_registers}
use Rattle.core_term.specs.Names.{has_no_twice, is_good_name}
use Rattle.core_term.specs.ProcessView as view
use Rattle.core_term.specs.Process.{Process}
use Rattle.core_term.specs.Sized as sized
use Rattle.core_term.specs.Sized.{is_sized, process_fits, port_fits, register_fits, lives_fit, term_fits, words_fit}
use Rattle.sv_tree.specs.declared.tree.SvRegName.TheVariants.{State}
use Rattle.sv_tree.specs.Limits.{too_many}
use Rattle.sv_tree.specs.WellFormed.{is_width}
use Rattle.module_nets.specs.Netlist.{IsFrame}
use Rattle.machine_parts.specs.declared.plan.TurnPlan.{TurnPlan}
use Rattle.machine_parts.specs.declared.frame.Frame.{Frame}
use Rattle.machine_parts.specs.declared.frame.ThreadStates.{ThreadStates}
use Rattle.machine_parts.specs.Frames.{AreStates, IsFrameOf, port_of, source_of, source_keeps, register_at}
use Rattle.module_frame.specs.Slots.{Slot, threads_slots, states_from}
use Rattle.module_frame.specs.declared.draft.FrameDraft.{FrameDraft}
use Rattle.module_frame.specs.Drafts.{HasRoom, Grown, is_kept_port, is_kept_register}
use Rattle.module_frame.proofs.FrameNames.{both, ports_named, port_widths, ports_differ, registers_named, register_widths, resets_fit, registers_differ, sources_first}
use Rattle.module_frame.proofs.SlotsFit.{kept_by, threads_kept, all_kept, source_keeps_length}

-- what is told of a sized process, as far as its frame needs it
pub record SizedParts (ports : List CorePort) (registers : List CoreReg) (threads : List CoreTerm) : Type 0 where
  pub few_ports : length ports ≤ 64
  pub ports_fit : list_all port_fits (map view.port_of ports) ≡ true
  pub ports_differ : has_no_twice sized.is_same_port (map view.port_of ports) ≡ true
  pub few_threads : length threads ≤ 16
  pub few_registers : length registers ≤ 64
  pub registers_fit : list_all register_fits registers ≡ true
  pub registers_differ : has_no_twice sized.is_same_register registers ≡ true

mapped_length : {X Y : Type 0} (of : X → Y) (items : List X) → length (map of items) ≡ length items
mapped_length of [] = refl
mapped_length of (item ∷ rest) = let known = mapped_length of rest in omega (arith, known)

within : (count most : ℕ) → nat_le count most ≡ true → count ≤ most
within count most test = grind (arith, nat_tests)

pub sized_parts : (name : List ℕ) (ports : List CorePort) (registers : List CoreReg) (threads : List CoreTerm) → IsTrue (is_sized name ports registers threads) → SizedParts ports registers threads
sized_parts name ports registers threads is =
    let p : Process = view.process_of name ports registers threads in
    let whole = both (process_fits p) _ is in
    let named = both (is_good_name name) _ whole.0 in
    let ports_few = both (nat_le (length p.ports) most_ports) _ named.1 in
    let ports_fit = both (list_all port_fits p.ports) _ ports_few.1 in
    let ports_apart = both (has_no_twice sized.is_same_port p.ports) _ ports_fit.1 in
    let lives = both (lives_fit p 0 p.ports) _ ports_apart.1 in
    let threads_few = both (nat_le (length p.threads) most_threads) _ lives.1 in
    let registers_few = both (nat_le (length registers) most_registers) _ whole.1 in
    let registers_fit = both (list_all register_fits registers) _ registers_few.1 in
    let registers_apart = both (has_no_twice sized.is_same_register registers) _ registers_fit.1 in
    let port_count = mapped_length view.port_of ports in
    let thread_count = mapped_length (view.thread_of (view.widths_of p.ports p.registers)) threads in
    let few_of_ports = within (length p.ports) most_ports ports_few.0 in
    let few_of_threads = within (length p.threads) most_threads threads_few.0 in
    record {
      few_ports = omega (arith, port_count, few_of_ports);
      ports_fit = ports_fit.0;
      ports_differ = ports_apart.0;
      few_threads = omega (arith, thread_count, few_of_threads);
      few_registers = within (length registers) most_registers registers_few.0;
      registers_fit = registers_fit.0;
      registers_differ = registers_apart.0;
    }

names_of_states : (number : ℕ) (slots : List Slot) (place : ℕ) → place < length (states_from number slots)
    → (found : ℕ) × ((register_at (states_from number slots) place).name ≡ State found)
names_of_states number [] place inside = absurd (omega (arith, inside))
names_of_states number (slot ∷ rest) zero inside = (number, refl)
names_of_states number (slot ∷ rest) (suc place) inside = names_of_states (number + 1) rest place (omega (arith, inside))

reset_to_none : (number : ℕ) (slots : List Slot) (place : ℕ) → place < length (states_from number slots) → (register_at (states_from number slots) place).reset.value ≡ 0
reset_to_none number [] place inside = absurd (omega (arith, inside))
reset_to_none number (slot ∷ rest) zero inside = refl
reset_to_none number (slot ∷ rest) (suc place) inside = reset_to_none (number + 1) rest place (omega (arith, inside))

is_frame_of : (frame : Frame) (ports : List CorePort) (registers : List CoreReg) (threads : List CoreTerm) (slots : List Slot) → SizedParts ports registers threads
    → list_all is_kept_port ports ≡ true → list_all is_kept_register registers ≡ true
    → frame.ports.items ≡ map port_of ports → frame.regs.items ≡ map source_of registers ++ states_from 0 slots
    → list_all (λ slot. is_width slot.width) slots ≡ true → length frame.regs.items < too_many
    → IsFrame frame.ports.items frame.regs.items
is_frame_of frame ports registers threads slots parts kept_ports kept_registers ports_are regs_are wide few =
    let port_count = ap length ports_are ∙ mapped_length port_of ports in
    let few_ports = parts.few_ports in
    let few_of_ports : length frame.ports.items < too_many = omega (arith, port_count, few_ports) in
    subst (λ z. IsFrame z frame.regs.items) (sym ports_are)
    (subst (λ z. IsFrame (map port_of ports) z) (sym regs_are)
    record {
      port_names = ports_named ports parts.ports_fit kept_ports;
      register_names_good = registers_named registers slots 0 parts.registers_fit kept_registers;
      ports_differ = ports_differ ports parts.ports_differ;
      registers_differ = registers_differ registers slots 0 parts.registers_differ;
      order = sources_first registers slots;
      port_widths = port_widths ports parts.ports_fit;
      register_widths = register_widths registers slots 0 parts.registers_fit wide;
      resets = resets_fit registers slots 0 parts.registers_fit kept_registers wide;
      few_ports = subst (λ z. length z < too_many) ports_are few_of_ports;
      few_registers = subst (λ z. length z < too_many) regs_are few;
    })

pub assembled : (frame : Frame) (ports : List CorePort) (registers : List CoreReg) (threads : List CoreTerm) (plans : List TurnPlan) → SizedParts ports registers threads
    → list_all is_kept_port ports ≡ true → list_all is_kept_register registers ≡ true
    → frame.ports.items ≡ map port_of ports
    → frame.regs.items ≡ map source_of registers ++ states_from 0 (threads_slots 0 plans)
    → frame.keeps.items ≡ source_keeps 0 registers ++ kept_by (threads_slots 0 plans)
    → list_all (λ slot. is_width slot.width) (threads_slots 0 plans) ≡ true
    → length frame.regs.items < too_many → length frame.keeps.items ≡ length frame.regs.items
    → length frame.states.items ≡ length plans
    → ((thread : ℕ) (plan : TurnPlan) (states : ThreadStates) → slice_get plans thread ≡ Some plan → slice_get frame.states.items thread ≡ Some states → AreStates frame thread plan states)
    → IsFrameOf ports registers plans frame
assembled frame ports registers threads plans parts kept_ports kept_registers ports_are regs_are keeps_are wide few same thread_count held = record {
  ports_are = ports_are;
  is_frame = is_frame_of frame ports registers threads (threads_slots 0 plans) parts kept_ports kept_registers ports_are regs_are wide few;
  keeps_are = keeps_are ∙ ap (λ z. source_keeps 0 registers ++ z) (threads_kept 0 plans);
  keep_count = same;
  states = states_from 0 (threads_slots 0 plans);
  registers_are = regs_are;
  state_names = names_of_states 0 (threads_slots 0 plans);
  resets = reset_to_none 0 (threads_slots 0 plans);
  kept = all_kept frame registers plans regs_are keeps_are;
  thread_count = thread_count;
  threads = held;
}

-- room for all states
pub room_for_all : (ports : List CorePort) (registers : List CoreReg) (threads : List CoreTerm) (plans : List TurnPlan) → SizedParts ports registers threads → length plans ≡ length threads
    → length registers + 8704 * length plans < too_many
room_for_all ports registers threads plans parts count =
    let few_threads = parts.few_threads in let few_registers = parts.few_registers in omega (arith, few_threads, few_registers, count)

pub few_sources : (ports : List CorePort) (registers : List CoreReg) (threads : List CoreTerm) → SizedParts ports registers threads → length registers < too_many
few_sources ports registers threads parts = let few_registers = parts.few_registers in omega (arith, few_registers)

-- room for all states over the registers of the source
pub start_room : (draft : FrameDraft) (registers these those : List CoreReg) (more : ℕ) → these ≡ registers → those ≡ registers
    → draft.frame.regs.items ≡ map source_of these → draft.frame.keeps.items ≡ source_keeps 0 those → draft.state_count ≡ 0
    → length registers + more < too_many → HasRoom draft more
start_room draft registers these those more same also regs_are keeps_are none room =
    let regs = ap length regs_are ∙ mapped_length source_of these ∙ ap length same in
    let keeps = ap length keeps_are ∙ source_keeps_length 0 those ∙ ap length also in
    record { same = omega (arith, regs, keeps); counted = omega (arith, none); room = omega (arith, regs, room) }

-- the registers of the source, and the states that were added
pub regs_whole : (old new : FrameDraft) (registers these : List CoreReg) (plans : List TurnPlan) → these ≡ registers → old.frame.regs.items ≡ map source_of these → old.state_count ≡ 0
    → Grown old new (threads_slots 0 plans) → new.frame.regs.items ≡ map source_of registers ++ states_from 0 (threads_slots 0 plans)
regs_whole old new registers these plans same regs_are none grown =
    grown.regs ∙ ap (λ n. old.frame.regs.items ++ states_from n (threads_slots 0 plans)) none
    ∙ ap (λ z. z ++ states_from 0 (threads_slots 0 plans)) (regs_are ∙ ap (map source_of) same)

pub keeps_whole : (old new : FrameDraft) (registers those : List CoreReg) (plans : List TurnPlan) → those ≡ registers → old.frame.keeps.items ≡ source_keeps 0 those
    → Grown old new (threads_slots 0 plans) → new.frame.keeps.items ≡ source_keeps 0 registers ++ kept_by (threads_slots 0 plans)
keeps_whole old new registers those plans same keeps_are grown =
    grown.keeps ∙ ap (λ z. z ++ kept_by (threads_slots 0 plans)) (keeps_are ∙ ap (source_keeps 0) same)

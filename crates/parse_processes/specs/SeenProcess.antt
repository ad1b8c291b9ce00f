-- How the types for processes are seen as states.
use Rattle.std.specs.Prelude.{map}
use Rattle.anvil_tree.specs.View.{term_of}
use Rattle.parse_processes.specs.declared.process.ProcessDraft.{ProcessDraft}
use Rattle.parse_processes.specs.declared.process.ProcessWanted.{ProcessWanted}
use Rattle.parse_processes.specs.declared.process.ProcessWanted.TheVariants as wanted
use Rattle.parse_processes.specs.declared.process.ProcessState.{ProcessState}
use Rattle.parse_processes.specs.declared.process.ProcessState.TheVariants as process_state
use Rattle.anvil_grammar.specs.State as states
use Rattle.parse_steps.specs.Seen.{label_of}
use Rattle.parse_threads.specs.SeenThread.{thread_of}
use Rattle.parse_processes.specs.SeenParts.{endpoint_state_of, register_state_of}

abbrev pub process_parts_of : ProcessDraft → states.ProcessDraft
process_parts_of draft =
    record {
      label = label_of draft.label;
      endpoints = draft.endpoints.items;
      registers = draft.registers.items;
      threads = map term_of draft.threads.items;
    }

abbrev pub process_at : states.ProcessDraft → ProcessWanted → states.ProcessState
process_at draft wanted.FirstEndpoint = states.first_endpoint draft
process_at draft wanted.NextEndpoint = states.next_endpoint draft
process_at draft (wanted.InEndpoint endpoint) = states.in_endpoint draft (endpoint_state_of endpoint)
process_at draft wanted.AfterEndpoint = states.after_endpoint draft
process_at draft wanted.BodyOpening = states.body_opening draft
process_at draft wanted.Registers = states.registers_wanted draft
process_at draft (wanted.InRegister state) = states.in_register draft (register_state_of state)
process_at draft wanted.Threads = states.threads_wanted draft
process_at draft wanted.ThreadOpening = states.thread_opening draft
process_at draft (wanted.InThread thread) = states.in_thread draft (thread_of thread)

abbrev pub process_inside_of : ProcessDraft → states.ProcessState
process_inside_of draft = process_at (process_parts_of draft) draft.wanted

abbrev pub process_state_of : ProcessState → states.ProcessState
process_state_of process_state.Name = states.process_name
process_state_of (process_state.Opening label) = states.process_opening (label_of label)
process_state_of (process_state.Inside draft) = process_inside_of draft

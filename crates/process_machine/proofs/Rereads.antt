-- What the machine of a process shows is a re-reading run of the process: decisions and sides thread by thread, registers, and wires.
use Rattle.std.proofs.Common.{sym, ◌∙◌}
use Rattle.core_term.specs.Inputs.{Inputs}
use Rattle.core_term.specs.Process.{Process, IsProcess}
use Rattle.core_term.specs.Reread.{IsReread}
use Rattle.process_machine.specs.ProcessMachine.{ProcessMachine, IsProcessMachine}
use Rattle.process_machine.specs.Rereads.{run_of_machine}
use Rattle.process_machine.proofs.Threads.{decides_again}
use Rattle.process_machine.proofs.Registers.{written_is, unwritten_is}
use Rattle.process_machine.proofs.Offers.{offered_is}
use Rattle.process_machine.proofs.Data.{data_is, no_data}

pub is_reread : (p : Process) → IsProcess p → (inputs : Inputs) (machine : ProcessMachine) → IsProcessMachine p inputs machine → IsReread p inputs (run_of_machine machine)
is_reread p process inputs machine machine_is = record {
  decides = λ number thread is_thread. decides_again inputs machine.registers thread.body (process.numbered number thread is_thread) (process.takes_time number thread is_thread) (machine.threads number) (machine_is.threads_are number thread is_thread);
  reset = machine_is.reset;
  written = written_is p process inputs machine machine_is;
  unwritten = unwritten_is p process inputs machine machine_is;
  long = machine_is.long;
  valid_in = machine_is.valid_in;
  data_in = machine_is.data_in;
  ack_in = machine_is.ack_in;
  ack_out = λ port cycle within received.
      let offered = offered_is p process inputs machine machine_is port cycle within in
      let shows = machine_is.ack_out port cycle within received in
      ((λ bit. offered.0 (sym shows ∙ bit)), (λ offers. shows ∙ offered.1 offers));
  valid_out = λ port cycle within sent.
      let offered = offered_is p process inputs machine machine_is port cycle within in
      let shows = machine_is.valid_out port cycle within sent in
      ((λ bit. offered.0 (sym shows ∙ bit)), (λ offers. shows ∙ offered.1 offers));
  data_out = data_is p process inputs machine machine_is;
  no_data = no_data p process inputs machine machine_is;
}

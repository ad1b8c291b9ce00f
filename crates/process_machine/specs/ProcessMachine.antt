-- The machine of a process, by what its nets and registers show in each cycle.
--
-- It is the machines of its threads; for each register of the source what it shows, and for each port its wires. A
-- register takes the value of the last `set` that begins. An `ack` or `valid` that goes out is 1 where an act on the
-- port is offered. The data of a sent port are those of the act that began last, which one bit of each `send` tells.
use Rattle.std.specs.Prelude.{
  ℕ,
  ◌≡◌,
  ◌+◌,
  ◌<◌,
  ◌&&◌,
  ◌||◌,
  Bool,
  true,
  false,
  List,
  [],
  ◌∷◌,
  suc,
  slice_index_or,
}
use Rattle.core_term.specs.Inputs.{Inputs}
use Rattle.core_term.specs.Term.{Term}
use Rattle.core_term.specs.Numbering.{size}
use Rattle.core_term.specs.Process.{Process, Thread, IsThread, is_received, resets}
use Rattle.core_term.specs.Wires.{Wires}
use Rattle.turn_pulses.specs.Latest.{some_begin, IsNewest, first_shown, last_write}
use Rattle.process_machine.specs.ActTests.{sets_register, sends_on, is_on_port, passes_at}
use Rattle.process_machine.specs.ThreadMachine.{ThreadMachine, begins_in, offered_in, IsThreadMachine}

-- the registers of the source; the machine of each thread; of each `send` whether it began last of its port, as shown
-- and as kept; and the wires
pub record ProcessMachine : Type 0 where
  pub registers : (cycle register : ℕ) → ℕ
  pub threads : (thread : ℕ) → ThreadMachine
  pub newest : (thread port site cycle : ℕ) → Bool
  pub newest_kept : (thread port site cycle : ℕ) → Bool
  pub wires : Wires

-- a `set` of the register begins, a `send` on the port begins, an act on the port is offered
abbrev pub set_begins : ThreadMachine → Term → (register site cycle : ℕ) → Bool
set_begins machine body register place cycle =
    passes_at (sets_register register) body place && begins_in machine place cycle

abbrev pub send_begins : ThreadMachine → Term → (port site cycle : ℕ) → Bool
send_begins machine body port place cycle = passes_at (sends_on port) body place && begins_in machine place cycle

abbrev pub act_offered : ThreadMachine → Term → (port site cycle : ℕ) → Bool
act_offered machine body port place cycle =
    passes_at (is_on_port port) body place && offered_in machine place cycle

-- what the threads from this number on write to the register, over what it shows
abbrev pub written : (machines : ℕ → ThreadMachine) → (first : ℕ) → List Thread → (register cycle shown : ℕ) → ℕ
written machines first [] register cycle shown = shown
written machines first (thread ∷ rest) register cycle shown =
    written machines (suc first) rest register cycle
    (last_write (λ place. set_begins (machines first) thread.body register place cycle)
    (λ place. (machines first).value place cycle) shown (size thread.body))

-- whether an act of these threads on the port is offered
abbrev pub is_offered : (machines : ℕ → ThreadMachine) → (first : ℕ) → List Thread → (port cycle : ℕ) → Bool
is_offered machines first [] port cycle = false
is_offered machines first (thread ∷ rest) port cycle =
    some_begin (act_offered (machines first) thread.body port) (size thread.body) cycle
    || is_offered machines (suc first) rest port cycle

-- the data that these threads send on the port
abbrev pub data_sent : (machines : ℕ → ThreadMachine) → (newest : (thread port site cycle : ℕ) → Bool)
    → (first : ℕ) → List Thread → (port cycle : ℕ) → ℕ
data_sent machines newest first [] port cycle = 0
data_sent machines newest first (thread ∷ rest) port cycle =
    first_shown (λ place. newest first port place cycle) (λ place. (machines first).value place cycle)
    (data_sent machines newest (suc first) rest port cycle) 0 (size thread.body)

-- The equations of a machine of the process.
pub record IsProcessMachine (p : Process) (inputs : Inputs) (machine : ProcessMachine) : Type 0 where
  pub threads_are : (number : ℕ) (thread : Thread) → IsThread p.threads number thread
      → IsThreadMachine inputs machine.registers thread.body (machine.threads number)
  -- registers
  pub reset : (register : ℕ) → machine.registers 0 register ≡ slice_index_or (resets p) register 0
  pub next : (cycle register : ℕ) → cycle < inputs.count
      → machine.registers (cycle + 1) register
      ≡ written machine.threads 0 p.threads register cycle (machine.registers cycle register)
  -- wires that come in
  pub long : machine.wires.count ≡ inputs.count
  pub valid_in : (port cycle : ℕ) → is_received p port ≡ true
      → machine.wires.valid port cycle ≡ inputs.valid port cycle
  pub data_in : (port cycle : ℕ) → is_received p port ≡ true
      → machine.wires.data_at port cycle ≡ inputs.data_at port cycle
  pub ack_in : (port cycle : ℕ) → is_received p port ≡ false
      → machine.wires.ack port cycle ≡ inputs.ack port cycle
  -- wires that go out
  pub ack_out : (port cycle : ℕ) → cycle < inputs.count → is_received p port ≡ true
      → machine.wires.ack port cycle ≡ is_offered machine.threads 0 p.threads port cycle
  pub valid_out : (port cycle : ℕ) → cycle < inputs.count → is_received p port ≡ false
      → machine.wires.valid port cycle ≡ is_offered machine.threads 0 p.threads port cycle
  pub data_out : (port cycle : ℕ) → cycle < inputs.count → is_received p port ≡ false
      → machine.wires.data_at port cycle ≡ data_sent machine.threads machine.newest 0 p.threads port cycle
  pub newest_is : (number : ℕ) (thread : Thread) (port : ℕ) → IsThread p.threads number thread
      → is_received p port ≡ false
      → IsNewest (size thread.body) (send_begins (machine.threads number) thread.body port)
      (machine.newest number port) (machine.newest_kept number port)

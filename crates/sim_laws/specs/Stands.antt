-- Where a simulation stands: after a list of rows that it does not keep.
use Rattle.std.specs.Prelude.{ℕ, ◌≡◌, ◌+◌, ◌<◌, ◌&&◌, if◌then◌else◌, Bool, true, false, List, [], ◌∷◌, length, slice_index_or}
use Rattle.anvil_bits.specs.Number.{Number}
use Rattle.core_term.specs.declared.rows.InCell.{InCell}
use Rattle.core_term.specs.declared.rows.InCell.TheVariants as incoming
use Rattle.core_term.specs.declared.rows.OutCell.{OutCell}
use Rattle.core_term.specs.declared.rows.OutCell.TheVariants as outgoing
use Rattle.core_term.specs.declared.rows.Row.{Row}
use Rattle.core_term.specs.Inputs.{Inputs}
use Rattle.core_term.specs.Numbering.{size}
use Rattle.core_term.specs.Process.{LifeEnd, Port, Thread, Process, life_of}
use Rattle.core_term.specs.History.{history}
use Rattle.core_term.specs.Outputs.{exchange, offered, data_of}
use Rattle.core_term.specs.Rows.{number_of, inputs_of}
use Rattle.run_laws.specs.OneRun.{SameRows}
use Rattle.exchanges.specs.declared.latest.Latest.{Latest}
use Rattle.exchanges.specs.Lives.{lives_of}
use Rattle.exchanges.specs.Next.{next, IsLatest}
use Rattle.sim_laws.specs.declared.act_state.ActState.{ActState}
use Rattle.sim_laws.specs.declared.drive.Drive.{Drive}
use Rattle.sim_laws.specs.Advance.{zero_bit}
use Rattle.sim_laws.specs.Passes.{thread_step, drive_all, write_all}
use Rattle.sim_laws.specs.Present.{Present}

-- what is kept: of each thread its acts, whether a cycle was taken, what the registers show, and of each port its latest exchange
pub record State : Type 0 where
  pub begun : Bool
  pub threads : List (List ActState)
  pub registers : List Number
  pub latests : List Latest

-- each thread has as many states as acts
abbrev pub AreLong : List Thread → List (List ActState) → Type 0
AreLong [] [] = Unit {0}
AreLong [] (acts ∷ states) = ⊥
AreLong (thread ∷ threads) [] = ⊥
AreLong (thread ∷ threads) (acts ∷ states) = (length acts ≡ size thread.body) × AreLong threads states

-- before the cycle n: no turn has begun, or each thread has its present turn
pub data Threads (n : ℕ) (inputs : Inputs) (history : ℕ → ℕ → ℕ) (threads : List Thread) (begun : Bool) (states : List (List ActState)) : Type 0 where
  none_yet : n ≡ 0 → begun ≡ false → AreLong threads states → Threads n inputs history threads begun states
  present : (b : ℕ) → n ≡ b + 1 → begun ≡ true → Present b inputs history threads states → Threads n inputs history threads begun states

abbrev pub no_latest : Latest
no_latest = record { lives = false; age = 0; number = zero_bit }

abbrev pub latest_at : List Latest → ℕ → Latest
latest_at latests m = slice_index_or latests m no_latest

abbrev pub number_at : List Number → ℕ → ℕ
number_at numbers r = (slice_index_or numbers r zero_bit).value

-- the data that a port had in each cycle in which it was offered
abbrev pub offered_data : Process → Inputs → ℕ → ℕ → ℕ
offered_data p inputs m u = data_of (history p inputs) (offered inputs (history p inputs) p.threads m u)

-- before the cycle n of the run of a process on an input list
pub record StandsAt (n : ℕ) (p : Process) (inputs : Inputs) (state : State) : Type 0 where
  pub threads : Threads n inputs (history p inputs) p.threads state.begun state.threads
  pub registers : (r : ℕ) → number_at state.registers r ≡ history p inputs n r
  pub latests : (m : ℕ) → m < length p.ports → IsLatest (exchange p inputs (history p inputs)) (life_of p m) m (offered_data p inputs m) n (latest_at state.latests m)

-- after the rows, whatever comes in later
abbrev pub StandsAfter : Process → List Row → State → Type 0
StandsAfter p rows state = (inputs : Inputs) → SameRows (length rows) inputs (inputs_of rows) → StandsAt (length rows) p inputs state

-- One cycle.

abbrev pub step_threads : List InCell → List Number → List Thread → Bool → List (List ActState) → List (List ActState)
step_threads cells regs [] begun states = []
step_threads cells regs (thread ∷ threads) begun [] = []
step_threads cells regs (thread ∷ threads) begun (acts ∷ states) = thread_step cells regs thread.body begun acts ∷ step_threads cells regs threads begun states

abbrev pub drive_threads : List (List ActState) → List Drive → List Drive
drive_threads [] drives = drives
drive_threads (acts ∷ states) drives = drive_threads states (drive_all acts drives)

abbrev pub write_threads : List (List ActState) → List Number → List Number
write_threads [] nexts = nexts
write_threads (acts ∷ states) nexts = write_threads states (write_all acts nexts)

-- nothing is driven yet
abbrev pub no_drives : List Port → List Drive
no_drives [] = []
no_drives (port ∷ ports) = (record { offered = false; number = number_of port.width 0 }) ∷ no_drives ports

-- whether there is an exchange, by what comes in and what is driven
abbrev pub meets : InCell → Drive → Bool
meets (incoming.Received valid v) drive = valid && drive.offered
meets (incoming.Sent ack) drive = drive.offered && ack

abbrev pub all_meet : List InCell → List Drive → List Bool
all_meet [] drives = []
all_meet (cell ∷ cells) [] = []
all_meet (cell ∷ cells) (drive ∷ drives) = meets cell drive ∷ all_meet cells drives

-- the number that a sent port shows
abbrev pub shown_number : (width : ℕ) → Drive → Latest → Number
shown_number width drive latest = if drive.offered then drive.number else (if latest.lives then latest.number else number_of width 0)

abbrev pub shown_cell : Port → Drive → Latest → OutCell
shown_cell port drive latest = if port.received then outgoing.Received drive.offered else outgoing.Sent drive.offered (shown_number port.width drive latest)

abbrev pub shown_cells : List Port → List Drive → List Latest → List OutCell
shown_cells [] drives latests = []
shown_cells (port ∷ ports) [] latests = []
shown_cells (port ∷ ports) (drive ∷ drives) [] = []
shown_cells (port ∷ ports) (drive ∷ drives) (latest ∷ latests) = shown_cell port drive latest ∷ shown_cells ports drives latests

-- the latest exchanges one cycle on; `exchanged` is of all ports, and `rest` of those that are left
abbrev pub next_latests : (exchanged rest : List Bool) → List (List LifeEnd) → List Drive → List Latest → List Latest
next_latests exchanged [] lives drives latests = []
next_latests exchanged (now ∷ rest) [] drives latests = []
next_latests exchanged (now ∷ rest) (life ∷ lives) [] latests = []
next_latests exchanged (now ∷ rest) (life ∷ lives) (drive ∷ drives) [] = []
next_latests exchanged (now ∷ rest) (life ∷ lives) (drive ∷ drives) (latest ∷ latests) =
    next exchanged life now drive.number latest ∷ next_latests exchanged rest lives drives latests

abbrev pub threads_after : Process → List InCell → State → List (List ActState)
threads_after p cells state = step_threads cells state.registers p.threads state.begun state.threads

abbrev pub drives_in : Process → List InCell → State → List Drive
drives_in p cells state = drive_threads (threads_after p cells state) (no_drives p.ports)

abbrev pub exchanged_in : Process → List InCell → State → List Bool
exchanged_in p cells state = all_meet cells (drives_in p cells state)

abbrev pub state_after : Process → List InCell → State → State
state_after p cells state = record {
  begun = true;
  threads = threads_after p cells state;
  registers = write_threads (threads_after p cells state) state.registers;
  latests = next_latests (exchanged_in p cells state) (exchanged_in p cells state) (lives_of p.ports) (drives_in p cells state) state.latests;
}

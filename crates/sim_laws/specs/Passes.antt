-- What the acts of a turn drive and write in a cycle, by what is kept of them after it.
use Rattle.std.specs.Prelude.{ℕ, ◌&&◌, not, if◌then◌else◌, Bool, true, false, List, [], ◌∷◌, slice_set, slice_index_or, Option, Some, None}
use Rattle.anvil_bits.specs.Number.{Number}
use Rattle.sim_laws.specs.declared.act_state.ActState.{ActState}
use Rattle.sim_laws.specs.declared.act_state.Does.{Does}
use Rattle.sim_laws.specs.declared.act_state.Does.TheVariants.{Nothing, Sends, Receives, Sets}
use Rattle.sim_laws.specs.declared.drive.Drive.{Drive}
use Rattle.sim_laws.specs.Advance.{zero_bit, Advanced, advance}
use Rattle.core_term.specs.declared.rows.InCell.{InCell}
use Rattle.core_term.specs.Term.{Term}

abbrev pub no_drive : Drive
no_drive = record { offered = false; number = zero_bit }

abbrev pub drive_at : List Drive → ℕ → Drive
drive_at drives m = slice_index_or drives m no_drive

-- the first act that is offered on a port tells the number
abbrev pub offer_send : Drive → Number → Drive
offer_send drive v = if drive.offered then drive else record { offered = true; number = v }

abbrev pub offer_receive : Drive → Drive
offer_receive drive = record drive { offered = true }

abbrev pub drive_by : Bool → Does → Number → List Drive → List Drive
drive_by false does v drives = drives
drive_by true Nothing v drives = drives
drive_by true (Sends m) v drives = slice_set drives m (offer_send (drive_at drives m) v)
drive_by true (Receives m) v drives = slice_set drives m (offer_receive (drive_at drives m))
drive_by true (Sets r) v drives = drives

abbrev pub is_offered : ActState → Bool
is_offered act = act.begun && not act.over

abbrev pub drive_all : List ActState → List Drive → List Drive
drive_all [] drives = drives
drive_all (act ∷ acts) drives = drive_all acts (drive_by (is_offered act) act.does act.taken drives)

abbrev pub write_by : Bool → Does → Number → List Number → List Number
write_by false does v nexts = nexts
write_by true Nothing v nexts = nexts
write_by true (Sends m) v nexts = nexts
write_by true (Receives m) v nexts = nexts
write_by true (Sets r) v nexts = slice_set nexts r v

abbrev pub begins_now : ActState → Bool
begins_now act = act.begun && act.fresh

-- the last set of a register counts
abbrev pub write_all : List ActState → List Number → List Number
write_all [] nexts = nexts
write_all (act ∷ acts) nexts = write_all acts (write_by (begins_now act) act.does act.taken nexts)

-- acts that have not begun
abbrev pub cleared : List ActState → List ActState
cleared [] = []
cleared (act ∷ acts) = (record act { begun = false }) ∷ cleared acts

-- one cycle of a thread: its turn goes on, or the next turn begins
abbrev pub turn_on : List InCell → List Number → Term → Advanced → List ActState
turn_on cells regs body r = next r.made
  where
    next : Option Number → List ActState
    next None = r.acts
    next (Some v) = (advance cells regs body (cleared r.acts)).acts

abbrev pub thread_step : List InCell → List Number → Term → Bool → List ActState → List ActState
thread_step cells regs body false acts = (advance cells regs body (cleared acts)).acts
thread_step cells regs body true acts = turn_on cells regs body (advance cells regs body acts)

-- How the reading of a text is seen.
use Rattle.std.specs.Prelude.{◌≡◌, ℕ, ◌==◌, not, Bool, true, false, List, map, bytes_eq, Option, Some, None}
use Rattle.std.specs.List.{list_all, list_any}
use Rattle.sv_tree.specs.Module.{Module}
use Rattle.sv_tree.specs.WellFormed.{IsWellFormed}
use Rattle.sv_reader.specs.declared.error.SvErr.{SvErr}
use Rattle.sv_reader.specs.declared.error.SvErr.TheVariants.{NotEmitted, NoMemory}
use Rattle.sv_draft.specs.declared.fault.Fault.{Fault}
use Rattle.sv_draft.specs.declared.fault.Fault.TheVariants as fault
use Rattle.sv_draft.specs.declared.draft.Draft.{Draft}
use Rattle.sv_reader.specs.declared.reading.Reading.{Reading}
use Rattle.sv_draft.specs.declared.wanted.Wanted.{Wanted}
use Rattle.sv_lines.specs.State as state
use Rattle.sv_draft.specs.SeenDraft.{draft_of}
use Rattle.sv_draft.specs.Reached.{wanted_of}
use Rattle.sv_lines.specs.Refused.{IsNotEmitted}

abbrev pub state_by : List Module → Wanted → Option Draft → state.State
state_by whole wanted None = state.between whole
state_by whole wanted (Some draft) = state.inside whole (draft_of draft) (wanted_of wanted)

abbrev pub state_of : Reading → state.State
state_of reading = state_by reading.whole reading.wanted reading.begun

-- a module that may follow those that are whole
pub record IsNext (whole : List Module) (draft : Draft) : Type 0 where
  pub well_formed : IsWellFormed (draft_of draft)
  pub fresh : list_any (bytes_eq draft.proc) (map (λ (tree : Module). tree.proc) whole) ≡ false

-- with no line feed
abbrev pub is_quiet_byte : ℕ → Bool
is_quiet_byte byte = not (byte == 10)

abbrev pub Quiet : List ℕ → Type 0
Quiet line = list_all is_quiet_byte line ≡ true

-- the answer where a line at the place is not read
abbrev pub fault_at : ℕ → Fault → SvErr
fault_at place fault.CannotStand = NotEmitted place
fault_at place fault.NoMemory = NoMemory

-- the answer says where the text is not emitted
abbrev pub IsRefusedBy : List ℕ → SvErr → Type 0
IsRefusedBy text (NotEmitted place) = IsNotEmitted text place
IsRefusedBy text NoMemory = ⊥

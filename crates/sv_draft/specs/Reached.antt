-- How it is seen what a line comes to in a module.
use Rattle.std.specs.Prelude.{◌≡◌, ◌⊎◌, Bool, true, false, Option, Some, None, Result, MatchResult}
use Rattle.sv_lines.specs.State as state
use Rattle.sv_lines.specs.Step as step
use Rattle.sv_lines.specs.Step.{port_of}
use Rattle.sv_pieces.specs.Seen.{wire_line_of}
use Rattle.sv_draft.specs.declared.draft.Draft.{Draft}
use Rattle.sv_draft.specs.declared.fault.Fault.{Fault}
use Rattle.sv_draft.specs.declared.fault.Fault.TheVariants.{CannotStand, NoMemory}
use Rattle.sv_draft.specs.SeenDraft.{draft_of}
use Rattle.sv_draft.specs.declared.wanted.Wanted.{Wanted}
use Rattle.sv_draft.specs.declared.wanted.Wanted.TheVariants as wanted
use Rattle.sv_draft.specs.declared.wanted.Reached.{Reached}
use Rattle.sv_draft.specs.declared.wanted.Reached.TheVariants as reached

-- the answer is what is wanted, or that it cannot stand; want of memory is free
abbrev pub IsReading : {T V : Type 0} → (T → V) → Option V → Result T Fault → Type 0
IsReading view wanted result =
    MatchResult result (λ found. wanted ≡ Some (view found)) (λ fault. (fault ≡ NoMemory) ⊎ ((wanted ≡ None)
    × (fault ≡ CannotStand)))

abbrev pub wanted_of : Wanted → state.Wanted
wanted_of wanted.Clock = state.clock_wanted
wanted_of wanted.Reset = state.reset_wanted
wanted_of wanted.Port = state.port_wanted
wanted_of wanted.Closing = state.closing_wanted
wanted_of (wanted.Valid line) = state.valid_wanted (port_of (wire_line_of line))
wanted_of (wanted.Ack line) = state.ack_wanted (port_of (wire_line_of line))
wanted_of wanted.Item = state.item_wanted
wanted_of (wanted.Assign width) = state.assign_wanted width
wanted_of (wanted.Second value) = state.second_wanted value
wanted_of wanted.Test = state.test_wanted
wanted_of (wanted.Resets done) = state.resets_wanted done
wanted_of wanted.Nexts = state.nexts_wanted
wanted_of wanted.End = state.end_wanted
wanted_of wanted.Last = state.last_wanted

-- with the module behind the line
abbrev pub reached_of : Draft → Reached → step.Reached
reached_of draft (reached.Onward next) = step.onward (draft_of draft) (wanted_of next)
reached_of draft reached.Finished = step.finished (draft_of draft)

-- the answer to a line that is always the same
abbrev pub IsFixed : {T : Type 0} → (is_same : Bool) → Result T Fault → Type 0
IsFixed is_same result = MatchResult result (λ _. is_same ≡ true) (λ fault. (is_same ≡ false) × (fault ≡ CannotStand))

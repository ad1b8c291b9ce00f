-- All that a call promises of its answer, from the stage on at which it begins.
use Rattle.std.specs.Prelude.{◌≡◌, ◌≢◌, ◌⊎◌, ℕ, ◌<◌, List, Option}
use Rattle.std.specs.Io.KnownBytes.{Appends}
use Rattle.anvil_io.specs.Causes.{AppendsPrefix, Rose}
use Rattle.anvil_io.specs.declared.outside.LoadErr.{LoadErr}
use Rattle.anvil_io.specs.declared.outside.LoadErr.TheVariants as load
use Rattle.tool_answers.specs.declared.refusal.Refusal.{Refusal}
use Rattle.tool_answers.specs.declared.refusal.Refusal.TheVariants as why
use Rattle.tool_answers.specs.declared.refusal.Refusal.TheVariants.{Bare, Placed, Paired, Lined}
use Rattle.tool_answers.specs.declared.status.Status.{Status}
use Rattle.tool_answers.specs.declared.status.Status.TheVariants.{Done, Refused, Usage, ReadFault, TooLong, WriteFault, Breach, NoMemory}
use Rattle.tool_answers.specs.Stages.{Stage}
use Rattle.tool_answers.specs.Lines.{IsLineOf, no_memory_line, read_fault_line, refusal_line, too_long_line}
use Rattle.tool_answers.specs.Answer.{
  Tells,
  IsFirstRefusal,
  Ends,
  Breaks,
  Overflows,
  IsLine,
  IsUntouched,
  HasNoFault,
  IsReadFault,
  IsTooLong,
  IsRefusedBy,
  IsWritten,
  OutFailed,
  IsBreach,
  BreachFailed,
  LineFailed,
}

-- what a contract sees of a shelf over a call: what it tells, its faults and the bytes taken
pub record ShelfSeen : Type 0 where
  pub told : List ℕ → Option (List ℕ)
  pub before : ℕ
  pub now : ℕ
  pub taken_before : ℕ
  pub taken_now : ℕ

abbrev pub shelf_seen : (List ℕ → Option (List ℕ)) → ℕ → ℕ → ℕ → ℕ → ShelfSeen
shelf_seen told before now taken_before taken_now =
    record { told = told; before = before; now = now; taken_before = taken_before; taken_now = taken_now }

-- and of a sink: what it held and holds, where it tells that, and its faults
pub record SinkSeen : Type 0 where
  pub old : Option (List ℕ)
  pub new : Option (List ℕ)
  pub before : ℕ
  pub now : ℕ

abbrev pub sink_seen : Option (List ℕ) → Option (List ℕ) → ℕ → ℕ → SinkSeen
sink_seen old new before now = record { old = old; new = new; before = before; now = now }

-- no load or put failed in the call
pub record IsFine (shelf : ShelfSeen) (out err : SinkSeen) : Type 0 where
  pub loads : HasNoFault shelf.before shelf.now
  pub puts : HasNoFault out.before out.now
  pub lines : HasNoFault err.before err.now

-- why a put failed: that of the text, or that of a line
abbrev pub WriteFailed : Stage → ShelfSeen → (out err : SinkSeen) → Type 0
WriteFailed begin shelf out err =
    (OutFailed shelf.told begin out.old out.new out.before out.now × IsUntouched err.old err.new err.before err.now)
    ⊎ (IsUntouched out.old out.new out.before out.now
    × LineFailed (IsLine shelf.told begin) err.old err.new err.before err.now)
    ⊎ BreachFailed shelf.told begin out.old out.new out.before out.now err.old err.new err.before err.now

pub record Answered (begin : Stage) (status : Status) (shelf : ShelfSeen) (out err : SinkSeen) : Type 0 where
  -- the call has its form
  pub no_usage : status ≢ Usage
  -- a load was a fault
  pub read_fault : status ≡ ReadFault → Rose shelf.before shelf.now
  pub fault_read : shelf.before < shelf.now → (status ≡ ReadFault) ⊎ (status ≡ WriteFault)
  pub read_fault_line : status ≡ ReadFault → IsReadFault shelf.told begin err.old err.new
  -- a file that was asked for has more bytes than its limit
  pub too_long : status ≡ TooLong
      → IsTooLong shelf.told begin shelf.taken_before shelf.taken_now err.old err.new
  pub every_length : (loaded : List (List ℕ)) → Overflows shelf.told begin loaded
      → HasNoFault shelf.before shelf.now → (status ≡ TooLong) ⊎ (status ≡ WriteFault) ⊎ (status ≡ NoMemory)
  -- a stage refuses
  pub refused : status ≡ Refused → IsRefusedBy shelf.told begin err.old err.new
  pub every_refusal : (refusal : Refusal) → IsFirstRefusal (Tells shelf.told) begin refusal
      → HasNoFault shelf.before shelf.now
      → ((status ≡ Refused) × Appends err.old err.new (refusal_line refusal))
      ⊎ (status ≡ NoMemory)
      ⊎ ((status ≡ WriteFault) × IsUntouched out.old out.new out.before out.now
      × LineFailed (IsLineOf refusal) err.old err.new err.before err.now)
  -- no stage refuses: the text was put
  pub done : status ≡ Done → IsWritten shelf.told begin out.old out.new
  pub quiet : status ≡ Done → IsUntouched err.old err.new err.before err.now
  pub complete : (loaded : List (List ℕ)) → Ends (Tells shelf.told) begin loaded → IsFine shelf out err
      → (status ≡ Done) ⊎ (status ≡ NoMemory)
  -- the text stops at a broken promise
  pub breach : status ≡ Breach → IsBreach shelf.told begin out.old out.new err.old err.new
  pub every_breach : (text line : List ℕ) → Breaks (Tells shelf.told) begin text line → IsFine shelf out err
      → ((status ≡ Breach) × Appends out.old out.new text × Appends err.old err.new line) ⊎ (status ≡ NoMemory)
  -- no memory was found
  pub no_memory_line : status ≡ NoMemory → Appends err.old err.new no_memory_line
  pub untouched : status ≢ Done → status ≢ WriteFault → status ≢ Breach
      → IsUntouched out.old out.new out.before out.now
  -- a put failed, and nothing was put after it
  pub write_fault : status ≡ WriteFault → WriteFailed begin shelf out err
  pub out_fault : out.before < out.now → status ≡ WriteFault
  pub err_fault : err.before < err.now → status ≡ WriteFault

-- the status of a refusal: want of memory is none by itself
abbrev pub status_of : Refusal → Status
status_of (Bare code) = Refused
status_of (Placed code at) = Refused
status_of (Paired code at other) = Refused
status_of (Lined code line) = Refused
status_of why.NoMemory = NoMemory

-- A line was put to standard error for a status, or the put failed.
pub record Says (line : List ℕ) (meant status : Status) (err : SinkSeen) : Type 0 where
  pub said : (status ≡ meant) ⊎ (status ≡ WriteFault)
  pub whole : status ≢ WriteFault → Appends err.old err.new line
  pub fine : status ≢ WriteFault → err.now ≡ err.before
  pub part : status ≡ WriteFault → AppendsPrefix err.old err.new line
  pub cause : status ≡ WriteFault → Rose err.before err.now

-- The line of a load that failed.
abbrev pub SaysLoad : LoadErr → List ℕ → Status → SinkSeen → Type 0
SaysLoad load.Fault name status err = Says (read_fault_line name) ReadFault status err
SaysLoad load.TooLong name status err = Says (too_long_line name) TooLong status err
SaysLoad load.NoMemory name status err = Says no_memory_line NoMemory status err

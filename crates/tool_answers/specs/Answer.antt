-- What each answer of a call tells of what was loaded and of the two sinks: for every command alike, from the stage on
-- at which the call begins.
--
-- `told` is what the shelf tells under a name. `loaded` are the bytes of the first loads of a command. A pair of lists
-- is what a sink held before and holds now, where it tells that; a pair of numbers is a count before and now.
use Rattle.std.specs.Prelude.{◌≡◌, ℕ, ◌<◌, ◌≤◌, ◌-◌, ◌^◌, List, [], ◌∷◌, ◌++◌, length, Option, Some, None, IfSome, IfNone}
use Rattle.std.specs.Io.KnownBytes.{Appends}
use Rattle.anvil_io.specs.Causes.{Rose, GrewPast, AppendsPrefix}
use Rattle.command_words.specs.Form.{Load}
use Rattle.tool_answers.specs.declared.refusal.Refusal.{Refusal}
use Rattle.tool_answers.specs.Stages.{Stage}
use Rattle.tool_answers.specs.Lines.{no_memory_line, read_fault_line, refusal_line, too_long_line}

-- What was loaded.

-- bytes that a load can give: those that the shelf tells under the name, within the limit
pub record MayGive (told : List ℕ → Option (List ℕ)) (load : Load) (bytes : List ℕ) : Type 0 where
  pub kept : IfSome (told load.name) (λ under. bytes ≡ under)
  pub within : length bytes ≤ load.limit

-- the shelf tells these bytes under the name, and they are within the limit
pub record Tells (told : List ℕ → Option (List ℕ)) (load : Load) (bytes : List ℕ) : Type 0 where
  pub tells : told load.name ≡ Some bytes
  pub within : length bytes ≤ load.limit

-- the shelf tells more bytes than the limit
abbrev pub Exceeds : Option (List ℕ) → ℕ → Type 0
Exceeds None limit = ⊥
Exceeds (Some bytes) limit = limit < length bytes

-- From a stage that has the bytes `before` and loads to come, the stage is reached that has `loaded`, with `rest` to
-- come: each stage before it goes on, and the next load gives its bytes.
pub data Leads (gives : Load → List ℕ → Type 0) (goes_on : List (List ℕ) → Type 0) (loaded : List (List ℕ))
    (rest : List Load)
    : List (List ℕ) → List Load → Type 0 where
  here : Leads gives goes_on loaded rest loaded rest
  on : (before : List (List ℕ)) (load : Load) (loads : List Load) (bytes : List ℕ) → goes_on before → gives load bytes
      → Leads gives goes_on loaded rest (before ++ bytes ∷ []) loads
      → Leads gives goes_on loaded rest before (load ∷ loads)

-- a stage is reached from the one at which the call begins
abbrev pub Reaches : (Load → List ℕ → Type 0) → Stage → List (List ℕ) → List Load → Type 0
Reaches gives begin loaded rest = Leads gives begin.of.goes_on loaded rest begin.loaded begin.loads

-- a load is asked for: the stage before it is reached, and goes on
pub record Asks (gives : Load → List ℕ → Type 0) (begin : Stage) (loaded : List (List ℕ)) (load : Load) : Type 0 where
  pub later : List Load
  pub reached : Reaches gives begin loaded (load ∷ later)
  pub goes_on : begin.of.goes_on loaded

-- the first refusal: a stage is reached, and refuses what it has
pub record IsFirstRefusal (gives : Load → List ℕ → Type 0) (begin : Stage) (refusal : Refusal) : Type 0 where
  pub loaded : List (List ℕ)
  pub rest : List Load
  pub reached : Reaches gives begin loaded rest
  pub refuses : begin.of.refuses loaded refusal

-- no stage refuses: the last one is reached, and goes on
pub record Passes (gives : Load → List ℕ → Type 0) (begin : Stage) (loaded : List (List ℕ)) : Type 0 where
  pub reached : Reaches gives begin loaded []
  pub goes_on : begin.of.goes_on loaded

-- and what is written does not stop early
pub record Ends (gives : Load → List ℕ → Type 0) (begin : Stage) (loaded : List (List ℕ)) : Type 0 where
  pub passes : Passes gives begin loaded
  pub unbroken : (text line : List ℕ) → begin.of.breaks loaded text line → ⊥

-- or it stops at a broken promise
pub record Breaks (gives : Load → List ℕ → Type 0) (begin : Stage) (text line : List ℕ) : Type 0 where
  pub loaded : List (List ℕ)
  pub passes : Passes gives begin loaded
  pub breaks : begin.of.breaks loaded text line

-- a load that is asked for has more bytes than its limit, where that is told
pub record Overflows (told : List ℕ → Option (List ℕ)) (begin : Stage) (loaded : List (List ℕ)) : Type 0 where
  pub load : Load
  pub asked : Asks (Tells told) begin loaded load
  pub past : Exceeds (told load.name) load.limit

-- A line that some answer has, but that of words without a form.
pub data IsLine (told : List ℕ → Option (List ℕ)) (begin : Stage) : List ℕ → Type 0 where
  of_fault : (loaded : List (List ℕ)) (load : Load) → Asks (MayGive told) begin loaded load
      → IsLine told begin (read_fault_line load.name)
  of_length : (loaded : List (List ℕ)) (load : Load) → Asks (MayGive told) begin loaded load
      → IsLine told begin (too_long_line load.name)
  of_memory : IsLine told begin no_memory_line
  of_refusal : (refusal : Refusal) → IsFirstRefusal (MayGive told) begin refusal
      → IsLine told begin (refusal_line refusal)

-- A sink.

-- nothing was put, and no put failed
pub record IsUntouched (old new : Option (List ℕ)) (before now : ℕ) : Type 0 where
  pub same : new ≡ old
  pub fine : now ≡ before

-- no put or load failed, where each failure is counted
pub record HasNoFault (before now : ℕ) : Type 0 where
  pub same : now ≡ before
  pub counts : before < 2 ^ 64 - 1

-- The load of a file was a fault: the line on standard error names it.
pub record IsReadFault (told : List ℕ → Option (List ℕ)) (begin : Stage) (old new : Option (List ℕ)) : Type 0 where
  pub loaded : List (List ℕ)
  pub load : Load
  pub asked : Asks (MayGive told) begin loaded load
  pub appended : Appends old new (read_fault_line load.name)

-- A file has more bytes than its limit, or, where that is not told, more were taken: the line names it.
pub record IsTooLong (told : List ℕ → Option (List ℕ)) (begin : Stage) (before now : ℕ)
    (old new : Option (List ℕ)) : Type 0 where
  pub loaded : List (List ℕ)
  pub load : Load
  pub asked : Asks (MayGive told) begin loaded load
  pub long : IfSome (told load.name) (λ bytes. load.limit < length bytes)
  pub taken : IfNone (told load.name) (GrewPast load.limit before now)
  pub appended : Appends old new (too_long_line load.name)

-- The line of the first refusal.
pub record IsRefusedBy (told : List ℕ → Option (List ℕ)) (begin : Stage) (old new : Option (List ℕ)) : Type 0 where
  pub refusal : Refusal
  pub first : IsFirstRefusal (MayGive told) begin refusal
  pub appended : Appends old new (refusal_line refusal)

-- The whole text.
pub record IsWritten (told : List ℕ → Option (List ℕ)) (begin : Stage) (old new : Option (List ℕ)) : Type 0 where
  pub loaded : List (List ℕ)
  pub passes : Passes (MayGive told) begin loaded
  pub text : List ℕ
  pub writes : begin.of.writes loaded text
  pub appended : Appends old new text

-- A put to `out` failed: it has a front part of a text with which such a one begins.
pub record OutFailed (told : List ℕ → Option (List ℕ)) (begin : Stage) (old new : Option (List ℕ))
    (before now : ℕ) : Type 0 where
  pub loaded : List (List ℕ)
  pub passes : Passes (MayGive told) begin loaded
  pub text : List ℕ
  pub begins : begin.of.begins loaded text
  pub part : AppendsPrefix old new text
  pub cause : Rose before now

-- The text stopped at a promise that is broken, and the line says where.
pub record IsBreach (told : List ℕ → Option (List ℕ)) (begin : Stage)
    (old new line_old line_new : Option (List ℕ)) : Type 0 where
  pub text : List ℕ
  pub line : List ℕ
  pub breaks : Breaks (MayGive told) begin text line
  pub appended : Appends old new text
  pub said : Appends line_old line_new line

-- The same where the put of that line failed: `err` has a front part of it.
pub record BreachFailed (told : List ℕ → Option (List ℕ)) (begin : Stage) (old new : Option (List ℕ)) (before now : ℕ)
    (line_old line_new : Option (List ℕ)) (line_before line_now : ℕ) : Type 0 where
  pub text : List ℕ
  pub line : List ℕ
  pub breaks : Breaks (MayGive told) begin text line
  pub appended : Appends old new text
  pub fine : now ≡ before
  pub part : AppendsPrefix line_old line_new line
  pub cause : Rose line_before line_now

-- The put of a line to `err` failed: it has a front part of such a line.
pub record LineFailed (stands : List ℕ → Type 0) (old new : Option (List ℕ)) (before now : ℕ) : Type 0 where
  pub line : List ℕ
  pub one : stands line
  pub part : AppendsPrefix old new line
  pub cause : Rose before now

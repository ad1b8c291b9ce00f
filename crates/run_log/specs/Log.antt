-- The log of what is seen of a run, up to the first broken promise of a received port.
use Rattle.std.specs.Prelude.{ℕ, ◌≡◌, ◌<◌, ◌≤◌, List, Option}
use Rattle.std.specs.Io.KnownBytes.{Appends}
use Rattle.anvil_io.specs.Causes.{AppendsPrefix, Rose}
use Rattle.core_term.specs.Breach.{PromisesKept, IsFirstBreach}
use Rattle.core_term.specs.LogText.{log_text}
use Rattle.core_term.specs.Process.{Process}
pub use Rattle.run_log.specs.Shown.{Shown}
use Rattle.run_log.specs.declared.log.Broken.{Broken}
use Rattle.run_log.specs.declared.log.LogErr.{LogErr}
use Rattle.run_log.specs.declared.log.LogErr.TheVariants.{Fault, NoMemory}

-- the lines of the first n cycles
abbrev pub log_to : Process → Shown → ℕ → List ℕ
log_to p shown n = log_text p shown.wires shown.registers 0 n

-- every promise is kept in the first n cycles
abbrev pub IsKeptTo : Process → Shown → ℕ → Type 0
IsKeptTo p shown n = (t : ℕ) → t < n → PromisesKept p shown.wires t

-- What was put to a sink that held `old` and holds `new`, where it tells that, and whose count of faults was `before`
-- and is `now`. `count` is the number of cycles.

-- the whole log: every promise is kept
pub record IsWhole (p : Process) (shown : Shown) (count : ℕ) (old new : Option (List ℕ)) (before now : ℕ) : Type 0 where
  pub kept : IsKeptTo p shown count
  pub appended : Appends old new (log_to p shown count)
  pub fine : now ≡ before

-- the lines before the first broken promise
pub record IsStopped (p : Process) (shown : Shown) (broken : Broken) (old new : Option (List ℕ)) (before now : ℕ)
    : Type 0 where
  pub first : IsFirstBreach p shown.wires broken.cycle broken.port
  pub appended : Appends old new (log_to p shown broken.cycle)
  pub fine : now ≡ before

-- a front part of the lines of some cycles in which every promise is kept, since a put failed
pub record IsCut (p : Process) (shown : Shown) (count : ℕ) (old new : Option (List ℕ)) (before now : ℕ) : Type 0 where
  pub lines : ℕ
  pub within : lines ≤ count
  pub kept : IsKeptTo p shown lines
  pub part : AppendsPrefix old new (log_to p shown lines)
  pub cause : Rose before now
  pub later : before ≤ now

-- nothing
pub record IsNothing (old new : Option (List ℕ)) (before now : ℕ) : Type 0 where
  pub same : new ≡ old
  pub fine : now ≡ before

-- what each error says
abbrev pub IsFailed : Process → Shown → ℕ → LogErr → (old new : Option (List ℕ)) (before now : ℕ) → Type 0
IsFailed p shown count Fault old new before now = IsCut p shown count old new before now
IsFailed p shown count NoMemory old new before now = IsNothing old new before now

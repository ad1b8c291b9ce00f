-- What a refusal says: the rule of the first violation of a file, and the places of its two sites.
use Rattle.std.specs.Prelude.{ℕ, ◌≡◌, List, ◌∷◌, slice_get, Some}
use Rattle.core_term.specs.declared.rules.Rule.{Rule}
use Rattle.core_term.specs.declared.term.CoreTerm.{CoreTerm}
use Rattle.core_term.specs.declared.process.CoreProc.{CoreProc}
use Rattle.core_term.specs.AcceptedFile.{file_of}
use Rattle.core_term.specs.View.{places_of}
use Rattle.core_term.specs.Violations.{Broken, IsViolations}
use Rattle.timing_check.specs.declared.refusal.TimingErr.{TimingErr}
use Rattle.timing_check.specs.declared.refusal.TimingErr.TheVariants.{Rejected, NoMemory}
use Rattle.timing_check.specs.OfFile.{IsFirstBroken}

-- the act of a site of the thread j of the process i has this place in the source
abbrev pub IsPlace : List CoreProc → (i j site at : ℕ) → Type 0
IsPlace procs i j site at =
    (proc : CoreProc) × (slice_get procs i ≡ Some proc)
    × (core : CoreTerm) × (slice_get proc.threads.items j ≡ Some core) × (slice_get (places_of core) site ≡ Some at)

-- it is of the first violation of the file, which is the first of each list of its violations
pub record IsRejection (procs : List CoreProc) (rule : Rule) (first second : ℕ) : Type 0 where
  pub violation : Broken
  pub is_first : IsFirstBroken (file_of procs) violation
  pub heads : (list : List Broken) → IsViolations (file_of procs) list
      → (others : List Broken) × (list ≡ violation ∷ others)
  pub rule_is : rule ≡ violation.rule
  pub first_at : IsPlace procs violation.process violation.thread violation.first first
  pub second_at : IsPlace procs violation.process violation.thread violation.second second

-- the refusal is that of the first violation, unless there is no memory
abbrev pub IsCause : List CoreProc → TimingErr → Type 0
IsCause procs (Rejected rule first second) = IsRejection procs rule first second
IsCause procs NoMemory = Unit {0}

-- What the timing rules refuse, and when they accept a file.
use Rattle.std.specs.Prelude.{◌≡◌, ℕ, List, map, slice_get, Some}
use Rattle.anvil_tree.specs.Tree.{File}
use Rattle.channel_classes.specs.Classes.{classes_of}
use Rattle.core_file.specs.CoreFile.{Placed, core_file, placed_of}
use Rattle.core_term.specs.declared.process.CoreProc.{CoreProc}
use Rattle.core_term.specs.Process.{Process}
use Rattle.core_term.specs.Violations.{Broken, HasNoViolations}
use Rattle.core_term.specs.AcceptedFile.{AllRunSafely}
use Rattle.timing_check.specs.OfFile.{IsFirstBroken}
use Rattle.tool_answers.specs.declared.refusal.Refusal.{Refusal}
use Rattle.tool_answers.specs.declared.refusal.Refusal.TheVariants.{Paired}
use Rattle.checked_files.specs.FileText.{IsCheckedText}
use Rattle.checked_files.specs.Refused.{IsFileRefused, code_of}

-- the core file of a file, and its processes
abbrev pub placed_in : File → List Placed
placed_in file = core_file (classes_of file) file

abbrev pub processes_in : File → List Process
processes_in file = map (λ placed. placed.process) (placed_in file)

-- the act of a site of the thread j of the process i has this place in the source
abbrev pub IsPlaceIn : List Placed → (i j site at : ℕ) → Type 0
IsPlaceIn all i j site at =
    (placed : Placed) × (slice_get all i ≡ Some placed)
    × (places : List ℕ) × (slice_get placed.places j ≡ Some places) × (slice_get places site ≡ Some at)

-- a timing rule is broken: the rule of the first violation of the file, and the places of its two acts
pub record IsRejected (file : File) (refusal : Refusal) : Type 0 where
  pub violation : Broken
  pub is_first : IsFirstBroken (processes_in file) violation
  pub at : ℕ
  pub other : ℕ
  pub first_at : IsPlaceIn (placed_in file) violation.process violation.thread violation.first at
  pub second_at : IsPlaceIn (placed_in file) violation.process violation.thread violation.second other
  pub is : refusal ≡ Paired (code_of violation.rule) at other

-- A file is refused by a check before the rules, or else by the first of its violations.
pub data IsCheckRefused (bytes : List ℕ) : Refusal → Type 0 where
  by_file : (refusal : Refusal) → IsFileRefused bytes refusal → IsCheckRefused bytes refusal
  by_rules : (file : File) (refusal : Refusal) → IsCheckedText bytes file → IsRejected file refusal
      → IsCheckRefused bytes refusal

-- bytes that spell the file, which passes its checks and breaks no timing rule, so that every run of each of its
-- processes is safe, for every input list
pub record IsAcceptedFile (bytes : List ℕ) (file : File) : Type 0 where
  pub spelled : IsCheckedText bytes file
  pub accepted : HasNoViolations (processes_in file)
  pub safe : AllRunSafely (processes_in file)

-- bytes that spell such a file
pub record IsAcceptedText (bytes : List ℕ) : Type 0 where
  pub file : File
  pub is : IsAcceptedFile bytes file

-- bytes that spell an accepted file, whose core file is that of these processes of the code
pub record IsAcceptedCore (bytes : List ℕ) (procs : List CoreProc) : Type 0 where
  pub file : File
  pub accepted : IsAcceptedFile bytes file
  pub core : map placed_of procs ≡ placed_in file

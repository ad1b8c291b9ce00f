-- Files that break a timing rule, and files that keep all.
--
-- The claim: bytes have one refusal of `check` at most, and none where they spell an accepted file. The argument: a file has one
-- first violation, since of two each would come before the other, and each of its acts has one place; and an accepted file has
-- none. What the check of the code refuses is a core file, and that is the core file of the tree.
use Rattle.std.proofs.Common.{◌≡◌, ◌≢◌, ◌∙◌, ◌⊎◌, inl, inr, ℕ, List, [], ◌∷◌, map, slice_get, refl, ap, sym, subst}
use Rattle.std.proofs.lemmas.Option.{slice_get-map, same_Some}
use Rattle.anvil_tree.specs.Tree.{File}
use Rattle.channel_classes.specs.Classes.{classes_of}
use Rattle.core_file.specs.CoreFile.{Placed, placed_of, core_file}
use Rattle.core_term.specs.declared.process.CoreProc.{CoreProc}
use Rattle.core_term.specs.AcceptedFile.{file_of, AllRunSafely}
use Rattle.core_term.specs.Process.{Process}
use Rattle.core_term.specs.View.{places_of}
use Rattle.core_term.specs.Violations.{Broken, ComesBefore, HasNoViolations}
use Rattle.timing_check.specs.OfFile.{IsFirstBroken}
use Rattle.timing_check.specs.Refusal.{IsPlace}
use Rattle.timing_check.proofs.Heads.{never_back}
use Rattle.tool_answers.specs.declared.refusal.Refusal.{Refusal}
use Rattle.tool_answers.specs.declared.refusal.Refusal.TheVariants as variant
use Rattle.tool_answers.specs.declared.refusal.Refusal.TheVariants.{NoMemory, Paired}
use Rattle.checked_files.specs.FileText.{IsCheckedText}
use Rattle.checked_files.specs.Refused.{code_of}
use Rattle.checked_files.specs.Check.{placed_in, processes_in, IsPlaceIn, IsRejected, IsCheckRefused, by_file, by_rules, IsAcceptedFile, IsAcceptedText}
use Rattle.checked_files.specs.Ruled.{IsRejectedCore}
use Rattle.checked_files.proofs.OneRefusal.{one_file, file_refused_once, checked_or_refused}

-- One first violation.

pub first_once : (file : List Process) (one other : Broken) → IsFirstBroken file one → IsFirstBroken file other → one ≡ other
first_once file one other is is_too = elim (is.first other is_too.broken) [
  | inl same ↦ sym same
  | inr before ↦ by_other before (is_too.first one is.broken)
]
  where
    by_other : ComesBefore one other → (one ≡ other) ⊎ ComesBefore other one → one ≡ other
    by_other before (inl same) = same
    by_other before (inr after) = absurd (never_back one other before after)

place_once : (all : List Placed) (process thread site at also : ℕ) → IsPlaceIn all process thread site at → IsPlaceIn all process thread site also → at ≡ also
place_once all process thread site at also (placed, process_at, places, thread_at, is) (other, other_at, others, others_at, is_too) =
    let same : placed ≡ other = same_Some placed other (sym process_at ∙ other_at) in
    let same_places : places ≡ others = same_Some places others (sym thread_at ∙ (ap (λ (one : Placed). slice_get one.places thread) same ∙ others_at)) in
    same_Some at also (sym is ∙ (ap (λ (list : List ℕ). slice_get list site) same_places ∙ is_too))

place_of : (all : List Placed) (one other : Broken) (at : ℕ) (site : Broken → ℕ) → other ≡ one → IsPlaceIn all other.process other.thread (site other) at → IsPlaceIn all one.process one.thread (site one) at
place_of all one other at site same is = subst (λ (v : Broken). IsPlaceIn all v.process v.thread (site v) at) same is

pub rejected_once : (file : File) (one other : Refusal) → IsRejected file one → IsRejected file other → one ≡ other
rejected_once file one other first second =
    let same : second.violation ≡ first.violation = first_once (processes_in file) second.violation first.violation second.is_first first.is_first in
    let at : first.at ≡ second.at = place_once (placed_in file) first.violation.process first.violation.thread first.violation.first first.at second.at first.first_at
    (place_of (placed_in file) first.violation second.violation second.at (λ v. v.first) same second.first_at) in
    let also : first.other ≡ second.other = place_once (placed_in file) first.violation.process first.violation.thread first.violation.second first.other second.other first.second_at
    (place_of (placed_in file) first.violation second.violation second.other (λ v. v.second) same second.second_at) in
    first.is ∙ (rw (at, also, ← same) refl ∙ sym second.is)

-- An accepted file has none.
pub accepted_or_rejected : (file : File) (refusal : Refusal) → HasNoViolations (processes_in file) → IsRejected file refusal → ⊥
accepted_or_rejected file refusal none rejected =
    let v = rejected.violation in
    let broken = rejected.is_first.broken in
    elim (none.whole v.process v.thread broken.process broken.thread broken.is_process broken.is_thread v.rule v.first v.second broken.claim broken.demanded) [
      | inl holds ↦ broken.fails holds
      | inr has ↦ has
    ]

-- Refusals of bytes.

pub check_refused_once : (bytes : List ℕ) (one other : Refusal) → IsCheckRefused bytes one → IsCheckRefused bytes other → one ≡ other
check_refused_once bytes one other (by_file told first) (by_file found second) = file_refused_once bytes one other first second
check_refused_once bytes one other (by_file told first) (by_rules file found text second) = absurd (checked_or_refused bytes file one text first)
check_refused_once bytes one other (by_rules file told text first) (by_file found second) = absurd (checked_or_refused bytes file other text second)
check_refused_once bytes one other (by_rules file told text first) (by_rules file_too found text_too second) =
    rejected_once file one other first (subst (λ f. IsRejected f other) (sym (one_file bytes file file_too text.spelled text_too.spelled)) second)

pub accepted_or_refused : (bytes : List ℕ) (refusal : Refusal) → IsCheckRefused bytes refusal → IsAcceptedText bytes → ⊥
accepted_or_refused bytes refusal (by_file told first) accepted = checked_or_refused bytes accepted.file refusal accepted.is.spelled first
accepted_or_refused bytes refusal (by_rules file told text first) accepted =
    accepted_or_rejected file refusal
    (subst (λ f. HasNoViolations (processes_in f)) (one_file bytes accepted.file file accepted.is.spelled.spelled text.spelled) accepted.is.accepted) first

-- From core files of the code.

processes_same : (procs : List CoreProc) → map (λ (placed : Placed). placed.process) (map placed_of procs) ≡ file_of procs
processes_same [] = refl
processes_same (proc ∷ procs) = ap (λ rest. (placed_of proc).process ∷ rest) (processes_same procs)

place_there : (procs : List CoreProc) (process thread site at : ℕ) → IsPlace procs process thread site at → IsPlaceIn (map placed_of procs) process thread site at
place_there procs process thread site at (proc, proc_at, core, core_at, is) = (
  placed_of proc,
  slice_get-map placed_of procs process ∙ rw proc_at refl,
  places_of core,
  slice_get-map places_of proc.threads.items thread ∙ rw core_at refl,
  is,
)

module _ (file : File) (procs : List CoreProc) (core : map placed_of procs ≡ core_file (classes_of file) file) where
  pub processes_are : file_of procs ≡ processes_in file
  processes_are = sym (processes_same procs) ∙ ap (λ all. map (λ (placed : Placed). placed.process) all) core

  pub rejected_by : (refusal : Refusal) → IsRejectedCore procs refusal → IsRejected file refusal
  rejected_by refusal of_core =
      let rejection = of_core.rejected in
      let v = rejection.violation in
      record {
        violation = v;
        is_first = subst (λ processes. IsFirstBroken processes v) processes_are rejection.is_first;
        at = of_core.at;
        other = of_core.other;
        first_at = subst (λ all. IsPlaceIn all v.process v.thread v.first of_core.at) core (place_there procs v.process v.thread v.first of_core.at rejection.first_at);
        second_at = subst (λ all. IsPlaceIn all v.process v.thread v.second of_core.other) core (place_there procs v.process v.thread v.second of_core.other rejection.second_at);
        is = of_core.is ∙ ap (λ rule. Paired (code_of rule) of_core.at of_core.other) rejection.rule_is;
      }

  pub accepted_by : (bytes : List ℕ) → IsCheckedText bytes file → HasNoViolations (file_of procs) → AllRunSafely (file_of procs) → IsAcceptedFile bytes file
  accepted_by bytes text none safe = record {
    spelled = text;
    accepted = subst HasNoViolations processes_are none;
    safe = subst AllRunSafely processes_are safe;
  }

-- What is told where bytes are refused: by a refusal that holds of them, or for want of memory.

pub memory_or_refusal : (found : Refusal) → (found ≡ NoMemory) ⊎ (found ≢ NoMemory)
memory_or_refusal (variant.Bare code) = inr (λ same. cc)
memory_or_refusal (variant.Placed code at) = inr (λ same. cc)
memory_or_refusal (variant.Paired code at other) = inr (λ same. cc)
memory_or_refusal (variant.Lined code line) = inr (λ same. cc)
memory_or_refusal variant.NoMemory = inl refl

pub each_told : (bytes : List ℕ) (found : Refusal) → (found ≢ NoMemory → IsCheckRefused bytes found)
    → (refusal : Refusal) → IsCheckRefused bytes refusal → (found ≡ refusal) ⊎ (found ≡ NoMemory)
each_told bytes found told refusal refused = elim (memory_or_refusal found) [
  | inl memory ↦ inr memory
  | inr not_memory ↦ inl (check_refused_once bytes found refusal (told not_memory) refused)
]

pub file_told : (bytes : List ℕ) (found : Refusal) → (found ≢ NoMemory → IsCheckRefused bytes found) → IsAcceptedText bytes → found ≡ NoMemory
file_told bytes found told accepted = elim (memory_or_refusal found) [
  | inl memory ↦ memory
  | inr not_memory ↦ absurd (accepted_or_refused bytes found (told not_memory) accepted)
]

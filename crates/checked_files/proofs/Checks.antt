-- Which check refuses a file.
--
-- The claim: the refusal of the calls that make classes and core files is that of the file, or want of memory; a file has one at
-- most, and none where its checks pass. The argument: the first check of a list that fails is one.
use Rattle.std.proofs.Common.{◌≡◌, ◌≢◌, ◌⊎◌, inl, inr, Some, None, ◌∙◌, ap, sym}
use Rattle.anvil_tree.specs.Tree.{File}
use Rattle.first_check.specs.Check.{first_refusal}
use Rattle.channel_classes.specs.declared.error.ClassErr.{ClassErr}
use Rattle.channel_classes.specs.declared.error.ClassErr.TheVariants as class
use Rattle.channel_classes.specs.Classes.{classes_of}
use Rattle.channel_classes.specs.ClassChecks.{checks_of_classes}
use Rattle.core_file.specs.declared.error.NameErr.{NameErr}
use Rattle.core_file.specs.declared.error.NameErr.TheVariants as name
use Rattle.core_file.specs.ProcessChecks.{checks_of_processes}
use Rattle.tool_answers.specs.declared.refusal.Refusal.{Refusal}
use Rattle.tool_answers.specs.declared.refusal.Refusal.TheVariants.{NoMemory}
use Rattle.checked_files.specs.FileText.{IsChecked}
use Rattle.checked_files.specs.Refused.{IsUnchecked, by_classes, by_processes, of_classes, of_processes}

-- what the call says that reads classes
abbrev pub RefusesClasses : File → ClassErr → Type 0
RefusesClasses file fault = (fault ≡ class.NoMemory) ⊎ (first_refusal (checks_of_classes file) ≡ Some fault)

-- and the one that makes the core file
abbrev pub RefusesProcesses : File → NameErr → Type 0
RefusesProcesses file fault = (fault ≡ name.NoMemory) ⊎ (first_refusal (checks_of_processes (classes_of file) file) ≡ Some fault)

-- two refusals are the same
same_class : (file : File) (fault other : ClassErr) → first_refusal (checks_of_classes file) ≡ Some fault → first_refusal (checks_of_classes file) ≡ Some other → fault ≡ other
same_class file fault other first second = let same : Some fault ≡ Some other = sym first ∙ second in cc

same_process : (file : File) (fault other : NameErr) → first_refusal (checks_of_processes (classes_of file) file) ≡ Some fault
    → first_refusal (checks_of_processes (classes_of file) file) ≡ Some other → fault ≡ other
same_process file fault other first second = let same : Some fault ≡ Some other = sym first ∙ second in cc

none_or_class : (file : File) (fault : ClassErr) → first_refusal (checks_of_classes file) ≡ None → first_refusal (checks_of_classes file) ≡ Some fault → ⊥
none_or_class file fault none first = let same : None ≡ Some fault = sym none ∙ first in cc

none_or_process : (file : File) (fault : NameErr) → first_refusal (checks_of_processes (classes_of file) file) ≡ None
    → first_refusal (checks_of_processes (classes_of file) file) ≡ Some fault → ⊥
none_or_process file fault none first = let same : None ≡ Some fault = sym none ∙ first in cc

-- where the classes are refused
pub told_by_classes : (file : File) (fault : ClassErr) → RefusesClasses file fault
    → (refusal : Refusal) → IsUnchecked file refusal → (of_classes fault ≡ refusal) ⊎ (of_classes fault ≡ NoMemory)
told_by_classes file fault (inl memory) refusal fails = inr (ap of_classes memory)
told_by_classes file fault (inr is) refusal (by_classes other first) = inl (ap of_classes (same_class file fault other is first))
told_by_classes file fault (inr is) refusal (by_processes other none first) = absurd (none_or_class file fault none is)

pub unchecked_by_classes : (file : File) (fault : ClassErr) → RefusesClasses file fault → of_classes fault ≢ NoMemory → IsUnchecked file (of_classes fault)
unchecked_by_classes file fault (inl memory) not_memory = absurd (not_memory (ap of_classes memory))
unchecked_by_classes file fault (inr is) not_memory = by_classes fault is

pub memory_by_classes : (file : File) (fault : ClassErr) → RefusesClasses file fault → IsChecked file → of_classes fault ≡ NoMemory
memory_by_classes file fault (inl memory) checked = ap of_classes memory
memory_by_classes file fault (inr is) checked = absurd (none_or_class file fault checked.classes is)

-- where they pass and the processes are refused
pub told_by_processes : (file : File) (fault : NameErr) → first_refusal (checks_of_classes file) ≡ None → RefusesProcesses file fault
    → (refusal : Refusal) → IsUnchecked file refusal → (of_processes fault ≡ refusal) ⊎ (of_processes fault ≡ NoMemory)
told_by_processes file fault pass (inl memory) refusal fails = inr (ap of_processes memory)
told_by_processes file fault pass (inr is) refusal (by_classes other first) = absurd (none_or_class file other pass first)
told_by_processes file fault pass (inr is) refusal (by_processes other none first) = inl (ap of_processes (same_process file fault other is first))

pub unchecked_by_processes : (file : File) (fault : NameErr) → first_refusal (checks_of_classes file) ≡ None → RefusesProcesses file fault
    → of_processes fault ≢ NoMemory → IsUnchecked file (of_processes fault)
unchecked_by_processes file fault pass (inl memory) not_memory = absurd (not_memory (ap of_processes memory))
unchecked_by_processes file fault pass (inr is) not_memory = by_processes fault pass is

pub memory_by_processes : (file : File) (fault : NameErr) → RefusesProcesses file fault → IsChecked file → of_processes fault ≡ NoMemory
memory_by_processes file fault (inl memory) checked = ap of_processes memory
memory_by_processes file fault (inr is) checked = absurd (none_or_process file fault checked.processes is)

-- a file that passes is not refused
pub checked_or_unchecked : (file : File) (refusal : Refusal) → IsChecked file → IsUnchecked file refusal → ⊥
checked_or_unchecked file refusal checked (by_classes fault first) = none_or_class file fault checked.classes first
checked_or_unchecked file refusal checked (by_processes fault none first) = none_or_process file fault checked.processes first

-- and a file is refused in one way
pub unchecked_once : (file : File) (one other : Refusal) → IsUnchecked file one → IsUnchecked file other → one ≡ other
unchecked_once file one other (by_classes fault first) (by_classes found second) = ap of_classes (same_class file fault found first second)
unchecked_once file one other (by_classes fault first) (by_processes found none second) = absurd (none_or_class file fault none first)
unchecked_once file one other (by_processes fault none first) (by_classes found second) = absurd (none_or_class file found none second)
unchecked_once file one other (by_processes fault none first) (by_processes found none_too second) = ap of_processes (same_process file fault found first second)

-- The refusal of a core file of the code by the timing rules.
use Rattle.std.specs.Prelude.{◌≡◌, ℕ, List}
use Rattle.core_term.specs.declared.process.CoreProc.{CoreProc}
use Rattle.core_term.specs.declared.rules.Rule.{Rule}
use Rattle.timing_check.specs.Refusal.{IsRejection}
use Rattle.tool_answers.specs.declared.refusal.Refusal.{Refusal}
use Rattle.tool_answers.specs.declared.refusal.Refusal.TheVariants.{Paired}
use Rattle.checked_files.specs.Refused.{code_of}

pub record IsRejectedCore (procs : List CoreProc) (refusal : Refusal) : Type 0 where
  pub rule : Rule
  pub at : ℕ
  pub other : ℕ
  pub rejected : IsRejection procs rule at other
  pub is : refusal ≡ Paired (code_of rule) at other

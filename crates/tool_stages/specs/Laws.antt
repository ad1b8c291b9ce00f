-- The law on answers that a function of the crate carries as its contract.
use Rattle.std.specs.Prelude.{◌≡◌, ℕ, List, Option, Some, None}
use Rattle.command_words.specs.Form.{Form, usage_line}
use Rattle.tool_answers.specs.declared.status.Status.{Status}
use Rattle.tool_answers.specs.declared.status.Status.TheVariants.{Usage}
use Rattle.tool_answers.specs.OneAnswer.{HasCause}
use Rattle.tool_stages.specs.Stages.{start_of}

-- an answer that has its cause, where the words have a form and where they have none
pub data IsCaused (told : List ℕ → Option (List ℕ)) : Option Form → Status → List ℕ → Type 0 where
  of_words : IsCaused told None Usage usage_line
  of_form : (form : Form) (status : Status) (line : List ℕ) → HasCause told (start_of form) status line
      → IsCaused told (Some form) status line

-- at most one answer has a cause
abbrev pub HasOneAnswer : Type 0
HasOneAnswer = (told : List ℕ → Option (List ℕ)) (form : Option Form) (one other : Status) (line said : List ℕ)
    → IsCaused told form one line → IsCaused told form other said → (one ≡ other) × (line ≡ said)

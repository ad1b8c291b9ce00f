-- The registers that other threads of a process set.
use Rattle.std.specs.Prelude.{ℕ, ◌+◌, ◌<◌, ◌==◌, ◌||◌, if◌then◌else◌, Bool, false, List, [], ◌∷◌, ◌++◌}
use Rattle.core_term.specs.declared.process.CoreProc.{CoreProc}
use Rattle.core_term.specs.Lists.{Has}
use Rattle.core_term.specs.AcceptedFile.{process_in}
use Rattle.demand_checks.specs.Thread.{IsSetElsewhere}
use Rattle.act_deeds.specs.declared.deed.Deed.{Deed}
use Rattle.act_deeds.specs.declared.deed.Deed.TheVariants.{Sets, Sends, Receives, Decides, Other}

-- these are such registers, and all that threads of numbers below one set
pub record AreElsewhereTo (high : ℕ) (proc : CoreProc) (j : ℕ) (registers : List ℕ) : Type 0 where
  pub sound : (register : ℕ) → Has registers register → IsSetElsewhere (process_in proc) j register
  pub whole : (register : ℕ) (set : IsSetElsewhere (process_in proc) j register) → set.0 < high → Has registers register

-- these are all such registers
pub record AreElsewhere (proc : CoreProc) (j : ℕ) (registers : List ℕ) : Type 0 where
  pub sound : (register : ℕ) → Has registers register → IsSetElsewhere (process_in proc) j register
  pub whole : (register : ℕ) → IsSetElsewhere (process_in proc) j register → Has registers register

-- with the thread of a number, those of one more
abbrev pub AddsThread : ℕ → CoreProc → ℕ → (old new : List ℕ) → Type 0
AddsThread i proc j old new = AreElsewhereTo i proc j old → AreElsewhereTo (i + 1) proc j new

abbrev pub is_among : ℕ → List ℕ → Bool
is_among register [] = false
is_among register (other ∷ rest) = (other == register) || is_among register rest

-- with the register that is set, where it is not there yet
abbrev pub with_register : ℕ → List ℕ → List ℕ
with_register register registers = if is_among register registers then registers else registers ++ register ∷ []

abbrev pub with_set : Deed → List ℕ → List ℕ
with_set (Sets register) registers = with_register register registers
with_set (Sends port) registers = registers
with_set (Receives port) registers = registers
with_set Decides registers = registers
with_set Other registers = registers

abbrev pub with_sets : List Deed → List ℕ → List ℕ
with_sets [] registers = registers
with_sets (deed ∷ rest) registers = with_sets rest (with_set deed registers)

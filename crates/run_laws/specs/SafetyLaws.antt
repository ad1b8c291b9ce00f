-- That an accepted process runs safely.
use Rattle.std.specs.Prelude.{ℕ, List}
use Rattle.core_term.specs.Process.{Process, IsProcess}
use Rattle.core_term.specs.Rules.{KeepsDemands}
use Rattle.core_term.specs.Violations.{IsNth, HasNoViolations}
use Rattle.core_term.specs.Safe.{RunsSafely}

-- A process that keeps every demand of the rules has a safe run for every input list: for every number of turns, though
-- the demands speak of two turns only, and also where its partners break their promises.
abbrev pub AcceptedRunsAreSafe : Type 0
AcceptedRunsAreSafe = (p : Process) → IsProcess p → KeepsDemands p → RunsSafely p

-- The same, said of a file whose list of violations is empty.
abbrev pub WithoutViolationsRunsAreSafe : Type 0
WithoutViolationsRunsAreSafe =
    (file : List Process) → HasNoViolations file → (i : ℕ) (p : Process) → IsNth file i p → IsProcess p → RunsSafely p

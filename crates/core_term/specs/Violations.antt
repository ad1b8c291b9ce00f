-- The list of violations of a file.
--
-- A violation is a demand that does not hold, told by its process, thread, rule and two sites. The list has exactly
-- those, in the order of process, thread, rule, first and second site, each once. A file without violations is
-- accepted.
use Rattle.std.specs.Prelude.{ℕ, ◌≡◌, ◌<◌, ◌⊎◌, List, [], ◌∷◌, zero, suc}
use Rattle.core_term.specs.declared.rules.Rule.{Rule}
use Rattle.core_term.specs.declared.rules.Rule.TheVariants.{V2, V3, V4, V5, V6, V7, V8}
use Rattle.core_term.specs.Lists.{Has}
use Rattle.core_term.specs.Process.{Process, Thread, IsThread}
use Rattle.core_term.specs.Rules.{Claim, Holds, Demands}

-- where a demand fails, by the numbers of the process and the thread, and which
pub record Broken : Type 0 where
  pub process : ℕ
  pub thread : ℕ
  pub rule : Rule
  pub first : ℕ
  pub second : ℕ

abbrev pub rule_number : Rule → ℕ
rule_number V2 = 2
rule_number V3 = 3
rule_number V4 = 4
rule_number V5 = 5
rule_number V6 = 6
rule_number V7 = 7
rule_number V8 = 8

-- by process, thread, rule, first and second site
abbrev pub ComesBefore : Broken → Broken → Type 0
ComesBefore v w =
    (v.process < w.process)
    ⊎ ((v.process ≡ w.process)
    × ((v.thread < w.thread)
    ⊎ ((v.thread ≡ w.thread)
    × ((rule_number v.rule < rule_number w.rule)
    ⊎ ((v.rule ≡ w.rule) × ((v.first < w.first) ⊎ ((v.first ≡ w.first) × (v.second < w.second))))))))

-- in order, so none twice
abbrev pub IsAscending : List Broken → Type 0
IsAscending [] = Unit {0}
IsAscending (v ∷ vs) = ((w : Broken) → Has vs w → ComesBefore v w) × IsAscending vs

-- the process of the number i
abbrev pub IsNth : List Process → ℕ → Process → Type 0
IsNth [] i p = ⊥
IsNth (first ∷ rest) zero p = first ≡ p
IsNth (first ∷ rest) (suc i) p = IsNth rest i p

-- the demand of a record stands in the file, and fails
pub record IsBroken (file : List Process) (v : Broken) : Type 0 where
  pub process : Process
  pub is_process : IsNth file v.process process
  pub thread : Thread
  pub is_thread : IsThread process.threads v.thread thread
  pub claim : Claim
  pub demanded : Demands process v.thread thread.body v.rule v.first v.second claim
  pub fails : Holds process thread.body claim → ⊥

-- each record is of a demand that fails, each demand holds or has its record
pub record IsViolations (file : List Process) (vs : List Broken) : Type 0 where
  pub sound : (v : Broken) → Has vs v → IsBroken file v
  pub whole : (i j : ℕ) (p : Process) (thread : Thread) → IsNth file i p → IsThread p.threads j thread
      → (rule : Rule) (first second : ℕ) (claim : Claim) → Demands p j thread.body rule first second claim
      → Holds p thread.body claim
      ⊎ Has vs (record { process = i; thread = j; rule = rule; first = first; second = second })
  pub ascending : IsAscending vs

-- the file has no violations
abbrev pub HasNoViolations : List Process → Type 0
HasNoViolations file = IsViolations file []

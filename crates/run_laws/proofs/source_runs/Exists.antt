-- The history that is found cycle by cycle is a history: what is written in a cycle depends on the registers up to that cycle
-- alone, and later cycles change nothing.
use Rattle.std.proofs.Common.{◌≡◌, ℕ, ◌+◌, ◌<◌, ◌≤◌, arith, refl, sym, ◌∙◌, ap, Bool, true, false, if◌then◌else◌, nat_le, zero, suc}
use Rattle.std.proofs.lemmas.Bool.Decides.{nat_tests}
use Rattle.core_term.specs.Inputs.{Inputs}
use Rattle.core_term.specs.Process.{Process}
use Rattle.core_term.specs.History.{written_by, get_else, IsHistory, history_to, history}
use Rattle.run_laws.specs.OneRun.{SameRows}
use Rattle.run_laws.proofs.source_runs.SameRuns.{together, written_by_same}

-- an input list and itself
pub same_rows : (inputs : Inputs) (n : ℕ) → n ≤ inputs.count → SameRows n inputs inputs
same_rows inputs n l = record { long = l; other_long = l; valid = λ m t k. refl; data_at = λ m t k. refl; ack = λ m t k. refl }

module _ (p : Process) (inputs : Inputs) where
  -- later cycles change nothing
  unchanged : (n t r : ℕ) → t ≤ n → history_to p inputs n t r ≡ history p inputs t r
  unchanged zero t r l = let equal : t ≡ 0 = omega arith in ap (λ c. history_to p inputs c c r) (sym equal)
  unchanged (suc n) t r l = go (nat_le t n) refl (unchanged n t r)
    where
      go : (b : Bool) → nat_le t n ≡ b → (t ≤ n → history_to p inputs n t r ≡ history_to p inputs t t r) → history_to p inputs (suc n) t r ≡ history_to p inputs t t r
      go true e k =
          let at_most : t ≤ n = grind (arith, nat_tests) in
          ap (λ b. if b then history_to p inputs n t r else get_else (written_by inputs (history_to p inputs n) p.threads r n) (history_to p inputs n n r)) e ∙ k at_most
      go false e k = let is_less : n < t = grind (arith, nat_tests) in let next_equal : suc n ≡ t = omega arith in ap (λ c. history_to p inputs c t r) next_equal

  pub is_history : IsHistory p inputs (history p inputs)
  is_history = record { reset = λ r. refl; step = step }
    where
      step : (t r : ℕ) → t < inputs.count → history p inputs (t + 1) r ≡ get_else (written_by inputs (history p inputs) p.threads r t) (history p inputs t r)
      step t r l =
          let last_equal : t + 1 ≡ suc t = omega arith in
          let decided : nat_le (suc t) t ≡ false = grind (arith, nat_tests) in
          let same : written_by inputs (history_to p inputs t) p.threads r t ≡ written_by inputs (history p inputs) p.threads r t =
          written_by_same t (history_to p inputs t) (history p inputs) (λ s q m. unchanged t s q m) inputs inputs
          (together t inputs inputs (history_to p inputs t) (history p inputs) (same_rows inputs (t + 1) (omega arith)) (λ s q m. unchanged t s q m)) p.threads r in
          ap (λ c. history p inputs c r) last_equal
          ∙ (ap (λ b. if b then history_to p inputs t (suc t) r else get_else (written_by inputs (history_to p inputs t) p.threads r t) (history_to p inputs t t r)) decided
          ∙ ap (λ o. get_else o (history_to p inputs t t r)) same)

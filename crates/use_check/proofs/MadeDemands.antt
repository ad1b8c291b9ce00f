-- The reads that are not shown to come after are the records of V2.
use Rattle.std.proofs.Common.{◌≡◌, ℕ, inl, inr, refl, sym, subst, List, []}
use Rattle.std.specs.Prelude.{pos}
use Rattle.core_term.specs.declared.rules.Rule.TheVariants as rule
use Rattle.core_term.specs.Lists.{Has}
use Rattle.core_term.specs.Term.{Term}
use Rattle.core_term.specs.Numbering.{Numbered}
use Rattle.core_term.specs.Process.{Process}
use Rattle.core_term.specs.Rules.{Claim, Order, Demands, begin_of, end_of, made}
use Rattle.demand_checks.specs.declared.place.Pair.{Pair}
use Rattle.demand_checks.specs.Answers.{Answers, Tell}
use Rattle.demand_checks.specs.Found.{AreFound}
use Rattle.demand_checks.specs.Reads.{AreReads, IsRead, pair}
use Rattle.demand_checks.specs.Unshown.{unshown}
use Rattle.demand_checks.proofs.Filtered.{found}
use Rattle.demand_checks.proofs.Inverted.{made_demand}
use Rattle.use_check.specs.Made.{made_claims, own_pair}

module _ (p : Process) (j : ℕ) (body : Term) (numbered : Numbered [] 0 body) (reads : List Pair) (all : AreReads body reads) where
  demanded : (first second : ℕ) (claim : Claim) → IsRead body first second → Has (made_claims (pair first second)) claim → Demands p j body rule.V2 first second claim
  demanded first second claim (scope, u, stands, is, read) (inl same) =
      subst (λ c. Demands p j body rule.V2 first second c) (sym same)
      (subst (λ n. Demands p j body rule.V2 n second (Order (end_of second) (pos 0) (begin_of n))) is (made scope u second stands read))
  demanded first second claim is_read (inr none) = elim none [ ]

  claimed : (first second : ℕ) (claim : Claim) → Demands p j body rule.V2 first second claim
      → (read : Pair) × Has reads read × ((own_pair read).first ≡ first) × ((own_pair read).second ≡ second) × Has (made_claims read) claim
  claimed first second claim demand =
      let known = made_demand p j body rule.V2 first second claim demand refl in (pair first second, all.whole first second known.0, refl, refl, inl known.1)

  pub made_found : (answers : Answers) → Tell p body answers → AreFound p j body rule.V2 (unshown own_pair made_claims answers reads)
  made_found answers tell =
      found own_pair made_claims answers p j body rule.V2 reads numbered tell (λ read has claim claims. demanded read.first read.second claim (all.sound read has) claims) claimed

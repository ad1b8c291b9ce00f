-- The uses of sides that are not shown to be over are the records of V8.
use Rattle.std.proofs.Common.{◌≡◌, ℕ, inl, inr, refl, sym, ◌∙◌, ap, subst, List, []}
use Rattle.std.specs.Prelude.{pos}
use Rattle.core_term.specs.declared.rules.Rule.TheVariants as rule
use Rattle.core_term.specs.declared.term.SourceAtom.{SourceAtom}
use Rattle.core_term.specs.declared.term.SourceAtom.TheVariants.{Wire, Reg, Choice}
use Rattle.core_term.specs.Lists.{Has}
use Rattle.core_term.specs.Term.{Term, head}
use Rattle.core_term.specs.Numbering.{Numbered}
use Rattle.core_term.specs.Process.{Process}
use Rattle.core_term.specs.Sources.{ChoiceOf}
use Rattle.core_term.specs.Atoms.{source_of, site_of}
use Rattle.core_term.specs.Rules.{Claim, Demands, use_by, next_begin_of, choice}
use Rattle.act_deeds.specs.declared.deed.Deed.{Deed}
use Rattle.demand_checks.specs.declared.rests.Rest.{Rest}
use Rattle.demand_checks.specs.Answers.{Answers, Tell}
use Rattle.demand_checks.specs.Deeds.{AreDeeds, used}
use Rattle.demand_checks.specs.Found.{AreFound}
use Rattle.demand_checks.specs.Rests.{AreRests, IsUse, pair_of}
use Rattle.demand_checks.specs.Unshown.{unshown}
use Rattle.demand_checks.proofs.Filtered.{found}
use Rattle.demand_checks.proofs.Inverted.{used_is, choice_demand}
use Rattle.loan_check.specs.Choices.{choice_claims, choice_claims_of}

choice_atom : (atom : SourceAtom) (q : ℕ) → source_of atom ≡ ChoiceOf q → atom ≡ Choice q
choice_atom (Wire s) q is = absurd cc
choice_atom (Reg s r) q is = absurd cc
choice_atom (Choice s) q is = cc

module _ (p : Process) (j : ℕ) (body : Term) (numbered : Numbered [] 0 body) (deeds : List Deed) (are : AreDeeds body deeds) (rests : List Rest) (all : AreRests body rests) where
  use_is : (user : ℕ) (q : ℕ) (is_use : IsUse body user (ChoiceOf q)) → used deeds user (pos 1) (next_begin_of q) ≡ use_by (head is_use.0) (pos 1) (next_begin_of q)
  use_is user q (u, is, rest) = used_is body deeds are rest.scope u rest.stands user is (pos 1) (next_begin_of q)

  demanded : (user : ℕ) (atom : SourceAtom) (claim : Claim) → IsUse body user (source_of atom) → Has (choice_claims_of deeds user atom) claim → Demands p j body rule.V8 user (site_of atom) claim
  demanded user (Wire q) claim is_use has = elim has [ ]
  demanded user (Reg q r) claim is_use has = elim has [ ]
  demanded user (Choice q) claim is_use (inl is) =
      subst (λ c. Demands p j body rule.V8 user q c) (sym (is ∙ use_is user q is_use))
      (subst (λ n. Demands p j body rule.V8 n q (use_by (head is_use.0) (pos 1) (next_begin_of q))) is_use.1 (choice is_use.0 q is_use.2))
  demanded user (Choice q) claim is_use (inr none) = elim none [ ]

  claimed : (first second : ℕ) (claim : Claim) → Demands p j body rule.V8 first second claim
      → (rest : Rest) × Has rests rest × ((pair_of rest).first ≡ first) × ((pair_of rest).second ≡ second) × Has (choice_claims deeds rest) claim
  claimed first second claim demand =
      let known = choice_demand p j body rule.V8 first second claim demand refl in
      let there = all.whole first (ChoiceOf second) known.0 in
      let atom = choice_atom there.0.atom second there.3 in (
        there.0,
        there.1,
        there.2,
        ap site_of atom,
        subst (λ a. Has (choice_claims_of deeds there.0.user a) claim) (sym atom)
            (subst (λ n. Has (choice_claims_of deeds n (Choice second)) claim) (sym there.2) (inl (known.1 ∙ sym (use_is first second known.0)))),
      )

  pub choices_found : (answers : Answers) → Tell p body answers → AreFound p j body rule.V8 (unshown pair_of (choice_claims deeds) answers rests)
  choices_found answers tell =
      found pair_of (choice_claims deeds) answers p j body rule.V8 rests numbered tell (λ rest has claim claims. demanded rest.user rest.atom claim (all.sound rest has) claims) claimed

-- The records of the items with a claim that is not shown are the records of a rule, where the claims of the items are its demands.
use Rattle.std.proofs.Common.{◌≡◌, ℕ, ◌⊎◌, inl, inr, refl, sym, ◌∙◌, ap, subst, List, [], ◌∷◌, Bool, true, false, if◌then◌else◌, ◌&&◌}
use Rattle.core_term.specs.declared.rules.Rule.{Rule}
use Rattle.core_term.specs.Lists.{Has}
use Rattle.core_term.specs.Term.{Term}
use Rattle.core_term.specs.Numbering.{Numbered}
use Rattle.core_term.specs.Process.{Process}
use Rattle.core_term.specs.Rules.{Claim, Holds, Demands}
use Rattle.demand_checks.specs.declared.place.Pair.{Pair}
use Rattle.demand_checks.specs.Answers.{Answers, Decides, Tell, shows, all_shown}
use Rattle.demand_checks.specs.Found.{Fails, AreFound}
use Rattle.demand_checks.specs.Unshown.{unshown}
use Rattle.demand_checks.proofs.Answered.{demand_shown}
use Rattle.demand_checks.proofs.Listed.{same_pair}

-- one of the claims is not shown, or all are
some_not : (answers : Answers) (claims : List Claim) → all_shown answers claims ≡ false → (claim : Claim) × Has claims claim × (shows answers claim ≡ false)
some_not answers [] k = absurd cc
some_not answers (claim ∷ claims) k = go (λ l. some_not answers claims l) (shows answers claim) refl
  where
    go : (all_shown answers claims ≡ false → (one : Claim) × Has claims one × (shows answers one ≡ false)) → (b : Bool) → shows answers claim ≡ b → (one : Claim) × Has (claim ∷ claims) one × (shows answers one ≡ false)
    go deeper false is = (claim, inl refl, is)
    go deeper true is = let known = deeper (sym (ap (λ b. b && all_shown answers claims) is) ∙ k) in (known.0, inr known.1, known.2)

each_shown : (answers : Answers) (claims : List Claim) → all_shown answers claims ≡ true → (claim : Claim) → Has claims claim → shows answers claim ≡ true
each_shown answers [] k claim has = elim has [ ]
each_shown answers (first ∷ claims) k claim has = go (λ l later. each_shown answers claims l claim later) (shows answers first) refl has
  where
    go : (all_shown answers claims ≡ true → Has claims claim → shows answers claim ≡ true) → (b : Bool) → shows answers first ≡ b → Has (first ∷ claims) claim → shows answers claim ≡ true
    go deeper false is l = let known : false ≡ true = sym (ap (λ b. b && all_shown answers claims) is) ∙ k in absurd cc
    go deeper true is (inl same) = ap (shows answers) same ∙ is
    go deeper true is (inr later) = deeper (sym (ap (λ b. b && all_shown answers claims) is) ∙ k) later

module _ {X : Type 0} (pair_of : X → Pair) (claims_of : X → List Claim) (answers : Answers) where
  from_unshown : (items : List X) (one : Pair) → Has (unshown pair_of claims_of answers items) one → (item : X) × Has items item × (one ≡ pair_of item) × (all_shown answers (claims_of item) ≡ false)
  from_unshown [] one has = elim has [ ]
  from_unshown (item ∷ rest) one has = go (λ later. from_unshown rest one later) (all_shown answers (claims_of item)) refl
    where
      go : (Has (unshown pair_of claims_of answers rest) one → (x : X) × Has rest x × (one ≡ pair_of x) × (all_shown answers (claims_of x) ≡ false)) → (b : Bool) → all_shown answers (claims_of item) ≡ b → (x : X) × Has (item ∷ rest) x × (one ≡ pair_of x) × (all_shown answers (claims_of x) ≡ false)
      go deeper true is =
          let still : Has (unshown pair_of claims_of answers rest) one = subst (λ known. Has (if known then unshown pair_of claims_of answers rest else pair_of item ∷ unshown pair_of claims_of answers rest) one) is has in
          let known = deeper still in (known.0, inr known.1, known.2, known.3)
      go deeper false is =
          elim (subst (λ known. Has (if known then unshown pair_of claims_of answers rest else pair_of item ∷ unshown pair_of claims_of answers rest) one) is has) [
            | inl same ↦ (item, inl refl, same, is)
            | inr later ↦ (let known = deeper later in (known.0, inr known.1, known.2, known.3))
          ]

  to_unshown : (items : List X) (item : X) → Has items item → all_shown answers (claims_of item) ≡ false → Has (unshown pair_of claims_of answers items) (pair_of item)
  to_unshown [] item has k = elim has [ ]
  to_unshown (first ∷ rest) item (inl same) k =
      let here : all_shown answers (claims_of first) ≡ false = ap (λ x. all_shown answers (claims_of x)) (sym same) ∙ k in
      subst (λ z. Has (if z then unshown pair_of claims_of answers rest else pair_of first ∷ unshown pair_of claims_of answers rest) (pair_of item)) (sym here) (inl (ap pair_of same))
  to_unshown (first ∷ rest) item (inr later) k = go (to_unshown rest item later k) (all_shown answers (claims_of first))
    where
      go : Has (unshown pair_of claims_of answers rest) (pair_of item) → (b : Bool) → Has (if b then unshown pair_of claims_of answers rest else pair_of first ∷ unshown pair_of claims_of answers rest) (pair_of item)
      go there true = there
      go there false = inr there

  pub found : (p : Process) (j : ℕ) (body : Term) (rule : Rule) (items : List X) → Numbered [] 0 body → Tell p body answers
      → ((item : X) → Has items item → (claim : Claim) → Has (claims_of item) claim → Demands p j body rule (pair_of item).first (pair_of item).second claim)
      → ((first second : ℕ) (claim : Claim) → Demands p j body rule first second claim
      → (item : X) × Has items item × ((pair_of item).first ≡ first) × ((pair_of item).second ≡ second) × Has (claims_of item) claim)
      → AreFound p j body rule (unshown pair_of claims_of answers items)
  found p j body rule items numbered tell sound whole = record {
    sound = λ one has.
        let known = from_unshown items one has in
        let seen = some_not answers (claims_of known.0) known.3 in
        let demanded = sound known.0 known.1 seen.0 seen.1 in
        subst (λ o. Fails p j body rule o.first o.second) (sym known.2) (record {
          claim = seen.0;
          demanded = demanded;
          fails = subst (λ b. Decides b (Holds p body seen.0)) seen.2 (demand_shown p body answers tell j numbered rule _ _ seen.0 demanded);
        });
    whole = λ first second claim demanded. told first second claim demanded (whole first second claim demanded);
  }
    where
      told : (first second : ℕ) (claim : Claim) → Demands p j body rule first second claim
          → ((item : X) × Has items item × ((pair_of item).first ≡ first) × ((pair_of item).second ≡ second) × Has (claims_of item) claim)
          → Holds p body claim ⊎ Has (unshown pair_of claims_of answers items) (record { first = first; second = second })
      told first second claim demanded (item, has, one, other, claims) = go (all_shown answers (claims_of item)) refl
        where
          go : (b : Bool) → all_shown answers (claims_of item) ≡ b → Holds p body claim ⊎ Has (unshown pair_of claims_of answers items) (record { first = first; second = second })
          go true is = inl (subst (λ c. Decides c (Holds p body claim)) (each_shown answers (claims_of item) is claim claims) (demand_shown p body answers tell j numbered rule first second claim demanded))
          go false is =
              let same = same_pair (pair_of item) first second one other in
              inr (subst (λ o. Has (unshown pair_of claims_of answers items) o) same (to_unshown items item has is))

-- The violations of some rules, and after them those of one more.
use Rattle.std.proofs.Common.{◌≡◌, ℕ, ◌<◌, ◌⊎◌, inl, inr, refl, sym, ap, subst, List, [], ◌∷◌, ◌++◌, map}
use Rattle.core_term.specs.declared.rules.Rule.{Rule}
use Rattle.core_term.specs.declared.rules.Violation.{Violation}
use Rattle.core_term.specs.Lists.{Has}
use Rattle.core_term.specs.Term.{Term}
use Rattle.core_term.specs.Process.{Process}
use Rattle.core_term.specs.Rules.{Claim, Holds, Demands}
use Rattle.core_term.specs.Violations.{rule_number}
use Rattle.demand_checks.specs.declared.place.Pair.{Pair}
use Rattle.demand_checks.specs.Found.{ComesEarlier, IsAscending, Fails, AreFound, AreViolations, AllEarlier}
use Rattle.demand_checks.specs.Pairs.{AreAscending, AreSettled, violation}
use Rattle.demand_checks.proofs.Listed.{has_left, has_right, has_either}

listed : (rule : Rule) (pairs : List Pair) (one : Violation) → Has (map (violation rule) pairs) one → (pair : Pair) × Has pairs pair × (one ≡ violation rule pair)
listed rule [] one has = elim has [ ]
listed rule (pair ∷ pairs) one (inl is) = (pair, inl refl, is)
listed rule (pair ∷ pairs) one (inr has) = let known = listed rule pairs one has in (known.0, inr known.1, known.2)

in_list : (rule : Rule) (pairs : List Pair) (pair : Pair) → Has pairs pair → Has (map (violation rule) pairs) (violation rule pair)
in_list rule [] pair has = elim has [ ]
in_list rule (first ∷ pairs) pair (inl is) = inl (ap (violation rule) is)
in_list rule (first ∷ pairs) pair (inr has) = inr (in_list rule pairs pair has)

rising : (rule : Rule) (pairs : List Pair) → AreAscending pairs → IsAscending (map (violation rule) pairs)
rising rule [] ascending = tt
rising rule (pair ∷ pairs) ascending =
    ((λ other has. let known = listed rule pairs other has in subst (λ v. ComesEarlier (violation rule pair) v) (sym known.2) (inr (refl, ascending.0 known.0 known.1))), rising rule pairs ascending.1)

pub one_after : (these those : List Violation) → IsAscending these → IsAscending those → ((one other : Violation) → Has these one → Has those other → ComesEarlier one other) → IsAscending (these ++ those)
one_after [] those rise rises apart = rises
one_after (first ∷ these) those rise rises apart =
    ((λ other has. elim (has_either these those other has) [ inl k ↦ rise.0 other k | inr k ↦ apart first other (inl refl) k ]), one_after these those rise.1 rises (λ one other k l. apart one other (inr k) l))

pub one_rule_more : (p : Process) (j : ℕ) (body : Term) (rules : List Rule) (rule : Rule) (violations : List Violation) (old new : List Pair) → AreSettled old new
    → AreViolations p j body rules violations → AreFound p j body rule old → AllEarlier rules rule
    → (all : List Violation) → all ≡ violations ++ map (violation rule) new → AreViolations p j body (rules ++ rule ∷ []) all
one_rule_more p j body rules rule violations old new settled are found earlier all is =
    subst (λ v. AreViolations p j body (rules ++ rule ∷ []) v) (sym is) (record {
      sound = λ one has. elim (has_either violations (map (violation rule) new) one has) [
        | inl k ↦ (let known = are.sound one k in (has_left rules _ one.rule known.0, known.1))
        | inr k ↦
            (let known = listed rule new one k in
            subst (λ v. Has (rules ++ rule ∷ []) v.rule × Fails p j body v.rule v.first v.second) (sym known.2) (has_right rules _ rule (inl refl), found.sound known.0 (settled.sound known.0 known.1)))
      ];
      whole = λ other has first second claim demanded. elim (has_either rules (rule ∷ []) other has) [
        | inl k ↦ elim (are.whole other k first second claim demanded) [ inl l ↦ inl l | inr l ↦ inr (has_left violations _ _ l) ]
        | inr k ↦ elim k [
          | inl same ↦ of_rule other same first second claim demanded
          | inr none ↦ absurd none
        ]
      ];
      ascending = one_after violations (map (violation rule) new) are.ascending (rising rule new settled.ascending)
          (λ one other k l. inl (let known = listed rule new other l in subst (λ v. rule_number one.rule < rule_number v.rule) (sym known.2) (earlier one.rule (are.sound one k).0)));
    })
  where
    of_rule : (other : Rule) → other ≡ rule → (first second : ℕ) (claim : Claim) → Demands p j body other first second claim
        → Holds p body claim ⊎ Has (violations ++ map (violation rule) new) (record { rule = other; first = first; second = second })
    of_rule other same first second claim demanded =
        elim (found.whole first second claim (subst (λ r. Demands p j body r first second claim) same demanded)) [
          | inl l ↦ inl l
          | inr l ↦ inr (has_right violations _ _ (subst (λ r. Has (map (violation rule) new) (record { rule = r; first = first; second = second })) (sym same) (in_list rule new (record { first = first; second = second }) (settled.whole _ l))))
        ]

-- no rules, no violations
pub no_rules : (p : Process) (j : ℕ) (body : Term) → AreViolations p j body [] []
no_rules p j body = record { sound = λ one has. elim has [ ]; whole = λ rule has first second claim demanded. absurd has; ascending = tt }

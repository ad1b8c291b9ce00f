-- The three lists of a thread in order of the rules: each part ascends, and the rules of a part come before those of the next.
use Rattle.std.proofs.Common.{◌≡◌, ℕ, ◌<◌, ◌≤◌, ◌⊎◌, inl, inr, arith, refl, sym, ap, subst, List, [], ◌∷◌, ◌++◌, Bool, true, false, if◌then◌else◌}
use Rattle.core_term.specs.declared.rules.Rule.{Rule}
use Rattle.core_term.specs.declared.rules.Rule.TheVariants.{V2, V3, V4, V5, V6, V7, V8}
use Rattle.core_term.specs.declared.rules.Violation.{Violation}
use Rattle.core_term.specs.Lists.{Has}
use Rattle.core_term.specs.Process.{Process}
use Rattle.core_term.specs.Term.{Term}
use Rattle.core_term.specs.Rules.{Claim, Holds, Demands}
use Rattle.core_term.specs.Violations.{rule_number}
use Rattle.demand_checks.specs.Found.{IsAscending, Fails, AreViolations}
use Rattle.demand_checks.specs.Merged.{ListsMerge, all_rules, is_made, made_of, others_of, merged}
use Rattle.demand_checks.proofs.Listed.{has_left, has_right, has_either}
use Rattle.demand_checks.proofs.OneRule.{one_after}

-- the rules of a list lie between two numbers
abbrev Between : ℕ → ℕ → List Violation → Type 0
Between low high violations = (one : Violation) → Has violations one → (low ≤ rule_number one.rule) × (rule_number one.rule ≤ high)

made_kept : (violations : List Violation) (one : Violation) → Has (made_of violations) one → Has violations one × (is_made one.rule ≡ true)
made_kept [] one has = elim has [ ]
made_kept (first ∷ rest) one has = go (is_made first.rule) refl has (λ k. made_kept rest one k)
  where
    go : (b : Bool) → is_made first.rule ≡ b → Has (if b then first ∷ made_of rest else made_of rest) one → (Has (made_of rest) one → Has rest one × (is_made one.rule ≡ true))
        → Has (first ∷ rest) one × (is_made one.rule ≡ true)
    go true is (inl same) deeper = (inl same, subst (λ v. is_made v.rule ≡ true) (sym same) is)
    go true is (inr later) deeper = let known = deeper later in (inr known.0, known.1)
    go false is later deeper = let known = deeper later in (inr known.0, known.1)

others_kept : (violations : List Violation) (one : Violation) → Has (others_of violations) one → Has violations one × (is_made one.rule ≡ false)
others_kept [] one has = elim has [ ]
others_kept (first ∷ rest) one has = go (is_made first.rule) refl has (λ k. others_kept rest one k)
  where
    go : (b : Bool) → is_made first.rule ≡ b → Has (if b then others_of rest else first ∷ others_of rest) one → (Has (others_of rest) one → Has rest one × (is_made one.rule ≡ false))
        → Has (first ∷ rest) one × (is_made one.rule ≡ false)
    go false is (inl same) deeper = (inl same, subst (λ v. is_made v.rule ≡ false) (sym same) is)
    go false is (inr later) deeper = let known = deeper later in (inr known.0, known.1)
    go true is later deeper = let known = deeper later in (inr known.0, known.1)

in_made : (violations : List Violation) (one : Violation) → Has violations one → is_made one.rule ≡ true → Has (made_of violations) one
in_made [] one has is = elim has [ ]
in_made (first ∷ rest) one (inl same) is =
    subst (λ b. Has (if b then first ∷ made_of rest else made_of rest) one) (sym (subst (λ v. is_made v.rule ≡ true) same is)) (inl same)
in_made (first ∷ rest) one (inr has) is = go (is_made first.rule) (in_made rest one has is)
  where
    go : (b : Bool) → Has (made_of rest) one → Has (if b then first ∷ made_of rest else made_of rest) one
    go true there = inr there
    go false there = there

in_others : (violations : List Violation) (one : Violation) → Has violations one → is_made one.rule ≡ false → Has (others_of violations) one
in_others [] one has is = elim has [ ]
in_others (first ∷ rest) one (inl same) is =
    subst (λ b. Has (if b then others_of rest else first ∷ others_of rest) one) (sym (subst (λ v. is_made v.rule ≡ false) same is)) (inl same)
in_others (first ∷ rest) one (inr has) is = go (is_made first.rule) (in_others rest one has is)
  where
    go : (b : Bool) → Has (others_of rest) one → Has (if b then others_of rest else first ∷ others_of rest) one
    go true there = there
    go false there = inr there

made_rises : (violations : List Violation) → IsAscending violations → IsAscending (made_of violations)
made_rises [] ascending = tt
made_rises (first ∷ rest) ascending = go (is_made first.rule) (made_rises rest ascending.1)
  where
    go : (b : Bool) → IsAscending (made_of rest) → IsAscending (if b then first ∷ made_of rest else made_of rest)
    go true rises = ((λ other has. ascending.0 other (made_kept rest other has).0), rises)
    go false rises = rises

others_rise : (violations : List Violation) → IsAscending violations → IsAscending (others_of violations)
others_rise [] ascending = tt
others_rise (first ∷ rest) ascending = go (is_made first.rule) (others_rise rest ascending.1)
  where
    go : (b : Bool) → IsAscending (others_of rest) → IsAscending (if b then others_of rest else first ∷ others_of rest)
    go true rises = rises
    go false rises = ((λ other has. ascending.0 other (others_kept rest other has).0), rises)

-- two parts, of which the rules of the first come before those of the second
joined : (these those : List Violation) (one two three four : ℕ) → Between one two these → Between three four those → two < three → IsAscending these → IsAscending those → IsAscending (these ++ those)
joined these those one two three four low high less rises rise = one_after these those rises rise (λ first second k l. inl (let seen = low first k in let known = high second l in omega (arith, seen.1, known.0, less)))

both_between : (these those : List Violation) (one two three four : ℕ) → Between one two these → Between three four those → one ≤ three → two ≤ four → Between one four (these ++ those)
both_between these those one two three four low high first last item has = elim (has_either these those item has) [
  | inl k ↦ (let known = low item k in (known.0, omega (arith, known.1, last)))
  | inr k ↦ (let known = high item k in (omega (arith, known.0, first), known.1))
]

made_number : (rule : Rule) → is_made rule ≡ true → rule ≡ V2
made_number V2 is = refl
made_number V3 is = absurd cc
made_number V4 is = absurd cc
made_number V5 is = absurd cc
made_number V6 is = absurd cc
made_number V7 is = absurd cc
made_number V8 is = absurd cc

at_rule : (rule wanted : Rule) → rule ≡ wanted → rule_number rule ≡ rule_number wanted
at_rule rule wanted is = ap rule_number is

wire_number : (rule : Rule) → Has (V2 ∷ V6 ∷ []) rule → is_made rule ≡ false → rule_number rule ≡ 6
wire_number rule (inl is) other = absurd (let known : true ≡ false = subst (λ r. is_made r ≡ false) is other in cc)
wire_number rule (inr (inl is)) other = at_rule rule V6 is
wire_number rule (inr (inr none)) other = elim none [ ]

send_number : (rule : Rule) → Has (V3 ∷ V4 ∷ V5 ∷ []) rule → (3 ≤ rule_number rule) × (rule_number rule ≤ 5)
send_number rule (inl is) = let known = at_rule rule V3 is in (omega (arith, known), omega (arith, known))
send_number rule (inr (inl is)) = let known = at_rule rule V4 is in (omega (arith, known), omega (arith, known))
send_number rule (inr (inr (inl is))) = let known = at_rule rule V5 is in (omega (arith, known), omega (arith, known))
send_number rule (inr (inr (inr none))) = elim none [ ]

loan_number : (rule : Rule) → Has (V7 ∷ V8 ∷ []) rule → (7 ≤ rule_number rule) × (rule_number rule ≤ 8)
loan_number rule (inl is) = let known = at_rule rule V7 is in (omega (arith, known), omega (arith, known))
loan_number rule (inr (inl is)) = let known = at_rule rule V8 is in (omega (arith, known), omega (arith, known))
loan_number rule (inr (inr none)) = elim none [ ]

of_uses : (rule : Rule) → Has (V2 ∷ V6 ∷ []) rule → Has all_rules rule
of_uses rule (inl is) = inl is
of_uses rule (inr (inl is)) = inr (inr (inr (inr (inl is))))
of_uses rule (inr (inr none)) = elim none [ ]

of_sends : (rule : Rule) → Has (V3 ∷ V4 ∷ V5 ∷ []) rule → Has all_rules rule
of_sends rule (inl is) = inr (inl is)
of_sends rule (inr (inl is)) = inr (inr (inl is))
of_sends rule (inr (inr (inl is))) = inr (inr (inr (inl is)))
of_sends rule (inr (inr (inr none))) = elim none [ ]

of_loans : (rule : Rule) → Has (V7 ∷ V8 ∷ []) rule → Has all_rules rule
of_loans rule (inl is) = inr (inr (inr (inr (inr (inl is)))))
of_loans rule (inr (inl is)) = inr (inr (inr (inr (inr (inr (inl is))))))
of_loans rule (inr (inr none)) = elim none [ ]

-- which of the three lists a rule belongs to
which : (rule : Rule) → Has all_rules rule → Has (V2 ∷ V6 ∷ []) rule ⊎ (Has (V3 ∷ V4 ∷ V5 ∷ []) rule ⊎ Has (V7 ∷ V8 ∷ []) rule)
which rule (inl is) = inl (inl is)
which rule (inr (inl is)) = inr (inl (inl is))
which rule (inr (inr (inl is))) = inr (inl (inr (inl is)))
which rule (inr (inr (inr (inl is)))) = inr (inl (inr (inr (inl is))))
which rule (inr (inr (inr (inr (inl is))))) = inl (inr (inl is))
which rule (inr (inr (inr (inr (inr (inl is)))))) = inr (inr (inl is))
which rule (inr (inr (inr (inr (inr (inr (inl is))))))) = inr (inr (inr (inl is)))
which rule (inr (inr (inr (inr (inr (inr (inr none))))))) = elim none [ ]

module _ (p : Process) (j : ℕ) (body : Term) (uses sends loans : List Violation) (of_use : AreViolations p j body (V2 ∷ V6 ∷ []) uses)
    (of_send : AreViolations p j body (V3 ∷ V4 ∷ V5 ∷ []) sends) (of_loan : AreViolations p j body (V7 ∷ V8 ∷ []) loans) where
  abbrev Sound : Violation → Type 0
  Sound one = Has all_rules one.rule × Fails p j body one.rule one.first one.second

  use_sound : (one : Violation) → Has uses one → Sound one
  use_sound one has = let known = of_use.sound one has in (of_uses one.rule known.0, known.1)

  sound : (one : Violation) → Has (merged uses sends loans) one → Sound one
  sound one has = elim (has_either (made_of uses) _ one has) [
    | inl k ↦ use_sound one (made_kept uses one k).0
    | inr k ↦ elim (has_either sends _ one k) [
      | inl l ↦ (let known = of_send.sound one l in (of_sends one.rule known.0, known.1))
      | inr l ↦ elim (has_either (others_of uses) loans one l) [
        | inl m ↦ use_sound one (others_kept uses one m).0
        | inr m ↦ (let known = of_loan.sound one m in (of_loans one.rule known.0, known.1))
      ]
    ]
  ]

  in_uses : (one : Violation) → Has uses one → Has (merged uses sends loans) one
  in_uses one has = go (is_made one.rule) refl
    where
      go : (b : Bool) → is_made one.rule ≡ b → Has (merged uses sends loans) one
      go true is = has_left (made_of uses) _ one (in_made uses one has is)
      go false is = has_right (made_of uses) _ one (has_right sends _ one (has_left (others_of uses) loans one (in_others uses one has is)))

  abbrev Whole : Rule → ℕ → ℕ → Claim → Type 0
  Whole rule first second claim = Holds p body claim ⊎ Has (merged uses sends loans) (record { rule = rule; first = first; second = second })

  whole : (rule : Rule) → Has all_rules rule → (first second : ℕ) (claim : Claim) → Demands p j body rule first second claim → Whole rule first second claim
  whole rule has first second claim demanded = elim (which rule has) [
    | inl k ↦ elim (of_use.whole rule k first second claim demanded) [ inl holds ↦ inl holds | inr there ↦ inr (in_uses _ there) ]
    | inr k ↦ elim k [
      | inl l ↦ elim (of_send.whole rule l first second claim demanded) [
        | inl holds ↦ inl holds
        | inr there ↦ inr (has_right (made_of uses) _ _ (has_left sends _ _ there))
      ]
      | inr l ↦ elim (of_loan.whole rule l first second claim demanded) [
        | inl holds ↦ inl holds
        | inr there ↦ inr (has_right (made_of uses) _ _ (has_right sends _ _ (has_right (others_of uses) loans _ there)))
      ]
    ]
  ]

  made_between : Between 2 2 (made_of uses)
  made_between one has = let known = made_kept uses one has in let number_is = at_rule one.rule V2 (made_number one.rule known.1) in (omega (arith, number_is), omega (arith, number_is))

  others_between : Between 6 6 (others_of uses)
  others_between one has = let known = others_kept uses one has in let number_is = wire_number one.rule (of_use.sound one known.0).0 known.1 in (omega (arith, number_is), omega (arith, number_is))

  sends_between : Between 3 5 sends
  sends_between one has = send_number one.rule (of_send.sound one has).0

  loans_between : Between 7 8 loans
  loans_between one has = loan_number one.rule (of_loan.sound one has).0

  ascending : IsAscending (merged uses sends loans)
  ascending =
      let last = joined (others_of uses) loans 6 6 7 8 others_between loans_between (omega arith) (others_rise uses of_use.ascending) of_loan.ascending in
      let last_between = both_between (others_of uses) loans 6 6 7 8 others_between loans_between (omega arith) (omega arith) in
      let middle = joined sends _ 3 5 6 8 sends_between last_between (omega arith) of_send.ascending last in
      let middle_between = both_between sends _ 3 5 6 8 sends_between last_between (omega arith) (omega arith) in
      joined (made_of uses) _ 2 2 3 8 made_between middle_between (omega arith) (made_rises uses of_use.ascending) middle

pub merge : ListsMerge
merge p j body uses sends loans of_use of_send of_loan = record {
  sound = sound p j body uses sends loans of_use of_send of_loan;
  whole = whole p j body uses sends loans of_use of_send of_loan;
  ascending = ascending p j body uses sends loans of_use of_send of_loan;
}

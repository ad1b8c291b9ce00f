-- The order of violations by rule, first and second site: any two that differ are in order, and it goes on.
use Rattle.std.proofs.Common.{◌≡◌, ℕ, ◌<◌, ◌⊎◌, inl, inr, arith, refl, sym, ◌∙◌, ap, ◌==◌, if◌then◌else◌, nat_lt, ◌&&◌, ◌||◌, true, false}
use Rattle.std.proofs.lemmas.Bool.Decides.{nat_tests}
use Rattle.core_term.specs.declared.rules.Rule.{Rule}
use Rattle.core_term.specs.declared.rules.Rule.TheVariants.{V2, V3, V4, V5, V6, V7, V8}
use Rattle.core_term.specs.declared.rules.Violation.{Violation}
use Rattle.core_term.specs.Violations.{rule_number}
use Rattle.demand_checks.specs.Found.{ComesEarlier}
use Rattle.send_check.proofs.Truth.{and_first, and_second, and_fails, or_first, or_second, or_either, less_of, of_less}
use Rattle.timing_check.specs.Earlier.{is_earlier}

-- a rule is told by its number
rule_at : ℕ → Rule
rule_at n = if n == 2 then V2 else (if n == 3 then V3 else (if n == 4 then V4 else (if n == 5 then V5 else (if n == 6 then V6 else (if n == 7 then V7 else V8)))))

at_number : (rule : Rule) → rule_at (rule_number rule) ≡ rule
unfolding rule_at
at_number V2 = refl
at_number V3 = refl
at_number V4 = refl
at_number V5 = refl
at_number V6 = refl
at_number V7 = refl
at_number V8 = refl

pub same_rule : (one other : Rule) → rule_number one ≡ rule_number other → one ≡ other
same_rule one other is = sym (at_number one) ∙ (ap rule_at is ∙ at_number other)

-- the order on three numbers
abbrev Less : (n f s m g t : ℕ) → Type 0
Less n f s m g t = (n < m) ⊎ ((n ≡ m) × ((f < g) ⊎ ((f ≡ g) × (s < t))))

goes_on : (n f s m g t o h u : ℕ) → Less n f s m g t → Less m g t o h u → Less n f s o h u
goes_on n f s m g t o h u (inl one) (inl other) = inl (omega arith)
goes_on n f s m g t o h u (inl one) (inr other) = inl (let same = other.0 in omega arith)
goes_on n f s m g t o h u (inr one) (inl other) = inl (let same = one.0 in omega arith)
goes_on n f s m g t o h u (inr one) (inr other) = inr (one.0 ∙ other.0, both one.1 other.1)
  where
    both : (f < g) ⊎ ((f ≡ g) × (s < t)) → (g < h) ⊎ ((g ≡ h) × (t < u)) → (f < h) ⊎ ((f ≡ h) × (s < u))
    both (inl less) (inl more) = inl (omega arith)
    both (inl less) (inr same) = inl (let is = same.0 in omega arith)
    both (inr same) (inl more) = inl (let is = same.0 in omega arith)
    both (inr same) (inr also) = inr (same.0 ∙ also.0, let less = same.1 in let more = also.1 in omega arith)

to_less : (one other : Violation) → ComesEarlier one other → Less (rule_number one.rule) one.first one.second (rule_number other.rule) other.first other.second
to_less one other (inl less) = inl less
to_less one other (inr same) = inr (ap rule_number same.0, same.1)

of_less_key : (one other : Violation) → Less (rule_number one.rule) one.first one.second (rule_number other.rule) other.first other.second → ComesEarlier one other
of_less_key one other (inl less) = inl less
of_less_key one other (inr same) = inr (same_rule one.rule other.rule same.0, same.1)

pub earlier_on : (one other third : Violation) → ComesEarlier one other → ComesEarlier other third → ComesEarlier one third
earlier_on one other third first second =
    of_less_key one third (goes_on (rule_number one.rule) one.first one.second (rule_number other.rule) other.first other.second (rule_number third.rule) third.first third.second (to_less one other first) (to_less other third second))

same_number : (a b : ℕ) → (a == b) ≡ true → a ≡ b
same_number a b is = grind (arith, nat_tests)

number_same : (a b : ℕ) → a ≡ b → (a == b) ≡ true
number_same a b is = grind (arith, nat_tests)

pub earlier_told : (one other : Violation) → is_earlier one other ≡ true → ComesEarlier one other
earlier_told one other is =
    elim (or_either (nat_lt (rule_number one.rule) (rule_number other.rule)) _ is) [
      | inl less ↦ inl (less_of _ _ less)
      | inr same ↦
          inr (
            same_rule one.rule other.rule (same_number _ _ (and_first (rule_number one.rule == rule_number other.rule) _ same)),
            elim (or_either (nat_lt one.first other.first) _ (and_second (rule_number one.rule == rule_number other.rule) _ same)) [
              | inl less ↦ inl (less_of _ _ less)
              | inr also ↦ inr (same_number _ _ (and_first (one.first == other.first) _ also), less_of _ _ (and_second (one.first == other.first) _ also))
            ],
          )
    ]

three_ways : (a b : ℕ) → (a < b) ⊎ ((a ≡ b) ⊎ (b < a))
three_ways a b = grind arith

not_less : (a b : ℕ) → nat_lt a b ≡ false → a < b → ⊥
not_less a b is less = let yes : nat_lt a b ≡ true = of_less a b less in absurd cc

pub not_earlier : (one other : Violation) → is_earlier one other ≡ false → (other ≡ one) ⊎ ComesEarlier other one
not_earlier one other is = by_rule (three_ways (rule_number one.rule) (rule_number other.rule))
  where
    no_rule : nat_lt (rule_number one.rule) (rule_number other.rule) ≡ false
    no_rule = or_first (nat_lt (rule_number one.rule) (rule_number other.rule)) _ is

    rest : rule_number one.rule ≡ rule_number other.rule → (nat_lt one.first other.first || ((one.first == other.first) && nat_lt one.second other.second)) ≡ false
    rest same =
        and_fails (rule_number one.rule == rule_number other.rule) _ (number_same _ _ same) (or_second (nat_lt (rule_number one.rule) (rule_number other.rule)) _ is)

    by_second : one.rule ≡ other.rule → one.first ≡ other.first → nat_lt one.second other.second ≡ false → (one.second < other.second) ⊎ ((one.second ≡ other.second) ⊎ (other.second < one.second)) → (other ≡ one) ⊎ ComesEarlier other one
    by_second rule first differs (inl less) = absurd (not_less _ _ differs less)
    by_second rule first differs (inr (inl second)) =
        let same : record { rule = other.rule; first = other.first; second = other.second } ≡ record { rule = one.rule; first = one.first; second = one.second } = rw (rule, first, second) refl in
        inl same
    by_second rule first differs (inr (inr less)) = inr (inr (sym rule, inr (sym first, less)))

    by_first : rule_number one.rule ≡ rule_number other.rule → (one.first < other.first) ⊎ ((one.first ≡ other.first) ⊎ (other.first < one.first)) → (other ≡ one) ⊎ ComesEarlier other one
    by_first same (inl less) = absurd (not_less _ _ (or_first (nat_lt one.first other.first) _ (rest same)) less)
    by_first same (inr (inl first)) =
        by_second (same_rule one.rule other.rule same) first
        (and_fails (one.first == other.first) _ (number_same _ _ first) (or_second (nat_lt one.first other.first) _ (rest same))) (three_ways one.second other.second)
    by_first same (inr (inr less)) = inr (inr (sym (same_rule one.rule other.rule same), inl less))

    by_rule : (rule_number one.rule < rule_number other.rule) ⊎ ((rule_number one.rule ≡ rule_number other.rule) ⊎ (rule_number other.rule < rule_number one.rule)) → (other ≡ one) ⊎ ComesEarlier other one
    by_rule (inl less) = absurd (not_less _ _ no_rule less)
    by_rule (inr (inl same)) = by_first same (three_ways one.first other.first)
    by_rule (inr (inr less)) = inr (inl less)

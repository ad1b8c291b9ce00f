-- The first violation of a thread is the earliest of the firsts of the lists of its rules.
use Rattle.std.proofs.Common.{◌≡◌, ℕ, ◌⊎◌, inl, inr, refl, sym, ◌∙◌, subst, Bool, true, false, if◌then◌else◌, List, [], ◌∷◌, ◌++◌, Option, Some, None}
use Rattle.core_term.specs.declared.rules.Rule.{Rule}
use Rattle.core_term.specs.declared.rules.Rule.TheVariants.{V2, V3, V4, V5, V6, V7, V8}
use Rattle.core_term.specs.declared.rules.Violation.{Violation}
use Rattle.core_term.specs.Lists.{Has}
use Rattle.core_term.specs.Term.{Term}
use Rattle.core_term.specs.Process.{Process}
use Rattle.demand_checks.specs.Found.{Fails, AreViolations, ComesEarlier}
use Rattle.demand_checks.proofs.Listed.{has_either}
use Rattle.timing_check.specs.Earlier.{is_earlier, earliest, first_of}
use Rattle.timing_check.specs.OfThread.{violation, Keeps, IsFirst, IsFirstOf, IsFirstOfThread}
use Rattle.timing_check.proofs.Keys.{earlier_on, earlier_told, not_earlier}

module _ (p : Process) (j : ℕ) (body : Term) where
  -- of one list
  pub listed_first : (rules : List Rule) (violations : List Violation) → AreViolations p j body rules violations → IsFirstOf p j body rules (first_of violations)
  listed_first rules [] are = λ rule of first second claim demanded.
      elim (are.whole rule of first second claim demanded) [ inl holds ↦ holds | inr has ↦ elim has [ ] ]
  listed_first rules (one ∷ rest) are =
      record {
        fails = (are.sound one (inl refl)).1;
        first = λ rule of first second fails.
            elim (are.whole rule of first second fails.claim fails.demanded) [
              | inl holds ↦ absurd (fails.fails holds)
              | inr (inl same) ↦ inl same
              | inr (inr later) ↦ inr (are.ascending.0 (violation rule first second) later)
            ];
      }

  kept : (rules : List Rule) → Keeps p j body rules → (rule : Rule) → Has rules rule → (first second : ℕ) → Fails p j body rule first second → ⊥
  kept rules keeps rule of first second fails = fails.fails (keeps rule of first second fails.claim fails.demanded)

  -- of two, by which is earlier
  joined_some : (rules others : List Rule) (one other : Violation) → IsFirst p j body rules one → IsFirst p j body others other
      → (earlier : Bool) → is_earlier one other ≡ earlier → IsFirst p j body (rules ++ others) (if earlier then one else other)
  joined_some rules others one other first second true is =
      record {
        fails = first.fails;
        first = λ rule of q r fails.
            elim (has_either rules others rule of) [
              | inl here ↦ first.first rule here q r fails
              | inr there ↦
                  inr (elim (second.first rule there q r fails) [
                    | inl same ↦ (let After : Violation → Type 0 = λ v. ComesEarlier one v in subst After (sym same) (earlier_told one other is))
                    | inr later ↦ earlier_on one other (violation rule q r) (earlier_told one other is) later
                  ])
            ];
      }
  joined_some rules others one other first second false is =
      record {
        fails = second.fails;
        first = λ rule of q r fails.
            elim (has_either rules others rule of) [
              | inr there ↦ second.first rule there q r fails
              | inl here ↦ go rule q r (not_earlier one other is) (first.first rule here q r fails)
            ];
      }
    where
      go : (rule : Rule) (q r : ℕ) → (other ≡ one) ⊎ ComesEarlier other one → (violation rule q r ≡ one) ⊎ ComesEarlier one (violation rule q r) → (violation rule q r ≡ other) ⊎ ComesEarlier other (violation rule q r)
      go rule q r (inl same) (inl is_one) = inl (is_one ∙ sym same)
      go rule q r (inl same) (inr later) = inr (let Before : Violation → Type 0 = λ v. ComesEarlier v (violation rule q r) in subst Before (sym same) later)
      go rule q r (inr before) (inl is_one) = inr (let After : Violation → Type 0 = λ v. ComesEarlier other v in subst After (sym is_one) before)
      go rule q r (inr before) (inr later) = inr (earlier_on other one (violation rule q r) before later)

  pub joined : (rules others : List Rule) (one other : Option Violation) → IsFirstOf p j body rules one → IsFirstOf p j body others other → IsFirstOf p j body (rules ++ others) (earliest one other)
  joined rules others None None first second = λ rule of q r claim demanded.
      elim (has_either rules others rule of) [ inl here ↦ first rule here q r claim demanded | inr there ↦ second rule there q r claim demanded ]
  joined rules others None (Some other) first second =
      record {
        fails = second.fails;
        first = λ rule of q r fails. elim (has_either rules others rule of) [ inl here ↦ absurd (kept rules first rule here q r fails) | inr there ↦ second.first rule there q r fails ];
      }
  joined rules others (Some one) None first second =
      record {
        fails = first.fails;
        first = λ rule of q r fails. elim (has_either rules others rule of) [ inl here ↦ first.first rule here q r fails | inr there ↦ absurd (kept others second rule there q r fails) ];
      }
  joined rules others (Some one) (Some other) first second = joined_some rules others one other first second (is_earlier one other) refl

  each_rule : (rule : Rule) → Has (V2 ∷ V6 ∷ V3 ∷ V4 ∷ V5 ∷ V7 ∷ V8 ∷ []) rule
  each_rule V2 = inl refl
  each_rule V6 = inr (inl refl)
  each_rule V3 = inr (inr (inl refl))
  each_rule V4 = inr (inr (inr (inl refl)))
  each_rule V5 = inr (inr (inr (inr (inl refl))))
  each_rule V7 = inr (inr (inr (inr (inr (inl refl)))))
  each_rule V8 = inr (inr (inr (inr (inr (inr (inl refl))))))

  -- of all rules
  pub of_all : (first : Option Violation) → IsFirstOf p j body (V2 ∷ V6 ∷ V3 ∷ V4 ∷ V5 ∷ V7 ∷ V8 ∷ []) first → IsFirstOfThread p j body first
  of_all None keeps = λ rule first second claim demanded. keeps rule (each_rule rule) first second claim demanded
  of_all (Some one) is = record { fails = is.fails; first = λ rule first second fails. is.first rule (each_rule rule) first second fails }

-- Steps over the ends of a life, over plain variables.
use Rattle.std.proofs.Common.{◌≡◌, ℕ, ◌≤◌, arith, refl, sym, ◌∙◌, ap, List, [], ◌∷◌, ◌++◌, length, map, drop, zero, suc, Bool, true, false, ◌&&◌, Some, slice_get}
use Rattle.core_term.specs.Process.{LifeEnd, Port, nth_port}
use Rattle.core_term.specs.Rules.{Claim}
use Rattle.act_deeds.specs.declared.deed.Deed.{Deed}
use Rattle.demand_checks.specs.Answers.{Answers, all_shown, shows}
use Rattle.use_check.specs.Wires.{end_claims, ends_claims}

all_append : (answers : Answers) (these those : List Claim) → all_shown answers (these ++ those) ≡ (all_shown answers these && all_shown answers those)
all_append answers [] those = refl
all_append answers (claim ∷ these) those = go (shows answers claim) (all_append answers these those)
  where
    go : (b : Bool) → all_shown answers (these ++ those) ≡ (all_shown answers these && all_shown answers those)
        → (b && all_shown answers (these ++ those)) ≡ ((b && all_shown answers these) && all_shown answers those)
    go true deeper = deeper
    go false deeper = refl

next_end : {A : Type 0} (life : List A) (i : ℕ) (end : A) → slice_get life i ≡ Some end → drop i life ≡ end ∷ drop (suc i) life
next_end [] i end at = absurd cc
next_end (first ∷ life) zero end at = let known : first ≡ end = cc in ap (λ e. e ∷ life) known
next_end (first ∷ life) (suc i) end at = next_end life i end at

module _ (answers : Answers) (deeds : List Deed) (user site : ℕ) (life : List LifeEnd) (i : ℕ) (end : LifeEnd) (at : slice_get life i ≡ Some end) (whole : Bool)
    (before : all_shown answers (ends_claims deeds user site (drop i life)) ≡ whole) where
  split : (all_shown answers (end_claims deeds user site end) && all_shown answers (ends_claims deeds user site (drop (suc i) life))) ≡ whole
  split =
      sym (all_append answers (end_claims deeds user site end) (ends_claims deeds user site (drop (suc i) life)))
      ∙ (sym (ap (λ rest. all_shown answers (ends_claims deeds user site rest)) (next_end life i end at)) ∙ before)

  pub end_fails : all_shown answers (end_claims deeds user site end) ≡ false → false ≡ whole
  end_fails fails = sym (ap (λ b. b && all_shown answers (ends_claims deeds user site (drop (suc i) life))) fails) ∙ split

  pub end_passes : (later : ℕ) → later ≡ suc i → all_shown answers (end_claims deeds user site end) ≡ true → all_shown answers (ends_claims deeds user site (drop later life)) ≡ whole
  end_passes later is passes =
      ap (λ n. all_shown answers (ends_claims deeds user site (drop n life))) is
      ∙ (sym (ap (λ b. b && all_shown answers (ends_claims deeds user site (drop (suc i) life))) passes) ∙ split)

-- a number that is no port has a life without ends
pub no_life : {A : Type 0} (f : A → Port) (ports : List A) (m : ℕ) → length ports ≤ m → (nth_port (map f ports) m).life ≡ []
no_life f [] m large = refl
no_life f (port ∷ ports) zero large = absurd (omega (arith, large))
no_life f (port ∷ ports) (suc m) large = no_life f ports m (omega (arith, large))

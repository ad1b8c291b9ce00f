-- The longest front of characters that pass: it and what is after it make up the text, all of it passes, and what is after it
-- begins with no character that passes. A text that passes goes whole into the front of any text that it begins.
-- Each is an induction on the text, by whether its first character passes.
use Rattle.std.proofs.Common.{◌≡◌, ℕ, Bool, true, false, List, [], ◌∷◌, ◌++◌, refl, ap, ◌∙◌, inl, inr}
use Rattle.std.specs.List.{AllByRecursion}
use Rattle.std.proofs.lemmas.Bool.{cond-true, cond-false, cases_Bool}
use Rattle.anvil_lexer.specs.Characters.{begins_with}
use Rattle.anvil_lexer.specs.Scan.{front, after_front}

abbrev pub Passing : (ℕ → Bool) → List ℕ → Type 0
Passing passes = AllByRecursion (λ c. passes c ≡ true)

module _ (passes : ℕ → Bool) where
  pub front_more : (c : ℕ) (cs : List ℕ) → passes c ≡ true → front passes (c ∷ cs) ≡ c ∷ front passes cs
  front_more c cs e = cond-true (passes c) (c ∷ front passes cs) [] e

  front_none : (c : ℕ) (cs : List ℕ) → passes c ≡ false → front passes (c ∷ cs) ≡ []
  front_none c cs e = cond-false (passes c) (c ∷ front passes cs) [] e

  pub after_more : (c : ℕ) (cs : List ℕ) → passes c ≡ true → after_front passes (c ∷ cs) ≡ after_front passes cs
  after_more c cs e = cond-true (passes c) (after_front passes cs) (c ∷ cs) e

  pub after_none : (c : ℕ) (cs : List ℕ) → passes c ≡ false → after_front passes (c ∷ cs) ≡ c ∷ cs
  after_none c cs e = cond-false (passes c) (after_front passes cs) (c ∷ cs) e

  pub front_joined : (cs : List ℕ) → front passes cs ++ after_front passes cs ≡ cs
  front_joined [] = refl
  front_joined (c ∷ cs) =
      let before = front_joined cs in
      elim (cases_Bool (passes c)) [
        | inl passed ↦ rw (front_more c cs passed, after_more c cs passed) (ap (λ l. c ∷ l) before)
        | inr stopped ↦ rw (front_none c cs stopped, after_none c cs stopped) refl
      ]

  pub front_passes : (cs : List ℕ) → Passing passes (front passes cs)
  front_passes [] = tt
  front_passes (c ∷ cs) =
      let before = front_passes cs in
      elim (cases_Bool (passes c)) [
        | inl passed ↦ rw (front_more c cs passed) (passed, before)
        | inr stopped ↦ rw (front_none c cs stopped) tt
      ]

  pub front_stops : (cs : List ℕ) → begins_with passes (after_front passes cs) ≡ false
  front_stops [] = refl
  front_stops (c ∷ cs) =
      let before = front_stops cs in
      elim (cases_Bool (passes c)) [
        | inl passed ↦ rw (after_more c cs passed) before
        | inr stopped ↦ rw (after_none c cs stopped) stopped
      ]

  pub front_append : (xs ys : List ℕ) → Passing passes xs → front passes (xs ++ ys) ≡ xs ++ front passes ys
  front_append [] ys all = refl
  front_append (x ∷ xs) ys all = front_more x (xs ++ ys) all.0 ∙ ap (λ l. x ∷ l) (front_append xs ys all.1)

  pub after_front_append : (xs ys : List ℕ) → Passing passes xs → after_front passes (xs ++ ys) ≡ after_front passes ys
  after_front_append [] ys all = refl
  after_front_append (x ∷ xs) ys all = after_more x (xs ++ ys) all.0 ∙ after_front_append xs ys all.1

  pub front_stopped : (cs : List ℕ) → begins_with passes cs ≡ false → front passes cs ≡ []
  front_stopped [] e = refl
  front_stopped (c ∷ cs) e = front_none c cs e

  pub after_front_stopped : (cs : List ℕ) → begins_with passes cs ≡ false → after_front passes cs ≡ cs
  after_front_stopped [] e = refl
  after_front_stopped (c ∷ cs) e = after_none c cs e

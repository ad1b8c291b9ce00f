-- The first violation of a file heads each list of its violations.
use Rattle.std.proofs.Common.{◌≡◌, ℕ, ◌<◌, ◌⊎◌, inl, inr, arith, refl, sym, ap, List, [], ◌∷◌}
use Rattle.core_term.specs.Lists.{Has}
use Rattle.core_term.specs.Process.{Process}
use Rattle.core_term.specs.Violations.{Broken, ComesBefore, IsViolations, rule_number}
use Rattle.timing_check.specs.OfFile.{IsFirstBroken}

-- of five numbers, by one after the other
abbrev Less : (p j n f s q k m g t : ℕ) → Type 0
Less p j n f s q k m g t =
    (p < q) ⊎ ((p ≡ q) × ((j < k) ⊎ ((j ≡ k) × ((n < m) ⊎ ((n ≡ m) × ((f < g) ⊎ ((f ≡ g) × (s < t))))))))

not_both : (a b : ℕ) → a < b → b < a → ⊥
not_both a b less more = omega arith

not_same : (a b : ℕ) → a < b → b ≡ a → ⊥
not_same a b less same = omega arith

one_way : (p j n f s q k m g t : ℕ) → Less p j n f s q k m g t → Less q k m g t p j n f s → ⊥
one_way p j n f s q k m g t (inl one) (inl other) = not_both p q one other
one_way p j n f s q k m g t (inl one) (inr other) = not_same p q one other.0
one_way p j n f s q k m g t (inr one) (inl other) = not_same q p other one.0
one_way p j n f s q k m g t (inr one) (inr other) = threads one.1 other.1
  where
    sites : (f < g) ⊎ ((f ≡ g) × (s < t)) → (g < f) ⊎ ((g ≡ f) × (t < s)) → ⊥
    sites (inl less) (inl more) = not_both f g less more
    sites (inl less) (inr same) = not_same f g less same.0
    sites (inr same) (inl more) = not_same g f more same.0
    sites (inr same) (inr also) = not_both s t same.1 also.1

    rules : (n < m) ⊎ ((n ≡ m) × ((f < g) ⊎ ((f ≡ g) × (s < t)))) → (m < n) ⊎ ((m ≡ n) × ((g < f) ⊎ ((g ≡ f) × (t < s)))) → ⊥
    rules (inl less) (inl more) = not_both n m less more
    rules (inl less) (inr same) = not_same n m less same.0
    rules (inr same) (inl more) = not_same m n more same.0
    rules (inr same) (inr also) = sites same.1 also.1

    threads : (j < k) ⊎ ((j ≡ k) × ((n < m) ⊎ ((n ≡ m) × ((f < g) ⊎ ((f ≡ g) × (s < t)))))) → (k < j) ⊎ ((k ≡ j) × ((m < n) ⊎ ((m ≡ n) × ((g < f) ⊎ ((g ≡ f) × (t < s)))))) → ⊥
    threads (inl less) (inl more) = not_both j k less more
    threads (inl less) (inr same) = not_same j k less same.0
    threads (inr same) (inl more) = not_same k j more same.0
    threads (inr same) (inr also) = rules same.1 also.1

numbers : (v w : Broken) → ComesBefore v w → Less v.process v.thread (rule_number v.rule) v.first v.second w.process w.thread (rule_number w.rule) w.first w.second
numbers v w (inl less) = inl less
numbers v w (inr (same, inl less)) = inr (same, inl less)
numbers v w (inr (same, inr (thread, inl less))) = inr (same, inr (thread, inl less))
numbers v w (inr (same, inr (thread, inr (rule, rest)))) = inr (same, inr (thread, inr (ap rule_number rule, rest)))

pub never_back : (v w : Broken) → ComesBefore v w → ComesBefore w v → ⊥
never_back v w before after =
    one_way v.process v.thread (rule_number v.rule) v.first v.second w.process w.thread (rule_number w.rule) w.first w.second (numbers v w before) (numbers w v after)

same_record : (v : Broken) → record { process = v.process; thread = v.thread; rule = v.rule; first = v.first; second = v.second } ≡ v
same_record v = refl

pub first_heads : (file : List Process) (v : Broken) → IsFirstBroken file v → (list : List Broken) → IsViolations file list → (others : List Broken) × (list ≡ v ∷ others)
first_heads file v is list lists = go list lists (there list lists)
  where
    -- it stands in the list
    there : (list : List Broken) → IsViolations file list → Has list v
    there list lists =
        let broken = is.broken in
        elim (lists.whole v.process v.thread broken.process broken.thread broken.is_process broken.is_thread v.rule v.first v.second broken.claim broken.demanded) [
          | inl holds ↦ absurd (broken.fails holds)
          | inr has ↦ has
        ]

    go : (list : List Broken) → IsViolations file list → Has list v → (others : List Broken) × (list ≡ v ∷ others)
    go [] lists has = elim has [ ]
    go (first ∷ rest) lists (inl same) = (rest, ap (λ (w : Broken). w ∷ rest) (sym same))
    go (first ∷ rest) lists (inr later) =
        elim (is.first first (lists.sound first (inl refl))) [
          | inl same ↦ (rest, ap (λ (w : Broken). w ∷ rest) same)
          | inr after ↦ absurd (never_back v first after (lists.ascending.0 v later))
        ]

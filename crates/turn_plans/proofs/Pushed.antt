-- A list that grows item by item has at each place what is wanted there.
use Rattle.std.proofs.Common.{◌≡◌, ℕ, ◌+◌, ◌<◌, ◌≤◌, ◌⊎◌, inl, inr, arith, ◌∙◌, ap, List, [], ◌∷◌, ◌++◌, length, length-append, slice_index_or}
use Rattle.std.proofs.lemmas.List.{get_or_push, get_or_append_left}

pub count_push : {X : Type 0} (items new : List X) (x : X) (k : ℕ) → new ≡ items ++ x ∷ [] → length items ≡ k → length new ≡ k + 1
count_push items new x k is count = let more = length-append items (x ∷ []) in ap length is ∙ omega arith

pub push_at : {X Y : Type 0} (read : X → Y) (want : ℕ → Y) (d : X) (items new : List X) (k : ℕ) (x : X) → new ≡ items ++ x ∷ [] → length items ≡ k
    → ((n : ℕ) → n < k → read (slice_index_or items n d) ≡ want n) → read x ≡ want k
    → (n : ℕ) → n < k + 1 → read (slice_index_or new n d) ≡ want n
push_at read want d items new k x is count told here n inside = ap (λ list. read (slice_index_or list n d)) is ∙ go (less n k)
  where
    less : (p q : ℕ) → (p < q) ⊎ (q ≤ p)
    less p q = grind arith

    go : (n < k) ⊎ (k ≤ n) → read (slice_index_or (items ++ x ∷ []) n d) ≡ want n
    go (inl i) = ap read (get_or_append_left items (x ∷ []) d n (omega arith)) ∙ told n i
    go (inr i) =
        let same : k ≡ n = omega arith in
        ap read (get_or_push items x d n (omega arith)) ∙ (here ∙ ap want same)

-- Each site of a numbered body has an act: sites are numbered without a gap.
use Rattle.std.proofs.Common.{◌≡◌, ℕ, ◌+◌, ◌<◌, ◌≤◌, ◌⊎◌, inl, inr, arith, List, [], ◌∷◌}
use Rattle.std.proofs.lemmas.Bool.{cases_lt}
use Rattle.core_term.specs.Term.{Term, One, Then, Both, Act, Cycle, Set, Send, Recv, If, When, Block, Wait, Pure, Nothing, site, head}
use Rattle.core_term.specs.Numbering.{size, act_size, Numbered, NumberedAct}
use Rattle.core_term.specs.Stands.{Stands, StandsIn, here, in_one, in_then, after_then, in_both, after_both, in_yes, in_no, in_when, in_block}
use Rattle.core_term.specs.Acts.{IsAt}
use Rattle.core_term.proofs.code_tables.FirstSites.{act_site}

-- a term at its place, and what stands in it
abbrev Found : List Act → Term → ℕ → Type 0
Found vs t q = (ws : List Act) × (u : Term) × Stands vs t ws u × (site (head u) ≡ q)

abbrev FoundIn : List Act → Act → ℕ → Type 0
FoundIn vs a q = (ws : List Act) × (u : Term) × StandsIn vs a ws u × (site (head u) ≡ q)

mutual
  pub found_at : (vs : List Act) (low : ℕ) (t : Term) (q : ℕ) → Numbered vs low t → low ≤ q → q < low + size t → Found vs t q
  found_at vs low (One a) q n l m =
      with_inner (cases_lt low q) (λ k. let by_found_in = found_in vs low a q n k m in (by_found_in.0, by_found_in.1, in_one by_found_in.2, by_found_in.3))
    where
      with_inner : (low < q) ⊎ (q ≤ low) → (low < q → Found vs (One a) q) → Found vs (One a) q
      with_inner (inl k) inner = inner k
      with_inner (inr k) inner = (vs, One a, here, (let by_act_site = act_site vs low a n in omega (arith, by_act_site)))
  found_at vs low (Then a t) q n l m =
      chain (cases_lt low q) (cases_lt q (low + act_size a)) (λ k j. let next_by_found_in = found_in vs low a q n.0 k j in (next_by_found_in.0, next_by_found_in.1, in_then next_by_found_in.2, next_by_found_in.3))
      (λ j. let by_found_at = found_at (a ∷ vs) (low + act_size a) t q n.1 j (omega arith) in (by_found_at.0, by_found_at.1, after_then by_found_at.2, by_found_at.3))
    where
      chain : (low < q) ⊎ (q ≤ low) → (q < low + act_size a) ⊎ (low + act_size a ≤ q) → (low < q → q < low + act_size a → Found vs (Then a t) q)
          → (low + act_size a ≤ q → Found vs (Then a t) q) → Found vs (Then a t) q
      chain (inl k) (inl j) inner rest = inner k j
      chain (inr k) (inl j) inner rest = (vs, Then a t, here, (let next_by_act_site = act_site vs low a n.0 in omega (arith, next_by_act_site)))
      chain k (inr j) inner rest = rest j
  found_at vs low (Both a t) q n l m =
      chain (cases_lt low q) (cases_lt q (low + act_size a)) (λ k j. let last_by_found_in = found_in vs low a q n.0 k j in (last_by_found_in.0, last_by_found_in.1, in_both last_by_found_in.2, last_by_found_in.3))
      (λ j. let next_by_found_at = found_at (a ∷ vs) (low + act_size a) t q n.1 j (omega arith) in (next_by_found_at.0, next_by_found_at.1, after_both next_by_found_at.2, next_by_found_at.3))
    where
      chain : (low < q) ⊎ (q ≤ low) → (q < low + act_size a) ⊎ (low + act_size a ≤ q) → (low < q → q < low + act_size a → Found vs (Both a t) q)
          → (low + act_size a ≤ q → Found vs (Both a t) q) → Found vs (Both a t) q
      chain (inl k) (inl j) inner rest = inner k j
      chain (inr k) (inl j) inner rest = (vs, Both a t, here, (let by_act_site = act_site vs low a n.0 in omega (arith, by_act_site)))
      chain k (inr j) inner rest = rest j

  found_in : (vs : List Act) (low : ℕ) (a : Act) (q : ℕ) → NumberedAct vs low a → low < q → q < low + act_size a → FoundIn vs a q
  found_in vs low (If p e t u w) q n l m =
      sides (cases_lt q (low + (1 + size t))) (λ k. let by_found_at = found_at vs (low + 1) t q n.1 (omega arith) (omega arith) in (by_found_at.0, by_found_at.1, in_yes by_found_at.2, by_found_at.3))
      (λ k. let last_by_found_at = found_at vs (low + (1 + size t)) u q n.2 k (omega arith) in (last_by_found_at.0, last_by_found_at.1, in_no last_by_found_at.2, last_by_found_at.3))
    where
      sides : (q < low + (1 + size t)) ⊎ (low + (1 + size t) ≤ q) → (q < low + (1 + size t) → FoundIn vs (If p e t u w) q)
          → (low + (1 + size t) ≤ q → FoundIn vs (If p e t u w) q) → FoundIn vs (If p e t u w) q
      sides (inl k) first second = first k
      sides (inr k) first second = second k
  found_in vs low (When p e t) q n l m = let other_by_found_at = found_at vs (low + 1) t q n.1 (omega arith) (omega arith) in (other_by_found_at.0, other_by_found_at.1, in_when other_by_found_at.2, other_by_found_at.3)
  found_in vs low (Block p t) q n l m = let next_by_found_at = found_at vs (low + 1) t q n.1 (omega arith) (omega arith) in (next_by_found_at.0, next_by_found_at.1, in_block next_by_found_at.2, next_by_found_at.3)
  found_in vs low (Cycle p c) q n l m = absurd (omega arith)
  found_in vs low (Set p r e) q n l m = absurd (omega arith)
  found_in vs low (Send p c e) q n l m = absurd (omega arith)
  found_in vs low (Recv p c) q n l m = absurd (omega arith)
  found_in vs low (Wait p y) q n l m = absurd (omega arith)
  found_in vs low (Pure p e) q n l m = absurd (omega arith)
  found_in vs low (Nothing p) q n l m = absurd (omega arith)

pub each_site : (body : Term) → Numbered [] 0 body → (q : ℕ) → q < size body → IsAt body q
each_site body numbered q short = let more_by_found_at = found_at [] 0 body q numbered (omega arith) (omega arith) in record { scope = more_by_found_at.0; term = more_by_found_at.1; stands = more_by_found_at.2; is_site = more_by_found_at.3 }

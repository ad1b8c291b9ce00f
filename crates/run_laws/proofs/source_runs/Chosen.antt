-- How each `if` of a source run decided, told by its site and cycle alone: no site begins twice in one cycle, since a
-- tail-stepped turn takes at least a cycle.
use Rattle.std.proofs.Common.{◌≡◌, ℕ, ◌+◌, ◌<◌, ◌≤◌, arith, refl, sym, ◌∙◌, ap, subst, [], Bool, true, false, if◌then◌else◌, ◌==◌, nat_lt, zero, suc, Option, Some, None}
use Rattle.std.proofs.lemmas.Bool.Decides.{nat_tests}
use Rattle.core_term.specs.Term.{Expr, Term, Act, Cycle, Set, Send, Recv, If, When, Block, Wait, Pure, Nothing, head}
use Rattle.core_term.specs.Value.{Outcome, value}
use Rattle.core_term.specs.Inputs.{Inputs}
use Rattle.core_term.specs.Ends.{Sees, sees}
use Rattle.core_term.specs.Fate.{Fate, Waits, Lost, Runs}
use Rattle.core_term.specs.Occurs.{begin_at}
use Rattle.core_term.specs.Numbering.{Numbered}
use Rattle.core_term.specs.Turns.{begins, run_of}
use Rattle.core_term.specs.Tail.{IsTail}
use Rattle.core_term.specs.Acts.{Asks}
use Rattle.core_term.specs.History.{greatest, or_else}
use Rattle.core_term.specs.Log.{Begun}
use Rattle.run_laws.proofs.turn_points.Placed.{some_start, begin_since, Turns, same, next, past, turns}
use Rattle.run_laws.proofs.source_runs.Offers.{turn_by}
use Rattle.run_laws.proofs.rereading.Decide.{strictly}

pub greatest_only : {A : Type 0} (f : ℕ → Option A) (n i : ℕ) (a : A) → i < n → f i ≡ Some a → ((j : ℕ) (b : A) → f j ≡ Some b → j ≡ i) → greatest f n ≡ Some a
greatest_only f zero i a l k g = absurd (omega arith)
greatest_only f (suc n) i a l k g = go (f n) refl (λ m. greatest_only f n i a m k g)
  where
    go : (o : Option _) → f n ≡ o → (i < n → greatest f n ≡ Some a) → or_else o (greatest f n) ≡ Some a
    go None e r = at (nat_lt i n) refl
      where
        at : (b : Bool) → nat_lt i n ≡ b → greatest f n ≡ Some a
        at true z = let is_less : i < n = grind (arith, nat_tests) in r is_less
        at false z = let at_most : n ≤ i = grind (arith, nat_tests) in let equal : n ≡ i = omega arith in let none_is_some : None ≡ Some a = sym e ∙ (ap f equal ∙ k) in absurd cc
    go (Some b) e r = let same_turn : n ≡ i = g n b e in sym e ∙ (ap f same_turn ∙ k)

-- two turns that begin the same place in the same cycle are one
pub one_turn : (inputs : Inputs) (body : Term) (numbered : Numbered [] 0 body) → IsTail body → (g : Sees) (i j q : ℕ) (scope scope' : ℕ → Outcome) (s : ℕ) (u u' : Term) → run_of inputs g body i q ≡ Runs scope s u → run_of inputs g body j q ≡ Runs scope' s u' → i ≡ j
one_turn inputs body numbered tail g i j q scope scope' s u u' e e' = go (turns inputs g body numbered i j)
  where
    late : (a b k : ℕ) (scope scope' : ℕ → Outcome) (u u' : Term) → b ≡ suc (k + a) → run_of inputs g body a q ≡ Runs scope s u → run_of inputs g body b q ≡ Runs scope' s u' → ⊥
    late a b k scope scope' u u' z e e' =
        let start = some_start inputs g body numbered (begins inputs g body b) q scope' s u' e' in
        let Statement : ℕ → Type 0 = λ n. begins inputs g body n ≡ Some start.0 in
        let before = strictly inputs body numbered tail g a k q scope s u e start.0 (subst Statement z start.1) in
        let since = begin_since inputs g body numbered (begins inputs g body b) start.0 q s start.1 (ap begin_at e') in omega arith

    go : Turns inputs g body numbered i j → i ≡ j
    go (same z) = z
    go (next k z) = absurd (late i j k scope scope' u u' z e e')
    go (past k z) = absurd (late j i k scope' scope u' u z e' e)

module _ (inputs : Inputs) (registers : ℕ → ℕ → ℕ) (body : Term) (numbered : Numbered [] 0 body) (tail : IsTail body) where
  chosen_act : (ℕ → Outcome) → ℕ → Act → Option Bool
  chosen_act scope s (If p e t u w) = Some ((value registers scope s e).number == 1)
  chosen_act scope s (When p e t) = Some ((value registers scope s e).number == 1)
  chosen_act scope s a = None

  chosen_at : ℕ → Fate → Option Bool
  chosen_at s Waits = None
  chosen_at s Lost = None
  chosen_at s (Runs scope b u) = if b == s then chosen_act scope s (head u) else None

  get_bool : Option Bool → Bool
  get_bool None = false
  get_bool (Some b) = b

  pub chose : ℕ → ℕ → Bool
  chose q s = get_bool (greatest (λ i. chosen_at s (run_of inputs (sees registers) body i q)) (s + 1))

  chosen_is : (scope : ℕ → Outcome) (s : ℕ) (a : Act) (f : Expr) → Asks a f → chosen_act scope s a ≡ Some ((value registers scope s f).number == 1)
  unfolding chosen_act
  chosen_is scope s (If p e t u w) f k = ap (λ z. Some ((value registers scope s z).number == 1)) k
  chosen_is scope s (When p e t) f k = ap (λ z. Some ((value registers scope s z).number == 1)) k
  chosen_is scope s (Cycle p n) f k = elim k [ ]
  chosen_is scope s (Set p r e) f k = elim k [ ]
  chosen_is scope s (Send p m e) f k = elim k [ ]
  chosen_is scope s (Recv p m) f k = elim k [ ]
  chosen_is scope s (Block p t) f k = elim k [ ]
  chosen_is scope s (Wait p y) f k = elim k [ ]
  chosen_is scope s (Pure p e) f k = elim k [ ]
  chosen_is scope s (Nothing p) f k = elim k [ ]

  -- what is chosen at s runs at s
  runs_at : (s : ℕ) (w : Fate) (b : Bool) → chosen_at s w ≡ Some b → (scope : ℕ → Outcome) × (u : Term) × (w ≡ Runs scope s u)
  unfolding chosen_at
  runs_at s Waits b k = absurd cc
  runs_at s Lost b k = absurd cc
  runs_at s (Runs scope a u) b k = go (a == s) refl k
    where
      go : (c : Bool) → (a == s) ≡ c → (if c then chosen_act scope s (head u) else None) ≡ Some b → (scope' : ℕ → Outcome) × (u' : Term) × (Runs scope a u ≡ Runs scope' s u')
      go true e i = let same_begin : a ≡ s = grind (arith, nat_tests) in (scope, u, ap (λ n. Runs scope n u) same_begin)
      go false e i = absurd cc

  pub chose_is : (i q : ℕ) (scope : ℕ → Outcome) (s : ℕ) (u : Term) (f : Expr) → run_of inputs (sees registers) body i q ≡ Runs scope s u → Asks (head u) f → (value registers scope s f).number == 1 ≡ chose q s
  unfolding chose chosen_at get_bool
  chose_is i q scope s u f e k =
      let begun : Begun inputs registers body i q = record { scope = scope; begin = s; term = u; runs = e } in
      let by_then : i ≤ s = turn_by inputs registers body numbered tail i q begun in
      let same : (s == s) ≡ true = grind (arith, nat_tests) in
      let here : chosen_at s (Runs scope s u) ≡ Some ((value registers scope s f).number == 1) = ap (λ c. if c then chosen_act scope s (head u) else None) same ∙ chosen_is scope s (head u) f k in
      let is_greatest : greatest (λ i. chosen_at s (run_of inputs (sees registers) body i q)) (s + 1) ≡ Some ((value registers scope s f).number == 1) =
      greatest_only (λ i. chosen_at s (run_of inputs (sees registers) body i q)) (s + 1) i ((value registers scope s f).number == 1) (omega arith) (ap (chosen_at s) e ∙ here)
      (λ j c o. let at_begin = runs_at s (run_of inputs (sees registers) body j q) c o in one_turn inputs body numbered tail (sees registers) j i q at_begin.0 scope s at_begin.1 u at_begin.2 e) in
      sym (ap get_bool is_greatest)

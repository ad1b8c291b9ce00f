-- Acts of other turns than the present one do nothing in a cycle: of an earlier turn each act has begun, and each act on a port has
-- ended, before it; and in a later turn no act begins by it.
use Rattle.std.proofs.Common.{◌≡◌, ℕ, ◌+◌, ◌-◌, ◌<◌, ◌≤◌, arith, refl, sym, ◌∙◌, ap, subst, List, [], Bool, true, false, if◌then◌else◌, ◌==◌, ◌&&◌, nat_lt, nat_le, zero, suc, Option, Some, None}
use Rattle.std.proofs.lemmas.Bool.Decides.{nat_tests}
use Rattle.core_term.specs.Inputs.{Inputs}
use Rattle.core_term.specs.Term.{Term, Act, Cycle, Set, Send, Recv, If, When, Block, Wait, Pure, Nothing, head}
use Rattle.core_term.specs.Numbering.{Numbered}
use Rattle.core_term.specs.Tail.{IsTail}
use Rattle.core_term.specs.Value.{Outcome, Open, Done, value}
use Rattle.core_term.specs.Ends.{sees, act_ends}
use Rattle.core_term.specs.Fate.{Fate, Waits, Lost, Runs}
use Rattle.core_term.specs.Turns.{begins, run_of}
use Rattle.core_term.specs.Acts.{OnPort}
use Rattle.core_term.specs.Occurs.{At, of_outcome, begin_at, end_at}
use Rattle.core_term.specs.History.{or_else, greatest, set_by, set_at}
use Rattle.core_term.specs.Outputs.{on_port, pending, Offer, offered_by}
use Rattle.run_laws.proofs.turn_points.Order.{later_turn}
use Rattle.run_laws.proofs.turn_points.Placed.{some_start, turn_end, begin_since}
use Rattle.run_laws.proofs.turn_points.TurnTails.{tailed}
use Rattle.sim_laws.specs.declared.act_state.ActState.{ActState}
use Rattle.sim_laws.specs.Present.{value_by, PresentTurn}

greatest_none : {A : Type 0} (f : ℕ → Option A) (k : ℕ) → ((j : ℕ) → j < k → f j ≡ None) → greatest f k ≡ None
greatest_none f zero none = refl
greatest_none f (suc k) none = rw (none k (omega arith)) (greatest_none f k (λ j l. none j (omega arith)))

or_none : {A : Type 0} (o : Option A) → or_else o None ≡ o
or_none None = refl
or_none (Some a) = refl

pub greatest_only : {A : Type 0} (f : ℕ → Option A) (k i : ℕ) → i < k → ((j : ℕ) → (j ≡ i → ⊥) → f j ≡ None) → greatest f k ≡ f i
greatest_only f zero i l none = absurd (omega arith)
greatest_only f (suc k) i l none = go (k == i) refl (λ m. greatest_only f k i m none)
  where
    go : (b : Bool) → (k == i) ≡ b → (i < k → greatest f k ≡ f i) → or_else (f k) (greatest f k) ≡ f i
    go true e next =
        let z : k ≡ i = grind (arith, nat_tests) in
        rw (greatest_none f k (λ j m. none j (λ q. omega arith)), z) (or_none (f i))
    go false e next =
        let z : k ≡ i → ⊥ = λ q. let y : (k == i) ≡ true = grind (arith, nat_tests) in let x : true ≡ false = sym y ∙ e in cc in
        let m : i < k = other_less k i l z in
        rw (none k z) (next m)
      where
        other_less : (k i : ℕ) → i < suc k → (k ≡ i → ⊥) → i < k
        other_less k i l z = omega arith

-- an act that does nothing in the cycle n: it begins later, or it has begun before and, if it is on a port, has ended before
data Away (n : ℕ) (b : ℕ) (o : Outcome) (a : Act) : Type 0 where
  late : n < b → Away n b o a
  gone : b < n → ((m : ℕ) → OnPort a m → (c : ℕ) × (of_outcome o ≡ At c) × (c < n)) → Away n b o a

-- one number is before another one, or after it, by how much
data Apart (j i : ℕ) : Type 0 where
  before : (k : ℕ) → i ≡ suc (k + j) → Apart j i
  after : (k : ℕ) → j ≡ suc (k + i) → Apart j i

apart : (j i : ℕ) → (j ≡ i → ⊥) → Apart j i
apart j i other = go (nat_lt j i) refl
  where
    go : (b : Bool) → nat_lt j i ≡ b → Apart j i
    go true e = let z : j < i = grind (arith, nat_tests) in before (i - j - 1) (omega arith)
    go false e = let z : i ≤ j = grind (arith, nat_tests) in let y : i < j = omega (arith, other) in after (j - i - 1) (omega arith)

ends_after : (n e : ℕ) (o : Outcome) → value_by n o ≡ None → of_outcome o ≡ At e → n < e
ends_after n e Open k l = cc
ends_after n e (Done c v) k l = go (nat_le c n) refl k
  where
    go : (b : Bool) → nat_le c n ≡ b → (if b then Some v.number else None) ≡ None → n < e
    go true f g = absurd cc
    go false f g = let z : n < c = grind (arith, nat_tests) in let y : c ≡ e = cc in omega arith

module _ (n : ℕ) (history : ℕ → ℕ → ℕ) where
  pub not_set : (r : ℕ) (scope : ℕ → Outcome) (b : ℕ) (a : Act) → (b ≡ n → ⊥) → set_by history r n scope b a ≡ None
  not_set r scope b (Set p q e) w = go (q == r)
    where
      go : (c : Bool) → (if c && (b == n) then Some (value history scope b e).number else None) ≡ None
      go false = refl
      go true = other (b == n) refl
        where
          other : (c : Bool) → (b == n) ≡ c → (if c then Some (value history scope b e).number else None) ≡ None
          other false i = refl
          other true i = let z : b ≡ n = grind (arith, nat_tests) in absurd (w z)
  not_set r scope b (Send p k e) w = refl
  not_set r scope b (Recv p k) w = refl
  not_set r scope b (Cycle p k) w = refl
  not_set r scope b (If p e t u d) w = refl
  not_set r scope b (When p e t) w = refl
  not_set r scope b (Block p t) w = refl
  not_set r scope b (Wait p y) w = refl
  not_set r scope b (Pure p e) w = refl
  not_set r scope b (Nothing p) w = refl

module _ (n : ℕ) (inputs : Inputs) (history : ℕ → ℕ → ℕ) (body : Term) (numbered : Numbered [] 0 body) (tail : IsTail body) (acts : List ActState) (present : PresentTurn n inputs history body acts) where
  away : (j q : ℕ) (scope : ℕ → Outcome) (b : ℕ) (u : Term) → (j ≡ present.turn → ⊥) → run_of inputs (sees history) body j q ≡ Runs scope b u → Away n b (act_ends inputs (sees history) scope b (head u)) (head u)
  away j q scope b u other runs = go (apart j present.turn other)
    where
      go : Apart j present.turn → Away n b (act_ends inputs (sees history) scope b (head u)) (head u)
      go (before k e) =
          let i : begins inputs (sees history) body (suc (k + j)) ≡ Some present.start = subst (λ z. begins inputs (sees history) body z ≡ Some present.start) e present.begin_is in
          let z = later_turn inputs (sees history) body numbered j k present.start i in
          let y = tailed inputs (sees history) body numbered tail j z.0 z.2 q scope b u runs in
          let w = present.since in
          gone (omega (arith, y.0, z.1)) (λ m on.
          let c = y.1.0 in
          let ends_at : of_outcome (act_ends inputs (sees history) scope b (head u)) ≡ At c = sym (ap (λ w. end_at inputs (sees history) w) runs) ∙ y.1.1 in
          let less : c < z.0 = y.1.3 m on in
          (c, ends_at, omega (arith, z.1)))
      go (after k e) =
          let s = some_start inputs (sees history) body numbered (begins inputs (sees history) body j) q scope b u runs in
          let i : begins inputs (sees history) body (suc (k + present.turn)) ≡ Some s.0 = subst (λ z. begins inputs (sees history) body z ≡ Some s.0) e s.1 in
          let z = later_turn inputs (sees history) body numbered present.turn k s.0 i in
          let y = turn_end inputs (sees history) body numbered (begins inputs (sees history) body present.turn) present.start z.0 present.begin_is z.2 in
          let x : n < z.0 = ends_after n z.0 _ present.open_by y in
          let w : s.0 ≤ b = begin_since inputs (sees history) body numbered (begins inputs (sees history) body j) s.0 q b s.1 (ap begin_at runs) in
          late (omega (arith, z.1))

  away_pending : (b : ℕ) (o : Outcome) (a : Act) (m : ℕ) → Away n b o a → OnPort a m → pending n b o ≡ false
  away_pending b Open a m (late l) on = grind (arith, nat_tests)
  away_pending b (Done c v) a m (late l) on = let z : nat_le b n ≡ false = grind (arith, nat_tests) in rw z refl
  away_pending b Open a m (gone l k) on = let z = (k m on).1 in cc
  away_pending b (Done c v) a m (gone l k) on =
      let y = k m on in
      let z : c ≡ y.0 = let e = y.1 in cc in
      let x : c < n = omega (arith, y.2) in
      let w : nat_le n c ≡ false = grind (arith, nat_tests) in
      rw w (and_false (nat_le b n))
    where
      and_false : (d : Bool) → (d && false) ≡ false
      and_false true = refl
      and_false false = refl

  away_begin : (b : ℕ) (o : Outcome) (a : Act) → Away n b o a → b ≡ n → ⊥
  away_begin b o a (late l) e = omega arith
  away_begin b o a (gone l k) e = omega arith

  not_offered : (m : ℕ) (scope : ℕ → Outcome) (b : ℕ) (a : Act) → Away n b (act_ends inputs (sees history) scope b a) a
      → let offer : Offer = record { scope = scope; begin = b; act = a } in (if on_port m a && pending n b (act_ends inputs (sees history) scope b a) then Some offer else None) ≡ None
  not_offered m scope b (Send p k e) w = go (k == m) refl
    where
      go : (c : Bool) → (k == m) ≡ c → let offer : Offer = record { scope = scope; begin = b; act = Send p k e } in (if c && pending n b (act_ends inputs (sees history) scope b (Send p k e)) then Some offer else None) ≡ None
      go false i = refl
      go true i = let z : k ≡ m = grind (arith, nat_tests) in rw (away_pending b _ (Send p k e) m w z) refl
  not_offered m scope b (Recv p k) w = go (k == m) refl
    where
      go : (c : Bool) → (k == m) ≡ c → let offer : Offer = record { scope = scope; begin = b; act = Recv p k } in (if c && pending n b (act_ends inputs (sees history) scope b (Recv p k)) then Some offer else None) ≡ None
      go false i = refl
      go true i = let z : k ≡ m = grind (arith, nat_tests) in rw (away_pending b _ (Recv p k) m w z) refl
  not_offered m scope b (Cycle p k) w = refl
  not_offered m scope b (Set p r e) w = refl
  not_offered m scope b (If p e t u d) w = refl
  not_offered m scope b (When p e t) w = refl
  not_offered m scope b (Block p t) w = refl
  not_offered m scope b (Wait p y) w = refl
  not_offered m scope b (Pure p e) w = refl
  not_offered m scope b (Nothing p) w = refl

  -- no act of another turn is offered
  pub other_offers : (m j q : ℕ) → (j ≡ present.turn → ⊥) → offered_by inputs history m n (run_of inputs (sees history) body j q) ≡ None
  other_offers m j q other = go (run_of inputs (sees history) body j q) refl
    where
      go : (w : Fate) → run_of inputs (sees history) body j q ≡ w → offered_by inputs history m n w ≡ None
      go Waits e = refl
      go Lost e = refl
      go (Runs scope b u) e = not_offered m scope b (head u) (away j q scope b u other e)

  -- no act of another turn sets a register
  pub other_sets : (r j q : ℕ) → (j ≡ present.turn → ⊥) → set_at history r n (run_of inputs (sees history) body j q) ≡ None
  other_sets r j q other = go (run_of inputs (sees history) body j q) refl
    where
      go : (w : Fate) → run_of inputs (sees history) body j q ≡ w → set_at history r n w ≡ None
      go Waits e = refl
      go Lost e = refl
      go (Runs scope b u) e = not_set n history r scope b (head u) (away_begin b _ (head u) (away j q scope b u other e))

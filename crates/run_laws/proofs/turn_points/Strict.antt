-- In a turn of a tail-stepped body that ends at e, each act begins before e, and each `send` and `recv` ends before e.
--
-- A tail takes at least a cycle from any of its begins. So what stands before the tail of a chain has ended before e, and what
-- stands in the tail is no `send` or `recv`. The hard case is a tail of two parts that begin together, of which each has to
-- take time.
use Rattle.std.proofs.Common.{◌≡◌, ℕ, ◌+◌, ◌<◌, ◌≤◌, arith, refl, sym, ◌∙◌, ap, subst, List, ◌∷◌, Bool, true, false, if◌then◌else◌, nat_lt, max}
use Rattle.std.proofs.lemmas.Bool.Decides.{nat_tests}
use Rattle.core_term.specs.Term.{Term, One, Then, Both, Act, Cycle, Set, Send, Recv, If, When, Block, Wait, Pure, Nothing, site, head}
use Rattle.core_term.specs.Value.{Outcome, Done}
use Rattle.core_term.specs.Inputs.{Inputs}
use Rattle.core_term.specs.Ends.{Sees, bind, ends, act_ends}
use Rattle.core_term.specs.Fate.{Fate, Waits, Lost, Runs, fate, inside}
use Rattle.core_term.specs.Occurs.{At, of_outcome}
use Rattle.core_term.specs.Numbering.{size, act_size, Numbered, NumberedAct}
use Rattle.core_term.specs.Tail.{IsTail, IsTailAct}
use Rattle.run_laws.proofs.turn_points.Live.{Agrees}
use Rattle.run_laws.proofs.turn_points.Parts.{one_inner, then_inner, both_inner, both_rest, if_yes_is, if_no_is, block_in, runs_here}
use Rattle.run_laws.proofs.turn_points.Order.{act_from}
use Rattle.run_laws.proofs.turn_points.Tails.{IsTalk, Ended, EndedIn, act_ended, chain_parts, both_parts, decided_part, then_rest_is}

module _ (inputs : Inputs) (view : Sees) where
  mutual
    pub takes : (scope : ℕ → Outcome) (s : ℕ) (u : Term) (e : ℕ) → IsTail u → of_outcome (ends inputs view scope s u) ≡ At e → s < e
    takes scope s (One a) e k q = act_takes scope s a e k q
    takes scope s (Then a u) e k q =
        let by_chain_parts = chain_parts inputs view (λ q. Waits) (act_ends inputs view scope s a) (λ c v. ends inputs view (bind scope (site a) (Done c v)) c u) e q in
        let at_most : s ≤ by_chain_parts.0 = act_from inputs view scope s a by_chain_parts.0 (ap of_outcome by_chain_parts.2) in
        let is_less : by_chain_parts.0 < e = takes (bind scope (site a) (Done by_chain_parts.0 by_chain_parts.1)) by_chain_parts.0 u e k by_chain_parts.4 in
        omega arith
    takes scope s (Both a u) e k q =
        let by_both_parts = both_parts inputs view (λ q. Waits) (act_ends inputs view scope s a) (ends inputs view (bind scope (site a) (act_ends inputs view scope s a)) s u) e q in
        let next_is_less : s < by_both_parts.0 = act_takes scope s a by_both_parts.0 k.0 by_both_parts.2 in
        let equal : max by_both_parts.0 by_both_parts.1 ≡ e = by_both_parts.4 in
        omega arith

    pub act_takes : (scope : ℕ → Outcome) (s : ℕ) (a : Act) (e : ℕ) → IsTailAct a → of_outcome (act_ends inputs view scope s a) ≡ At e → s < e
    act_takes scope s (Cycle p n) e k q = let next_equal : s + n ≡ e = cc in omega arith
    act_takes scope s (Set p r f) e k q = let last_equal : s + 1 ≡ e = cc in omega arith
    act_takes scope s (If p f u v w) e k q = go (view.decide p s scope f) (decided_part inputs view (λ q. Waits) w p s _ e q) (takes scope s u e k.0) (takes scope s v e k.1)
      where
        go : (b : Bool) → of_outcome (if b then ends inputs view scope s u else ends inputs view scope s v) ≡ At e → (of_outcome (ends inputs view scope s u) ≡ At e → s < e) → (of_outcome (ends inputs view scope s v) ≡ At e → s < e) → s < e
        go true q i j = i q
        go false q i j = j q
    act_takes scope s (Block p u) e k q = takes scope s u e k q
    act_takes scope s (Send p m f) e k q = elim k [ ]
    act_takes scope s (Recv p m) e k q = elim k [ ]
    act_takes scope s (When p f u) e k q = elim k [ ]
    act_takes scope s (Wait p y) e k q = elim k [ ]
    act_takes scope s (Pure p f) e k q = elim k [ ]
    act_takes scope s (Nothing p) e k q = elim k [ ]

module _ (inputs : Inputs) (view : Sees) (run : ℕ → Fate) where
  abbrev pub EarlyIn : Fate → ℕ → Type 0
  EarlyIn Waits e = Unit {0}
  EarlyIn Lost e = Unit {0}
  EarlyIn (Runs scope s u) e = (s < e) × (IsTalk (head u) → (c : ℕ) → of_outcome (act_ends inputs view scope s (head u)) ≡ At c → c < e)

  pub record Early (q e : ℕ) : Type 0 where
    pub is : EarlyIn (run q) e

  early_as : (w : Fate) (q e : ℕ) → run q ≡ w → EarlyIn w e → Early q e
  early_as w q e k l = let the_early_in : EarlyIn (run q) e = rw k l in record { is = the_early_in }

  up_in : (w : Fate) (e e' : ℕ) → e ≤ e' → EarlyIn w e → EarlyIn w e'
  up_in Waits e e' l k = tt
  up_in Lost e e' l k = tt
  up_in (Runs scope s u) e e' l k = (omega (arith, k.0), λ t c q. let part = k.1 t c q in omega arith)

  up : {q e : ℕ} (e' : ℕ) → e ≤ e' → Early q e → Early q e'
  up e' l k = record { is = up_in _ _ e' l k.is }

  of_ended : (w : Fate) (e e' f : ℕ) → e < e' → EndedIn inputs view run w e f → EarlyIn w e'
  of_ended Waits e e' f l k = tt
  of_ended Lost e e' f l k = tt
  of_ended (Runs scope s u) e e' f l k =
      let by_act_from = act_from inputs view scope s (head u) k.0 k.1 in
      (omega (arith, k.2), λ t c q. let equal : At k.0 ≡ At c = sym k.1 ∙ q in let next_equal : k.0 ≡ c = cc in omega (arith, k.2))

  from_ended : {q e f : ℕ} (e' : ℕ) → e < e' → Ended inputs view run q e f → Early q e'
  from_ended {e = e} {f = f} e' l k = record { is = of_ended _ e e' f l k.is }

  abbrev Each : ℕ → ℕ → ℕ → Type 0
  Each low high e = (q : ℕ) → low ≤ q → q < high → Early q e

  joined : (low mid high e : ℕ) → Each low mid e → Each mid high e → Each low high e
  joined low mid high e u v q l m = go (nat_lt q mid) refl
    where
      go : (b : Bool) → nat_lt q mid ≡ b → Early q e
      go true k = let is_less : q < mid = grind (arith, nat_tests) in u q l is_less
      go false k = let at_most : mid ≤ q = grind (arith, nat_tests) in v q at_most m

  first_one : (low high e : ℕ) → Early low e → Each (low + 1) high e → Each low high e
  first_one low high e u v q l m = go (nat_lt low q) refl
    where
      go : (b : Bool) → nat_lt low q ≡ b → Early q e
      go true k = let next_is_less : low < q = grind (arith, nat_tests) in v q (omega arith) m
      go false k = let next_at_most : q ≤ low = grind (arith, nat_tests) in let w' : low ≡ q = omega arith in subst (λ z. Early z e) w' u

  -- a body's last act, which takes time, is no send or recv
  not_talk : (a : Act) → IsTailAct a → IsTalk a → ⊥
  not_talk (Send p m f) k t = elim k [ ]
  not_talk (Recv p m) k t = elim k [ ]
  not_talk (Cycle p n) k t = elim t [ ]
  not_talk (Set p r f) k t = elim t [ ]
  not_talk (If p f u v w) k t = elim t [ ]
  not_talk (When p f u) k t = elim t [ ]
  not_talk (Block p u) k t = elim t [ ]
  not_talk (Wait p y) k t = elim t [ ]
  not_talk (Pure p f) k t = elim t [ ]
  not_talk (Nothing p) k t = elim t [ ]

  mutual
    pub early : (vs : List Act) (low : ℕ) (scope : ℕ → Outcome) (s : ℕ) (u : Term) (e : ℕ) → Numbered vs low u → IsTail u → Agrees run (fate inputs view scope s u) low (low + size u) → of_outcome (ends inputs view scope s u) ≡ At e → Each low (low + size u) e
    early vs low scope s (One a) e n k g q =
        first_one low (low + act_size a) e (early_as (Runs scope s (One a)) low e (runs_here inputs view run vs low scope s (One a) n g) (act_takes inputs view scope s a e k q, λ t c i. absurd (not_talk a k t)))
        (act_early vs low scope s a e n k (one_inner inputs view run vs low scope s a n g) q)
    early vs low scope s (Then a u) e n k g q =
        let by_chain_parts = chain_parts inputs view run (act_ends inputs view scope s a) (λ c v. ends inputs view (bind scope (site a) (Done c v)) c u) e q in
        let a_end : of_outcome (act_ends inputs view scope s a) ≡ At by_chain_parts.0 = ap of_outcome by_chain_parts.2 in
        let at_most : s ≤ by_chain_parts.0 = act_from inputs view scope s a by_chain_parts.0 a_end in
        let is_less : by_chain_parts.0 < e = takes inputs view (bind scope (site a) (Done by_chain_parts.0 by_chain_parts.1)) by_chain_parts.0 u e k by_chain_parts.4 in
        first_one low (low + size (Then a u)) e (early_as (Runs scope s (Then a u)) low e (runs_here inputs view run vs low scope s (Then a u) n g) (omega arith, λ t d i. let equal : At by_chain_parts.0 ≡ At d = sym a_end ∙ i in let next_equal : by_chain_parts.0 ≡ d = cc in omega arith))
        (joined (low + 1) (low + act_size a) (low + size (Then a u)) e
        (λ q i j. from_ended e is_less (act_ended inputs view run vs low scope s a by_chain_parts.0 n.0 (then_inner inputs view run vs low scope s a u n g) a_end q i j))
        (λ q i j. early (a ∷ vs) (low + act_size a) (bind scope (site a) (Done by_chain_parts.0 by_chain_parts.1)) by_chain_parts.0 u e n.1 k (then_rest_is inputs view run vs low scope s a u n g by_chain_parts.0 by_chain_parts.1 by_chain_parts.2 by_chain_parts.3) by_chain_parts.4 q i (omega arith)))
    early vs low scope s (Both a u) e n k g q =
        let by_both_parts = both_parts inputs view run (act_ends inputs view scope s a) (ends inputs view (bind scope (site a) (act_ends inputs view scope s a)) s u) e q in
        let last_equal : max by_both_parts.0 by_both_parts.1 ≡ e = by_both_parts.4 in
        let next_is_less : s < by_both_parts.0 = act_takes inputs view scope s a by_both_parts.0 k.0 by_both_parts.2 in
        first_one low (low + size (Both a u)) e (early_as (Runs scope s (Both a u)) low e (runs_here inputs view run vs low scope s (Both a u) n g) (omega arith, λ t d i. absurd (not_talk a k.0 t)))
        (joined (low + 1) (low + act_size a) (low + size (Both a u)) e
        (λ q i j. up e (omega arith) (act_early vs low scope s a by_both_parts.0 n.0 k.0 (both_inner inputs view run vs low scope s a u n g) by_both_parts.2 q i j))
        (λ q i j. up e (omega arith) (early (a ∷ vs) (low + act_size a) (bind scope (site a) (act_ends inputs view scope s a)) s u by_both_parts.1 n.1 k.1 (both_rest inputs view run vs low scope s a u n g) by_both_parts.3 q i (omega arith))))

    pub act_early : (vs : List Act) (low : ℕ) (scope : ℕ → Outcome) (s : ℕ) (a : Act) (e : ℕ) → NumberedAct vs low a → IsTailAct a → Agrees run (inside inputs view scope s a) (low + 1) (low + act_size a) → of_outcome (act_ends inputs view scope s a) ≡ At e → Each (low + 1) (low + act_size a) e
    act_early vs low scope s (If p f u v w) e n k g q i l m =
        joined (low + 1) (low + (1 + size u)) (low + (1 + (size u + size v))) e
        (λ y z o. yes (view.decide p s scope f) (decided_part inputs view run w p s _ e q) (if_yes_is inputs view run vs low scope s p f u v w n g) (early vs (low + 1) scope s u e n.1 k.0) y z (omega arith))
        (λ y z o. no (view.decide p s scope f) (decided_part inputs view run w p s _ e q) (if_no_is inputs view run vs low scope s p f u v w n g) (early vs (low + (1 + size u)) scope s v e n.2 k.1) y z (omega arith)) i l m
      where
        yes : (b : Bool) → of_outcome (if b then ends inputs view scope s u else ends inputs view scope s v) ≡ At e → ((q : ℕ) → low + 1 ≤ q → q < low + 1 + size u → run q ≡ (if b then fate inputs view scope s u q else Lost))
            → (Agrees run (fate inputs view scope s u) (low + 1) (low + 1 + size u) → of_outcome (ends inputs view scope s u) ≡ At e → Each (low + 1) (low + 1 + size u) e) → Each (low + 1) (low + 1 + size u) e
        yes true o r f q i j = f (record { each = r }) o q i j
        yes false o r f q i j = early_as Lost q e (r q i j) tt

        no : (b : Bool) → of_outcome (if b then ends inputs view scope s u else ends inputs view scope s v) ≡ At e → ((q : ℕ) → low + (1 + size u) ≤ q → q < low + (1 + size u) + size v → run q ≡ (if b then Lost else fate inputs view scope s v q))
            → (Agrees run (fate inputs view scope s v) (low + (1 + size u)) (low + (1 + size u) + size v) → of_outcome (ends inputs view scope s v) ≡ At e → Each (low + (1 + size u)) (low + (1 + size u) + size v) e) → Each (low + (1 + size u)) (low + (1 + size u) + size v) e
        no false o r f q i j = f (record { each = r }) o q i j
        no true o r f q i j = early_as Lost q e (r q i j) tt
    act_early vs low scope s (Block p u) e n k g q i l m = early vs (low + 1) scope s u e n.1 k (block_in inputs view run low scope s p u g) q i l (omega arith)
    act_early vs low scope s (Cycle p c) e n k g q i l m = absurd (omega arith)
    act_early vs low scope s (Set p r f) e n k g q i l m = absurd (omega arith)
    act_early vs low scope s (Send p c f) e n k g q i l m = elim k [ ]
    act_early vs low scope s (Recv p c) e n k g q i l m = elim k [ ]
    act_early vs low scope s (When p f u) e n k g q i l m = elim k [ ]
    act_early vs low scope s (Wait p y) e n k g q i l m = elim k [ ]
    act_early vs low scope s (Pure p f) e n k g q i l m = elim k [ ]
    act_early vs low scope s (Nothing p) e n k g q i l m = elim k [ ]

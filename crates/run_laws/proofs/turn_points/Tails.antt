-- In a turn that ends at e, each act that began has ended by e.
--
-- By induction over terms that end: the end of a chain needs the ends of all its parts, and the end of an `if` that of the
-- side that was taken; of the other side nothing has begun. The file `Strict` sharpens this for bodies that take time.
use Rattle.std.proofs.Common.{◌≡◌, ℕ, ◌+◌, ◌<◌, ◌≤◌, arith, refl, ◌∙◌, ap, subst, List, ◌∷◌, Bool, true, false, if◌then◌else◌, nat_lt, max}
use Rattle.std.proofs.lemmas.Bool.Decides.{nat_tests}
use Rattle.core_term.specs.Term.{Term, One, Then, Both, Act, Cycle, Set, Send, Recv, If, When, Block, Wait, Pure, Nothing, site, head}
use Rattle.core_term.specs.Value.{Value, Outcome, Open, Done, nothing}
use Rattle.core_term.specs.Inputs.{Inputs}
use Rattle.core_term.specs.Ends.{Sees, bind, ends, act_ends, after_end, later, decided}
use Rattle.core_term.specs.Fate.{Fate, Waits, Lost, Runs, fate, inside, once}
use Rattle.core_term.specs.Occurs.{Later, At, begin_at, of_outcome}
use Rattle.core_term.specs.Numbering.{size, act_size, Numbered, NumberedAct}
use Rattle.run_laws.proofs.turn_points.Idle.{Idle, idle_not, later as idle_later, gone as idle_gone}
use Rattle.core_term.proofs.code_tables.FirstSites.{head_site, act_size_positive}
use Rattle.run_laws.proofs.turn_points.Live.{Agrees, pick_ge}
use Rattle.run_laws.proofs.turn_points.Parts.{one_inner, then_inner, both_inner, both_rest, if_yes_is, if_no_is, block_in, runs_here}
use Rattle.run_laws.proofs.turn_points.Order.{from}

-- an act that takes its end from outside
abbrev pub IsTalk : Act → Type 0
IsTalk (Send p m e) = Unit {0}
IsTalk (Recv p m) = Unit {0}
IsTalk a = ⊥

module _ (inputs : Inputs) (view : Sees) (run : ℕ → Fate) where
  -- an act that has begun has ended by e, and a send or recv before e + more
  abbrev pub EndedIn : Fate → ℕ → ℕ → Type 0
  EndedIn Waits e f = Unit {0}
  EndedIn Lost e f = Unit {0}
  EndedIn (Runs scope s t) e f = (c : ℕ) × (of_outcome (act_ends inputs view scope s (head t)) ≡ At c) × (c ≤ e) × (IsTalk (head t) → c < f)

  pub record Ended (q e f : ℕ) : Type 0 where
    pub is : EndedIn (run q) e f

  idle_ended : (w : Fate) (q e f : ℕ) → Idle (begin_at w) → run q ≡ w → Ended q e f
  idle_ended Waits q e f i k = let the_ended_in : EndedIn (run q) e f = rw k tt in record { is = the_ended_in }
  idle_ended Lost q e f i k = let next_the_ended_in : EndedIn (run q) e f = rw k tt in record { is = next_the_ended_in }
  idle_ended (Runs scope s t) q e f i k = elim i [ ]

  up_in : (w : Fate) (e f e' f' : ℕ) → e ≤ e' → f ≤ f' → EndedIn w e f → EndedIn w e' f'
  up_in Waits e f e' f' l m k = tt
  up_in Lost e f e' f' l m k = tt
  up_in (Runs scope s t) e f e' f' l m k = (k.0, k.1, omega (arith, k.2), λ u. let part = k.3 u in omega arith)

  up : {q e f : ℕ} (e' f' : ℕ) → e ≤ e' → f ≤ f' → Ended q e f → Ended q e' f'
  up e' f' l m k = record { is = up_in _ _ _ e' f' l m k.is }

  ended_here : (vs : List Act) (low : ℕ) (scope : ℕ → Outcome) (s : ℕ) (t : Term) (c e f : ℕ) → Numbered vs low t → Agrees run (fate inputs view scope s t) low (low + size t) → of_outcome (act_ends inputs view scope s (head t)) ≡ At c → c ≤ e → (IsTalk (head t) → c < f) → Ended low e f
  ended_here vs low scope s t c e f n g k l m = let last_the_ended_in : EndedIn (run low) e f = rw (runs_here inputs view run vs low scope s t n g) (c, k, l, m) in record { is = last_the_ended_in }

  abbrev Each : ℕ → ℕ → ℕ → ℕ → Type 0
  Each low high e f = (q : ℕ) → low ≤ q → q < high → Ended q e f

  joined : (low mid high e f : ℕ) → Each low mid e f → Each mid high e f → Each low high e f
  joined low mid high e f u v q l m = go (nat_lt q mid) refl
    where
      go : (b : Bool) → nat_lt q mid ≡ b → Ended q e f
      go true k = let is_less : q < mid = grind (arith, nat_tests) in u q l is_less
      go false k = let at_most : mid ≤ q = grind (arith, nat_tests) in v q at_most m

  first_one : (low high e f : ℕ) → Ended low e f → Each (low + 1) high e f → Each low high e f
  first_one low high e f u v q l m = go (nat_lt low q) refl
    where
      go : (b : Bool) → nat_lt low q ≡ b → Ended q e f
      go true k = let next_is_less : low < q = grind (arith, nat_tests) in v q (omega arith) m
      go false k = let next_at_most : q ≤ low = grind (arith, nat_tests) in let w' : low ≡ q = omega arith in subst (λ z. Ended z e f) w' u

  no_more : (low high e f : ℕ) → high ≤ low → Each low high e f
  no_more low high e f k q l m = absurd (omega arith)

  -- what a chain's end says of its parts
  pub chain_parts : (r : Outcome) (k : ℕ → Value → Outcome) (e : ℕ) → of_outcome (after_end inputs r k) ≡ At e → (c : ℕ) × (v : Value) × (r ≡ Done c v) × (nat_lt c inputs.count ≡ true) × (of_outcome (k c v) ≡ At e)
  chain_parts Open k e u = absurd (idle_not idle_later u)
  chain_parts (Done c v) k e u = go (nat_lt c inputs.count) refl
    where
      go : (b : Bool) → nat_lt c inputs.count ≡ b → (c' : ℕ) × (v' : Value) × (Done c v ≡ Done c' v') × (nat_lt c' inputs.count ≡ true) × (of_outcome (k c' v') ≡ At e)
      go true i = (c, v, refl, i, rw i at u)
      go false i = let equal : Later ≡ At e = rw i at u in absurd cc

  pub both_parts : (r r' : Outcome) (e : ℕ) → of_outcome (later r r') ≡ At e → (c d : ℕ) × (of_outcome r ≡ At c) × (of_outcome r' ≡ At d) × (max c d ≡ e)
  both_parts Open r' e u = absurd (idle_not idle_later u)
  both_parts (Done c v) Open e u = absurd (idle_not idle_later u)
  both_parts (Done c v) (Done d w) e u = (c, d, refl, refl, cc)

  pub decided_part : (w : Bool) (p s : ℕ) (r : Outcome) (e : ℕ) → of_outcome (decided w p s r) ≡ At e → of_outcome r ≡ At e
  decided_part w p s Open e u = u
  decided_part true p s (Done c v) e u = u
  decided_part false p s (Done c v) e u = u

  pub then_rest_is : (vs : List Act) (low : ℕ) (scope : ℕ → Outcome) (s : ℕ) (a : Act) (t : Term) → Numbered vs low (Then a t) → Agrees run (fate inputs view scope s (Then a t)) low (low + size (Then a t)) → (c : ℕ) (v : Value) → act_ends inputs view scope s a ≡ Done c v → nat_lt c inputs.count ≡ true
      → Agrees run (fate inputs view (bind scope (site a) (Done c v)) c t) (low + act_size a) (low + act_size a + size t)
  then_rest_is vs low scope s a t n g c v k i =
      let is_less : 0 < act_size a = act_size_positive a in
      let next_equal : site (head t) ≡ low + act_size a = head_site _ _ t n.1 in
      record {
        each = λ q j l. g.each q (omega arith) (omega arith) ∙ (pick_ge q (site (head t)) _ _ (omega arith)
            ∙ (ap (λ z. once inputs z (λ c v. fate inputs view (bind scope (site a) (Done c v)) c t q)) k ∙ ap (λ b. if b then fate inputs view (bind scope (site a) (Done c v)) c t q else Waits) i));
      }

  mutual
    pub ended : (vs : List Act) (low : ℕ) (scope : ℕ → Outcome) (s : ℕ) (t : Term) (e : ℕ) → Numbered vs low t → Agrees run (fate inputs view scope s t) low (low + size t) → of_outcome (ends inputs view scope s t) ≡ At e → Each low (low + size t) e (e + 1)
    ended vs low scope s (One a) e n g k =
        first_one low (low + act_size a) e (e + 1) (ended_here vs low scope s (One a) e e (e + 1) n g k (omega arith) (λ u. omega arith)) (act_ended vs low scope s a e n (one_inner inputs view run vs low scope s a n g) k)
    ended vs low scope s (Then a t) e n g k =
        let by_chain_parts = chain_parts (act_ends inputs view scope s a) (λ c v. ends inputs view (bind scope (site a) (Done c v)) c t) e k in
        let a_end : of_outcome (act_ends inputs view scope s a) ≡ At by_chain_parts.0 = ap of_outcome by_chain_parts.2 in
        let at_most : by_chain_parts.0 ≤ e = from inputs view (bind scope (site a) (Done by_chain_parts.0 by_chain_parts.1)) by_chain_parts.0 t e by_chain_parts.4 in
        first_one low (low + size (Then a t)) e (e + 1) (ended_here vs low scope s (Then a t) by_chain_parts.0 e (e + 1) n g a_end at_most (λ u. omega arith))
        (joined (low + 1) (low + act_size a) (low + size (Then a t)) e (e + 1)
        (λ q i j. up e (e + 1) at_most (omega arith) (act_ended vs low scope s a by_chain_parts.0 n.0 (then_inner inputs view run vs low scope s a t n g) a_end q i j))
        (λ q i j. ended (a ∷ vs) (low + act_size a) (bind scope (site a) (Done by_chain_parts.0 by_chain_parts.1)) by_chain_parts.0 t e n.1 (then_rest_is vs low scope s a t n g by_chain_parts.0 by_chain_parts.1 by_chain_parts.2 by_chain_parts.3) by_chain_parts.4 q i (omega arith)))
    ended vs low scope s (Both a t) e n g k =
        let by_both_parts = both_parts (act_ends inputs view scope s a) (ends inputs view (bind scope (site a) (act_ends inputs view scope s a)) s t) e k in
        let equal : max by_both_parts.0 by_both_parts.1 ≡ e = by_both_parts.4 in
        first_one low (low + size (Both a t)) e (e + 1) (ended_here vs low scope s (Both a t) by_both_parts.0 e (e + 1) n g by_both_parts.2 (omega arith) (λ u. omega arith))
        (joined (low + 1) (low + act_size a) (low + size (Both a t)) e (e + 1)
        (λ q i j. up e (e + 1) (omega arith) (omega arith) (act_ended vs low scope s a by_both_parts.0 n.0 (both_inner inputs view run vs low scope s a t n g) by_both_parts.2 q i j))
        (λ q i j. up e (e + 1) (omega arith) (omega arith) (ended (a ∷ vs) (low + act_size a) (bind scope (site a) (act_ends inputs view scope s a)) s t by_both_parts.1 n.1 (both_rest inputs view run vs low scope s a t n g) by_both_parts.3 q i (omega arith))))

    pub act_ended : (vs : List Act) (low : ℕ) (scope : ℕ → Outcome) (s : ℕ) (a : Act) (e : ℕ) → NumberedAct vs low a → Agrees run (inside inputs view scope s a) (low + 1) (low + act_size a) → of_outcome (act_ends inputs view scope s a) ≡ At e → Each (low + 1) (low + act_size a) e (e + 1)
    act_ended vs low scope s (If p f t u w) e n g k q i j =
        joined (low + 1) (low + (1 + size t)) (low + (1 + (size t + size u))) e (e + 1)
        (λ q i j. yes (view.decide p s scope f) (decided_part w p s _ e k) (if_yes_is inputs view run vs low scope s p f t u w n g) (ended vs (low + 1) scope s t e n.1) q i (omega arith))
        (λ q i j. no (view.decide p s scope f) (decided_part w p s _ e k) (if_no_is inputs view run vs low scope s p f t u w n g) (ended vs (low + (1 + size t)) scope s u e n.2) q i (omega arith)) q i j
      where
        yes : (b : Bool) → of_outcome (if b then ends inputs view scope s t else ends inputs view scope s u) ≡ At e → ((q : ℕ) → low + 1 ≤ q → q < low + 1 + size t → run q ≡ (if b then fate inputs view scope s t q else Lost))
            → (Agrees run (fate inputs view scope s t) (low + 1) (low + 1 + size t) → of_outcome (ends inputs view scope s t) ≡ At e → Each (low + 1) (low + 1 + size t) e (e + 1)) → Each (low + 1) (low + 1 + size t) e (e + 1)
        yes true o r f q i j = f (record { each = r }) o q i j
        yes false o r f q i j = idle_ended Lost q e (e + 1) idle_gone (r q i j)

        no : (b : Bool) → of_outcome (if b then ends inputs view scope s t else ends inputs view scope s u) ≡ At e → ((q : ℕ) → low + (1 + size t) ≤ q → q < low + (1 + size t) + size u → run q ≡ (if b then Lost else fate inputs view scope s u q))
            → (Agrees run (fate inputs view scope s u) (low + (1 + size t)) (low + (1 + size t) + size u) → of_outcome (ends inputs view scope s u) ≡ At e → Each (low + (1 + size t)) (low + (1 + size t) + size u) e (e + 1)) → Each (low + (1 + size t)) (low + (1 + size t) + size u) e (e + 1)
        no false o r f q i j = f (record { each = r }) o q i j
        no true o r f q i j = idle_ended Lost q e (e + 1) idle_gone (r q i j)
    act_ended vs low scope s (When p f t) e n g k q i j =
        yes (view.decide p s scope f) (decided_part false p s _ e k) (λ q i j. g.each q (omega arith) (omega arith)) (ended vs (low + 1) scope s t e n.1) q i (omega arith)
      where
        yes : (b : Bool) → of_outcome (if b then ends inputs view scope s t else Done s nothing) ≡ At e → ((q : ℕ) → low + 1 ≤ q → q < low + 1 + size t → run q ≡ (if b then fate inputs view scope s t q else Lost))
            → (Agrees run (fate inputs view scope s t) (low + 1) (low + 1 + size t) → of_outcome (ends inputs view scope s t) ≡ At e → Each (low + 1) (low + 1 + size t) e (e + 1)) → Each (low + 1) (low + 1 + size t) e (e + 1)
        yes true o r f q i j = f (record { each = r }) o q i j
        yes false o r f q i j = idle_ended Lost q e (e + 1) idle_gone (r q i j)
    act_ended vs low scope s (Block p t) e n g k q i j = ended vs (low + 1) scope s t e n.1 (block_in inputs view run low scope s p t g) k q i (omega arith)
    act_ended vs low scope s (Cycle p m) e n g k q i j = absurd (omega arith)
    act_ended vs low scope s (Set p r f) e n g k q i j = absurd (omega arith)
    act_ended vs low scope s (Send p m f) e n g k q i j = absurd (omega arith)
    act_ended vs low scope s (Recv p m) e n g k q i j = absurd (omega arith)
    act_ended vs low scope s (Wait p y) e n g k q i j = absurd (omega arith)
    act_ended vs low scope s (Pure p f) e n g k q i j = absurd (omega arith)
    act_ended vs low scope s (Nothing p) e n g k q i j = absurd (omega arith)

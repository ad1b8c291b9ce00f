-- Each act that runs heads a term that runs, in its own scope and at its own place of the text.
--
-- The search for the act of a site goes down the tree: by its number it is the head of the term, inside its head, or in the
-- rest. What is known of a scope, the parameter `K`, is carried along, and so is that a begin lies within the list and the
-- turn.
use Rattle.std.proofs.Common.{◌≡◌, ℕ, ◌+◌, ◌<◌, ◌≤◌, arith, refl, ◌∙◌, ap, subst, List, [], ◌∷◌, Bool, true, false, if◌then◌else◌, nat_lt}
use Rattle.std.proofs.lemmas.Bool.Decides.{nat_tests}
use Rattle.core_term.specs.Term.{Term, One, Then, Both, Act, Cycle, Set, Send, Recv, If, When, Block, Wait, Pure, Nothing, site, head}
use Rattle.core_term.specs.Value.{Outcome, Open, Done}
use Rattle.core_term.specs.Inputs.{Inputs}
use Rattle.core_term.specs.Ends.{Sees, bind, act_ends}
use Rattle.core_term.specs.Fate.{Fate, Waits, Lost, Runs, fate, inside, once}
use Rattle.core_term.specs.Points.{End}
use Rattle.core_term.specs.Occurs.{begin_at, end_at, of_outcome, occurrence}
use Rattle.core_term.specs.Numbering.{size, act_size, Numbered, NumberedAct}
use Rattle.core_term.specs.Stands.{Stands, StandsIn, here, in_one, in_then, after_then, in_both, after_both, in_yes, in_no, in_when, in_block}
use Rattle.run_laws.proofs.turn_points.Order.{act_from}
use Rattle.run_laws.proofs.turn_points.Idle.{Idle, later as idle_later, gone as idle_gone}
use Rattle.core_term.proofs.code_tables.FirstSites.{head_site, act_site, act_size_positive}
use Rattle.run_laws.proofs.turn_points.Live.{Agrees, Scope, scope_more, scope_up, pick_ge}
use Rattle.run_laws.proofs.turn_points.Parts.{one_inner, then_inner, both_inner, both_rest, if_yes_is, if_no_is, block_in, runs_here}

module _ (inputs : Inputs) (view : Sees) (run : ℕ → Fate) (top : Term) (start : ℕ) (K : List Act → (ℕ → Outcome) → Type 0)
    (carry : (vs : List Act) (low : ℕ) (variables : ℕ → Outcome) (s : ℕ) (a : Act) (u : Term) (o : Outcome) → NumberedAct vs low a → Agrees run (inside inputs view variables s a) (low + 1) (low + act_size a) → head u ≡ a → run low ≡ Runs variables s u → K vs variables → act_ends inputs view variables s a ≡ o → K (a ∷ vs) (bind variables (site a) o)) where
  -- in the list, and not before the turn
  abbrev pub Fits : ℕ → Type 0
  Fits s = (start ≤ s) × (s < inputs.count)

  -- a term that runs in its scope
  pub record Sub (vs : List Act) (variables : ℕ → Outcome) (s : ℕ) (t : Term) (q : ℕ) : Type 0 where
    pub numbered : Numbered vs q t
    pub agrees : Agrees run (fate inputs view variables s t) q (q + size t)
    pub scope : Scope inputs view run vs q variables
    pub stands : Stands [] top vs t
    pub known : K vs variables
    pub fits : Fits s

  -- a term at its place, and what stands in it
  abbrev Inner : List Act → Term → Type 0
  Inner vs t = (ws : List Act) (u : Term) → Stands vs t ws u → Stands [] top ws u

  abbrev InnerAct : List Act → Act → Type 0
  InnerAct vs a = (ws : List Act) (u : Term) → StandsIn vs a ws u → Stands [] top ws u

  abbrev pub FoundIn : Fate → ℕ → Type 0
  FoundIn Waits q = Unit {0}
  FoundIn Lost q = Unit {0}
  FoundIn (Runs variables s t) q = (vs : List Act) × Sub vs variables s t q

  -- the act of the site q, if it runs, begins a term that runs in its scope
  pub record Found (q : ℕ) : Type 0 where
    pub is : FoundIn (run q) q

  idle_found : (w : Fate) (q : ℕ) → Idle (begin_at w) → run q ≡ w → Found q
  idle_found Waits q i k = let the_found_in : FoundIn (run q) q = rw k tt in record { is = the_found_in }
  idle_found Lost q i k = let next_the_found_in : FoundIn (run q) q = rw k tt in record { is = next_the_found_in }
  idle_found (Runs variables s t) q i k = elim i [ ]

  found_here : (vs : List Act) (variables : ℕ → Outcome) (s : ℕ) (t : Term) (q : ℕ) → Sub vs variables s t q → Found q
  found_here vs variables s t q u = let last_the_found_in : FoundIn (run q) q = rw (runs_here inputs view run vs q variables s t u.numbered u.agrees) (vs, u) in record { is = last_the_found_in }

  at_lo : {low q : ℕ} → low ≡ q → Found low → Found q
  at_lo e f = subst (λ z. Found z) e f

  -- from here on where q is the first site, and else further in
  split : (vs : List Act) (low : ℕ) (variables : ℕ → Outcome) (s : ℕ) (t : Term) (q : ℕ) → Numbered vs low t → Agrees run (fate inputs view variables s t) low (low + size t) → Scope inputs view run vs low variables → Inner vs t → K vs variables → Fits s → low ≤ q → (low < q → Found q) → Found q
  split vs low variables s t q n g in_scope in_text carried_on in_list l f = go (nat_lt low q) refl
    where
      go : (b : Bool) → nat_lt low q ≡ b → Found q
      go true k = let is_less : low < q = grind (arith, nat_tests) in f is_less
      go false k = let at_most : q ≤ low = grind (arith, nat_tests) in let m' : low ≡ q = omega arith in at_lo m' (found_here vs variables s t low (record { numbered = n; agrees = g; scope = in_scope; stands = in_text vs t here; known = carried_on; fits = in_list }))

  abbrev Search : ℕ → ℕ → ℕ → Type 0
  Search q low high = low ≤ q → q < high → Found q

  join : (q low mid high : ℕ) → Search q low mid → Search q mid high → Search q low high
  join q low mid high f g l m = go (nat_lt q mid) refl
    where
      go : (b : Bool) → nat_lt q mid ≡ b → Found q
      go true k = let next_is_less : q < mid = grind (arith, nat_tests) in f l next_is_less
      go false k = let next_at_most : mid ≤ q = grind (arith, nat_tests) in g next_at_most m

  end_found : (vs : List Act) (low : ℕ) (variables : ℕ → Outcome) (s : ℕ) (a : Act) (t : Term) → site a ≡ low → head t ≡ a → run low ≡ Runs variables s t → occurrence inputs view run (End (site a)) ≡ of_outcome (act_ends inputs view variables s a)
  end_found vs low variables s a t l k e = rw l (ap (end_at inputs view) e ∙ ap (λ z. of_outcome (act_ends inputs view variables s z)) k)

  then_more : (q : ℕ) (vs : List Act) (low : ℕ) (variables : ℕ → Outcome) (s : ℕ) (a : Act) (t : Term) → Numbered vs low (Then a t) → Agrees run (fate inputs view variables s (Then a t)) low (low + size (Then a t)) → Scope inputs view run vs low variables → K vs variables → Fits s
      → ((variables' : ℕ → Outcome) (s' : ℕ) → Agrees run (fate inputs view variables' s' t) (low + act_size a) (low + act_size a + size t) → Scope inputs view run (a ∷ vs) (low + act_size a) variables' → K (a ∷ vs) variables' → Fits s' → Search q (low + act_size a) (low + act_size a + size t))
      → Search q (low + act_size a) (low + act_size a + size t)
  then_more q vs low variables s a t n g in_scope carried_on in_list f =
      let is_less : 0 < act_size a = act_size_positive a in
      let equal : site (head t) ≡ low + act_size a = head_site _ _ t n.1 in
      go (act_ends inputs view variables s a) refl (λ q i j. g.each q (omega arith) (omega arith) ∙ pick_ge q (site (head t)) _ _ (omega arith))
      (end_found vs low variables s a (Then a t) (act_site vs low a n.0) refl (runs_here inputs view run vs low variables s (Then a t) n g))
    where
      go : (r : Outcome) → act_ends inputs view variables s a ≡ r → ((q : ℕ) → low + act_size a ≤ q → q < low + act_size a + size t → run q ≡ once inputs r (λ c v. fate inputs view (bind variables (site a) (Done c v)) c t q))
          → occurrence inputs view run (End (site a)) ≡ of_outcome r → Search q (low + act_size a) (low + act_size a + size t)
      go Open r w e l k = idle_found Waits q idle_later (w q l k)
      go (Done c v) r w e l k = done (nat_lt c inputs.count) refl
        where
          done : (b : Bool) → nat_lt c inputs.count ≡ b → Found q
          done false u = idle_found Waits q idle_later (let part = w q l k in rw u at part)
          done true u =
              let next_is_less : 0 < act_size a = act_size_positive a in
              f (bind variables (site a) (Done c v)) c (record { each = λ q i j. let next_part = w q i j in rw u at next_part }) (scope_more inputs view run vs low (low + act_size a) variables a (Done c v) in_scope (act_site vs low a n.0) (omega arith) e)
              (carry vs low variables s a (Then a t) (Done c v) n.0 (then_inner inputs view run vs low variables s a t n g) refl (runs_here inputs view run vs low variables s (Then a t) n g) carried_on r)
              (let at_most : s ≤ c = act_from inputs view variables s a c (ap of_outcome r) in let is_less : c < inputs.count = grind (arith, nat_tests) in let next_at_most : start ≤ s = in_list.0 in (omega arith, is_less)) l k

  side_more : (q : ℕ) (b : Bool) (vs : List Act) (low : ℕ) (variables : ℕ → Outcome) (s : ℕ) (t : Term) → ((q : ℕ) → low ≤ q → q < low + size t → run q ≡ (if b then fate inputs view variables s t q else Lost)) → (Agrees run (fate inputs view variables s t) low (low + size t) → Search q low (low + size t)) → Search q low (low + size t)
  side_more q true vs low variables s t w f l m = f (record { each = w }) l m
  side_more q false vs low variables s t w f l m = idle_found Lost q idle_gone (w q l m)

  other_more : (q : ℕ) (b : Bool) (vs : List Act) (low : ℕ) (variables : ℕ → Outcome) (s : ℕ) (t : Term) → ((q : ℕ) → low ≤ q → q < low + size t → run q ≡ (if b then Lost else fate inputs view variables s t q)) → (Agrees run (fate inputs view variables s t) low (low + size t) → Search q low (low + size t)) → Search q low (low + size t)
  other_more q false vs low variables s t w f l m = f (record { each = w }) l m
  other_more q true vs low variables s t w f l m = idle_found Lost q idle_gone (w q l m)

  mutual
    pub sub : (q : ℕ) (vs : List Act) (low : ℕ) (variables : ℕ → Outcome) (s : ℕ) (t : Term) → Numbered vs low t → Agrees run (fate inputs view variables s t) low (low + size t) → Scope inputs view run vs low variables → Inner vs t → K vs variables → Fits s → Search q low (low + size t)
    sub q vs low variables s (One a) n g in_scope in_text carried_on in_list l m =
        split vs low variables s (One a) q n g in_scope in_text carried_on in_list l (λ k. act_sub q vs low variables s a n (one_inner inputs view run vs low variables s a n g) in_scope (λ ws u z. in_text ws u (in_one z)) carried_on in_list (omega arith) m)
    sub q vs low variables s (Then a t) n g in_scope in_text carried_on in_list l m =
        split vs low variables s (Then a t) q n g in_scope in_text carried_on in_list l (λ k.
        join q (low + 1) (low + act_size a) (low + act_size a + size t)
        (act_sub q vs low variables s a n.0 (then_inner inputs view run vs low variables s a t n g) in_scope (λ ws u z. in_text ws u (in_then z)) carried_on in_list)
        (then_more q vs low variables s a t n g in_scope carried_on in_list (λ variables' s' g' in_scope' carried' in_list'. sub q (a ∷ vs) (low + act_size a) variables' s' t n.1 g' in_scope' (λ ws u z. in_text ws u (after_then z)) carried' in_list'))
        (omega arith) (omega arith))
    sub q vs low variables s (Both a t) n g in_scope in_text carried_on in_list l m =
        let is_less : 0 < act_size a = act_size_positive a in
        split vs low variables s (Both a t) q n g in_scope in_text carried_on in_list l (λ k.
        join q (low + 1) (low + act_size a) (low + act_size a + size t)
        (act_sub q vs low variables s a n.0 (both_inner inputs view run vs low variables s a t n g) in_scope (λ ws u z. in_text ws u (in_both z)) carried_on in_list)
        (sub q (a ∷ vs) (low + act_size a) (bind variables (site a) (act_ends inputs view variables s a)) s t n.1 (both_rest inputs view run vs low variables s a t n g)
        (scope_more inputs view run vs low (low + act_size a) variables a (act_ends inputs view variables s a) in_scope (act_site vs low a n.0) (omega arith)
        (end_found vs low variables s a (Both a t) (act_site vs low a n.0) refl (runs_here inputs view run vs low variables s (Both a t) n g)))
        (λ ws u z. in_text ws u (after_both z))
        (carry vs low variables s a (Both a t) (act_ends inputs view variables s a) n.0 (both_inner inputs view run vs low variables s a t n g) refl (runs_here inputs view run vs low variables s (Both a t) n g) carried_on refl)
        in_list)
        (omega arith) (omega arith))

    pub act_sub : (q : ℕ) (vs : List Act) (low : ℕ) (variables : ℕ → Outcome) (s : ℕ) (a : Act) → NumberedAct vs low a → Agrees run (inside inputs view variables s a) (low + 1) (low + act_size a) → Scope inputs view run vs low variables → InnerAct vs a → K vs variables → Fits s → Search q (low + 1) (low + act_size a)
    act_sub q vs low variables s (If p e t f w) n g in_scope in_text carried_on in_list l m =
        join q (low + 1) (low + (1 + size t)) (low + (1 + size t) + size f)
        (λ l' m'. side_more q (view.decide p s variables e) vs (low + 1) variables s t (if_yes_is inputs view run vs low variables s p e t f w n g) (λ g'. sub q vs (low + 1) variables s t n.1 g' (scope_up inputs view run vs low (low + 1) variables (omega arith) in_scope) (λ ws u z. in_text ws u (in_yes z)) carried_on in_list) l' (omega arith))
        (other_more q (view.decide p s variables e) vs (low + (1 + size t)) variables s f (if_no_is inputs view run vs low variables s p e t f w n g) (λ g'. sub q vs (low + (1 + size t)) variables s f n.2 g' (scope_up inputs view run vs low (low + (1 + size t)) variables (omega arith) in_scope) (λ ws u z. in_text ws u (in_no z)) carried_on in_list))
        l (omega arith)
    act_sub q vs low variables s (When p e t) n g in_scope in_text carried_on in_list l m =
        side_more q (view.decide p s variables e) vs (low + 1) variables s t (λ q i j. g.each q (omega arith) (omega arith)) (λ g'. sub q vs (low + 1) variables s t n.1 g' (scope_up inputs view run vs low (low + 1) variables (omega arith) in_scope) (λ ws u z. in_text ws u (in_when z)) carried_on in_list) l (omega arith)
    act_sub q vs low variables s (Block p t) n g in_scope in_text carried_on in_list l m = sub q vs (low + 1) variables s t n.1 (block_in inputs view run low variables s p t g) (scope_up inputs view run vs low (low + 1) variables (omega arith) in_scope) (λ ws u z. in_text ws u (in_block z)) carried_on in_list l (omega arith)
    act_sub q vs low variables s (Cycle p k) n g in_scope in_text carried_on in_list l m = absurd (omega arith)
    act_sub q vs low variables s (Set p r e) n g in_scope in_text carried_on in_list l m = absurd (omega arith)
    act_sub q vs low variables s (Send p k e) n g in_scope in_text carried_on in_list l m = absurd (omega arith)
    act_sub q vs low variables s (Recv p k) n g in_scope in_text carried_on in_list l m = absurd (omega arith)
    act_sub q vs low variables s (Wait p y) n g in_scope in_text carried_on in_list l m = absurd (omega arith)
    act_sub q vs low variables s (Pure p e) n g in_scope in_text carried_on in_list l m = absurd (omega arith)
    act_sub q vs low variables s (Nothing p) n g in_scope in_text carried_on in_list l m = absurd (omega arith)

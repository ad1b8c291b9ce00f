-- What is kept of each site of a turn, against what becomes of it in the run.
use Rattle.std.proofs.Common.{◌≡◌, ℕ, ◌+◌, ◌<◌, ◌≤◌, arith, refl, sym, ◌∙◌, subst, List, ◌∷◌, Bool, true, false, if◌then◌else◌, ◌==◌, nat_lt, nat_le}
use Rattle.std.proofs.lemmas.Bool.Decides.{nat_tests}
use Rattle.core_term.specs.Inputs.{Inputs}
use Rattle.core_term.specs.Term.{Term, One, Then, Both, Act, Cycle, Set, Send, Recv, If, When, Block, Wait, Pure, Nothing, site, head}
use Rattle.core_term.specs.Numbering.{size, act_size, Numbered, NumberedAct}
use Rattle.core_term.specs.Value.{Value, Outcome, Open, Done, value}
use Rattle.core_term.specs.Ends.{sees, bind, act_ends}
use Rattle.core_term.specs.Fate.{Fate, Waits, Lost, Runs, fate, inside, once}
use Rattle.run_laws.proofs.turn_points.NotBefore.{BeginsFrom, fate_from}
use Rattle.core_term.proofs.code_tables.FirstSites.{head_site, act_size_positive}
use Rattle.run_laws.proofs.turn_points.Live.{Agrees, pick_ge}
use Rattle.run_laws.proofs.turn_points.Parts.{one_inner, then_inner, both_inner, both_rest, if_yes_is, if_no_is, block_in, runs_here}
use Rattle.sim_laws.specs.declared.act_state.ActState.{ActState}
use Rattle.sim_laws.specs.Advance.{state_at}
use Rattle.sim_laws.specs.Remembers.{Shown, Waiting, Chosen, After, ShownAct, Remembers, RemembersInside}

module _ (n : ℕ) (inputs : Inputs) (history : ℕ → ℕ → ℕ) where
  -- what is kept of a site after the cycle n, by what becomes of it
  abbrev pub SiteOf : Fate → ActState → Type 0
  SiteOf Waits m = m.begun ≡ false
  SiteOf Lost m = m.begun ≡ false
  SiteOf (Runs scope b u) m = Chosen (nat_le b n) (Shown n history scope b (act_ends inputs (sees history) scope b (head u)) (head u) m) (m.begun ≡ false)

  pub record IsSite (w : Fate) (m : ActState) : Type 0 where
    pub is : SiteOf w m

  late_site : (c : ℕ) (w : Fate) (m : ActState) → n < c → BeginsFrom c w → m.begun ≡ false → IsSite w m
  late_site c Waits m l k e = record { is = e }
  late_site c Lost m l k e = record { is = e }
  late_site c (Runs scope b u) m l k e = let z : nat_le b n ≡ false = grind (arith, nat_tests) in record { is = rw z e }

  here_site : (scope : ℕ → Outcome) (s : ℕ) (u : Term) (m : ActState) → s ≤ n → Shown n history scope s (act_ends inputs (sees history) scope s (head u)) (head u) m → IsSite (Runs scope s u) m
  here_site scope s u m l k = let z : nat_le s n ≡ true = grind (arith, nat_tests) in record { is = rw z k }

  module _ (acts : List ActState) (short : n < inputs.count) (run : ℕ → Fate) where
    abbrev Each : ℕ → ℕ → Type 0
    Each low high = (q : ℕ) → low ≤ q → q < high → IsSite (run q) (state_at acts q)

    joined : (low mid high : ℕ) → Each low mid → Each mid high → Each low high
    joined low mid high u v q l m = go (nat_lt q mid) refl
      where
        go : (b : Bool) → nat_lt q mid ≡ b → IsSite (run q) (state_at acts q)
        go true k = let w : q < mid = grind (arith, nat_tests) in u q l w
        go false k = let w : mid ≤ q = grind (arith, nat_tests) in v q w m

    first_one : (low high : ℕ) → IsSite (run low) (state_at acts low) → Each (low + 1) high → Each low high
    first_one low high u v q l m = go (nat_lt low q) refl
      where
        go : (b : Bool) → nat_lt low q ≡ b → IsSite (run q) (state_at acts q)
        go true k = let w : low < q = grind (arith, nat_tests) in v q (omega arith) m
        go false k = let w : q ≤ low = grind (arith, nat_tests) in let w' : low ≡ q = omega arith in subst (λ z. IsSite (run z) (state_at acts z)) w' u

    as_run : (w : Fate) (q : ℕ) → run q ≡ w → IsSite w (state_at acts q) → IsSite (run q) (state_at acts q)
    as_run w q e k = subst (λ z. IsSite z (state_at acts q)) (sym e) k

    head_here : (vs : List Act) (low : ℕ) (scope : ℕ → Outcome) (s : ℕ) (t : Term) → s ≤ n → Numbered vs low t → Agrees run (fate inputs (sees history) scope s t) low (low + size t) → ShownAct n inputs history scope s (head t) acts → IsSite (run low) (state_at acts low)
    head_here vs low scope s t l numbered g shown =
        let P : ℕ → Type 0 = λ z. Shown n history scope s (act_ends inputs (sees history) scope s (head t)) (head t) (state_at acts z) in
        as_run (Runs scope s t) low (runs_here inputs (sees history) run vs low scope s t numbered g) (here_site scope s t (state_at acts low) l (subst P (head_site vs low t numbered) shown))

    waits_each : (low k : ℕ) (w : ℕ → Fate) → ((q : ℕ) → low ≤ q → q < low + k → run q ≡ w q) → ((q : ℕ) (m : ActState) → m.begun ≡ false → IsSite (w q) m) → Waiting acts low k → Each low (low + k)
    waits_each low k w g each waits q l m = as_run (w q) q (g q l m) (each q (state_at acts q) (waits q l m))

    -- what follows an act in a chain
    rest_each : (scope : ℕ → Outcome) (a : Act) (o : Outcome) (low : ℕ) (t : Term) → ((q : ℕ) → low ≤ q → q < low + size t → run q ≡ once inputs o (λ c v. fate inputs (sees history) (bind scope (site a) (Done c v)) c t q))
        → After n o (λ c v. Remembers n inputs history (bind scope (site a) (Done c v)) c low t acts) (Waiting acts low (size t))
        → ((c : ℕ) (v : Value) → c ≤ n → Agrees run (fate inputs (sees history) (bind scope (site a) (Done c v)) c t) low (low + size t) → Remembers n inputs history (bind scope (site a) (Done c v)) c low t acts → Each low (low + size t))
        → Each low (low + size t)
    rest_each scope a Open low t g k next = waits_each low (size t) (λ q. Waits) g (λ q m e. record { is = e }) k
    rest_each scope a (Done c v) low t g k next = go (nat_le c n) refl k
      where
        go : (b : Bool) → nat_le c n ≡ b → Chosen b (Remembers n inputs history (bind scope (site a) (Done c v)) c low t acts) (Waiting acts low (size t)) → Each low (low + size t)
        go true e r =
            let l : c ≤ n = grind (arith, nat_tests) in
            let z : nat_lt c inputs.count ≡ true = grind (arith, nat_tests) in
            next c v l (record { each = λ q i j. let u = g q i j in rw z at u }) r
        go false e r = wait (nat_lt c inputs.count) refl
          where
            wait : (d : Bool) → nat_lt c inputs.count ≡ d → Each low (low + size t)
            wait true f =
                let l : n < c = grind (arith, nat_tests) in
                waits_each low (size t) (λ q. fate inputs (sees history) (bind scope (site a) (Done c v)) c t q) (λ q i j. let u = g q i j in rw f at u)
                (λ q m e. late_site c (fate inputs (sees history) (bind scope (site a) (Done c v)) c t q) m l (fate_from inputs (sees history) (bind scope (site a) (Done c v)) c t q) e) r
            wait false f = waits_each low (size t) (λ q. Waits) (λ q i j. let u = g q i j in rw f at u) (λ q m e. record { is = e }) r

    mutual
      pub each_site : (vs : List Act) (low : ℕ) (scope : ℕ → Outcome) (s : ℕ) (t : Term) → s ≤ n → Numbered vs low t → Agrees run (fate inputs (sees history) scope s t) low (low + size t) → Remembers n inputs history scope s low t acts → Each low (low + size t)
      each_site vs low scope s (One a) l numbered g k =
          first_one low (low + act_size a) (head_here vs low scope s (One a) l numbered g k.0)
          (each_inside vs low scope s a l numbered (one_inner inputs (sees history) run vs low scope s a numbered g) k.1)
      each_site vs low scope s (Then a t) l numbered g k =
          let p : 0 < act_size a = act_size_positive a in
          let h : site (head t) ≡ low + act_size a = head_site _ _ t numbered.1 in
          first_one low (low + size (Then a t)) (head_here vs low scope s (Then a t) l numbered g k.0.0)
          (joined (low + 1) (low + act_size a) (low + size (Then a t))
          (each_inside vs low scope s a l numbered.0 (then_inner inputs (sees history) run vs low scope s a t numbered g) k.0.1)
          (λ q i j. rest_each scope a (act_ends inputs (sees history) scope s a) (low + act_size a) t
          (λ q i j. g.each q (omega arith) (omega arith) ∙ pick_ge q (site (head t)) _ _ (omega arith)) k.1
          (λ c v m g' r. each_site (a ∷ vs) (low + act_size a) (bind scope (site a) (Done c v)) c t m numbered.1 g' r) q i (omega arith)))
      each_site vs low scope s (Both a t) l numbered g k =
          let p : 0 < act_size a = act_size_positive a in
          first_one low (low + size (Both a t)) (head_here vs low scope s (Both a t) l numbered g k.0.0)
          (joined (low + 1) (low + act_size a) (low + size (Both a t))
          (each_inside vs low scope s a l numbered.0 (both_inner inputs (sees history) run vs low scope s a t numbered g) k.0.1)
          (λ q i j. each_site (a ∷ vs) (low + act_size a) (bind scope (site a) (act_ends inputs (sees history) scope s a)) s t l numbered.1 (both_rest inputs (sees history) run vs low scope s a t numbered g) k.1 q i (omega arith)))

      pub each_inside : (vs : List Act) (low : ℕ) (scope : ℕ → Outcome) (s : ℕ) (a : Act) → s ≤ n → NumberedAct vs low a → Agrees run (inside inputs (sees history) scope s a) (low + 1) (low + act_size a) → RemembersInside n inputs history scope s low a acts → Each (low + 1) (low + act_size a)
      each_inside vs low scope s (If p e t u w) l numbered g k q i j =
          go ((value history scope s e).number == 1)
          (if_yes_is inputs (sees history) run vs low scope s p e t u w numbered g) (if_no_is inputs (sees history) run vs low scope s p e t u w numbered g) k
          (each_site vs (low + 1) scope s t l numbered.1) (each_site vs (low + (1 + size t)) scope s u l numbered.2) q i j
        where
          go : (c : Bool)
              → ((q : ℕ) → low + 1 ≤ q → q < low + 1 + size t → run q ≡ (if c then fate inputs (sees history) scope s t q else Lost))
              → ((q : ℕ) → low + (1 + size t) ≤ q → q < low + (1 + size t) + size u → run q ≡ (if c then Lost else fate inputs (sees history) scope s u q))
              → Chosen c (Remembers n inputs history scope s (low + 1) t acts × Waiting acts (low + (1 + size t)) (size u)) (Waiting acts (low + 1) (size t) × Remembers n inputs history scope s (low + (1 + size t)) u acts)
              → (Agrees run (fate inputs (sees history) scope s t) (low + 1) (low + 1 + size t) → Remembers n inputs history scope s (low + 1) t acts → Each (low + 1) (low + 1 + size t))
              → (Agrees run (fate inputs (sees history) scope s u) (low + (1 + size t)) (low + (1 + size t) + size u) → Remembers n inputs history scope s (low + (1 + size t)) u acts → Each (low + (1 + size t)) (low + (1 + size t) + size u))
              → Each (low + 1) (low + (1 + (size t + size u)))
          go true first second r one other =
              joined (low + 1) (low + (1 + size t)) (low + (1 + (size t + size u)))
              (λ q i j. one (record { each = first }) r.0 q i (omega arith))
              (λ q i j. waits_each (low + (1 + size t)) (size u) (λ q. Lost) second (λ q m e. record { is = e }) r.1 q i (omega arith))
          go false first second r one other =
              joined (low + 1) (low + (1 + size t)) (low + (1 + (size t + size u)))
              (λ q i j. waits_each (low + 1) (size t) (λ q. Lost) first (λ q m e. record { is = e }) r.0 q i (omega arith))
              (λ q i j. other (record { each = second }) r.1 q i (omega arith))
      each_inside vs low scope s (When p e t) l numbered g k q i j =
          go ((value history scope s e).number == 1) (λ q i j. g.each q (omega arith) (omega arith)) k (each_site vs (low + 1) scope s t l numbered.1) q i (omega arith)
        where
          go : (c : Bool) → ((q : ℕ) → low + 1 ≤ q → q < low + 1 + size t → run q ≡ (if c then fate inputs (sees history) scope s t q else Lost))
              → Chosen c (Remembers n inputs history scope s (low + 1) t acts) (Waiting acts (low + 1) (size t))
              → (Agrees run (fate inputs (sees history) scope s t) (low + 1) (low + 1 + size t) → Remembers n inputs history scope s (low + 1) t acts → Each (low + 1) (low + 1 + size t))
              → Each (low + 1) (low + 1 + size t)
          go true first r one = one (record { each = first }) r
          go false first r one = waits_each (low + 1) (size t) (λ q. Lost) first (λ q m e. record { is = e }) r
      each_inside vs low scope s (Block p t) l numbered g k q i j = each_site vs (low + 1) scope s t l numbered.1 (block_in inputs (sees history) run low scope s p t g) k q i (omega arith)
      each_inside vs low scope s (Cycle p c) l numbered g k q i j = absurd (omega arith)
      each_inside vs low scope s (Set p r e) l numbered g k q i j = absurd (omega arith)
      each_inside vs low scope s (Send p m e) l numbered g k q i j = absurd (omega arith)
      each_inside vs low scope s (Recv p m) l numbered g k q i j = absurd (omega arith)
      each_inside vs low scope s (Wait p y) l numbered g k q i j = absurd (omega arith)
      each_inside vs low scope s (Pure p e) l numbered g k q i j = absurd (omega arith)
      each_inside vs low scope s (Nothing p) l numbered g k q i j = absurd (omega arith)

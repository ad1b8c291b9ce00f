-- The local rules hold of a term that runs, so of every point of a turn.
--
-- By induction over terms and acts: what becomes of the parts of a term is known from when it begins and from the ends of its
-- acts, and each form is read off that. The hard cases are a chain whose first act has not ended within the list, of whose
-- rest nothing runs, and an `if`, of which one side runs and the other is lost; there the argument goes on with the file
-- `Idle`.
use Rattle.std.proofs.Common.{◌≡◌, ℕ, ◌+◌, ◌-◌, ◌<◌, ◌≤◌, inl, inr, arith, refl, sym, ◌∙◌, ap, List, [], ◌∷◌, Bool, true, false, if◌then◌else◌, ◌==◌, nat_lt}
use Rattle.std.proofs.lemmas.Bool.Decides.{nat_tests}
use Rattle.core_term.specs.Term.{Expr, Term, One, Then, Both, Act, Cycle, Set, Send, Recv, If, When, Block, Wait, Pure, Nothing, site, head}
use Rattle.core_term.specs.Value.{Outcome, Open, Done, nothing, Wire}
use Rattle.core_term.specs.Inputs.{Inputs}
use Rattle.core_term.specs.Ends.{Sees, bind, ends, act_ends, first, after_end, later, decided, waited}
use Rattle.core_term.specs.Fate.{Fate, Waits, Lost, Runs, fate, inside, once}
use Rattle.core_term.specs.Points.{Spot, Begin, End, NoSide, forms, act_forms}
use Rattle.core_term.specs.Occurs.{Occurrence, Later, Gone, At, of_outcome, begin_at, end_at, term_end_at, no_side, no_side_at, occurrence, SameRule, SideRule, AfterRule, SyncRule, JoinRule, MergeRule, Obeys}
use Rattle.core_term.specs.Numbering.{size, act_size, OneOf, Numbered, NumberedAct}
use Rattle.run_laws.proofs.turn_points.NotBefore.{NotBefore, found_from}
use Rattle.run_laws.proofs.turn_points.Idle.{Idle, later as idle_later, gone as idle_gone, same_eq, side_eq, obeys_append, Still, Outer, idle}
use Rattle.core_term.proofs.code_tables.FirstSites.{head_site, act_site, size_positive, act_size_positive}

pub pick_lt : {A : Type 0} (a b : ℕ) (first second : A) → a < b → (if nat_lt a b then first else second) ≡ first
pick_lt a b first second fact = let next_decided : nat_lt a b ≡ true = grind (arith, nat_tests) in rw next_decided refl

pub pick_ge : {A : Type 0} (a b : ℕ) (first second : A) → b ≤ a → (if nat_lt a b then first else second) ≡ second
pick_ge a b first second fact = let last_decided : nat_lt a b ≡ false = grind (arith, nat_tests) in rw last_decided refl

pub pick_eq : {A : Type 0} (a b : ℕ) (first second : A) → a ≡ b → (if a == b then first else second) ≡ first
pick_eq a b first second fact = let other_decided : (a == b) ≡ true = grind (arith, nat_tests) in rw other_decided refl

pub pick_ne : {A : Type 0} (a b : ℕ) (first second : A) → (a ≡ b → ⊥) → (if a == b then first else second) ≡ second
pick_ne a b first second fact = let decided : (a == b) ≡ false = grind (arith, nat_tests) in rw decided refl

pub fate_head : (inputs : Inputs) (view : Sees) (scope : ℕ → Outcome) (s : ℕ) (vs : List Act) (low : ℕ) (t : Term) → Numbered vs low t → fate inputs view scope s t low ≡ Runs scope s t
fate_head inputs view scope s vs low (One a) n = pick_eq low (site a) _ _ (sym (act_site vs low a n))
fate_head inputs view scope s vs low (Then a t) n =
    let is_less : 0 < act_size a = act_size_positive a in
    let equal : site (head t) ≡ low + act_size a = head_site _ _ t n.1 in
    pick_lt low (site (head t)) _ _ (omega arith) ∙ pick_eq low (site a) _ _ (sym (act_site vs low a n.0))
fate_head inputs view scope s vs low (Both a t) n =
    let next_is_less : 0 < act_size a = act_size_positive a in
    let next_equal : site (head t) ≡ low + act_size a = head_site _ _ t n.1 in
    pick_lt low (site (head t)) _ _ (omega arith) ∙ pick_eq low (site a) _ _ (sym (act_site vs low a n.0))

-- what came of the sites from low to high
pub record Agrees (run f : ℕ → Fate) (low high : ℕ) : Type 0 where
  pub each : (q : ℕ) → low ≤ q → q < high → run q ≡ f q

same_past : {T e : ℕ} → T ≤ e → SameRule T Later (At e)
same_past {e = e} k = record {
  up = λ t f. cc;
  down = λ t l f. let last_equal : e ≡ t = cc in absurd (omega arith);
  lost = λ f. cc;
}

-- an outcome that comes at e does not come before its start
pub at_since : (s : ℕ) (o : Outcome) → NotBefore s o → (e : ℕ) → of_outcome o ≡ At e → s ≤ e
at_since s Open k e l = cc
at_since s (Done a v) k e l = let other_equal : a ≡ e = cc in omega arith

module _ (inputs : Inputs) (view : Sees) (run : ℕ → Fate) where
  abbrev pub o : Spot → Occurrence
  o = occurrence inputs view run

  -- what is known of the act a, of the site p, that began at s
  pub record Live (scope : ℕ → Outcome) (s : ℕ) (a : Act) (p : ℕ) : Type 0 where
    pub begin : o (Begin p) ≡ At s
    pub end : o (End p) ≡ of_outcome (act_ends inputs view scope s a)
    pub no : o (NoSide p) ≡ no_side view scope s a

  -- the variables in scope are of acts that have begun
  abbrev pub Scope : List Act → ℕ → (ℕ → Outcome) → Type 0
  Scope vs low scope = (y : ℕ) → OneOf vs y → (y < low) × (o (End y) ≡ of_outcome (scope y))

  pub scope_outer : (vs : List Act) (low : ℕ) (scope : ℕ → Outcome) → Scope vs low scope → (w : Occurrence) → Outer o w vs
  scope_outer vs low scope in_scope w y m g = go (scope y) (in_scope y m).1
    where
      go : (e : Outcome) → o (End y) ≡ of_outcome e → w ≡ Gone
      go Open f = let equal : Later ≡ Gone = sym f ∙ g in absurd cc
      go (Done e v) f = let next_equal : At e ≡ Gone = sym f ∙ g in absurd cc

  pub scope_more : (vs : List Act) (low high : ℕ) (scope : ℕ → Outcome) (c : Act) (e : Outcome) → Scope vs low scope → site c ≡ low → low < high → o (End (site c)) ≡ of_outcome e → Scope (c ∷ vs) high (bind scope (site c) e)
  scope_more vs low high scope c e in_scope k l f y (inl m) =
      (omega arith, rw (pick_eq y (site c) e (scope y) m) (ap (λ z. o (End z)) m ∙ f))
  scope_more vs low high scope c e in_scope k l f y (inr m) =
      let is_less : y < low = (in_scope y m).0 in
      (omega arith, rw (pick_ne y (site c) e (scope y) (λ q. omega arith)) ((in_scope y m).1))

  pub still : (w : Fate) → (Idle (begin_at w)) → (q : ℕ) → run q ≡ w → Still o (begin_at w) q
  still Waits i q e = record { term_begin = ap begin_at e; term_end = ap (term_end_at inputs view) e; begin = ap begin_at e; end = ap (end_at inputs view) e; no = ap (no_side_at view) e }
  still Lost i q e = record { term_begin = ap begin_at e; term_end = ap (term_end_at inputs view) e; begin = ap begin_at e; end = ap (end_at inputs view) e; no = ap (no_side_at view) e }
  still (Runs scope s t) i q e = elim i [ ]

  pub not_gone : (e : Outcome) → of_outcome e ≡ Gone → ⊥
  not_gone Open g = cc
  not_gone (Done t v) g = cc

  after_live : {T n s : ℕ} {b c : Occurrence} → b ≡ At (s + n) → c ≡ At s → AfterRule T n b c
  after_live {s = s} e f = record {
    up = λ t g. (s, cc, f);
    down = λ u l g. let last_equal : s ≡ u = cc in rw (← last_equal) e;
    lost = λ g. cc;
  }

  sync_live : {T s : ℕ} {b c : Occurrence} → c ≡ At s → ((t : ℕ) → b ≡ At t → s ≤ t) → SyncRule T b c
  sync_live {s = s} f k = record { up = λ t g. (s, k t g, f) }

  join_live : {T : ℕ} {b c d : Occurrence} (u v : Outcome) → b ≡ of_outcome (later u v) → c ≡ of_outcome u → d ≡ of_outcome v → JoinRule T b c d
  join_live Open v e f g = record { up = λ t k. cc; down = λ s u l m k n. cc; lost = elim [ inl k ↦ cc | inr k ↦ absurd (not_gone v (sym g ∙ k)) ] }
  join_live (Done t v) Open e f g = record { up = λ t k. cc; down = λ s u l m k n. cc; lost = elim [ inl k ↦ cc | inr k ↦ cc ] }
  join_live (Done t v) (Done u w) e f g =
      record {
        up = λ r k. (t, u, cc, f, g);
        down = λ r q l m k n. let equal : t ≡ r = cc in let next_equal : u ≡ q = cc in rw (← equal, ← next_equal) e;
        lost = elim [ inl k ↦ cc | inr k ↦ cc ];
      }

  wait_live : {T s : ℕ} {b c d : Occurrence} (v : Outcome) → b ≡ of_outcome (waited s v) → c ≡ At s → d ≡ of_outcome v → JoinRule T b c d
  wait_live Open e f g = record { up = λ t k. cc; down = λ s u l m k n. cc; lost = elim [ inl k ↦ cc | inr k ↦ cc ] }
  wait_live {s = s} (Done u w) e f g =
      record {
        up = λ r k. (s, u, cc, f, g);
        down = λ r q l m k n. let other_equal : s ≡ r = cc in let more_equal : u ≡ q = cc in rw (← other_equal, ← more_equal) e;
        lost = elim [ inl k ↦ cc | inr k ↦ cc ];
      }

  side_lost : {T : ℕ} {b c : Occurrence} → b ≡ Gone → SideRule T b c
  side_lost e = record { up = λ t f. cc; down = λ t l f. inl e; lost = λ f. e }

  merge_first : {T : ℕ} {b c d : Occurrence} → b ≡ c → d ≡ Gone → MergeRule T b c d
  merge_first e f = record { up = λ t k. inl (sym e ∙ k); first = λ t l k. e ∙ k; second = λ t l k. cc; lost = λ k l. e ∙ k }

  merge_second : {T : ℕ} {b c d : Occurrence} → b ≡ d → c ≡ Gone → MergeRule T b c d
  merge_second e f = record { up = λ t k. inr (sym e ∙ k); first = λ t l k. cc; second = λ t l k. e ∙ k; lost = λ k l. e ∙ l }

  decided_same : (w : Bool) (p s : ℕ) (u : Outcome) → of_outcome (decided w p s u) ≡ of_outcome u
  decided_same w p s Open = refl
  decided_same true p s (Done e v) = refl
  decided_same false p s (Done e v) = refl

  -- a term of which nothing runs
  pub rests : (vs : List Act) (low : ℕ) (t : Term) (w : Fate) → Idle (begin_at w) → Numbered vs low t → Agrees run (λ q. w) low (low + size t) → Outer o (begin_at w) vs → Obeys inputs.count o (forms t)
  rests vs low t w i n a u = idle inputs.count o (begin_at w) i vs low t n (record { each = λ q l m. still w i q (a.each q l m) }) u

  pub live_head : (scope : ℕ → Outcome) (s low : ℕ) (t : Term) → run low ≡ Runs scope s t → Live scope s (head t) low
  live_head scope s low t e = record { begin = ap begin_at e; end = ap (end_at inputs view) e; no = ap (no_side_at view) e }

  -- what goes on where a term runs on from the act a
  abbrev Goes : List Act → ℕ → Act → Term → Type 0
  Goes vs low a t = (scope : ℕ → Outcome) (s : ℕ) → Agrees run (fate inputs view scope s t) (low + act_size a) (low + act_size a + size t) → Scope (a ∷ vs) (low + act_size a) scope → Obeys inputs.count o (forms t)

  record Rest (a : Act) (t : Term) : Type 0 where
    begins : SameRule inputs.count (begin_at (run (site (head t)))) (end_at inputs view (run (site a)))
    ends_too : SameRule inputs.count (term_end_at inputs view (run (site a))) (term_end_at inputs view (run (site (head t))))
    obeys : Obeys inputs.count o (forms t)

  then_rest : (vs : List Act) (low : ℕ) (scope : ℕ → Outcome) (s : ℕ) (a : Act) (t : Term) → Numbered vs low (Then a t) → Agrees run (fate inputs view scope s (Then a t)) low (low + size (Then a t)) → run (site a) ≡ Runs scope s (Then a t) → Scope vs low scope → Goes vs low a t
      → (r : Outcome) → act_ends inputs view scope s a ≡ r → Rest a t
  then_rest vs low scope s a t n g e in_scope k r f =
      let is_less : 0 < act_size a = act_size_positive a in
      let p' : 0 < size t = size_positive t in
      let equal : site (head t) ≡ low + act_size a = head_site _ _ t n.1 in
      let next_equal : site a ≡ low = act_site vs low a n.0 in
      let later_on : (q : ℕ) → low + act_size a ≤ q → q < low + act_size a + size t → run q ≡ once inputs r (λ c v. fate inputs view (bind scope (site a) (Done c v)) c t q) =
      λ q i j. g.each q (omega arith) (omega arith) ∙ (pick_ge q (site (head t)) _ _ (omega arith) ∙ ap (λ z. once inputs z (λ c v. fate inputs view (bind scope (site a) (Done c v)) c t q)) f) in
      let end_is : end_at inputs view (run (site a)) ≡ of_outcome r = ap (end_at inputs view) e ∙ ap of_outcome f in
      let term_is : term_end_at inputs view (run (site a)) ≡ of_outcome (after_end inputs r (λ c v. ends inputs view (bind scope (site a) (Done c v)) c t)) =
      ap (term_end_at inputs view) e ∙ ap (λ z. of_outcome (after_end inputs z (λ c v. ends inputs view (bind scope (site a) (Done c v)) c t))) f in
      go r later_on end_is term_is
    where
      more : (r : Outcome) → end_at inputs view (run (site a)) ≡ of_outcome r → Scope (a ∷ vs) (low + act_size a) (bind scope (site a) r)
      more r i = let next_is_less : 0 < act_size a = act_size_positive a in scope_more vs low (low + act_size a) scope a r in_scope (act_site vs low a n.0) (omega arith) i

      outer : Outer o Later (a ∷ vs)
      outer y (inl c) u = let last_equal : o (End (site a)) ≡ Gone = rw c at u in absurd (not_gone (act_ends inputs view scope s a) (sym (ap (end_at inputs view) e) ∙ last_equal))
      outer y (inr c) u = scope_outer vs low scope in_scope Later y c u

      at_rest : ((q : ℕ) → low + act_size a ≤ q → q < low + act_size a + size t → run q ≡ Waits) → (begin_at (run (site (head t))) ≡ Later) × (term_end_at inputs view (run (site (head t))) ≡ Later) × Obeys inputs.count o (forms t)
      at_rest w =
          let p' : 0 < size t = size_positive t in
          let equal : run (site (head t)) ≡ Waits = rw (head_site _ _ t n.1) (w (low + act_size a) (omega arith) (omega arith)) in
          (ap begin_at equal, ap (term_end_at inputs view) equal, rests (a ∷ vs) (low + act_size a) t Waits idle_later n.1 (record { each = w }) outer)

      go : (r : Outcome) → ((q : ℕ) → low + act_size a ≤ q → q < low + act_size a + size t → run q ≡ once inputs r (λ c v. fate inputs view (bind scope (site a) (Done c v)) c t q))
          → end_at inputs view (run (site a)) ≡ of_outcome r → term_end_at inputs view (run (site a)) ≡ of_outcome (after_end inputs r (λ c v. ends inputs view (bind scope (site a) (Done c v)) c t)) → Rest a t
      go Open w i j = let by_at_rest = at_rest w in record { begins = same_eq (by_at_rest.0 ∙ sym i); ends_too = same_eq (j ∙ sym by_at_rest.1); obeys = by_at_rest.2 }
      go (Done c v) w i j = done (nat_lt c inputs.count) refl
        where
          done : (b : Bool) → nat_lt c inputs.count ≡ b → Rest a t
          done false k' =
              let rest = at_rest (λ q y y'. let part = w q y y' in rw k' at part) in
              let j' : term_end_at inputs view (run (site a)) ≡ Later = rw k' at j in
              let past : inputs.count ≤ c = grind (arith, nat_tests) in
              record { begins = rw (rest.0, i) (same_past past); ends_too = same_eq (j' ∙ sym rest.1); obeys = rest.2 }
          done true k' =
              let p' : 0 < size t = size_positive t in
              let w' : (q : ℕ) → low + act_size a ≤ q → q < low + act_size a + size t → run q ≡ fate inputs view (bind scope (site a) (Done c v)) c t q = λ q y y'. let next_part = w q y y' in rw k' at next_part in
              let next_equal : run (site (head t)) ≡ Runs (bind scope (site a) (Done c v)) c t = rw (head_site _ _ t n.1) (w' (low + act_size a) (omega arith) (omega arith) ∙ fate_head inputs view _ c _ _ t n.1) in
              let j' : term_end_at inputs view (run (site a)) ≡ of_outcome (ends inputs view (bind scope (site a) (Done c v)) c t) = rw k' at j in
              record {
                begins = same_eq (ap begin_at next_equal ∙ sym i);
                ends_too = same_eq (j' ∙ sym (ap (term_end_at inputs view) next_equal));
                obeys = k (bind scope (site a) (Done c v)) c (record { each = w' }) (more (Done c v) i);
              }

  pub scope_up : (vs : List Act) (low high : ℕ) (scope : ℕ → Outcome) → low ≤ high → Scope vs low scope → Scope vs high scope
  scope_up vs low high scope l in_scope y m = let is_less : y < low = (in_scope y m).0 in (omega arith, (in_scope y m).1)

  -- a side that is not taken
  side_rests : (vs : List Act) (low at : ℕ) (scope : ℕ → Outcome) (t : Term) → Numbered vs at t → Scope vs low scope → ((q : ℕ) → at ≤ q → q < at + size t → run q ≡ Lost) → (begin_at (run (site (head t))) ≡ Gone) × (term_end_at inputs view (run (site (head t))) ≡ Gone) × Obeys inputs.count o (forms t)
  side_rests vs low at scope t n in_scope w =
      let next_is_less : 0 < size t = size_positive t in
      let equal : run (site (head t)) ≡ Lost = rw (head_site _ _ t n) (w at (omega arith) (omega arith)) in
      (ap begin_at equal, ap (term_end_at inputs view) equal, rests vs at t Lost idle_gone n (record { each = w }) (scope_outer vs low scope in_scope Gone))

  -- a side that is taken
  side_runs : (vs : List Act) (at : ℕ) (scope : ℕ → Outcome) (s : ℕ) (t : Term) → Numbered vs at t → ((q : ℕ) → at ≤ q → q < at + size t → run q ≡ fate inputs view scope s t q) → (begin_at (run (site (head t))) ≡ At s) × (term_end_at inputs view (run (site (head t))) ≡ of_outcome (ends inputs view scope s t))
  side_runs vs at scope s t n w =
      let last_is_less : 0 < size t = size_positive t in
      let next_equal : run (site (head t)) ≡ Runs scope s t = rw (head_site _ _ t n) (w at (omega arith) (omega arith) ∙ fate_head inputs view scope s _ _ t n) in
      (ap begin_at next_equal, ap (term_end_at inputs view) next_equal)

  abbrev Runs_on : List Act → ℕ → (ℕ → Outcome) → ℕ → Term → Type 0
  Runs_on vs at scope s t = Agrees run (fate inputs view scope s t) at (at + size t) → Scope vs at scope → Obeys inputs.count o (forms t)

  if_live : (vs : List Act) (low : ℕ) (scope : ℕ → Outcome) (s p : ℕ) (e : Expr) (t u : Term) (w : Bool) → NumberedAct vs low (If p e t u w) → Agrees run (inside inputs view scope s (If p e t u w)) (low + 1) (low + act_size (If p e t u w)) → Live scope s (If p e t u w) low → Scope vs low scope
      → Runs_on vs (low + 1) scope s t → Runs_on vs (low + (1 + size t)) scope s u → Obeys inputs.count o (act_forms (If p e t u w))
  if_live vs low scope s p e t u w n g l in_scope k k' = go (view.decide p s scope e) refl
    where
      m : site (head u) ≡ low + (1 + size t)
      m = head_site _ _ u n.2

      yes : (b : Bool) → view.decide p s scope e ≡ b → (q : ℕ) → low + 1 ≤ q → q < low + 1 + size t → run q ≡ (if b then fate inputs view scope s t q else Lost)
      yes b f q i j = let part = m in g.each q (omega arith) (omega arith) ∙ (pick_lt q (site (head u)) _ _ (omega arith) ∙ ap (λ c. if c then fate inputs view scope s t q else Lost) f)

      no : (b : Bool) → view.decide p s scope e ≡ b → (q : ℕ) → low + (1 + size t) ≤ q → q < low + (1 + size t) + size u → run q ≡ (if b then Lost else fate inputs view scope s u q)
      no b f q i j = let next_part = m in g.each q (omega arith) (omega arith) ∙ (pick_ge q (site (head u)) _ _ (omega arith) ∙ ap (λ c. if c then Lost else fate inputs view scope s u q) f)

      end_is : (b : Bool) → view.decide p s scope e ≡ b → end_at inputs view (run p) ≡ of_outcome (if b then ends inputs view scope s t else ends inputs view scope s u)
      end_is b f = rw n.0 (l.end ∙ (decided_same w p s _ ∙ ap (λ c. of_outcome (if c then ends inputs view scope s t else ends inputs view scope s u)) f))

      begin_is : begin_at (run p) ≡ At s
      begin_is = rw n.0 l.begin

      go : (b : Bool) → view.decide p s scope e ≡ b → Obeys inputs.count o (act_forms (If p e t u w))
      go true f =
          let by_side_runs = side_runs vs (low + 1) scope s t n.1 (yes true f) in
          let by_side_rests = side_rests vs low (low + (1 + size t)) scope u n.2 in_scope (no true f) in (
            side_eq (by_side_runs.0 ∙ sym begin_is),
            (
              side_lost by_side_rests.0,
              (
                merge_first (end_is true f ∙ sym by_side_runs.1) by_side_rests.1,
                obeys_append inputs.count o (forms t) (forms u) (k (record { each = yes true f }) (scope_up vs low (low + 1) scope (omega arith) in_scope)) by_side_rests.2,
              ),
            ),
          )
      go false f =
          let next_by_side_rests = side_rests vs low (low + 1) scope t n.1 in_scope (yes false f) in
          let next_by_side_runs = side_runs vs (low + (1 + size t)) scope s u n.2 (no false f) in (
            side_lost next_by_side_rests.0,
            (
              side_eq (next_by_side_runs.0 ∙ sym begin_is),
              (
                merge_second (end_is false f ∙ sym next_by_side_runs.1) next_by_side_rests.1,
                obeys_append inputs.count o (forms t) (forms u) next_by_side_rests.2 (k' (record { each = no false f }) (scope_up vs low (low + (1 + size t)) scope (omega arith) in_scope)),
              ),
            ),
          )

  when_live : (vs : List Act) (low : ℕ) (scope : ℕ → Outcome) (s p : ℕ) (e : Expr) (t : Term) → NumberedAct vs low (When p e t) → Agrees run (inside inputs view scope s (When p e t)) (low + 1) (low + act_size (When p e t)) → Live scope s (When p e t) low → Scope vs low scope
      → Runs_on vs (low + 1) scope s t → Obeys inputs.count o (act_forms (When p e t))
  when_live vs low scope s p e t n g l in_scope k = go (view.decide p s scope e) refl
    where
      yes : (b : Bool) → view.decide p s scope e ≡ b → (q : ℕ) → low + 1 ≤ q → q < low + 1 + size t → run q ≡ (if b then fate inputs view scope s t q else Lost)
      yes b f q i j = g.each q (omega arith) (omega arith) ∙ ap (λ c. if c then fate inputs view scope s t q else Lost) f

      end_is : (b : Bool) → view.decide p s scope e ≡ b → end_at inputs view (run p) ≡ of_outcome (if b then ends inputs view scope s t else Done s nothing)
      end_is b f = rw n.0 (l.end ∙ (decided_same false p s _ ∙ ap (λ c. of_outcome (if c then ends inputs view scope s t else Done s nothing)) f))

      no_is : (b : Bool) → view.decide p s scope e ≡ b → no_side_at view (run p) ≡ (if b then Gone else At s)
      no_is b f = rw n.0 (l.no ∙ ap (λ c. if c then Gone else At s) f)

      begin_is : begin_at (run p) ≡ At s
      begin_is = rw n.0 l.begin

      go : (b : Bool) → view.decide p s scope e ≡ b → Obeys inputs.count o (act_forms (When p e t))
      go true f =
          let by_side_runs = side_runs vs (low + 1) scope s t n.1 (yes true f) in (
            side_eq (by_side_runs.0 ∙ sym begin_is),
            (
              side_lost (no_is true f),
              (
                merge_first (end_is true f ∙ sym by_side_runs.1) (no_is true f),
                k (record { each = yes true f }) (scope_up vs low (low + 1) scope (omega arith) in_scope),
              ),
            ),
          )
      go false f =
          let by_side_rests = side_rests vs low (low + 1) scope t n.1 in_scope (yes false f) in
          (side_lost by_side_rests.0, (side_eq (no_is false f ∙ sym begin_is), (merge_second (end_is false f ∙ sym (no_is false f)) by_side_rests.1, by_side_rests.2)))

  mutual
    pub live : (vs : List Act) (low : ℕ) (scope : ℕ → Outcome) (s : ℕ) (t : Term) → Numbered vs low t → Agrees run (fate inputs view scope s t) low (low + size t) → Scope vs low scope → Obeys inputs.count o (forms t)
    live vs low scope s (One a) n g in_scope =
        let is_less : 0 < act_size a = act_size_positive a in
        let equal : run low ≡ Runs scope s (One a) = g.each low (omega arith) (omega arith) ∙ fate_head inputs view scope s vs low (One a) n in
        let next_equal : site a ≡ low = act_site vs low a n in
        let last_equal : run (site a) ≡ Runs scope s (One a) = rw next_equal equal in
        let inner : Agrees run (inside inputs view scope s a) (low + 1) (low + act_size a) = record { each = λ q i j. g.each q (omega arith) (omega arith) ∙ pick_ne q (site a) _ _ (λ k. omega arith) } in
        (same_eq refl, (same_eq (ap (term_end_at inputs view) last_equal ∙ sym (ap (end_at inputs view) last_equal)), act_live vs low scope s a n inner (live_head scope s low (One a) equal) in_scope))
    live vs low scope s (Then a t) n g in_scope =
        let next_is_less : 0 < act_size a = act_size_positive a in
        let other_equal : run low ≡ Runs scope s (Then a t) = g.each low (omega arith) (omega arith) ∙ fate_head inputs view scope s vs low (Then a t) n in
        let more_equal : site a ≡ low = act_site vs low a n.0 in
        let further_equal : site (head t) ≡ low + act_size a = head_site _ _ t n.1 in
        let second_equal : run (site a) ≡ Runs scope s (Then a t) = rw more_equal other_equal in
        let inner : Agrees run (inside inputs view scope s a) (low + 1) (low + act_size a) = record { each = λ q i j. g.each q (omega arith) (omega arith) ∙ (pick_lt q (site (head t)) _ _ (omega arith) ∙ pick_ne q (site a) _ _ (λ k. omega arith)) } in
        let by_then_rest = then_rest vs low scope s a t n g second_equal in_scope (λ scope' s' g' in_scope'. live (a ∷ vs) (low + act_size a) scope' s' t n.1 g' in_scope') (act_ends inputs view scope s a) refl in
        (same_eq refl, (by_then_rest.begins, (by_then_rest.ends_too, obeys_append inputs.count o (act_forms a) (forms t) (act_live vs low scope s a n.0 inner (live_head scope s low (Then a t) other_equal) in_scope) by_then_rest.obeys)))
    live vs low scope s (Both a t) n g in_scope =
        let is_less : 0 < act_size a = act_size_positive a in
        let p' : 0 < size t = size_positive t in
        let next_equal : run low ≡ Runs scope s (Both a t) = g.each low (omega arith) (omega arith) ∙ fate_head inputs view scope s vs low (Both a t) n in
        let equal : site a ≡ low = act_site vs low a n.0 in
        let last_equal : site (head t) ≡ low + act_size a = head_site _ _ t n.1 in
        let third_equal : run (site a) ≡ Runs scope s (Both a t) = rw equal next_equal in
        let inner : Agrees run (inside inputs view scope s a) (low + 1) (low + act_size a) = record { each = λ q i j. g.each q (omega arith) (omega arith) ∙ (pick_lt q (site (head t)) _ _ (omega arith) ∙ pick_ne q (site a) _ _ (λ k. omega arith)) } in
        let rest : Agrees run (fate inputs view (bind scope (site a) (act_ends inputs view scope s a)) s t) (low + act_size a) (low + act_size a + size t) = record { each = λ q i j. g.each q (omega arith) (omega arith) ∙ pick_ge q (site (head t)) _ _ (omega arith) } in
        let more_equal : run (site (head t)) ≡ Runs (bind scope (site a) (act_ends inputs view scope s a)) s t = rw last_equal (rest.each (low + act_size a) (omega arith) (omega arith) ∙ fate_head inputs view _ s _ _ t n.1) in
        let further_equal : o (End (site a)) ≡ of_outcome (act_ends inputs view scope s a) = ap (end_at inputs view) third_equal in (
          same_eq refl,
          (
            same_eq (ap begin_at more_equal ∙ sym (ap begin_at third_equal)),
            (
              join_live (act_ends inputs view scope s a) (ends inputs view (bind scope (site a) (act_ends inputs view scope s a)) s t) (ap (term_end_at inputs view) third_equal) further_equal (ap (term_end_at inputs view) more_equal),
              obeys_append inputs.count o (act_forms a) (forms t)
                  (act_live vs low scope s a n.0 inner (live_head scope s low (Both a t) next_equal) in_scope)
                  (live (a ∷ vs) (low + act_size a) (bind scope (site a) (act_ends inputs view scope s a)) s t n.1 rest (scope_more vs low (low + act_size a) scope a (act_ends inputs view scope s a) in_scope equal (omega arith) further_equal)),
            ),
          ),
        )

    pub act_live : (vs : List Act) (low : ℕ) (scope : ℕ → Outcome) (s : ℕ) (a : Act) → NumberedAct vs low a → Agrees run (inside inputs view scope s a) (low + 1) (low + act_size a) → Live scope s a low → Scope vs low scope → Obeys inputs.count o (act_forms a)
    act_live vs low scope s (Cycle p k) n g l in_scope = (rw n (after_live l.end l.begin), tt)
    act_live vs low scope s (Set p r e) n g l in_scope = (rw n.0 (after_live l.end l.begin), tt)
    act_live vs low scope s (Send p m e) n g l in_scope = (rw n.0 (sync_live l.begin (λ t k. at_since s _ (found_from (inputs.ack m) s (inputs.count - s) (λ u. nothing)) t (sym l.end ∙ k))), tt)
    act_live vs low scope s (Recv p m) n g l in_scope = (rw n (sync_live l.begin (λ t k. at_since s _ (found_from (inputs.valid m) s (inputs.count - s) (λ u. record { number = inputs.data_at m u; atoms = Wire m u ∷ [] })) t (sym l.end ∙ k))), tt)
    act_live vs low scope s (If p e t u w) n g l in_scope = if_live vs low scope s p e t u w n g l in_scope (live vs (low + 1) scope s t n.1) (live vs (low + (1 + size t)) scope s u n.2)
    act_live vs low scope s (When p e t) n g l in_scope = when_live vs low scope s p e t n g l in_scope (live vs (low + 1) scope s t n.1)
    act_live vs low scope s (Block p t) n g l in_scope =
        let at_most : (q : ℕ) → low + 1 ≤ q → q < low + 1 + size t → run q ≡ fate inputs view scope s t q = λ q i j. g.each q (omega arith) (omega arith) in
        let by_side_runs = side_runs vs (low + 1) scope s t n.1 at_most in
        let begin_is : begin_at (run p) ≡ At s = rw n.0 l.begin in
        let end_is : end_at inputs view (run p) ≡ of_outcome (ends inputs view scope s t) = rw n.0 l.end in
        (same_eq (by_side_runs.0 ∙ sym begin_is), (same_eq (end_is ∙ sym by_side_runs.1), live vs (low + 1) scope s t n.1 (record { each = at_most }) (scope_up vs low (low + 1) scope (omega arith) in_scope)))
    act_live vs low scope s (Wait p y) n g l in_scope = (rw n.0 (wait_live (scope y) l.end l.begin ((in_scope y n.1).1)), tt)
    act_live vs low scope s (Pure p e) n g l in_scope = (rw n.0 (same_eq (l.end ∙ sym l.begin)), tt)
    act_live vs low scope s (Nothing p) n g l in_scope = (rw n (same_eq (l.end ∙ sym l.begin)), tt)

-- What becomes of the parts of a term that runs: of each part nothing runs, or it runs from one begin in one scope.
--
-- What becomes of an act is told by its site. Since the sites of a numbered term go up in tree order, the site alone tells in
-- which part of the term the act stands.
use Rattle.std.proofs.Common.{◌≡◌, ℕ, ◌+◌, ◌<◌, ◌≤◌, arith, refl, ◌∙◌, List, Bool, true, false, if◌then◌else◌, nat_lt}
use Rattle.core_term.specs.Term.{Expr, Term, One, Then, Both, Act, If, When, Block, site, head}
use Rattle.core_term.specs.Value.{Outcome, Open, Done}
use Rattle.core_term.specs.Inputs.{Inputs}
use Rattle.core_term.specs.Ends.{Sees, bind, act_ends}
use Rattle.core_term.specs.Fate.{Fate, Waits, Lost, Runs, fate, inside, once}
use Rattle.core_term.specs.Points.{Spot, TermBegin, TermEnd, Begin, End, NoSide}
use Rattle.core_term.specs.Occurs.{Occurrence, begin_at, occurrence}
use Rattle.core_term.specs.Numbering.{size, act_size, Numbered, NumberedAct}
use Rattle.core_term.specs.Order.{spot_site}
use Rattle.run_laws.proofs.turn_points.Idle.{Idle, later as idle_later, gone as idle_gone, Still}
use Rattle.core_term.proofs.code_tables.FirstSites.{head_site, act_site, size_positive, act_size_positive}
use Rattle.run_laws.proofs.turn_points.Live.{pick_lt, pick_ge, pick_ne, fate_head, Agrees, still}

module _ (inputs : Inputs) (view : Sees) (run : ℕ → Fate) where
  -- a part of a term: nothing of it runs, or it runs
  pub data Part (t : Term) (at : ℕ) : Type 0 where
    none : (w : Fate) → Idle (begin_at w) → Agrees run (λ q. w) at (at + size t) → Part t at
    some : (scope : ℕ → Outcome) (s : ℕ) → Agrees run (fate inputs view scope s t) at (at + size t) → Part t at

  pub one_inner : (vs : List Act) (low : ℕ) (scope : ℕ → Outcome) (s : ℕ) (a : Act) → NumberedAct vs low a → Agrees run (fate inputs view scope s (One a)) low (low + act_size a) → Agrees run (inside inputs view scope s a) (low + 1) (low + act_size a)
  one_inner vs low scope s a n g =
      let equal : site a ≡ low = act_site vs low a n in
      record { each = λ q i j. g.each q (omega arith) (omega arith) ∙ pick_ne q (site a) _ _ (λ k. omega arith) }

  pub then_inner : (vs : List Act) (low : ℕ) (scope : ℕ → Outcome) (s : ℕ) (a : Act) (t : Term) → Numbered vs low (Then a t) → Agrees run (fate inputs view scope s (Then a t)) low (low + size (Then a t)) → Agrees run (inside inputs view scope s a) (low + 1) (low + act_size a)
  then_inner vs low scope s a t n g =
      let next_equal : site a ≡ low = act_site vs low a n.0 in
      let last_equal : site (head t) ≡ low + act_size a = head_site _ _ t n.1 in
      record { each = λ q i j. g.each q (omega arith) (omega arith) ∙ (pick_lt q (site (head t)) _ _ (omega arith) ∙ pick_ne q (site a) _ _ (λ k. omega arith)) }

  pub both_inner : (vs : List Act) (low : ℕ) (scope : ℕ → Outcome) (s : ℕ) (a : Act) (t : Term) → Numbered vs low (Both a t) → Agrees run (fate inputs view scope s (Both a t)) low (low + size (Both a t)) → Agrees run (inside inputs view scope s a) (low + 1) (low + act_size a)
  both_inner vs low scope s a t n g =
      let other_equal : site a ≡ low = act_site vs low a n.0 in
      let more_equal : site (head t) ≡ low + act_size a = head_site _ _ t n.1 in
      record { each = λ q i j. g.each q (omega arith) (omega arith) ∙ (pick_lt q (site (head t)) _ _ (omega arith) ∙ pick_ne q (site a) _ _ (λ k. omega arith)) }

  pub both_rest : (vs : List Act) (low : ℕ) (scope : ℕ → Outcome) (s : ℕ) (a : Act) (t : Term) → Numbered vs low (Both a t) → Agrees run (fate inputs view scope s (Both a t)) low (low + size (Both a t))
      → Agrees run (fate inputs view (bind scope (site a) (act_ends inputs view scope s a)) s t) (low + act_size a) (low + act_size a + size t)
  both_rest vs low scope s a t n g =
      let is_less : 0 < act_size a = act_size_positive a in
      let equal : site (head t) ≡ low + act_size a = head_site _ _ t n.1 in
      record { each = λ q i j. g.each q (omega arith) (omega arith) ∙ pick_ge q (site (head t)) _ _ (omega arith) }

  pub then_rest : (vs : List Act) (low : ℕ) (scope : ℕ → Outcome) (s : ℕ) (a : Act) (t : Term) → Numbered vs low (Then a t) → Agrees run (fate inputs view scope s (Then a t)) low (low + size (Then a t))
      → Part t (low + act_size a)
  then_rest vs low scope s a t n g =
      let next_is_less : 0 < act_size a = act_size_positive a in
      let next_equal : site (head t) ≡ low + act_size a = head_site _ _ t n.1 in
      go (act_ends inputs view scope s a) (λ q i j. g.each q (omega arith) (omega arith) ∙ pick_ge q (site (head t)) _ _ (omega arith))
    where
      go : (r : Outcome) → ((q : ℕ) → low + act_size a ≤ q → q < low + act_size a + size t → run q ≡ once inputs r (λ c v. fate inputs view (bind scope (site a) (Done c v)) c t q)) → Part t (low + act_size a)
      go Open w = none Waits idle_later (record { each = w })
      go (Done c v) w = done (nat_lt c inputs.count) refl
        where
          done : (b : Bool) → nat_lt c inputs.count ≡ b → Part t (low + act_size a)
          done false k = none Waits idle_later (record { each = λ q i j. let part = w q i j in rw k at part })
          done true k = some (bind scope (site a) (Done c v)) c (record { each = λ q i j. let next_part = w q i j in rw k at next_part })

  side : (b : Bool) (t : Term) (at : ℕ) (scope : ℕ → Outcome) (s : ℕ) → ((q : ℕ) → at ≤ q → q < at + size t → run q ≡ (if b then fate inputs view scope s t q else Lost)) → Part t at
  side true t at scope s w = some scope s (record { each = w })
  side false t at scope s w = none Lost idle_gone (record { each = w })

  other : (b : Bool) (t : Term) (at : ℕ) (scope : ℕ → Outcome) (s : ℕ) → ((q : ℕ) → at ≤ q → q < at + size t → run q ≡ (if b then Lost else fate inputs view scope s t q)) → Part t at
  other false t at scope s w = some scope s (record { each = w })
  other true t at scope s w = none Lost idle_gone (record { each = w })

  pub if_yes_is : (vs : List Act) (low : ℕ) (scope : ℕ → Outcome) (s p : ℕ) (e : Expr) (t u : Term) (w : Bool) → NumberedAct vs low (If p e t u w) → Agrees run (inside inputs view scope s (If p e t u w)) (low + 1) (low + act_size (If p e t u w))
      → (q : ℕ) → low + 1 ≤ q → q < low + 1 + size t → run q ≡ (if view.decide p s scope e then fate inputs view scope s t q else Lost)
  if_yes_is vs low scope s p e t u w n g q i j =
      let equal : site (head u) ≡ low + (1 + size t) = head_site _ _ u n.2 in
      g.each q (omega arith) (omega arith) ∙ pick_lt q (site (head u)) _ _ (omega arith)

  pub if_no_is : (vs : List Act) (low : ℕ) (scope : ℕ → Outcome) (s p : ℕ) (e : Expr) (t u : Term) (w : Bool) → NumberedAct vs low (If p e t u w) → Agrees run (inside inputs view scope s (If p e t u w)) (low + 1) (low + act_size (If p e t u w))
      → (q : ℕ) → low + (1 + size t) ≤ q → q < low + (1 + size t) + size u → run q ≡ (if view.decide p s scope e then Lost else fate inputs view scope s u q)
  if_no_is vs low scope s p e t u w n g q i j =
      let next_equal : site (head u) ≡ low + (1 + size t) = head_site _ _ u n.2 in
      g.each q (omega arith) (omega arith) ∙ pick_ge q (site (head u)) _ _ (omega arith)

  pub if_yes : (vs : List Act) (low : ℕ) (scope : ℕ → Outcome) (s p : ℕ) (e : Expr) (t u : Term) (w : Bool) → NumberedAct vs low (If p e t u w) → Agrees run (inside inputs view scope s (If p e t u w)) (low + 1) (low + act_size (If p e t u w)) → Part t (low + 1)
  if_yes vs low scope s p e t u w n g = side (view.decide p s scope e) t (low + 1) scope s (if_yes_is vs low scope s p e t u w n g)

  pub if_no : (vs : List Act) (low : ℕ) (scope : ℕ → Outcome) (s p : ℕ) (e : Expr) (t u : Term) (w : Bool) → NumberedAct vs low (If p e t u w) → Agrees run (inside inputs view scope s (If p e t u w)) (low + 1) (low + act_size (If p e t u w)) → Part u (low + (1 + size t))
  if_no vs low scope s p e t u w n g = other (view.decide p s scope e) u (low + (1 + size t)) scope s (if_no_is vs low scope s p e t u w n g)

  pub when_yes : (low : ℕ) (scope : ℕ → Outcome) (s p : ℕ) (e : Expr) (t : Term) → Agrees run (inside inputs view scope s (When p e t)) (low + 1) (low + act_size (When p e t)) → Part t (low + 1)
  when_yes low scope s p e t g = side (view.decide p s scope e) t (low + 1) scope s (λ q i j. g.each q (omega arith) (omega arith))

  pub block_in : (low : ℕ) (scope : ℕ → Outcome) (s p : ℕ) (t : Term) → Agrees run (inside inputs view scope s (Block p t)) (low + 1) (low + act_size (Block p t)) → Agrees run (fate inputs view scope s t) (low + 1) (low + 1 + size t)
  block_in low scope s p t g = record { each = λ q i j. g.each q (omega arith) (omega arith) }

  still_at : (w : Occurrence) (b : Spot) → Still (occurrence inputs view run) w (spot_site b) → occurrence inputs view run b ≡ w
  still_at w (TermBegin p) s = s.term_begin
  still_at w (TermEnd p) s = s.term_end
  still_at w (Begin p) s = s.begin
  still_at w (End p) s = s.end
  still_at w (NoSide p) s = s.no

  -- a point of a part of which nothing runs
  pub none_at : (t : Term) (at : ℕ) (w : Fate) → Idle (begin_at w) → Agrees run (λ q. w) at (at + size t) → (b : Spot) → at ≤ spot_site b → spot_site b < at + size t → occurrence inputs view run b ≡ begin_at w
  none_at t at w i g b l m = still_at (begin_at w) b (still inputs view run w i (spot_site b) (g.each (spot_site b) l m))

  pub runs_here : (vs : List Act) (low : ℕ) (scope : ℕ → Outcome) (s : ℕ) (t : Term) → Numbered vs low t → Agrees run (fate inputs view scope s t) low (low + size t) → run low ≡ Runs scope s t
  runs_here vs low scope s t n g = let is_less : 0 < size t = size_positive t in g.each low (omega arith) (omega arith) ∙ fate_head inputs view scope s vs low t n

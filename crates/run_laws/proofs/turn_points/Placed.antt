-- Where the acts of a turn stand in the text, and what the order law says of their begins and ends.
--
-- An act that has begun stands at its site in a scope whose variables are those of the text, so a demand on that place of the
-- text speaks of it. From this three demands are carried over to a run: variables are made before they are read, no `if`
-- decides again while its side is in use, and two sets of one register are apart. The hard case of the last two is two acts of
-- different turns: of the next turn by the order law, of any earlier one since everything has ended there.
use Rattle.std.proofs.Common.{◌≡◌, ℕ, ◌+◌, ◌-◌, ◌<◌, ◌≤◌, ◌⊎◌, inl, inr, arith, refl, sym, ◌∙◌, ap, subst, List, [], ◌∷◌, Bool, true, false, if◌then◌else◌, nat_lt, zero, suc, Option, Some, None}
use Rattle.std.proofs.lemmas.Bool.Decides.{nat_tests}
use Rattle.std.proofs.lemmas.Int.{ints}
use Rattle.std.specs.Prelude.{pos}
use Rattle.core_term.specs.Term.{Expr, Term, One, Then, Both, Act, Cycle, Set, Send, Recv, If, When, Block, Wait, Pure, Nothing, site, head}
use Rattle.core_term.specs.Value.{Value, Outcome, Open, Done, value, Choice}
use Rattle.core_term.specs.Inputs.{Inputs}
use Rattle.core_term.specs.Ends.{Sees, bind, ends, act_ends}
use Rattle.core_term.specs.Fate.{Fate, Waits, Lost, Runs, fate, inside}
use Rattle.core_term.specs.Points.{Spot, TermEnd, Begin, End}
use Rattle.core_term.specs.Occurs.{Gone, At, occurrence, begin_at, end_at, of_outcome}
use Rattle.core_term.specs.Numbering.{size, act_size, OneOf, Numbered, NumberedAct}
use Rattle.core_term.specs.Turns.{begins, run_from, run_of, no_variable, next_begin, begin_after}
use Rattle.core_term.specs.Sources.{Source, WireOf, RegOf, ChoiceOf, expr_sources, act_sources, sources_in}
use Rattle.core_term.specs.Lists.{Has}
use Rattle.core_term.specs.Acts.{Sets, Reads}
use Rattle.core_term.specs.Order.{point, Precedes}
use Rattle.run_laws.proofs.safe_runs.Premises.{UsesAtOnce, MadeFirst, SetsApart, ChoicesKept}
use Rattle.run_laws.proofs.turn_points.Idle.{idle_not, later as idle_later, gone as idle_gone}
use Rattle.core_term.proofs.code_tables.FirstSites.{head_site}
use Rattle.run_laws.proofs.turn_points.Live.{not_gone}
use Rattle.run_laws.proofs.turn_points.Order.{act_from, order_law, later_turn, Occurs, body_end}
use Rattle.run_laws.proofs.turn_points.NotBefore.{BeginsFrom, fate_from}
use Rattle.run_laws.proofs.turn_points.Sites.{Sub, Found, sub}
use Rattle.run_laws.proofs.turn_points.Sound.{Matches, expr_covers, Known, known_bind, act_covers}
use Rattle.run_laws.proofs.turn_points.Live.{Agrees}
use Rattle.run_laws.proofs.turn_points.Tails.{ended, EndedIn}

-- the sources of a scope cover its values
abbrev pub Covered : Inputs → Sees → (ℕ → Fate) → List Act → (ℕ → Outcome) → Type 0
Covered inputs view run vs scope = Known inputs view run (sources_in vs) scope

pub covered_on : (inputs : Inputs) (view : Sees) (run : ℕ → Fate) (vs : List Act) (low : ℕ) (scope : ℕ → Outcome) (s : ℕ) (a : Act) (u : Term) (o : Outcome) → NumberedAct vs low a → Agrees run (inside inputs view scope s a) (low + 1) (low + act_size a) → head u ≡ a → run low ≡ Runs scope s u
    → Covered inputs view run vs scope → act_ends inputs view scope s a ≡ o → Covered inputs view run (a ∷ vs) (bind scope (site a) o)
covered_on inputs view run vs low scope s a u o n g i j k e = known_bind inputs view run (sources_in vs) scope (site a) o (act_sources (sources_in vs) a) k (λ d w q. act_covers inputs view run vs low (sources_in vs) scope s a n g u i j k d w (e ∙ q))

module _ (inputs : Inputs) (view : Sees) (body : Term) (numbered : Numbered [] 0 body) where
  -- the act of the site q in turn i has begun at s
  pub record Ran (i q : ℕ) (scope : ℕ → Outcome) (s : ℕ) (u : Term) : Type 0 where
    pub inside : q < size body
    pub runs : run_of inputs view body i q ≡ Runs scope s u

  start_of : Option ℕ → ℕ
  start_of None = 0
  start_of (Some s) = s

  pub some_start : (o : Option ℕ) (q : ℕ) (scope : ℕ → Outcome) (s : ℕ) (u : Term) → run_from inputs view body o q ≡ Runs scope s u → (b : ℕ) × (o ≡ Some b)
  some_start None q scope s u e = absurd cc
  some_start (Some b) q scope s u e = (b, refl)

  short : (o : Option ℕ) (b : ℕ) → next_begin inputs view body o ≡ Some b → b < inputs.count
  short None b e = absurd cc
  short (Some a) b e = go (ends inputs view no_variable a body) e
    where
      go : (r : Outcome) → begin_after inputs r ≡ Some b → b < inputs.count
      go Open f = absurd cc
      go (Done c v) f = done (nat_lt c inputs.count) refl f
        where
          done : (d : Bool) → nat_lt c inputs.count ≡ d → (if d then Some c else None) ≡ Some b → b < inputs.count
          done true k g = let equal : c ≡ b = cc in let is_less : c < inputs.count = grind (arith, nat_tests) in omega arith
          done false k g = absurd cc

  -- a turn begins within the list
  pub begins_short : (i b : ℕ) → begins inputs view body i ≡ Some b → b < inputs.count
  begins_short zero b e = go (nat_lt 0 inputs.count) refl e
    where
      go : (c : Bool) → nat_lt 0 inputs.count ≡ c → (if c then Some 0 else None) ≡ Some b → b < inputs.count
      go true k f = let next_equal : 0 ≡ b = cc in let next_is_less : 0 < inputs.count = grind (arith, nat_tests) in omega arith
      go false k f = absurd cc
  begins_short (suc i) b e = short (begins inputs view body i) b e

  place_in : (i q : ℕ) (o : Option ℕ) (b : ℕ) → o ≡ Some b → b < inputs.count → q < size body → Found inputs view (run_from inputs view body o) body b (Covered inputs view (run_from inputs view body o)) (covered_on inputs view (run_from inputs view body o)) q
  place_in i q o b e l m =
      let Statement : Option ℕ → Type 0 = λ z. Found inputs view (run_from inputs view body z) body b (Covered inputs view (run_from inputs view body z)) (covered_on inputs view (run_from inputs view body z)) q in
      subst Statement (sym e) (sub inputs view (run_from inputs view body (Some b)) body b (Covered inputs view (run_from inputs view body (Some b))) (covered_on inputs view (run_from inputs view body (Some b))) q [] 0 no_variable b body numbered (record { each = λ q l m. refl }) (λ y k. elim k [ ]) (λ ws u z. z) (λ y e v k. absurd cc) (omega arith, l) (omega arith) (omega arith))

  pub place : (i q : ℕ) (scope : ℕ → Outcome) (s : ℕ) (u : Term) → Ran i q scope s u → (b : ℕ) × (vs : List Act) × (begins inputs view body i ≡ Some b) × Sub inputs view (run_of inputs view body i) body b (Covered inputs view (run_of inputs view body i)) (covered_on inputs view (run_of inputs view body i)) vs scope s u q
  place i q scope s u r =
      let by_some_start = some_start (begins inputs view body i) q scope s u r.runs in
      let by_place_in = place_in i q (begins inputs view body i) by_some_start.0 by_some_start.1 (begins_short i by_some_start.0 by_some_start.1) r.inside in
      let fact = rw r.runs at by_place_in.is in
      (by_some_start.0, fact.0, by_some_start.1, fact.1)

  pub at_begin : (i q : ℕ) (scope : ℕ → Outcome) (s : ℕ) (u : Term) → Ran i q scope s u → occurrence inputs view (run_of inputs view body i) (Begin q) ≡ At s
  at_begin i q scope s u r = ap begin_at r.runs

  pub site_is : (i q : ℕ) (scope : ℕ → Outcome) (s : ℕ) (u : Term) → Ran i q scope s u → site (head u) ≡ q
  site_is i q scope s u r = let by_place = place i q scope s u r in head_site by_place.1 q u by_place.3.numbered

  scoped : (vs : List Act) (q : ℕ) (a : Act) (y : ℕ) → NumberedAct vs q a → Reads a y → OneOf vs y
  scoped vs q (Set p r e) y n k = n.1 y k
  scoped vs q (Send p m e) y n k = n.1 y k
  scoped vs q (If p e t u w) y n k = n.3 y k
  scoped vs q (When p e t) y n k = n.2 y k
  scoped vs q (Pure p e) y n k = n.1 y k
  scoped vs q (Cycle p m) y n k = elim k [ ]
  scoped vs q (Recv p m) y n k = elim k [ ]
  scoped vs q (Block p t) y n k = elim k [ ]
  scoped vs q (Wait p z) y n k = elim k [ ]
  scoped vs q (Nothing p) y n k = elim k [ ]

  pub scoped_term : (vs : List Act) (q : ℕ) (u : Term) (y : ℕ) → Numbered vs q u → Reads (head u) y → OneOf vs y
  scoped_term vs q (One a) y n k = scoped vs q a y n k
  scoped_term vs q (Then a t) y n k = scoped vs q a y n.0 k
  scoped_term vs q (Both a t) y n k = scoped vs q a y n.0 k

  pub done_from : (o : Outcome) (t : ℕ) → of_outcome o ≡ At t → (v : Value) × (o ≡ Done t v)
  done_from Open t e = absurd (idle_not idle_later e)
  done_from (Done a v) t e = let equal : a ≡ t = cc in (v, ap (λ a. Done a v) equal)

  -- each variable is made before it is read
  pub made_first : MadeFirst body → (i q : ℕ) (scope : ℕ → Outcome) (s : ℕ) (u : Term) → Ran i q scope s u → (y : ℕ) → Reads (head u) y → (e : ℕ) × (v : Value) × (scope y ≡ Done e v) × (e ≤ s)
  made_first rule i q scope s u r y k =
      let next_by_place = place i q scope s u r in
      let by_scope = next_by_place.3.scope y (scoped_term next_by_place.1 q u y next_by_place.3.numbered k) in
      let next_equal : occurrence inputs view (run_of inputs view body i) (Begin (site (head u))) ≡ At s = rw (site_is i q scope s u r) (at_begin i q scope s u r) in
      let is_less : s < inputs.count = next_by_place.3.fits.1 in
      elim (order_law inputs view body numbered i 0 (point false (End y)) (point false (Begin (site (head u)))) (pos 0) (rule next_by_place.1 u next_by_place.3.stands y k) (inl refl) s next_equal (omega (arith, ints))) [
        | inl lost ↦ absurd (not_gone inputs view (run_of inputs view body i) (scope y) (sym by_scope.1 ∙ lost))
        | inr z ↦ let by_done_from = done_from (scope y) z.0 (sym by_scope.1 ∙ z.2) in (z.0, by_done_from.0, by_done_from.1, omega (arith, ints))
      ]

  -- the act that makes a variable has ended by then
  pub made_there : MadeFirst body → (i q : ℕ) (scope : ℕ → Outcome) (s : ℕ) (u : Term) → Ran i q scope s u → (y : ℕ) → Reads (head u) y → (e : ℕ) × (occurrence inputs view (run_of inputs view body i) (End y) ≡ At e) × (e ≤ s)
  made_there rule i q scope s u r y k =
      let by_place = place i q scope s u r in
      let next_by_scope = by_place.3.scope y (scoped_term by_place.1 q u y by_place.3.numbered k) in
      let by_made_first = made_first rule i q scope s u r y k in
      (by_made_first.0, next_by_scope.1 ∙ ap of_outcome by_made_first.2, by_made_first.3)

  -- a begin of turn i, against any point that the text puts after it
  begins_by : (i k q : ℕ) (scope : ℕ → Outcome) (s : ℕ) (u : Term) → Ran i q scope s u → (l : Bool) (b : Spot) (d t : ℕ) → Precedes body (point false (Begin (site (head u)))) (pos d) (point l b) → Occurs inputs view body numbered i k (point l b) t → t < inputs.count + d → s + d ≤ t
  begins_by i k q scope s u r l b d t p e m =
      let equal : occurrence inputs view (run_of inputs view body i) (Begin (site (head u))) ≡ At s = rw (site_is i q scope s u r) (at_begin i q scope s u r) in
      elim (order_law inputs view body numbered i k (point false (Begin (site (head u)))) (point l b) (pos d) p (inl refl) t e (omega (arith, ints))) [
        | inl lost ↦ let next_equal : At s ≡ Gone = sym equal ∙ lost in absurd (idle_not idle_gone (sym next_equal))
        | inr z ↦ let last_equal : At s ≡ At z.0 = sym equal ∙ z.2 in let other_equal : s ≡ z.0 = cc in omega (arith, ints)
      ]

  pub set_end : (scope : ℕ → Outcome) (s r : ℕ) (a : Act) → Sets a r → of_outcome (act_ends inputs view scope s a) ≡ At (s + 1)
  set_end scope s r (Set p q e) k = refl
  set_end scope s r (Cycle p n) k = elim k [ ]
  set_end scope s r (Send p m e) k = elim k [ ]
  set_end scope s r (Recv p m) k = elim k [ ]
  set_end scope s r (If p e t u w) k = elim k [ ]
  set_end scope s r (When p e t) k = elim k [ ]
  set_end scope s r (Block p t) k = elim k [ ]
  set_end scope s r (Wait p y) k = elim k [ ]
  set_end scope s r (Pure p e) k = elim k [ ]
  set_end scope s r (Nothing p) k = elim k [ ]

  -- the end of a set, against a point of the same turn
  set_by : (i q : ℕ) (scope : ℕ → Outcome) (s r : ℕ) (u : Term) → Ran i q scope s u → Sets (head u) r → (b : Spot) (t : ℕ) → Precedes body (point false (End (site (head u)))) (pos 0) (point false b) → occurrence inputs view (run_of inputs view body i) b ≡ At t → t < inputs.count → s < t
  set_by i q scope s r u n k b t p e m =
      let more_equal : occurrence inputs view (run_of inputs view body i) (End (site (head u))) ≡ At (s + 1) = rw (site_is i q scope s u n) (ap (end_at inputs view) n.runs ∙ set_end scope s r (head u) k) in
      elim (order_law inputs view body numbered i 0 (point false (End (site (head u)))) (point false b) (pos 0) p (inl refl) t e (omega (arith, ints))) [
        | inl lost ↦ let further_equal : At (s + 1) ≡ Gone = sym more_equal ∙ lost in absurd (idle_not idle_gone (sym further_equal))
        | inr z ↦ let equal : At (s + 1) ≡ At z.0 = sym more_equal ∙ z.2 in let next_equal : s + 1 ≡ z.0 = cc in omega (arith, ints)
      ]

  pub turn_end : (o : Option ℕ) (b e : ℕ) → o ≡ Some b → occurrence inputs view (run_from inputs view body o) (TermEnd (site (head body))) ≡ At e → of_outcome (ends inputs view no_variable b body) ≡ At e
  turn_end o b e k l =
      let Statement : Option ℕ → Type 0 = λ z. occurrence inputs view (run_from inputs view body z) (TermEnd (site (head body))) ≡ At e in
      sym (body_end inputs view body numbered b) ∙ subst Statement k l

  pub ended_in : (i q : ℕ) (o : Option ℕ) (b e : ℕ) → o ≡ Some b → of_outcome (ends inputs view no_variable b body) ≡ At e → q < size body → EndedIn inputs view (run_from inputs view body o) (run_from inputs view body o q) e (e + 1)
  ended_in i q o b e k l m =
      let next_Statement : Option ℕ → Type 0 = λ z. EndedIn inputs view (run_from inputs view body z) (run_from inputs view body z q) e (e + 1) in
      subst next_Statement (sym k) (ended inputs view (run_from inputs view body (Some b)) [] 0 no_variable b body e numbered (record { each = λ q l m. refl }) l q (omega arith) (omega arith)).is

  -- a set of an earlier turn has ended by the begin of a later one
  set_earlier : (j k q : ℕ) (scope : ℕ → Outcome) (s r : ℕ) (u : Term) → Ran j q scope s u → Sets (head u) r → (b : ℕ) → begins inputs view body (suc (k + j)) ≡ Some b → s < b
  set_earlier j k q scope s r u n m b e =
      let by_later_turn = later_turn inputs view body numbered j k b e in
      let by_some_start = some_start (begins inputs view body j) q scope s u n.runs in
      let by_ended_in = ended_in j q (begins inputs view body j) by_some_start.0 by_later_turn.0 by_some_start.1 (turn_end (begins inputs view body j) by_some_start.0 by_later_turn.0 by_some_start.1 by_later_turn.2) n.inside in
      let fact = rw n.runs at by_ended_in in
      let equal : At (s + 1) ≡ At fact.0 = sym (set_end scope s r (head u) m) ∙ fact.1 in
      let next_equal : s + 1 ≡ fact.0 = cc in
      omega (arith, fact.2, by_later_turn.1)

  -- what began in an earlier turn began by the begin of a later one
  begun_earlier : (j k q : ℕ) (scope : ℕ → Outcome) (s : ℕ) (u : Term) → Ran j q scope s u → (b : ℕ) → begins inputs view body (suc (k + j)) ≡ Some b → s ≤ b
  begun_earlier j k q scope s u n b e =
      let next_by_later_turn = later_turn inputs view body numbered j k b e in
      let next_by_some_start = some_start (begins inputs view body j) q scope s u n.runs in
      let next_by_ended_in = ended_in j q (begins inputs view body j) next_by_some_start.0 next_by_later_turn.0 next_by_some_start.1 (turn_end (begins inputs view body j) next_by_some_start.0 next_by_later_turn.0 next_by_some_start.1 next_by_later_turn.2) n.inside in
      let next_fact = rw n.runs at next_by_ended_in in
      let at_most : s ≤ next_fact.0 = act_from inputs view scope s (head u) next_fact.0 next_fact.1 in
      omega (arith, next_fact.2, next_by_later_turn.1)

  pub begin_since : (o : Option ℕ) (b p t : ℕ) → o ≡ Some b → occurrence inputs view (run_from inputs view body o) (Begin p) ≡ At t → b ≤ t
  begin_since o b p t k l =
      let Statement : Option ℕ → Type 0 = λ z. occurrence inputs view (run_from inputs view body z) (Begin p) ≡ At t in
      go (fate inputs view no_variable b body p) (subst Statement k l) (fate_from inputs view no_variable b body p)
    where
      go : (w : Fate) → begin_at w ≡ At t → BeginsFrom b w → b ≤ t
      go Waits e m = absurd (idle_not idle_later e)
      go Lost e m = absurd (idle_not idle_gone e)
      go (Runs scope s u) e m = let equal : s ≡ t = cc in omega arith

  pub data Turns (i j : ℕ) : Type 0 where
    same : i ≡ j → Turns i j
    next : (k : ℕ) → j ≡ suc (k + i) → Turns i j
    past : (k : ℕ) → i ≡ suc (k + j) → Turns i j

  pub turns : (i j : ℕ) → Turns i j
  turns i j = go (nat_lt i j) refl (nat_lt j i) refl
    where
      go : (b : Bool) → nat_lt i j ≡ b → (c : Bool) → nat_lt j i ≡ c → Turns i j
      go true e c f = let is_less : i < j = grind (arith, nat_tests) in next (j - suc i) (omega arith)
      go false e true f = let next_is_less : j < i = grind (arith, nat_tests) in past (i - suc j) (omega arith)
      go false e false f = let next_at_most : j ≤ i = grind (arith, nat_tests) in let last_at_most : i ≤ j = grind (arith, nat_tests) in same (omega arith)

  at_true : (i k w s : ℕ) (j : ℕ) → j ≡ suc (k + i) → occurrence inputs view (run_of inputs view body j) (Begin w) ≡ At s → Occurs inputs view body numbered i k (point true (Begin w)) s
  at_true i k w s j e f = let next_Statement : ℕ → Type 0 = λ z. occurrence inputs view (run_of inputs view body z) (Begin w) ≡ At s in subst next_Statement e f

  -- no `if` decides again while its side is in use, for a use in the cycle of a begin
  pub choices_kept : ChoicesKept body → (i q : ℕ) (scope : ℕ → Outcome) (s : ℕ) (u : Term) → Ran i q scope s u → (e : Expr) → UsesAtOnce (head u) e → (p t : ℕ) → Has (value view.registers scope s e).atoms (Choice p t)
      → (j : ℕ) (scope' : ℕ → Outcome) (s' : ℕ) (v : Term) → Ran j p scope' s' v → t < s' → s' ≤ s → ⊥
  choices_kept rule i q scope s u n e k p t has j scope' s' v m l l' = go c.0 c.1 c.2
    where
      at_p : occurrence inputs view (run_of inputs view body j) (Begin p) ≡ At s'
      at_p = at_begin j p scope' s' v m

      short' : s' < inputs.count
      short' = (place j p scope' s' v m).3.fits.1

      g : (b : ℕ) × (vs : List Act) × (begins inputs view body i ≡ Some b) × Sub inputs view (run_of inputs view body i) body b (Covered inputs view (run_of inputs view body i)) (covered_on inputs view (run_of inputs view body i)) vs scope s u q
      g = place i q scope s u n

      b : occurrence inputs view (run_of inputs view body i) (Begin (site (head u))) ≡ At s
      b = rw (site_is i q scope s u n) (at_begin i q scope s u n)

      c : (a : Source) × Has (expr_sources (site (head u)) (sources_in g.1) e) a × Matches inputs view (run_of inputs view body i) a (Choice p t)
      c = (expr_covers inputs view (run_of inputs view body i) (sources_in g.1) scope (site (head u)) s e b g.3.known).each (Choice p t) has

      split : occurrence inputs view (run_of inputs view body i) (Begin p) ≡ At t → Precedes body (point false (Begin (site (head u)))) (pos 1) (point true (Begin p)) → Turns i j → ⊥
      split at_i f (same z) =
          let y' = short' in
          let Statement : ℕ → Type 0 = λ z. occurrence inputs view (run_of inputs view body z) (Begin p) ≡ At t in
          let equal : At t ≡ At s' = sym (subst Statement z at_i) ∙ at_p in let next_equal : t ≡ s' = cc in omega arith
      split at_i f (next d z) = let y' = short' in let by_begins_by = begins_by i d q scope s u n true (Begin p) 1 s' f (at_true i d p s' j z at_p) (omega arith) in omega arith
      split at_i f (past d z) =
          let next_Statement : ℕ → Type 0 = λ z. begins inputs view body z ≡ Some g.0 in
          let a' = begin_since (begins inputs view body i) g.0 p t g.2 at_i in
          let by_begun_earlier = begun_earlier j d p scope' s' v m g.0 (subst next_Statement z g.2) in omega arith

      go : (a : Source) → Has (expr_sources (site (head u)) (sources_in g.1) e) a → Matches inputs view (run_of inputs view body i) a (Choice p t) → ⊥
      go (WireOf p') i' f = f
      go (RegOf p' r) i' f = f
      go (ChoiceOf p') i' f = split (rw f.0 f.1) (rule g.1 u g.3.stands e k p (rw f.0 i')) (turns i j)

  -- of two sets of a register at most one begins in a cycle
  pub sets_apart : SetsApart body → (i q : ℕ) (scope : ℕ → Outcome) (s : ℕ) (u : Term) → Ran i q scope s u → (j w : ℕ) (scope' : ℕ → Outcome) (v : Term) → Ran j w scope' s v
      → (r : ℕ) → Sets (head u) r → Sets (head v) r → (i ≡ j) × (q ≡ w)
  sets_apart rule i q scope s u n j w scope' v m r k l = go (turns i j)
    where
      g : (b : ℕ) × (vs : List Act) × (begins inputs view body i ≡ Some b) × Sub inputs view (run_of inputs view body i) body b (Covered inputs view (run_of inputs view body i)) (covered_on inputs view (run_of inputs view body i)) vs scope s u q
      g = place i q scope s u n

      g' : (b : ℕ) × (vs : List Act) × (begins inputs view body j ≡ Some b) × Sub inputs view (run_of inputs view body j) body b (Covered inputs view (run_of inputs view body j)) (covered_on inputs view (run_of inputs view body j)) vs scope' s v w
      g' = place j w scope' s v m

      is_u : site (head u) ≡ q
      is_u = site_is i q scope s u n

      is_v : site (head v) ≡ w
      is_v = site_is j w scope' s v m

      b : occurrence inputs view (run_of inputs view body i) (Begin (site (head u))) ≡ At s
      b = rw is_u (at_begin i q scope s u n)

      b' : occurrence inputs view (run_of inputs view body j) (Begin (site (head v))) ≡ At s
      b' = rw is_v (at_begin j w scope' s v m)

      go : Turns i j → (i ≡ j) × (q ≡ w)
      go (next d z) =
          let Statement : ℕ → Type 0 = λ z. begins inputs view body z ≡ Some g'.0 in
          let by_set_earlier = set_earlier i d q scope s r u n k g'.0 (subst Statement z g'.2) in
          let by_fits = g'.3.fits.0 in absurd (omega arith)
      go (past d z) =
          let next_Statement : ℕ → Type 0 = λ z. begins inputs view body z ≡ Some g.0 in
          let next_by_set_earlier = set_earlier j d w scope' s r v m l g.0 (subst next_Statement z g.2) in
          let next_by_fits = g.3.fits.0 in absurd (omega arith)
      go (same z) = (z, apart_or (same_or_not q w))
        where
          same_or_not : (a c : ℕ) → (a ≡ c) ⊎ (a ≡ c → ⊥)
          same_or_not a c = grind arith

          apart_or : (q ≡ w) ⊎ (q ≡ w → ⊥) → q ≡ w
          apart_or (inl e) = e
          apart_or (inr f) =
              let last_Statement : ℕ → Type 0 = λ y. occurrence inputs view (run_of inputs view body y) (Begin (site (head v))) ≡ At s in
              let other_Statement : ℕ → Type 0 = λ y. occurrence inputs view (run_of inputs view body y) (Begin (site (head u))) ≡ At s in
              let last_by_fits = g.3.fits.1 in
              elim (rule g.1 g'.1 u v g.3.stands g'.3.stands r k l (λ e. f (sym is_u ∙ (e ∙ is_v)))) [
                | inl a ↦ let by_set_by = set_by i q scope s r u n k (Begin (site (head v))) s a (subst last_Statement (sym z) b') last_by_fits in absurd (omega arith)
                | inr a ↦ let next_by_set_by = set_by j w scope' s r v m l (Begin (site (head u))) s a (subst other_Statement z b) last_by_fits in absurd (omega arith)
              ]

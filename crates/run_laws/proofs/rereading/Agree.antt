-- Two walks through one body over the same rows agree up to a cycle, where each `if` that both reach by then decides alike.
--
-- Acts, begins and outcomes up to the cycle are the same, by induction over terms. It is not asked of all `if`s at once: to
-- know that one decides alike, everything before its site may be used. That is what the induction over sites of a cycle needs.
use Rattle.std.proofs.Common.{◌≡◌, ℕ, ◌+◌, ◌<◌, ◌≤◌, arith, refl, sym, ◌∙◌, ap, subst, List, [], ◌∷◌, Bool, true, false, if◌then◌else◌, nat_lt, nat_le}
use Rattle.std.proofs.lemmas.Bool.Decides.{nat_tests}
use Rattle.core_term.specs.Term.{Expr, Term, One, Then, Both, Act, Cycle, Set, Send, Recv, If, When, Block, Wait, Pure, Nothing, site, head}
use Rattle.core_term.specs.Value.{Value, Outcome, Open, Done, nothing, Wire}
use Rattle.core_term.specs.Inputs.{Inputs}
use Rattle.core_term.specs.Ends.{Sees, bind, ends, act_ends, after_end, decided}
use Rattle.core_term.specs.Fate.{Fate, Waits, Lost, Runs, fate, inside, once}
use Rattle.core_term.specs.Occurs.{At, of_outcome}
use Rattle.core_term.specs.Numbering.{size, act_size, Numbered, NumberedAct}
use Rattle.core_term.specs.Acts.{Asks}
use Rattle.core_term.proofs.code_tables.FirstSites.{head_site, act_size_positive}
use Rattle.run_laws.proofs.turn_points.Live.{Agrees, pick_ge}
use Rattle.run_laws.proofs.turn_points.Parts.{one_inner, then_inner, both_inner, both_rest, if_yes_is, if_no_is, block_in, runs_here}
use Rattle.run_laws.proofs.turn_points.Order.{from}
use Rattle.run_laws.proofs.turn_points.NotBefore.{BeginsFrom, fate_from}
use Rattle.run_laws.proofs.source_runs.Causal.{SameTo, SameScope, turn_round, same_bind, same_refl, value_same, found_there, decided_there, waited_there, later_there, SameFate, Late, same_late, waits_late, late_from}

lost_late : (t : ℕ) → Late t Lost
lost_late t scope s u e l = cc

pub late_as : {t : ℕ} {w w' : Fate} → w ≡ w' → Late t w' → Late t w
late_as e k scope s u f l = k scope s u (sym e ∙ f) l

-- whether an outcome is there by cycle t
pub data By (t : ℕ) (o : Outcome) : Type 0 where
  by : (c : ℕ) (v : Value) → o ≡ Done c v → c ≤ t → By t o
  not_by : ((c : ℕ) (v : Value) → o ≡ Done c v → c ≤ t → ⊥) → By t o

pub by_when : (t : ℕ) (o : Outcome) → By t o
by_when t Open = not_by (λ c v e l. cc)
by_when t (Done a v) = go (nat_le a t) refl
  where
    go : (b : Bool) → nat_le a t ≡ b → By t (Done a v)
    go true e = let at_most : a ≤ t = grind (arith, nat_tests) in by a v refl at_most
    go false e = let is_less : t < a = grind (arith, nat_tests) in not_by (λ c w f l. let equal : a ≡ c = cc in omega arith)

-- the same rows up to cycle t
pub record RowsTo (t : ℕ) (inputs inputs' : Inputs) : Type 0 where
  pub long : t < inputs.count
  pub long' : t < inputs'.count
  pub valid : (m u : ℕ) → u ≤ t → inputs.valid m u ≡ inputs'.valid m u
  pub data_at : (m u : ℕ) → u ≤ t → inputs.data_at m u ≡ inputs'.data_at m u
  pub ack : (m u : ℕ) → u ≤ t → inputs.ack m u ≡ inputs'.ack m u

module _ (t : ℕ) (inputs inputs' : Inputs) (view view' : Sees) (run run' : ℕ → Fate) (rows : RowsTo t inputs inputs') (regs : (s r : ℕ) → s ≤ t → view.registers s r ≡ view'.registers s r) where
  abbrev pub SameBefore : ℕ → Type 0
  SameBefore low = (p : ℕ) → p < low → SameFate t (run p) (run' p)

  abbrev Within : ℕ → ℕ → Type 0
  Within low high = (p : ℕ) → low ≤ p → p < high → SameFate t (run p) (run' p)

  together : (low high : ℕ) → SameBefore low → Within low high → SameBefore high
  together low high f g p l = go (nat_lt p low) refl
    where
      go : (b : Bool) → nat_lt p low ≡ b → SameFate t (run p) (run' p)
      go true e = let next_is_less : p < low = grind (arith, nat_tests) in f p next_is_less
      go false e = let next_at_most : low ≤ p = grind (arith, nat_tests) in g p next_at_most l

  -- each `if` that both reach by t decides alike, if all before it does
  abbrev pub DecideAlike : Type 0
  DecideAlike = (q s : ℕ) (scope scope' : ℕ → Outcome) (u : Term) (f : Expr) → run q ≡ Runs scope s u → run' q ≡ Runs scope' s u → Asks (head u) f → s ≤ t → SameScope t scope scope' → SameBefore q → view.decide q s scope f ≡ view'.decide q s scope' f

  module _ (alike : DecideAlike) where
    late_once : (z : Inputs) (r : Outcome) (k : ℕ → Value → Fate) → ((c : ℕ) (v : Value) → r ≡ Done c v → c ≤ t → ⊥) → ((c : ℕ) (v : Value) → BeginsFrom c (k c v)) → Late t (once z r k)
    late_once z Open k f g = waits_late t
    late_once z (Done c v) k f g = go (nat_lt c z.count) (nat_le c t) refl
      where
        go : (b d : Bool) → nat_le c t ≡ d → Late t (if b then k c v else Waits)
        go true true e = let at_most : c ≤ t = grind (arith, nat_tests) in λ scope s u i m. f c v refl at_most
        go true false e = let is_less : t < c = grind (arith, nat_tests) in late_from t c (k c v) is_less (g c v)
        go false d e = waits_late t

    late_end : (z : Inputs) (r : Outcome) (k : ℕ → Value → Outcome) → ((c : ℕ) (v : Value) → r ≡ Done c v → c ≤ t → ⊥) → ((c : ℕ) (v : Value) (e : ℕ) → of_outcome (k c v) ≡ At e → c ≤ e) → (e : ℕ) (v : Value) → e ≤ t → after_end z r k ≡ Done e v → ⊥
    late_end z Open k f g e v l q = cc
    late_end z (Done c w) k f g e v l q = go (nat_lt c z.count) q
      where
        go : (b : Bool) → (if b then k c w else Open) ≡ Done e v → ⊥
        go true i = let next_at_most : c ≤ e = g c w e (ap of_outcome i) in f c w refl (omega arith)
        go false i = cc

    own : (low : ℕ) (scope scope' : ℕ → Outcome) (s : ℕ) (u : Term) → run low ≡ Runs scope s u → run' low ≡ Runs scope' s u → SameScope t scope scope' → SameFate t (run low) (run' low)
    own low scope scope' s u e e' k = record {
      there = λ a b c f l. let by_runs_parts = runs_parts f e in (scope', rw (by_runs_parts.1, by_runs_parts.2) e', subst (λ y. SameScope t y scope') (sym by_runs_parts.0) k);
      back = λ a b c f l. let next_by_runs_parts = runs_parts f e' in (scope, rw (next_by_runs_parts.1, next_by_runs_parts.2) e, subst (λ y. SameScope t scope y) (sym next_by_runs_parts.0) k);
    }
      where
        env_of : Fate → ℕ → Outcome
        env_of Waits = scope
        env_of Lost = scope
        env_of (Runs a b c) = a

        runs_parts : {w : Fate} {a a' : ℕ → Outcome} {b b' : ℕ} {c c' : Term} → w ≡ Runs a b c → w ≡ Runs a' b' c' → (a ≡ a') × (b ≡ b') × (c ≡ c')
        runs_parts {a = a} {a' = a'} p q = (ap env_of (sym p ∙ q), cc, cc)

    lost_both : (low high : ℕ) → ((q : ℕ) → low ≤ q → q < high → run q ≡ Lost) → ((q : ℕ) → low ≤ q → q < high → run' q ≡ Lost) → Within low high
    lost_both low high f g p l m = same_late (late_as (f p l m) (lost_late t)) (late_as (g p l m) (lost_late t))

    seam : (low mid high : ℕ) → Within low mid → Within mid high → Within low high
    seam low mid high f g p l m = go (nat_lt p mid) refl
      where
        go : (b : Bool) → nat_lt p mid ≡ b → SameFate t (run p) (run' p)
        go true e = let is_less : p < mid = grind (arith, nat_tests) in f p l is_less
        go false e = let at_most : mid ≤ p = grind (arith, nat_tests) in g p at_most m

    first_then : (low high : ℕ) → SameFate t (run low) (run' low) → Within (low + 1) high → Within low high
    first_then low high f g p l m = go (nat_lt low p) refl
      where
        go : (b : Bool) → nat_lt low p ≡ b → SameFate t (run p) (run' p)
        go true e = let next_is_less : low < p = grind (arith, nat_tests) in g p (omega arith) m
        go false e = let next_at_most : p ≤ low = grind (arith, nat_tests) in let k' : low ≡ p = omega arith in subst (λ z. SameFate t (run z) (run' z)) k' f

    one_more : (low : ℕ) → SameBefore low → SameFate t (run low) (run' low) → SameBefore (low + 1)
    one_more low f g = together low (low + 1) f (λ p l m. let equal : low ≡ p = omega arith in subst (λ z. SameFate t (run z) (run' z)) equal g)

    -- what goes on after an act
    rest_is : (y : Inputs) (vs : List Act) (low : ℕ) (g : Sees) (r : ℕ → Fate) (scope : ℕ → Outcome) (s : ℕ) (a : Act) (u : Term) → Numbered vs low (Then a u) → Agrees r (fate y g scope s (Then a u)) low (low + size (Then a u)) → (q : ℕ) → low + act_size a ≤ q → q < low + act_size a + size u
        → r q ≡ once y (act_ends y g scope s a) (λ c v. fate y g (bind scope (site a) (Done c v)) c u q)
    rest_is y vs low g r scope s a u n f q l m =
        let last_is_less : 0 < act_size a = act_size_positive a in
        let next_equal : site (head u) ≡ low + act_size a = head_site _ _ u n.1 in
        f.each q (omega arith) (omega arith) ∙ pick_ge q (site (head u)) _ _ (omega arith)

    Both_same : Type 0
    Both_same = Unit {0}

    abbrev Goes : List Act → ℕ → Act → Term → Type 0
    Goes vs low a u = (scope scope' : ℕ → Outcome) (s : ℕ) → s ≤ t → Agrees run (fate inputs view scope s u) (low + act_size a) (low + act_size a + size u) → Agrees run' (fate inputs' view' scope' s u) (low + act_size a) (low + act_size a + size u) → SameScope t scope scope'
        → Within (low + act_size a) (low + act_size a + size u) × SameTo t (ends inputs view scope s u) (ends inputs' view' scope' s u)

    then_agree : (vs : List Act) (low : ℕ) (scope scope' : ℕ → Outcome) (s : ℕ) (a : Act) (u : Term) → Numbered vs low (Then a u) → Agrees run (fate inputs view scope s (Then a u)) low (low + size (Then a u)) → Agrees run' (fate inputs' view' scope' s (Then a u)) low (low + size (Then a u))
        → SameScope t scope scope' → SameTo t (act_ends inputs view scope s a) (act_ends inputs' view' scope' s a) → Goes vs low a u → Within (low + act_size a) (low + act_size a + size u) × SameTo t (ends inputs view scope s (Then a u)) (ends inputs' view' scope' s (Then a u))
    then_agree vs low scope scope' s a u n g g' k in_text goes = go (by_when t (act_ends inputs view scope s a))
      where
        K : ℕ → Value → Outcome
        K c v = ends inputs view (bind scope (site a) (Done c v)) c u

        K' : ℕ → Value → Outcome
        K' c v = ends inputs' view' (bind scope' (site a) (Done c v)) c u

        go : By t (act_ends inputs view scope s a) → Within (low + act_size a) (low + act_size a + size u) × SameTo t (after_end inputs (act_ends inputs view scope s a) K) (after_end inputs' (act_ends inputs' view' scope' s a) K')
        go (not_by f) =
            let f' : (c : ℕ) (v : Value) → act_ends inputs' view' scope' s a ≡ Done c v → c ≤ t → ⊥ = λ c v e l. f c v (in_text.back c v l e) l in (
              (λ p l m. same_late (late_as (rest_is inputs vs low view run scope s a u n g p l m) (late_once inputs _ _ f (λ c v. fate_from inputs view _ c u p)))
                  (late_as (rest_is inputs' vs low view' run' scope' s a u n g' p l m) (late_once inputs' _ _ f' (λ c v. fate_from inputs' view' _ c u p)))),
              record {
                there = λ e v l q. absurd (late_end inputs (act_ends inputs view scope s a) K f (λ c w. from inputs view (bind scope (site a) (Done c w)) c u) e v l q);
                back = λ e v l q. absurd (late_end inputs' (act_ends inputs' view' scope' s a) K' f' (λ c w. from inputs' view' (bind scope' (site a) (Done c w)) c u) e v l q);
              },
            )
        go (by c v e l) =
            let e' : act_ends inputs' view' scope' s a ≡ Done c v = in_text.there c v l e in
            let lx : t < inputs.count = rows.long in
            let lx' : t < inputs'.count = rows.long' in
            let decided : nat_lt c inputs.count ≡ true = grind (arith, nat_tests) in
            let i' : nat_lt c inputs'.count ≡ true = grind (arith, nat_tests) in
            let the_agrees : Agrees run (fate inputs view (bind scope (site a) (Done c v)) c u) (low + act_size a) (low + act_size a + size u) =
            record { each = λ q y z. rest_is inputs vs low view run scope s a u n g q y z ∙ (ap (λ o. once inputs o (λ c v. fate inputs view (bind scope (site a) (Done c v)) c u q)) e ∙ ap (λ b. if b then fate inputs view (bind scope (site a) (Done c v)) c u q else Waits) decided) } in
            let r' : Agrees run' (fate inputs' view' (bind scope' (site a) (Done c v)) c u) (low + act_size a) (low + act_size a + size u) =
            record { each = λ q y z. rest_is inputs' vs low view' run' scope' s a u n g' q y z ∙ (ap (λ o. once inputs' o (λ c v. fate inputs' view' (bind scope' (site a) (Done c v)) c u q)) e' ∙ ap (λ b. if b then fate inputs' view' (bind scope' (site a) (Done c v)) c u q else Waits) i') } in
            let by_goes = goes (bind scope (site a) (Done c v)) (bind scope' (site a) (Done c v)) c l the_agrees r' (same_bind (site a) k (same_refl t (Done c v))) in
            let equal : after_end inputs (act_ends inputs view scope s a) K ≡ K c v = ap (λ o. after_end inputs o K) e ∙ ap (λ b. if b then K c v else Open) decided in
            let q' : after_end inputs' (act_ends inputs' view' scope' s a) K' ≡ K' c v = ap (λ o. after_end inputs' o K') e' ∙ ap (λ b. if b then K' c v else Open) i' in
            (by_goes.0, record { there = λ d w m y. q' ∙ by_goes.1.there d w m (sym equal ∙ y); back = λ d w m y. equal ∙ by_goes.1.back d w m (sym q' ∙ y) })

    decided_same : (w : Bool) (p s : ℕ) (o o' : Outcome) → SameTo t o o' → SameTo t (decided w p s o) (decided w p s o')
    decided_same w p s o o' k = record { there = decided_there t w p s o o' k.there; back = decided_there t w p s o' o k.back }

    abbrev Side : List Act → ℕ → (ℕ → Outcome) → (ℕ → Outcome) → ℕ → Term → Type 0
    Side vs at scope scope' s u = Agrees run (fate inputs view scope s u) at (at + size u) → Agrees run' (fate inputs' view' scope' s u) at (at + size u) → SameBefore at → Within at (at + size u) × SameTo t (ends inputs view scope s u) (ends inputs' view' scope' s u)

    alike_at : (low p s : ℕ) (scope scope' : ℕ → Outcome) (w : Term) (a : Act) (f : Expr) → p ≡ low → run low ≡ Runs scope s w → run' low ≡ Runs scope' s w → head w ≡ a → Asks a f → s ≤ t → SameScope t scope scope' → SameBefore low → view.decide p s scope f ≡ view'.decide p s scope' f
    alike_at low p s scope scope' w a f n e e' i c l k b = rw n (alike low s scope scope' w f e e' (rw i c) l k b)

    if_agree : (vs : List Act) (low : ℕ) (scope scope' : ℕ → Outcome) (s p : ℕ) (f : Expr) (u v : Term) (d : Bool) → NumberedAct vs low (If p f u v d) → Agrees run (inside inputs view scope s (If p f u v d)) (low + 1) (low + act_size (If p f u v d)) → Agrees run' (inside inputs' view' scope' s (If p f u v d)) (low + 1) (low + act_size (If p f u v d))
        → (c c' : Bool) → view.decide p s scope f ≡ c → view'.decide p s scope' f ≡ c → SameBefore (low + 1) → Side vs (low + 1) scope scope' s u → Side vs (low + (1 + size u)) scope scope' s v
        → Within (low + 1) (low + (1 + (size u + size v))) × SameTo t (if view.decide p s scope f then ends inputs view scope s u else ends inputs view scope s v) (if view'.decide p s scope' f then ends inputs' view' scope' s u else ends inputs' view' scope' s v)
    if_agree vs low scope scope' s p f u v d n g g' true c' e e' b y z =
        let at_most : (q : ℕ) → low + 1 ≤ q → q < low + 1 + size u → run q ≡ fate inputs view scope s u q = λ q l m. if_yes_is inputs view run vs low scope s p f u v d n g q l m ∙ ap (λ c. if c then fate inputs view scope s u q else Lost) e in
        let r' : (q : ℕ) → low + 1 ≤ q → q < low + 1 + size u → run' q ≡ fate inputs' view' scope' s u q = λ q l m. if_yes_is inputs' view' run' vs low scope' s p f u v d n g' q l m ∙ ap (λ c. if c then fate inputs' view' scope' s u q else Lost) e' in
        let part = y (record { each = at_most }) (record { each = r' }) b in
        let by_lost_both = lost_both (low + (1 + size u)) (low + (1 + size u) + size v)
        (λ q l m. if_no_is inputs view run vs low scope s p f u v d n g q l m ∙ ap (λ c. if c then Lost else fate inputs view scope s v q) e)
        (λ q l m. if_no_is inputs' view' run' vs low scope' s p f u v d n g' q l m ∙ ap (λ c. if c then Lost else fate inputs' view' scope' s v q) e') in
        ((λ q l m. seam (low + 1) (low + (1 + size u)) (low + (1 + size u) + size v) (λ q l m. part.0 q l (omega arith)) by_lost_both q l (omega arith)), rw (e, e') part.1)
    if_agree vs low scope scope' s p f u v d n g g' false c' e e' b y z =
        let next_at_most : (q : ℕ) → low + (1 + size u) ≤ q → q < low + (1 + size u) + size v → run q ≡ fate inputs view scope s v q = λ q l m. if_no_is inputs view run vs low scope s p f u v d n g q l m ∙ ap (λ c. if c then Lost else fate inputs view scope s v q) e in
        let r' : (q : ℕ) → low + (1 + size u) ≤ q → q < low + (1 + size u) + size v → run' q ≡ fate inputs' view' scope' s v q = λ q l m. if_no_is inputs' view' run' vs low scope' s p f u v d n g' q l m ∙ ap (λ c. if c then Lost else fate inputs' view' scope' s v q) e' in
        let next_by_lost_both = lost_both (low + 1) (low + 1 + size u)
        (λ q l m. if_yes_is inputs view run vs low scope s p f u v d n g q l m ∙ ap (λ c. if c then fate inputs view scope s u q else Lost) e)
        (λ q l m. if_yes_is inputs' view' run' vs low scope' s p f u v d n g' q l m ∙ ap (λ c. if c then fate inputs' view' scope' s u q else Lost) e') in
        let b' : SameBefore (low + (1 + size u)) = λ q l. together (low + 1) (low + 1 + size u) b next_by_lost_both q (omega arith) in
        let next_part = z (record { each = next_at_most }) (record { each = r' }) b' in
        ((λ q l m. seam (low + 1) (low + (1 + size u)) (low + (1 + size u) + size v) (λ q l m. next_by_lost_both q l (omega arith)) next_part.0 q l (omega arith)), rw (e, e') next_part.1)

    when_agree : (vs : List Act) (low : ℕ) (scope scope' : ℕ → Outcome) (s p : ℕ) (f : Expr) (u : Term) → Agrees run (inside inputs view scope s (When p f u)) (low + 1) (low + act_size (When p f u)) → Agrees run' (inside inputs' view' scope' s (When p f u)) (low + 1) (low + act_size (When p f u))
        → (c : Bool) → view.decide p s scope f ≡ c → view'.decide p s scope' f ≡ c → SameBefore (low + 1) → Side vs (low + 1) scope scope' s u
        → Within (low + 1) (low + (1 + size u)) × SameTo t (if view.decide p s scope f then ends inputs view scope s u else Done s nothing) (if view'.decide p s scope' f then ends inputs' view' scope' s u else Done s nothing)
    when_agree vs low scope scope' s p f u g g' true e e' b y =
        let part = y (record { each = λ q l m. g.each q (omega arith) (omega arith) ∙ ap (λ c. if c then fate inputs view scope s u q else Lost) e })
        (record { each = λ q l m. g'.each q (omega arith) (omega arith) ∙ ap (λ c. if c then fate inputs' view' scope' s u q else Lost) e' }) b in
        ((λ q l m. part.0 q l (omega arith)), rw (e, e') part.1)
    when_agree vs low scope scope' s p f u g g' false e e' b y = (
      lost_both (low + 1) (low + (1 + size u)) (λ q l m. g.each q (omega arith) (omega arith) ∙ ap (λ c. if c then fate inputs view scope s u q else Lost) e) (λ q l m. g'.each q (omega arith) (omega arith) ∙ ap (λ c. if c then fate inputs' view' scope' s u q else Lost) e'),
      rw (e, e') (same_refl t (Done s nothing)),
    )

    mutual
      pub agree : (vs : List Act) (low : ℕ) (scope scope' : ℕ → Outcome) (s : ℕ) (u : Term) → Numbered vs low u → s ≤ t → Agrees run (fate inputs view scope s u) low (low + size u) → Agrees run' (fate inputs' view' scope' s u) low (low + size u) → SameScope t scope scope' → SameBefore low
          → Within low (low + size u) × SameTo t (ends inputs view scope s u) (ends inputs' view' scope' s u)
      agree vs low scope scope' s (One a) n l g g' k b =
          let by_runs_here = runs_here inputs view run vs low scope s (One a) n g in
          let e' = runs_here inputs' view' run' vs low scope' s (One a) n g' in
          let by_own = own low scope scope' s (One a) by_runs_here e' k in
          let by_act_agree = act_agree vs low scope scope' s a n l (one_inner inputs view run vs low scope s a n g) (one_inner inputs' view' run' vs low scope' s a n g') (One a) refl by_runs_here e' k b (one_more low b by_own) in
          (first_then low (low + act_size a) by_own by_act_agree.0, by_act_agree.1)
      agree vs low scope scope' s (Then a u) n l g g' k b =
          let is_less : 0 < act_size a = act_size_positive a in
          let next_by_runs_here = runs_here inputs view run vs low scope s (Then a u) n g in
          let e' = runs_here inputs' view' run' vs low scope' s (Then a u) n g' in
          let next_by_own = own low scope scope' s (Then a u) next_by_runs_here e' k in
          let next_by_act_agree = act_agree vs low scope scope' s a n.0 l (then_inner inputs view run vs low scope s a u n g) (then_inner inputs' view' run' vs low scope' s a u n g') (Then a u) refl next_by_runs_here e' k b (one_more low b next_by_own) in
          let by_first_then = first_then low (low + act_size a) next_by_own next_by_act_agree.0 in
          let by_then_agree = then_agree vs low scope scope' s a u n g g' k next_by_act_agree.1 (λ d d' c m r r' i. agree (a ∷ vs) (low + act_size a) d d' c u n.1 m r r' i (together low (low + act_size a) b by_first_then)) in
          ((λ q i j. seam low (low + act_size a) (low + act_size a + size u) by_first_then by_then_agree.0 q i (omega arith)), by_then_agree.1)
      agree vs low scope scope' s (Both a u) n l g g' k b =
          let next_is_less : 0 < act_size a = act_size_positive a in
          let last_by_runs_here = runs_here inputs view run vs low scope s (Both a u) n g in
          let e' = runs_here inputs' view' run' vs low scope' s (Both a u) n g' in
          let last_by_own = own low scope scope' s (Both a u) last_by_runs_here e' k in
          let by_act_agree = act_agree vs low scope scope' s a n.0 l (both_inner inputs view run vs low scope s a u n g) (both_inner inputs' view' run' vs low scope' s a u n g') (Both a u) refl last_by_runs_here e' k b (one_more low b last_by_own) in
          let next_by_first_then = first_then low (low + act_size a) last_by_own by_act_agree.0 in
          let by_agree = agree (a ∷ vs) (low + act_size a) (bind scope (site a) (act_ends inputs view scope s a)) (bind scope' (site a) (act_ends inputs' view' scope' s a)) s u n.1 l (both_rest inputs view run vs low scope s a u n g) (both_rest inputs' view' run' vs low scope' s a u n g') (same_bind (site a) k by_act_agree.1) (together low (low + act_size a) b next_by_first_then) in (
            (λ q i j. seam low (low + act_size a) (low + act_size a + size u) next_by_first_then by_agree.0 q i (omega arith)),
            record { there = later_there t _ _ _ _ by_act_agree.1.there by_agree.1.there; back = later_there t _ _ _ _ by_act_agree.1.back by_agree.1.back },
          )

      pub act_agree : (vs : List Act) (low : ℕ) (scope scope' : ℕ → Outcome) (s : ℕ) (a : Act) → NumberedAct vs low a → s ≤ t → Agrees run (inside inputs view scope s a) (low + 1) (low + act_size a) → Agrees run' (inside inputs' view' scope' s a) (low + 1) (low + act_size a)
          → (w : Term) → head w ≡ a → run low ≡ Runs scope s w → run' low ≡ Runs scope' s w → SameScope t scope scope' → SameBefore low → SameBefore (low + 1)
          → Within (low + 1) (low + act_size a) × SameTo t (act_ends inputs view scope s a) (act_ends inputs' view' scope' s a)
      act_agree vs low scope scope' s (If p f u v d) n l g g' w i e e' k b b' =
          let by_alike_at = alike_at low p s scope scope' w (If p f u v d) f n.0 e e' i refl l k b in
          let by_if_agree = if_agree vs low scope scope' s p f u v d n g g' (view.decide p s scope f) true refl (sym by_alike_at) b' (λ r r' o. agree vs (low + 1) scope scope' s u n.1 l r r' k o) (λ r r' o. agree vs (low + (1 + size u)) scope scope' s v n.2 l r r' k o) in
          (by_if_agree.0, decided_same d p s _ _ by_if_agree.1)
      act_agree vs low scope scope' s (When p f u) n l g g' w i e e' k b b' =
          let next_by_alike_at = alike_at low p s scope scope' w (When p f u) f n.0 e e' i refl l k b in
          let by_when_agree = when_agree vs low scope scope' s p f u g g' (view.decide p s scope f) refl (sym next_by_alike_at) b' (λ r r' o. agree vs (low + 1) scope scope' s u n.1 l r r' k o) in
          (by_when_agree.0, decided_same false p s _ _ by_when_agree.1)
      act_agree vs low scope scope' s (Block p u) n l g g' w i e e' k b b' =
          let by_agree = agree vs (low + 1) scope scope' s u n.1 l (block_in inputs view run low scope s p u g) (block_in inputs' view' run' low scope' s p u g') k b' in
          ((λ q y m. by_agree.0 q y (omega arith)), by_agree.1)
      act_agree vs low scope scope' s (Cycle p m) n l g g' w i e e' k b b' = ((λ q y m. absurd (omega arith)), same_refl t _)
      act_agree vs low scope scope' s (Set p r f) n l g g' w i e e' k b b' = ((λ q y m. absurd (omega arith)), same_refl t _)
      act_agree vs low scope scope' s (Send p m f) n l g g' w i e e' k b b' = (
        (λ q y m. absurd (omega arith)),
        record {
          there = found_there t (inputs.ack m) (inputs'.ack m) s inputs.count inputs'.count (λ u. nothing) (λ u. nothing) rows.long' l (rows.ack m) (λ u z. refl);
          back = found_there t (inputs'.ack m) (inputs.ack m) s inputs'.count inputs.count (λ u. nothing) (λ u. nothing) rows.long l (λ u z. sym (rows.ack m u z)) (λ u z. refl);
        },
      )
      act_agree vs low scope scope' s (Recv p m) n l g g' w i e e' k b b' = (
        (λ q y m. absurd (omega arith)),
        record {
          there = found_there t (inputs.valid m) (inputs'.valid m) s inputs.count inputs'.count _ _ rows.long' l (rows.valid m) (λ u z. ap (λ d. record { number = d; atoms = Wire m u ∷ [] }) (rows.data_at m u z));
          back = found_there t (inputs'.valid m) (inputs.valid m) s inputs'.count inputs.count _ _ rows.long l (λ u z. sym (rows.valid m u z)) (λ u z. ap (λ d. record { number = d; atoms = Wire m u ∷ [] }) (sym (rows.data_at m u z)));
        },
      )
      act_agree vs low scope scope' s (Wait p y) n l g g' w i e e' k b b' = ((λ q y m. absurd (omega arith)), record { there = waited_there t s (scope y) (scope' y) (k y); back = waited_there t s (scope' y) (scope y) (turn_round (k y)) })
      act_agree vs low scope scope' s (Pure p f) n l g g' w i e e' k b b' = ((λ q y m. absurd (omega arith)), rw (value_same t view.registers view'.registers scope scope' s (λ r. regs s r l) l k f) (same_refl t _))
      act_agree vs low scope scope' s (Nothing p) n l g g' w i e e' k b b' = ((λ q y m. absurd (omega arith)), same_refl t _)

-- The order law for two turns of a body: the turn i, and i + 1 + k.
--
-- Every point of both turns obeys its local rule, so the abstract law of the order applies. Two turns are tied by one form
-- alone: the later turn begins with the end of the earlier one. The hard case is a k that is not 0: there the begin of the
-- later turn is not the end of the earlier one but no sooner, which is enough for what may stand on the right, so a point on
-- the left has to be of turn i.
use Rattle.std.proofs.Common.{◌≡◌, ℕ, ◌+◌, ◌<◌, ◌≤◌, ◌⊎◌, inl, inr, arith, refl, sym, ◌∙◌, ap, List, [], ◌∷◌, Bool, true, false, if◌then◌else◌, nat_lt, max, zero, suc, Option, Some, None, subst, zero-add}
use Prim.Native.Nat.add
use Rattle.std.proofs.lemmas.Bool.Decides.{nat_tests}
use Rattle.std.specs.Prelude.{ℤ, pos, ◌+ℤ◌, ◌≤ℤ◌, ◌<ℤ◌}
use Rattle.order_rules.specs.Form.{Form, Start, Same, After, Sync, Join, Side, Merge}
use Rattle.order_rules.specs.Before.{AtOnce, OnceOrLater, by_same, by_side, by_sync, by_first, by_second, Before}
use Rattle.order_rules.specs.Timed.{Timed}
use Rattle.core_term.specs.Term.{Term, Act, site, head}
use Rattle.core_term.specs.Value.{Outcome, Open, Done}
use Rattle.core_term.specs.Inputs.{Inputs}
use Rattle.core_term.specs.Ends.{Sees, ends, act_ends}
use Rattle.core_term.specs.Fate.{Waits, fate}
use Rattle.core_term.specs.Points.{Spot, TermBegin, TermEnd, End, Formed, forms}
use Rattle.core_term.specs.Occurs.{Occurrence, Gone, At, of_outcome, begin_at, term_end_at, occurrence, LocalRule, Obeys}
use Rattle.core_term.specs.Numbering.{Numbered}
use Rattle.core_term.specs.Turns.{no_variable, begin_after, next_begin, begins, run_from, run_of}
use Rattle.core_term.specs.Order.{Point, IsFormed, HasForm, Exclusive, Apart}
use Rattle.order_rules.proofs.Law as law
use Rattle.run_laws.proofs.turn_points.Idle.{idle_not, later as idle_later}
use Rattle.core_term.proofs.code_tables.FirstSites.{head_site}
use Rattle.run_laws.proofs.turn_points.NotBefore.{ends_from, act_ends_from}
use Rattle.run_laws.proofs.turn_points.Live.{live, at_since, fate_head, rests, not_gone}
use Rattle.run_laws.proofs.turn_points.Exclude.{apart, apart_in}
use Rattle.run_laws.proofs.turn_points.Parts.{none_at}

omega_max : (s u : ℕ) → (max s u ≡ s) ⊎ (max s u ≡ u)
omega_max s u = grind arith

module _ (inputs : Inputs) (view : Sees) where
  -- nothing ends before it begins
  pub from : (scope : ℕ → Outcome) (s : ℕ) (t : Term) (e : ℕ) → of_outcome (ends inputs view scope s t) ≡ At e → s ≤ e
  from scope s t e k = at_since s (ends inputs view scope s t) (ends_from inputs view scope s t) e k

  pub act_from : (scope : ℕ → Outcome) (s : ℕ) (a : Act) (e : ℕ) → of_outcome (act_ends inputs view scope s a) ≡ At e → s ≤ e
  act_from scope s a e k = at_since s (act_ends inputs view scope s a) (act_ends_from inputs view scope s a) e k

  module _ (body : Term) (numbered : Numbered [] 0 body) where
    outer_none : (w : Occurrence) (o : Spot → Occurrence) (y : ℕ) → ⊥ → o (End y) ≡ Gone → w ≡ Gone
    outer_none w o y b g = elim b [ ]

    pub obeys : (o : Option ℕ) → Obeys inputs.count (occurrence inputs view (run_from inputs view body o)) (forms body)
    obeys None = rests inputs view (λ q. Waits) [] 0 body Waits idle_later numbered (record { each = λ q l m. refl }) (λ y b g. elim b [ ])
    obeys (Some s) = live inputs view (fate inputs view no_variable s body) [] 0 no_variable s body numbered (record { each = λ q l m. refl }) (λ y b. elim b [ ])

    pub rule_in : (o : Spot → Occurrence) (all_forms : List Formed) (b : Spot) (f : Form Spot) → Obeys inputs.count o all_forms → IsFormed all_forms b f → LocalRule inputs.count o b f
    rule_in o [] b f k m = elim m [ ]
    rule_in o (g ∷ more_forms) b f k (inl e) = let Statement : Formed → Type 0 = λ z. LocalRule inputs.count o z.spot z.form in subst Statement e k.0
    rule_in o (g ∷ more_forms) b f k (inr m) = rule_in o more_forms b f k.1 m

    pub rule : (o : Option ℕ) (b : Spot) (f : Form Spot) → IsFormed (forms body) b f → LocalRule inputs.count (occurrence inputs view (run_from inputs view body o)) b f
    rule o b f m = rule_in _ (forms body) b f (obeys o) m

    pub head_is : site (head body) ≡ 0
    head_is = head_site [] 0 body numbered

    -- the begin and the end of the body
    pub body_begin : (o : Option ℕ) (t : ℕ) → occurrence inputs view (run_from inputs view body o) (TermBegin (site (head body))) ≡ At t → o ≡ Some t
    body_begin None t e = absurd (idle_not idle_later e)
    body_begin (Some s) t e = let equal : At s ≡ At t = sym (ap begin_at (fate_head inputs view no_variable s [] 0 body numbered)) ∙ (rw head_is at e) in let next_equal : s ≡ t = cc in ap Some next_equal

    pub body_begins : (t : ℕ) → occurrence inputs view (run_from inputs view body (Some t)) (TermBegin (site (head body))) ≡ At t
    body_begins t = rw head_is (ap begin_at (fate_head inputs view no_variable t [] 0 body numbered))

    pub body_end : (s : ℕ) → occurrence inputs view (run_from inputs view body (Some s)) (TermEnd (site (head body))) ≡ of_outcome (ends inputs view no_variable s body)
    body_end s = rw head_is (ap (term_end_at inputs view) (fate_head inputs view no_variable s [] 0 body numbered))

    pub body_not_gone : (o : Option ℕ) → occurrence inputs view (run_from inputs view body o) (TermEnd (site (head body))) ≡ Gone → ⊥
    body_not_gone None e = cc
    body_not_gone (Some s) e = not_gone inputs view (λ q. Waits) _ (sym (body_end s) ∙ e)

    -- one turn on
    pub next_from : (o : Option ℕ) (t : ℕ) → next_begin inputs view body o ≡ Some t → occurrence inputs view (run_from inputs view body o) (TermEnd (site (head body))) ≡ At t
    next_from None t e = absurd cc
    next_from (Some s) t e = body_end s ∙ go (ends inputs view no_variable s body) e
      where
        go : (o : Outcome) → begin_after inputs o ≡ Some t → of_outcome o ≡ At t
        go Open e = absurd cc
        go (Done c v) e = done (nat_lt c inputs.count) e
          where
            done : (b : Bool) → (if b then Some c else None) ≡ Some t → At c ≡ At t
            done true e = let equal : c ≡ t = cc in ap At equal
            done false e = absurd cc

    pub next_to : (o : Option ℕ) (t : ℕ) → t < inputs.count → occurrence inputs view (run_from inputs view body o) (TermEnd (site (head body))) ≡ At t → next_begin inputs view body o ≡ Some t
    next_to None t l e = absurd (idle_not idle_later e)
    next_to (Some s) t l e = go (ends inputs view no_variable s body) (sym (body_end s) ∙ e)
      where
        go : (o : Outcome) → of_outcome o ≡ At t → begin_after inputs o ≡ Some t
        go Open e = absurd (idle_not idle_later e)
        go (Done c v) e = let next_equal : c ≡ t = cc in let decided : nat_lt c inputs.count ≡ true = grind (arith, nat_tests) in rw decided (ap Some next_equal)

    -- a later turn begins no earlier than an earlier one ends
    pub next_after : (o : Option ℕ) (s t : ℕ) → o ≡ Some s → next_begin inputs view body o ≡ Some t → s ≤ t
    next_after o s t e k = let k' : next_begin inputs view body (Some s) ≡ Some t = rw e at k in from no_variable s body t (sym (body_end s) ∙ next_from (Some s) t k')

    pub before_some : (o : Option ℕ) (t : ℕ) → next_begin inputs view body o ≡ Some t → (s : ℕ) × (o ≡ Some s)
    before_some None t e = absurd cc
    before_some (Some s) t e = (s, refl)

    pub later_turn : (i k : ℕ) (t : ℕ) → begins inputs view body (suc (k + i)) ≡ Some t → (e : ℕ) × (e ≤ t) × (occurrence inputs view (run_of inputs view body i) (TermEnd (site (head body))) ≡ At e)
    later_turn i zero t e = (t, omega arith, next_from (begins inputs view body i) t (rw zero-add at e))
    later_turn i (suc k) t e =
        let e' : next_begin inputs view body (begins inputs view body (suc (k + i))) ≡ Some t = rw add.suc at e in
        let by_before_some = before_some (begins inputs view body (suc (k + i))) t e' in
        let by_next_after = next_after _ by_before_some.0 t by_before_some.1 e' in
        let by_later_turn = later_turn i k by_before_some.0 by_before_some.1 in
        (by_later_turn.0, omega arith, by_later_turn.2)

    -- two turns, i and the later one suc (k + i)
    module _ (i k : ℕ) where
      abbrev pub begin_of_turn : Bool → Option ℕ
      begin_of_turn false = begins inputs view body i
      begin_of_turn true = begins inputs view body (suc (k + i))

      abbrev pub at : Bool → Spot → Occurrence
      at b = occurrence inputs view (run_from inputs view body (begin_of_turn b))

      abbrev pub Occurs : Point → ℕ → Type 0
      Occurs b t = at b.late b.spot ≡ At t

      abbrev pub IsLost : Point → Type 0
      IsLost b = at b.late b.spot ≡ Gone

      -- only the first of two turns where they are not consecutive
      abbrev pub Left : Point → Type 0
      Left b = (b.late ≡ false) ⊎ (k ≡ 0)

      rule_of : (l : Bool) (b : Spot) (f : Form Spot) → IsFormed (forms body) b f → LocalRule inputs.count (at l) b f
      rule_of l b f m = rule (begin_of_turn l) b f m

      move : {l m : Bool} (b : Spot) {o : Occurrence} → l ≡ m → at l b ≡ o → at m b ≡ o
      move b {o = o} e k = let Statement : Bool → Type 0 = λ z. at z b ≡ o in subst Statement e k

      left_of : (a c : Point) → a.late ≡ c.late → Left a → Left c
      left_of a c e (inl l) = inl (sym e ∙ l)
      left_of a c e (inr l) = inr l

      up_later : (b c : Point) (f : Form Point) → HasForm body b f → OnceOrLater c f → (t : ℕ) → Occurs b t → (s : ℕ) × (s ≤ t) × Occurs c s
      up_later b c (Same _) (inl m) by_same t e = (t, omega arith, move _ m.0 ((rule_of b.late _ _ m.1).up t e))
      up_later b c (Same _) (inr m) by_same t e =
          let e' : at true (TermBegin (site (head body))) ≡ At t = rw m.1 at (move _ m.0 e) in
          let by_later_turn = later_turn i k t (body_begin _ t e') in
          (by_later_turn.0, by_later_turn.1, rw (m.2, m.3) by_later_turn.2)
      up_later b c (Side _) m by_side t e = (t, omega arith, move _ m.0 ((rule_of b.late _ _ m.1).up t e))
      up_later b c (Sync _) m by_sync t e = let by_rule_of = (rule_of b.late _ _ m.1).up t e in (by_rule_of.0, by_rule_of.1, move _ m.0 by_rule_of.2)
      up_later b c (Join _ d) m by_first t e = let next_by_rule_of = (rule_of b.late _ _ m.2).up t e in let equal : max next_by_rule_of.0 next_by_rule_of.1 ≡ t = next_by_rule_of.2 in (next_by_rule_of.0, omega arith, move _ m.0 next_by_rule_of.3)
      up_later b c (Join d _) m by_second t e = let last_by_rule_of = (rule_of b.late _ _ m.2).up t e in let next_equal : max last_by_rule_of.0 last_by_rule_of.1 ≡ t = last_by_rule_of.2 in (last_by_rule_of.1, omega arith, move _ m.1 last_by_rule_of.4)
      up_later b c Start m k' t e = elim k' [ ]
      up_later b c (After _ _) m k' t e = elim k' [ ]
      up_later b c (Merge _ _) m k' t e = elim k' [ ]

      down_same : (a c : Point) (f : Form Point) → HasForm body a f → AtOnce c f → Left a → (s : ℕ) → s < inputs.count → Occurs c s → IsLost a ⊎ Occurs a s
      down_same a c (Same _) (inl m) by_same l s less e = inr ((rule_of a.late _ _ m.1).down s less (move _ (sym m.0) e))
      down_same a c (Same _) (inr m) by_same (inl l) s less e = let decided : true ≡ false = sym m.0 ∙ l in absurd cc
      down_same a c (Same _) (inr m) by_same (inr l) s less e =
          let e' : at false (TermEnd (site (head body))) ≡ At s = rw m.3 at (move _ m.2 e) in
          let last_equal : next_begin inputs view body (begins inputs view body i) ≡ Some s = next_to _ s less e' in
          let g' : begin_of_turn true ≡ Some s = rw (l, zero-add) last_equal in
          inr (rw (m.0, m.1) (rw g' (body_begins s)))
      down_same a c (Side _) m by_side l s less e = (rule_of a.late _ _ m.1).down s less (move _ (sym m.0) e)
      down_same a c Start m k' l s less e = elim k' [ ]
      down_same a c (After _ _) m k' l s less e = elim k' [ ]
      down_same a c (Sync _) m k' l s less e = elim k' [ ]
      down_same a c (Join _ _) m k' l s less e = elim k' [ ]
      down_same a c (Merge _ _) m k' l s less e = elim k' [ ]

      lost_same : (a c : Point) (f : Form Point) → HasForm body a f → AtOnce c f → Left a → IsLost c → IsLost a
      lost_same a c (Same _) (inl m) by_same l e = (rule_of a.late _ _ m.1).lost (move _ (sym m.0) e)
      lost_same a c (Same _) (inr m) by_same l e = absurd (body_not_gone _ (rw m.3 at (move _ m.2 e)))
      lost_same a c (Side _) m by_side l e = (rule_of a.late _ _ m.1).lost (move _ (sym m.0) e)
      lost_same a c Start m k' l e = elim k' [ ]
      lost_same a c (After _ _) m k' l e = elim k' [ ]
      lost_same a c (Sync _) m k' l e = elim k' [ ]
      lost_same a c (Join _ _) m k' l e = elim k' [ ]
      lost_same a c (Merge _ _) m k' l e = elim k' [ ]

      left_same : (a c : Point) (f : Form Point) → HasForm body a f → AtOnce c f → Left a → Left c
      left_same a c (Same _) (inl m) by_same l = left_of a c m.0 l
      left_same a c (Same _) (inr m) by_same l = inl m.2
      left_same a c (Side _) m by_side l = left_of a c m.0 l
      left_same a c Start m k' l = elim k' [ ]
      left_same a c (After _ _) m k' l = elim k' [ ]
      left_same a c (Sync _) m k' l = elim k' [ ]
      left_same a c (Join _ _) m k' l = elim k' [ ]
      left_same a c (Merge _ _) m k' l = elim k' [ ]

      apart_at : (o : Option ℕ) (b c : Spot) → Apart body b c → (t : ℕ) → occurrence inputs view (run_from inputs view body o) c ≡ At t → occurrence inputs view (run_from inputs view body o) b ≡ Gone
      apart_at None b c d t e =
          let by_apart_in = apart_in [] 0 body b c numbered d in
          absurd (idle_not idle_later (sym (none_at inputs view (run_from inputs view body None) body 0 Waits idle_later (record { each = λ q l m. refl }) c by_apart_in.0 by_apart_in.1) ∙ e))
      apart_at (Some s) b c d t e = apart inputs view (run_from inputs view body (Some s)) b c t e [] 0 no_variable s body numbered (record { each = λ q l m. refl }) d

      pub timed : Timed Point (HasForm body) (Exclusive body) inputs.count Left Occurs IsLost
      timed = record {
        up_later = up_later;
        up_after = λ b c n m t e. let by_rule_of = (rule_of b.late _ _ m.1).up t e in (by_rule_of.0, omega (arith, by_rule_of.1), move _ m.0 by_rule_of.2);
        up_merge = λ b c d m t e. elim ((rule_of b.late _ _ m.2).up t e) [ inl g ↦ inl (move _ m.0 g) | inr g ↦ inr (move _ m.1 g) ];
        left_same = left_same;
        left_after = λ a c n m l. left_of a c m.0 l;
        left_join = λ a c d m l. (left_of a c m.0 l, left_of a d m.1 l);
        left_merge = λ a c d m l. (left_of a c m.0 l, left_of a d m.1 l);
        down_same = down_same;
        down_after = λ a c n m l s less e. (rule_of a.late _ _ m.1).down s less (move _ (sym m.0) e);
        down_join = λ a c d m l s u less less' e e'. (max s u, omega_max s u, (rule_of a.late _ _ m.2).down s u less less' (move _ (sym m.0) e) (move _ (sym m.1) e'));
        down_merge_first = λ a c d m l s less e. (rule_of a.late _ _ m.2).first s less (move _ (sym m.0) e);
        down_merge_second = λ a c d m l s less e. (rule_of a.late _ _ m.2).second s less (move _ (sym m.1) e);
        lost_same = lost_same;
        lost_after = λ a c n m l e. (rule_of a.late _ _ m.1).lost (move _ (sym m.0) e);
        lost_join = λ a c d m l e. (rule_of a.late _ _ m.2).lost (elim e [ inl g ↦ inl (move _ (sym m.0) g) | inr g ↦ inr (move _ (sym m.1) g) ]);
        lost_merge = λ a c d m l e e'. (rule_of a.late _ _ m.2).lost (move _ (sym m.0) e) (move _ (sym m.1) e');
        apart = λ a b d l t e. apart_at (begin_of_turn a.late) a.spot b.spot d.1 t (move _ (sym d.0) e);
      }

      -- the order law
      pub order_law : (a b : Point) (d : ℤ) → Before Point (HasForm body) (Exclusive body) a d b → Left a → (t : ℕ) → Occurs b t → pos t <ℤ (pos inputs.count +ℤ d) → IsLost a ⊎ ((s : ℕ) × ((pos s +ℤ d) ≤ℤ pos t) × Occurs a s)
      order_law a b d r l t e less = law.law Point (HasForm body) (Exclusive body) inputs.count Left Occurs IsLost timed r l t e less

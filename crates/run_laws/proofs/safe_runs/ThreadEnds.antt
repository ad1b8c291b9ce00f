-- Each exchange ends one act, and nothing is offered on a port while a life of it lasts.
--
-- Two acts on one port in one turn are apart by the demands on sends and receives; of two turns the earlier one's act has
-- ended before the later turn begins, and a send of the later turn waits for the life of what the earlier one sent. So of all
-- sends of a port the one whose life it is began last. Two sets of a register never begin in one cycle, by the demand on sets.
use Rattle.std.proofs.Common.{◌≡◌, ℕ, ◌+◌, ◌<◌, ◌≤◌, ◌⊎◌, inl, inr, arith, refl, sym, ◌∙◌, ap, subst, [], Bool, true, false, nat_lt, suc, Some}
use Rattle.std.proofs.lemmas.Bool.Decides.{nat_tests}
use Rattle.std.proofs.lemmas.Int.{ints}
use Rattle.std.specs.Prelude.{pos}
use Rattle.core_term.specs.Term.{Act, Cycle, Set, Send, Recv, If, When, Block, Wait, Pure, Nothing, site, head}
use Rattle.core_term.specs.Value.{Value, Outcome, Done}
use Rattle.core_term.specs.Inputs.{Inputs}
use Rattle.core_term.specs.Ends.{sees, act_ends}
use Rattle.core_term.specs.Fate.{Runs}
use Rattle.core_term.specs.Points.{Spot, Begin, End}
use Rattle.core_term.specs.Occurs.{occurrence, of_outcome, begin_at, end_at}
use Rattle.core_term.specs.Numbering.{Numbered}
use Rattle.core_term.specs.Turns.{begins, run_of}
use Rattle.core_term.specs.Process.{Process, Thread, IsThread, life_of, IsProcess}
use Rattle.core_term.specs.Acts.{OnPort, Receives, Sends, Sets, HasAct, SetAt}
use Rattle.core_term.specs.Wires.{InLife}
use Rattle.core_term.specs.Outputs.{wires}
use Rattle.run_laws.proofs.safe_runs.Premises.{SetsApart}
use Rattle.core_term.specs.Rules.{Holds, use_by, RestsOn, Demands, Meets}
use Rattle.core_term.specs.Log.{Begun, EndsIn, InUse}
use Rattle.core_term.specs.Occurs as occurs
use Rattle.core_term.specs.Rules as demand
use Rattle.run_laws.proofs.turn_points.Order.{act_from}
use Rattle.run_laws.proofs.turn_points.Tails.{IsTalk}
use Rattle.run_laws.proofs.turn_points.Placed.{Ran, Turns, same, next, past, turns, sets_apart}
use Rattle.run_laws.proofs.source_runs.Offers.{IsPending, ran, begun_act}
use Rattle.run_laws.proofs.source_runs.Exchanges.{ended_ready, side_begun}
use Rattle.run_laws.proofs.safe_runs.UseLaw.{own, at_begin, at_end, end_found, send_over, end_over}
use Rattle.run_laws.proofs.safe_runs.ThreadActs.{talks, start, earlier, occurs_next, stage_eq}

module _ (p : Process) (process : IsProcess p) (inputs : Inputs) (registers : ℕ → ℕ → ℕ) (j : ℕ) (thread : Thread) (is : IsThread p.threads j thread) where
  abbrev numbered : Numbered [] 0 thread.body
  numbered = process.numbered j thread is

  abbrev At : ℕ → ℕ → Type 0
  At turn place = Begun inputs registers thread.body turn place

  abbrev stage : ℕ → Spot → occurs.Occurrence
  stage turn = occurrence inputs (sees registers) (run_of inputs (sees registers) thread.body turn)

  module _ (meets : Meets p j thread.body) where
    -- what an act that has ended says of a begin of a later turn
    before_later : (turn place t i turn' place' : ℕ) (b : At turn place) (a : At turn' place') → turn' ≡ suc (i + turn) → IsTalk (head b.term) → EndsIn b t → t < a.begin
    before_later turn place t i turn' place' b a z talk ended =
        let by_start = start p process inputs registers j thread is turn' place' a in
        let Statement : ℕ → Type 0 = λ z. begins inputs (sees registers) thread.body z ≡ Some by_start.0 in
        let by_earlier = earlier p process inputs registers j thread is turn i place b by_start.0 (subst Statement z by_start.1) in
        let then_earlier = by_earlier.3 talk in
        let y' : Done t ended.0 ≡ Done by_earlier.0 by_earlier.1.0 = sym ended.1 ∙ by_earlier.1.1 in
        let y'' : t ≡ by_earlier.0 = cc in
        omega (arith, by_start.2)

    sends_here : (turn place m : ℕ) (b : At turn place) → Sends (head b.term) m → HasAct thread.body place (λ a. Sends a m)
    sends_here turn place m b k = begun_act inputs registers thread.body numbered (λ a. Sends a m) turn place b k

    receives_here : (turn place m : ℕ) (b : At turn place) → Receives (head b.term) m → HasAct thread.body place (λ a. Receives a m)
    receives_here turn place m b k = begun_act inputs registers thread.body numbered (λ a. Receives a m) turn place b k

    in_turn : (turn turn' place' : ℕ) → turn ≡ turn' → (a : At turn' place') → (a' : At turn place') × (a'.begin ≡ a.begin) × ((P : Act → Type 0) → P (head a.term) → P (head a'.term)) × ((t : ℕ) → EndsIn a t → EndsIn a' t)
    in_turn turn turn' place' e a =
        let next_Statement : ℕ → Type 0 = λ z. run_of inputs (sees registers) thread.body z place' ≡ Runs a.scope a.begin a.term in
        (record { scope = a.scope; begin = a.begin; term = a.term; runs = subst next_Statement (sym e) a.runs }, refl, λ next_Statement k. k, λ t k. k)

    begin_short : (turn place : ℕ) (b : At turn place) → b.begin < inputs.count
    begin_short turn place b = (start p process inputs registers j thread is turn place b).3

    -- of two sends of a port in a turn, one is over before the other begins
    pub sends_apart : (turn place place' m : ℕ) (b : At turn place) (a : At turn place') → Sends (head b.term) m → Sends (head a.term) m → (place ≡ place' → ⊥)
        → ((e : ℕ) × EndsIn b e × ((c : ℕ) → InLife (wires p inputs registers) (life_of p m) e c → c < a.begin)) ⊎ ((e : ℕ) × EndsIn a e × ((c : ℕ) → InLife (wires p inputs registers) (life_of p m) e c → c < b.begin))
    sends_apart turn place place' m b a k l different = go (nat_lt place place') refl
      where
        over : (q r : ℕ) (b : At turn q) (a : At turn r) → Holds p thread.body (demand.Last q m (pos 1) (demand.begin_of r)) → (e : ℕ) × EndsIn b e × ((c : ℕ) → InLife (wires p inputs registers) (life_of p m) e c → c < a.begin)
        over q r b a f =
            let by_begin_short = begin_short turn r a in
            let by_send_over = send_over p process inputs registers j thread is m turn 0 q (pos 1) a.begin false (Begin r) b f (at_begin p process inputs registers j thread is turn r a) by_begin_short (omega (arith, ints)) in
            (by_send_over.0, by_send_over.1, λ c n. let then_send_over = by_send_over.2 c n in omega (arith, ints))

        go : (d : Bool) → nat_lt place place' ≡ d → ((e : ℕ) × EndsIn b e × ((c : ℕ) → InLife (wires p inputs registers) (life_of p m) e c → c < a.begin)) ⊎ ((e : ℕ) × EndsIn a e × ((c : ℕ) → InLife (wires p inputs registers) (life_of p m) e c → c < b.begin))
        go true f =
            let is_less : place < place' = grind (arith, nat_tests) in
            elim (meets _ _ _ _ (demand.sends place place' m (sends_here turn place m b k) (sends_here turn place' m a l) is_less)) [ inl g ↦ inl (over place place' b a g) | inr g ↦ inr (over place' place a b g) ]
        go false f =
            let at_most : place' ≤ place = grind (arith, nat_tests) in
            let y' : place' < place = omega (arith, different) in
            elim (meets _ _ _ _ (demand.sends place' place m (sends_here turn place' m a l) (sends_here turn place m b k) y')) [ inl g ↦ inr (over place' place a b g) | inr g ↦ inl (over place place' b a g) ]

    receives_apart : (turn place place' m t : ℕ) (b : At turn place) (a : At turn place') → Receives (head b.term) m → Receives (head a.term) m → (place ≡ place' → ⊥) → EndsIn b t → EndsIn a t → b.begin ≤ t → a.begin ≤ t → ⊥
    receives_apart turn place place' m t b a k l different ended ended' u u' = go (nat_lt place place') refl
      where
        over : (q r : ℕ) (b : At turn q) (a : At turn r) → EndsIn b t → a.begin ≤ t → Holds p thread.body (demand.Order (demand.end_of q) (pos 1) (demand.begin_of r)) → ⊥
        over q r b a ended v f =
            let by_begin_short = begin_short turn r a in
            let by_end_over = end_over p process inputs registers j thread is turn 0 q (pos 1) a.begin t false (Begin r) (at_end p process inputs registers j thread is turn q b t ended) f (at_begin p process inputs registers j thread is turn r a) (omega (arith, ints)) in omega (arith, ints)

        go : (d : Bool) → nat_lt place place' ≡ d → ⊥
        go true f =
            let next_is_less : place < place' = grind (arith, nat_tests) in
            elim (meets _ _ _ _ (demand.receives place place' m (receives_here turn place m b k) (receives_here turn place' m a l) next_is_less)) [ inl g ↦ over place place' b a ended u' g | inr g ↦ over place' place a b ended' u g ]
        go false f =
            let at_most : place' ≤ place = grind (arith, nat_tests) in
            let y' : place' < place = omega (arith, different) in
            elim (meets _ _ _ _ (demand.receives place' place m (receives_here turn place' m a l) (receives_here turn place m b k) y')) [ inl g ↦ over place' place a b ended' u g | inr g ↦ over place place' b a ended u' g ]

    -- at most one act of a port ends in a cycle
    pub once : (turn place turn' place' m t : ℕ) (b : At turn place) (a : At turn' place') → OnPort (head b.term) m → OnPort (head a.term) m → EndsIn b t → EndsIn a t → (turn ≡ turn') × (place ≡ place')
    once turn place turn' place' m t b a k l ended ended' = go (turns inputs (sees registers) thread.body numbered turn turn')
      where
        from_b : (t < inputs.count) × (b.begin ≤ t)
        from_b = let by_ended_ready = ended_ready inputs registers b.scope b.begin m t ended.0 (head b.term) k ended.1 in (by_ended_ready.0, by_ended_ready.1)

        from_a : (t < inputs.count) × (a.begin ≤ t)
        from_a = let next_by_ended_ready = ended_ready inputs registers a.scope a.begin m t ended'.0 (head a.term) l ended'.1 in (next_by_ended_ready.0, next_by_ended_ready.1)

        same_or_not : (a c : ℕ) → (a ≡ c) ⊎ (a ≡ c → ⊥)
        same_or_not a c = grind arith

        differ : (a' : At turn place') → (a'.begin ≡ a.begin) → OnPort (head a'.term) m → EndsIn a' t → (place ≡ place' → ⊥) → ⊥
        differ a' e l' ended'' different =
            elim (side_begun inputs registers p process m j thread is turn place b k) [
              | inl y ↦ elim (side_begun inputs registers p process m j thread is turn place' a' l') [
                | inl z ↦ receives_apart turn place place' m t b a' y.1 z.1 different ended ended'' from_b.1 (omega (arith, from_a.1))
                | inr z ↦ let decided : true ≡ false = sym y.0 ∙ z.0 in absurd cc
              ]
              | inr y ↦ elim (side_begun inputs registers p process m j thread is turn place' a' l') [
                | inl z ↦ let next_decided : true ≡ false = sym z.0 ∙ y.0 in absurd cc
                | inr z ↦ elim (sends_apart turn place place' m b a' y.1 z.1 different) [
                  | inl w ↦ let equal : Done w.0 w.1.0 ≡ Done t ended.0 = sym w.1.1 ∙ ended.1 in let v' : w.0 ≡ t = cc in let part = w.2 w.0 (own p process inputs registers m w.0) in omega (arith, from_a.1)
                  | inr w ↦ let next_equal : Done w.0 w.1.0 ≡ Done t ended''.0 = sym w.1.1 ∙ ended''.1 in let v' : w.0 ≡ t = cc in let next_part = w.2 w.0 (own p process inputs registers m w.0) in omega (arith, from_b.1)
                ]
              ]
            ]

        go : Turns inputs (sees registers) thread.body numbered turn turn' → (turn ≡ turn') × (place ≡ place')
        go (next i z) = let by_before_later = before_later turn place t i turn' place' b a z (talks (head b.term) m k) ended in absurd (omega (arith, from_a.1))
        go (past i z) = let next_by_before_later = before_later turn' place' t i turn place a b z (talks (head a.term) m l) ended' in absurd (omega (arith, from_b.1))
        go (same z) =
            let a' = in_turn turn turn' place' z a in
            (z, elim (same_or_not place place') [ inl e ↦ e | inr different ↦ absurd (differ a'.0 a'.1 (a'.2 (λ c. OnPort c m) l) (a'.3 t ended') different) ])

    -- while the exchange of a send lives, no send of its port is offered
    pub quiet : (turn place turn' place' m t u : ℕ) (b : At turn place) (a : At turn' place') → Sends (head b.term) m → OnPort (head b.term) m → Sends (head a.term) m → OnPort (head a.term) m → EndsIn b t → t < u → InLife (wires p inputs registers) (life_of p m) t u
        → IsPending u a.begin (act_ends inputs (sees registers) a.scope a.begin (head a.term)) → ⊥
    quiet turn place turn' place' m t u b a k k' l l' ended less life pending = go (turns inputs (sees registers) thread.body numbered turn turn')
      where
        begun : a.begin ≤ u
        begun = pending.begun

        from_b : (t < inputs.count) × (b.begin ≤ t)
        from_b = let by_ended_ready = ended_ready inputs registers b.scope b.begin m t ended.0 (head b.term) k' ended.1 in (by_ended_ready.0, by_ended_ready.1)

        same_or_not : (a c : ℕ) → (a ≡ c) ⊎ (a ≡ c → ⊥)
        same_or_not a c = grind arith

        other : (e : ℕ) → EndsIn a e → u ≤ e
        other e f = pending.not_ended e f.0 f.1

        go : Turns inputs (sees registers) thread.body numbered turn turn' → ⊥
        go (next i z) =
            let by_begin_short = begin_short turn' place' a in
            let by_send_over = send_over p process inputs registers j thread is m turn i place (pos 1) a.begin true (Begin place') b (meets _ _ _ _ (demand.sends_next place place' m (sends_here turn place m b k) (sends_here turn' place' m a l)))
            (occurs_next p process inputs registers j thread is turn i turn' z (Begin place') a.begin (at_begin p process inputs registers j thread is turn' place' a)) by_begin_short (omega (arith, ints)) in
            let equal : Done by_send_over.0 by_send_over.1.0 ≡ Done t ended.0 = sym by_send_over.1.1 ∙ ended.1 in
            let v' : by_send_over.0 ≡ t = cc in
            let then_send_over = by_send_over.2 u (rw v' life) in omega (arith, ints)
        go (past i z) =
            let by_start = start p process inputs registers j thread is turn place b in
            let Statement : ℕ → Type 0 = λ z. begins inputs (sees registers) thread.body z ≡ Some by_start.0 in
            let by_earlier = earlier p process inputs registers j thread is turn' i place' a by_start.0 (subst Statement z by_start.1) in
            let by_other = other by_earlier.0 by_earlier.1 in
            omega (arith, by_earlier.2, by_start.2, from_b.1)
        go (same z) = elim (same_or_not place place') [ inl e ↦ same_place e | inr different ↦ apart different ]
          where
            same_place : place ≡ place' → ⊥
            same_place e =
                let y' : stage turn (End place') ≡ occurs.At t = subst (λ q. stage turn (End q) ≡ occurs.At t) e (at_end p process inputs registers j thread is turn place b t ended) in
                let next_equal : stage turn' (End place') ≡ occurs.At t = stage_eq p process inputs registers j thread is turn' turn z (End place') t y' in
                let next_by_other = other t (end_found p process inputs registers j thread is turn' place' a t next_equal) in omega arith

            apart : (place ≡ place' → ⊥) → ⊥
            apart different =
                let a' = in_turn turn turn' place' z a in
                elim (sends_apart turn place place' m b a'.0 k (a'.2 (λ c. Sends c m) l) different) [
                  | inl w ↦ let equal : Done w.0 w.1.0 ≡ Done t ended.0 = sym w.1.1 ∙ ended.1 in let v' : w.0 ≡ t = cc in let part = w.2 u (rw v' life) in omega (arith, a'.1)
                  | inr w ↦
                      let last_equal : stage turn' (End place') ≡ occurs.At w.0 = stage_eq p process inputs registers j thread is turn' turn z (End place') w.0 (at_end p process inputs registers j thread is turn place' a'.0 w.0 w.1) in
                      let last_by_other = other w.0 (end_found p process inputs registers j thread is turn' place' a w.0 last_equal) in
                      let next_part = w.2 w.0 (own p process inputs registers m w.0) in omega (arith, from_b.1)
                ]

    sets_claims : SetsApart thread.body
    sets_claims vs ws u v s s' r k l different = go (nat_lt (site (head u)) (site (head v))) refl
      where
        first_stands : SetAt thread.body (site (head u)) r
        first_stands = (vs, u, s, refl, k)

        second_stands : SetAt thread.body (site (head v)) r
        second_stands = (ws, v, s', refl, l)

        go : (d : Bool) → nat_lt (site (head u)) (site (head v)) ≡ d → Holds p thread.body (demand.Either (demand.Order (demand.end_of (site (head u))) (pos 0) (demand.begin_of (site (head v)))) (demand.Order (demand.end_of (site (head v))) (pos 0) (demand.begin_of (site (head u)))))
        go true f = let is_less : site (head u) < site (head v) = grind (arith, nat_tests) in meets _ _ _ _ (demand.sets _ _ r first_stands second_stands is_less)
        go false f =
            let at_most : site (head v) ≤ site (head u) = grind (arith, nat_tests) in
            let y' : site (head v) < site (head u) = omega (arith, different) in
            elim (meets _ _ _ _ (demand.sets _ _ r second_stands first_stands y')) [ inl g ↦ inr g | inr g ↦ inl g ]

    -- at most one set of a register begins in a cycle
    pub one_set : (turn place turn' place' r : ℕ) (b : At turn place) (a : At turn' place') → Sets (head b.term) r → Sets (head a.term) r → b.begin ≡ a.begin → (turn ≡ turn') × (place ≡ place')
    one_set turn place turn' place' r b a k l e =
        let a' : Ran inputs (sees registers) thread.body numbered turn' place' a.scope b.begin a.term = rw e (ran inputs registers thread.body numbered turn' place' a) in
        sets_apart inputs (sees registers) thread.body numbered sets_claims turn place b.scope b.begin b.term (ran inputs registers thread.body numbered turn place b) turn' place' a.scope a.term a' r k l

    in_use_send : (scope : ℕ → Outcome) (s c m : ℕ) (a : Act) → Sends a m → InUse p inputs registers scope s a c → (e : ℕ) (v : Value) → act_ends inputs (sees registers) scope s a ≡ Done e v → (c ≤ e) ⊎ InLife (wires p inputs registers) (life_of p m) e c
    in_use_send scope s c m (Send q n f) k u e v i = let Statement : ℕ → Type 0 = λ z. InLife (wires p inputs registers) (life_of p z) e c in elim (u.2 e v i) [ inl y ↦ inl y | inr y ↦ inr (subst Statement k y) ]
    in_use_send scope s c m (Set q n f) k u e v i = elim k [ ]
    in_use_send scope s c m (If q f w w' d) k u e v i = elim k [ ]
    in_use_send scope s c m (When q f w) k u e v i = elim k [ ]
    in_use_send scope s c m (Cycle q n) k u e v i = elim k [ ]
    in_use_send scope s c m (Recv q n) k u e v i = elim k [ ]
    in_use_send scope s c m (Block q w) k u e v i = elim k [ ]
    in_use_send scope s c m (Wait q y) k u e v i = elim k [ ]
    in_use_send scope s c m (Pure q f) k u e v i = elim k [ ]
    in_use_send scope s c m (Nothing q) k u e v i = elim k [ ]

    -- a send that is in use is the one of its port that began last
    pub began_last : (turn place turn' place' m t : ℕ) (b : At turn place) (a : At turn' place') → Sends (head b.term) m → Sends (head a.term) m → OnPort (head a.term) m → InUse p inputs registers b.scope b.begin (head b.term) t → a.begin ≤ t
        → (a.begin < b.begin) ⊎ ((turn ≡ turn') × (place ≡ place'))
    began_last turn place turn' place' m t b a k l l' in_cycle begun = go (turns inputs (sees registers) thread.body numbered turn turn')
      where
        same_or_not : (a c : ℕ) → (a ≡ c) ⊎ (a ≡ c → ⊥)
        same_or_not a c = grind arith

        -- what comes after the life comes after t
        after : (e d : ℕ) → EndsIn b e → ((c : ℕ) → InLife (wires p inputs registers) (life_of p m) e c → c < d) → t < d
        after e d f g = elim (in_use_send b.scope b.begin t m (head b.term) k in_cycle e f.0 f.1) [ inl y ↦ let part = g e (own p process inputs registers m e) in omega arith | inr y ↦ g t y ]

        ended_since : (turn place : ℕ) (a : At turn place) (e : ℕ) → EndsIn a e → a.begin ≤ e
        ended_since turn place a e f = act_from inputs (sees registers) a.scope a.begin (head a.term) e (ap of_outcome f.1)

        go : Turns inputs (sees registers) thread.body numbered turn turn' → (a.begin < b.begin) ⊎ ((turn ≡ turn') × (place ≡ place'))
        go (next i z) =
            let by_begin_short = begin_short turn' place' a in
            let by_send_over = send_over p process inputs registers j thread is m turn i place (pos 1) a.begin true (Begin place') b (meets _ _ _ _ (demand.sends_next place place' m (sends_here turn place m b k) (sends_here turn' place' m a l)))
            (occurs_next p process inputs registers j thread is turn i turn' z (Begin place') a.begin (at_begin p process inputs registers j thread is turn' place' a)) by_begin_short (omega (arith, ints)) in
            let over = after by_send_over.0 a.begin by_send_over.1 (λ c n. let then_send_over = by_send_over.2 c n in omega (arith, ints)) in absurd (omega arith)
        go (past i z) =
            let by_start = start p process inputs registers j thread is turn place b in
            let Statement : ℕ → Type 0 = λ z. begins inputs (sees registers) thread.body z ≡ Some by_start.0 in
            let by_earlier = earlier p process inputs registers j thread is turn' i place' a by_start.0 (subst Statement z by_start.1) in
            let then_earlier = by_earlier.3 (talks (head a.term) m l') in
            let by_ended_since = ended_since turn' place' a by_earlier.0 by_earlier.1 in inl (omega (arith, by_start.2))
        go (same z) = elim (same_or_not place place') [ inl e ↦ inr (z, e) | inr different ↦ apart different ]
          where
            apart : (place ≡ place' → ⊥) → (a.begin < b.begin) ⊎ ((turn ≡ turn') × (place ≡ place'))
            apart different =
                let a' = in_turn turn turn' place' z a in
                elim (sends_apart turn place place' m b a'.0 k (a'.2 (λ c. Sends c m) l) different) [
                  | inl w ↦ let by_after = after w.0 a'.0.begin w.1 w.2 in absurd (omega (arith, a'.1))
                  | inr w ↦ let part = w.2 w.0 (own p process inputs registers m w.0) in let next_by_ended_since = ended_since turn place' a'.0 w.0 w.1 in inl (omega (arith, a'.1))
                ]

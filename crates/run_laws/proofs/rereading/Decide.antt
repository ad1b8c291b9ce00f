-- Where the values in use are what they were, the re-reading run decides as the source run does.
--
-- An `if` of the source run decides by the value of its condition, that of the re-reading run by the condition read again; so
-- it is enough that each atom of the condition is fresh. For received data and registers this is given. The hard case is a
-- side: the latest decision of that `if` in the re-reading run has to be the one that the value rests on. A later one in an
-- earlier cycle would be one of the source run, against its demands; in the same cycle it would be of the same turn, so the
-- same one.
use Rattle.std.proofs.Common.{◌≡◌, ℕ, ◌+◌, ◌<◌, ◌≤◌, ◌==◌, inl, inr, arith, refl, sym, ◌∙◌, ap, subst, List, [], ◌∷◌, Bool, true, false, nat_lt, suc, Option, Some, None}
use Rattle.std.proofs.lemmas.Bool.Decides.{nat_tests}
use Rattle.core_term.specs.Term.{Expr, Term, Act, Cycle, Set, Send, Recv, If, When, Block, Wait, Pure, Nothing, site, head}
use Rattle.core_term.specs.Value.{Value, Outcome, Done, value, Atom, Wire, Register, Choice}
use Rattle.core_term.specs.Inputs.{Inputs}
use Rattle.core_term.specs.Ends.{Sees, sees, bind, act_ends}
use Rattle.core_term.specs.Fate.{Runs, inside}
use Rattle.core_term.specs.Points.{Begin}
use Rattle.core_term.specs.Occurs.{At, occurrence, begin_at}
use Rattle.core_term.specs.Numbering.{size, act_size, Numbered, NumberedAct, Mentions}
use Rattle.core_term.specs.Turns.{begins, run_from, run_of, no_variable}
use Rattle.core_term.specs.Tail.{IsTail}
use Rattle.core_term.specs.Sources.{Source, WireOf, RegOf, ChoiceOf, expr_sources, sources_in}
use Rattle.core_term.specs.Lists.{Has}
use Rattle.core_term.specs.Stands.{Stands}
use Rattle.core_term.specs.Acts.{Asks, Reads}
use Rattle.run_laws.proofs.safe_runs.Premises.{UsesAtOnce, MadeFirst, ChoicesKept}
use Rattle.core_term.specs.Again.{Sight, number, act_again, now_in}
use Rattle.run_laws.proofs.rereading.FreshAtoms.{IsFresh, AllFresh}
use Rattle.core_term.specs.Reread.{sight, deciding, DecidesAgain}
use Rattle.run_laws.proofs.turn_points.Live.{Agrees}
use Rattle.run_laws.proofs.turn_points.Sites.{Sub, Found, sub}
use Rattle.run_laws.proofs.turn_points.Sound.{Matches, expr_covers}
use Rattle.run_laws.proofs.rereading.Fresh.{Steady, Kept, kept_bind, act_fresh, expr_fresh}
use Rattle.run_laws.proofs.turn_points.Placed.{Ran, Covered, covered_on, some_start, begins_short, site_is, made_first, choices_kept, Turns, same, next, past, turns, turn_end, begin_since}
use Rattle.run_laws.proofs.turn_points.Bounds.{NotRuns, out, scope_below, below_none, choice_below}
use Rattle.run_laws.proofs.source_runs.Causal.{SameFate}
use Rattle.run_laws.proofs.turn_points.Order.{later_turn}
use Rattle.run_laws.proofs.turn_points.Strict.{early, EarlyIn}

pub asks_uses : (a : Act) (f : Expr) → Asks a f → UsesAtOnce a f
asks_uses (If p e t u w) f k = k
asks_uses (When p e t) f k = k
asks_uses (Cycle p n) f k = elim k [ ]
asks_uses (Set p r e) f k = elim k [ ]
asks_uses (Send p m e) f k = elim k [ ]
asks_uses (Recv p m) f k = elim k [ ]
asks_uses (Block p t) f k = elim k [ ]
asks_uses (Wait p y) f k = elim k [ ]
asks_uses (Pure p e) f k = elim k [ ]
asks_uses (Nothing p) f k = elim k [ ]

pub asks_reads : (a : Act) (f : Expr) (y : ℕ) → Asks a f → Mentions f y → Reads a y
asks_reads (If p e t u w) f y k m = rw k m
asks_reads (When p e t) f y k m = rw k m
asks_reads (Cycle p n) f y k m = elim k [ ]
asks_reads (Set p r e) f y k m = elim k [ ]
asks_reads (Send p n e) f y k m = elim k [ ]
asks_reads (Recv p n) f y k m = elim k [ ]
asks_reads (Block p t) f y k m = elim k [ ]
asks_reads (Wait p z) f y k m = elim k [ ]
asks_reads (Pure p e) f y k m = elim k [ ]
asks_reads (Nothing p) f y k m = elim k [ ]

pub all_fresh : (P : Atom → Type 0) (these : List Atom) → ((a : Atom) → Has these a → P a) → AllFresh P these
all_fresh P [] k = tt
all_fresh P (c ∷ these) k = (k c (inl refl), all_fresh P these (λ a i. k a (inr i)))

module _ (inputs : Inputs) (body : Term) (numbered : Numbered [] 0 body) where
  -- what runs stands in the body
  pub within : (g : Sees) (i q : ℕ) (scope : ℕ → Outcome) (s : ℕ) (u : Term) → run_of inputs g body i q ≡ Runs scope s u → q < size body
  within g i q scope s u e = go (nat_lt q (size body)) refl
    where
      no : (o : Option ℕ) → run_from inputs g body o q ≡ Runs scope s u → size body ≤ q → ⊥
      no None f l = cc
      no (Some b) f l = let the_not_runs : NotRuns (Runs scope s u) = subst (λ w. NotRuns w) f (out inputs g [] 0 no_variable b body q numbered (omega arith)) in the_not_runs

      go : (b : Bool) → nat_lt q (size body) ≡ b → q < size body
      go true k = grind (arith, nat_tests)
      go false k = let at_most : size body ≤ q = grind (arith, nat_tests) in absurd (no (begins inputs g body i) e at_most)

  -- what began in an earlier turn began before the begin of a later one
  pub strictly : IsTail body → (g : Sees) (j k q : ℕ) (scope : ℕ → Outcome) (s : ℕ) (u : Term) → run_of inputs g body j q ≡ Runs scope s u → (b : ℕ) → begins inputs g body (suc (k + j)) ≡ Some b → s < b
  strictly tail g j k q scope s u n b e =
      let by_later_turn = later_turn inputs g body numbered j k b e in
      let by_some_start = some_start inputs g body numbered (begins inputs g body j) q scope s u n in
      let by_turn_end = turn_end inputs g body numbered (begins inputs g body j) by_some_start.0 by_later_turn.0 by_some_start.1 by_later_turn.2 in
      let Statement : Option ℕ → Type 0 = λ w. EarlyIn inputs g (run_from inputs g body w) (run_from inputs g body w q) by_later_turn.0 in
      let early_there = subst Statement (sym by_some_start.1) (early inputs g (run_from inputs g body (Some by_some_start.0)) [] 0 no_variable by_some_start.0 body by_later_turn.0 numbered tail (record { each = λ q l m. refl }) by_turn_end q (omega arith) (let by_within = within g j q scope s u n in omega arith)).is in
      let fact = rw n at early_there in
      omega (arith, by_later_turn.1, fact.0)

  module _ (tail : IsTail body) (registers : ℕ → ℕ → ℕ) (made : MadeFirst body) (choices : ChoicesKept body) (chose : ℕ → ℕ → Bool)
      (chose_is : (i q : ℕ) (scope : ℕ → Outcome) (s : ℕ) (u : Term) (f : Expr) → run_of inputs (sees registers) body i q ≡ Runs scope s u → Asks (head u) f → (value registers scope s f).number == 1 ≡ chose q s)
      (registers' : ℕ → ℕ → ℕ) (decision side : ℕ → ℕ → Bool) (again : DecidesAgain inputs body registers' decision side) where
    ran : (i q : ℕ) (scope : ℕ → Outcome) (s : ℕ) (u : Term) → run_of inputs (sees registers) body i q ≡ Runs scope s u → Ran inputs (sees registers) body numbered i q scope s u
    ran i q scope s u e = record { inside = within (sees registers) i q scope s u e; runs = e }

    made_at : (i q : ℕ) (scope : ℕ → Outcome) (s : ℕ) (u : Term) → run_of inputs (sees registers) body i q ≡ Runs scope s u → (y : ℕ) → Reads (head u) y → (e : ℕ) × (v : Value) × (scope y ≡ Done e v) × (e ≤ s)
    made_at i q scope s u e y k = made_first inputs (sees registers) body numbered made i q scope s u (ran i q scope s u e) y k

    steady : (g : Sight) (i : ℕ) → Steady inputs (sees registers) (run_of inputs (sees registers) body i) g chose
    steady g i = record {
      made = λ q scope s u p f e k y m. made_at i q scope s u e y (let the_reads : Reads (Pure p f) y = m in rw k the_reads);
      sides = λ q scope s u p f t t' e k.
          let the_asks : Asks (head u) f = rw k refl in
          let by_chose_is = chose_is i q scope s u f e the_asks in
          let equal : site (head u) ≡ q = site_is inputs (sees registers) body numbered i q scope s u (ran i q scope s u e) in
          let next_equal : p ≡ q = sym (ap site k) ∙ equal in
          rw next_equal by_chose_is;
    }

    abbrev Carried : Sight → ℕ → List Act → (ℕ → Outcome) → Type 0
    Carried g i vs scope = Covered inputs (sees registers) (run_of inputs (sees registers) body i) vs scope × ((y : ℕ) → Kept inputs (sees registers) (run_of inputs (sees registers) body i) g chose scope (now_in g vs) y)

    carried_on : (g : Sight) (i : ℕ) (vs : List Act) (low : ℕ) (scope : ℕ → Outcome) (s : ℕ) (a : Act) (u : Term) (o : Outcome) → NumberedAct vs low a → Agrees (run_of inputs (sees registers) body i) (inside inputs (sees registers) scope s a) (low + 1) (low + act_size a) → head u ≡ a → run_of inputs (sees registers) body i low ≡ Runs scope s u
        → Carried g i vs scope → act_ends inputs (sees registers) scope s a ≡ o → Carried g i (a ∷ vs) (bind scope (site a) o)
    carried_on g i vs low scope s a u o n r k j c e = (
      covered_on inputs (sees registers) (run_of inputs (sees registers) body i) vs low scope s a u o n r k j c.0 e,
      kept_bind inputs (sees registers) (run_of inputs (sees registers) body i) g chose scope (now_in g vs) (site a) o (act_again g (now_in g vs) a) c.1
          (λ d v q fresh_atoms. act_fresh inputs (sees registers) (run_of inputs (sees registers) body i) g chose (steady g i) vs low scope (now_in g vs) s a n r u k j c.1 d v (e ∙ q) fresh_atoms),
    )

    abbrev At_place : Sight → ℕ → ℕ → ℕ → Type 0
    At_place g i b q = Found inputs (sees registers) (run_of inputs (sees registers) body i) body b (Carried g i) (carried_on g i) q

    place_at : (g : Sight) (i b q : ℕ) → begins inputs (sees registers) body i ≡ Some b → q < size body → At_place g i b q
    place_at g i b q e l =
        sub inputs (sees registers) (run_of inputs (sees registers) body i) body b (Carried g i) (carried_on g i) q [] 0 no_variable b body numbered (record { each = λ q l m. ap (λ o. run_from inputs (sees registers) body o q) e })
        (λ y k. elim k [ ]) (λ ws u z. z) ((λ y e v k. absurd cc), (λ y e v k. absurd cc)) (omega arith, begins_short inputs (sees registers) body numbered i b e) (omega arith) (omega arith)

    -- a value whose atoms are fresh in a cycle is what it is read again as
    pub value_again : (g : Sight) (i q : ℕ) (scope : ℕ → Outcome) (s : ℕ) (u : Term) (f : Expr) → run_of inputs (sees registers) body i q ≡ Runs scope s u → ((y : ℕ) → Mentions f y → Reads (head u) y)
        → (vs : List Act) × Stands [] body vs u × (AllFresh (IsFresh g inputs.data_at registers chose) (value registers scope s f).atoms → number g (now_in g vs) f ≡ (value registers scope s f).number)
    value_again g i q scope s u f e reads =
        let by_some_start = some_start inputs (sees registers) body numbered (begins inputs (sees registers) body i) q scope s u e in
        let by_place_at = place_at g i by_some_start.0 q by_some_start.1 (within (sees registers) i q scope s u e) in
        let found = rw e at by_place_at.is in (
          found.0,
          found.1.stands,
          λ fresh.
              expr_fresh inputs (sees registers) (run_of inputs (sees registers) body i) g chose scope (now_in g found.0) s f (λ y m. made_at i q scope s u e y (reads y m)) (λ y m. found.1.known.1 y) fresh,
        )

    pub decides_same : (s : ℕ)
        → ((r t : ℕ) → t ≤ s → registers' s r ≡ registers s r)
        → ((j p t : ℕ) → t < s → SameFate t (run_of inputs (sees registers) body j p) (run_of inputs (deciding registers' decision) body j p))
        → (i q : ℕ) (scope scope' : ℕ → Outcome) (u : Term) (f : Expr) → run_of inputs (sees registers) body i q ≡ Runs scope s u → run_of inputs (deciding registers' decision) body i q ≡ Runs scope' s u → Asks (head u) f
        → ((p : ℕ) → p < q → SameFate s (run_of inputs (sees registers) body i p) (run_of inputs (deciding registers' decision) body i p))
        → ((m t : ℕ) → Has (value registers scope s f).atoms (Wire m t) → inputs.data_at m s ≡ inputs.data_at m t)
        → ((r t : ℕ) → Has (value registers scope s f).atoms (Register r t) → registers s r ≡ registers t r)
        → ((p t : ℕ) → Has (value registers scope s f).atoms (Choice p t) → t ≤ s)
        → ((p t : ℕ) (scope'' : ℕ → Outcome) (u' : Term) (f' : Expr) → p < q → t ≤ s → run_of inputs (sees registers) body i p ≡ Runs scope'' t u' → Asks (head u') f' → decision p t ≡ chose p t)
        → decision q s ≡ chose q s
    decides_same s registers_agree earlier i q scope scope' u f e e' k before wires registers_fresh old known = go
      where
        g : Sight
        g = sight inputs registers' side s

        l : q < size body
        l = within (sees registers) i q scope s u e

        b : (b : ℕ) × (begins inputs (sees registers) body i ≡ Some b)
        b = some_start inputs (sees registers) body numbered (begins inputs (sees registers) body i) q scope s u e

        found : (vs : List Act) × Sub inputs (sees registers) (run_of inputs (sees registers) body i) body b.0 (Carried g i) (carried_on g i) vs scope s u q
        found = let by_place_at = place_at g i b.0 q b.1 l in rw e at by_place_at.is

        is_q : site (head u) ≡ q
        is_q = site_is inputs (sees registers) body numbered i q scope s u (ran i q scope s u e)

        -- no later decision of p by s
        none_later : (p t : ℕ) → Has (value registers scope s f).atoms (Choice p t) → (scope'' : ℕ → Outcome) (u' : Term) → run_of inputs (sees registers) body i p ≡ Runs scope'' t u' → t ≤ s → p < q
            → (j : ℕ) (d : ℕ → Outcome) (t' : ℕ) (v : Term) → run_of inputs (deciding registers' decision) body j p ≡ Runs d t' v → t < t' → t' ≤ s → ⊥
        none_later p t has scope'' u' r m before_here j d t' v r' a c = split (nat_lt t' s) refl (turns inputs (sees registers) body numbered i j)
          where
            split : (b : Bool) → nat_lt t' s ≡ b → Turns inputs (sees registers) body numbered i j → ⊥
            split true y z =
                let is_less : t' < s = grind (arith, nat_tests) in
                let by_earlier = (earlier j p t' is_less).back d t' v r' (omega arith) in
                choices_kept inputs (sees registers) body numbered choices i q scope s u (ran i q scope s u e) f (asks_uses (head u) f k) p t has j by_earlier.0 t' v (ran j p by_earlier.0 t' v by_earlier.1) a c
            split false y (same z) =
                let Statement : ℕ → Type 0 = λ n. run_of inputs (deciding registers' decision) body n p ≡ Runs d t' v in
                let by_before = (before p before_here).there scope'' t u' r m in
                let equal : Runs by_before.0 t u' ≡ Runs d t' v = sym by_before.1 ∙ subst Statement (sym z) r' in
                let o' : t ≡ t' = cc in omega arith
            split false y (next n z) =
                let at_most : s ≤ t' = grind (arith, nat_tests) in
                let b' = some_start inputs (deciding registers' decision) body numbered (begins inputs (deciding registers' decision) body j) p d t' v r' in
                let next_Statement : ℕ → Type 0 = λ n. begins inputs (deciding registers' decision) body n ≡ Some b'.0 in
                let a' = strictly tail (deciding registers' decision) i n q scope' s u e' b'.0 (subst next_Statement z b'.1) in
                let c' = begin_since inputs (deciding registers' decision) body numbered (begins inputs (deciding registers' decision) body j) b'.0 p t' b'.1 (ap begin_at r') in omega arith
            split false y (past n z) =
                let next_at_most : s ≤ t' = grind (arith, nat_tests) in
                let b' = some_start inputs (deciding registers' decision) body numbered (begins inputs (deciding registers' decision) body i) q scope' s u e' in
                let last_Statement : ℕ → Type 0 = λ n. begins inputs (deciding registers' decision) body n ≡ Some b'.0 in
                let a' = strictly tail (deciding registers' decision) j n p d t' v r' b'.0 (subst last_Statement z b'.1) in
                let c' = begin_since inputs (deciding registers' decision) body numbered (begins inputs (deciding registers' decision) body i) b'.0 q s b'.1 (ap begin_at e') in omega arith

        choice_fresh : (p t : ℕ) → Has (value registers scope s f).atoms (Choice p t) → (c : Source) → Has (expr_sources (site (head u)) (sources_in found.0) f) c → Matches inputs (sees registers) (run_of inputs (sees registers) body i) c (Choice p t) → side p s ≡ chose p t
        choice_fresh p t has (WireOf c) y m = elim m [ ]
        choice_fresh p t has (RegOf c r) y m = elim m [ ]
        choice_fresh p t has (ChoiceOf c) y m =
            let equal : p ≡ c = m.0 in
            let y' : Has (expr_sources (site (head u)) (sources_in found.0) f) (ChoiceOf p) = rw equal y in
            let low : p < site (head u) = choice_below (site (head u)) (site (head u)) p (sources_in found.0) f (scope_below found.1.stands 0 numbered (λ y. below_none 0)) y' in
            let before_here : p < q = rw (← is_q) low in
            let by_now : t ≤ s = old p t has in
            let Statement : ℕ → Type 0 = λ n. run_of inputs (sees registers) body i n ≡ Runs m.2.0 t m.2.1 in
            let next_equal : run_of inputs (sees registers) body i p ≡ Runs m.2.0 t m.2.1 = subst Statement (sym equal) m.2.3 in
            let by_before = (before p before_here).there m.2.0 t m.2.1 next_equal by_now in
            again.latest i p s found.1.fits.1 (record { scope = by_before.0; begin = t; term = m.2.1; runs = by_before.1 }) m.2.2 m.2.4 by_now
            (λ j a. none_later p t has m.2.0 m.2.1 next_equal by_now before_here j a.scope a.begin a.term a.runs)
            ∙ known p t m.2.0 m.2.1 m.2.2 before_here by_now next_equal m.2.4

        fresh_atom : (a : Atom) → Has (value registers scope s f).atoms a → IsFresh g inputs.data_at registers chose a
        fresh_atom (Wire m t) has = wires m t has
        fresh_atom (Register r t) has = registers_agree r s (omega arith) ∙ registers_fresh r t has
        fresh_atom (Choice p t) has =
            let at_s : occurrence inputs (sees registers) (run_of inputs (sees registers) body i) (Begin (site (head u))) ≡ At s = rw is_q (ap begin_at e) in
            let by_expr_covers = (expr_covers inputs (sees registers) (run_of inputs (sees registers) body i) (sources_in found.0) scope (site (head u)) s f at_s found.1.known.0).each (Choice p t) has in
            choice_fresh p t has by_expr_covers.0 by_expr_covers.1 by_expr_covers.2

        go : decision q s ≡ chose q s
        go =
            let now = now_in g found.0 in
            let value_is : number g now f ≡ (value registers scope s f).number =
            expr_fresh inputs (sees registers) (run_of inputs (sees registers) body i) g chose scope now s f (λ y m. made_at i q scope s u e y (asks_reads (head u) f y k m)) (λ y m. found.1.known.1 y) (all_fresh _ _ fresh_atom) in
            again.decides i q l (record { scope = scope'; begin = s; term = u; runs = e' }) found.0 found.1.stands f k ∙ (ap (λ n. n == 1) value_is ∙ chose_is i q scope s u f e k)

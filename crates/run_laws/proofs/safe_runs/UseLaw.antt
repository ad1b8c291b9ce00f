-- What the order of a use against a point says of a run: where the point occurs at t, each cycle of the use, + d, is t or
-- before.
--
-- A use in the cycle of a begin is told by the order law; the use of a `send`, which goes on to the end of the life of its
-- exchange, by the last law. The hard case is an end of a life at another port: the exchange that ends the life is one that
-- ends an act of this thread, so the point of the text and the exchange on the wires are the same.
use Rattle.std.proofs.Common.{◌≡◌, ℕ, ◌+◌, ◌<◌, ◌≤◌, ◌⊎◌, inl, inr, arith, refl, sym, ◌∙◌, ap, subst, List, [], ◌∷◌, Bool, true, false, nat_lt, zero, suc}
use Rattle.std.proofs.lemmas.Bool.Decides.{nat_tests}
use Rattle.std.proofs.lemmas.Int.{ints}
use Rattle.std.specs.Prelude.{ℤ, pos, ◌+ℤ◌, ◌≤ℤ◌, ◌<ℤ◌}
use Rattle.order_rules.specs.Last.{Within, At}
use Rattle.core_term.specs.Term.{Term, Act, Cycle, Set, Send, Recv, If, When, Block, Wait, Pure, Nothing, site, head}
use Rattle.core_term.specs.Value.{Done}
use Rattle.core_term.specs.Inputs.{Inputs}
use Rattle.core_term.specs.Ends.{sees, act_ends}
use Rattle.core_term.specs.Fate.{Fate, Waits, Lost, Runs}
use Rattle.core_term.specs.Points.{Spot, Begin, End}
use Rattle.core_term.specs.Occurs.{Occurrence, Later, Gone, occurrence, of_outcome, begin_at, end_at}
use Rattle.core_term.specs.Numbering.{Numbered}
use Rattle.core_term.specs.Turns.{run_of}
use Rattle.core_term.specs.Order.{Point, HasForm, Exclusive, point}
use Rattle.core_term.specs.Lists.{Has}
use Rattle.core_term.specs.Process.{LifeEnd, Cycles, Until, Process, Thread, IsThread, life_of, IsProcess}
use Rattle.core_term.specs.Acts.{OnPort, HasAct}
use Rattle.core_term.specs.Wires.{Wires, LiesWithin, WithinAll, InLife}
use Rattle.core_term.specs.Outputs.{wires}
use Rattle.core_term.specs.Lives.{HasEnding, LastPrecedes}
use Rattle.core_term.specs.Rules.{Holds, use_by}
use Rattle.core_term.specs.Log.{Begun, EndsIn, InUse}
use Rattle.order_rules.proofs.LastLaw as last
use Rattle.core_term.specs.Occurs as occurs
use Rattle.core_term.specs.Rules as demand
use Rattle.run_laws.proofs.turn_points.Idle.{idle_not, later as idle_later, gone as idle_gone}
use Rattle.run_laws.proofs.turn_points.Live.{not_gone}
use Rattle.run_laws.proofs.turn_points.Order.{Occurs, IsLost, Left, timed, order_law}
use Rattle.run_laws.proofs.turn_points.Placed.{done_from}
use Rattle.run_laws.proofs.source_runs.Offers.{begun_site, begun_stands}
use Rattle.run_laws.proofs.source_runs.Exchanges.{exchange_of}
use Rattle.run_laws.proofs.turn_points.Text.{one_term}

pub within_one : (w : Wires) (t u : ℕ) (life : List LifeEnd) (e : LifeEnd) → WithinAll w t u life → Has life e → LiesWithin w t u e
within_one w t u [] e k i = elim i [ ]
within_one w t u (a ∷ more) e k (inl i) = rw i k.0
within_one w t u (a ∷ more) e k (inr i) = within_one w t u more e k.1 i

pub within_all : (w : Wires) (t u : ℕ) (life : List LifeEnd) → ((e : LifeEnd) → Has life e → LiesWithin w t u e) → WithinAll w t u life
within_all w t u [] k = tt
within_all w t u (a ∷ more) k = (k a (inl refl), within_all w t u more (λ e i. k e (inr i)))

pub same_thread : (threads : List Thread) (j : ℕ) (a b : Thread) → IsThread threads j a → IsThread threads j b → a ≡ b
same_thread [] j a b k l = elim k [ ]
same_thread (c ∷ more) zero a b k l = sym k ∙ l
same_thread (c ∷ more) (suc j) a b k l = same_thread more j a b k l

module _ (p : Process) (process : IsProcess p) (inputs : Inputs) (registers : ℕ → ℕ → ℕ) where
  -- the cycle of an exchange is in its life
  pub own : (m t : ℕ) → InLife (wires p inputs registers) (life_of p m) t t
  own m t = (omega arith, within_all (wires p inputs registers) t t (life_of p m) each)
    where
      each : (e : LifeEnd) → Has (life_of p m) e → LiesWithin (wires p inputs registers) t t e
      each (Cycles k) i = let by_lasts = process.lasts m k i in omega arith
      each (Until n) i = λ c k l e. omega arith

  module _ (j : ℕ) (thread : Thread) (is : IsThread p.threads j thread) where
    abbrev pub body : Term
    body = thread.body

    abbrev pub numbered : Numbered [] 0 thread.body
    numbered = process.numbered j thread is

    abbrev pub Runs_at : ℕ → ℕ → Type 0
    Runs_at turn place = Begun inputs registers thread.body turn place

    pub at_begin : (turn place : ℕ) (b : Runs_at turn place) → occurrence inputs (sees registers) (run_of inputs (sees registers) body turn) (Begin place) ≡ occurs.At b.begin
    at_begin turn place b = ap begin_at b.runs

    pub at_end : (turn place : ℕ) (b : Runs_at turn place) (t : ℕ) → EndsIn b t → occurrence inputs (sees registers) (run_of inputs (sees registers) body turn) (End place) ≡ occurs.At t
    at_end turn place b t (v, e) = ap (end_at inputs (sees registers)) b.runs ∙ ap of_outcome e

    pub end_found : (turn place : ℕ) (b : Runs_at turn place) (t : ℕ) → occurrence inputs (sees registers) (run_of inputs (sees registers) body turn) (End place) ≡ occurs.At t → EndsIn b t
    end_found turn place b t e = done_from inputs (sees registers) body numbered _ t (sym (ap (end_at inputs (sees registers)) b.runs) ∙ e)

    pub end_not_gone : (turn place : ℕ) (b : Runs_at turn place) → occurrence inputs (sees registers) (run_of inputs (sees registers) body turn) (End place) ≡ Gone → ⊥
    end_not_gone turn place b e = not_gone inputs (sees registers) (run_of inputs (sees registers) body turn) _ (sym (ap (end_at inputs (sees registers)) b.runs) ∙ e)

    -- an act that ends at t has begun
    pub act_ended : (turn place t : ℕ) → occurrence inputs (sees registers) (run_of inputs (sees registers) body turn) (End place) ≡ occurs.At t → (b : Runs_at turn place) × EndsIn b t
    act_ended turn place t e = go (run_of inputs (sees registers) body turn place) refl
      where
        go : (w : Fate) → run_of inputs (sees registers) body turn place ≡ w → (b : Runs_at turn place) × EndsIn b t
        go Waits f = absurd (idle_not idle_later (sym (ap (end_at inputs (sees registers)) f) ∙ e))
        go Lost f = absurd (idle_not idle_gone (sym (ap (end_at inputs (sees registers)) f) ∙ e))
        go (Runs scope s u) f = let the_runs_at : Runs_at turn place = record { scope = scope; begin = s; term = u; runs = f } in (the_runs_at, end_found turn place the_runs_at t e)

    -- so has one of the text, of which is known what it is
    pub text_begun : (P : Act → Type 0) (turn place t : ℕ) → HasAct body place P → occurrence inputs (sees registers) (run_of inputs (sees registers) body turn) (End place) ≡ occurs.At t → (b : Runs_at turn place) × P (head b.term) × EndsIn b t
    text_begun P turn place t a e =
        let by_act_ended = act_ended turn place t e in
        let by_begun_stands = begun_stands inputs registers body numbered turn place by_act_ended.0 in
        let same : a.1 ≡ by_act_ended.0.term = one_term a.2 by_begun_stands.1 0 numbered (a.3 ∙ sym (begun_site inputs registers body numbered turn place by_act_ended.0)) in
        (by_act_ended.0, subst (λ v. P (head v)) same a.4, by_act_ended.1)

    -- the cycles of a life that begins at s are over by l
    abbrev Over : ℕ → ℕ → ℕ → Type 0
    Over m s l = (c : ℕ) → InLife (wires p inputs registers) (life_of p m) s c → c ≤ l

    over_within : (m n : ℕ) → HasEnding body (life_of p m) (Within (n + 1)) → (s : ℕ) → Over m s (s + n)
    over_within m n e s c l = let is_less : c < s + (n + 1) = within_one (wires p inputs registers) s c (life_of p m) (Cycles (n + 1)) l.1 e in omega arith

    turn_of : ℕ → ℕ → Bool → ℕ
    turn_of i k false = i
    turn_of i k true = suc (k + i)

    over_at : (m i k : ℕ) (b : Point) → HasEnding body (life_of p m) (At b) → (s t : ℕ) → Occurs inputs (sees registers) body numbered i k b t → s ≤ t → Over m s t
    unfolding turn_of
    over_at m i k b e s t o l c n = go (nat_lt t c) refl
      where
        at_turn : (late : Bool) → Occurs inputs (sees registers) body numbered i k (point late (End e.1)) t → occurrence inputs (sees registers) (run_of inputs (sees registers) body (turn_of i k late)) (End e.1) ≡ occurs.At t
        at_turn false q = q
        at_turn true q = q

        go : (d : Bool) → nat_lt t c ≡ d → c ≤ t
        go true q =
            let next_is_less : t < c = grind (arith, nat_tests) in
            let ended = at_turn b.late (let Statement : Spot → Type 0 = λ spot. Occurs inputs (sees registers) body numbered i k (point b.late spot) t in subst Statement e.4 o) in
            let by_text_begun = text_begun (λ a. OnPort a e.0) (turn_of i k b.late) e.1 t e.3 ended in
            absurd (within_one (wires p inputs registers) s c (life_of p m) (Until e.0) n.1 e.2 t l next_is_less (exchange_of inputs registers p process e.0 t j thread is (turn_of i k b.late) e.1 by_text_begun.0 by_text_begun.1 by_text_begun.2))
        go false q = grind (arith, nat_tests)

    -- the last law of a send
    pub last_law : (m i k q : ℕ) (d : ℤ) (t : ℕ) (b : Point) → LastPrecedes body (life_of p m) q d b → Occurs inputs (sees registers) body numbered i k b t → t < inputs.count → pos t <ℤ (pos inputs.count +ℤ d)
        → (occurrence inputs (sees registers) (run_of inputs (sees registers) body i) (End q) ≡ Gone) ⊎ ((e l : ℕ) × (occurrence inputs (sees registers) (run_of inputs (sees registers) body i) (End q) ≡ occurs.At e) × Over m e l × ((pos l +ℤ d) ≤ℤ pos t))
    last_law m i k q d t b r o l less =
        last.last_law Point (HasForm body) (Exclusive body) inputs.count (Left inputs (sees registers) body numbered i k) (Occurs inputs (sees registers) body numbered i k) (IsLost inputs (sees registers) body numbered i k) (timed inputs (sees registers) body numbered i k)
        (HasEnding body (life_of p m)) (Over m) (λ e. let by_lasts = process.lasts m 0 e in omega arith) (over_within m) (over_at m i k) (point false (End q)) (inl refl) r t o l less

    -- the use of a send that began in turn i is over
    pub send_over : (m i k q : ℕ) (d : ℤ) (t : ℕ) (late : Bool) (spot : Spot) → (b : Runs_at i q) → LastPrecedes body (life_of p m) q d (point late spot) → Occurs inputs (sees registers) body numbered i k (point late spot) t → t < inputs.count → pos t <ℤ (pos inputs.count +ℤ d)
        → (e : ℕ) × EndsIn b e × ((c : ℕ) → InLife (wires p inputs registers) (life_of p m) e c → (pos c +ℤ d) ≤ℤ pos t)
    send_over m i k q d t late spot b r o l less =
        elim (last_law m i k q d t (point late spot) r o l less) [
          | inl z ↦ absurd (end_not_gone i q b z)
          | inr z ↦ (z.0, end_found i q b z.0 z.2, λ c n. let part = z.3 c n in omega (arith, ints, z.4))
        ]

    -- a begin of turn i
    pub begin_over : (i k q : ℕ) (d : ℤ) (t : ℕ) (late : Bool) (spot : Spot) (b : Runs_at i q) → Holds p body (demand.Order (demand.begin_of q) d (point late spot)) → Occurs inputs (sees registers) body numbered i k (point late spot) t → pos t <ℤ (pos inputs.count +ℤ d) → (pos b.begin +ℤ d) ≤ℤ pos t
    begin_over i k q d t late spot b r o less =
        elim (order_law inputs (sees registers) body numbered i k (demand.begin_of q) (point late spot) d r (inl refl) t o less) [
          | inl z ↦ let equal : occurs.At b.begin ≡ Gone = sym (at_begin i q b) ∙ z in absurd (idle_not idle_gone (sym equal))
          | inr z ↦ let next_equal : occurs.At b.begin ≡ occurs.At z.0 = sym (at_begin i q b) ∙ z.2 in let last_equal : b.begin ≡ z.0 = cc in omega (arith, ints, z.1)
        ]

    -- an end of turn i
    pub end_over : (i k q : ℕ) (d : ℤ) (t e : ℕ) (late : Bool) (spot : Spot) → occurrence inputs (sees registers) (run_of inputs (sees registers) body i) (End q) ≡ occurs.At e → Holds p body (demand.Order (demand.end_of q) d (point late spot)) → Occurs inputs (sees registers) body numbered i k (point late spot) t → pos t <ℤ (pos inputs.count +ℤ d) → (pos e +ℤ d) ≤ℤ pos t
    end_over i k q d t e late spot f r o less =
        elim (order_law inputs (sees registers) body numbered i k (demand.end_of q) (point late spot) d r (inl refl) t o less) [
          | inl z ↦ let other_equal : occurs.At e ≡ Gone = sym f ∙ z in absurd (idle_not idle_gone (sym other_equal))
          | inr z ↦ let more_equal : occurs.At e ≡ occurs.At z.0 = sym f ∙ z.2 in let further_equal : e ≡ z.0 = cc in omega (arith, ints, z.1)
        ]

    at_once : (i k q : ℕ) (d : ℤ) (t c : ℕ) (late : Bool) (spot : Spot) (b : Runs_at i q) (a : Act) → site a ≡ q → Holds p body (demand.Order (demand.begin_of (site a)) d (point late spot)) → Occurs inputs (sees registers) body numbered i k (point late spot) t → pos t <ℤ (pos inputs.count +ℤ d) → c ≡ b.begin → (pos c +ℤ d) ≤ℤ pos t
    at_once i k q d t c late spot b a s r o less e =
        let Statement : ℕ → Type 0 = λ z. Holds p body (demand.Order (demand.begin_of z) d (point late spot)) in
        let by_begin_over = begin_over i k q d t late spot b (subst Statement s r) o less in omega (arith, ints)

    -- a use of a value that began in turn i, in each cycle of it
    pub use_law : (i k q : ℕ) (d : ℤ) (t c : ℕ) (late : Bool) (spot : Spot) (b : Runs_at i q) → Holds p body (use_by (head b.term) d (point late spot)) → Occurs inputs (sees registers) body numbered i k (point late spot) t → t < inputs.count → pos t <ℤ (pos inputs.count +ℤ d)
        → InUse p inputs registers b.scope b.begin (head b.term) c → (pos c +ℤ d) ≤ℤ pos t
    use_law i k q d t c late spot b r o l less u = go (head b.term) refl (begun_site inputs registers body numbered i q b) r u
      where
        go : (a : Act) → head b.term ≡ a → site a ≡ q → Holds p body (use_by a d (point late spot)) → InUse p inputs registers b.scope b.begin a c → (pos c +ℤ d) ≤ℤ pos t
        go (Send q' m e) k' s r u =
            let next_Statement : ℕ → Type 0 = λ z. LastPrecedes body (life_of p m) z d (point late spot) in
            let by_send_over = send_over m i k q d t late spot b (subst next_Statement s r) o l less in
            let equal : act_ends inputs (sees registers) b.scope b.begin (Send q' m e) ≡ Done by_send_over.0 by_send_over.1.0 = ap (act_ends inputs (sees registers) b.scope b.begin) (sym k') ∙ by_send_over.1.1 in
            elim (u.2 by_send_over.0 by_send_over.1.0 equal) [ inl y ↦ let by_by_send_over = by_send_over.2 by_send_over.0 (own m by_send_over.0) in omega (arith, ints) | inr y ↦ by_send_over.2 c y ]
        go (Set q' n e) k' s r u = at_once i k q d t c late spot b (Set q' n e) s r o less u
        go (If q' e v w f) k' s r u = at_once i k q d t c late spot b (If q' e v w f) s r o less u
        go (When q' e v) k' s r u = at_once i k q d t c late spot b (When q' e v) s r o less u
        go (Cycle q' n) k' s r u = at_once i k q d t c late spot b (Cycle q' n) s r o less u
        go (Recv q' n) k' s r u = at_once i k q d t c late spot b (Recv q' n) s r o less u
        go (Block q' v) k' s r u = at_once i k q d t c late spot b (Block q' v) s r o less u
        go (Wait q' y) k' s r u = at_once i k q d t c late spot b (Wait q' y) s r o less u
        go (Pure q' e) k' s r u = at_once i k q d t c late spot b (Pure q' e) s r o less u
        go (Nothing q') k' s r u = at_once i k q d t c late spot b (Nothing q') s r o less u

-- An act on a port ends exactly where the port has an exchange: the end of an act is the first cycle from its begin in which
-- the partner's wire is 1, and in each of those cycles the process drives its own.
use Rattle.std.proofs.Common.{◌≡◌, ℕ, ◌-◌, ◌<◌, ◌≤◌, ◌⊎◌, inl, inr, arith, refl, sym, ◌∙◌, [], ◌∷◌, Bool, true, false}
use Rattle.core_term.specs.Term.{Act, Cycle, Set, Send, Recv, If, When, Block, Wait, Pure, Nothing, head}
use Rattle.core_term.specs.Value.{Value, Outcome, Done, nothing, Wire}
use Rattle.core_term.specs.Inputs.{Inputs}
use Rattle.core_term.specs.Ends.{sees, act_ends}
use Rattle.core_term.specs.Process.{Process, Thread, IsThread, is_received, IsProcess}
use Rattle.core_term.specs.Acts.{OnPort, Receives, Sends, HasAct}
use Rattle.core_term.specs.Wires.{Exchange}
use Rattle.core_term.specs.Outputs.{driven, wires}
use Rattle.core_term.specs.Log.{Begun, EndsIn}
use Rattle.run_laws.proofs.source_runs.Offers.{IsPending, OfferedIn, driven_is, is_driven, begun_act, found_is, found_by}

module _ (inputs : Inputs) (registers : ℕ → ℕ → ℕ) where
  -- where an act on a port ends, the other side of the port is ready
  pub Ready : Act → ℕ → ℕ → Type 0
  Ready (Send p n e) m t = inputs.ack m t ≡ true
  Ready (Recv p n) m t = inputs.valid m t ≡ true
  Ready a m t = Unit {0}

  pub ended_ready : (scope : ℕ → Outcome) (s m t : ℕ) (v : Value) (a : Act) → OnPort a m → act_ends inputs (sees registers) scope s a ≡ Done t v → (t < inputs.count) × (s ≤ t) × Ready a m t
  unfolding Ready
  ended_ready scope s m t v (Send p n e) k q = let by_found_is = found_is (inputs.ack n) s (inputs.count - s) _ t v q in (omega (arith, by_found_is.1, by_found_is.2), by_found_is.2, rw (sym k) by_found_is.0)
  ended_ready scope s m t v (Recv p n) k q = let next_by_found_is = found_is (inputs.valid n) s (inputs.count - s) _ t v q in (omega (arith, next_by_found_is.1, next_by_found_is.2), next_by_found_is.2, rw (sym k) next_by_found_is.0)
  ended_ready scope s m t v (Cycle p n) k q = elim k [ ]
  ended_ready scope s m t v (Set p r e) k q = elim k [ ]
  ended_ready scope s m t v (If p e u w d) k q = elim k [ ]
  ended_ready scope s m t v (When p e u) k q = elim k [ ]
  ended_ready scope s m t v (Block p u) k q = elim k [ ]
  ended_ready scope s m t v (Wait p y) k q = elim k [ ]
  ended_ready scope s m t v (Pure p e) k q = elim k [ ]
  ended_ready scope s m t v (Nothing p) k q = elim k [ ]

  pub ready_ended : (scope : ℕ → Outcome) (s m t : ℕ) (a : Act) → OnPort a m → t < inputs.count → IsPending t s (act_ends inputs (sees registers) scope s a) → Ready a m t → (v : Value) × (act_ends inputs (sees registers) scope s a ≡ Done t v)
  unfolding Ready
  ready_ended scope s m t (Send p n e) k l i r = let at_most : s ≤ t = i.begun in (_, found_by (inputs.ack n) s (inputs.count - s) (λ u. nothing) t at_most (omega arith) (rw k r) i)
  ready_ended scope s m t (Recv p n) k l i r = let next_at_most : s ≤ t = i.begun in (_, found_by (inputs.valid n) s (inputs.count - s) (λ u. record { number = inputs.data_at n u; atoms = Wire n u ∷ [] }) t next_at_most (omega arith) (rw k r) i)
  ready_ended scope s m t (Cycle p n) k l i r = elim k [ ]
  ready_ended scope s m t (Set p n e) k l i r = elim k [ ]
  ready_ended scope s m t (If p e u w d) k l i r = elim k [ ]
  ready_ended scope s m t (When p e u) k l i r = elim k [ ]
  ready_ended scope s m t (Block p u) k l i r = elim k [ ]
  ready_ended scope s m t (Wait p y) k l i r = elim k [ ]
  ready_ended scope s m t (Pure p e) k l i r = elim k [ ]
  ready_ended scope s m t (Nothing p) k l i r = elim k [ ]

  module _ (p : Process) (process : IsProcess p) where
    -- an act on a port, by the side of the port
    abbrev Side : Act → ℕ → Type 0
    Side a m = ((is_received p m ≡ true) × Receives a m) ⊎ ((is_received p m ≡ false) × Sends a m)

    side_of : (m j : ℕ) (thread : Thread) (w : ℕ) → IsThread p.threads j thread → (a : Act) → ((P : Act → Type 0) → P a → HasAct thread.body w P) → OnPort a m → Side a m
    side_of m j thread w is (Send q n e) f k = inr (process.sends j thread w m is (f (λ a. Sends a m) k), k)
    side_of m j thread w is (Recv q n) f k = inl (process.receives j thread w m is (f (λ a. Receives a m) k), k)
    side_of m j thread w is (Cycle q n) f k = elim k [ ]
    side_of m j thread w is (Set q n e) f k = elim k [ ]
    side_of m j thread w is (If q e t u d) f k = elim k [ ]
    side_of m j thread w is (When q e t) f k = elim k [ ]
    side_of m j thread w is (Block q t) f k = elim k [ ]
    side_of m j thread w is (Wait q y) f k = elim k [ ]
    side_of m j thread w is (Pure q e) f k = elim k [ ]
    side_of m j thread w is (Nothing q) f k = elim k [ ]

    pub side_begun : (m j : ℕ) (thread : Thread) → IsThread p.threads j thread → (turn place : ℕ) (b : Begun inputs registers thread.body turn place) → OnPort (head b.term) m → Side (head b.term) m
    side_begun m j thread is turn place b k = side_of m j thread place is (head b.term) (λ P i. begun_act inputs registers thread.body (process.numbered j thread is) P turn place b i) k

    ready_wires : (m t : ℕ) (a : Act) → Side a m → Ready a m t → driven p inputs registers m t ≡ true → t < inputs.count → Exchange (wires p inputs registers) m t
    unfolding Ready
    ready_wires m t (Recv q n) (inl k) r d l = (l, rw k.0 r, rw k.0 d)
    ready_wires m t (Send q n e) (inr k) r d l = (l, rw k.0 d, rw k.0 r)
    ready_wires m t (Recv q n) (inr k) r d l = absurd k.1
    ready_wires m t (Send q n e) (inl k) r d l = absurd k.1
    ready_wires m t (Cycle q n) k r d l = elim k [ inl i ↦ absurd i.1 | inr i ↦ absurd i.1 ]
    ready_wires m t (Set q n e) k r d l = elim k [ inl i ↦ absurd i.1 | inr i ↦ absurd i.1 ]
    ready_wires m t (If q e u w b) k r d l = elim k [ inl i ↦ absurd i.1 | inr i ↦ absurd i.1 ]
    ready_wires m t (When q e u) k r d l = elim k [ inl i ↦ absurd i.1 | inr i ↦ absurd i.1 ]
    ready_wires m t (Block q u) k r d l = elim k [ inl i ↦ absurd i.1 | inr i ↦ absurd i.1 ]
    ready_wires m t (Wait q y) k r d l = elim k [ inl i ↦ absurd i.1 | inr i ↦ absurd i.1 ]
    ready_wires m t (Pure q e) k r d l = elim k [ inl i ↦ absurd i.1 | inr i ↦ absurd i.1 ]
    ready_wires m t (Nothing q) k r d l = elim k [ inl i ↦ absurd i.1 | inr i ↦ absurd i.1 ]

    wires_ready : (m t : ℕ) (a : Act) → Side a m → Exchange (wires p inputs registers) m t → Ready a m t
    unfolding Ready
    wires_ready m t (Recv q n) (inl k) (l, v, a) = rw k.0 at v
    wires_ready m t (Send q n e) (inr k) (l, v, a) = rw k.0 at a
    wires_ready m t (Recv q n) (inr k) (l, v, a) = absurd k.1
    wires_ready m t (Send q n e) (inl k) (l, v, a) = absurd k.1
    wires_ready m t (Cycle q n) k e = tt
    wires_ready m t (Set q n f) k e = tt
    wires_ready m t (If q f u w b) k e = tt
    wires_ready m t (When q f u) k e = tt
    wires_ready m t (Block q u) k e = tt
    wires_ready m t (Wait q y) k e = tt
    wires_ready m t (Pure q f) k e = tt
    wires_ready m t (Nothing q) k e = tt

    pub exchange_of : (m t j : ℕ) (thread : Thread) → IsThread p.threads j thread → (turn place : ℕ) (b : Begun inputs registers thread.body turn place) → OnPort (head b.term) m → EndsIn b t → Exchange (wires p inputs registers) m t
    exchange_of m t j thread is turn place b k (v, e) =
        let by_ended_ready = ended_ready b.scope b.begin m t v (head b.term) k e in
        let still_offered : IsPending t b.begin (act_ends inputs (sees registers) b.scope b.begin (head b.term)) = record { begun = by_ended_ready.1; not_ended = λ c w q. let equal : Done c w ≡ Done t v = sym q ∙ e in let y' : c ≡ t = cc in omega arith } in
        let by_is_driven = is_driven inputs registers p process m t (record { j = j; thread = thread; is = is; turn = turn; place = place; act = b; on = k; pending = still_offered }) in
        ready_wires m t (head b.term) (side_begun m j thread is turn place b k) by_ended_ready.2 by_is_driven by_ended_ready.0

    pub driven_at : (m t : ℕ) → Exchange (wires p inputs registers) m t → driven p inputs registers m t ≡ true
    driven_at m t (l, v, a) = go (is_received p m) refl
      where
        go : (b : Bool) → is_received p m ≡ b → driven p inputs registers m t ≡ true
        go true e = rw e at a
        go false e = rw e at v

    -- an act that is offered in the cycle of an exchange ends there
    pub offered_ends : (m t : ℕ) (o : OfferedIn inputs registers p.threads m t) → Exchange (wires p inputs registers) m t → EndsIn o.act t
    offered_ends m t o e = ready_ended o.act.scope o.act.begin m t (head o.act.term) o.on e.0 o.pending (wires_ready m t (head o.act.term) (side_begun m o.j o.thread o.is o.turn o.place o.act o.on) e)

    -- the act that an exchange ends
    pub ended_by : (m t : ℕ) → Exchange (wires p inputs registers) m t → (o : OfferedIn inputs registers p.threads m t) × EndsIn o.act t
    ended_by m t e = let by_driven_is = driven_is inputs registers p m t (driven_at m t e) in (by_driven_is, offered_ends m t by_driven_is e)

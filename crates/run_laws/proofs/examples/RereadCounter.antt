-- The counter, loop { set a := *a + 8'd1 >> cycle 2 }, has a re-reading run: what is asked of such a run can be met.
--
-- It has no `if`, so a walk that decides in any way has the acts of the source run, and its registers are those of that run: a
-- set writes what it reads again as it begins, which is one more than the register.
use Rattle.std.proofs.Common.{◌≡◌, ℕ, ◌+◌, ◌%◌, ◌^◌, ◌<◌, ◌≤◌, ◌⊎◌, inl, inr, arith, refl, sym, ◌∙◌, ap, subst, List, [], true, false, zero, suc, Option, Some, None}
use Rattle.core_term.specs.declared.operators.BinOp.TheVariants.{Add}
use Rattle.core_term.specs.Term.{Expr, Lit, Reg, Bin, Term, One, Then, Act, Cycle, Set, head}
use Rattle.core_term.specs.Value.{value, Outcome}
use Rattle.core_term.specs.Inputs.{Inputs}
use Rattle.core_term.specs.Ends.{Sees, sees}
use Rattle.core_term.specs.Fate.{Runs}
use Rattle.core_term.specs.Numbering.{size, Numbered}
use Rattle.core_term.specs.Tail.{IsTail, CyclesTakeTime}
use Rattle.core_term.specs.Turns.{run_of}
use Rattle.core_term.specs.Acts.{Asks, HasAct, Receives, Sends, OnPort, Sets, Uses}
use Rattle.core_term.specs.Lists.{Has}
use Rattle.core_term.specs.Stands.{Stands, here, in_one, in_then, after_then}
use Rattle.core_term.specs.Process.{LifeEnd, Cycles, Until, Thread, IsThread, IsProcess, life_of, is_received}
use Rattle.core_term.specs.History.{written_by, get_else, IsHistory}
use Rattle.core_term.specs.Outputs.{has}
use Rattle.core_term.specs.Log.{Begun}
use Rattle.core_term.specs.Reread.{Reread, IsReread, Begins, DecidesAgain, deciding, again_at}
use Rattle.run_laws.proofs.source_runs.Causal.{SameFate}
use Rattle.run_laws.proofs.examples.ExampleProcesses.{counter}
use Rattle.run_laws.proofs.rereading.SameTurns.{fates_same}
use Rattle.run_laws.proofs.turn_points.Placed.{place}
use Rattle.run_laws.proofs.rereading.Decide.{within}
use Rattle.run_laws.proofs.source_runs.Written.{written_is, is_written}
use Rattle.core_term.specs.History as source_run
use Rattle.run_laws.proofs.source_runs.Exists.{is_history}

abbrev next : Expr
next = Bin Add 8 8 (Reg 0) (Lit 8 1)

abbrev rest : Term
rest = One (Cycle 1 2)

abbrev body : Term
body = Then (Set 0 0 next) rest

-- an act of the text is the set or the cycle
heads : {vs : List Act} {u : Term} → Stands [] body vs u → (head u ≡ Set 0 0 next) ⊎ (head u ≡ Cycle 1 2)
heads here = inl refl
heads (in_then s) = elim s [ ]
heads (after_then here) = inr refl
heads (after_then (in_one s)) = elim s [ ]

none_of : (P : Act → Type 0) → (P (Set 0 0 next) → ⊥) → (P (Cycle 1 2) → ⊥) → {vs : List Act} {u : Term} → Stands [] body vs u → P (head u) → ⊥
none_of P k l s i = elim (heads s) [ inl e ↦ k (subst P e i) | inr e ↦ l (subst P e i) ]

no_act : (P : Act → Type 0) → (P (Set 0 0 next) → ⊥) → (P (Cycle 1 2) → ⊥) → (w : ℕ) → HasAct body w P → ⊥
no_act P k l w a = none_of P k l a.2 a.4

numbered : Numbered [] 0 body
numbered = ((refl, λ y k. elim k [ inl i ↦ absurd i | inr i ↦ absurd i ]), refl)

thread_is : (j : ℕ) (thread : Thread) → IsThread counter.threads j thread → (j ≡ 0) × (record { body = body; count = 2 } ≡ thread)
thread_is zero thread k = (refl, k)
thread_is (suc j) thread k = elim k [ ]

on_thread : (P : ℕ → Thread → Type 0) → P 0 (record { body = body; count = 2 }) → (j : ℕ) (thread : Thread) → IsThread counter.threads j thread → P j thread
on_thread P k j thread is = let by_thread_is = thread_is j thread is in let the_p : P 0 thread = subst (λ t. P 0 t) by_thread_is.1 k in rw by_thread_is.0 the_p

no_life : (m : ℕ) (e : LifeEnd) → Has (life_of counter m) e → ⊥
no_life zero e k = k
no_life (suc m) e k = k

pub process : IsProcess counter
process = record {
  numbered = on_thread (λ j thread. Numbered [] 0 thread.body) numbered;
  counted = on_thread (λ j thread. thread.count ≡ size thread.body) refl;
  takes_time = on_thread (λ j thread. IsTail thread.body) (omega arith);
  cycles = on_thread (λ j thread. CyclesTakeTime thread.body) (tt, omega arith);
  lasts = λ m k e. absurd (no_life m (Cycles k) e);
  same_endpoint = λ m n e. absurd (no_life m (Until n) e);
  receives = λ j thread w m is a. absurd (on_thread (λ j thread. HasAct thread.body w (λ a. Receives a m) → ⊥) (no_act (λ a. Receives a m) (λ k. k) (λ k. k) w) j thread is a);
  sends = λ j thread w m is a. absurd (on_thread (λ j thread. HasAct thread.body w (λ a. Sends a m) → ⊥) (no_act (λ a. Sends a m) (λ k. k) (λ k. k) w) j thread is a);
  one_talker = λ i j thread thread' w w' m m' is is' a b e. (thread_is i thread is).0 ∙ sym (thread_is j thread' is').0;
  one_setter = λ i j thread thread' w w' r is is' a b. (thread_is i thread is).0 ∙ sym (thread_is j thread' is').0;
}

module _ (inputs : Inputs) where
  abbrev registers : ℕ → ℕ → ℕ
  registers = source_run.history counter inputs

  abbrev run : Reread
  run = record { registers = registers; decision = λ j p s. false; side = λ j p c. false; wires = record { count = inputs.count; valid = λ m t. false; ack = inputs.ack; data_at = λ m t. 0 } }

  abbrev again : Sees
  again = deciding registers (λ p s. false)

  no_asks : {vs : List Act} {u : Term} (f : Expr) → Stands [] body vs u → Asks (head u) f → ⊥
  no_asks f = none_of (λ a. Asks a f) (λ k. k) (λ k. k)

  -- where an act of either walk stands
  stands : (g : Sees) (i q : ℕ) (scope : ℕ → Outcome) (s : ℕ) (u : Term) → run_of inputs g body i q ≡ Runs scope s u → (vs : List Act) × Stands [] body vs u × (s < inputs.count)
  stands g i q scope s u e =
      let by_place = place inputs g body numbered i q scope s u (record { inside = within inputs body numbered g i q scope s u e; runs = e }) in
      (by_place.1, by_place.3.stands, by_place.3.fits.1)

  same : (t : ℕ) → t < inputs.count → (i q : ℕ) → SameFate t (run_of inputs (sees registers) body i q) (run_of inputs again body i q)
  same t l =
      fates_same t inputs (sees registers) again (record { long = l; long' = l; valid = λ m u k. refl; data_at = λ m u k. refl; ack = λ m u k. refl }) (λ s r k. refl) body numbered
      (λ i q s scope scope' u f e e' k m n o. absurd (no_asks f (stands (sees registers) i q scope s u e).1 k))

  uses_next : {vs : List Act} {u : Term} (e : Expr) → Stands [] body vs u → Uses (head u) e → next ≡ e
  uses_next e s k = elim (heads s) [ inl i ↦ (let the_uses : Uses (Set 0 0 next) e = subst (λ a. Uses a e) i k in the_uses) | inr i ↦ absurd (let next_the_uses : Uses (Cycle 1 2) e = subst (λ a. Uses a e) i k in next_the_uses) ]

  -- what a set writes, told by the registers alone
  abbrev step : ℕ → ℕ
  step t = (registers t 0 + 1) % 2 ^ 8

  value_is : (scope : ℕ → Outcome) (t : ℕ) (e : Expr) → next ≡ e → (value registers scope t e).number ≡ step t
  value_is scope t e k = ap (λ z. (value registers scope t z).number) (sym k)

  again_is : (j t : ℕ) (vs : List Act) (e : Expr) → next ≡ e → again_at inputs run j t vs e ≡ step t
  again_is j t vs e k = ap (λ z. again_at inputs run j t vs z) (sym k)

  -- a set of the re-reading walk is one of the source walk
  source_set : (i q : ℕ) (b : Begins inputs run 0 body i q) → Begun inputs registers body i q
  source_set i q b =
      let by_stands = (stands again i q b.scope b.begin b.term b.runs).2 in
      let by_same = (same b.begin by_stands i q).back b.scope b.begin b.term b.runs (omega arith) in
      record { scope = by_same.0; begin = b.begin; term = b.term; runs = by_same.1 }

  set_written : (i q r : ℕ) (scope : ℕ → Outcome) (s : ℕ) (u : Term) → run_of inputs again body i q ≡ Runs scope s u → Sets (head u) r → has (written_by inputs registers counter.threads r s) ≡ true
  set_written i q r scope s u e k =
      let next_by_stands = (stands again i q scope s u e).2 in
      let next_by_same = (same s next_by_stands i q).back scope s u e (omega arith) in
      is_written inputs registers counter process r s 0 (record { body = body; count = 2 }) refl i q (record { scope = next_by_same.0; begin = s; term = u; runs = next_by_same.1 }) k refl

  history : IsHistory counter inputs registers
  history = is_history counter inputs

  next_reg : (t r : ℕ) → t < inputs.count → has (written_by inputs registers counter.threads r t) ≡ true → registers (t + 1) r ≡ step t
  next_reg t r l w = history.step t r l ∙ go (written_by inputs registers counter.threads r t) refl w
    where
      number_of : (v j : ℕ) (thread : Thread) → IsThread counter.threads j thread → (i q : ℕ) (b : Begun inputs registers thread.body i q) (e : Expr) → Uses (head b.term) e → b.begin ≡ t → (value registers b.scope b.begin e).number ≡ v → v ≡ step t
      number_of v j thread is i q = on_thread (λ j thread. (b : Begun inputs registers thread.body i q) (e : Expr) → Uses (head b.term) e → b.begin ≡ t → (value registers b.scope b.begin e).number ≡ v → v ≡ step t)
          (λ b e k n m. sym m ∙ (value_is b.scope b.begin e (uses_next e (stands (sees registers) i q b.scope b.begin b.term b.runs).1 k) ∙ ap step n)) j thread is

      go : (o : Option ℕ) → written_by inputs registers counter.threads r t ≡ o → has o ≡ true → get_else o (registers t r) ≡ step t
      go None e k = absurd cc
      go (Some v) e k = let by_written_is = written_is inputs registers counter.threads r t v e in number_of v by_written_is.j by_written_is.thread by_written_is.is by_written_is.turn by_written_is.place by_written_is.act by_written_is.expr by_written_is.uses by_written_is.now by_written_is.number

  kept_reg : (t r : ℕ) → t < inputs.count → ((i q : ℕ) (scope : ℕ → Outcome) (u : Term) → run_of inputs again body i q ≡ Runs scope t u → Sets (head u) r → ⊥) → registers (t + 1) r ≡ registers t r
  kept_reg t r l none = history.step t r l ∙ go (written_by inputs registers counter.threads r t) refl
    where
      no_source : (j : ℕ) (thread : Thread) → IsThread counter.threads j thread → (i q : ℕ) (b : Begun inputs registers thread.body i q) → Sets (head b.term) r → b.begin ≡ t → ⊥
      no_source j thread is i q = on_thread (λ j thread. (b : Begun inputs registers thread.body i q) → Sets (head b.term) r → b.begin ≡ t → ⊥)
          (λ b k n. let by_same = (same t l i q).there b.scope b.begin b.term b.runs (omega (arith, n)) in none i q by_same.0 b.term (subst (λ s. run_of inputs again body i q ≡ Runs by_same.0 s b.term) n by_same.1) k) j thread is

      go : (o : Option ℕ) → written_by inputs registers counter.threads r t ≡ o → get_else o (registers t r) ≡ registers t r
      go None e = refl
      go (Some v) e = let next_by_written_is = written_is inputs registers counter.threads r t v e in absurd (no_source next_by_written_is.j next_by_written_is.thread next_by_written_is.is next_by_written_is.turn next_by_written_is.place next_by_written_is.act next_by_written_is.sets next_by_written_is.now)

  no_port : (j : ℕ) (thread : Thread) → IsThread counter.threads j thread → (m i q : ℕ) (b : Begins inputs run j thread.body i q) → OnPort (head b.term) m → ⊥
  no_port j thread is m i q = on_thread (λ j thread. (b : Begins inputs run j thread.body i q) → OnPort (head b.term) m → ⊥)
      (λ b k. none_of (λ a. OnPort a m) (λ k. k) (λ k. k) (stands again i q b.scope b.begin b.term b.runs).1 k) j thread is

  no_received : (m : ℕ) → is_received counter m ≡ true → ⊥
  no_received zero k = cc
  no_received (suc m) k = cc

  no_send : (j : ℕ) (thread : Thread) → IsThread counter.threads j thread → (m i q : ℕ) (b : Begins inputs run j thread.body i q) → Sends (head b.term) m → ⊥
  no_send j thread is m i q = on_thread (λ j thread. (b : Begins inputs run j thread.body i q) → Sends (head b.term) m → ⊥)
      (λ b k. none_of (λ a. Sends a m) (λ k. k) (λ k. k) (stands again i q b.scope b.begin b.term b.runs).1 k) j thread is

  pub is_reread : IsReread counter inputs run
  is_reread = record {
    decides = on_thread (λ j thread. DecidesAgain inputs thread.body registers (λ p s. false) (λ p c. false)) (record {
      decides = λ i q l b vs t f k. absurd (no_asks f t k);
      latest = λ i q c l b f k m n. absurd (no_asks f (stands again i q b.scope b.begin b.term b.runs).1 k);
      never = λ q c l n. refl;
    });
    reset = history.reset;
    written = λ j thread is i q. on_thread (λ j thread. (b : Begins inputs run j thread.body i q) (vs : List Act) → Stands [] thread.body vs b.term → (r : ℕ) (e : Expr) → Sets (head b.term) r → Uses (head b.term) e
        → ((turn' place' : ℕ) (a : Begins inputs run j thread.body turn' place') → Sets (head a.term) r → a.begin ≡ b.begin → place' ≤ q) → registers (b.begin + 1) r ≡ again_at inputs run j b.begin vs e)
        (λ b vs t r e k m n. next_reg b.begin r (stands again i q b.scope b.begin b.term b.runs).2 (set_written i q r b.scope b.begin b.term b.runs k) ∙ sym (again_is 0 b.begin vs e (uses_next e t m))) j thread is;
    unwritten = λ t r l none. kept_reg t r l (λ i q scope u e k. none 0 (record { body = body; count = 2 }) refl i q (record { scope = scope; begin = t; term = u; runs = e }) k refl);
    long = refl;
    valid_in = λ m t k. absurd (no_received m k);
    data_in = λ m t k. absurd (no_received m k);
    ack_in = λ m t k. refl;
    ack_out = λ m t l k. absurd (no_received m k);
    valid_out = λ m t l k. ((λ e. absurd cc), λ o. absurd (no_port o.j o.thread o.is m o.turn o.site o.act o.on));
    data_out = λ m t l j thread is i q b vs s e k u n o. absurd (no_send j thread is m i q b k);
    no_data = λ m t l k n. refl;
  }

-- The order law, the last law and the tails, in the words of the laws.
--
-- The order law of a body is the abstract law of `order_rules` for the points of two turns, whose local rules are those of
-- every point; `Order` shows this. Here it is said of two turns by their numbers. The tails are read off `Tails` and `Strict`,
-- for the act of one site of a turn that has ended.
use Rattle.std.proofs.Common.{◌≡◌, ℕ, ◌<◌, ◌≤◌, ◌⊎◌, inl, inr, arith, refl, sym, ◌∙◌, ap, subst, [], Bool, true, false, Option, Some}
use Rattle.std.specs.Prelude.{ℤ, pos, ◌+ℤ◌, ◌≤ℤ◌, ◌<ℤ◌}
use Rattle.std.proofs.lemmas.Int.{ints}
use Rattle.core_term.specs.Inputs.{Inputs}
use Rattle.core_term.specs.Term.{Term, site, head}
use Rattle.core_term.specs.Numbering.{Numbered}
use Rattle.core_term.specs.Tail.{IsTail}
use Rattle.core_term.specs.Value.{Outcome}
use Rattle.core_term.specs.Ends.{Sees, sees}
use Rattle.core_term.specs.Fate.{Runs}
use Rattle.core_term.specs.Turns.{no_variable, begins, run_from, run_of}
use Rattle.core_term.specs.Acts.{OnPort}
use Rattle.core_term.specs.Process.{Process, Thread, IsThread, IsProcess, life_of}
use Rattle.core_term.specs.Wires.{InLife}
use Rattle.core_term.specs.Outputs.{wires}
use Rattle.core_term.specs.Points.{Spot, TermEnd, End}
use Rattle.core_term.specs.Order.{Point, Precedes}
use Rattle.core_term.specs.Lives.{LastPrecedes}
use Rattle.core_term.specs.Occurs.{Gone, At, end_at}
use Rattle.run_laws.specs.TurnLaws.{times, turn_of, times_of}
use Rattle.run_laws.proofs.turn_points.Order.{at, Occurs, order_law}
use Rattle.run_laws.proofs.turn_points.Strict.{EarlyIn, early}
use Rattle.run_laws.proofs.turn_points.Placed.{some_start, turn_end, ended_in}
use Rattle.run_laws.proofs.rereading.Decide.{within}
use Rattle.run_laws.proofs.safe_runs.UseLaw.{last_law}
use Rattle.run_laws.proofs.safe_runs.ThreadActs.{talks}

module _ (inputs : Inputs) (view : Sees) (body : Term) (numbered : Numbered [] 0 body) where
  -- the two turns by their numbers
  same_at : (i k : ℕ) (late : Bool) (spot : Spot) → times inputs view body (turn_of i k late) spot ≡ at inputs view body numbered i k late spot
  same_at i k false spot = refl
  same_at i k true spot = refl

  pub occurs_at : (i k : ℕ) (b : Point) (t : ℕ) → times_of inputs view body i k b ≡ At t → Occurs inputs view body numbered i k b t
  occurs_at i k b t e = sym (same_at i k b.late b.spot) ∙ e

  pub ordered : (i k : ℕ) (a b : Point) (d : ℤ) → Precedes body a d b → (a.late ≡ false) ⊎ (k ≡ 0) → (t : ℕ) → times_of inputs view body i k b ≡ At t → pos t <ℤ (pos inputs.count +ℤ d)
      → (times_of inputs view body i k a ≡ Gone) ⊎ ((s : ℕ) × ((pos s +ℤ d) ≤ℤ pos t) × (times_of inputs view body i k a ≡ At s))
  ordered i k a b d r left t e less =
      elim (order_law inputs view body numbered i k a b d r left t (occurs_at i k b t e) less) [
        | inl lost ↦ inl (same_at i k a.late a.spot ∙ lost)
        | inr z ↦ inr (z.0, z.1, same_at i k a.late a.spot ∙ z.2)
      ]

  pub tailed : IsTail body → (i e : ℕ) → times inputs view body i (TermEnd (site (head body))) ≡ At e → (q : ℕ) (scope : ℕ → Outcome) (start : ℕ) (u : Term) → run_of inputs view body i q ≡ Runs scope start u
      → (start < e) × ((c : ℕ) × (times inputs view body i (End q) ≡ At c) × (c ≤ e) × ((m : ℕ) → OnPort (head u) m → c < e))
  tailed tail i e ends q scope start u runs =
      let by_some_start = some_start inputs view body numbered (begins inputs view body i) q scope start u runs in
      let by_turn_end = turn_end inputs view body numbered (begins inputs view body i) by_some_start.0 e by_some_start.1 ends in
      let by_within = within inputs body numbered view i q scope start u runs in
      let fact = rw runs at (ended_in inputs view body numbered i q (begins inputs view body i) by_some_start.0 e by_some_start.1 by_turn_end by_within) in
      let Statement : Option ℕ → Type 0 = λ w. EarlyIn inputs view (run_from inputs view body w) (run_from inputs view body w q) e in
      let next_fact = subst Statement (sym by_some_start.1) (early inputs view (run_from inputs view body (Some by_some_start.0)) [] 0 no_variable by_some_start.0 body e numbered tail (record { each = λ q by_within m. refl }) by_turn_end q (omega arith) (omega arith)).is in
      let last_fact = rw runs at next_fact in
      (last_fact.0, (fact.0, ap (end_at inputs view) runs ∙ fact.1, fact.2, λ m on. last_fact.1 (talks (head u) m on) fact.0 fact.1))

module _ (p : Process) (process : IsProcess p) (inputs : Inputs) (registers : ℕ → ℕ → ℕ) (j : ℕ) (thread : Thread) (is : IsThread p.threads j thread) where
  pub last : (i k q m : ℕ) (d : ℤ) (b : Point) → LastPrecedes thread.body (life_of p m) q d b → (t : ℕ) → times_of inputs (sees registers) thread.body i k b ≡ At t → t < inputs.count → pos t <ℤ (pos inputs.count +ℤ d)
      → (times inputs (sees registers) thread.body i (End q) ≡ Gone) ⊎ ((e : ℕ) × (times inputs (sees registers) thread.body i (End q) ≡ At e) × ((c : ℕ) → InLife (wires p inputs registers) (life_of p m) e c → (pos c +ℤ d) ≤ℤ pos t))
  last i k q m d b r t e short less =
      elim (last_law p process inputs registers j thread is m i k q d t b r (occurs_at inputs (sees registers) thread.body (process.numbered j thread is) i k b t e) short less) [
        | inl lost ↦ inl lost
        | inr z ↦ inr (z.0, z.2, λ c n. let part = z.3 c n in omega (arith, ints, z.4))
      ]

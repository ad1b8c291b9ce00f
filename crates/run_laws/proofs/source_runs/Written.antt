-- A register is written in a cycle exactly where a set of it begins there, and between its sets it stays as it is.
--
-- What is written is found by a search over threads, sites and turns; it finds a set where there is one, and what it finds is
-- one.
use Rattle.std.proofs.Common.{◌≡◌, ℕ, ◌+◌, ◌<◌, ◌≤◌, inl, inr, arith, refl, sym, ◌∙◌, ap, subst, List, [], ◌∷◌, Bool, true, false, if◌then◌else◌, ◌==◌, ◌&&◌, zero, suc, Option, Some, None}
use Rattle.std.proofs.lemmas.Bool.Decides.{nat_tests}
use Rattle.core_term.specs.Term.{Expr, Act, Cycle, Set, Send, Recv, If, When, Block, Wait, Pure, Nothing, head}
use Rattle.core_term.specs.Value.{Outcome, value}
use Rattle.core_term.specs.Inputs.{Inputs}
use Rattle.core_term.specs.Ends.{sees}
use Rattle.core_term.specs.Fate.{Fate, Waits, Lost, Runs}
use Rattle.core_term.specs.Numbering.{size}
use Rattle.core_term.specs.Turns.{run_of}
use Rattle.core_term.specs.Process.{Process, Thread, IsThread, IsProcess}
use Rattle.core_term.specs.Acts.{Sets, Uses}
use Rattle.core_term.specs.History.{set_by, set_at, written, written_by, get_else, IsHistory}
use Rattle.core_term.specs.Outputs.{has}
use Rattle.core_term.specs.Log.{Begun}
use Rattle.run_laws.proofs.source_runs.Offers.{or_some, greatest_some, or_first, or_second, greatest_has, and_first, and_second, turn_by, ran}

module _ (inputs : Inputs) (registers : ℕ → ℕ → ℕ) where
  -- a set of the register r that begins in cycle t, with the number that it writes
  pub record Writes (threads : List Thread) (r t v : ℕ) : Type 0 where
    pub j : ℕ
    pub thread : Thread
    pub is : IsThread threads j thread
    pub turn : ℕ
    pub place : ℕ
    pub act : Begun inputs registers thread.body turn place
    pub expr : Expr
    pub sets : Sets (head act.term) r
    pub uses : Uses (head act.term) expr
    pub now : act.begin ≡ t
    pub number : (value registers act.scope act.begin expr).number ≡ v

  set_is : (r t s v : ℕ) (scope : ℕ → Outcome) (a : Act) → set_by registers r t scope s a ≡ Some v → (e : Expr) × Sets a r × Uses a e × (s ≡ t) × ((value registers scope s e).number ≡ v)
  set_is r t s v scope (Set p q e) k = go ((q == r) && (s == t)) refl k
    where
      go : (b : Bool) → (q == r) && (s == t) ≡ b → (if b then Some (value registers scope s e).number else None) ≡ Some v → (e' : Expr) × (q ≡ r) × (e ≡ e') × (s ≡ t) × ((value registers scope s e').number ≡ v)
      go true f i =
          let decided : (q == r) ≡ true = and_first (q == r) (s == t) f in
          let next_decided : (s == t) ≡ true = and_second (q == r) (s == t) f in
          (e, grind (arith, nat_tests), refl, grind (arith, nat_tests), cc)
      go false f i = absurd cc
  set_is r t s v scope (Cycle p n) k = absurd cc
  set_is r t s v scope (Send p m e) k = absurd cc
  set_is r t s v scope (Recv p m) k = absurd cc
  set_is r t s v scope (If p e u w d) k = absurd cc
  set_is r t s v scope (When p e u) k = absurd cc
  set_is r t s v scope (Block p u) k = absurd cc
  set_is r t s v scope (Wait p y) k = absurd cc
  set_is r t s v scope (Pure p e) k = absurd cc
  set_is r t s v scope (Nothing p) k = absurd cc

  is_set : (r t s : ℕ) (scope : ℕ → Outcome) (a : Act) → Sets a r → s ≡ t → has (set_by registers r t scope s a) ≡ true
  is_set r t s scope (Set p q e) k l =
      let k' : q ≡ r = k in
      let last_decided : (q == r) ≡ true = grind (arith, nat_tests) in
      let other_decided : (s == t) ≡ true = grind (arith, nat_tests) in
      rw (last_decided, other_decided) refl
  is_set r t s scope (Cycle p n) k l = elim k [ ]
  is_set r t s scope (Send p m e) k l = elim k [ ]
  is_set r t s scope (Recv p m) k l = elim k [ ]
  is_set r t s scope (If p e u w d) k l = elim k [ ]
  is_set r t s scope (When p e u) k l = elim k [ ]
  is_set r t s scope (Block p u) k l = elim k [ ]
  is_set r t s scope (Wait p y) k l = elim k [ ]
  is_set r t s scope (Pure p e) k l = elim k [ ]
  is_set r t s scope (Nothing p) k l = elim k [ ]

  at_is : (thread : Thread) (i q r t v : ℕ) (w : Fate) → run_of inputs (sees registers) thread.body i q ≡ w → set_at registers r t w ≡ Some v
      → (b : Begun inputs registers thread.body i q) × (e : Expr) × Sets (head b.term) r × Uses (head b.term) e × (b.begin ≡ t) × ((value registers b.scope b.begin e).number ≡ v)
  at_is thread i q r t v Waits e k = absurd cc
  at_is thread i q r t v Lost e k = absurd cc
  at_is thread i q r t v (Runs scope s u) e k = let by_set_is = set_is r t s v scope (head u) k in (record { scope = scope; begin = s; term = u; runs = e }, by_set_is.0, by_set_is.1, by_set_is.2, by_set_is.3, by_set_is.4)

  pub written_is : (threads : List Thread) (r t v : ℕ) → written_by inputs registers threads r t ≡ Some v → Writes threads r t v
  written_is [] r t v k = absurd cc
  written_is (thread ∷ more) r t v k =
      elim (or_some (written inputs registers thread r t) (written_by inputs registers more r t) v k) [
        | inl e ↦
            let by_greatest_some = greatest_some _ thread.count v e in
            let next_by_greatest_some = greatest_some _ (t + 1) v by_greatest_some.2 in
            let by_at_is = at_is thread next_by_greatest_some.0 by_greatest_some.0 r t v _ refl next_by_greatest_some.2 in
            record { j = 0; thread = thread; is = refl; turn = next_by_greatest_some.0; place = by_greatest_some.0; act = by_at_is.0; expr = by_at_is.1; sets = by_at_is.2; uses = by_at_is.3; now = by_at_is.4; number = by_at_is.5 }
        | inr e ↦
            let by_written_is = written_is more r t v e in
            record { j = suc by_written_is.j; thread = by_written_is.thread; is = by_written_is.is; turn = by_written_is.turn; place = by_written_is.place; act = by_written_is.act; expr = by_written_is.expr; sets = by_written_is.sets; uses = by_written_is.uses; now = by_written_is.now; number = by_written_is.number }
      ]

  has_written : (threads : List Thread) (r t j : ℕ) (thread : Thread) → IsThread threads j thread → (i q : ℕ) → i < t + 1 → q < thread.count → (b : Begun inputs registers thread.body i q) → Sets (head b.term) r → b.begin ≡ t → has (written_by inputs registers threads r t) ≡ true
  has_written [] r t j thread is i q l n b k e = elim is [ ]
  has_written (a ∷ more) r t zero thread is i q l n b k e =
      or_first (written inputs registers a r t) (written_by inputs registers more r t) (subst (λ z. has (written inputs registers z r t) ≡ true) (sym is)
      (greatest_has _ thread.count q n (greatest_has _ (t + 1) i l (ap (λ w. has (set_at registers r t w)) b.runs ∙ is_set r t b.begin b.scope (head b.term) k e))))
  has_written (a ∷ more) r t (suc j) thread is i q l n b k e = or_second (written inputs registers a r t) (written_by inputs registers more r t) (has_written more r t j thread is i q l n b k e)

  module _ (p : Process) (process : IsProcess p) where
    pub is_written : (r t j : ℕ) (thread : Thread) → IsThread p.threads j thread → (i q : ℕ) (b : Begun inputs registers thread.body i q) → Sets (head b.term) r → b.begin ≡ t → has (written_by inputs registers p.threads r t) ≡ true
    is_written r t j thread is i q b k e =
        let by_numbered = process.numbered j thread is in
        let equal : thread.count ≡ size thread.body = process.counted j thread is in
        let at_most : i ≤ b.begin = turn_by inputs registers thread.body by_numbered (process.takes_time j thread is) i q b in
        let is_less : q < size thread.body = (ran inputs registers thread.body by_numbered i q b).inside in
        has_written p.threads r t j thread is i q (omega arith) (omega arith) b k e

    -- no set of r begins from t on, before c
    abbrev pub NoSet : ℕ → ℕ → ℕ → Type 0
    NoSet r t c = (j : ℕ) (thread : Thread) → IsThread p.threads j thread → (turn place : ℕ) (b : Begun inputs registers thread.body turn place) → Sets (head b.term) r → t ≤ b.begin → b.begin < c → ⊥

    module _ (history : IsHistory p inputs registers) where
      -- so r stays as it is
      pub steady : (r t n : ℕ) → t + n ≤ inputs.count → NoSet r t (t + n) → registers (t + n) r ≡ registers t r
      steady r t zero l k = let next_equal : t + 0 ≡ t = omega arith in ap (λ z. registers z r) next_equal
      steady r t (suc n) l k =
          let before : registers (t + n) r ≡ registers t r = steady r t n (omega arith) (λ j thread is i q b s a c. k j thread is i q b s a (omega arith)) in
          let last_equal : t + suc n ≡ t + n + 1 = omega arith in
          let short : t + n < inputs.count = omega arith in
          ap (λ z. registers z r) last_equal ∙ (history.step (t + n) r short ∙ (go (written_by inputs registers p.threads r (t + n)) refl ∙ before))
        where
          go : (o : Option ℕ) → written_by inputs registers p.threads r (t + n) ≡ o → get_else o (registers (t + n) r) ≡ registers (t + n) r
          go None e = refl
          go (Some v) e =
              let by_written_is = written_is p.threads r (t + n) v e in
              absurd (k by_written_is.j by_written_is.thread by_written_is.is by_written_is.turn by_written_is.place by_written_is.act by_written_is.sets (omega (arith, by_written_is.now)) (omega (arith, by_written_is.now)))

-- While the promises of the received ports are kept, the re-reading run has the registers, acts and decisions of the source
-- run.
--
-- By induction over cycles, and inside a cycle over sites. What a use in cycle c rests on is what it was: data of a received
-- port by its promise, since the use lies in the life of the exchange; a register, since no set of it begins between; a side,
-- since its `if` has not decided again. So what is read again is the value. The hard case is a condition that rests on an `if`
-- of the same cycle: its site is smaller, so it is known already. Then the sets of the cycle write alike, and the next cycle
-- shows the same registers.
use Rattle.std.proofs.Common.{◌≡◌, ℕ, ◌+◌, ◌-◌, ◌<◌, ◌≤◌, arith, refl, sym, ◌∙◌, ap, subst, List, [], Bool, true, false, nat_lt, zero, suc, Option, Some, None}
use Rattle.std.proofs.lemmas.Bool.Decides.{nat_tests}
use Rattle.std.specs.Prelude.{ℤ, pos}
use Rattle.core_term.specs.Term.{Expr, Term, Act, Cycle, Set, Send, Recv, If, When, Block, Wait, Pure, Nothing, site, head}
use Rattle.core_term.specs.Value.{Outcome, value, Atom, Wire, Register, Choice}
use Rattle.core_term.specs.Inputs.{Inputs}
use Rattle.core_term.specs.Ends.{sees}
use Rattle.core_term.specs.Fate.{Fate, Runs}
use Rattle.core_term.specs.Numbering.{Numbered, Mentions}
use Rattle.core_term.specs.Turns.{run_of}
use Rattle.core_term.specs.Order.{Point, Precedes}
use Rattle.core_term.specs.Sources.{Source, WireOf, RegOf, ChoiceOf}
use Rattle.core_term.specs.Lists.{Has}
use Rattle.core_term.specs.Stands.{Stands}
use Rattle.core_term.specs.Acts.{Asks, Receives, Sets, Reads, Uses}
use Rattle.core_term.specs.Process.{Process, Thread, IsThread, life_of, is_received, IsProcess}
use Rattle.core_term.specs.Wires.{IsKept}
use Rattle.core_term.specs.Outputs.{wires, data_wire, has}
use Rattle.core_term.specs.History.{written_by, get_else, IsHistory}
use Rattle.run_laws.proofs.safe_runs.Premises.{UsesAtOnce, MadeFirst, ChoicesKept}
use Rattle.core_term.specs.Rules.{Holds, use_by, RestsOn, KeepsDemands}
use Rattle.core_term.specs.Log.{Begun, InUse}
use Rattle.core_term.specs.Safe.{IsSafe}
use Rattle.run_laws.proofs.rereading.FreshAtoms.{IsFresh}
use Rattle.core_term.specs.Reread.{Reread, IsReread, Begins, deciding, sight, again_at}
use Rattle.core_term.specs.Rules as demand
use Rattle.run_laws.proofs.turn_points.Sound.{Matches}
use Rattle.run_laws.proofs.source_runs.Causal.{SameFate}
use Rattle.run_laws.proofs.rereading.Agree.{RowsTo}
use Rattle.run_laws.proofs.rereading.SameTurns.{fates_same}
use Rattle.run_laws.proofs.rereading.Decide.{asks_uses, all_fresh, value_again, decides_same}
use Rattle.run_laws.proofs.source_runs.Chosen.{chose, chose_is}
use Rattle.run_laws.proofs.source_runs.Written.{Writes, written_is, is_written, NoSet, steady}
use Rattle.run_laws.proofs.source_runs.Offers.{begun_act}
use Rattle.run_laws.proofs.source_runs.Exchanges.{exchange_of}
use Rattle.run_laws.proofs.safe_runs.UseLaw.{end_found}
use Rattle.run_laws.proofs.safe_runs.ThreadActs.{rests, atom_by, in_use_from}
use Rattle.run_laws.proofs.safe_runs.SafeRun.{safe, safe_register, safe_side, safe_set}

at_once_uses : (a : Act) (e : Expr) → UsesAtOnce a e → Uses a e
at_once_uses (Set p r f) e k = k
at_once_uses (If p f t u w) e k = k
at_once_uses (When p f t) e k = k
at_once_uses (Cycle p n) e k = elim k [ ]
at_once_uses (Send p m f) e k = elim k [ ]
at_once_uses (Recv p m) e k = elim k [ ]
at_once_uses (Block p t) e k = elim k [ ]
at_once_uses (Wait p y) e k = elim k [ ]
at_once_uses (Pure p f) e k = elim k [ ]
at_once_uses (Nothing p) e k = elim k [ ]

at_once_holds : (p : Process) (body : Term) (a : Act) (e : Expr) (d : ℤ) (b : Point) → UsesAtOnce a e → Holds p body (use_by a d b) → Precedes body (demand.begin_of (site a)) d b
at_once_holds p body (Set q r f) e d b k i = i
at_once_holds p body (If q f t u w) e d b k i = i
at_once_holds p body (When q f t) e d b k i = i
at_once_holds p body (Cycle q n) e d b k i = elim k [ ]
at_once_holds p body (Send q m f) e d b k i = elim k [ ]
at_once_holds p body (Recv q m) e d b k i = elim k [ ]
at_once_holds p body (Block q t) e d b k i = elim k [ ]
at_once_holds p body (Wait q y) e d b k i = elim k [ ]
at_once_holds p body (Pure q f) e d b k i = elim k [ ]
at_once_holds p body (Nothing q) e d b k i = elim k [ ]

uses_reads : (a : Act) (e : Expr) (y : ℕ) → Uses a e → Mentions e y → Reads a y
uses_reads (Set p r f) e y k m = rw k m
uses_reads (Send p n f) e y k m = rw k m
uses_reads (If p f t u w) e y k m = rw k m
uses_reads (When p f t) e y k m = rw k m
uses_reads (Cycle p n) e y k m = elim k [ ]
uses_reads (Recv p n) e y k m = elim k [ ]
uses_reads (Block p t) e y k m = elim k [ ]
uses_reads (Wait p z) e y k m = elim k [ ]
uses_reads (Pure p f) e y k m = elim k [ ]
uses_reads (Nothing p) e y k m = elim k [ ]

module _ (p : Process) (process : IsProcess p) (accepted : KeepsDemands p) (inputs : Inputs) (registers : ℕ → ℕ → ℕ) (history : IsHistory p inputs registers) (run : Reread) (again : IsReread p inputs run) where
  safe_run : IsSafe p inputs registers
  safe_run = safe p process accepted inputs registers

  -- what becomes of an act in the source run, and in the re-reading run
  abbrev pub Original : Term → ℕ → ℕ → Fate
  Original body i q = run_of inputs (sees registers) body i q

  abbrev pub Again : ℕ → Term → ℕ → ℕ → Fate
  Again j body i q = run_of inputs (deciding run.registers (run.decision j)) body i q

  numbered_of : (j : ℕ) (thread : Thread) → IsThread p.threads j thread → Numbered [] 0 thread.body
  numbered_of j thread is = process.numbered j thread is

  abbrev pub choice_of : (j : ℕ) (thread : Thread) → IsThread p.threads j thread → ℕ → ℕ → Bool
  choice_of j thread is = chose inputs registers thread.body (process.numbered j thread is) (process.takes_time j thread is)

  -- the two runs are the same up to cycle c
  pub record Same (c : ℕ) : Type 0 where
    pub registers_same : (s r : ℕ) → s ≤ c → run.registers s r ≡ registers s r
    pub fates : (j : ℕ) (thread : Thread) → IsThread p.threads j thread → (i q : ℕ) → SameFate c (Original thread.body i q) (Again j thread.body i q)
    pub decided : (j : ℕ) (thread : Thread) (is : IsThread p.threads j thread) (i q : ℕ) (variables : ℕ → Outcome) (s : ℕ) (u : Term) (f : Expr) → Original thread.body i q ≡ Runs variables s u → Asks (head u) f → s ≤ c → run.decision j q s ≡ choice_of j thread is q s

  abbrev pub Promised : ℕ → Type 0
  Promised c = (m : ℕ) → is_received p m ≡ true → IsKept (wires p inputs registers) (life_of p m) m c

  made_of : (j : ℕ) (thread : Thread) → IsThread p.threads j thread → MadeFirst thread.body
  made_of j thread is vs u s y k = accepted j thread is _ _ _ _ (demand.made vs u y s k)

  choices_of : (j : ℕ) (thread : Thread) → IsThread p.threads j thread → ChoicesKept thread.body
  choices_of j thread is vs u s e k q i =
      at_once_holds p thread.body (head u) e (pos 1) (demand.next_begin_of q) k
      (accepted j thread is _ _ _ _ (demand.choice u q (record { scope = vs; stands = s; value = e; uses = at_once_uses (head u) e k; has = i })))

  -- a received value that is in use in cycle c is on the wires
  wire_fresh : (c : ℕ) → Promised c → (j : ℕ) (thread : Thread) (is : IsThread p.threads j thread) (turn place : ℕ) (b : Begun inputs registers thread.body turn place) (e : Expr) → Uses (head b.term) e → InUse p inputs registers b.scope b.begin (head b.term) c
      → (m t : ℕ) → Has (value registers b.scope b.begin e).atoms (Wire m t) → inputs.data_at m c ≡ inputs.data_at m t
  wire_fresh c promised j thread is turn place b e uses in_cycle m t has = go r.0 r.1 r.2
    where
      r : (a : Source) × RestsOn thread.body b.term a × Matches inputs (sees registers) (run_of inputs (sees registers) thread.body turn) a (Wire m t)
      r = rests p process inputs registers j thread is turn place b e uses (Wire m t) has

      go : (a : Source) → RestsOn thread.body b.term a → Matches inputs (sees registers) (run_of inputs (sees registers) thread.body turn) a (Wire m t) → inputs.data_at m c ≡ inputs.data_at m t
      go (RegOf q n) s k = elim k [ ]
      go (ChoiceOf q) s k = elim k [ ]
      go (WireOf q) s k =
          let recv : Begun inputs registers thread.body turn q = record { scope = k.1.0; begin = k.1.1; term = k.1.2; runs = k.1.3 } in
          let by_numbered = process.numbered j thread is in
          let side : is_received p m ≡ true = process.receives j thread q m is (begun_act inputs registers thread.body by_numbered (λ a. Receives a m) turn q recv (rw k.1.4 refl)) in
          let exchanging = exchange_of inputs registers p process m t j thread is turn q recv (rw k.1.4 refl) (end_found p process inputs registers j thread is turn q recv t k.0) in
          let life = safe_run.used_within_life j turn place c m t (record { thread = thread; is = is; act = b; expr = e; uses = uses; in_use = in_cycle; has = has }) in
          let equal : data_wire p inputs registers m c ≡ data_wire p inputs registers m t = promised m side t c exchanging (omega arith) life in
          let at : (v : ℕ) → data_wire p inputs registers m v ≡ inputs.data_at m v = λ v. rw side refl in
          sym (at c) ∙ (equal ∙ at t)

  -- a register that was read is what it was
  register_fresh : (c : ℕ) → c < inputs.count → (j : ℕ) (thread : Thread) (is : IsThread p.threads j thread) (turn place : ℕ) (b : Begun inputs registers thread.body turn place) (e : Expr) → Uses (head b.term) e → InUse p inputs registers b.scope b.begin (head b.term) c
      → (r t : ℕ) → Has (value registers b.scope b.begin e).atoms (Register r t) → registers c r ≡ registers t r
  register_fresh c short j thread is turn place b e uses in_cycle r t has =
      let at_most : t ≤ b.begin = atom_by p process inputs registers j thread is turn place b e (Register r t) has in
      let by_in_use_from = (in_use_from p process inputs registers j thread is turn place c b in_cycle).0 in
      let e' : t + (c - t) ≡ c = omega arith in
      ap (λ z. registers z r) (sym e') ∙ steady inputs registers p process history r t (c - t) (omega arith) (no_set (sym e'))
    where
      no_set : {d : ℕ} → c ≡ d → NoSet inputs registers p process r t d
      no_set q i thread' is' turn' place' a sets y z =
          safe_register p process accepted inputs registers j turn place c r t (record { thread = thread; is = is; act = b; expr = e; uses = uses; in_use = in_cycle; has = has }) i thread' is' turn' place' a sets y (omega arith)

  -- a side that was taken is the latest
  choice_fresh : (c : ℕ) → c < inputs.count → Same c → (j : ℕ) (thread : Thread) (is : IsThread p.threads j thread) (turn place : ℕ) (b : Begun inputs registers thread.body turn place) (e : Expr) → Uses (head b.term) e → InUse p inputs registers b.scope b.begin (head b.term) c
      → (q t : ℕ) → Has (value registers b.scope b.begin e).atoms (Choice q t) → run.side j q c ≡ choice_of j thread is q t
  choice_fresh c short same j thread is turn place b e uses in_cycle q t has = go r.0 r.1 r.2
    where
      r : (a : Source) × RestsOn thread.body b.term a × Matches inputs (sees registers) (run_of inputs (sees registers) thread.body turn) a (Choice q t)
      r = rests p process inputs registers j thread is turn place b e uses (Choice q t) has

      l : t ≤ c
      l = let at_most : t ≤ b.begin = atom_by p process inputs registers j thread is turn place b e (Choice q t) has in let next_by_in_use_from = (in_use_from p process inputs registers j thread is turn place c b in_cycle).0 in omega arith

      none_later : (i : ℕ) (variables : ℕ → Outcome) (t' : ℕ) (u : Term) → Again j thread.body i q ≡ Runs variables t' u → t < t' → t' ≤ c → ⊥
      none_later i variables t' u k y z =
          let by_fates = (same.fates j thread is i q).back variables t' u k z in
          safe_side p process accepted inputs registers j turn place c q t (record { thread = thread; is = is; act = b; expr = e; uses = uses; in_use = in_cycle; has = has }) i (record { scope = by_fates.0; begin = t'; term = u; runs = by_fates.1 }) y z

      go : (a : Source) → RestsOn thread.body b.term a → Matches inputs (sees registers) (run_of inputs (sees registers) thread.body turn) a (Choice q t) → run.side j q c ≡ choice_of j thread is q t
      go (WireOf q') s k = elim k [ ]
      go (RegOf q' n) s k = elim k [ ]
      go (ChoiceOf q') s k =
          let Statement : ℕ → Type 0 = λ z. run_of inputs (sees registers) thread.body turn z ≡ Runs k.2.0 t k.2.1 in
          let here : Original thread.body turn q ≡ Runs k.2.0 t k.2.1 = subst Statement (sym k.0) k.2.3 in
          let next_by_fates = (same.fates j thread is turn q).there k.2.0 t k.2.1 here l in
          (again.decides j thread is).latest turn q c short (record { scope = next_by_fates.0; begin = t; term = k.2.1; runs = next_by_fates.1 }) k.2.2 k.2.4 l
          (λ i a. none_later i a.scope a.begin a.term a.runs)
          ∙ same.decided j thread is turn q k.2.0 t k.2.1 k.2.2 here k.2.4 l

  -- a value in use is what is read again
  pub use_again : (c : ℕ) → c < inputs.count → Same c → Promised c → (j : ℕ) (thread : Thread) (is : IsThread p.threads j thread) (turn place : ℕ) (b : Begun inputs registers thread.body turn place) (e : Expr) → Uses (head b.term) e → InUse p inputs registers b.scope b.begin (head b.term) c
      → (vs : List Act) × Stands [] thread.body vs b.term × (again_at inputs run j c vs e ≡ (value registers b.scope b.begin e).number)
  use_again c short same promised j thread is turn place b e uses in_cycle =
      let by_value_again = value_again inputs thread.body (process.numbered j thread is) (process.takes_time j thread is) registers (made_of j thread is) (choices_of j thread is) (choice_of j thread is) (chose_is inputs registers thread.body (process.numbered j thread is) (process.takes_time j thread is))
      run.registers (run.decision j) (run.side j) (again.decides j thread is) (sight inputs run.registers (run.side j) c) turn place b.scope b.begin b.term e b.runs (λ y m. uses_reads (head b.term) e y uses m) in
      (by_value_again.0, by_value_again.1, by_value_again.2 (all_fresh _ _ fresh))
    where
      fresh : (a : Atom) → Has (value registers b.scope b.begin e).atoms a → IsFresh (sight inputs run.registers (run.side j) c) inputs.data_at registers (choice_of j thread is) a
      fresh (Wire m t) has = wire_fresh c promised j thread is turn place b e uses in_cycle m t has
      fresh (Register r t) has = same.registers_same c r (omega arith) ∙ register_fresh c short j thread is turn place b e uses in_cycle r t has
      fresh (Choice q t) has = choice_fresh c short same j thread is turn place b e uses in_cycle q t has

  set_in_use : (scope : ℕ → Outcome) (s c r : ℕ) (a : Act) → Sets a r → c ≡ s → InUse p inputs registers scope s a c
  set_in_use scope s c r (Set q n e) k i = i
  set_in_use scope s c r (Cycle q n) k i = elim k [ ]
  set_in_use scope s c r (Send q n e) k i = elim k [ ]
  set_in_use scope s c r (Recv q n) k i = elim k [ ]
  set_in_use scope s c r (If q e u w d) k i = elim k [ ]
  set_in_use scope s c r (When q e u) k i = elim k [ ]
  set_in_use scope s c r (Block q u) k i = elim k [ ]
  set_in_use scope s c r (Wait q y) k i = elim k [ ]
  set_in_use scope s c r (Pure q e) k i = elim k [ ]
  set_in_use scope s c r (Nothing q) k i = elim k [ ]

  asked_in_use : (scope : ℕ → Outcome) (s : ℕ) (a : Act) (f : Expr) → Asks a f → InUse p inputs registers scope s a s
  asked_in_use scope s (If q e u w d) f k = refl
  asked_in_use scope s (When q e u) f k = refl
  asked_in_use scope s (Set q n e) f k = elim k [ ]
  asked_in_use scope s (Cycle q n) f k = elim k [ ]
  asked_in_use scope s (Send q n e) f k = elim k [ ]
  asked_in_use scope s (Recv q n) f k = elim k [ ]
  asked_in_use scope s (Block q u) f k = elim k [ ]
  asked_in_use scope s (Wait q y) f k = elim k [ ]
  asked_in_use scope s (Pure q e) f k = elim k [ ]
  asked_in_use scope s (Nothing q) f k = elim k [ ]

  -- the registers one cycle on
  next_registers : (u : ℕ) → u < inputs.count → Same u → Promised u → (r : ℕ) → run.registers (u + 1) r ≡ registers (u + 1) r
  next_registers u short same promised r = go (written_by inputs registers p.threads r u) refl
    where
      step : registers (u + 1) r ≡ get_else (written_by inputs registers p.threads r u) (registers u r)
      step = history.step u r short

      go : (o : Option ℕ) → written_by inputs registers p.threads r u ≡ o → run.registers (u + 1) r ≡ registers (u + 1) r
      go None e =
          again.unwritten u r short none ∙ (same.registers_same u r (omega arith) ∙ sym (step ∙ ap (λ o. get_else o (registers u r)) e))
        where
          none : (j : ℕ) (thread : Thread) → IsThread p.threads j thread → (turn place : ℕ) (b : Begins inputs run j thread.body turn place) → Sets (head b.term) r → b.begin ≡ u → ⊥
          none j thread is turn place b sets now =
              let by_fates = (same.fates j thread is turn place).back b.scope b.begin b.term b.runs (omega arith) in
              let by_is_written = is_written inputs registers p process r u j thread is turn place (record { scope = by_fates.0; begin = b.begin; term = b.term; runs = by_fates.1 }) sets now in
              let decided : false ≡ true = sym (ap has e) ∙ by_is_written in absurd cc
      go (Some v) e =
          let by_written_is = written_is inputs registers p.threads r u v e in
          let now : by_written_is.act.begin ≡ u = by_written_is.now in
          let next_by_fates = (same.fates by_written_is.j by_written_is.thread by_written_is.is by_written_is.turn by_written_is.place).there by_written_is.act.scope by_written_is.act.begin by_written_is.act.term by_written_is.act.runs (omega arith) in
          let the_begins : Begins inputs run by_written_is.j by_written_is.thread.body by_written_is.turn by_written_is.place = record { scope = next_by_fates.0; begin = by_written_is.act.begin; term = by_written_is.act.term; runs = next_by_fates.1 } in
          let by_use_again = use_again u short same promised by_written_is.j by_written_is.thread by_written_is.is by_written_is.turn by_written_is.place by_written_is.act by_written_is.expr by_written_is.uses (set_in_use by_written_is.act.scope by_written_is.act.begin u r (head by_written_is.act.term) by_written_is.sets (sym now)) in
          let by_written = again.written by_written_is.j by_written_is.thread by_written_is.is by_written_is.turn by_written_is.place the_begins by_use_again.0 by_use_again.1 r by_written_is.expr by_written_is.sets by_written_is.uses (greatest by_written_is) in
          let equal : run.registers (u + 1) r ≡ again_at inputs run by_written_is.j u by_use_again.0 by_written_is.expr = subst (λ n. run.registers (n + 1) r ≡ again_at inputs run by_written_is.j n by_use_again.0 by_written_is.expr) now by_written in
          equal ∙ (by_use_again.2 ∙ (by_written_is.number ∙ sym (step ∙ ap (λ next_by_fates. get_else next_by_fates (registers u r)) e)))
        where
          greatest : (w : Writes inputs registers p.threads r u v) → (turn' place' : ℕ) (a : Begins inputs run w.j w.thread.body turn' place') → Sets (head a.term) r → a.begin ≡ w.act.begin → place' ≤ w.place
          greatest w turn' place' a sets k =
              let now : w.act.begin ≡ u = w.now in
              let by_fates = (same.fates w.j w.thread w.is turn' place').back a.scope a.begin a.term a.runs (omega arith) in
              let by_safe_set = safe_set p process accepted inputs registers w.j w.j w.thread w.thread w.is w.is turn' place' w.turn w.place r (record { scope = by_fates.0; begin = a.begin; term = a.term; runs = by_fates.1 }) w.act sets w.sets k in
              let next_equal : place' ≡ w.place = by_safe_set.2 in omega arith

  abbrev RegistersTo : ℕ → Type 0
  RegistersTo c = (s r : ℕ) → s ≤ c → run.registers s r ≡ registers s r

  same_up : (c s : ℕ) (w w' : Fate) → s ≤ c → SameFate c w w' → SameFate s w w'
  same_up c s w w' l k = record {
    there = λ variables b u e m. let by_there = k.there variables b u e (omega arith) in (by_there.0, by_there.1, λ y. record { there = λ d v n q. (by_there.2 y).there d v (omega arith) q; back = λ d v n q. (by_there.2 y).back d v (omega arith) q });
    back = λ variables b u e m. let by_back = k.back variables b u e (omega arith) in (by_back.0, by_back.1, λ y. record { there = λ d v n q. (by_back.2 y).there d v (omega arith) q; back = λ d v n q. (by_back.2 y).back d v (omega arith) q });
  }

  -- an `if` of cycle c decides alike, where those before it in its turn do
  decide_now : (c : ℕ) → c < inputs.count → Promised c → RegistersTo c → ((s : ℕ) → s < c → Same s) → (j : ℕ) (thread : Thread) (is : IsThread p.threads j thread) (i q : ℕ) (variables variables' : ℕ → Outcome) (u : Term) (f : Expr) → Original thread.body i q ≡ Runs variables c u → Again j thread.body i q ≡ Runs variables' c u
      → Asks (head u) f → ((a : ℕ) → a < q → SameFate c (Original thread.body i a) (Again j thread.body i a))
      → ((a t : ℕ) (variables'' : ℕ → Outcome) (v : Term) (g : Expr) → a < q → t ≤ c → Original thread.body i a ≡ Runs variables'' t v → Asks (head v) g → run.decision j a t ≡ choice_of j thread is a t) → run.decision j q c ≡ choice_of j thread is q c
  decide_now c short promised registers_same earlier j thread is i q variables variables' u f e e' k before known =
      decides_same inputs thread.body (process.numbered j thread is) (process.takes_time j thread is) registers (made_of j thread is) (choices_of j thread is) (choice_of j thread is) (chose_is inputs registers thread.body (process.numbered j thread is) (process.takes_time j thread is))
      run.registers (run.decision j) (run.side j) (again.decides j thread is) c (λ r t l. registers_same c r (omega arith)) (λ a q' t l. (earlier t l).fates j thread is a q') i q variables variables' u f e e' k before
      (wire_fresh c promised j thread is i q b f uses in_cycle) (register_fresh c short j thread is i q b f uses in_cycle) (λ q' t has. atom_by p process inputs registers j thread is i q b f (Choice q' t) has) known
    where
      b : Begun inputs registers thread.body i q
      b = record { scope = variables; begin = c; term = u; runs = e }

      uses : Uses (head u) f
      uses = at_once_uses (head u) f (asks_uses (head u) f k)

      in_cycle : InUse p inputs registers variables c (head u) c
      in_cycle = asked_in_use variables c (head u) f k

  -- and so does each, by induction over the places
  decide_at : (n c : ℕ) → c < inputs.count → Promised c → RegistersTo c → ((s : ℕ) → s < c → Same s) → (j : ℕ) (thread : Thread) (is : IsThread p.threads j thread) (i q : ℕ) → q < n → (variables variables' : ℕ → Outcome) (s : ℕ) (u : Term) (f : Expr) → Original thread.body i q ≡ Runs variables s u → Again j thread.body i q ≡ Runs variables' s u
      → Asks (head u) f → s ≤ c → ((a : ℕ) → a < q → SameFate c (Original thread.body i a) (Again j thread.body i a)) → run.decision j q s ≡ choice_of j thread is q s
  decide_at zero c short promised registers_same earlier j thread is i q less variables variables' s u f e e' k l before = absurd (omega arith)
  decide_at (suc n) c short promised registers_same earlier j thread is i q less variables variables' s u f e e' k l before =
      go (nat_lt s c) refl (λ a t variables'' v g m o d y.
      let by_before = (before a m).there variables'' t v d o in
      decide_at n c short promised registers_same earlier j thread is i a (omega arith) variables'' by_before.0 t v g d by_before.1 y o (λ a' m'. before a' (omega arith)))
    where
      go : (b : Bool) → nat_lt s c ≡ b → ((a t : ℕ) (variables'' : ℕ → Outcome) (v : Term) (g : Expr) → a < q → t ≤ c → Original thread.body i a ≡ Runs variables'' t v → Asks (head v) g → run.decision j a t ≡ choice_of j thread is a t) → run.decision j q s ≡ choice_of j thread is q s
      go true z known = let is_less : s < c = grind (arith, nat_tests) in (earlier s is_less).decided j thread is i q variables s u f e k (omega arith)
      go false z known =
          let at_most : c ≤ s = grind (arith, nat_tests) in
          let equal : s ≡ c = omega arith in
          let Statement : ℕ → Type 0 = λ w. Original thread.body i q ≡ Runs variables w u in
          let next_Statement : ℕ → Type 0 = λ w. Again j thread.body i q ≡ Runs variables' w u in
          let last_Statement : ℕ → Type 0 = λ w. run.decision j q w ≡ choice_of j thread is q w in
          subst last_Statement (sym equal) (decide_now c short promised registers_same earlier j thread is i q variables variables' u f (subst Statement equal e) (subst next_Statement equal e') k before known)

  -- one cycle on
  registers_to : (c : ℕ) → c < inputs.count → Promised c → ((s : ℕ) → s < c → Same s) → RegistersTo c
  registers_to zero short promised earlier s r l = let next_equal : s ≡ 0 = omega arith in ap (λ n. run.registers n r) next_equal ∙ (again.reset r ∙ (sym (history.reset r) ∙ ap (λ n. registers n r) (sym next_equal)))
  registers_to (suc u) short promised earlier s r l = go (nat_lt s (suc u)) refl
    where
      go : (b : Bool) → nat_lt s (suc u) ≡ b → run.registers s r ≡ registers s r
      go true e = let next_is_less : s < suc u = grind (arith, nat_tests) in (earlier s next_is_less).registers_same s r (omega arith)
      go false e =
          let next_at_most : suc u ≤ s = grind (arith, nat_tests) in
          let last_equal : s ≡ u + 1 = omega arith in
          let by_next_registers = next_registers u (omega arith) (earlier u (omega arith)) (λ m' side t v exchanging k life. promised m' side t v exchanging (omega arith) life) r in
          ap (λ n. run.registers n r) last_equal ∙ (by_next_registers ∙ ap (λ n. registers n r) (sym last_equal))

  step : (c : ℕ) → c < inputs.count → Promised c → ((s : ℕ) → s < c → Same s) → Same c
  step c short promised earlier = record { registers_same = registers_same; fates = fates; decided = decided }
    where
      registers_same : RegistersTo c
      registers_same = registers_to c short promised earlier

      rows : RowsTo c inputs inputs
      rows = record { long = short; long' = short; valid = λ m u l. refl; data_at = λ m u l. refl; ack = λ m u l. refl }

      fates : (j : ℕ) (thread : Thread) → IsThread p.threads j thread → (i q : ℕ) → SameFate c (Original thread.body i q) (Again j thread.body i q)
      fates j thread is i q =
          fates_same c inputs (sees registers) (deciding run.registers (run.decision j)) rows (λ s r l. sym (registers_same s r l)) thread.body (process.numbered j thread is)
          (λ i q s variables variables' u f e e' k l same before.
          chose_is inputs registers thread.body (process.numbered j thread is) (process.takes_time j thread is) i q variables s u f e k
          ∙ sym (decide_at (suc q) c short promised registers_same earlier j thread is i q (omega arith) variables variables' s u f e e' k l before)) i q

      decided : (j : ℕ) (thread : Thread) (is : IsThread p.threads j thread) (i q : ℕ) (variables : ℕ → Outcome) (s : ℕ) (u : Term) (f : Expr) → Original thread.body i q ≡ Runs variables s u → Asks (head u) f → s ≤ c → run.decision j q s ≡ choice_of j thread is q s
      decided j thread is i q variables s u f e k l =
          let by_fates = (fates j thread is i q).there variables s u e l in
          decide_at (suc q) c short promised registers_same earlier j thread is i q (omega arith) variables by_fates.0 s u f e by_fates.1 k l (λ a m. fates j thread is i a)

  -- in each cycle up to which the promises are kept
  up_to : (n c : ℕ) → c < n → c < inputs.count → Promised c → Same c
  up_to zero c l short promised = absurd (omega arith)
  up_to (suc n) c l short promised = step c short promised (λ s m. up_to n s (omega arith) (omega arith) (λ m' side t v exchanging k life. promised m' side t v exchanging (omega arith) life))

  pub same_at : (c : ℕ) → c < inputs.count → Promised c → Same c
  same_at c short promised = up_to (suc c) c (omega arith) short promised

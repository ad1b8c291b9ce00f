-- What is known of an act of a thread that has begun: where it stands, what the atoms of its value rest on, and when it is
-- over.
--
-- Its turn has begun within the list and not after it. Each atom of its value comes from a source of the text and is no later
-- than its begin. Of an earlier turn everything has ended by the begin of a later one, and a `send` or `recv` before it. An
-- exchange of a port of the same endpoint ends an act of the same thread, since an endpoint is in the hands of one thread.
use Rattle.std.proofs.Common.{◌≡◌, ℕ, ◌+◌, ◌<◌, ◌≤◌, arith, refl, sym, ◌∙◌, ap, subst, List, [], true, suc, Option, Some}
use Rattle.core_term.specs.Term.{Expr, Term, Act, Cycle, Set, Send, Recv, If, When, Block, Wait, Pure, Nothing, site, head}
use Rattle.core_term.specs.Value.{Outcome, value, Atom}
use Rattle.core_term.specs.Inputs.{Inputs}
use Rattle.core_term.specs.Ends.{sees, bind, act_ends}
use Rattle.core_term.specs.Fate.{Fate, Runs, inside}
use Rattle.core_term.specs.Points.{Spot, Begin}
use Rattle.core_term.specs.Occurs.{occurrence, of_outcome, begin_at, end_at}
use Rattle.core_term.specs.Numbering.{act_size, Numbered, NumberedAct}
use Rattle.core_term.specs.Turns.{begins, run_from, run_of, no_variable}
use Rattle.core_term.specs.Sources.{Source, sources_in}
use Rattle.core_term.specs.Lists.{Has}
use Rattle.core_term.specs.Process.{Process, Thread, IsThread, endpoint_of, IsProcess}
use Rattle.core_term.specs.Acts.{OnPort, ActOn, Uses}
use Rattle.core_term.specs.Wires.{Exchange}
use Rattle.core_term.specs.Outputs.{wires}
use Rattle.core_term.specs.Order.{point}
use Rattle.core_term.specs.Rules.{RestsOn}
use Rattle.core_term.specs.Log.{Begun, EndsIn, InUse}
use Rattle.core_term.specs.Occurs as occurs
use Rattle.run_laws.proofs.turn_points.Live.{Agrees}
use Rattle.run_laws.proofs.turn_points.Order.{Occurs, later_turn}
use Rattle.run_laws.proofs.turn_points.Sites.{Found, sub}
use Rattle.run_laws.proofs.turn_points.Sound.{Matches, expr_covers}
use Rattle.run_laws.proofs.turn_points.Tails.{IsTalk}
use Rattle.run_laws.proofs.turn_points.Strict.{early, EarlyIn}
use Rattle.run_laws.proofs.turn_points.Placed.{some_start, begins_short, place as place_of, turn_end, ended_in}
use Rattle.run_laws.proofs.turn_points.Timely.{Timely, timely_bind, act_timely, value_up, cycle_of}
use Rattle.run_laws.proofs.source_runs.Offers.{ran, begun_site, begun_act}
use Rattle.run_laws.proofs.source_runs.Exchanges.{ended_by}
use Rattle.run_laws.proofs.safe_runs.UseLaw.{same_thread, at_begin, end_found}

timely_on : (inputs : Inputs) (registers : ℕ → ℕ → ℕ) (run : ℕ → Fate) (vs : List Act) (low : ℕ) (scope : ℕ → Outcome) (s : ℕ) (a : Act) (u : Term) (o : Outcome) → NumberedAct vs low a → Agrees run (inside inputs (sees registers) scope s a) (low + 1) (low + act_size a) → head u ≡ a → run low ≡ Runs scope s u
    → Timely scope → act_ends inputs (sees registers) scope s a ≡ o → Timely (bind scope (site a) o)
timely_on inputs registers run vs low scope s a u o n g i r k e = timely_bind scope (site a) o k (λ c v q. act_timely inputs (sees registers) scope s a k c v (e ∙ q))

pub talks : (a : Act) (m : ℕ) → OnPort a m → IsTalk a
talks (Send p n e) m k = tt
talks (Recv p n) m k = tt
talks (Cycle p n) m k = elim k [ ]
talks (Set p r e) m k = elim k [ ]
talks (If p e t u w) m k = elim k [ ]
talks (When p e t) m k = elim k [ ]
talks (Block p t) m k = elim k [ ]
talks (Wait p y) m k = elim k [ ]
talks (Pure p e) m k = elim k [ ]
talks (Nothing p) m k = elim k [ ]

module _ (p : Process) (process : IsProcess p) (inputs : Inputs) (registers : ℕ → ℕ → ℕ) (j : ℕ) (thread : Thread) (is : IsThread p.threads j thread) where
  abbrev pub numbered : Numbered [] 0 thread.body
  numbered = process.numbered j thread is

  abbrev pub At : ℕ → ℕ → Type 0
  At turn place = Begun inputs registers thread.body turn place

  abbrev pub stage : ℕ → Spot → occurs.Occurrence
  stage turn = occurrence inputs (sees registers) (run_of inputs (sees registers) thread.body turn)

  pub start : (turn place : ℕ) (b : At turn place) → (s : ℕ) × (begins inputs (sees registers) thread.body turn ≡ Some s) × (s ≤ b.begin) × (b.begin < inputs.count)
  start turn place b =
      let by_place_of = place_of inputs (sees registers) thread.body numbered turn place b.scope b.begin b.term (ran inputs registers thread.body numbered turn place b) in
      (by_place_of.0, by_place_of.2, by_place_of.3.fits.0, by_place_of.3.fits.1)

  -- nothing that is used rests on what comes later
  pub timely_scope : (turn place : ℕ) (b : At turn place) → Timely b.scope
  timely_scope turn place b =
      let by_start = start turn place b in
      let the_found : Found inputs (sees registers) (run_of inputs (sees registers) thread.body turn) thread.body by_start.0 (λ vs scope. Timely scope) (timely_on inputs registers (run_of inputs (sees registers) thread.body turn)) place =
      sub inputs (sees registers) (run_of inputs (sees registers) thread.body turn) thread.body by_start.0 (λ vs scope. Timely scope) (timely_on inputs registers (run_of inputs (sees registers) thread.body turn)) place [] 0 no_variable by_start.0 thread.body numbered
      (record { each = λ q l m. ap (λ o. run_from inputs (sees registers) thread.body o q) by_start.1 }) (λ y k. elim k [ ]) (λ ws u z. z) (λ y e v k. absurd cc) (omega arith, begins_short inputs (sees registers) thread.body numbered turn by_start.0 by_start.1) (omega arith)
      (let by_ran = (ran inputs registers thread.body numbered turn place b).inside in omega arith) in
      let fact = rw b.runs at the_found.is in
      fact.1.known

  -- what a used value rests on, in the text and in the turn
  pub rests : (turn place : ℕ) (b : At turn place) (e : Expr) → Uses (head b.term) e → (a : Atom) → Has (value registers b.scope b.begin e).atoms a → (c : Source) × RestsOn thread.body b.term c × Matches inputs (sees registers) (run_of inputs (sees registers) thread.body turn) c a
  rests turn place b e u a i =
      let by_place_of = place_of inputs (sees registers) thread.body numbered turn place b.scope b.begin b.term (ran inputs registers thread.body numbered turn place b) in
      let equal : stage turn (Begin (site (head b.term))) ≡ occurs.At b.begin = rw (begun_site inputs registers thread.body numbered turn place b) (at_begin p process inputs registers j thread is turn place b) in
      let by_expr_covers = (expr_covers inputs (sees registers) (run_of inputs (sees registers) thread.body turn) (sources_in by_place_of.1) b.scope (site (head b.term)) b.begin e equal by_place_of.3.known).each a i in
      (by_expr_covers.0, record { scope = by_place_of.1; stands = by_place_of.3.stands; value = e; uses = u; has = by_expr_covers.1 }, by_expr_covers.2)

  pub atom_by : (turn place : ℕ) (b : At turn place) (e : Expr) (a : Atom) → Has (value registers b.scope b.begin e).atoms a → cycle_of a ≤ b.begin
  atom_by turn place b e a i = value_up registers b.scope b.begin (timely_scope turn place b) e a i

  pub in_use_from : (turn place c : ℕ) (b : At turn place) → InUse p inputs registers b.scope b.begin (head b.term) c → (b.begin ≤ c) × (c < inputs.count)
  in_use_from turn place c b u = go (head b.term) u
    where
      s : (s : ℕ) × (begins inputs (sees registers) thread.body turn ≡ Some s) × (s ≤ b.begin) × (b.begin < inputs.count)
      s = start turn place b

      at_once : c ≡ b.begin → (b.begin ≤ c) × (c < inputs.count)
      at_once e = (omega arith, omega (arith, s.3))

      go : (a : Act) → InUse p inputs registers b.scope b.begin a c → (b.begin ≤ c) × (c < inputs.count)
      go (Send q n e) u = (u.0, u.1)
      go (Set q n e) u = at_once u
      go (If q e v w f) u = at_once u
      go (When q e v) u = at_once u
      go (Cycle q n) u = at_once u
      go (Recv q n) u = at_once u
      go (Block q v) u = at_once u
      go (Wait q y) u = at_once u
      go (Pure q e) u = at_once u
      go (Nothing q) u = at_once u

  -- an act of an earlier turn has ended by the begin of a later one, and a send or recv before it
  pub earlier : (turn k place : ℕ) (b : At turn place) (s : ℕ) → begins inputs (sees registers) thread.body (suc (k + turn)) ≡ Some s → (e : ℕ) × EndsIn b e × (e ≤ s) × (IsTalk (head b.term) → e < s)
  earlier turn k place b s f =
      let by_later_turn = later_turn inputs (sees registers) thread.body numbered turn k s f in
      let by_some_start = some_start inputs (sees registers) thread.body numbered (begins inputs (sees registers) thread.body turn) place b.scope b.begin b.term b.runs in
      let by_turn_end = turn_end inputs (sees registers) thread.body numbered (begins inputs (sees registers) thread.body turn) by_some_start.0 by_later_turn.0 by_some_start.1 by_later_turn.2 in
      let by_ran = (ran inputs registers thread.body numbered turn place b).inside in
      let by_ended_in = ended_in inputs (sees registers) thread.body numbered turn place (begins inputs (sees registers) thread.body turn) by_some_start.0 by_later_turn.0 by_some_start.1 by_turn_end by_ran in
      let fact = rw b.runs at by_ended_in in
      let by_end_found = end_found p process inputs registers j thread is turn place b fact.0 (ap (end_at inputs (sees registers)) b.runs ∙ fact.1) in
      let Statement : Option ℕ → Type 0 = λ fact. EarlyIn inputs (sees registers) (run_from inputs (sees registers) thread.body fact) (run_from inputs (sees registers) thread.body fact place) by_later_turn.0 in
      let y' = subst Statement (sym by_some_start.1) (early inputs (sees registers) (run_from inputs (sees registers) thread.body (Some by_some_start.0)) [] 0 no_variable by_some_start.0 thread.body by_later_turn.0 numbered (process.takes_time j thread is) (record { each = λ q by_ran m. refl }) by_turn_end place (omega arith) (omega arith)).is in
      let w' = rw b.runs at y' in
      (fact.0, by_end_found, omega (arith, fact.2, by_later_turn.1), λ t. let by_w = w'.1 t fact.0 fact.1 in omega (arith, by_later_turn.1))

  -- a later turn as the second of two
  pub occurs_next : (turn k turn' : ℕ) → turn' ≡ suc (k + turn) → (spot : Spot) (t : ℕ) → stage turn' spot ≡ occurs.At t → Occurs inputs (sees registers) thread.body numbered turn k (point true spot) t
  occurs_next turn k turn' e spot t f = let next_Statement : ℕ → Type 0 = λ z. stage z spot ≡ occurs.At t in subst next_Statement e f

  pub stage_eq : (turn turn' : ℕ) → turn' ≡ turn → (spot : Spot) (t : ℕ) → stage turn' spot ≡ occurs.At t → stage turn spot ≡ occurs.At t
  stage_eq turn turn' e spot t f = let last_Statement : ℕ → Type 0 = λ z. stage z spot ≡ occurs.At t in subst last_Statement e f

  -- an exchange of a port of the same endpoint ends an act of this thread
  pub own_end : (q m n t : ℕ) → ActOn thread.body q m → endpoint_of p n ≡ endpoint_of p m → Exchange (wires p inputs registers) n t → (turn place : ℕ) × (b : At turn place) × OnPort (head b.term) n × EndsIn b t
  own_end q m n t a e k =
      let by_ended_by = ended_by inputs registers p process n t k in
      let then_ended_by = by_ended_by.0 in
      let act = begun_act inputs registers then_ended_by.thread.body (process.numbered then_ended_by.j then_ended_by.thread then_ended_by.is) (λ a. OnPort a n) then_ended_by.turn then_ended_by.place then_ended_by.act then_ended_by.on in
      let equal : then_ended_by.j ≡ j = sym (process.one_talker j then_ended_by.j thread then_ended_by.thread q then_ended_by.place m n is then_ended_by.is a act (sym e)) in
      let next_equal : then_ended_by.thread ≡ thread = same_thread p.threads j then_ended_by.thread thread (subst (λ by_ended_by. IsThread p.threads by_ended_by then_ended_by.thread) equal then_ended_by.is) is in
      let Statement : Thread → Type 0 = λ by_ended_by. (turn place : ℕ) × (b : Begun inputs registers by_ended_by.body turn place) × OnPort (head b.term) n × EndsIn b t in
      subst Statement next_equal (then_ended_by.turn, then_ended_by.place, then_ended_by.act, then_ended_by.on, by_ended_by.1)

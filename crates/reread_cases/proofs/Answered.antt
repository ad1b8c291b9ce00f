-- The run is a re-reading run: which acts have begun is found by computing, turn by turn and site by site.
use Rattle.std.proofs.Common.{◌≡◌, ℕ, ◌<◌, ◌≤◌, ◌⊎◌, inl, inr, refl, sym, ◌∙◌, subst, arith, Bool, true, false, ◌==◌, List, [], ◌∷◌, zero, suc, None}
use Rattle.std.proofs.lemmas.Bool.Decides.{nat_tests}
use Rattle.core_term.specs.Term.{Expr, Var, Term, Act, head}
use Rattle.core_term.specs.Numbering.{Numbered}
use Rattle.core_term.specs.Value.{Value, Outcome, Open, Done}
use Rattle.core_term.specs.Ends.{Sees, act_ends}
use Rattle.core_term.specs.Fate.{Waits, Runs}
use Rattle.core_term.specs.Turns.{begins, run_of, HasBegun}
use Rattle.core_term.specs.Stands.{Stands, here, in_one, in_then, after_then, in_when}
use Rattle.core_term.specs.Acts.{OnPort, Sends, Sets, Uses, Asks}
use Rattle.core_term.specs.Process.{Thread, IsThread, is_received}
use Rattle.core_term.specs.Reread.{IsReread, DecidesAgain, Begins, Offers, deciding, read_again}
use Rattle.run_laws.proofs.rereading.Decide.{within}
use Rattle.reread_cases.specs.Answering.{taken, sent, asked, last, decided, body, answering, inputs, run}

abbrev view : Sees
view = deciding (λ t r. 0) (λ p start. true)

numbered : Numbered [] 0 body
numbered = (refl, ((refl, (refl, λ y m. inl m), λ y m. inl m), refl))

-- the acts that begin: four in the first turn, and one in the second
data Act_of (turn site begin : ℕ) (t : Term) : Type 0 where
  takes : turn ≡ 0 → site ≡ 0 → begin ≡ 0 → t ≡ body → Act_of turn site begin t
  asks : turn ≡ 0 → site ≡ 1 → begin ≡ 0 → t ≡ decided → Act_of turn site begin t
  sends : turn ≡ 0 → site ≡ 2 → begin ≡ 0 → t ≡ sent → Act_of turn site begin t
  waits : turn ≡ 0 → site ≡ 3 → begin ≡ 0 → t ≡ last → Act_of turn site begin t
  takes_next : turn ≡ 1 → site ≡ 0 → begin ≡ 1 → t ≡ body → Act_of turn site begin t

one_of_four : (q : ℕ) → q < 4 → (q ≡ 0) ⊎ ((q ≡ 1) ⊎ ((q ≡ 2) ⊎ (q ≡ 3)))
one_of_four zero l = inl refl
one_of_four (suc zero) l = inr (inl refl)
one_of_four (suc (suc zero)) l = inr (inr (inl refl))
one_of_four (suc (suc (suc zero))) l = inr (inr (inr refl))
one_of_four (suc (suc (suc (suc q)))) l = absurd (omega arith)

begin_is : {scope scope' : ℕ → Outcome} {begin begin' : ℕ} {t t' : Term} → Runs scope begin t ≡ Runs scope' begin' t' → begin' ≡ begin
begin_is e = cc

term_is : {scope scope' : ℕ → Outcome} {begin begin' : ℕ} {t t' : Term} → Runs scope begin t ≡ Runs scope' begin' t' → t' ≡ t
term_is e = cc

no_turn : (n : ℕ) → begins inputs view body (suc (suc n)) ≡ None
no_turn zero = refl
no_turn (suc n) = let before = no_turn n in rw before refl

not_waiting : {scope : ℕ → Outcome} {begin : ℕ} {t : Term} → Waits ≡ Runs scope begin t → ⊥
not_waiting e = cc

classed : (turn q : ℕ) (scope : ℕ → Outcome) (begin : ℕ) (t : Term) → q < 4 → run_of inputs view body turn q ≡ Runs scope begin t → Act_of turn q begin t
classed zero q scope begin t l e = go (one_of_four q l)
  where
    at : (k : ℕ) → q ≡ k → run_of inputs view body 0 k ≡ Runs scope begin t
    at k is = subst (λ z. run_of inputs view body 0 z ≡ Runs scope begin t) is e

    go : (q ≡ 0) ⊎ ((q ≡ 1) ⊎ ((q ≡ 2) ⊎ (q ≡ 3))) → Act_of 0 q begin t
    go (inl is) = takes refl is (begin_is (at 0 is)) (term_is (at 0 is))
    go (inr (inl is)) = asks refl is (begin_is (at 1 is)) (term_is (at 1 is))
    go (inr (inr (inl is))) = sends refl is (begin_is (at 2 is)) (term_is (at 2 is))
    go (inr (inr (inr is))) = waits refl is (begin_is (at 3 is)) (term_is (at 3 is))
classed (suc zero) q scope begin t l e = go (one_of_four q l)
  where
    at : (k : ℕ) → q ≡ k → run_of inputs view body 1 k ≡ Runs scope begin t
    at k is = subst (λ z. run_of inputs view body 1 z ≡ Runs scope begin t) is e

    go : (q ≡ 0) ⊎ ((q ≡ 1) ⊎ ((q ≡ 2) ⊎ (q ≡ 3))) → Act_of 1 q begin t
    go (inl is) = takes_next refl is (begin_is (at 0 is)) (term_is (at 0 is))
    go (inr (inl is)) = absurd (not_waiting (at 1 is))
    go (inr (inr (inl is))) = absurd (not_waiting (at 2 is))
    go (inr (inr (inr is))) = absurd (not_waiting (at 3 is))
classed (suc (suc n)) q scope begin t l e = let none = no_turn n in let z : Waits ≡ Runs scope begin t = rw none at e in absurd (not_waiting z)

begun : (turn q : ℕ) (b : HasBegun inputs view body turn q) → Act_of turn q b.begin b.term
begun turn q b = classed turn q b.scope b.begin b.term (within inputs body numbered view turn q b.scope b.begin b.term b.runs) b.runs

-- where a term stands
data Place (vs : List Act) (u : Term) : Type 0 where
  at_start : vs ≡ [] → u ≡ body → Place vs u
  at_choice : vs ≡ taken ∷ [] → u ≡ decided → Place vs u
  at_send : vs ≡ taken ∷ [] → u ≡ sent → Place vs u
  at_end : vs ≡ asked ∷ taken ∷ [] → u ≡ last → Place vs u

placed : {vs : List Act} {u : Term} → Stands [] body vs u → Place vs u
placed here = at_start refl refl
placed (in_then s) = elim s [ ]
placed (after_then here) = at_choice refl refl
placed (after_then (in_then (in_when here))) = at_send refl refl
placed (after_then (in_then (in_when (in_one s)))) = elim s [ ]
placed (after_then (after_then here)) = at_end refl refl
placed (after_then (after_then (in_one s))) = elim s [ ]

-- the acts of the first turn, at hand
abbrev act_taken : HasBegun inputs view body 0 0
act_taken = record { scope = _; begin = 0; term = body; runs = refl }

abbrev act_asked : HasBegun inputs view body 0 1
act_asked = record { scope = _; begin = 0; term = decided; runs = refl }

abbrev act_sent : HasBegun inputs view body 0 2
act_sent = record { scope = _; begin = 0; term = sent; runs = refl }

abbrev act_next : HasBegun inputs view body 1 0
act_next = record { scope = _; begin = 1; term = body; runs = refl }

thread_is : (j : ℕ) (thread : Thread) → IsThread answering.threads j thread → (j ≡ 0) × (record { body = body; count = 4 } ≡ thread)
thread_is zero thread k = (refl, k)
thread_is (suc j) thread k = elim k [ ]

on_thread : (P : ℕ → Thread → Type 0) → P 0 (record { body = body; count = 4 }) → (j : ℕ) (thread : Thread) → IsThread answering.threads j thread → P j thread
on_thread P k j thread is = let z = thread_is j thread is in let y : P 0 thread = subst (λ t. P 0 t) z.1 k in rw z.0 y

port_of_received : (m : ℕ) → is_received answering m ≡ true → m ≡ 0
port_of_received zero k = refl
port_of_received (suc zero) k = absurd cc
port_of_received (suc (suc m)) k = absurd cc

port_of_sent : (m : ℕ) → is_received answering m ≡ false → (m ≡ 1) ⊎ ((n : ℕ) × (m ≡ suc (suc n)))
port_of_sent zero k = absurd cc
port_of_sent (suc zero) k = inl refl
port_of_sent (suc (suc m)) k = inr (m, refl)

two_cycles : (t : ℕ) → t < 2 → (t ≡ 0) ⊎ (t ≡ 1)
two_cycles zero l = inl refl
two_cycles (suc zero) l = inr refl
two_cycles (suc (suc t)) l = absurd (omega arith)

-- Decisions.

asked_reads : (begin : ℕ) (u : Term) (vs : List Act) (f : Expr) → begin ≡ 0 → u ≡ decided → Place vs u → Asks (head u) f
    → true ≡ (read_again inputs (λ t r. 0) (λ p c. p == 1) begin vs f == 1)
asked_reads begin u vs f b d (at_choice v e) k =
    let asks_it : Var 0 ≡ f = subst (λ u. Asks (head u) f) d k in
    subst (λ x. true ≡ (read_again inputs (λ t r. 0) (λ p c. p == 1) x vs f == 1)) (sym b)
    (subst (λ x. true ≡ (read_again inputs (λ t r. 0) (λ p c. p == 1) 0 x f == 1)) (sym v)
    (subst (λ x. true ≡ (read_again inputs (λ t r. 0) (λ p c. p == 1) 0 (taken ∷ []) x == 1)) asks_it refl))
asked_reads begin u vs f b d (at_start v e) k = let z : body ≡ decided = sym e ∙ d in absurd cc
asked_reads begin u vs f b d (at_send v e) k = let z : sent ≡ decided = sym e ∙ d in absurd cc
asked_reads begin u vs f b d (at_end v e) k = let z : last ≡ decided = sym e ∙ d in absurd cc

decides : (turn q : ℕ) (b : HasBegun inputs view body turn q) (vs : List Act) → Stands [] body vs b.term → (f : Expr) → Asks (head b.term) f
    → true ≡ (read_again inputs (λ t r. 0) (λ p c. p == 1) b.begin vs f == 1)
decides turn q b vs s f k = go (begun turn q b)
  where
    go : Act_of turn q b.begin b.term → true ≡ (read_again inputs (λ t r. 0) (λ p c. p == 1) b.begin vs f == 1)
    go (asks t is now e) = asked_reads b.begin b.term vs f now e (placed s) k
    go (takes t is now e) = absurd (let z : ⊥ = subst (λ u. Asks (head u) f) e k in z)
    go (sends t is now e) = absurd (let z : ⊥ = subst (λ u. Asks (head u) f) e k in z)
    go (waits t is now e) = absurd (let z : ⊥ = subst (λ u. Asks (head u) f) e k in z)
    go (takes_next t is now e) = absurd (let z : ⊥ = subst (λ u. Asks (head u) f) e k in z)

latest : (turn q : ℕ) (b : HasBegun inputs view body turn q) (f : Expr) → Asks (head b.term) f → (q == 1) ≡ true
latest turn q b f k = go (begun turn q b)
  where
    go : Act_of turn q b.begin b.term → (q == 1) ≡ true
    go (asks t is now e) = grind (arith, nat_tests)
    go (takes t is now e) = absurd (let z : ⊥ = subst (λ u. Asks (head u) f) e k in z)
    go (sends t is now e) = absurd (let z : ⊥ = subst (λ u. Asks (head u) f) e k in z)
    go (waits t is now e) = absurd (let z : ⊥ = subst (λ u. Asks (head u) f) e k in z)
    go (takes_next t is now e) = absurd (let z : ⊥ = subst (λ u. Asks (head u) f) e k in z)

never : (q c : ℕ) → ((turn : ℕ) (a : HasBegun inputs view body turn q) → a.begin ≤ c → ⊥) → (q == 1) ≡ false
never q c none = go (q == 1) refl
  where
    go : (b : Bool) → (q == 1) ≡ b → b ≡ false
    go false is = refl
    go true is =
        let site : q ≡ 1 = grind (arith, nat_tests) in
        let P : ℕ → Type 0 = λ q. ((turn : ℕ) (a : HasBegun inputs view body turn q) → a.begin ≤ c → ⊥) → ⊥ in
        absurd (subst P (sym site) (λ none. none 0 act_asked (omega arith)) none)

-- Registers: there are none.

no_sets : (turn q : ℕ) (b : HasBegun inputs view body turn q) (r : ℕ) → Sets (head b.term) r → ⊥
no_sets turn q b r k = go (begun turn q b)
  where
    go : Act_of turn q b.begin b.term → ⊥
    go (asks t is now e) = subst (λ u. Sets (head u) r) e k
    go (takes t is now e) = subst (λ u. Sets (head u) r) e k
    go (sends t is now e) = subst (λ u. Sets (head u) r) e k
    go (waits t is now e) = subst (λ u. Sets (head u) r) e k
    go (takes_next t is now e) = subst (λ u. Sets (head u) r) e k

-- Wires.

recv_offered : (t : ℕ) → t < 2 → Offers answering inputs run 0 t
recv_offered t l = go (two_cycles t l)
  where
    go : (t ≡ 0) ⊎ (t ≡ 1) → Offers answering inputs run 0 t
    go (inl is) = record { j = 0; thread = record { body = body; count = 4 }; is = refl; turn = 0; site = 0; act = act_taken; on = refl; begun = omega arith; not_ended = λ e v k. omega (arith, is) }
    go (inr is) = record { j = 0; thread = record { body = body; count = 4 }; is = refl; turn = 1; site = 0; act = act_next; on = refl; begun = omega (arith, is); not_ended = λ e v k. let z : Open ≡ Done e v = k in absurd cc }

send_offered : (t : ℕ) → t ≡ 0 → Offers answering inputs run 1 t
send_offered t is = record { j = 0; thread = record { body = body; count = 4 }; is = refl; turn = 0; site = 2; act = act_sent; on = refl; begun = omega arith; not_ended = λ e v k. omega (arith, is) }

send_ends : (scope : ℕ → Outcome) (begin : ℕ) (u : Term) → begin ≡ 0 → u ≡ sent → act_ends inputs view scope begin (head u) ≡ Done 0 (record { number = 0; atoms = [] })
send_ends scope begin u now e = subst (λ z. act_ends inputs view scope z (head u) ≡ Done 0 (record { number = 0; atoms = [] })) (sym now) (subst (λ z. act_ends inputs view scope 0 (head z) ≡ Done 0 (record { number = 0; atoms = [] })) (sym e) refl)

-- the send has ended before cycle 1, and no other act is on its port
over : (turn q : ℕ) (b : HasBegun inputs view body turn q) → OnPort (head b.term) 1 → ((e : ℕ) (v : Value) → act_ends inputs view b.scope b.begin (head b.term) ≡ Done e v → 1 ≤ e) → ⊥
over turn q b on lasts = go (begun turn q b)
  where
    go : Act_of turn q b.begin b.term → ⊥
    go (sends t is now e) = let z = lasts 0 (record { number = 0; atoms = [] }) (send_ends b.scope b.begin b.term now e) in omega (arith, z)
    go (takes t is now e) = let z : 0 ≡ 1 = subst (λ u. OnPort (head u) 1) e on in omega (arith, z)
    go (asks t is now e) = subst (λ u. OnPort (head u) 1) e on
    go (waits t is now e) = subst (λ u. OnPort (head u) 1) e on
    go (takes_next t is now e) = let z : 0 ≡ 1 = subst (λ u. OnPort (head u) 1) e on in omega (arith, z)

no_other_port : (turn q n : ℕ) (b : HasBegun inputs view body turn q) → OnPort (head b.term) (suc (suc n)) → ⊥
no_other_port turn q n b on = go (begun turn q b)
  where
    go : Act_of turn q b.begin b.term → ⊥
    go (sends t is now e) = let z : 1 ≡ suc (suc n) = subst (λ u. OnPort (head u) (suc (suc n))) e on in omega (arith, z)
    go (takes t is now e) = let z : 0 ≡ suc (suc n) = subst (λ u. OnPort (head u) (suc (suc n))) e on in omega (arith, z)
    go (asks t is now e) = subst (λ u. OnPort (head u) (suc (suc n))) e on
    go (waits t is now e) = subst (λ u. OnPort (head u) (suc (suc n))) e on
    go (takes_next t is now e) = let z : 0 ≡ suc (suc n) = subst (λ u. OnPort (head u) (suc (suc n))) e on in omega (arith, z)

not_over : (t : ℕ) → t ≡ 1 → Offers answering inputs run 1 t → ⊥
not_over t now o =
    on_thread (λ j thread. (turn q : ℕ) (b : Begins inputs run j thread.body turn q) → OnPort (head b.term) 1
    → ((e : ℕ) (v : Value) → act_ends inputs (deciding run.registers (run.decision j)) b.scope b.begin (head b.term) ≡ Done e v → 1 ≤ e) → ⊥)
    over o.j o.thread o.is o.turn o.site o.act o.on (λ e v k. let z = o.not_ended e v k in omega (arith, z, now))

not_there : (n t : ℕ) → Offers answering inputs run (suc (suc n)) t → ⊥
not_there n t o = on_thread (λ j thread. (turn q : ℕ) (b : Begins inputs run j thread.body turn q) → OnPort (head b.term) (suc (suc n)) → ⊥) (λ turn q b on. no_other_port turn q n b on) o.j o.thread o.is o.turn o.site o.act o.on

valid_out : (m t : ℕ) → t < 2 → is_received answering m ≡ false → (run.wires.valid m t ≡ true → Offers answering inputs run m t) × (Offers answering inputs run m t → run.wires.valid m t ≡ true)
valid_out m t l received = go (port_of_sent m received) (two_cycles t l)
  where
    P : ℕ → Type 0
    P m = (run.wires.valid m t ≡ true → Offers answering inputs run m t) × (Offers answering inputs run m t → run.wires.valid m t ≡ true)

    go : (m ≡ 1) ⊎ ((n : ℕ) × (m ≡ suc (suc n))) → (t ≡ 0) ⊎ (t ≡ 1) → P m
    go (inl is) (inl now) = subst P (sym is) ((λ k. send_offered t now), λ o. let k : (t == 0) ≡ true = grind (arith, nat_tests) in k)
    go (inl is) (inr now) = subst P (sym is) ((λ k. let z : (t == 0) ≡ false = grind (arith, nat_tests) in let y : true ≡ false = sym k ∙ z in absurd cc), λ o. absurd (not_over t now o))
    go (inr (n, is)) now = subst P (sym is) (
      (λ k. let a : (suc (suc n) == 0) ≡ false = grind (arith, nat_tests) in let b : (suc (suc n) == 1) ≡ false = grind (arith, nat_tests) in let z : false ≡ true = rw (a, b) at k in absurd cc),
      λ o. absurd (not_there n t o),
    )

-- what is sent is read again in each cycle
data_out : (turn q : ℕ) (b : HasBegun inputs view body turn q) (m t : ℕ) (vs : List Act) → Stands [] body vs b.term → (e : Expr) → Sends (head b.term) m → Uses (head b.term) e
    → run.wires.data_at m t ≡ read_again inputs (λ t r. 0) (λ p c. p == 1) t vs e
data_out turn q b m t vs s e sends_it uses = go (begun turn q b)
  where
    from : b.term ≡ sent → Place vs b.term → run.wires.data_at m t ≡ read_again inputs (λ t r. 0) (λ p c. p == 1) t vs e
    from is (at_send v k) =
        let port : 1 ≡ m = subst (λ u. Sends (head u) m) is sends_it in
        let value : Var 0 ≡ e = subst (λ u. Uses (head u) e) is uses in
        subst (λ m. run.wires.data_at m t ≡ read_again inputs (λ t r. 0) (λ p c. p == 1) t vs e) port
        (subst (λ x. run.wires.data_at 1 t ≡ read_again inputs (λ t r. 0) (λ p c. p == 1) t x e) (sym v)
        (subst (λ x. run.wires.data_at 1 t ≡ read_again inputs (λ t r. 0) (λ p c. p == 1) t (taken ∷ []) x) value refl))
    from is (at_start v k) = let z : body ≡ sent = sym k ∙ is in absurd cc
    from is (at_choice v k) = let z : decided ≡ sent = sym k ∙ is in absurd cc
    from is (at_end v k) = let z : last ≡ sent = sym k ∙ is in absurd cc

    go : Act_of turn q b.begin b.term → run.wires.data_at m t ≡ read_again inputs (λ t r. 0) (λ p c. p == 1) t vs e
    go (sends t is now k) = from k (placed s)
    go (takes t is now k) = absurd (let z : ⊥ = subst (λ u. Sends (head u) m) k sends_it in z)
    go (asks t is now k) = absurd (let z : ⊥ = subst (λ u. Sends (head u) m) k sends_it in z)
    go (waits t is now k) = absurd (let z : ⊥ = subst (λ u. Sends (head u) m) k sends_it in z)
    go (takes_next t is now k) = absurd (let z : ⊥ = subst (λ u. Sends (head u) m) k sends_it in z)

no_data : (m t : ℕ) → is_received answering m ≡ false
    → ((j : ℕ) (thread : Thread) → IsThread answering.threads j thread → (turn q : ℕ) (b : Begins inputs run j thread.body turn q) → Sends (head b.term) m → b.begin ≤ t → ⊥)
    → run.wires.data_at m t ≡ 0
no_data m t received none = go (port_of_sent m received)
  where
    go : (m ≡ 1) ⊎ ((n : ℕ) × (m ≡ suc (suc n))) → run.wires.data_at m t ≡ 0
    go (inl is) = absurd (none 0 (record { body = body; count = 4 }) refl 0 2 act_sent (sym is) (omega arith))
    go (inr (n, is)) =
        let a : (m == 0) ≡ false = grind (arith, nat_tests) in
        let b : (m == 1) ≡ false = grind (arith, nat_tests) in
        rw (a, b) refl

pub met : IsReread answering inputs run
met = record {
  decides = on_thread (λ j thread. DecidesAgain inputs thread.body run.registers (run.decision j) (run.side j)) (record {
    decides = λ turn q l b vs s f k. decides turn q b vs s f k;
    latest = λ turn q c l b f k by none. latest turn q b f k;
    never = λ q c l none. never q c none;
  });
  reset = λ r. refl;
  written = λ j thread is turn q b vs s r e k uses later.
      absurd (on_thread (λ j thread. (b : Begins inputs run j thread.body turn q) → Sets (head b.term) r → ⊥) (λ b k. no_sets turn q b r k) j thread is b k);
  unwritten = λ t r l none. refl;
  long = refl;
  valid_in = λ m t k. subst (λ m. run.wires.valid m t ≡ inputs.valid m t) (sym (port_of_received m k)) refl;
  data_in = λ m t k. subst (λ m. run.wires.data_at m t ≡ inputs.data_at m t) (sym (port_of_received m k)) refl;
  ack_in = λ m t k. elim (port_of_sent m k) [
    | inl is ↦ let a : (m == 0) ≡ false = grind (arith, nat_tests) in rw a refl
    | inr z ↦ let is = z.1 in let a : (m == 0) ≡ false = grind (arith, nat_tests) in rw a refl
  ];
  ack_out = λ m t l k. subst (λ m. (run.wires.ack m t ≡ true → Offers answering inputs run m t) × (Offers answering inputs run m t → run.wires.ack m t ≡ true)) (sym (port_of_received m k)) ((λ e. recv_offered t l), λ o. refl);
  valid_out = valid_out;
  data_out = λ m t l j thread is turn q b vs s e k uses by last_one.
      on_thread (λ j thread. (b : Begins inputs run j thread.body turn q) → Stands [] thread.body vs b.term → Sends (head b.term) m → Uses (head b.term) e → run.wires.data_at m t ≡ read_again inputs run.registers (run.side j) t vs e)
      (λ b s k uses. data_out turn q b m t vs s e k uses) j thread is b s k uses;
  no_data = λ m t l k none. no_data m t k none;
}

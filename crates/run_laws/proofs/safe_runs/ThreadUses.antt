-- The uses of a thread that keeps its demands: variables, received values, registers and sides.
--
-- Each part has the same shape. The text relates the use to a point of the same turn, and of the next; the order law and the
-- last law carry that over to the cycles of the same turn and of any later one; and of an earlier turn everything has ended by
-- then. The hard case is a received value whose life ends with another port: an exchange of that port ends an act of this
-- thread, in an earlier turn, in this one or in a later one, and only for the last two the demand is needed. A register is the
-- same with a set in the place of the exchange.
use Rattle.std.proofs.Common.{◌≡◌, ℕ, ◌+◌, ◌<◌, ◌≤◌, ◌⊎◌, inl, inr, arith, refl, sym, ◌∙◌, ap, subst, [], Bool, true, false, nat_lt, Some}
use Rattle.std.proofs.lemmas.Bool.Decides.{nat_tests}
use Rattle.std.proofs.lemmas.Int.{ints}
use Rattle.std.specs.Prelude.{pos, ◌-ℤ◌}
use Rattle.core_term.specs.Term.{Expr, Act, head}
use Rattle.core_term.specs.Value.{Value, Done, value, Atom, Wire, Register, Choice}
use Rattle.core_term.specs.Inputs.{Inputs}
use Rattle.core_term.specs.Ends.{sees}
use Rattle.core_term.specs.Points.{Spot, Begin, End}
use Rattle.core_term.specs.Occurs.{occurrence, of_outcome, begin_at, end_at}
use Rattle.core_term.specs.Numbering.{Numbered}
use Rattle.core_term.specs.Turns.{begins, run_of}
use Rattle.core_term.specs.Sources.{Source, WireOf, RegOf, ChoiceOf}
use Rattle.core_term.specs.Lists.{Has}
use Rattle.core_term.specs.Process.{LifeEnd, Cycles, Until, Process, Thread, IsThread, life_of, IsProcess}
use Rattle.core_term.specs.Acts.{OnPort, Receives, Sets, HasAct, SetAt, Reads, Uses}
use Rattle.core_term.specs.Wires.{LiesWithin, WithinAll, InLife}
use Rattle.core_term.specs.Outputs.{wires}
use Rattle.core_term.specs.Rules.{Holds, use_by, RestsOn, Demands, Meets}
use Rattle.core_term.specs.Log.{Begun, EndsIn, InUse, IsMade}
use Rattle.core_term.specs.Occurs as occurs
use Rattle.core_term.specs.Rules as demand
use Rattle.run_laws.proofs.turn_points.Order.{act_from}
use Rattle.run_laws.proofs.turn_points.Sound.{Matches}
use Rattle.run_laws.proofs.turn_points.Placed.{some_start, begin_since, set_end, Turns, same, next, past, turns, made_first, made_there}
use Rattle.run_laws.proofs.source_runs.Offers.{ran, begun_act}
use Rattle.run_laws.proofs.source_runs.Exchanges.{ended_ready}
use Rattle.run_laws.proofs.safe_runs.UseLaw.{within_all, at_begin, at_end, end_found, act_ended, end_over, use_law}
use Rattle.run_laws.proofs.safe_runs.ThreadActs.{talks, start, rests, atom_by, in_use_from, earlier, occurs_next, stage_eq, own_end}

module _ (p : Process) (process : IsProcess p) (inputs : Inputs) (registers : ℕ → ℕ → ℕ) (j : ℕ) (thread : Thread) (is : IsThread p.threads j thread) where
  abbrev numbered : Numbered [] 0 thread.body
  numbered = process.numbered j thread is

  abbrev At : ℕ → ℕ → Type 0
  At turn place = Begun inputs registers thread.body turn place

  abbrev stage : ℕ → Spot → occurs.Occurrence
  stage turn = occurrence inputs (sees registers) (run_of inputs (sees registers) thread.body turn)

  module _ (meets : Meets p j thread.body) where
    abbrev Used : (turn place c : ℕ) → At turn place → Atom → Type 0
    Used turn place c b a = (e : Expr) × Uses (head b.term) e × InUse p inputs registers b.scope b.begin (head b.term) c × Has (value registers b.scope b.begin e).atoms a

    -- variables
    pub made : (turn place : ℕ) (b : At turn place) (y : ℕ) → Reads (head b.term) y → (e : ℕ) × (v : Value) × (b.scope y ≡ Done e v) × (e ≤ b.begin)
    made turn place b y k =
        made_first inputs (sees registers) thread.body numbered (λ vs u s y k. meets _ _ _ _ (demand.made vs u y s k)) turn place b.scope b.begin b.term (ran inputs registers thread.body numbered turn place b) y k

    pub made_row : (turn place : ℕ) (b : At turn place) (y : ℕ) → Reads (head b.term) y → (e : ℕ) × (v : Value) × IsMade inputs registers thread.body turn y e v × (e ≤ b.begin)
    made_row turn place b y k =
        let by_made_there = made_there inputs (sees registers) thread.body numbered (λ vs u s y k. meets _ _ _ _ (demand.made vs u y s k)) turn place b.scope b.begin b.term (ran inputs registers thread.body numbered turn place b) y k in
        let by_act_ended = act_ended p process inputs registers j thread is turn y by_made_there.0 by_made_there.1 in
        (by_made_there.0, by_act_ended.1.0, (by_act_ended.0, by_act_ended.1.1), by_made_there.2)

    -- the claim for the use that a makes of what the recv q received, against the act w of an ending port
    abbrev UntilClaim : Act → ℕ → ℕ → Type 0
    UntilClaim a q w = Holds p thread.body (use_by a (pos 0) (demand.end_of q)) ⊎ ((Holds p thread.body (demand.Order (demand.end_of w) (pos 1) (demand.end_of q)) ⊎ Holds p thread.body (use_by a (pos 0) (demand.end_of w))) × Holds p thread.body (use_by a (pos 0) (demand.next_end_of w)))

    -- received values
    pub received : (turn place c m t : ℕ) (b : At turn place) → Used turn place c b (Wire m t) → InLife (wires p inputs registers) (life_of p m) t c
    received turn place c m t b (e, uses, in_cycle, has) = (omega (arith, atom_by p process inputs registers j thread is turn place b e (Wire m t) has, (in_use_from p process inputs registers j thread is turn place c b in_cycle).0), go r.0 r.1 r.2)
      where
        r : (a : Source) × RestsOn thread.body b.term a × Matches inputs (sees registers) (run_of inputs (sees registers) thread.body turn) a (Wire m t)
        r = rests p process inputs registers j thread is turn place b e uses (Wire m t) has

        go : (a : Source) → RestsOn thread.body b.term a → Matches inputs (sees registers) (run_of inputs (sees registers) thread.body turn) a (Wire m t) → WithinAll (wires p inputs registers) t c (life_of p m)
        go (RegOf q n) s k = elim k [ ]
        go (ChoiceOf q) s k = elim k [ ]
        go (WireOf q) s k = within_all (wires p inputs registers) t c (life_of p m) (λ e i. each e i)
          where
            recv : At turn q
            recv = record { scope = k.1.0; begin = k.1.1; term = k.1.2; runs = k.1.3 }

            is_recv : HasAct thread.body q (λ a. Receives a m)
            is_recv = begun_act inputs registers thread.body numbered (λ a. Receives a m) turn q recv (rw k.1.4 refl)

            on_recv : HasAct thread.body q (λ a. OnPort a m)
            on_recv = begun_act inputs registers thread.body numbered (λ a. OnPort a m) turn q recv (rw k.1.4 refl)

            within : (t < inputs.count) × (recv.begin ≤ t)
            within =
                let by_end_found = end_found p process inputs registers j thread is turn q recv t k.0 in
                let by_ended_ready = ended_ready inputs registers recv.scope recv.begin m t by_end_found.0 (head recv.term) (rw k.1.4 refl) by_end_found.1 in
                (by_ended_ready.0, by_ended_ready.1)

            each : (e : LifeEnd) → Has (life_of p m) e → LiesWithin (wires p inputs registers) t c e
            each (Cycles n) i = short (nat_lt (t + n) (inputs.count + 1)) refl
              where
                short : (d : Bool) → nat_lt (t + n) (inputs.count + 1) ≡ d → c < t + n
                short true f =
                    let is_less : t + n < inputs.count + 1 = grind (arith, nat_tests) in
                    let by_use_law = use_law p process inputs registers j thread is turn 0 place (pos 1 -ℤ pos n) t c false (End q) b (meets _ _ _ _ (demand.wire_within b.term q m n s is_recv i)) k.0 within.0 (omega (arith, ints)) in_cycle in
                    omega (arith, ints)
                short false f = let at_most : inputs.count + 1 ≤ t + n = grind (arith, nat_tests) in let by_in_use_from = (in_use_from p process inputs registers j thread is turn place c b in_cycle).1 in omega arith
            each (Until n) i = λ d l l' exchange.
                let by_own_end = own_end p process inputs registers j thread is q m n d on_recv (process.same_endpoint m n i) exchange in
                let act = begun_act inputs registers thread.body numbered (λ a. OnPort a n) by_own_end.0 by_own_end.1 by_own_end.2 by_own_end.3 in
                none d l l' by_own_end.0 by_own_end.1 by_own_end.2 by_own_end.3 by_own_end.4 (meets _ _ _ _ (demand.wire_until b.term q m n by_own_end.1 s is_recv i act)) (turns inputs (sees registers) thread.body numbered turn by_own_end.0)
              where
                none : (d : ℕ) → t ≤ d → d < c → (turn' w : ℕ) (a : At turn' w) → OnPort (head a.term) n → EndsIn a d → UntilClaim (head b.term) q w → Turns inputs (sees registers) thread.body numbered turn turn' → ⊥
                none d l l' turn' w a on ended (inl f) z =
                    let next_by_use_law = use_law p process inputs registers j thread is turn 0 place (pos 0) t c false (End q) b f k.0 within.0 (omega (arith, ints, within.0)) in_cycle in omega (arith, ints)
                none d l l' turn' w a on ended (inr (f, g)) (next i z) =
                    let by_ended_ready = ended_ready inputs registers a.scope a.begin n d ended.0 (head a.term) on ended.1 in
                    let by_use_law = use_law p process inputs registers j thread is turn i place (pos 0) d c true (End w) b g (occurs_next p process inputs registers j thread is turn i turn' z (End w) d (at_end p process inputs registers j thread is turn' w a d ended)) by_ended_ready.0 (omega (arith, ints, by_ended_ready.0)) in_cycle in omega (arith, ints)
                none d l l' turn' w a on ended (inr (f, g)) (past i z) =
                    let s' = start p process inputs registers j thread is turn q recv in
                    let Statement : ℕ → Type 0 = λ z. begins inputs (sees registers) thread.body z ≡ Some s'.0 in
                    let by_earlier = earlier p process inputs registers j thread is turn' i w a s'.0 (subst Statement z s'.1) in
                    let by_by_earlier = by_earlier.3 (talks (head a.term) n on) in
                    let y' : Done d ended.0 ≡ Done by_earlier.0 by_earlier.1.0 = sym ended.1 ∙ by_earlier.1.1 in
                    let y'' : d ≡ by_earlier.0 = cc in
                    omega (arith, s'.2, within.1)
                none d l l' turn' w a on ended (inr (inl f, g)) (same z) =
                    let by_stage_eq = stage_eq p process inputs registers j thread is turn turn' (sym z) (End w) d (at_end p process inputs registers j thread is turn' w a d ended) in
                    let by_end_over = end_over p process inputs registers j thread is turn 0 w (pos 1) t d false (End q) by_stage_eq f k.0 (omega (arith, ints, within.0)) in omega (arith, ints)
                none d l l' turn' w a on ended (inr (inr f, g)) (same z) =
                    let next_by_stage_eq = stage_eq p process inputs registers j thread is turn turn' (sym z) (End w) d (at_end p process inputs registers j thread is turn' w a d ended) in
                    let e' = ended_ready inputs registers a.scope a.begin n d ended.0 (head a.term) on ended.1 in
                    let by_use_law = use_law p process inputs registers j thread is turn 0 place (pos 0) d c false (End w) b f next_by_stage_eq e'.0 (omega (arith, ints, e'.0)) in_cycle in omega (arith, ints)

    -- the claim for the use that a makes of the register that was read at q, against the set w of it
    abbrev SetClaim : Act → ℕ → ℕ → Type 0
    SetClaim a q w = Holds p thread.body (use_by a (pos 0) (demand.begin_of q)) ⊎ ((Holds p thread.body (demand.Order (demand.end_of w) (pos 0) (demand.begin_of q)) ⊎ Holds p thread.body (use_by a (pos 0) (demand.begin_of w))) × Holds p thread.body (use_by a (pos 0) (demand.next_begin_of w)))

    set_ends : (turn place r : ℕ) (b : At turn place) → Sets (head b.term) r → stage turn (End place) ≡ occurs.At (b.begin + 1)
    set_ends turn place r b k = ap (end_at inputs (sees registers)) b.runs ∙ set_end inputs (sees registers) thread.body numbered b.scope b.begin r (head b.term) k

    -- a register that was read, against the sets of this thread
    pub register_here : (turn place c r t : ℕ) (b : At turn place) → Used turn place c b (Register r t) → (turn' w : ℕ) (a : At turn' w) → Sets (head a.term) r → t ≤ a.begin → a.begin < c → ⊥
    register_here turn place c r t b (e, uses, in_cycle, has) turn' w a sets l l' = go s.0 s.1 s.2
      where
        s : (a : Source) × RestsOn thread.body b.term a × Matches inputs (sees registers) (run_of inputs (sees registers) thread.body turn) a (Register r t)
        s = rests p process inputs registers j thread is turn place b e uses (Register r t) has

        t_short : t < inputs.count
        t_short = let by_atom_by = atom_by p process inputs registers j thread is turn place b e (Register r t) has in omega (arith, (start p process inputs registers j thread is turn place b).3)

        a_short : a.begin < inputs.count
        a_short = (start p process inputs registers j thread is turn' w a).3

        none : (q : ℕ) → stage turn (Begin q) ≡ occurs.At t → SetClaim (head b.term) q w → Turns inputs (sees registers) thread.body numbered turn turn' → ⊥
        none q k (inl f) z =
            let by_use_law = use_law p process inputs registers j thread is turn 0 place (pos 0) t c false (Begin q) b f k t_short (omega (arith, ints, t_short)) in_cycle in omega (arith, ints)
        none q k (inr (f, g)) (next i z) =
            let next_by_use_law = use_law p process inputs registers j thread is turn i place (pos 0) a.begin c true (Begin w) b g (occurs_next p process inputs registers j thread is turn i turn' z (Begin w) a.begin (at_begin p process inputs registers j thread is turn' w a)) a_short (omega (arith, ints, a_short)) in_cycle in omega (arith, ints)
        none q k (inr (f, g)) (past i z) =
            let by_some_start = some_start inputs (sees registers) thread.body numbered (begins inputs (sees registers) thread.body turn) place b.scope b.begin b.term b.runs in
            let Statement : ℕ → Type 0 = λ z. begins inputs (sees registers) thread.body z ≡ Some by_some_start.0 in
            let by_earlier = earlier p process inputs registers j thread is turn' i w a by_some_start.0 (subst Statement z by_some_start.1) in
            let y' : occurs.At (a.begin + 1) ≡ occurs.At by_earlier.0 = sym (set_ends turn' w r a sets) ∙ at_end p process inputs registers j thread is turn' w a by_earlier.0 by_earlier.1 in
            let y'' : a.begin + 1 ≡ by_earlier.0 = cc in
            let by_begin_since = begin_since inputs (sees registers) thread.body numbered (begins inputs (sees registers) thread.body turn) by_some_start.0 q t by_some_start.1 k in
            omega (arith, by_earlier.2)
        none q k (inr (inl f, g)) (same z) =
            let y' = stage_eq p process inputs registers j thread is turn turn' (sym z) (End w) (a.begin + 1) (set_ends turn' w r a sets) in
            let by_end_over = end_over p process inputs registers j thread is turn 0 w (pos 0) t (a.begin + 1) false (Begin q) y' f k (omega (arith, ints, t_short)) in omega (arith, ints)
        none q k (inr (inr f, g)) (same z) =
            let y' = stage_eq p process inputs registers j thread is turn turn' (sym z) (Begin w) a.begin (at_begin p process inputs registers j thread is turn' w a) in
            let by_use_law = use_law p process inputs registers j thread is turn 0 place (pos 0) a.begin c false (Begin w) b f y' a_short (omega (arith, ints, a_short)) in_cycle in omega (arith, ints)

        go : (a : Source) → RestsOn thread.body b.term a → Matches inputs (sees registers) (run_of inputs (sees registers) thread.body turn) a (Register r t) → ⊥
        go (WireOf q) i k = elim k [ ]
        go (ChoiceOf q) i k = elim k [ ]
        go (RegOf q r') i k =
            let i' : RestsOn thread.body b.term (RegOf q r) = rw k.0 i in
            none q k.1 (meets _ _ _ _ (demand.set_here b.term q r w i' (begun_act inputs registers thread.body numbered (λ a. Sets a r) turn' w a sets))) (turns inputs (sees registers) thread.body numbered turn turn')

    -- a register that another thread sets is used in the cycle of reading alone
    pub register_elsewhere : (turn place c r t : ℕ) (b : At turn place) → Used turn place c b (Register r t) → (i w : ℕ) (other : Thread) → IsThread p.threads i other → (i ≡ j → ⊥) → SetAt other.body w r → c ≤ t
    register_elsewhere turn place c r t b (e, uses, in_cycle, has) i w other is' different sets = go s.0 s.1 s.2
      where
        s : (a : Source) × RestsOn thread.body b.term a × Matches inputs (sees registers) (run_of inputs (sees registers) thread.body turn) a (Register r t)
        s = rests p process inputs registers j thread is turn place b e uses (Register r t) has

        t_short : t < inputs.count
        t_short = let by_atom_by = atom_by p process inputs registers j thread is turn place b e (Register r t) has in omega (arith, (start p process inputs registers j thread is turn place b).3)

        go : (a : Source) → RestsOn thread.body b.term a → Matches inputs (sees registers) (run_of inputs (sees registers) thread.body turn) a (Register r t) → c ≤ t
        go (WireOf q) i' k = elim k [ ]
        go (ChoiceOf q) i' k = elim k [ ]
        go (RegOf q r') i' k =
            let i'' : RestsOn thread.body b.term (RegOf q r) = rw k.0 i' in
            let by_use_law = use_law p process inputs registers j thread is turn 0 place (pos 0) t c false (Begin q) b (meets _ _ _ _ (demand.set_elsewhere b.term q r i w other i'' is' different sets)) k.1 t_short (omega (arith, ints, t_short)) in_cycle in
            omega (arith, ints)

    -- sides
    pub choice : (turn place c q t : ℕ) (b : At turn place) → Used turn place c b (Choice q t) → (turn' : ℕ) (a : At turn' q) → t < a.begin → a.begin ≤ c → ⊥
    choice turn place c q t b (e, uses, in_cycle, has) turn' a l l' = go s.0 s.1 s.2
      where
        s : (a : Source) × RestsOn thread.body b.term a × Matches inputs (sees registers) (run_of inputs (sees registers) thread.body turn) a (Choice q t)
        s = rests p process inputs registers j thread is turn place b e uses (Choice q t) has

        a_short : a.begin < inputs.count
        a_short = (start p process inputs registers j thread is turn' q a).3

        none : stage turn (Begin q) ≡ occurs.At t → Holds p thread.body (use_by (head b.term) (pos 1) (demand.next_begin_of q)) → Turns inputs (sees registers) thread.body numbered turn turn' → ⊥
        none k f (next i z) =
            let next_by_use_law = use_law p process inputs registers j thread is turn i place (pos 1) a.begin c true (Begin q) b f (occurs_next p process inputs registers j thread is turn i turn' z (Begin q) a.begin (at_begin p process inputs registers j thread is turn' q a)) a_short (omega (arith, ints, a_short)) in_cycle in omega (arith, ints)
        none k f (past i z) =
            let by_some_start = some_start inputs (sees registers) thread.body numbered (begins inputs (sees registers) thread.body turn) place b.scope b.begin b.term b.runs in
            let Statement : ℕ → Type 0 = λ z. begins inputs (sees registers) thread.body z ≡ Some by_some_start.0 in
            let by_earlier = earlier p process inputs registers j thread is turn' i q a by_some_start.0 (subst Statement z by_some_start.1) in
            let y' = act_from inputs (sees registers) a.scope a.begin (head a.term) by_earlier.0 (ap of_outcome by_earlier.1.1) in
            let by_begin_since = begin_since inputs (sees registers) thread.body numbered (begins inputs (sees registers) thread.body turn) by_some_start.0 q t by_some_start.1 k in
            omega (arith, by_earlier.2)
        none k f (same z) =
            let y' : occurs.At t ≡ occurs.At a.begin = sym k ∙ stage_eq p process inputs registers j thread is turn turn' (sym z) (Begin q) a.begin (at_begin p process inputs registers j thread is turn' q a) in
            let y'' : t ≡ a.begin = cc in omega arith

        go : (a : Source) → RestsOn thread.body b.term a → Matches inputs (sees registers) (run_of inputs (sees registers) thread.body turn) a (Choice q t) → ⊥
        go (WireOf q') i k = elim k [ ]
        go (RegOf q' r) i k = elim k [ ]
        go (ChoiceOf q') i k =
            let i' : RestsOn thread.body b.term (ChoiceOf q) = rw k.0 i in
            let k' : stage turn (Begin q) ≡ occurs.At t = rw k.0 k.1 in
            none k' (meets _ _ _ _ (demand.choice b.term q i')) (turns inputs (sees registers) thread.body numbered turn turn')

-- The process of loop { set a := *a + 8'd1 ; cycle 2 } has a machine on every input list: what is asked of one can be met.
--
-- A turn has two cycles. All nodes that come with the begin of a turn pulse in the even cycles, the end of the `set` in the odd
-- ones, and the end of the turn in the even ones but the first. The counter of the delay is loaded again in the very cycle in which it
-- is at 1, and the join keeps in the odd cycles that its first end has come.
use Rattle.std.proofs.Common.{◌≡◌, ℕ, ◌+◌, ◌-◌, ◌<◌, ◌==◌, ◌⊎◌, inl, inr, arith, refl, sym, ap, subst, not, ◌&&◌, ◌||◌, if◌then◌else◌, List, [], ◌∷◌, Bool, true, false, zero, suc, slice_index_or}
use Rattle.std.proofs.lemmas.Bool.Decides.{nat_tests}
use Rattle.order_rules.specs.Form.{Form, Start, Same, After, Join}
use Rattle.core_term.specs.declared.operators.BinOp.TheVariants.{Add}
use Rattle.core_term.specs.Operators.{operate}
use Rattle.core_term.specs.Inputs.{Inputs}
use Rattle.core_term.specs.Term.{Expr, Lit, Reg, Bin, Term, One, Both, Act, Cycle, Set, site, head}
use Rattle.core_term.specs.Numbering.{size}
use Rattle.core_term.specs.Ends.{Sees}
use Rattle.core_term.specs.Points.{Spot, TermBegin, TermEnd, Begin, End}
use Rattle.core_term.specs.Stands.{Stands, here, in_one, in_both, after_both}
use Rattle.core_term.specs.Acts.{OnPort, Uses, Asks}
use Rattle.core_term.specs.Process.{Process, Thread, IsThread, is_received}
use Rattle.core_term.specs.Reread.{read_again, deciding}
use Rattle.turn_pulses.specs.TurnGraph.{TurnGraph, IsTurnGraph, IsNode, IsTailNode}
use Rattle.turn_pulses.specs.PulseMachine.{Seen, PulseMachine, IsPulseMachine, pulse_of, next_bit, next_counter, xor}
use Rattle.turn_pulses.specs.Latest.{IsNewest, some_begin}
use Rattle.turn_machine.specs.TailEnds.{tail_ends, is_tail}
use Rattle.turn_machine.specs.Draws.{ComeTogether, Draws, IsDrawn}
use Rattle.process_machine.specs.ThreadMachine.{ThreadMachine, IsThreadMachine}
use Rattle.process_machine.specs.ProcessMachine.{ProcessMachine, written, send_begins, IsProcessMachine}

abbrev sum : Expr
sum = Bin Add 8 8 (Reg 0) (Lit 8 1)

abbrev body : Term
body = Both (Set 0 0 sum) (One (Cycle 1 2))

abbrev process : Process
process = record { name = []; ports = []; registers = record { name = []; width = 8; reset = 0 } ∷ []; threads = record { body = body; count = 2 } ∷ [] }

-- the graph: 0 the start, 1 and 2 begin and end of the `set`, 3 to 5 the begins of the wait and its end, 6 and 7 the ends
abbrev form : ℕ → Form ℕ
form zero = Start
form (suc zero) = Same 0
form (suc (suc zero)) = After 1 1
form (suc (suc (suc zero))) = Same 0
form (suc (suc (suc (suc zero)))) = Same 3
form (suc (suc (suc (suc (suc zero))))) = After 2 4
form (suc (suc (suc (suc (suc (suc zero)))))) = Same 5
form (suc (suc (suc (suc (suc (suc (suc n))))))) = Join 2 6

abbrev point : ℕ → Spot
point zero = TermBegin 0
point (suc zero) = Begin 0
point (suc (suc zero)) = End 0
point (suc (suc (suc zero))) = TermBegin 1
point (suc (suc (suc (suc zero)))) = Begin 1
point (suc (suc (suc (suc (suc zero))))) = End 1
point (suc (suc (suc (suc (suc (suc zero)))))) = TermEnd 1
point (suc (suc (suc (suc (suc (suc (suc n))))))) = TermEnd 0

abbrev live : ℕ → Bool
live (suc (suc (suc (suc (suc (suc (suc (suc n)))))))) = false
live node = true

abbrev tail : ℕ → Bool
tail node = is_tail (tail_ends body) (point node)

abbrev graph : TurnGraph
graph = record { live = live; form = form; last = 7; tail = tail; forgets = λ node. false }

graph_is : IsTurnGraph graph
graph_is = record { nodes = nodes; tails = tails; last_live = refl; last_tail = refl }
  where
    nodes : (node : ℕ) → live node ≡ true → IsNode graph node (form node)
    nodes zero is_live = tt
    nodes (suc zero) is_live = (omega arith, refl)
    nodes (suc (suc zero)) is_live = ((omega arith, refl), omega arith)
    nodes (suc (suc (suc zero))) is_live = (omega arith, refl)
    nodes (suc (suc (suc (suc zero)))) is_live = (omega arith, refl)
    nodes (suc (suc (suc (suc (suc zero))))) is_live = ((omega arith, refl), omega arith)
    nodes (suc (suc (suc (suc (suc (suc zero)))))) is_live = (omega arith, refl)
    nodes (suc (suc (suc (suc (suc (suc (suc n))))))) is_live = ((omega arith, refl), (omega arith, refl), refl, λ forgets. absurd cc)

    tails : (node : ℕ) → live node ≡ true → tail node ≡ true → IsTailNode graph node (form node)
    tails zero is_live of_tail = absurd cc
    tails (suc zero) is_live of_tail = absurd cc
    tails (suc (suc zero)) is_live of_tail = tt
    tails (suc (suc (suc zero))) is_live of_tail = absurd cc
    tails (suc (suc (suc (suc zero)))) is_live of_tail = absurd cc
    tails (suc (suc (suc (suc (suc zero))))) is_live of_tail = tt
    tails (suc (suc (suc (suc (suc (suc zero)))))) is_live of_tail = refl
    tails (suc (suc (suc (suc (suc (suc (suc n))))))) is_live of_tail = (refl, refl, refl)

itself : (inputs : Inputs) (view : Sees) (spot : Spot) → ComeTogether inputs view body spot spot
itself inputs view spot turn cycle within = ((λ comes. comes), (λ comes. comes))

draws : (inputs : Inputs) (view : Sees) (decision : ℕ → ℕ → Bool) (seen : Seen) → Draws inputs view decision body graph seen point
draws inputs view decision seen = record { nodes = nodes; last = itself inputs view (TermEnd 0); tail = λ node. refl }
  where
    nodes : (node : ℕ) → live node ≡ true → IsDrawn inputs view decision body graph seen point node (form node)
    nodes zero is_live = refl
    nodes (suc zero) is_live = (TermBegin 0, itself inputs view (TermBegin 0), inl refl)
    nodes (suc (suc zero)) is_live = (Begin 0, itself inputs view (Begin 0), inr (inr (inr (inl refl))))
    nodes (suc (suc (suc zero))) is_live = (TermBegin 0, itself inputs view (TermBegin 0), inr (inl refl))
    nodes (suc (suc (suc (suc zero)))) is_live = (TermBegin 1, itself inputs view (TermBegin 1), inr (inr (inr (inr (inl refl)))))
    nodes (suc (suc (suc (suc (suc zero))))) is_live = (Begin 1, itself inputs view (Begin 1), inr (inr (inr (inr (inr (inr (inl refl)))))))
    nodes (suc (suc (suc (suc (suc (suc zero)))))) is_live = (End 1, itself inputs view (End 1), inr (inr (inr (inr (inr (inl refl))))))
    nodes (suc (suc (suc (suc (suc (suc (suc n))))))) is_live = (End 0, TermEnd 1, itself inputs view (End 0), itself inputs view (TermEnd 1), inr (inr (inl refl)), λ keeps. (0, 1, refl, refl, refl, inr (inl refl)))

-- the even cycles, and those but the first
abbrev even : ℕ → Bool
even zero = true
even (suc cycle) = not (even cycle)

abbrev again : ℕ → Bool
again zero = false
again (suc cycle) = not (even cycle)

abbrev started : ℕ → Bool
started zero = false
started (suc cycle) = true

abbrev pulse : (cycle node : ℕ) → Bool
pulse cycle zero = even cycle
pulse cycle (suc zero) = even cycle
pulse cycle (suc (suc zero)) = not (even cycle)
pulse cycle (suc (suc (suc zero))) = even cycle
pulse cycle (suc (suc (suc (suc zero)))) = even cycle
pulse cycle (suc (suc (suc (suc (suc n))))) = again cycle

abbrev bit : (cycle node : ℕ) → Bool
bit cycle (suc (suc (suc (suc (suc (suc (suc n))))))) = again cycle
bit cycle node = false

-- the counter of the delay of two cycles is at 1 in the even cycles but the first
abbrev two_counter : (cycle : ℕ) → ℕ
two_counter zero = 0
two_counter (suc cycle) = if even cycle then 2 else 1

abbrev counter : (cycle node : ℕ) → ℕ
counter cycle (suc (suc zero)) = if even cycle then 0 else 1
counter cycle (suc (suc (suc (suc (suc zero))))) = two_counter cycle
counter cycle node = 0

abbrev pulses : PulseMachine
pulses = record { pulse = pulse; bit = bit; counter = counter; started = started }

abbrev seen : Seen
seen = record { wire = λ node cycle. false; chosen = λ node cycle. false }

begins_even : (cycle : ℕ) → (not (started cycle) || again cycle) ≡ even cycle
begins_even zero = refl
begins_even (suc cycle) = refl

set_ends : (is_even : Bool) → not is_even ≡ ((if is_even then 0 else 1) == 1)
set_ends true = refl
set_ends false = refl

wait_ends : (cycle : ℕ) → again cycle ≡ (two_counter cycle == 1)
wait_ends zero = refl
wait_ends (suc cycle) = by_parity (even cycle)
  where
    by_parity : (is_even : Bool) → not is_even ≡ ((if is_even then 2 else 1) == 1)
    by_parity true = refl
    by_parity false = refl

-- at the end of a turn the join has one end and gets the other
join_ends : (cycle : ℕ) → again cycle ≡ ((not (even cycle) && again cycle) || ((again cycle && true) && (not (even cycle) || again cycle)))
join_ends zero = refl
join_ends (suc cycle) = by_parity (even cycle)
  where
    by_parity : (is_even : Bool) → not is_even ≡ ((not (not is_even) && not is_even) || ((not is_even && true) && (not (not is_even) || not is_even)))
    by_parity true = refl
    by_parity false = refl

at_next : (cycle : ℕ) (Holds : ℕ → Type 0) → Holds (suc cycle) → Holds (cycle + 1)
at_next cycle Holds holds = let same : suc cycle ≡ cycle + 1 = omega arith in subst Holds same holds

join_keeps : (cycle : ℕ) → not (even cycle) ≡ xor (again cycle && true) (xor (not (even cycle)) (again cycle))
join_keeps zero = refl
join_keeps (suc cycle) = by_parity (even cycle)
  where
    by_parity : (is_even : Bool) → not (not is_even) ≡ xor (not is_even && true) (xor (not (not is_even)) (not is_even))
    by_parity true = refl
    by_parity false = refl

set_counts : (is_even : Bool) → (if not is_even then 0 else 1) ≡ (if is_even then 1 else (if is_even then 0 else 1) - 1)
set_counts true = refl
set_counts false = refl

wait_counts : (cycle : ℕ) → (if even cycle then 2 else 1) ≡ (if even cycle then 2 else two_counter cycle - 1)
wait_counts zero = refl
wait_counts (suc cycle) = by_parity (even cycle)
  where
    by_parity : (is_even : Bool) → (if not is_even then 2 else 1) ≡ (if not is_even then 2 else (if is_even then 2 else 1) - 1)
    by_parity true = refl
    by_parity false = refl

pulses_are : IsPulseMachine graph seen pulses
pulses_are = record { unstarted = refl; starts = λ cycle. at_next cycle (λ n. started n ≡ true) refl; no_bit = no_bit; no_count = no_count; pulses = nets; bits = bits; counters = counters }
  where
    no_bit : (node : ℕ) → bit 0 node ≡ false
    no_bit zero = refl
    no_bit (suc zero) = refl
    no_bit (suc (suc zero)) = refl
    no_bit (suc (suc (suc zero))) = refl
    no_bit (suc (suc (suc (suc zero)))) = refl
    no_bit (suc (suc (suc (suc (suc zero))))) = refl
    no_bit (suc (suc (suc (suc (suc (suc zero)))))) = refl
    no_bit (suc (suc (suc (suc (suc (suc (suc n))))))) = refl

    no_count : (node : ℕ) → counter 0 node ≡ 0
    no_count zero = refl
    no_count (suc zero) = refl
    no_count (suc (suc zero)) = refl
    no_count (suc (suc (suc zero))) = refl
    no_count (suc (suc (suc (suc zero)))) = refl
    no_count (suc (suc (suc (suc (suc zero))))) = refl
    no_count (suc (suc (suc (suc (suc (suc n)))))) = refl

    nets : (cycle node : ℕ) → live node ≡ true → pulse cycle node ≡ pulse_of graph seen pulses cycle node (form node)
    nets cycle zero is_live = sym (begins_even cycle)
    nets cycle (suc zero) is_live = refl
    nets cycle (suc (suc zero)) is_live = set_ends (even cycle)
    nets cycle (suc (suc (suc zero))) is_live = refl
    nets cycle (suc (suc (suc (suc zero)))) is_live = refl
    nets cycle (suc (suc (suc (suc (suc zero))))) is_live = wait_ends cycle
    nets cycle (suc (suc (suc (suc (suc (suc zero)))))) is_live = refl
    nets cycle (suc (suc (suc (suc (suc (suc (suc n))))))) is_live = join_ends cycle

    bits : (cycle node : ℕ) → live node ≡ true → bit (cycle + 1) node ≡ next_bit graph seen pulses cycle node (form node)
    bits cycle zero is_live = refl
    bits cycle (suc zero) is_live = refl
    bits cycle (suc (suc zero)) is_live = refl
    bits cycle (suc (suc (suc zero))) is_live = refl
    bits cycle (suc (suc (suc (suc zero)))) is_live = refl
    bits cycle (suc (suc (suc (suc (suc zero))))) is_live = refl
    bits cycle (suc (suc (suc (suc (suc (suc zero)))))) is_live = refl
    bits cycle (suc (suc (suc (suc (suc (suc (suc n))))))) is_live = at_next cycle (λ next. again next ≡ xor (again cycle && true) (xor (not (even cycle)) (again cycle))) (join_keeps cycle)

    counters : (cycle node : ℕ) → live node ≡ true → counter (cycle + 1) node ≡ next_counter pulses cycle node (form node)
    counters cycle zero is_live = refl
    counters cycle (suc zero) is_live = refl
    counters cycle (suc (suc zero)) is_live = at_next cycle (λ next. (if even next then 0 else 1) ≡ (if even cycle then 1 else (if even cycle then 0 else 1) - 1)) (set_counts (even cycle))
    counters cycle (suc (suc (suc zero))) is_live = refl
    counters cycle (suc (suc (suc (suc zero)))) is_live = refl
    counters cycle (suc (suc (suc (suc (suc zero))))) is_live = at_next cycle (λ next. two_counter next ≡ (if even cycle then 2 else two_counter cycle - 1)) (wait_counts cycle)
    counters cycle (suc (suc (suc (suc (suc (suc zero)))))) is_live = refl
    counters cycle (suc (suc (suc (suc (suc (suc (suc n))))))) is_live = refl

-- the register goes up by one in the even cycles
abbrev counted : (cycle : ℕ) → ℕ
counted zero = 0
counted (suc cycle) = if even cycle then operate Add 8 8 (counted cycle) 1 else counted cycle

abbrev registers : (cycle register : ℕ) → ℕ
registers cycle zero = counted cycle
registers cycle (suc register) = 0

abbrev value : (place cycle : ℕ) → ℕ
value place cycle = operate Add 8 8 (counted cycle) 1

abbrev never : (place cycle : ℕ) → Bool
never place cycle = false

abbrev begin_node : (place : ℕ) → ℕ
begin_node zero = 1
begin_node (suc place) = 4

abbrev thread_machine : ThreadMachine
thread_machine = record {
  graph = graph;
  seen = seen;
  point = point;
  pulses = pulses;
  begin_node = begin_node;
  end_node = λ place. 0;
  value = value;
  decision = never;
  side = never;
  kept_side = never;
}

-- the heads of the terms of the body
heads : {acts : List Act} {term : Term} → Stands [] body acts term → (head term ≡ Set 0 0 sum) ⊎ (head term ≡ Cycle 1 2)
heads here = inl refl
heads (in_both stands) = elim stands [ ]
heads (after_both here) = inr refl
heads (after_both (in_one stands)) = elim stands [ ]

of_heads : (Holds : Act → Type 0) → Holds (Set 0 0 sum) → Holds (Cycle 1 2) → {acts : List Act} {term : Term} → Stands [] body acts term → Holds (head term)
of_heads Holds first second stands = elim (heads stands) [ inl same ↦ subst Holds (sym same) first | inr same ↦ subst Holds (sym same) second ]

no_choice : (bit : Bool) → false ≡ (if bit then false else false)
no_choice true = refl
no_choice false = refl

is_thread_machine : (inputs : Inputs) → IsThreadMachine inputs registers body thread_machine
is_thread_machine inputs = record {
  draws = draws inputs (deciding registers never) never seen;
  graph_is = graph_is;
  pulses_are = pulses_are;
  begin_live = begin_live;
  begin_is = begin_is;
  port_ends = λ scope term port stands on. absurd (let none = of_heads (λ act. OnPort act port → ⊥) (λ on. on) (λ on. on) stands in none on);
  reads = record {
    values = λ scope term used stands uses cycle within.
        of_heads (λ act. Uses act used → value (site act) cycle ≡ read_again inputs registers never cycle scope used) (λ same. ap (read_again inputs registers never cycle scope) same) (λ uses. absurd uses) stands uses;
    conditions = λ scope term condition stands asks cycle within. absurd (let none = of_heads (λ act. Asks act condition → ⊥) (λ asks. asks) (λ asks. asks) stands in none asks);
    sides = λ place below. record { none = refl; keeps = λ cycle. refl; shows = λ cycle. no_choice (pulse cycle (begin_node place)) };
    no_side = λ place cycle past. refl;
  };
}
  where
    begin_live : (place : ℕ) → place < 2 → live (begin_node place) ≡ true
    begin_live zero below = refl
    begin_live (suc place) below = refl

    begin_is : (place : ℕ) → place < 2 → ComeTogether inputs (deciding registers never) body (point (begin_node place)) (Begin place)
    begin_is zero below = itself inputs (deciding registers never) (Begin 0)
    begin_is (suc zero) below = itself inputs (deciding registers never) (Begin 1)
    begin_is (suc (suc place)) below = absurd (omega arith)

abbrev machine : Inputs → ProcessMachine
machine inputs = record {
  registers = registers;
  threads = λ number. thread_machine;
  newest = λ number port place cycle. false;
  newest_kept = λ number port place cycle. false;
  wires = record { count = inputs.count; valid = λ port cycle. false; ack = λ port cycle. inputs.ack port cycle; data_at = λ port cycle. 0 };
}

is_machine : (inputs : Inputs) → IsProcessMachine process inputs (machine inputs)
is_machine inputs = record {
  threads_are = threads_are;
  reset = reset;
  next = next;
  long = refl;
  valid_in = λ port cycle received. absurd (no_port port received);
  data_in = λ port cycle received. absurd (no_port port received);
  ack_in = λ port cycle sent. refl;
  ack_out = λ port cycle within received. absurd (no_port port received);
  valid_out = λ port cycle within sent. refl;
  data_out = λ port cycle within sent. refl;
  newest_is = λ number thread port is_thread sent. no_send number thread port is_thread;
}
  where
    threads_are : (number : ℕ) (thread : Thread) → IsThread process.threads number thread → IsThreadMachine inputs registers thread.body thread_machine
    threads_are zero thread same = subst (λ one. IsThreadMachine inputs registers one.body thread_machine) same (is_thread_machine inputs)
    threads_are (suc number) thread is_thread = elim is_thread [ ]

    reset : (register : ℕ) → registers 0 register ≡ slice_index_or (0 ∷ []) register 0
    reset zero = refl
    reset (suc register) = refl

    no_port : (port : ℕ) → is_received process port ≡ true → ⊥
    no_port port received = absurd cc

    next : (cycle register : ℕ) → cycle < inputs.count → registers (cycle + 1) register ≡ written (λ number. thread_machine) 0 process.threads register cycle (registers cycle register)
    next cycle zero within = at_next cycle (λ n. counted n ≡ (if even cycle then operate Add 8 8 (counted cycle) 1 else counted cycle)) refl
    next cycle (suc register) within = let differs = other_register register in rw differs refl
      where
        other_register : (register : ℕ) → (0 == suc register) ≡ false
        other_register register = by_test (0 == suc register) refl
          where
            by_test : (test : Bool) → (0 == suc register) ≡ test → (0 == suc register) ≡ false
            by_test true passes = absurd (let same : 0 ≡ suc register = grind (arith, nat_tests) in omega arith)
            by_test false fails = fails

    no_send : (number : ℕ) (thread : Thread) (port : ℕ) → IsThread process.threads number thread → IsNewest (size thread.body) (send_begins thread_machine thread.body port) (λ place cycle. false) (λ place cycle. false)
    no_send zero thread port same =
        subst (λ one. IsNewest (size one.body) (send_begins thread_machine one.body port) (λ place cycle. false) (λ place cycle. false)) same (record { none = λ place. refl; keeps = λ place cycle below. refl; shows = shows })
      where
        shows : (place cycle : ℕ) → place < 2 → false ≡ (if some_begin (send_begins thread_machine body port) 2 cycle then send_begins thread_machine body port place cycle && not (some_begin (send_begins thread_machine body port) place cycle) else false)
        shows place cycle below = refl
    no_send (suc number) thread port is_thread = elim is_thread [ ]

-- What the nets of the machine of a thread say of the turns of its re-reading run.
--
-- The pulse of an act's begin says that it begins in some turn, and the offer of an act on a port that it has begun and has not
-- ended before. The side that is shown is that of the latest decision, so decisions and sides are those of a re-reading run.
use Rattle.std.proofs.Common.{◌≡◌, ℕ, ◌<◌, ◌≤◌, ◌==◌, ◌||◌, ◌⊎◌, inl, inr, arith, refl, sym, ◌∙◌, ap, List, [], false}
use Rattle.std.proofs.lemmas.Bool.{cases_lt}
use Rattle.core_term.specs.Inputs.{Inputs}
use Rattle.core_term.specs.Term.{Expr, Term, Act, Cycle, Set, Send, Recv, If, When, Block, Wait, Pure, Nothing, site, head}
use Rattle.core_term.specs.Numbering.{size, Numbered}
use Rattle.core_term.specs.Value.{Outcome}
use Rattle.core_term.specs.Ends.{Sees}
use Rattle.core_term.specs.Fate.{Fate, Runs}
use Rattle.core_term.specs.Points.{Spot, Begin}
use Rattle.core_term.specs.Occurs.{Occurrence, At, begin_at}
use Rattle.core_term.specs.Turns.{run_of}
use Rattle.core_term.specs.Tail.{IsTail}
use Rattle.core_term.specs.Stands.{Stands}
use Rattle.core_term.specs.Acts.{OnPort, Uses, Asks}
use Rattle.core_term.specs.Reread.{deciding, DecidesAgain}
use Rattle.run_laws.specs.TurnLaws.{times, answer}
use Rattle.run_laws.proofs.turn_points.Placed.{place}
use Rattle.run_laws.proofs.rereading.Decide.{within as runs_within}
use Rattle.run_laws.proofs.turn_points.TurnRules.{obeys_rules}
use Rattle.turn_pulses.proofs.Reflects.{Reflects, same_bit, same_fact, is_true, is_false}
use Rattle.turn_pulses.proofs.Pulses.{pulse_right, offer_right}
use Rattle.turn_pulses.proofs.Latest.{latest, never}
use Rattle.turn_machine.proofs.Turns.{Begins, runs_at}
use Rattle.turn_machine.proofs.Timeline.{Occurs, timeline}
use Rattle.process_machine.specs.ThreadMachine.{ThreadMachine, begins_in, offered_in, HasPortEnd, IsThreadMachine}

asks_uses : (act : Act) (condition : Expr) → Asks act condition → Uses act condition
asks_uses (If p used first second valued) condition asks = asks
asks_uses (When p used first) condition asks = asks
asks_uses (Cycle p count) condition asks = elim asks [ ]
asks_uses (Set p register value) condition asks = elim asks [ ]
asks_uses (Send p port value) condition asks = elim asks [ ]
asks_uses (Recv p port) condition asks = elim asks [ ]
asks_uses (Block p inner) condition asks = elim asks [ ]
asks_uses (Wait p variable) condition asks = elim asks [ ]
asks_uses (Pure p value) condition asks = elim asks [ ]
asks_uses (Nothing p) condition asks = elim asks [ ]

module _ (inputs : Inputs) (registers : ℕ → ℕ → ℕ) (body : Term) (numbered : Numbered [] 0 body) (tails : IsTail body) (machine : ThreadMachine) (machine_is : IsThreadMachine inputs registers body machine) where
  abbrev pub view : Sees
  view = deciding registers machine.decision

  abbrev pub run : (turn place : ℕ) → Fate
  run turn place = run_of inputs view body turn place

  abbrev pub at : (turn : ℕ) → Spot → Occurrence
  at turn point = times inputs view body turn point

  -- an act that runs is one of the body, and begins within the list
  pub inside : (turn place : ℕ) (scope : ℕ → Outcome) (start : ℕ) (term : Term) → run turn place ≡ Runs scope start term → place < size body
  inside turn place scope start term runs = runs_within inputs body numbered view turn place scope start term runs

  pub in_list : (turn q : ℕ) (scope : ℕ → Outcome) (start : ℕ) (term : Term) → run turn q ≡ Runs scope start term → start < inputs.count
  in_list turn q scope start term runs = let placed = place inputs view body numbered turn q scope start term (record { inside = inside turn q scope start term runs; runs = runs }) in placed.3.fits.1

  pub runs_of : (turn cycle place : ℕ) → at turn (Begin place) ≡ At cycle → (scope : ℕ → Outcome) × (term : Term) × (run turn place ≡ Runs scope cycle term)
  runs_of turn cycle place comes =
      let act = runs_at inputs registers machine.decision body numbered tails turn cycle (Begin place) comes in
      let runs = act.runs in
      let both : At act.begin ≡ At cycle = sym (ap begin_at runs) ∙ comes in
      let same : act.begin ≡ cycle = cc in
      (act.scope, act.term, rw same at runs)

  -- the pulse of a begin
  pub reflects_begins : (place cycle : ℕ) → place < size body → cycle < inputs.count → Reflects ((turn : ℕ) × (at turn (Begin place) ≡ At cycle)) (begins_in machine place cycle)
  reflects_begins place cycle below within =
      same_fact (λ comes. (comes.0, (machine_is.begin_is place below comes.0 cycle within).0 comes.1)) (λ comes. (comes.0, (machine_is.begin_is place below comes.0 cycle within).1 comes.1))
      (pulse_right machine.graph machine.seen inputs.count (Begins inputs registers machine.decision body numbered tails) (Occurs inputs registers machine.decision body numbered tails machine.graph machine.seen machine.point machine_is.draws)
      (timeline inputs registers machine.decision body numbered tails machine.graph machine.seen machine.point machine_is.draws) machine_is.graph_is machine.pulses machine_is.pulses_are cycle (machine.begin_node place) (machine_is.begin_live place below) within)

  -- an act on a port has begun by the cycle, and its wire has not been 1 since
  abbrev pub IsOffered : Act → (place cycle : ℕ) → Type 0
  IsOffered act place cycle = (turn start : ℕ) × (start ≤ cycle) × (at turn (Begin place) ≡ At start) × ((between : ℕ) → start ≤ between → between < cycle → answer inputs act between ≡ false)

  pub reflects_offered : (scope : List Act) (term : Term) (port place cycle : ℕ) → Stands [] body scope term → OnPort (head term) port → site (head term) ≡ place → cycle < inputs.count → Reflects (IsOffered (head term) place cycle) (offered_in machine place cycle)
  reflects_offered scope term port place cycle stands on at_place within = let reflects = of_site in rw at_place at reflects
    where
      end : HasPortEnd inputs view body machine (head term)
      end = machine_is.port_ends scope term port stands on

      bit_is : offered_in machine (site (head term)) cycle ≡ (machine.pulses.pulse cycle end.from || machine.pulses.bit cycle (machine.end_node (site (head term))))
      bit_is = let is_sync = end.is_sync in rw is_sync refl

      of_site : Reflects (IsOffered (head term) (site (head term)) cycle) (offered_in machine (site (head term)) cycle)
      of_site =
          same_bit bit_is
          (same_fact (λ offer. (offer.0, offer.1, offer.2, (end.is_begin offer.0 offer.1 (omega (arith, offer.2))).0 offer.3, λ between above below. sym (end.wire between) ∙ offer.4 between above below))
          (λ offer. (offer.0, offer.1, offer.2, (end.is_begin offer.0 offer.1 (omega (arith, offer.2))).1 offer.3, λ between above below. end.wire between ∙ offer.4 between above below))
          (offer_right machine.graph machine.seen inputs.count (Begins inputs registers machine.decision body numbered tails) (Occurs inputs registers machine.decision body numbered tails machine.graph machine.seen machine.point machine_is.draws)
          (timeline inputs registers machine.decision body numbered tails machine.graph machine.seen machine.point machine_is.draws) machine_is.graph_is machine.pulses machine_is.pulses_are cycle (machine.end_node (site (head term))) end.from end.live within end.is_sync))

  -- the side that is shown is that of the latest decision, and the second one before the first decision
  latest_side : (turn place : ℕ) (scope : ℕ → Outcome) (start : ℕ) (term : Term) (cycle : ℕ) → run turn place ≡ Runs scope start term → start ≤ cycle → cycle < inputs.count
      → ((later : ℕ) (later_scope : ℕ → Outcome) (later_start : ℕ) (later_term : Term) → run later place ≡ Runs later_scope later_start later_term → start < later_start → later_start ≤ cycle → ⊥) → machine.side place cycle ≡ machine.decision place start
  latest_side turn place scope start term cycle runs since within none =
      let below = inside turn place scope start term runs in
      latest (begins_in machine place) (machine.decision place) (machine.side place) (machine.kept_side place) (machine_is.reads.sides place below) start cycle since
      (is_true (reflects_begins place start below (omega arith)) (turn, ap begin_at runs))
      (λ later after upto. is_false (reflects_begins place later below (omega arith)) (λ comes. let again = runs_of comes.0 later place comes.1 in none comes.0 again.0 later again.1 again.2 after upto))

  never_side : (place cycle : ℕ) → cycle < inputs.count → ((turn : ℕ) (scope : ℕ → Outcome) (start : ℕ) (term : Term) → run turn place ≡ Runs scope start term → start ≤ cycle → ⊥) → machine.side place cycle ≡ false
  never_side place cycle within none = by_place (cases_lt place (size body))
    where
      by_place : (place < size body) ⊎ (size body ≤ place) → machine.side place cycle ≡ false
      by_place (inl below) =
          never (begins_in machine place) (machine.decision place) (machine.side place) (machine.kept_side place) (machine_is.reads.sides place below) cycle
          (λ earlier upto. is_false (reflects_begins place earlier below (omega arith)) (λ comes. let begun = runs_of comes.0 earlier place comes.1 in none comes.0 begun.0 earlier begun.1 begun.2 upto))
      by_place (inr past) = machine_is.reads.no_side place cycle past

  pub decides_again : DecidesAgain inputs body registers machine.decision machine.side
  decides_again = record {
    decides = λ turn place below begun scope stands condition asks.
        let at_place = (obeys_rules inputs view body numbered turn).stands place begun.scope begun.begin begun.term begun.runs in
        let within = in_list turn place begun.scope begun.begin begun.term begun.runs in
        let decides = machine_is.reads.conditions scope begun.term condition stands asks begun.begin within
        ∙ ap (λ value. value == 1) (machine_is.reads.values scope begun.term condition stands (asks_uses (head begun.term) condition asks) begun.begin within) in
        rw (at_place.2) at decides;
    latest = λ turn place cycle within begun condition asks since none.
        latest_side turn place begun.scope begun.begin begun.term cycle begun.runs since within
        (λ later scope start term runs after upto. none later (record { scope = scope; begin = start; term = term; runs = runs }) after upto);
    never = λ place cycle within none. never_side place cycle within (λ turn scope start term runs upto. none turn (record { scope = scope; begin = start; term = term; runs = runs }) upto);
  }

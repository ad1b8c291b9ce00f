-- An `ack` or `valid` that goes out is 1 exactly where the re-reading run offers an act on the port.
--
-- The bit of a site says that its act has begun and its wire has not been 1 since. An act on a port ends in the first cycle in which
-- its wire is 1, so that is to say that it has not ended before.
use Rattle.std.proofs.Common.{◌≡◌, ℕ, ◌+◌, ◌<◌, ◌≤◌, ◌⊎◌, inl, inr, arith, refl, sym, ◌∙◌, subst, Bool, true, false, ◌&&◌, List, []}
use Rattle.std.proofs.lemmas.Bool.{cases_lt}
use Rattle.core_term.specs.Inputs.{Inputs}
use Rattle.core_term.specs.Term.{Term, Act, site, head}
use Rattle.core_term.specs.Numbering.{size}
use Rattle.core_term.specs.Value.{Value, Done}
use Rattle.core_term.specs.Ends.{act_ends}
use Rattle.core_term.specs.Stands.{Stands}
use Rattle.core_term.specs.Acts.{OnPort}
use Rattle.core_term.specs.Process.{Process, Thread, IsThread, IsProcess}
use Rattle.run_laws.specs.TurnLaws.{answer}
use Rattle.core_term.specs.Reread.{Reread, Begins, Offers, deciding}
use Rattle.turn_pulses.proofs.Reflects.{Reflects, is_true, fact_of, off}
use Rattle.process_machine.specs.ActTests.{is_on_port, passes_at}
use Rattle.process_machine.specs.ThreadMachine.{ThreadMachine, offered_in}
use Rattle.process_machine.specs.ProcessMachine.{ProcessMachine, act_offered, is_offered, IsProcessMachine}
use Rattle.process_machine.specs.Rereads.{run_of_machine}
use Rattle.process_machine.proofs.ActTests.{reflects_on_port, reflects_at}
use Rattle.process_machine.proofs.PortEnds.{port_answered, port_ends_by}
use Rattle.process_machine.proofs.Threads.{reflects_offered}
use Rattle.process_machine.proofs.Begun.{numbered, tails, of_thread, place_of, same_term, is_inside, comes_then, begun_at}
use Rattle.process_machine.proofs.AllThreads.{SomeOffers, reflects_some_offers}

both_true : (test other : Bool) → (test && other) ≡ true → (test ≡ true) × (other ≡ true)
both_true true other passes = (refl, passes)
both_true false other passes = absurd cc

module _ (p : Process) (process : IsProcess p) (inputs : Inputs) (machine : ProcessMachine) (machine_is : IsProcessMachine p inputs machine) where
  abbrev shown : Reread
  shown = run_of_machine machine

  abbrev machines : ℕ → ThreadMachine
  machines = machine.threads

  abbrev HasBegun : (number : ℕ) → Thread → (turn place : ℕ) → Type 0
  HasBegun number thread turn place = Begins inputs shown number thread.body turn place

  -- an act whose wire has not been 1 since its begin has not ended before
  not_ended : (number : ℕ) (thread : Thread) (turn place start port cycle : ℕ) (begun : HasBegun number thread turn place) → begun.begin ≡ start → OnPort (head begun.term) port
      → ((between : ℕ) → start ≤ between → between < cycle → answer inputs (head begun.term) between ≡ false) → (end : ℕ) (value : Value)
      → act_ends inputs (deciding machine.registers (machines number).decision) begun.scope begun.begin (head begun.term) ≡ Done end value → (end < cycle) ⊎ (cycle ≤ end) → cycle ≤ end
  not_ended number thread turn place start port cycle begun begins on quiet end value ends (inr after) = after
  not_ended number thread turn place start port cycle begun begins on quiet end value ends (inl before) =
      let answered = port_answered inputs (deciding machine.registers (machines number).decision) begun.scope begun.begin port (head begun.term) end value on ends in
      let not_answered = quiet end (omega (arith, answered.1)) before in
      let impossible : true ≡ false = sym answered.0 ∙ not_answered in cc

  offer_of : (port cycle : ℕ) → cycle < inputs.count → (number : ℕ) (thread : Thread) → (is_thread : IsThread p.threads number thread) → (place : ℕ) → place < size thread.body → act_offered (machines number) thread.body port place cycle ≡ true → Offers p inputs shown port cycle
  offer_of port cycle within number thread is_thread place below offered =
      let both = both_true (passes_at (is_on_port port) thread.body place) (offered_in (machines number) place cycle) offered in
      let there = fact_of (reflects_at (is_on_port port) (λ act. OnPort act port) (reflects_on_port port) [] thread.body place) both.0 in
      of_place there.0 there.1 there.2 there.3 there.4 both.1
    where
      of_place : (acts : List Act) (term : Term) → Stands [] thread.body acts term → site (head term) ≡ place → OnPort (head term) port → offered_in (machines number) place cycle ≡ true → Offers p inputs shown port cycle
      of_place acts term stands at_place on offered =
          let offer = fact_of (reflects_offered inputs machine.registers thread.body (numbered p process inputs machine machine_is number thread is_thread) (tails p process inputs machine machine_is number thread is_thread) (machines number)
          (of_thread p process inputs machine machine_is number thread is_thread) acts term port place cycle stands on at_place within) offered in
          let begun = begun_at p process inputs machine machine_is number thread is_thread offer.0 place offer.1 offer.3 in
          let same = same_term p process inputs machine machine_is number thread is_thread offer.0 place begun.0 acts term stands at_place in
          record {
            j = number;
            thread = thread;
            is = is_thread;
            turn = offer.0;
            site = place;
            act = begun.0;
            on = subst (λ term. OnPort (head term) port) same on;
            begun = let begins = begun.1 in omega (arith, offer.2);
            not_ended = λ end value ends. not_ended number thread offer.0 place offer.1 port cycle begun.0 begun.1 (subst (λ term. OnPort (head term) port) same on)
                (λ between above before. subst (λ term. answer inputs (head term) between ≡ false) same (offer.4 between above before)) end value ends (cases_lt end cycle);
          }

  offered_of : (port cycle : ℕ) → cycle < inputs.count → (number : ℕ) (thread : Thread) (is_thread : IsThread p.threads number thread) (turn place : ℕ) (begun : HasBegun number thread turn place) → OnPort (head begun.term) port → begun.begin ≤ cycle
      → ((end : ℕ) (value : Value) → act_ends inputs (deciding machine.registers (machines number).decision) begun.scope begun.begin (head begun.term) ≡ Done end value → cycle ≤ end) → SomeOffers machines port cycle 0 p.threads
  offered_of port cycle within number thread is_thread turn place begun on since pending =
      let there = place_of p process inputs machine machine_is number thread is_thread turn place begun in
      let offered = is_true (reflects_offered inputs machine.registers thread.body (numbered p process inputs machine machine_is number thread is_thread) (tails p process inputs machine machine_is number thread is_thread) (machines number)
      (of_thread p process inputs machine machine_is number thread is_thread) there.0 begun.term port place cycle there.1 on there.2 within) (
        turn,
        begun.begin,
        since,
        comes_then p process inputs machine machine_is number thread is_thread turn place begun,
        λ between above before. off (λ answered.
            let ends = port_ends_by inputs (deciding machine.registers (machines number).decision) begun.scope begun.begin port (head begun.term) between on above (omega arith) answered in
            let late = pending ends.0 ends.1 ends.3 in omega (arith, ends.2)),
      ) in
      let passes = is_true (reflects_at (is_on_port port) (λ act. OnPort act port) (reflects_on_port port) [] thread.body place) (there.0, begun.term, there.1, there.2, on) in
      let both : act_offered (machines number) thread.body port place cycle ≡ true = rw (passes, offered) refl in
      let from_zero : number ≡ 0 + number = omega arith in (
        number,
        thread,
        is_thread,
        subst (λ n. (place : ℕ) × (place < size thread.body) × (act_offered (machines n) thread.body port place cycle ≡ true)) from_zero
            (place, is_inside p process inputs machine machine_is number thread is_thread turn place begun, both),
      )

  pub offered_is : (port cycle : ℕ) → cycle < inputs.count → (is_offered machines 0 p.threads port cycle ≡ true → Offers p inputs shown port cycle) × (Offers p inputs shown port cycle → is_offered machines 0 p.threads port cycle ≡ true)
  offered_is port cycle within = ((λ bit. there (fact_of reflects bit)), (λ offers. is_true reflects (offered_of port cycle within offers.j offers.thread offers.is offers.turn offers.site offers.act offers.on offers.begun offers.not_ended)))
    where
      reflects : Reflects (SomeOffers machines port cycle 0 p.threads) (is_offered machines 0 p.threads port cycle)
      reflects = reflects_some_offers machines port cycle 0 p.threads

      there : SomeOffers machines port cycle 0 p.threads → Offers p inputs shown port cycle
      there some =
          let from_zero : 0 + some.0 ≡ some.0 = omega arith in
          let here = subst (λ n. (place : ℕ) × (place < size some.1.body) × (act_offered (machines n) some.1.body port place cycle ≡ true)) from_zero some.3 in
          offer_of port cycle within some.0 some.1 some.2 here.0 here.1 here.2

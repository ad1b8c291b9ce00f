-- The acts that begin, of a thread of a process: where they stand, and which bits of the machine say that they begin.
--
-- An act that begins stands at its place in the text, and all acts of a site are one. So a test of the text at a site and the pulse of
-- the site's begin together say that an act which passes the test begins.
use Rattle.std.proofs.Common.{◌≡◌, ℕ, ◌<◌, refl, sym, ◌∙◌, ap, subst, Bool, ◌&&◌, List, []}
use Rattle.core_term.specs.Inputs.{Inputs}
use Rattle.core_term.specs.Term.{Expr, Term, Act, site, head}
use Rattle.core_term.specs.Numbering.{size, Numbered}
use Rattle.core_term.specs.Ends.{Sees}
use Rattle.core_term.specs.Points.{Spot, Begin}
use Rattle.core_term.specs.Occurs.{Occurrence, At, begin_at}
use Rattle.core_term.specs.Tail.{IsTail}
use Rattle.core_term.specs.Stands.{Stands}
use Rattle.core_term.specs.Acts.{OnPort, Sends, Sets, Uses, ActOn, SetAt}
use Rattle.core_term.specs.Process.{Process, Thread, IsThread, IsProcess}
use Rattle.run_laws.specs.TurnLaws.{times}
use Rattle.core_term.specs.Reread.{Reread, Begins, again_at, deciding}
use Rattle.run_laws.proofs.turn_points.TurnRules.{obeys_rules}
use Rattle.run_laws.proofs.turn_points.Text.{one_term}
use Rattle.turn_pulses.proofs.Reflects.{Reflects, same_fact, reflects_and}
use Rattle.process_machine.specs.ActTests.{sets_register, sends_on, passes_at}
use Rattle.process_machine.specs.ThreadMachine.{ThreadMachine, begins_in, IsThreadMachine}
use Rattle.process_machine.specs.ProcessMachine.{ProcessMachine, set_begins, send_begins, IsProcessMachine}
use Rattle.process_machine.specs.Rereads.{run_of_machine}
use Rattle.process_machine.proofs.ActTests.{reflects_sets, reflects_sends, reflects_at, StandsAt}
use Rattle.process_machine.proofs.Threads.{reflects_begins, runs_of, inside, in_list}

module _ (p : Process) (process : IsProcess p) (inputs : Inputs) (machine : ProcessMachine) (machine_is : IsProcessMachine p inputs machine) where
  abbrev shown : Reread
  shown = run_of_machine machine

  abbrev machines : ℕ → ThreadMachine
  machines = machine.threads

  module _ (number : ℕ) (thread : Thread) (is_thread : IsThread p.threads number thread) where
    abbrev pub numbered : Numbered [] 0 thread.body
    numbered = process.numbered number thread is_thread

    abbrev pub tails : IsTail thread.body
    tails = process.takes_time number thread is_thread

    abbrev view : Sees
    view = deciding machine.registers (machines number).decision

    abbrev at : (turn : ℕ) → Spot → Occurrence
    at turn point = times inputs view thread.body turn point

    abbrev pub of_thread : IsThreadMachine inputs machine.registers thread.body (machines number)
    of_thread = machine_is.threads_are number thread is_thread

    abbrev HasBegun : (turn place : ℕ) → Type 0
    HasBegun turn place = Begins inputs shown number thread.body turn place

    pub place_of : (turn place : ℕ) (begun : HasBegun turn place) → (acts : List Act) × Stands [] thread.body acts begun.term × (site (head begun.term) ≡ place)
    place_of turn place begun = (obeys_rules inputs view thread.body numbered turn).stands place begun.scope begun.begin begun.term begun.runs

    pub same_term : (turn place : ℕ) (begun : HasBegun turn place) (acts : List Act) (term : Term) → Stands [] thread.body acts term → site (head term) ≡ place → term ≡ begun.term
    same_term turn place begun acts term stands at_place = let there = place_of turn place begun in one_term stands there.1 0 numbered (at_place ∙ sym there.2)

    pub is_inside : (turn place : ℕ) (begun : HasBegun turn place) → place < size thread.body
    is_inside turn place begun = inside inputs machine.registers thread.body numbered tails (machines number) of_thread turn place begun.scope begun.begin begun.term begun.runs

    pub is_within : (turn place : ℕ) (begun : HasBegun turn place) → begun.begin < inputs.count
    is_within turn place begun = in_list inputs machine.registers thread.body numbered tails (machines number) of_thread turn place begun.scope begun.begin begun.term begun.runs

    pub comes_then : (turn place : ℕ) (begun : HasBegun turn place) → at turn (Begin place) ≡ At begun.begin
    comes_then turn place begun = ap begin_at begun.runs

    pub begun_at : (turn place cycle : ℕ) → at turn (Begin place) ≡ At cycle → (begun : HasBegun turn place) × (begun.begin ≡ cycle)
    begun_at turn place cycle comes =
        let runs = runs_of inputs machine.registers thread.body numbered tails (machines number) of_thread turn cycle place comes in (record { scope = runs.0; begin = cycle; term = runs.1; runs = runs.2 }, refl)

    -- of the acts that pass a test that of the site begins in the cycle
    module _ (test : Act → Bool) (Passes : Act → Type 0) (reflects : (act : Act) → Reflects (Passes act) (test act)) where
      abbrev pub BeginsAt : (place cycle : ℕ) → Type 0
      BeginsAt place cycle = (turn : ℕ) × (begun : HasBegun turn place) × (begun.begin ≡ cycle) × Passes (head begun.term)

      reflects_passing : (place cycle : ℕ) → place < size thread.body → cycle < inputs.count → Reflects (BeginsAt place cycle) (passes_at test thread.body place && begins_in (machines number) place cycle)
      reflects_passing place cycle below within =
          same_fact there back (reflects_and (reflects_at test Passes reflects [] thread.body place) (reflects_begins inputs machine.registers thread.body numbered tails (machines number) of_thread place cycle below within))
        where
          there : StandsAt test Passes reflects [] thread.body place × ((turn : ℕ) × (at turn (Begin place) ≡ At cycle)) → BeginsAt place cycle
          there both =
              let text = both.0 in
              let begun = begun_at both.1.0 place cycle both.1.1 in
              let same = same_term both.1.0 place begun.0 text.0 text.1 text.2 text.3 in
              (both.1.0, begun.0, begun.1, subst (λ term. Passes (head term)) same text.4)

          back : BeginsAt place cycle → StandsAt test Passes reflects [] thread.body place × ((turn : ℕ) × (at turn (Begin place) ≡ At cycle))
          back begins =
              let there = place_of begins.0 place begins.1 in
              ((there.0, (begins.1).term, there.1, there.2, begins.3), (begins.0, comes_then begins.0 place begins.1 ∙ ap At begins.2))

    pub reflects_set : (register place cycle : ℕ) → place < size thread.body → cycle < inputs.count
        → Reflects (BeginsAt (sets_register register) (λ act. Sets act register) (reflects_sets register) place cycle) (set_begins (machines number) thread.body register place cycle)
    reflects_set register place cycle below within = reflects_passing (sets_register register) (λ act. Sets act register) (reflects_sets register) place cycle below within

    pub reflects_send : (port place cycle : ℕ) → place < size thread.body → cycle < inputs.count
        → Reflects (BeginsAt (sends_on port) (λ act. Sends act port) (reflects_sends port) place cycle) (send_begins (machines number) thread.body port place cycle)
    reflects_send port place cycle below within = reflects_passing (sends_on port) (λ act. Sends act port) (reflects_sends port) place cycle below within

    -- where such an act stands
    pub set_at : (turn place register : ℕ) (begun : HasBegun turn place) → Sets (head begun.term) register → SetAt thread.body place register
    set_at turn place register begun sets = let there = place_of turn place begun in (there.0, begun.term, there.1, there.2, sets)

    pub act_on : (turn place port : ℕ) (begun : HasBegun turn place) → OnPort (head begun.term) port → ActOn thread.body place port
    act_on turn place port begun on = let there = place_of turn place begun in (there.0, begun.term, there.1, there.2, on)

    -- the value of such an act, read again
    pub value_is : (turn place cycle : ℕ) (begun : HasBegun turn place) (acts : List Act) (used : Expr) → Stands [] thread.body acts begun.term → Uses (head begun.term) used → cycle < inputs.count
        → (machines number).value place cycle ≡ again_at inputs shown number cycle acts used
    value_is turn place cycle begun acts used stands uses within =
        let there = place_of turn place begun in
        let is = of_thread.reads.values acts begun.term used stands uses cycle within in
        rw (there.2) at is

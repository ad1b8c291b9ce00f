-- The data of a sent port are those of the re-reading run.
--
-- One thread alone is on an endpoint, so what comes through all threads is what that thread sends: the value, read again, of the one
-- of its `send`s on the port that began last. Where none has begun by the cycle, every thread leaves 0.
use Rattle.std.proofs.Common.{◌≡◌, ℕ, ◌+◌, ◌<◌, ◌≤◌, ◌⊎◌, inl, inr, arith, refl, ◌∙◌, subst, false, List, []}
use Rattle.core_term.specs.Inputs.{Inputs}
use Rattle.core_term.specs.Term.{Expr, Act, head}
use Rattle.core_term.specs.Numbering.{size}
use Rattle.core_term.specs.Stands.{Stands}
use Rattle.core_term.specs.Acts.{Sends, Uses}
use Rattle.core_term.specs.Process.{Process, Thread, IsThread, is_received, IsProcess}
use Rattle.core_term.specs.Reread.{Reread, Begins, again_at}
use Rattle.turn_pulses.specs.Latest.{BeganLast}
use Rattle.turn_pulses.proofs.Reflects.{is_true, is_false, fact_of}
use Rattle.turn_pulses.proofs.Newest.{value_is as newest_value, other_is as none_newest}
use Rattle.process_machine.specs.ThreadMachine.{ThreadMachine}
use Rattle.process_machine.specs.ProcessMachine.{ProcessMachine, send_begins, IsProcessMachine}
use Rattle.process_machine.specs.Rereads.{run_of_machine}
use Rattle.process_machine.proofs.PortEnds.{on_its_port}
use Rattle.process_machine.proofs.Begun.{place_of, is_inside, reflects_send, act_on, value_is}
use Rattle.process_machine.proofs.AllThreads.{sends, one_sends, none_sends}

module _ (p : Process) (process : IsProcess p) (inputs : Inputs) (machine : ProcessMachine) (machine_is : IsProcessMachine p inputs machine) where
  abbrev shown : Reread
  shown = run_of_machine machine

  abbrev machines : ℕ → ThreadMachine
  machines = machine.threads

  abbrev HasBegun : (number : ℕ) → Thread → (turn place : ℕ) → Type 0
  HasBegun number thread turn place = Begins inputs shown number thread.body turn place

  -- a thread of which no `send` on the port has begun by the cycle
  sends_nothing : (number : ℕ) (thread : Thread) → IsThread p.threads number thread → (port cycle : ℕ) → cycle < inputs.count → is_received p port ≡ false
      → ((turn place : ℕ) (begun : HasBegun number thread turn place) → Sends (head begun.term) port → begun.begin ≤ cycle → ⊥) → (other : ℕ) → sends machines machine.newest port cycle number thread other ≡ other
  sends_nothing number thread is_thread port cycle within sent none other =
      none_newest (size thread.body) (send_begins (machines number) thread.body port) (machine.newest number port) (machine.newest_kept number port) (machine_is.newest_is number thread port is_thread sent) (λ place. (machines number).value place cycle) other cycle
      (λ place below is_last.
      let last : BeganLast (size thread.body) (send_begins (machines number) thread.body port) place is_last.0 cycle = is_last.1 in
      let by = last.by in
      let begins = fact_of (reflects_send p process inputs machine machine_is number thread is_thread port place is_last.0 below (omega arith)) last.begins in
      none begins.0 place begins.1 begins.3 (let then = begins.2 in omega arith))

  pub data_is : (port cycle : ℕ) → cycle < inputs.count → (number : ℕ) (thread : Thread) → IsThread p.threads number thread → (turn place : ℕ) (begun : HasBegun number thread turn place) (acts : List Act) → Stands [] thread.body acts begun.term
      → (used : Expr) → Sends (head begun.term) port → Uses (head begun.term) used → begun.begin ≤ cycle
      → ((other_turn other : ℕ) (also : HasBegun number thread other_turn other) → Sends (head also.term) port → also.begin ≤ cycle → (also.begin < begun.begin) ⊎ ((also.begin ≡ begun.begin) × (place ≤ other)))
      → machine.wires.data_at port cycle ≡ again_at inputs shown number cycle acts used
  data_is port cycle within number thread is_thread turn place begun acts stands used is_send uses by last =
      machine_is.data_out port cycle within sent ∙ one_sends machines machine.newest port cycle 0 p.threads number thread is_thread (again_at inputs shown number cycle acts used) here others
    where
      sent : is_received p port ≡ false
      sent = let there = place_of p process inputs machine machine_is number thread is_thread turn place begun in process.sends number thread place port is_thread (there.0, begun.term, there.1, there.2, is_send)

      below : place < size thread.body
      below = is_inside p process inputs machine machine_is number thread is_thread turn place begun

      from_zero : (n : ℕ) → n ≡ 0 + n
      from_zero n = omega arith

      began_last : BeganLast (size thread.body) (send_begins (machines number) thread.body port) place begun.begin cycle
      began_last = record {
        by = by;
        begins = is_true (reflects_send p process inputs machine machine_is number thread is_thread port place begun.begin below (omega arith)) (turn, begun, refl, is_send);
        since = λ other later inside after upto. is_false (reflects_send p process inputs machine machine_is number thread is_thread port other later inside (omega arith)) (λ begins. not_later begins.0 other later begins.1 begins.2 begins.3 after upto);
        first = λ other before. is_false (reflects_send p process inputs machine machine_is number thread is_thread port other begun.begin (omega (arith, below)) (omega arith)) (λ begins. not_earlier begins.0 other begins.1 begins.2 begins.3 before);
      }
        where
          not_later : (other_turn other later : ℕ) (also : HasBegun number thread other_turn other) → also.begin ≡ later → Sends (head also.term) port → begun.begin < later → later ≤ cycle → ⊥
          not_later other_turn other later also then also_sends after upto = by_order (last other_turn other also also_sends (omega arith))
            where
              by_order : (also.begin < begun.begin) ⊎ ((also.begin ≡ begun.begin) × (place ≤ other)) → ⊥
              by_order (inl before) = omega arith
              by_order (inr together) = omega (arith, together.0)

          not_earlier : (other_turn other : ℕ) (also : HasBegun number thread other_turn other) → also.begin ≡ begun.begin → Sends (head also.term) port → other < place → ⊥
          not_earlier other_turn other also then also_sends before = by_order (last other_turn other also also_sends (omega arith))
            where
              by_order : (also.begin < begun.begin) ⊎ ((also.begin ≡ begun.begin) × (place ≤ other)) → ⊥
              by_order (inl sooner) = omega arith
              by_order (inr together) = omega (arith, together.1)

      thread_sends : (other : ℕ) → sends machines machine.newest port cycle number thread other ≡ again_at inputs shown number cycle acts used
      thread_sends other =
          newest_value (size thread.body) (send_begins (machines number) thread.body port) (machine.newest number port) (machine.newest_kept number port) (machine_is.newest_is number thread port is_thread sent) (λ place. (machines number).value place cycle) other cycle
          place below (begun.begin, began_last)
          ∙ value_is p process inputs machine machine_is number thread is_thread turn place cycle begun acts used stands uses within

      here : (other : ℕ) → sends machines machine.newest port cycle (0 + number) thread other ≡ again_at inputs shown number cycle acts used
      here other = subst (λ n. sends machines machine.newest port cycle n thread other ≡ again_at inputs shown number cycle acts used) (from_zero number) (thread_sends other)

      others : (earlier : ℕ) (other : Thread) → IsThread p.threads earlier other → earlier < number → (rest : ℕ) → sends machines machine.newest port cycle (0 + earlier) other rest ≡ rest
      others earlier other is_other before rest =
          subst (λ n. sends machines machine.newest port cycle n other rest ≡ rest) (from_zero earlier)
          (sends_nothing earlier other is_other port cycle within sent
          (λ other_turn other_place also also_sends upto.
          let one : number ≡ earlier = process.one_talker number earlier thread other place other_place port port is_thread is_other
          (act_on p process inputs machine machine_is number thread is_thread turn place port begun (on_its_port _ port is_send))
          (act_on p process inputs machine machine_is earlier other is_other other_turn other_place port also (on_its_port _ port also_sends)) refl in
          omega arith) rest)

  pub no_data : (port cycle : ℕ) → cycle < inputs.count → is_received p port ≡ false
      → ((number : ℕ) (thread : Thread) → IsThread p.threads number thread → (turn place : ℕ) (begun : HasBegun number thread turn place) → Sends (head begun.term) port → begun.begin ≤ cycle → ⊥) → machine.wires.data_at port cycle ≡ 0
  no_data port cycle within sent none =
      machine_is.data_out port cycle within sent
      ∙ none_sends machines machine.newest port cycle 0 p.threads
      (λ number other is_other rest. let from_zero : number ≡ 0 + number = omega arith in
      subst (λ n. sends machines machine.newest port cycle n other rest ≡ rest) from_zero (sends_nothing number other is_other port cycle within sent (λ turn place begun. none number other is_other turn place begun) rest))

-- The registers of the source are those of the re-reading run.
--
-- One thread alone sets a register, so what comes through all threads is what that thread writes: the value of the last of its
-- `set`s that begin in the cycle. Where no `set` of the register begins, every thread leaves what is shown.
use Rattle.std.proofs.Common.{◌≡◌, ℕ, ◌+◌, ◌<◌, ◌≤◌, arith, refl, ◌∙◌, subst, List, []}
use Rattle.core_term.specs.Inputs.{Inputs}
use Rattle.core_term.specs.Term.{Expr, Act, head}
use Rattle.core_term.specs.Numbering.{size}
use Rattle.core_term.specs.Stands.{Stands}
use Rattle.core_term.specs.Acts.{Sets, Uses}
use Rattle.core_term.specs.Process.{Process, Thread, IsThread, IsProcess}
use Rattle.core_term.specs.Reread.{Reread, Begins, again_at}
use Rattle.turn_pulses.proofs.Reflects.{is_true, is_false}
use Rattle.turn_pulses.proofs.Latest.{written as last_is, unwritten as none_is}
use Rattle.process_machine.specs.ThreadMachine.{ThreadMachine}
use Rattle.process_machine.specs.ProcessMachine.{ProcessMachine, set_begins, IsProcessMachine}
use Rattle.process_machine.specs.Rereads.{run_of_machine}
use Rattle.process_machine.proofs.Begun.{is_inside, is_within, reflects_set, set_at, value_is}
use Rattle.process_machine.proofs.AllThreads.{writes, one_writes, none_writes}

module _ (p : Process) (process : IsProcess p) (inputs : Inputs) (machine : ProcessMachine) (machine_is : IsProcessMachine p inputs machine) where
  abbrev shown : Reread
  shown = run_of_machine machine

  abbrev machines : ℕ → ThreadMachine
  machines = machine.threads

  abbrev HasBegun : (number : ℕ) → Thread → (turn place : ℕ) → Type 0
  HasBegun number thread turn place = Begins inputs shown number thread.body turn place

  -- a thread of which no `set` of the register begins in the cycle
  writes_nothing : (number : ℕ) (thread : Thread) → IsThread p.threads number thread → (register cycle : ℕ) → cycle < inputs.count
      → ((turn place : ℕ) (begun : HasBegun number thread turn place) → Sets (head begun.term) register → begun.begin ≡ cycle → ⊥) → (before : ℕ) → writes machines register cycle number thread before ≡ before
  writes_nothing number thread is_thread register cycle within none before =
      none_is (λ place. set_begins (machines number) thread.body register place cycle) (λ place. (machines number).value place cycle) before (size thread.body)
      (λ place below. is_false (reflects_set p process inputs machine machine_is number thread is_thread register place cycle below within) (λ begins. none begins.0 place begins.1 begins.3 begins.2))

  pub written_is : (number : ℕ) (thread : Thread) → IsThread p.threads number thread → (turn place : ℕ) (begun : HasBegun number thread turn place) (acts : List Act) → Stands [] thread.body acts begun.term
      → (register : ℕ) (used : Expr) → Sets (head begun.term) register → Uses (head begun.term) used
      → ((other_turn other : ℕ) (also : HasBegun number thread other_turn other) → Sets (head also.term) register → also.begin ≡ begun.begin → other ≤ place)
      → machine.registers (begun.begin + 1) register ≡ again_at inputs shown number begun.begin acts used
  written_is number thread is_thread turn place begun acts stands register used sets uses greatest =
      machine_is.next begun.begin register within
      ∙ one_writes machines register begun.begin 0 p.threads (machine.registers begun.begin register) number thread is_thread (again_at inputs shown number begun.begin acts used) here others
    where
      within : begun.begin < inputs.count
      within = is_within p process inputs machine machine_is number thread is_thread turn place begun

      below : place < size thread.body
      below = is_inside p process inputs machine machine_is number thread is_thread turn place begun

      from_zero : (n : ℕ) → n ≡ 0 + n
      from_zero n = omega arith

      thread_writes : (before : ℕ) → writes machines register begun.begin number thread before ≡ again_at inputs shown number begun.begin acts used
      thread_writes before =
          last_is (λ place. set_begins (machines number) thread.body register place begun.begin) (λ place. (machines number).value place begun.begin) before (size thread.body) place below
          (is_true (reflects_set p process inputs machine machine_is number thread is_thread register place begun.begin below within) (turn, begun, refl, sets))
          (λ later after inside. is_false (reflects_set p process inputs machine machine_is number thread is_thread register later begun.begin inside within) (λ begins. let order = greatest begins.0 later begins.1 begins.3 begins.2 in omega arith))
          ∙ value_is p process inputs machine machine_is number thread is_thread turn place begun.begin begun acts used stands uses within

      here : (before : ℕ) → writes machines register begun.begin (0 + number) thread before ≡ again_at inputs shown number begun.begin acts used
      here before = subst (λ n. writes machines register begun.begin n thread before ≡ again_at inputs shown number begun.begin acts used) (from_zero number) (thread_writes before)

      others : (later : ℕ) (other : Thread) → IsThread p.threads later other → number < later → (before : ℕ) → writes machines register begun.begin (0 + later) other before ≡ before
      others later other is_other after before =
          subst (λ n. writes machines register begun.begin n other before ≡ before) (from_zero later)
          (writes_nothing later other is_other register begun.begin within
          (λ other_turn other_place also also_sets then.
          let one : number ≡ later = process.one_setter number later thread other place other_place register is_thread is_other (set_at p process inputs machine machine_is number thread is_thread turn place register begun sets)
          (set_at p process inputs machine machine_is later other is_other other_turn other_place register also also_sets) in
          omega arith) before)

  pub unwritten_is : (cycle register : ℕ) → cycle < inputs.count
      → ((number : ℕ) (thread : Thread) → IsThread p.threads number thread → (turn place : ℕ) (begun : HasBegun number thread turn place) → Sets (head begun.term) register → begun.begin ≡ cycle → ⊥)
      → machine.registers (cycle + 1) register ≡ machine.registers cycle register
  unwritten_is cycle register within none =
      machine_is.next cycle register within
      ∙ none_writes machines register cycle 0 p.threads (machine.registers cycle register)
      (λ number other is_other before. let from_zero : number ≡ 0 + number = omega arith in
      subst (λ n. writes machines register cycle n other before ≡ before) from_zero (writes_nothing number other is_other register cycle within (λ turn place begun. none number other is_other turn place begun) before))

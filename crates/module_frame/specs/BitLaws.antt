-- Laws of the bits of a frame: what a plan tells of them is what the machine of its thread keeps, and so all of them
-- together are within the bound by the constructs of the text.
use Rattle.std.specs.Prelude.{ℕ, ◌≡◌, ◌+◌, ◌-◌, ◌^◌, ◌<◌, ◌≤◌, nat_lt, List, [], length, slice_get, Some}
use Rattle.core_term.specs.Term.{Term}
use Rattle.core_term.specs.Numbering.{Numbered}
use Rattle.core_term.specs.Process.{Thread, Process, IsThread}
use Rattle.event_graph.specs.Forms.{form_at}
use Rattle.event_points.specs.Nodes.{once}
use Rattle.process_machine.specs.StateBits.{registers_bits, thread_bits, process_bound}
use Rattle.machine_parts.specs.declared.plan.TurnPlan.{TurnPlan}
use Rattle.machine_parts.specs.Digits.{digits}
use Rattle.machine_parts.specs.Plans.{IsTurnPlan}
use Rattle.module_frame.specs.Bits.{plan_bits, plans_bits}

-- the plan is of one turn of a numbered body
pub record IsPlanOf (body : Term) (plan : TurnPlan) : Type 0 where
  pub numbered : Numbered [] 0 body
  pub turn : IsTurnPlan body plan

-- those of the threads, by their numbers
pub record ArePlansOf (threads : List Thread) (plans : List TurnPlan) : Type 0 where
  pub count : length plans ≡ length threads
  pub each : (number : ℕ) (thread : Thread) (plan : TurnPlan) → IsThread threads number thread
      → slice_get plans number ≡ Some plan → IsPlanOf thread.body plan

-- What a plan tells is what the machine of the thread keeps, with registers for all nodes of the turn.
abbrev pub PlanBitsAreThreadBits : Type 0
PlanBitsAreThreadBits =
    (body : Term) (plan : TurnPlan) → IsPlanOf body plan
    → plan_bits plan
    ≡ thread_bits digits body (form_at (once body)) (λ node. nat_lt node (length (once body))) (length (once body))

-- The bits of the registers of a process and of its states are within the bound.
abbrev pub PlanBitsAreBounded : Type 0
PlanBitsAreBounded =
    (p : Process) (plans : List TurnPlan) → ArePlansOf p.threads plans
    → registers_bits p.registers + plans_bits plans ≤ process_bound digits p

-- A number is below 2 to its digits, and not below 2 to one less.
pub record DigitsAreCounted : Type 0 where
  pub some : (number : ℕ) → 1 ≤ digits number
  pub enough : (number : ℕ) → number < 2 ^ digits number
  pub needed : (number : ℕ) → 1 ≤ number → 2 ^ (digits number - 1) ≤ number
  pub few : (number most : ℕ) → 1 ≤ most → number < 2 ^ most → digits number ≤ most
  pub of_one : digits 1 ≡ 1

-- What a plan tells of its bits is what the machine of its thread keeps; so all bits are within the bound.
--
-- The bits of the nodes are summed upwards here and downwards there.
use Rattle.std.proofs.Common.{◌≡◌, ℕ, ◌+◌, ◌<◌, ◌≤◌, arith, refl, ap, true, List, [], ◌∷◌, length, nat_lt, zero, suc}
use Rattle.std.proofs.lemmas.Bool.{lt-ltb}
use Rattle.std.proofs.lemmas.Bool.Decides.{nat_tests}
use Rattle.order_rules.specs.Form.{Form}
use Rattle.core_term.specs.Term.{Term}
use Rattle.core_term.specs.Process.{Thread, Process}
use Rattle.event_graph.specs.Forms.{form_at}
use Rattle.event_points.specs.Nodes.{once}
use Rattle.process_machine.specs.StateBits.{node_bits, nodes_bits, thread_bits, body_bound, threads_bound, process_bound, registers_bits, ThreadNodes, KeepsLive}
use Rattle.process_machine.proofs.StateBits.{thread_within}
use Rattle.machine_parts.specs.declared.plan.NodePlan.{NodePlan}
use Rattle.machine_parts.specs.declared.plan.TurnPlan.{TurnPlan}
use Rattle.machine_parts.specs.Digits.{digits}
use Rattle.machine_parts.specs.Parts.{form_in}
use Rattle.machine_parts.specs.Plans.{node_of}
use Rattle.module_frame.specs.Bits.{node_plans_bits, plan_bits, plans_bits}
use Rattle.module_frame.specs.BitLaws.{IsPlanOf, ArePlansOf}
use Rattle.module_frame.proofs.DeedBits.{deeds_cost}

-- the bits of all nodes below a count, downwards
abbrev down : (form : ℕ → Form ℕ) → (count : ℕ) → ℕ
down form zero = 0
down form (suc node) = node_bits digits (form node) + down form node

down_same : (form other : ℕ → Form ℕ) (count : ℕ) → ((node : ℕ) → node < count → form node ≡ other node) → down form count ≡ down other count
down_same form other zero same = refl
down_same form other (suc count) same =
    let here = ap (node_bits digits) (same count (omega arith)) in
    let rest = down_same form other count (λ node below. same node (omega (arith, below))) in
    omega (arith, here, rest)

down_first : (form : ℕ → Form ℕ) (count : ℕ) → down form (suc count) ≡ node_bits digits (form 0) + down (λ node. form (suc node)) count
down_first form zero = refl
down_first form (suc count) = let rest = down_first form count in omega (arith, rest)

nodes_down : (plans : List NodePlan) → node_plans_bits plans ≡ down (form_in plans) (length plans)
nodes_down [] = refl
nodes_down (plan ∷ rest) =
    let first = down_first (form_in (plan ∷ rest)) (length rest) in
    let others = nodes_down rest in
    let same = down_same (form_in rest) (λ node. form_in (plan ∷ rest) (suc node)) (length rest) (λ node below. refl) in
    omega (arith, first, others, same)

all_kept : (form : ℕ → Form ℕ) (all count : ℕ) → count ≤ all → nodes_bits digits form (λ node. nat_lt node all) count ≡ down form count
all_kept form all zero within = refl
all_kept form all (suc node) within =
    let test : nat_lt node all ≡ true = lt-ltb node all (omega (arith, within)) in
    let rest = all_kept form all node (omega (arith, within)) in
    rw test (omega (arith, rest))

pub told_bits : (body : Term) (plan : TurnPlan) → IsPlanOf body plan
    → plan_bits plan ≡ thread_bits digits body (form_at (once body)) (λ node. nat_lt node (length (once body))) (length (once body))
told_bits body plan is =
    let turn = is.turn in
    let count = turn.count in
    let up = nodes_down plan.nodes.items in
    let same = down_same (form_in plan.nodes.items) (form_at (once body)) (length plan.nodes.items) turn.forms in
    let counted = ap (down (form_at (once body))) count in
    let kept = all_kept (form_at (once body)) (length (once body)) (length (once body)) (omega arith) in
    let deeds = deeds_cost body plan.deeds.items is.numbered turn.deeds in
    omega (arith, up, same, counted, kept, deeds)

plan_within : (body : Term) (plan : TurnPlan) → IsPlanOf body plan → plan_bits plan ≤ 1 + body_bound digits body
plan_within body plan is =
    let nodes : ThreadNodes = record { form = form_at (once body); node_of = node_of body; kept = λ node. nat_lt node (length (once body)); count = length (once body) } in
    let live : KeepsLive body nodes = λ node kept. is.turn.live node (inside node kept) in
    let told = told_bits body plan is in
    let within = thread_within digits refl body nodes live in
    omega (arith, told, within)
  where
    inside : (node : ℕ) → nat_lt node (length (once body)) ≡ true → node < length plan.nodes.items
    inside node kept =
        let below : node < length (once body) = grind (arith, nat_tests) in
        let count = is.turn.count in
        omega (arith, below, count)

plans_within : (threads : List Thread) (plans : List TurnPlan) → ArePlansOf threads plans → plans_bits plans ≤ threads_bound digits threads
plans_within [] [] are = omega arith
plans_within [] (plan ∷ plans) are = absurd (let count = are.count in omega (arith, count))
plans_within (thread ∷ threads) [] are = absurd (let count = are.count in omega (arith, count))
plans_within (thread ∷ threads) (plan ∷ plans) are =
    let count = are.count in
    let here = plan_within thread.body plan (are.each 0 thread plan refl refl) in
    let rest = plans_within threads plans record { count = omega (arith, count); each = λ number other found is_thread is_plan. are.each (suc number) other found is_thread is_plan } in
    omega (arith, here, rest)

pub bounded : (p : Process) (plans : List TurnPlan) → ArePlansOf p.threads plans → registers_bits p.registers + plans_bits plans ≤ process_bound digits p
bounded p plans are = let within = plans_within p.threads plans are in omega (arith, within)

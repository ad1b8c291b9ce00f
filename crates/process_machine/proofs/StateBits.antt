-- The state bits of a process are within its bound.
--
-- The bits that the points of a body may cost, with those of its acts, go by the constructs of the body: by induction over terms. The
-- nodes of a thread cost no more than the points (`NodeBits`). Over the threads the sums go side by side.
use Rattle.std.proofs.Common.{◌≡◌, ℕ, ◌+◌, ◌≤◌, arith, refl, sym, subst, List, [], ◌∷◌, ◌++◌, suc}
use Rattle.core_term.specs.Term.{Term, One, Then, Both, Act, Cycle, Set, Send, Recv, If, When, Block, Wait, Pure, Nothing}
use Rattle.core_term.specs.Points.{Formed, forms, act_forms}
use Rattle.core_term.specs.Process.{Thread, IsThread}
use Rattle.turn_machine.specs.OneTurn.{turn_points}
use Rattle.process_machine.specs.StateBits.{acts_bits, act_bits, body_bound, act_bound, thread_bits, threads_bits, threads_bound, ThreadNodes, KeepsLive}
use Rattle.process_machine.proofs.NodeBits.{points_bits, drawn_within, kept_within}
use Rattle.process_machine.proofs.AllThreads.{from_next, at_first}

module _ (digits : ℕ → ℕ) (one_digit : digits 1 ≡ 1) where
  points_append : (these those : List Formed) → points_bits digits (these ++ those) ≡ points_bits digits these + points_bits digits those
  points_append [] those = omega arith
  points_append (formed ∷ these) those = let rest = points_append these those in omega (arith, rest)

  -- the points and the acts of a body
  mutual
    body_within : (term : Term) → points_bits digits (forms term) + acts_bits term ≤ body_bound digits term
    body_within (One act) = let here = act_within act in omega (arith, here)
    body_within (Then act rest) = let here = act_within act in let there = body_within rest in let both = points_append (act_forms act) (forms rest) in omega (arith, here, there, both)
    body_within (Both act rest) = let here = act_within act in let there = body_within rest in let both = points_append (act_forms act) (forms rest) in omega (arith, here, there, both)

    act_within : (act : Act) → points_bits digits (act_forms act) + act_bits act ≤ act_bound digits act
    act_within (Cycle p count) = omega arith
    act_within (Set p register value) = omega (arith, one_digit)
    act_within (Send p port value) = omega arith
    act_within (Recv p port) = omega arith
    act_within (If p condition first second valued) = let one = body_within first in let other = body_within second in let both = points_append (forms first) (forms second) in omega (arith, one, other, both)
    act_within (When p condition first) = let inner = body_within first in omega (arith, inner)
    act_within (Block p whole) = let inner = body_within whole in omega (arith, inner)
    act_within (Wait p variable) = omega arith
    act_within (Pure p value) = omega arith
    act_within (Nothing p) = omega arith

  pub thread_within : (body : Term) (nodes : ThreadNodes) → KeepsLive body nodes → thread_bits digits body nodes.form nodes.kept nodes.count ≤ 1 + body_bound digits body
  thread_within body nodes live =
      let kept = kept_within digits nodes.form nodes.node_of (turn_points body) nodes.kept live nodes.count in
      let drawn = drawn_within digits nodes.form nodes.node_of (turn_points body) nodes.count in
      let text = body_within body in
      omega (arith, kept, drawn, text)

  pub threads_within : (nodes : ℕ → ThreadNodes) (first : ℕ) (threads : List Thread) → ((number : ℕ) (thread : Thread) → IsThread threads number thread → KeepsLive thread.body (nodes (first + number)))
      → threads_bits digits nodes first threads ≤ threads_bound digits threads
  threads_within nodes first [] live = omega arith
  threads_within nodes first (thread ∷ rest) live =
      let live_here : KeepsLive thread.body (nodes first) = subst (λ n. KeepsLive thread.body (nodes n)) (at_first first) (live 0 thread refl) in
      let here = thread_within thread.body (nodes first) live_here in
      let others = threads_within nodes (suc first) rest (λ number other is_thread. subst (λ n. KeepsLive other.body (nodes n)) (sym (from_next first number)) (live (suc number) other is_thread)) in
      omega (arith, here, others)

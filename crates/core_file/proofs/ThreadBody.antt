-- A thread of the tree in which no check fails, within the limits and with places that never fall: what `CoreThread`
-- asks of its body.
use Rattle.std.proofs.Common.{◌≡◌, ◌∙◌, ℕ, ◌≤◌, arith, refl, sym, ap, subst, List, [], ◌∷◌, length, inl, inr}
use Rattle.std.proofs.lemmas.List.{length-append}
use Rattle.anvil_tree.specs.Tree as tree
use Rattle.anvil_tree.specs.Tree.{single, follow, beside, cycle, set, send, receive, when, either, block, pure}
use Rattle.anvil_tree.specs.Few.{most_acts as most_tree_acts, act_count, act_count_in}
use Rattle.anvil_tree.specs.Order.{NeverFall, acts_of_term, acts_of_act}
use Rattle.core_term.specs.declared.term.CoreTerm.{CoreTerm}
use Rattle.core_term.specs.Lists.{Has}
use Rattle.core_term.specs.Numbering.{Numbered}
use Rattle.core_term.specs.Tail.{IsTail, CyclesTakeTime}
use Rattle.core_term.specs.Widths.{Widths}
use Rattle.core_term.specs.View.{term_of, places_of}
use Rattle.core_term.specs.Body.{NeverFalls, IsBody}
use Rattle.core_file.specs.Scope.{Scope}
use Rattle.core_file.specs.CoreTerm.{core_term}
use Rattle.core_file.specs.TermChecks.{Taken}
use Rattle.core_file.proofs.Held.{TermHeld, TailHeld}
use Rattle.core_file.proofs.NumberedBodies.{Covers, nothing_covered, numbered}
use Rattle.core_file.proofs.TailBodies.{tailed, cycles_take_time}
use Rattle.core_file.proofs.AnyWidths.{numbered_any, tail_any, cycles_any}

-- Places.

falls_below : (place : ℕ) (places : List ℕ) (later : ℕ) → NeverFall (place ∷ places) → Has places later → place ≤ later
falls_below place [] later order has = elim has [ ]
falls_below place (next ∷ places) later order (inl here) = let step = order.0 in omega arith
falls_below place (next ∷ places) later order (inr has) =
    let step = order.0 in
    let behind = falls_below next places later order.1 has in
    omega arith

rest_in_order : (place : ℕ) (places : List ℕ) → NeverFall (place ∷ places) → NeverFall places
rest_in_order place [] order = tt
rest_in_order place (next ∷ places) order = order.1

pub never_falls : (places : List ℕ) → NeverFall places → NeverFalls places
never_falls [] order = tt
never_falls (place ∷ places) order = (
  λ later has. falls_below place places later order has,
  never_falls places (rest_in_order place places order),
)

mutual
  pub acts_counted : (term : tree.Term) → length (acts_of_term term) ≡ act_count term
  acts_counted (single act) = acts_counted_in act
  acts_counted (follow bound act rest) = length-append (acts_of_act act) (acts_of_term rest)
      ∙ rw (acts_counted_in act, acts_counted rest) refl
  acts_counted (beside bound act rest) = length-append (acts_of_act act) (acts_of_term rest)
      ∙ rw (acts_counted_in act, acts_counted rest) refl

  acts_counted_in : (act : tree.Act) → length (acts_of_act act) ≡ act_count_in act
  acts_counted_in (cycle at count count_at) = refl
  acts_counted_in (set at register register_at value) = refl
  acts_counted_in (send at endpoint endpoint_at message message_at value) = refl
  acts_counted_in (receive at endpoint endpoint_at message message_at) = refl
  acts_counted_in (when at condition first) = let inner = acts_counted first in omega arith
  acts_counted_in (either at condition first second) =
      let both = length-append (acts_of_term first) (acts_of_term second) in
      let one = acts_counted first in
      let other = acts_counted second in
      omega arith
  acts_counted_in (block at body) = let inner = acts_counted body in omega arith
  acts_counted_in (pure at expr) = refl

-- The body of the code stands for the core term of the thread, and has its places.
pub is_body : (scope : Scope) (taken : Taken) (thread : tree.Term) (widths : Widths) (body : CoreTerm) → scope.variables ≡ []
    → TermHeld scope taken 0 thread → TailHeld thread → act_count thread ≤ most_tree_acts → NeverFall (acts_of_term thread)
    → term_of widths body ≡ core_term scope 0 thread → places_of body ≡ acts_of_term thread → IsBody body
is_body scope taken thread widths body none held tail few order is places =
    let covers = subst (λ variables. Covers variables [] 0) (sym none) (nothing_covered 0) in
    let counted = ap length places ∙ acts_counted thread in
    let is_numbered = subst (Numbered [] 0) (sym is) (numbered scope taken [] 0 thread covers held) in
    let is_tail = subst IsTail (sym is) (tailed scope taken [] 0 thread covers held tail) in
    let take_time = subst CyclesTakeTime (sym is) (cycles_take_time scope taken 0 thread held) in
    record {
      numbered = λ other. numbered_any widths other body is_numbered;
      tail = λ other. tail_any widths other body is_tail;
      cycles = λ other. cycles_any widths other body take_time;
      in_order = subst NeverFalls (sym places) (never_falls (acts_of_term thread) order);
      few = omega arith;
    }

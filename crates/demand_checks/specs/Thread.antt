-- The body of a thread of a process, and what the checks are given of it: the graph of its two turns, the order of the
-- graph and a table for the life of what each send sends.
use Rattle.std.specs.Prelude.{ℕ, ◌≡◌, ◌<◌, List, [], ◌∷◌, length, zero, suc}
use Rattle.core_term.specs.declared.process.CoreProc.{CoreProc}
use Rattle.core_term.specs.declared.rules.Rule.{Rule}
use Rattle.core_term.specs.declared.rules.Violation.{Violation}
use Rattle.core_term.specs.Term.{Term, One, Nothing}
use Rattle.core_term.specs.Acts.{Sends, HasAct, SetAt}
use Rattle.core_term.specs.Process.{Process, Thread, IsThread, life_of}
use Rattle.core_term.specs.AcceptedFile.{process_in}
use Rattle.core_term.specs.Rules.{end_of}
use Rattle.event_points.specs.Nodes.{twice, node_of}
use Rattle.event_points.specs.Endings.{endings}
use Rattle.event_order.specs.declared.order.Order.{Order}
use Rattle.event_order.specs.Order.{IsOrderOf}
use Rattle.elaborator.specs.declared.elab.Elab.{Elab}
use Rattle.elaborator.specs.Turns.{IsTwice}
use Rattle.lifetimes.specs.declared.lasts.Lasts.{Lasts}
use Rattle.lifetimes.specs.Lasts.{HasTableOf}
use Rattle.demand_checks.specs.Found.{AreViolations}

abbrev pub no_thread : Thread
no_thread = record { body = One (Nothing 0); count = 1 }

abbrev pub nth_thread : List Thread → ℕ → Thread
nth_thread [] j = no_thread
nth_thread (thread ∷ threads) zero = thread
nth_thread (thread ∷ threads) (suc j) = nth_thread threads j

-- of the thread of the number j
abbrev pub body_of : CoreProc → ℕ → Term
body_of proc j = (nth_thread (process_in proc).threads j).body

-- each send of the body has the table of its port's life over the graph of two turns
abbrev pub AreLastsOf : Process → Term → Lasts → Type 0
AreLastsOf p body lasts =
    (q m : ℕ) → HasAct body q (λ a. Sends a m)
    → HasTableOf lasts q (twice body) (node_of body (end_of q)) (endings body (node_of body) (life_of p m))

-- what a check needs of the thread of the number j
pub record IsReady (proc : CoreProc) (j : ℕ) (elab : Elab) (order : Order) (lasts : Lasts) : Type 0 where
  pub inside : j < length proc.threads.items
  pub twice : IsTwice (body_of proc j) elab
  pub order_is : IsOrderOf elab.graph order
  pub lasts_are : AreLastsOf (process_in proc) (body_of proc j) lasts

-- a thread of another number than j sets the register
abbrev pub IsSetElsewhere : Process → ℕ → ℕ → Type 0
IsSetElsewhere p j register =
    (i w : ℕ) × (other : Thread) × IsThread p.threads i other × (i ≡ j → ⊥) × SetAt other.body w register

-- the violations of the thread of the number j of a process of the code
abbrev pub AreViolationsOf : CoreProc → ℕ → List Rule → List Violation → Type 0
AreViolationsOf proc j rules violations = AreViolations (process_in proc) j (body_of proc j) rules violations

-- Laws of the points of one turn, and of two turns, of a body.
--
-- They hold of any walk over any input list: the source run and the re-reading run are both cases. They need no demand
-- of the rules, only a numbered body, and the tails a tail-stepped one.
use Rattle.std.specs.Prelude.{ℕ, ◌≡◌, ◌+◌, ◌<◌, ◌≤◌, ◌⊎◌, ℤ, pos, ◌+ℤ◌, ◌≤ℤ◌, ◌<ℤ◌, Bool, true, false, List, [], suc}
use Rattle.std.specs.Prelude.{Some}
use Rattle.order_rules.specs.Form.{Form}
use Rattle.core_term.specs.Inputs.{Inputs}
use Rattle.core_term.specs.Term.{Expr, Term, Act, Send, Recv, If, When, site, head}
use Rattle.core_term.specs.Numbering.{Numbered}
use Rattle.core_term.specs.Tail.{IsTail}
use Rattle.core_term.specs.Value.{Outcome}
use Rattle.core_term.specs.Ends.{Sees, sees}
use Rattle.core_term.specs.Fate.{Runs}
use Rattle.core_term.specs.Turns.{begins, run_of}
use Rattle.core_term.specs.Stands.{Stands}
use Rattle.core_term.specs.Acts.{OnPort, Asks}
use Rattle.core_term.specs.Process.{Process, Thread, IsThread, IsProcess, life_of}
use Rattle.core_term.specs.Wires.{InLife}
use Rattle.core_term.specs.Outputs.{wires}
use Rattle.core_term.specs.Points.{Spot, TermBegin, TermEnd, End, NoSide, forms}
use Rattle.core_term.specs.Order.{Point, IsFormed, Precedes}
use Rattle.core_term.specs.Lives.{LastPrecedes}
use Rattle.core_term.specs.Occurs.{Occurrence, Gone, At, occurrence, LocalRule}

-- when the points of turn i occur
abbrev pub times : Inputs → Sees → Term → ℕ → Spot → Occurrence
times inputs view body i = occurrence inputs view (run_of inputs view body i)

-- t is the first cycle from start on, within the list, in which the wire is 1
pub record IsFirst (wire : ℕ → Bool) (count start t : ℕ) : Type 0 where
  pub within : t < count
  pub from : start ≤ t
  pub is : wire t ≡ true
  pub none : (u : ℕ) → start ≤ u → u < t → wire u ≡ true → ⊥

-- the wire that ends an act on a port
abbrev pub answer : Inputs → Act → ℕ → Bool
answer inputs (Send p m e) t = inputs.ack m t
answer inputs (Recv p m) t = inputs.valid m t
answer inputs a t = false

-- the side that was taken begins with the `if`, and the other is lost
abbrev pub Takes : (Spot → Occurrence) → ℕ → Bool → Act → Type 0
Takes at start true (If p e t u w) =
    (at (TermBegin (site (head t))) ≡ At start) × (at (TermBegin (site (head u))) ≡ Gone)
Takes at start false (If p e t u w) =
    (at (TermBegin (site (head t))) ≡ Gone) × (at (TermBegin (site (head u))) ≡ At start)
Takes at start true (When p e t) = (at (TermBegin (site (head t))) ≡ At start) × (at (NoSide p) ≡ Gone)
Takes at start false (When p e t) = (at (TermBegin (site (head t))) ≡ Gone) × (at (NoSide p) ≡ At start)
Takes at start side a = Unit {0}

-- what holds of the points of the turn i
pub record ObeysRules (inputs : Inputs) (view : Sees) (body : Term) (i : ℕ) : Type 0 where
  -- each point obeys the rule of its form
  pub rule : (b : Spot) (f : Form Spot) → IsFormed (forms body) b f
      → LocalRule inputs.count (times inputs view body i) b f
  -- the first point comes with the turn
  pub begin : (t : ℕ) → begins inputs view body i ≡ Some t
      → times inputs view body i (TermBegin (site (head body))) ≡ At t
  pub begin_back : (t : ℕ) → times inputs view body i (TermBegin (site (head body))) ≡ At t
      → begins inputs view body i ≡ Some t
  -- an act that has begun stands at its place in the text
  pub stands : (q : ℕ) (scope : ℕ → Outcome) (start : ℕ) (u : Term) → run_of inputs view body i q ≡ Runs scope start u
      → (vs : List Act) × Stands [] body vs u × (site (head u) ≡ q)
  -- the end of a `send` or `recv` comes exactly where its wire first is 1
  pub sync : (q : ℕ) (scope : ℕ → Outcome) (start : ℕ) (u : Term) (m : ℕ)
      → run_of inputs view body i q ≡ Runs scope start u → OnPort (head u) m → (t : ℕ)
      → (times inputs view body i (End q) ≡ At t → IsFirst (answer inputs (head u)) inputs.count start t)
      × (IsFirst (answer inputs (head u)) inputs.count start t → times inputs view body i (End q) ≡ At t)
  -- of an `if` exactly the side comes for which it decided
  pub side : (q : ℕ) (scope : ℕ → Outcome) (start : ℕ) (u : Term) (e : Expr)
      → run_of inputs view body i q ≡ Runs scope start u → Asks (head u) e
      → Takes (times inputs view body i) start (view.decide q start scope e) (head u)

-- Every point of every turn obeys its local rule.
abbrev pub EveryPointObeysItsRule : Type 0
EveryPointObeysItsRule =
    (inputs : Inputs) (view : Sees) (body : Term) → Numbered [] 0 body → (i : ℕ) → ObeysRules inputs view body i

-- of two turns: the turn i, and the later one i + 1 + k
abbrev pub turn_of : (i k : ℕ) → (late : Bool) → ℕ
turn_of i k false = i
turn_of i k true = suc (k + i)

abbrev pub times_of : Inputs → Sees → Term → (i k : ℕ) → Point → Occurrence
times_of inputs view body i k b = times inputs view body (turn_of i k b.late) b.spot

-- The order law. Where a + d <= b is derived and b comes at t, with t - d within the list, a is lost, or it has come at
-- t - d or before. Of turns that do not follow each other this is said where a is of the first.
abbrev pub OrderLaw : Type 0
OrderLaw =
    (inputs : Inputs) (view : Sees) (body : Term) → Numbered [] 0 body → (i k : ℕ) (a b : Point) (d : ℤ)
    → Precedes body a d b → (a.late ≡ false) ⊎ (k ≡ 0) → (t : ℕ) → times_of inputs view body i k b ≡ At t
    → pos t <ℤ (pos inputs.count +ℤ d)
    → (times_of inputs view body i k a ≡ Gone)
    ⊎ ((s : ℕ) × ((pos s +ℤ d) ≤ℤ pos t) × (times_of inputs view body i k a ≡ At s))

-- The last law, for a `send` at the site q on the port m of a thread. Where last + d <= b is derived and b comes at t
-- in the turn i or any later one, with t - d within the list, the side of the send is lost, or it has ended and each
-- cycle of the life of its exchange is t - d or before.
abbrev pub LastLaw : Type 0
LastLaw =
    (p : Process) → IsProcess p → (inputs : Inputs) (registers : ℕ → ℕ → ℕ) (j : ℕ) (thread : Thread)
    → IsThread p.threads j thread → (i k q m : ℕ) (d : ℤ) (b : Point) → LastPrecedes thread.body (life_of p m) q d b
    → (t : ℕ) → times_of inputs (sees registers) thread.body i k b ≡ At t → t < inputs.count
    → pos t <ℤ (pos inputs.count +ℤ d)
    → (times inputs (sees registers) thread.body i (End q) ≡ Gone)
    ⊎ ((e : ℕ) × (times inputs (sees registers) thread.body i (End q) ≡ At e)
    × ((c : ℕ) → InLife (wires p inputs registers) (life_of p m) e c → (pos c +ℤ d) ≤ℤ pos t))

-- The tails. In a turn that ends at e, each act that began did so before e and has ended by e, and a `send` or `recv`
-- before e.
abbrev pub TailsLaw : Type 0
TailsLaw =
    (inputs : Inputs) (view : Sees) (body : Term) → Numbered [] 0 body → IsTail body → (i e : ℕ)
    → times inputs view body i (TermEnd (site (head body))) ≡ At e
    → (q : ℕ) (scope : ℕ → Outcome) (start : ℕ) (u : Term) → run_of inputs view body i q ≡ Runs scope start u
    → (start < e)
    × ((c : ℕ) × (times inputs view body i (End q) ≡ At c) × (c ≤ e) × ((m : ℕ) → OnPort (head u) m → c < e))

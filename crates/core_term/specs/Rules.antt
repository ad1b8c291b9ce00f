-- What the timing rules V2 to V8 demand of a thread. Each demand is a claim over points, with the record that names it.
--
-- The rules speak of places in the text and never of a run. Points without a turn are of the first of two turns. All
-- acts of a demand are of one thread.
use Rattle.std.specs.Prelude.{ℕ, ◌≡◌, ◌<◌, ◌⊎◌, ℤ, pos, ◌-ℤ◌, true, false, List, []}
use Rattle.core_term.specs.declared.rules.Rule.{Rule}
use Rattle.core_term.specs.declared.rules.Rule.TheVariants.{V2, V3, V4, V5, V6, V7, V8}
use Rattle.core_term.specs.Lists.{Has}
use Rattle.core_term.specs.Term.{Expr, Term, Act, Send, site, head}
use Rattle.core_term.specs.Stands.{Stands}
use Rattle.core_term.specs.Acts.{Receives, Sends, Reads, Uses, HasAct, ActOn, SetAt}
use Rattle.core_term.specs.Process.{Cycles, Until, Process, Thread, IsThread, life_of}
use Rattle.core_term.specs.Points.{Begin, End}
use Rattle.core_term.specs.Order.{Point, point, Precedes}
use Rattle.core_term.specs.Lives.{LastPrecedes}
use Rattle.core_term.specs.Sources.{Source, WireOf, RegOf, ChoiceOf, expr_sources, sources_in}

-- Order a d b: a + d <= b. Last s m d b: the last cycle of the life of what the send s of the port m sent, + d, is no
-- later than b
pub data Claim : Type 0 where
  Order : Point → ℤ → Point → Claim
  Last : (send port : ℕ) → ℤ → Point → Claim
  Either : Claim → Claim → Claim
  Both : Claim → Claim → Claim

abbrev pub Holds : Process → Term → Claim → Type 0
Holds p body (Order a d b) = Precedes body a d b
Holds p body (Last s m d b) = LastPrecedes body (life_of p m) s d b
Holds p body (Either a b) = Holds p body a ⊎ Holds p body b
Holds p body (Both a b) = Holds p body a × Holds p body b

-- points of the first turn and of the second
abbrev pub begin_of : ℕ → Point
begin_of q = point false (Begin q)

abbrev pub end_of : ℕ → Point
end_of q = point false (End q)

abbrev pub next_begin_of : ℕ → Point
next_begin_of q = point true (Begin q)

abbrev pub next_end_of : ℕ → Point
next_end_of q = point true (End q)

-- the use that an act makes of its value, + d, is no later than b: a `send` goes on to the end of the life
abbrev pub use_by : Act → ℤ → Point → Claim
use_by (Send q m e) d b = Last q m d b
use_by a d b = Order (begin_of (site a)) d b

-- a term of the body begins with an act that uses a value which rests on a source
pub record RestsOn (body : Term) (u : Term) (source : Source) : Type 0 where
  pub scope : List Act
  pub stands : Stands [] body scope u
  pub value : Expr
  pub uses : Uses (head u) value
  pub has : Has (expr_sources (site (head u)) (sources_in scope) value) source

-- the thread j of the process, with the body, has to keep a claim by a rule, whose record has the two sites
pub data Demands (p : Process) (j : ℕ) (body : Term) : Rule → ℕ → ℕ → Claim → Type 0 where
  -- V2: a variable is made before it is read
  made : (scope : List Act) (u : Term) (y : ℕ) → Stands [] body scope u → Reads (head u) y
      → Demands p j body V2 (site (head u)) y (Order (end_of y) (pos 0) (begin_of (site (head u))))
  -- V3: of two sets of one register, one ends before the other begins
  sets : (q r : ℕ) (register : ℕ) → SetAt body q register → SetAt body r register → q < r
      → Demands p j body V3 q r (Either (Order (end_of q) (pos 0) (begin_of r)) (Order (end_of r) (pos 0) (begin_of q)))
  -- V4: of two receives of one port, one begins in a cycle after the end of the other
  receives : (q r m : ℕ) → HasAct body q (λ a. Receives a m) → HasAct body r (λ a. Receives a m) → q < r
      → Demands p j body V4 q r (Either (Order (end_of q) (pos 1) (begin_of r)) (Order (end_of r) (pos 1) (begin_of q)))
  -- V5: of two sends of one port, one begins in a cycle after the life of what the other sent; so does each send of the
  -- next turn
  sends : (q r m : ℕ) → HasAct body q (λ a. Sends a m) → HasAct body r (λ a. Sends a m) → q < r
      → Demands p j body V5 q r (Either (Last q m (pos 1) (begin_of r)) (Last r m (pos 1) (begin_of q)))
  sends_next : (q r m : ℕ) → HasAct body q (λ a. Sends a m) → HasAct body r (λ a. Sends a m)
      → Demands p j body V5 q r (Last q m (pos 1) (next_begin_of r))
  -- V6: a received value is used within each end of its life: within k cycles
  wire_within : (u : Term) (q m k : ℕ) → RestsOn body u (WireOf q) → HasAct body q (λ a. Receives a m)
      → Has (life_of p m) (Cycles k)
      → Demands p j body V6 (site (head u)) q (use_by (head u) (pos 1 -ℤ pos k) (end_of q))
  -- or up to the next exchange of another port, in this turn and in the next, unless it is used as it is received
  wire_until : (u : Term) (q m n w : ℕ) → RestsOn body u (WireOf q) → HasAct body q (λ a. Receives a m)
      → Has (life_of p m) (Until n) → ActOn body w n
      → Demands p j body V6 (site (head u)) q
      (Either (use_by (head u) (pos 0) (end_of q))
      (Both (Either (Order (end_of w) (pos 1) (end_of q)) (use_by (head u) (pos 0) (end_of w)))
      (use_by (head u) (pos 0) (next_end_of w))))
  -- V7: a register that another thread sets is used as it is read
  set_elsewhere : (u : Term) (q r i w : ℕ) (other : Thread) → RestsOn body u (RegOf q r) → IsThread p.threads i other
      → (i ≡ j → ⊥) → SetAt other.body w r
      → Demands p j body V7 (site (head u)) q (use_by (head u) (pos 0) (begin_of q))
  -- and one that this thread sets is used before each set that begins after the read, in this turn and in the next
  set_here : (u : Term) (q r w : ℕ) → RestsOn body u (RegOf q r) → SetAt body w r
      → Demands p j body V7 (site (head u)) q
      (Either (use_by (head u) (pos 0) (begin_of q))
      (Both (Either (Order (end_of w) (pos 0) (begin_of q)) (use_by (head u) (pos 0) (begin_of w)))
      (use_by (head u) (pos 0) (next_begin_of w))))
  -- V8: the side of an `if` is used before the `if` decides again
  choice : (u : Term) (q : ℕ) → RestsOn body u (ChoiceOf q)
      → Demands p j body V8 (site (head u)) q (use_by (head u) (pos 1) (next_begin_of q))

-- a thread keeps each of its demands
abbrev pub Meets : Process → ℕ → Term → Type 0
Meets p j body =
    (rule : Rule) (first second : ℕ) (claim : Claim) → Demands p j body rule first second claim → Holds p body claim

-- the process keeps each demand of each thread
abbrev pub KeepsDemands : Process → Type 0
KeepsDemands p = (j : ℕ) (thread : Thread) → IsThread p.threads j thread → Meets p j thread.body

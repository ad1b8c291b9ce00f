-- The re-reading run: no value is fixed when it is made, and each use reads its expression again in each of its cycles.
--
-- Turns and ends are those of every run, over this run's own registers and decisions. Inside a cycle an `if` may rest
-- on one that decides in the same cycle, so the run is a relation. It says nothing of how a machine keeps its state,
-- and nothing of cycles past the list.
use Rattle.std.specs.Prelude.{ℕ, ◌≡◌, ◌+◌, ◌<◌, ◌≤◌, ◌==◌, ◌⊎◌, Bool, true, false, List, [], slice_index_or}
use Rattle.core_term.specs.Inputs.{Inputs}
use Rattle.core_term.specs.Term.{Expr, Term, Act, head}
use Rattle.core_term.specs.Numbering.{size}
use Rattle.core_term.specs.Value.{Value, Done}
use Rattle.core_term.specs.Ends.{Sees, act_ends}
use Rattle.core_term.specs.Turns.{HasBegun}
use Rattle.core_term.specs.Stands.{Stands}
use Rattle.core_term.specs.Acts.{OnPort, Sends, Sets, Uses, Asks}
use Rattle.core_term.specs.Process.{Process, Thread, IsThread, is_received, resets}
use Rattle.core_term.specs.Wires.{Wires}
use Rattle.core_term.specs.Again.{Sight, number, now_in}

-- what is seen in cycle c
abbrev pub sight : Inputs → (ℕ → ℕ → ℕ) → (ℕ → ℕ → Bool) → ℕ → Sight
sight inputs registers side c = record {
  wire = λ m. inputs.data_at m c;
  register = λ r. registers c r;
  side = λ p. side p c;
}

-- an expression with these acts in scope, read again in cycle c
abbrev pub read_again : Inputs → (ℕ → ℕ → ℕ) → (ℕ → ℕ → Bool) → ℕ → List Act → Expr → ℕ
read_again inputs registers side c scope e =
    number (sight inputs registers side c) (now_in (sight inputs registers side c) scope) e

-- each `if` of the site p that begins at start decides as decision p start
abbrev pub deciding : (ℕ → ℕ → ℕ) → (ℕ → ℕ → Bool) → Sees
deciding registers decision = record { registers = registers; decide = λ p start scope e. decision p start }

-- Of a thread: decision says how each `if` decides, by site and cycle, and side its latest decision up to a cycle of
-- the list: the second side where it has none.
pub record DecidesAgain (inputs : Inputs) (body : Term) (registers : ℕ → ℕ → ℕ)
    (decision side : ℕ → ℕ → Bool) : Type 0 where
  pub decides : (turn site : ℕ) → site < size body → (b : HasBegun inputs (deciding registers decision) body turn site)
      → (scope : List Act) → Stands [] body scope b.term → (condition : Expr) → Asks (head b.term) condition
      → decision site b.begin ≡ (read_again inputs registers side b.begin scope condition == 1)
  pub latest : (turn site c : ℕ) → c < inputs.count → (b : HasBegun inputs (deciding registers decision) body turn site)
      → (condition : Expr) → Asks (head b.term) condition → b.begin ≤ c
      → ((later : ℕ) (a : HasBegun inputs (deciding registers decision) body later site)
      → b.begin < a.begin → a.begin ≤ c → ⊥)
      → side site c ≡ decision site b.begin
  pub never : (site c : ℕ) → c < inputs.count
      → ((turn : ℕ) (a : HasBegun inputs (deciding registers decision) body turn site) → a.begin ≤ c → ⊥)
      → side site c ≡ false

-- such a run: the registers by cycle and register, the decisions and sides by thread, site and cycle, and the wires
pub record Reread : Type 0 where
  pub registers : (cycle register : ℕ) → ℕ
  pub decision : (thread site start : ℕ) → Bool
  pub side : (thread site cycle : ℕ) → Bool
  pub wires : Wires

-- an act of the thread j has begun
abbrev pub Begins : Inputs → Reread → (j : ℕ) → (body : Term) → (turn site : ℕ) → Type 0
Begins inputs run j = HasBegun inputs (deciding run.registers (run.decision j))

-- an expression of the thread j, read again in cycle c
abbrev pub again_at : Inputs → Reread → ℕ → ℕ → List Act → Expr → ℕ
again_at inputs run j c scope e = read_again inputs run.registers (run.side j) c scope e

-- an act on the port m is offered in cycle t: begun by then, and not ended before
pub record Offers (p : Process) (inputs : Inputs) (run : Reread) (m t : ℕ) : Type 0 where
  pub j : ℕ
  pub thread : Thread
  pub is : IsThread p.threads j thread
  pub turn : ℕ
  pub site : ℕ
  pub act : Begins inputs run j thread.body turn site
  pub on : OnPort (head act.term) m
  pub begun : act.begin ≤ t
  pub not_ended : (e : ℕ) (v : Value)
      → act_ends inputs (deciding run.registers (run.decision j)) act.scope act.begin (head act.term) ≡ Done e v
      → t ≤ e

pub record IsReread (p : Process) (inputs : Inputs) (run : Reread) : Type 0 where
  pub decides : (j : ℕ) (thread : Thread) → IsThread p.threads j thread
      → DecidesAgain inputs thread.body run.registers (run.decision j) (run.side j)
  -- registers: a set writes what it reads again as it begins, the one of the greatest site where there are several
  pub reset : (r : ℕ) → run.registers 0 r ≡ slice_index_or (resets p) r 0
  pub written : (j : ℕ) (thread : Thread) → IsThread p.threads j thread
      → (turn site : ℕ) (b : Begins inputs run j thread.body turn site)
      → (scope : List Act) → Stands [] thread.body scope b.term
      → (r : ℕ) (e : Expr) → Sets (head b.term) r → Uses (head b.term) e
      → ((turn' site' : ℕ) (a : Begins inputs run j thread.body turn' site')
      → Sets (head a.term) r → a.begin ≡ b.begin → site' ≤ site)
      → run.registers (b.begin + 1) r ≡ again_at inputs run j b.begin scope e
  pub unwritten : (t r : ℕ) → t < inputs.count
      → ((j : ℕ) (thread : Thread) → IsThread p.threads j thread
      → (turn site : ℕ) (b : Begins inputs run j thread.body turn site)
      → Sets (head b.term) r → b.begin ≡ t → ⊥)
      → run.registers (t + 1) r ≡ run.registers t r
  -- wires: those that come in, those that the acts drive, and the data of the act that began last, of the least site
  -- where two began together
  pub long : run.wires.count ≡ inputs.count
  pub valid_in : (m t : ℕ) → is_received p m ≡ true → run.wires.valid m t ≡ inputs.valid m t
  pub data_in : (m t : ℕ) → is_received p m ≡ true → run.wires.data_at m t ≡ inputs.data_at m t
  pub ack_in : (m t : ℕ) → is_received p m ≡ false → run.wires.ack m t ≡ inputs.ack m t
  pub ack_out : (m t : ℕ) → t < inputs.count → is_received p m ≡ true
      → (run.wires.ack m t ≡ true → Offers p inputs run m t) × (Offers p inputs run m t → run.wires.ack m t ≡ true)
  pub valid_out : (m t : ℕ) → t < inputs.count → is_received p m ≡ false
      → (run.wires.valid m t ≡ true → Offers p inputs run m t) × (Offers p inputs run m t → run.wires.valid m t ≡ true)
  pub data_out : (m t : ℕ) → t < inputs.count
      → (j : ℕ) (thread : Thread) → IsThread p.threads j thread
      → (turn site : ℕ) (b : Begins inputs run j thread.body turn site)
      → (scope : List Act) → Stands [] thread.body scope b.term
      → (e : Expr) → Sends (head b.term) m → Uses (head b.term) e → b.begin ≤ t
      → ((turn' site' : ℕ) (a : Begins inputs run j thread.body turn' site')
      → Sends (head a.term) m → a.begin ≤ t → (a.begin < b.begin) ⊎ ((a.begin ≡ b.begin) × (site ≤ site')))
      → run.wires.data_at m t ≡ again_at inputs run j t scope e
  pub no_data : (m t : ℕ) → t < inputs.count → is_received p m ≡ false
      → ((j : ℕ) (thread : Thread) → IsThread p.threads j thread
      → (turn site : ℕ) (b : Begins inputs run j thread.body turn site)
      → Sends (head b.term) m → b.begin ≤ t → ⊥)
      → run.wires.data_at m t ≡ 0

-- The log of a thread over a register history. It has rows for every act that begins within the list, in every turn;
-- each kind of row is a predicate here, since what became of every site in every turn is a function already.
use Rattle.std.specs.Prelude.{ℕ, ◌≡◌, ◌<◌, ◌≤◌, ◌⊎◌, Bool}
use Rattle.core_term.specs.Inputs.{Inputs}
use Rattle.core_term.specs.Lists.{Has}
use Rattle.core_term.specs.Term.{Expr, Term, Act, Send, head}
use Rattle.core_term.specs.Value.{Value, Outcome, Done, value, Atom}
use Rattle.core_term.specs.Ends.{Sees, sees, act_ends}
use Rattle.core_term.specs.Turns.{HasBegun}
use Rattle.core_term.specs.Acts.{Sends, Sets, Reads, Uses, Asks}
use Rattle.core_term.specs.Process.{Process, Thread, IsThread, life_of}
use Rattle.core_term.specs.Wires.{InLife}
use Rattle.core_term.specs.Outputs.{wires}

-- the act of a site has begun in a turn of the source run
abbrev pub Begun : Inputs → (registers : ℕ → ℕ → ℕ) → (body : Term) → (turn site : ℕ) → Type 0
Begun inputs registers = HasBegun inputs (sees registers)

-- it ends in cycle e
abbrev pub EndsIn : {inputs : Inputs} {view : Sees} {body : Term} {turn site : ℕ}
    → HasBegun inputs view body turn site → ℕ → Type 0
EndsIn {inputs = inputs} {view = view} b e = (v : Value)
    × (act_ends inputs view b.scope b.begin (head b.term) ≡ Done e v)

-- The row "made": the act of the site has made its value in the cycle, by ending there.
abbrev pub IsMade : Inputs → (ℕ → ℕ → ℕ) → Term → (turn site cycle : ℕ) → Value → Type 0
IsMade inputs registers body turn site cycle v =
    (b : Begun inputs registers body turn site)
    × (act_ends inputs (sees registers) b.scope b.begin (head b.term) ≡ Done cycle v)

-- The row "read": an act that is no wait has read the variable in an expression, as it began.
abbrev pub IsRead : Inputs → (ℕ → ℕ → ℕ) → Term → (turn site variable cycle : ℕ) → Type 0
IsRead inputs registers body turn site variable cycle =
    (b : Begun inputs registers body turn site) × Reads (head b.term) variable × (b.begin ≡ cycle)

-- The row "offered": a `send` offers its value on the port, in each cycle from its begin to its end.
abbrev pub IsOffered : Inputs → (ℕ → ℕ → ℕ) → Term → (turn site port cycle : ℕ) → Type 0
IsOffered inputs registers body turn site port cycle =
    (b : Begun inputs registers body turn site) × Sends (head b.term) port
    × (b.begin ≤ cycle) × (cycle < inputs.count) × ((e : ℕ) → EndsIn b e → cycle ≤ e)

-- The row "decided": an `if` has decided for a side, as it began.
abbrev pub IsDecided : Inputs → (ℕ → ℕ → ℕ) → Term → (turn site cycle : ℕ) → (side : Bool) → Type 0
IsDecided inputs registers body turn site cycle side =
    (b : Begun inputs registers body turn site) × (condition : Expr) × Asks (head b.term) condition
    × (b.begin ≡ cycle) × ((sees registers).decide site cycle b.scope condition ≡ side)

-- The row "set": a `set` of the register has begun in the cycle, with this value.
abbrev pub IsSet : Inputs → (ℕ → ℕ → ℕ) → Term → (register turn site cycle : ℕ) → Value → Type 0
IsSet inputs registers body register turn site cycle v =
    (b : Begun inputs registers body turn site) × (e : Expr) × Sets (head b.term) register × Uses (head b.term) e
    × (b.begin ≡ cycle) × (value registers b.scope cycle e ≡ v)

-- An act that began at s uses its value in the cycle c: a `set` or an `if` as it begins, a `send` in each cycle of the
-- list up to the last one of the life of its exchange, or to the end of the list where there is no exchange.
abbrev pub InUse : Process → Inputs → (ℕ → ℕ → ℕ) → (ℕ → Outcome) → ℕ → Act → ℕ → Type 0
InUse p inputs registers scope s (Send q m e) c =
    (s ≤ c) × (c < inputs.count)
    × ((t : ℕ) (v : Value) → act_ends inputs (sees registers) scope s (Send q m e) ≡ Done t v
    → (c ≤ t) ⊎ InLife (wires p inputs registers) (life_of p m) t c)
InUse p inputs registers scope s a c = c ≡ s

-- The row "used", in one of its cycles c: the act of the thread j uses there a value that has the atom.
pub record UsedIn (p : Process) (inputs : Inputs) (registers : ℕ → ℕ → ℕ) (j turn site c : ℕ)
    (atom : Atom) : Type 0 where
  pub thread : Thread
  pub is : IsThread p.threads j thread
  pub act : Begun inputs registers thread.body turn site
  pub expr : Expr
  pub uses : Uses (head act.term) expr
  pub in_use : InUse p inputs registers act.scope act.begin (head act.term) c
  pub has : Has (value registers act.scope act.begin expr).atoms atom

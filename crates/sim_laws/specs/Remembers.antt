-- That what is kept of the acts of a turn is what has become of them up to a cycle.
--
-- The input list may go on after that cycle in any way: only what has come by the cycle is spoken of.
use Rattle.std.specs.Prelude.{ℕ, ◌≡◌, ◌+◌, ◌-◌, ◌<◌, ◌≤◌, ◌==◌, if◌then◌else◌, nat_lt, nat_le, Bool, true, false, List}
use Rattle.core_term.specs.Inputs.{Inputs}
use Rattle.core_term.specs.Term.{Term, One, Then, Both, Act, Set, Send, If, When, Block, Pure, site}
use Rattle.core_term.specs.Numbering.{size, act_size}
use Rattle.core_term.specs.Value.{Value, Outcome, Open, Done, value}
use Rattle.core_term.specs.Ends.{sees, bind, act_ends}
use Rattle.sim_laws.specs.declared.act_state.ActState.{ActState}
use Rattle.sim_laws.specs.Advance.{state_at, does_of, count_of}

-- it has ended by the cycle n, and before it
abbrev pub ended_by : ℕ → Outcome → Bool
ended_by n Open = false
ended_by n (Done e v) = nat_le e n

abbrev pub over_by : ℕ → Outcome → Bool
over_by n Open = false
over_by n (Done e v) = nat_lt e n

-- the number of a value that is made by the cycle n; 0 before
abbrev pub made_by : ℕ → Outcome → ℕ
made_by n Open = 0
made_by n (Done e v) = if nat_le e n then v.number else 0

-- the number that an act took as it began at s
abbrev pub Takes : (ℕ → ℕ → ℕ) → (ℕ → Outcome) → ℕ → Act → ℕ → Type 0
Takes history scope s (Set p r e) k = k ≡ (value history scope s e).number
Takes history scope s (Send p m e) k = k ≡ (value history scope s e).number
Takes history scope s (If p e t u w) k = k ≡ (value history scope s e).number
Takes history scope s (When p e t) k = k ≡ (value history scope s e).number
Takes history scope s (Pure p e) k = k ≡ (value history scope s e).number
Takes history scope s a k = Unit {0}

-- what is kept, after the cycle n, of an act that began at s and has the outcome o
pub record Shown (n : ℕ) (history : ℕ → ℕ → ℕ) (scope : ℕ → Outcome) (s : ℕ) (o : Outcome) (a : Act) (m : ActState) : Type 0 where
  pub does : m.does ≡ does_of a
  pub begun : m.begun ≡ true
  pub fresh : m.fresh ≡ (s == n)
  pub ended : m.ended ≡ ended_by n o
  pub over : m.over ≡ over_by n o
  pub left : m.left ≡ count_of a - (n - s)
  pub takes : Takes history scope s a m.taken.value
  pub made : m.made.value ≡ made_by n o

-- the sites from low to low + k - 1 have not begun
abbrev pub Waiting : List ActState → ℕ → ℕ → Type 0
Waiting acts low k = (q : ℕ) → low ≤ q → q < low + k → (state_at acts q).begun ≡ false

abbrev pub Chosen : Bool → Type 0 → Type 0 → Type 0
Chosen true A B = A
Chosen false A B = B

-- what holds of what follows an act, where it has ended by the cycle n and where it has not
abbrev pub After : ℕ → Outcome → (ℕ → Value → Type 0) → Type 0 → Type 0
After n Open Goes Waits = Waits
After n (Done e v) Goes Waits = Chosen (nat_le e n) (Goes e v) Waits

-- of an act by itself
abbrev pub ShownAct : (n : ℕ) → Inputs → (ℕ → ℕ → ℕ) → (ℕ → Outcome) → (s : ℕ) → Act → List ActState → Type 0
ShownAct n inputs history scope s a acts = Shown n history scope s (act_ends inputs (sees history) scope s a) a (state_at acts (site a))

-- of a term with the sites from low on, which began at s; and of what stands inside an act
abbrev mutual
  pub Remembers : (n : ℕ) → Inputs → (ℕ → ℕ → ℕ) → (ℕ → Outcome) → (s low : ℕ) → Term → List ActState → Type 0
  Remembers n inputs history scope s low (One a) acts = ShownAct n inputs history scope s a acts × RemembersInside n inputs history scope s low a acts
  Remembers n inputs history scope s low (Then a t) acts =
      (ShownAct n inputs history scope s a acts × RemembersInside n inputs history scope s low a acts)
      × After n (act_ends inputs (sees history) scope s a) (λ e v. Remembers n inputs history (bind scope (site a) (Done e v)) e (low + act_size a) t acts) (Waiting acts (low + act_size a) (size t))
  Remembers n inputs history scope s low (Both a t) acts =
      (ShownAct n inputs history scope s a acts × RemembersInside n inputs history scope s low a acts)
      × Remembers n inputs history (bind scope (site a) (act_ends inputs (sees history) scope s a)) s (low + act_size a) t acts

  pub RemembersInside : (n : ℕ) → Inputs → (ℕ → ℕ → ℕ) → (ℕ → Outcome) → (s low : ℕ) → Act → List ActState → Type 0
  RemembersInside n inputs history scope s low (If p e t u w) acts =
      Chosen ((value history scope s e).number == 1)
      (Remembers n inputs history scope s (low + 1) t acts × Waiting acts (low + (1 + size t)) (size u))
      (Waiting acts (low + 1) (size t) × Remembers n inputs history scope s (low + (1 + size t)) u acts)
  RemembersInside n inputs history scope s low (When p e t) acts =
      Chosen ((value history scope s e).number == 1) (Remembers n inputs history scope s (low + 1) t acts) (Waiting acts (low + 1) (size t))
  RemembersInside n inputs history scope s low (Block p t) acts = Remembers n inputs history scope s (low + 1) t acts
  RemembersInside n inputs history scope s low a acts = Unit {0}

abbrev pub RemembersAct : (n : ℕ) → Inputs → (ℕ → ℕ → ℕ) → (ℕ → Outcome) → (s low : ℕ) → Act → List ActState → Type 0
RemembersAct n inputs history scope s low a acts = ShownAct n inputs history scope s a acts × RemembersInside n inputs history scope s low a acts

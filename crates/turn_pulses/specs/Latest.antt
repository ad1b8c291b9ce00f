-- What a machine keeps of acts that begin: the latest choice of one, and which of several began last; and what they
-- write and show. Acts are counted from 0 in text order.
use Rattle.std.specs.Prelude.{
  ℕ,
  ◌≡◌,
  ◌+◌,
  ◌<◌,
  ◌≤◌,
  ◌&&◌,
  ◌||◌,
  not,
  if◌then◌else◌,
  Bool,
  true,
  false,
  zero,
  suc,
}

-- One act that chooses as it begins: a net shows its choice in that cycle, and a register keeps what was shown.
pub record IsLatest (begun choice shown kept : ℕ → Bool) : Type 0 where
  pub none : kept 0 ≡ false
  pub keeps : (cycle : ℕ) → kept (cycle + 1) ≡ shown cycle
  pub shows : (cycle : ℕ) → shown cycle ≡ (if begun cycle then choice cycle else kept cycle)

-- one of the first so many acts begins in this cycle
abbrev pub some_begin : (begun : ℕ → ℕ → Bool) → (count cycle : ℕ) → Bool
some_begin begun zero cycle = false
some_begin begun (suc act) cycle = some_begin begun act cycle || begun act cycle

-- Several acts: a net of each shows that it is the first of those that begin in this cycle, or where none begins,
-- that it was so before; a register keeps what was shown.
pub record IsNewest (count : ℕ) (begun shown kept : ℕ → ℕ → Bool) : Type 0 where
  pub none : (act : ℕ) → kept act 0 ≡ false
  pub keeps : (act cycle : ℕ) → act < count → kept act (cycle + 1) ≡ shown act cycle
  pub shows : (act cycle : ℕ) → act < count
      → shown act cycle
      ≡ (if some_begin begun count cycle then begun act cycle && not (some_begin begun act cycle) else kept act cycle)

-- by this cycle the act began last: in the cycle start, no act since, and no earlier act then
pub record BeganLast (count : ℕ) (begun : ℕ → ℕ → Bool) (act start cycle : ℕ) : Type 0 where
  pub by : start ≤ cycle
  pub begins : begun act start ≡ true
  pub since : (other later : ℕ) → other < count → start < later → later ≤ cycle → begun other later ≡ false
  pub first : (other : ℕ) → other < act → begun other start ≡ false

-- the value of the first act that is shown, of so many from this one on, and the other value where none is
abbrev pub first_shown : (shown : ℕ → Bool) → (value : ℕ → ℕ) → (other act many : ℕ) → ℕ
first_shown shown value other act zero = other
first_shown shown value other act (suc fewer) =
    if shown act then value act else first_shown shown value other (act + 1) fewer

-- what is written: the value of the last of the first so many acts that begins, and the old value where none does
abbrev pub last_write : (begun : ℕ → Bool) → (value : ℕ → ℕ) → (old count : ℕ) → ℕ
last_write begun value old zero = old
last_write begun value old (suc act) = if begun act then value act else last_write begun value old act

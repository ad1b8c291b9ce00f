-- What comes in from the partners of a process: a row for each of the cycles 0 to `count` - 1.
use Rattle.std.specs.Prelude.{ℕ, Bool}

-- of a received port `valid` and `data_at`, of a sent port `ack`
pub record Inputs : Type 0 where
  pub count : ℕ
  pub valid : (port cycle : ℕ) → Bool
  pub data_at : (port cycle : ℕ) → ℕ
  pub ack : (port cycle : ℕ) → Bool

-- That each process has one run on an input list, and that a run up to a cycle depends on the rows up to that cycle.
use Rattle.std.specs.Prelude.{ℕ, ◌≡◌, ◌<◌, ◌≤◌}
use Rattle.core_term.specs.Inputs.{Inputs}
use Rattle.core_term.specs.Process.{Process}
use Rattle.core_term.specs.Wires.{Wires}
use Rattle.core_term.specs.History.{IsHistory, history}
use Rattle.core_term.specs.Outputs.{wires}

-- two input lists have the same rows before the cycle n
pub record SameRows (n : ℕ) (inputs other : Inputs) : Type 0 where
  pub long : n ≤ inputs.count
  pub other_long : n ≤ other.count
  pub valid : (m t : ℕ) → t < n → inputs.valid m t ≡ other.valid m t
  pub data_at : (m t : ℕ) → t < n → inputs.data_at m t ≡ other.data_at m t
  pub ack : (m t : ℕ) → t < n → inputs.ack m t ≡ other.ack m t

-- two runs show the same registers in cycle t
abbrev pub SameRegisters : (registers other : ℕ → ℕ → ℕ) → ℕ → Type 0
SameRegisters registers other t = (r : ℕ) → registers t r ≡ other t r

-- two runs have the same wires in cycle t
pub record SameWires (wires other : Wires) (t : ℕ) : Type 0 where
  pub valid : (m : ℕ) → wires.valid m t ≡ other.valid m t
  pub ack : (m : ℕ) → wires.ack m t ≡ other.ack m t
  pub data_at : (m : ℕ) → wires.data_at m t ≡ other.data_at m t

-- What is found cycle by cycle is a history of the registers, and any other is the same in each cycle of the list and
-- the one after it.
abbrev pub EachHasOneRun : Type 0
EachHasOneRun =
    (p : Process) (inputs : Inputs)
    → IsHistory p inputs (history p inputs)
    × ((other : ℕ → ℕ → ℕ) → IsHistory p inputs other → (t : ℕ) → t ≤ inputs.count
    → SameRegisters (history p inputs) other t)

-- Where two input lists have the same rows before the cycle n, the runs on them have the same wires before n, and the
-- same registers up to n.
abbrev pub RunsAgreeWhileRowsDo : Type 0
RunsAgreeWhileRowsDo =
    (p : Process) (inputs other : Inputs) (registers registers' : ℕ → ℕ → ℕ) → IsHistory p inputs registers
    → IsHistory p other registers' → (n : ℕ) → SameRows n inputs other
    → ((t : ℕ) → t ≤ n → SameRegisters registers registers' t)
    × ((t : ℕ) → t < n → SameWires (wires p inputs registers) (wires p other registers') t)

-- Values: a number, and the atoms that it rests on. The width of the number is that of the expression in the text.
use Rattle.std.specs.Prelude.{ℕ, if◌then◌else◌, List, [], ◌∷◌, ◌++◌, nat_le}
use Rattle.anvil_bits.specs.Operators.{not_of, slice_of, choice_of}
use Rattle.core_term.specs.Operators.{operate}
use Rattle.core_term.specs.Term.{Expr, Lit, Var, Reg, Not, Bin, Slice, Choose}

-- the data that a port had in a cycle, what a register showed in a cycle, the side that an `if` decided for in a cycle
pub data Atom : Type 0 where
  Wire : (port cycle : ℕ) → Atom
  Register : (register cycle : ℕ) → Atom
  Choice : (site cycle : ℕ) → Atom

pub record Value : Type 0 where
  pub number : ℕ
  pub atoms : List Atom

-- how an act or a term ends: not in the list, or in a cycle with a value
pub data Outcome : Type 0 where
  Open : Outcome
  Done : (cycle : ℕ) → Value → Outcome

-- the value of an act that is unit, and of a variable that is read before it is made
abbrev pub nothing : Value
nothing = record { number = 0; atoms = [] }

-- a variable that is read in the cycle now
abbrev pub read : Outcome → ℕ → Value
read Open now = nothing
read (Done e v) now = if nat_le e now then v else nothing

-- an expression that is read in the cycle now, with what the registers show, by cycle and register, and the variables
-- in scope
abbrev pub value : (ℕ → ℕ → ℕ) → (ℕ → Outcome) → ℕ → Expr → Value
value registers scope now (Lit w n) = record { number = n; atoms = [] }
value registers scope now (Var y) = read (scope y) now
value registers scope now (Reg r) = record { number = registers now r; atoms = Register r now ∷ [] }
value registers scope now (Not w e) =
    record { number = not_of w (value registers scope now e).number; atoms = (value registers scope now e).atoms }
value registers scope now (Bin o w v a b) =
    record {
      number = operate o w v (value registers scope now a).number (value registers scope now b).number;
      atoms = (value registers scope now a).atoms ++ (value registers scope now b).atoms;
    }
value registers scope now (Slice y high low) =
    record { number = slice_of high low (read (scope y) now).number; atoms = (read (scope y) now).atoms }
value registers scope now (Choose c a b) =
    record {
      number =
          choice_of (value registers scope now c).number (value registers scope now a).number
          (value registers scope now b).number;
      atoms =
          (value registers scope now c).atoms ++
          ((value registers scope now a).atoms ++ (value registers scope now b).atoms);
    }

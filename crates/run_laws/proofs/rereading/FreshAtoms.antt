-- Atoms that are what they were: what is seen now at a port, a register or an `if` is what it was when a value was made. A
-- value all of whose atoms are fresh is what is read again.
use Rattle.std.specs.Prelude.{ℕ, ◌≡◌, Bool, List, [], ◌∷◌}
use Rattle.core_term.specs.Value.{Atom, Wire, Register, Choice}
use Rattle.core_term.specs.Again.{Sight}

-- an atom is what it was
abbrev pub IsFresh : Sight → (ℕ → ℕ → ℕ) → (ℕ → ℕ → ℕ) → (ℕ → ℕ → Bool) → Atom → Type 0
IsFresh sight data_at registers side (Wire m t) = sight.wire m ≡ data_at m t
IsFresh sight data_at registers side (Register r t) = sight.register r ≡ registers t r
IsFresh sight data_at registers side (Choice p t) = sight.side p ≡ side p t

abbrev pub AllFresh : (Atom → Type 0) → List Atom → Type 0
AllFresh P [] = Unit {0}
AllFresh P (a ∷ more) = P a × AllFresh P more

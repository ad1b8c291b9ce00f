-- A bit that is never 1 stands everywhere; and what holds of each signal of a list, and of one that is added, holds of each
-- of the longer list.
use Rattle.std.proofs.Common.{◌≡◌, ℕ, ◌+◌, ◌<◌, ◌≤◌, ◌⊎◌, inl, inr, Bool, true, false, List, [], ◌∷◌, ◌++◌, length, refl, sym, subst, arith}
use Rattle.std.specs.Prelude.{◌==◌, ◌&&◌, not, if◌then◌else◌}
use Rattle.std.proofs.lemmas.Bool.{cases_lt}
use Rattle.std.proofs.lemmas.List.{get_or_append_left, get_or_at}
use Rattle.anvil_bits.specs.Operators.{choice_of}
use Rattle.sv_tree.specs.Module.{Module}
use Rattle.module_nets.specs.declared.signal.Signal.{Signal}
use Rattle.module_nets.specs.Netlist.{Extends}
use Rattle.module_nets.specs.Shown.{Moment}
use Rattle.module_nets.specs.Bits.{IsBit, told}
use Rattle.module_nets.proofs.BitsTold.{bit_later}
use Rattle.machine_parts.specs.Nodes.{AreBits}
use Rattle.machine_parts.specs.Parts.{bit_at, zero_bit}

pub zero_is_bit : (tree : Module) → IsBit tree zero_bit
zero_is_bit tree = record { stands = record { some = omega arith; few = omega arith; stands = λ new e. refl }; one_bit = refl }

pub zero_told : (now : Moment) → told now zero_bit ≡ false
zero_told now = refl

pub are_bits_later : (old new : Module) (bits : List Signal) → Extends old new → AreBits old bits → AreBits new bits
are_bits_later old new bits e are place = bit_later old new (bit_at bits place) e (are place)

pub pushed : (P : ℕ → Signal → Type 0) (list : List Signal) (one : Signal) (k : ℕ) → length list ≡ k
    → ((j : ℕ) → j < k → P j (bit_at list j)) → P k one → (j : ℕ) → j < k + 1 → P j (bit_at (list ++ one ∷ []) j)
pushed P list one k count each last j within = at (cases_lt j k)
  where
    at : (j < k) ⊎ (k ≤ j) → P j (bit_at (list ++ one ∷ []) j)
    at (inl less) = subst (P j) (sym (get_or_append_left list (one ∷ []) zero_bit j (omega (arith, less, count)))) (each j less)
    at (inr past) =
        let here : j ≡ k = omega (arith, past, within) in
        subst (λ i. P i (bit_at (list ++ one ∷ []) i)) (sym here) (subst (P k) (sym (get_or_at list one [] zero_bit k count)) last)

-- a choice between bits
pub choice_told : (condition first second : ℕ) → (choice_of condition first second == 1) ≡ (if condition == 1 then (first == 1) else (second == 1))
choice_told condition first second = by (condition == 1)
  where
    by : (test : Bool) → ((if test then first else second) == 1) ≡ (if test then (first == 1) else (second == 1))
    by true = refl
    by false = refl

pub first_same : (a b c d : Bool) → a ≡ c → b ≡ d → (a && not b) ≡ (c && not d)
first_same a b c d one two = rw (one, two) refl

pub choice_same_told : (a c x y z : Bool) → a ≡ c → y ≡ z → (if a then x else y) ≡ (if c then x else z)
choice_same_told a c x y z one two = rw (one, two) refl

-- Bits by their numbers: past a list stands a literal 0, which is a bit in every netlist, so a list of bits stays one when nets or
-- bits are added at the end.
use Rattle.std.proofs.Common.{◌≡◌, ◌<◌, ◌≤◌, ◌+◌, ◌⊎◌, inl, inr, List, [], ◌∷◌, ◌++◌, length, refl, sym, subst, arith}
use Rattle.std.proofs.lemmas.Bool.{cases_lt}
use Rattle.std.proofs.lemmas.List.{get_or_append_left, get_or_at, get_or_past, length-append}
use Rattle.sv_tree.specs.Module.{Module}
use Rattle.module_nets.specs.declared.signal.Signal.{Signal}
use Rattle.module_nets.specs.Netlist.{Extends, Stands}
use Rattle.module_nets.specs.Bits.{IsBit}
use Rattle.module_nets.proofs.BitsTold.{bit_later}
use Rattle.machine_parts.specs.Parts.{bit_at, zero_bit}
use Rattle.machine_parts.specs.Nodes.{AreBits}

zero_stands : (old : Module) → Stands old zero_bit
zero_stands old = record { some = omega arith; few = omega arith; stands = λ new e. refl }

pub zero_is_bit : (old : Module) → IsBit old zero_bit
zero_is_bit old = record { stands = zero_stands old; one_bit = refl }

pub bits_later : (old new : Module) (bits : List Signal) → Extends old new → AreBits old bits → AreBits new bits
bits_later old new bits e are place = bit_later old new (bit_at bits place) e (are place)

-- no bits are bits
pub no_bits : (old : Module) → AreBits old []
no_bits old place = zero_is_bit old

pub bits_pushed : (old : Module) (bits : List Signal) (bit : Signal) → AreBits old bits → IsBit old bit → AreBits old (bits ++ bit ∷ [])
bits_pushed old bits bit are is place = at (cases_lt place (length bits))
  where
    past : (place < length bits + 1) ⊎ (length bits + 1 ≤ place) → length bits ≤ place → IsBit old (bit_at (bits ++ bit ∷ []) place)
    past (inl within) from =
        let here : length bits ≡ place = omega (arith, within, from) in
        subst (λ signal. IsBit old signal) (sym (get_or_at bits bit [] zero_bit place here)) is
    past (inr beyond) from =
        let count : length (bits ++ bit ∷ []) ≤ place = let long = length-append bits (bit ∷ []) in omega (arith, long, beyond) in
        subst (λ signal. IsBit old signal) (sym (get_or_past (bits ++ bit ∷ []) place zero_bit count)) (zero_is_bit old)

    at : (place < length bits) ⊎ (length bits ≤ place) → IsBit old (bit_at (bits ++ bit ∷ []) place)
    at (inl less) = subst (λ signal. IsBit old signal) (sym (get_or_append_left bits (bit ∷ []) zero_bit place less)) (are place)
    at (inr from) = past (cases_lt place (length bits + 1)) from

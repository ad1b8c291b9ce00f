-- A list of signals that continues another reads the same below its length, and its next item is the one that was added.
use Rattle.std.proofs.Common.{◌≡◌, ℕ, zero, suc, ◌+◌, ◌<◌, ◌≤◌, List, [], ◌∷◌, ◌++◌, length, refl, sym, ◌∙◌, ap, arith, append_assoc, append-nil}
use Rattle.std.proofs.lemmas.List.{length-append, get_or_append_left}
use Rattle.std.proofs.Math.Seq.{get_or-append_seam}
use Rattle.module_nets.specs.declared.signal.Signal.{Signal}
use Rattle.module_nets.specs.Signals.{signal_at, no_signal}
use Rattle.machine_parts.specs.Parts.{bit_at, zero_bit}
use Rattle.thread_nets.specs.Walk.{Continues}

pub continues_self : (list : List Signal) → Continues list list
continues_self list = record { more = []; is = sym (append-nil list) }

pub continues_same : (list other : List Signal) → other ≡ list → Continues list other
continues_same list other same = record { more = []; is = same ∙ sym (append-nil list) }

pub continues_with : (list other : List Signal) (next : Signal) → other ≡ list ++ next ∷ [] → Continues list other
continues_with list other next is = record { more = next ∷ []; is = is }

pub continues_on : (first second third : List Signal) → Continues first second → Continues second third → Continues first third
continues_on first second third one two = record {
  more = one.more ++ two.more;
  is = two.is ∙ (ap (λ list. list ++ two.more) one.is ∙ append_assoc first one.more two.more);
}

pub continues_length : (old new : List Signal) → Continues old new → length old ≤ length new
continues_length old new on = let l = length-append old on.more in let m = ap (λ list. length list) on.is in omega (arith, l, m)

pub bit_kept : (old new : List Signal) (place : ℕ) → Continues old new → place < length old → bit_at new place ≡ bit_at old place
bit_kept old new place on inside = ap (λ list. bit_at list place) on.is ∙ get_or_append_left old on.more zero_bit place inside

pub signal_kept : (old new : List Signal) (place : ℕ) → Continues old new → place < length old → signal_at new place ≡ signal_at old place
signal_kept old new place on inside = ap (λ list. signal_at list place) on.is ∙ get_or_append_left old on.more no_signal place inside

pub length_with : (old new : List Signal) (next : Signal) → new ≡ old ++ next ∷ [] → length new ≡ length old + 1
length_with old new next is = let l = length-append old (next ∷ []) in let m = ap (λ list. length list) is in omega (arith, l, m)

pub bit_next : (old new : List Signal) (next : Signal) (place : ℕ) → new ≡ old ++ next ∷ [] → place ≡ length old → bit_at new place ≡ next
bit_next old new next place is at = ap (λ list. bit_at list place) is ∙ (ap (λ p. bit_at (old ++ next ∷ []) p) at ∙ get_or-append_seam old next [] zero_bit)

pub signal_next : (old new : List Signal) (next : Signal) (place : ℕ) → new ≡ old ++ next ∷ [] → place ≡ length old → signal_at new place ≡ next
signal_next old new next place is at = ap (λ list. signal_at list place) is ∙ (ap (λ p. signal_at (old ++ next ∷ []) p) at ∙ get_or-append_seam old next [] no_signal)

pub signal_is_bit : (list : List Signal) (place : ℕ) → place < length list → signal_at list place ≡ bit_at list place
signal_is_bit [] place inside = absurd (omega (arith, inside))
signal_is_bit (first ∷ rest) zero inside = refl
signal_is_bit (first ∷ rest) (suc place) inside = signal_is_bit rest place (omega (arith, inside))

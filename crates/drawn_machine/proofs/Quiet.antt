-- What no thread does: a register that no act sets keeps its value, and a port that no act is on is not offered and has no data.
use Rattle.std.proofs.Common.{◌≡◌, ℕ, zero, suc, ◌+◌, Bool, false, List, [], ◌∷◌, refl, ◌∙◌, subst, arith}
use Rattle.std.specs.Prelude.{◌||◌}
use Rattle.core_term.specs.Numbering.{size}
use Rattle.core_term.specs.Process.{Thread, IsThread}
use Rattle.turn_pulses.specs.Latest.{some_begin, first_shown, last_write}
use Rattle.process_machine.specs.ThreadMachine.{ThreadMachine}
use Rattle.process_machine.specs.ProcessMachine.{set_begins, act_offered, written, is_offered, data_sent}

unwritten : (begun : ℕ → Bool) (value : ℕ → ℕ) (old count : ℕ) → ((act : ℕ) → begun act ≡ false) → last_write begun value old count ≡ old
unwritten begun value old zero none = refl
unwritten begun value old (suc act) none = rw (none act) (unwritten begun value old act none)

unbegun : (begun : ℕ → ℕ → Bool) (count cycle : ℕ) → ((act : ℕ) → begun act cycle ≡ false) → some_begin begun count cycle ≡ false
unbegun begun zero cycle none = refl
unbegun begun (suc act) cycle none = rw (none act, unbegun begun act cycle none) refl

unshown : (is : ℕ → Bool) (value : ℕ → ℕ) (other from many : ℕ) → ((act : ℕ) → is act ≡ false) → first_shown is value other from many ≡ other
unshown is value other from zero none = refl
unshown is value other from (suc fewer) none = rw (none from) (unshown is value other (from + 1) fewer none)

or_none : (a b : Bool) → a ≡ false → b ≡ false → (a || b) ≡ false
or_none a b first second = rw (first, second) refl

module _ (machines : ℕ → ThreadMachine) where
  -- in this part of the threads
  abbrev pub OfAll : (first : ℕ) → List Thread → (ℕ → Thread → Type 0) → Type 0
  OfAll first threads Holds = (number : ℕ) (thread : Thread) → IsThread threads number thread → Holds (first + number) thread

  of_head : (first : ℕ) (thread : Thread) (threads : List Thread) (Holds : ℕ → Thread → Type 0) → OfAll first (thread ∷ threads) Holds → Holds first thread
  of_head first thread threads Holds all = let zero_more : first + 0 ≡ first = omega arith in subst (λ number. Holds number thread) zero_more (all 0 thread refl)

  of_rest : (first : ℕ) (thread : Thread) (threads : List Thread) (Holds : ℕ → Thread → Type 0) → OfAll first (thread ∷ threads) Holds → OfAll (suc first) threads Holds
  of_rest first thread threads Holds all number other is =
      let one_more : first + suc number ≡ suc first + number = omega arith in subst (λ number. Holds number other) one_more (all (suc number) other is)

  pub not_written : (first : ℕ) (threads : List Thread) (register cycle shown : ℕ)
      → OfAll first threads (λ number thread. (place : ℕ) → set_begins (machines number) thread.body register place cycle ≡ false)
      → written machines first threads register cycle shown ≡ shown
  not_written first [] register cycle shown none = refl
  not_written first (thread ∷ threads) register cycle shown none =
      not_written (suc first) threads register cycle _ (of_rest first thread threads (λ number thread. (place : ℕ) → set_begins (machines number) thread.body register place cycle ≡ false) none)
      ∙ unwritten _ _ shown (size thread.body) (of_head first thread threads (λ number thread. (place : ℕ) → set_begins (machines number) thread.body register place cycle ≡ false) none)

  pub not_offered : (first : ℕ) (threads : List Thread) (port cycle : ℕ)
      → OfAll first threads (λ number thread. (place : ℕ) → act_offered (machines number) thread.body port place cycle ≡ false)
      → is_offered machines first threads port cycle ≡ false
  not_offered first [] port cycle none = refl
  not_offered first (thread ∷ threads) port cycle none =
      or_none _ _ (unbegun (act_offered (machines first) thread.body port) (size thread.body) cycle (of_head first thread threads (λ number thread. (place : ℕ) → act_offered (machines number) thread.body port place cycle ≡ false) none))
      (not_offered (suc first) threads port cycle (of_rest first thread threads (λ number thread. (place : ℕ) → act_offered (machines number) thread.body port place cycle ≡ false) none))

  pub not_sent : (newest : (thread port site cycle : ℕ) → Bool) (first : ℕ) (threads : List Thread) (port cycle : ℕ)
      → OfAll first threads (λ number thread. (place : ℕ) → newest number port place cycle ≡ false)
      → data_sent machines newest first threads port cycle ≡ 0
  not_sent newest first [] port cycle none = refl
  not_sent newest first (thread ∷ threads) port cycle none =
      unshown _ _ _ 0 (size thread.body) (of_head first thread threads (λ number thread. (place : ℕ) → newest number port place cycle ≡ false) none)
      ∙ not_sent newest (suc first) threads port cycle (of_rest first thread threads (λ number thread. (place : ℕ) → newest number port place cycle ≡ false) none)

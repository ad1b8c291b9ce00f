-- What is written, offered and sent, over all threads of a process, where one thread alone has a say.
--
-- By induction over the list of threads, with the number of the first. A thread without a say leaves what is shown, so what the one
-- thread gives comes through.
use Rattle.std.proofs.Common.{◌≡◌, ℕ, ◌+◌, ◌<◌, ◌⊎◌, inl, inr, arith, refl, sym, ◌∙◌, subst, Bool, true, List, [], ◌∷◌, zero, suc}
use Rattle.core_term.specs.Numbering.{size}
use Rattle.core_term.specs.Process.{Thread, IsThread}
use Rattle.turn_pulses.specs.Latest.{first_shown, last_write}
use Rattle.turn_pulses.proofs.Reflects.{Reflects, fails, same_fact, reflects_or}
use Rattle.turn_pulses.proofs.Newest.{reflects_some}
use Rattle.process_machine.specs.ThreadMachine.{ThreadMachine}
use Rattle.process_machine.specs.ProcessMachine.{set_begins, act_offered, written, is_offered, data_sent}

-- the number of a thread, counted from the next one
pub from_next : (first number : ℕ) → suc first + number ≡ first + suc number
from_next first number = omega arith

pub at_first : (first : ℕ) → first + 0 ≡ first
at_first first = omega arith

module _ (machines : ℕ → ThreadMachine) (register cycle : ℕ) where
  -- what the thread of the number writes over what is shown
  abbrev pub writes : (number : ℕ) → Thread → (shown : ℕ) → ℕ
  writes number thread shown = last_write (λ place. set_begins (machines number) thread.body register place cycle) (λ place. (machines number).value place cycle) shown (size thread.body)

  abbrev pub WritesNothing : (number : ℕ) → Thread → Type 0
  WritesNothing number thread = (shown : ℕ) → writes number thread shown ≡ shown

  pub none_writes : (first : ℕ) (threads : List Thread) (shown : ℕ) → ((number : ℕ) (thread : Thread) → IsThread threads number thread → WritesNothing (first + number) thread) → written machines first threads register cycle shown ≡ shown
  none_writes first [] shown none = refl
  none_writes first (thread ∷ rest) shown none =
      let nothing : writes first thread shown ≡ shown = subst (λ n. WritesNothing n thread) (at_first first) (none 0 thread refl) shown in
      none_writes (suc first) rest (writes first thread shown) (λ number other is_thread. subst (λ n. WritesNothing n other) (sym (from_next first number)) (none (suc number) other is_thread)) ∙ nothing

  pub one_writes : (first : ℕ) (threads : List Thread) (shown number : ℕ) (thread : Thread) → IsThread threads number thread → (value : ℕ) → ((before : ℕ) → writes (first + number) thread before ≡ value)
      → ((later : ℕ) (other : Thread) → IsThread threads later other → number < later → WritesNothing (first + later) other) → written machines first threads register cycle shown ≡ value
  one_writes first [] shown number thread is_thread value gives none = elim is_thread [ ]
  one_writes first (head ∷ rest) shown zero thread is_thread value gives none =
      let gives_here : writes first head shown ≡ value = rw is_thread (subst (λ n. writes n thread shown ≡ value) (at_first first) (gives shown)) in
      none_writes (suc first) rest (writes first head shown) (λ later other is_other. subst (λ n. WritesNothing n other) (sym (from_next first later)) (none (suc later) other is_other (omega arith))) ∙ gives_here
  one_writes first (head ∷ rest) shown (suc number) thread is_thread value gives none =
      one_writes (suc first) rest (writes first head shown) number thread is_thread value (λ before. subst (λ n. writes n thread before ≡ value) (sym (from_next first number)) (gives before))
      (λ later other is_other after. subst (λ n. WritesNothing n other) (sym (from_next first later)) (none (suc later) other is_other (omega arith)))

module _ (machines : ℕ → ThreadMachine) (port cycle : ℕ) where
  -- an act of a thread is offered
  abbrev OfferedBy : (number : ℕ) → Thread → Type 0
  OfferedBy number thread = (place : ℕ) × (place < size thread.body) × (act_offered (machines number) thread.body port place cycle ≡ true)

  abbrev pub SomeOffers : (first : ℕ) → List Thread → Type 0
  SomeOffers first threads = (number : ℕ) × (thread : Thread) × IsThread threads number thread × OfferedBy (first + number) thread

  pub reflects_some_offers : (first : ℕ) (threads : List Thread) → Reflects (SomeOffers first threads) (is_offered machines first threads port cycle)
  reflects_some_offers first [] = fails (λ some. elim (some.2) [ ]) refl
  reflects_some_offers first (thread ∷ rest) = same_fact there back (reflects_or (reflects_some (act_offered (machines first) thread.body port) (size thread.body) cycle) (reflects_some_offers (suc first) rest))
    where
      there : OfferedBy first thread ⊎ SomeOffers (suc first) rest → SomeOffers first (thread ∷ rest)
      there (inl here) = (0, thread, refl, subst (λ n. OfferedBy n thread) (sym (at_first first)) here)
      there (inr later) = (suc later.0, later.1, later.2, subst (λ n. OfferedBy n later.1) (from_next first later.0) later.3)

      by_number : (number : ℕ) (other : Thread) → IsThread (thread ∷ rest) number other → OfferedBy (first + number) other → OfferedBy first thread ⊎ SomeOffers (suc first) rest
      by_number zero other is_thread offered = let here : OfferedBy first other = subst (λ n. OfferedBy n other) (at_first first) offered in inl (subst (OfferedBy first) (sym is_thread) here)
      by_number (suc number) other is_thread offered = inr (number, other, is_thread, subst (λ n. OfferedBy n other) (sym (from_next first number)) offered)

      back : SomeOffers first (thread ∷ rest) → OfferedBy first thread ⊎ SomeOffers (suc first) rest
      back some = by_number some.0 some.1 some.2 some.3

module _ (machines : ℕ → ThreadMachine) (newest : ℕ → ℕ → ℕ → ℕ → Bool) (port cycle : ℕ) where
  -- what the thread of the number sends, or else the other data
  abbrev pub sends : (number : ℕ) → Thread → (other : ℕ) → ℕ
  sends number thread other = first_shown (λ place. newest number port place cycle) (λ place. (machines number).value place cycle) other 0 (size thread.body)

  abbrev pub SendsNothing : (number : ℕ) → Thread → Type 0
  SendsNothing number thread = (other : ℕ) → sends number thread other ≡ other

  pub none_sends : (first : ℕ) (threads : List Thread) → ((number : ℕ) (thread : Thread) → IsThread threads number thread → SendsNothing (first + number) thread) → data_sent machines newest first threads port cycle ≡ 0
  none_sends first [] none = refl
  none_sends first (thread ∷ rest) none =
      let nothing : SendsNothing first thread = subst (λ n. SendsNothing n thread) (at_first first) (none 0 thread refl) in
      nothing (data_sent machines newest (suc first) rest port cycle) ∙ none_sends (suc first) rest (λ number other is_thread. subst (λ n. SendsNothing n other) (sym (from_next first number)) (none (suc number) other is_thread))

  pub one_sends : (first : ℕ) (threads : List Thread) (number : ℕ) (thread : Thread) → IsThread threads number thread → (value : ℕ) → ((other : ℕ) → sends (first + number) thread other ≡ value)
      → ((earlier : ℕ) (other : Thread) → IsThread threads earlier other → earlier < number → SendsNothing (first + earlier) other) → data_sent machines newest first threads port cycle ≡ value
  one_sends first [] number thread is_thread value gives none = elim is_thread [ ]
  one_sends first (head ∷ rest) zero thread is_thread value gives none =
      rw is_thread (subst (λ n. sends n thread (data_sent machines newest (suc first) rest port cycle) ≡ value) (at_first first) (gives (data_sent machines newest (suc first) rest port cycle)))
  one_sends first (head ∷ rest) (suc number) thread is_thread value gives none =
      let nothing : SendsNothing first head = subst (λ n. SendsNothing n head) (at_first first) (none 0 head refl (omega arith)) in
      nothing (data_sent machines newest (suc first) rest port cycle)
      ∙ one_sends (suc first) rest number thread is_thread value (λ other. subst (λ n. sends n thread other ≡ value) (sym (from_next first number)) (gives other))
      (λ earlier other is_other before. subst (λ n. SendsNothing n other) (sym (from_next first earlier)) (none (suc earlier) other is_other (omega arith)))

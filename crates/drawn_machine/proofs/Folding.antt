-- What all threads do together is the same, told of the machines of the threads and of the threads as they are drawn: go through both in step.
use Rattle.std.proofs.Common.{◌≡◌, ℕ, zero, suc, ◌+◌, ◌<◌, Bool, List, [], ◌∷◌, length, refl, sym, ◌∙◌, ap, subst, arith}
use Rattle.std.specs.Prelude.{◌&&◌, ◌||◌, if◌then◌else◌, slice_get, Some}
use Rattle.core_term.specs.Numbering.{size}
use Rattle.core_term.specs.Process.{Thread, IsThread}
use Rattle.module_nets.specs.Shown.{Moment, shown}
use Rattle.module_nets.specs.Bits.{told}
use Rattle.module_nets.specs.Signals.{signal_at}
use Rattle.turn_pulses.specs.Latest.{some_begin, first_shown, last_write}
use Rattle.process_machine.specs.ThreadMachine.{ThreadMachine}
use Rattle.process_machine.specs.ProcessMachine.{set_begins, act_offered, written, is_offered, data_sent}
use Rattle.act_deeds.specs.Deeds.{deed_at}
use Rattle.machine_parts.specs.declared.thread.ThreadDraft.{ThreadDraft}
use Rattle.machine_parts.specs.Parts.{bit_at}
use Rattle.machine_parts.specs.Drafts.{begun_now, data_now, is_on, is_send, is_set, offered_now, port_offered, written_now}

if_same : (choice other : Bool) (a b c d : ℕ) → choice ≡ other → a ≡ c → b ≡ d → (if choice then a else b) ≡ (if other then c else d)
if_same choice other a b c d is first second = rw (is, first, second) refl

or_same : (a b c d : Bool) → a ≡ c → b ≡ d → (a || b) ≡ (c || d)
or_same a b c d first second = rw (first, second) refl

pub write_same : (begun also : ℕ → Bool) (value other : ℕ → ℕ) (old older count : ℕ)
    → ((act : ℕ) → act < count → begun act ≡ also act) → ((act : ℕ) → act < count → value act ≡ other act) → old ≡ older
    → last_write begun value old count ≡ last_write also other older count
write_same begun also value other old older zero begins values same = same
write_same begun also value other old older (suc act) begins values same =
    if_same _ _ _ _ _ _ (begins act (omega arith)) (values act (omega arith))
    (write_same begun also value other old older act (λ k less. begins k (omega (arith, less))) (λ k less. values k (omega (arith, less))) same)

pub some_same : (begun also : ℕ → ℕ → Bool) (count cycle : ℕ) → ((act : ℕ) → act < count → begun act cycle ≡ also act cycle)
    → some_begin begun count cycle ≡ some_begin also count cycle
some_same begun also zero cycle begins = refl
some_same begun also (suc act) cycle begins =
    or_same _ _ _ _ (some_same begun also act cycle (λ k less. begins k (omega (arith, less)))) (begins act (omega arith))

pub first_same : (is also : ℕ → Bool) (value other : ℕ → ℕ) (none no_other from many : ℕ)
    → ((act : ℕ) → act < from + many → is act ≡ also act) → ((act : ℕ) → act < from + many → value act ≡ other act) → none ≡ no_other
    → first_shown is value none from many ≡ first_shown also other no_other from many
first_same is also value other none no_other from zero shows values same = same
first_same is also value other none no_other from (suc fewer) shows values same =
    if_same _ _ _ _ _ _ (shows from (omega arith)) (values from (omega arith))
    (first_same is also value other none no_other (from + 1) fewer (λ k less. shows k (omega (arith, less))) (λ k less. values k (omega (arith, less))) same)

-- what the machine of a thread does in a cycle is what the thread does that is drawn
pub record DoesSame (now : Moment) (machine : ThreadMachine) (newest : (port site cycle : ℕ) → Bool) (thread : Thread) (draft : ThreadDraft) : Type 0 where
  pub count : length draft.plan.now.deeds.items ≡ size thread.body
  pub sets : (register site : ℕ) → site < size thread.body
      → set_begins machine thread.body register site now.cycle
      ≡ (is_set register (deed_at draft.plan.now.deeds.items site) && begun_now now draft.plan.now draft.nets.pulses.items site)
  pub offers : (port site : ℕ) → site < size thread.body
      → act_offered machine thread.body port site now.cycle
      ≡ (is_on port (deed_at draft.plan.now.deeds.items site) && offered_now now draft.plan.now draft.nets.pulses.items site)
  pub newest_is : (port site : ℕ) → site < size thread.body
      → newest port site now.cycle ≡ (is_send port (deed_at draft.plan.now.deeds.items site) && told now (bit_at draft.newest.items site))
  pub values : (site : ℕ) → machine.value site now.cycle ≡ shown now (signal_at draft.nets.values.items site)

module _ (now : Moment) (machines : ℕ → ThreadMachine) (newest : (thread port site cycle : ℕ) → Bool) where
  abbrev pub InStep : (first : ℕ) → List Thread → List ThreadDraft → Type 0
  InStep first threads drafts =
      (length drafts ≡ length threads)
      × ((number : ℕ) (thread : Thread) (draft : ThreadDraft) → IsThread threads number thread → slice_get drafts number ≡ Some draft
      → DoesSame now (machines (first + number)) (newest (first + number)) thread draft)

  head_same : (first : ℕ) (thread : Thread) (threads : List Thread) (draft : ThreadDraft) (drafts : List ThreadDraft)
      → InStep first (thread ∷ threads) (draft ∷ drafts) → DoesSame now (machines first) (newest first) thread draft
  head_same first thread threads draft drafts step =
      let zero_more : first + 0 ≡ first = omega arith in
      subst (λ number. DoesSame now (machines number) (newest number) thread draft) zero_more (step.1 0 thread draft refl refl)

  rest_same : (first : ℕ) (thread : Thread) (threads : List Thread) (draft : ThreadDraft) (drafts : List ThreadDraft)
      → InStep first (thread ∷ threads) (draft ∷ drafts) → InStep (suc first) threads drafts
  rest_same first thread threads draft drafts step = (
    let count = step.0 in omega (arith, count),
    λ number other also is_thread at.
        let one_more : first + suc number ≡ suc first + number = omega arith in
        subst (λ number. DoesSame now (machines number) (newest number) other also) one_more (step.1 (suc number) other also is_thread at),
  )

  pub written_same : (first : ℕ) (threads : List Thread) (drafts : List ThreadDraft) → InStep first threads drafts → (register shown_now taken : ℕ) → shown_now ≡ taken
      → written machines first threads register now.cycle shown_now ≡ written_now now drafts register taken
  written_same first [] [] step register shown_now taken same = same
  written_same first [] (draft ∷ drafts) step register shown_now taken same = absurd (let count = step.0 in omega (arith, count))
  written_same first (thread ∷ threads) [] step register shown_now taken same = absurd (let count = step.0 in omega (arith, count))
  written_same first (thread ∷ threads) (draft ∷ drafts) step register shown_now taken same =
      let does = head_same first thread threads draft drafts step in
      let here = write_same (λ place. set_begins (machines first) thread.body register place now.cycle)
      (λ site. is_set register (deed_at draft.plan.now.deeds.items site) && begun_now now draft.plan.now draft.nets.pulses.items site)
      (λ place. (machines first).value place now.cycle) (λ site. shown now (signal_at draft.nets.values.items site)) shown_now taken (size thread.body)
      (λ act less. does.sets register act less) (λ act less. does.values act) same in
      let counted = ap (λ count. last_write (λ site. is_set register (deed_at draft.plan.now.deeds.items site) && begun_now now draft.plan.now draft.nets.pulses.items site) (λ site. shown now (signal_at draft.nets.values.items site)) taken count) (sym does.count) in
      written_same (suc first) threads drafts (rest_same first thread threads draft drafts step) register _ _ (here ∙ counted)

  pub offered_same : (first : ℕ) (threads : List Thread) (drafts : List ThreadDraft) → InStep first threads drafts → (port : ℕ)
      → is_offered machines first threads port now.cycle ≡ port_offered now drafts port
  offered_same first [] [] step port = refl
  offered_same first [] (draft ∷ drafts) step port = absurd (let count = step.0 in omega (arith, count))
  offered_same first (thread ∷ threads) [] step port = absurd (let count = step.0 in omega (arith, count))
  offered_same first (thread ∷ threads) (draft ∷ drafts) step port =
      let does = head_same first thread threads draft drafts step in
      let here = some_same (act_offered (machines first) thread.body port)
      (λ site cycle. is_on port (deed_at draft.plan.now.deeds.items site) && offered_now now draft.plan.now draft.nets.pulses.items site)
      (size thread.body) now.cycle (λ act less. does.offers port act less) in
      let counted = ap (λ count. some_begin (λ site cycle. is_on port (deed_at draft.plan.now.deeds.items site) && offered_now now draft.plan.now draft.nets.pulses.items site) count now.cycle) (sym does.count) in
      or_same _ _ _ _ (here ∙ counted) (offered_same (suc first) threads drafts (rest_same first thread threads draft drafts step) port)

  pub data_same : (first : ℕ) (threads : List Thread) (drafts : List ThreadDraft) → InStep first threads drafts → (port : ℕ)
      → data_sent machines newest first threads port now.cycle ≡ data_now now drafts port
  data_same first [] [] step port = refl
  data_same first [] (draft ∷ drafts) step port = absurd (let count = step.0 in omega (arith, count))
  data_same first (thread ∷ threads) [] step port = absurd (let count = step.0 in omega (arith, count))
  data_same first (thread ∷ threads) (draft ∷ drafts) step port =
      let does = head_same first thread threads draft drafts step in
      let rest = data_same (suc first) threads drafts (rest_same first thread threads draft drafts step) port in
      let here = first_same (λ place. newest first port place now.cycle)
      (λ site. is_send port (deed_at draft.plan.now.deeds.items site) && told now (bit_at draft.newest.items site))
      (λ place. (machines first).value place now.cycle) (λ site. shown now (signal_at draft.nets.values.items site)) _ _ 0 (size thread.body)
      (λ act less. does.newest_is port act (omega (arith, less))) (λ act less. does.values act) rest in
      here ∙ ap (λ count. first_shown (λ site. is_send port (deed_at draft.plan.now.deeds.items site) && told now (bit_at draft.newest.items site)) (λ site. shown now (signal_at draft.nets.values.items site)) (data_now now drafts port) 0 count) (sym does.count)

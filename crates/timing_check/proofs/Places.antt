-- The places of the two sites of the first violation of a file.
use Rattle.std.proofs.Common.{◌≡◌, ℕ, ◌<◌, arith, refl, sym, ◌∙◌, ap, subst, List, [], length, get_or, slice_get, Some}
use Rattle.std.proofs.lemmas.Option.{slice_get-get_or}
use Rattle.core_term.specs.declared.term.CoreTerm.{CoreTerm}
use Rattle.core_term.specs.declared.process.CoreProc.{CoreProc}
use Rattle.core_term.specs.Term.{Term}
use Rattle.core_term.specs.Numbering.{size, Numbered}
use Rattle.core_term.specs.View.{term_of, places_of}
use Rattle.core_term.specs.Body.{IsBody}
use Rattle.core_term.specs.Process.{Process, Thread, IsThread}
use Rattle.core_term.specs.AcceptedFile.{process_in, file_of}
use Rattle.core_term.proofs.code_tables.Counted.{counted}
use Rattle.demand_checks.proofs.Pointed.{body_is, widths_in}
use Rattle.timing_check.specs.declared.files.InFile.{InFile}
use Rattle.timing_check.specs.OfFile.{IsFirstInFile}
use Rattle.timing_check.specs.Refusal.{IsPlace, IsRejection}
use Rattle.timing_check.proofs.Processes.{thread_is, thread_below, thread_count, nth_one, nth_there}
use Rattle.timing_check.proofs.Heads.{first_heads}
use Rattle.timing_check.proofs.Rejections.{broken_of, first_of_file, sites_inside}

module _ (procs : List CoreProc) (found : InFile) (is : IsFirstInFile (file_of procs) found) (proc : CoreProc) (at : slice_get procs found.process ≡ Some proc) where
  same_process : is.process ≡ process_in proc
  same_process = nth_one (file_of procs) found.process is.process (process_in proc) is.is_process (nth_there procs found.process proc at)

  the_thread : IsThread (process_in proc).threads found.found.thread is.is_first.thread
  the_thread = let Of : Process → Type 0 = λ p. IsThread p.threads found.found.thread is.is_first.thread in subst Of same_process is.is_first.is_thread

  pub thread_inside : found.found.thread < length proc.threads.items
  thread_inside =
      let count = thread_count proc in
      let below = thread_below (process_in proc).threads found.found.thread is.is_first.thread the_thread in
      omega arith

  module _ (core : CoreTerm) (core_at : slice_get proc.threads.items found.found.thread ≡ Some core) (body : IsBody core) where
    same_body : term_of (widths_in proc) core ≡ is.is_first.thread.body
    same_body = sym (body_is proc found.found.thread core core_at) ∙ ap (λ (thread : Thread). thread.body) (thread_is (process_in proc).threads found.found.thread is.is_first.thread the_thread)

    pub sites_there : (found.found.violation.first < length (places_of core)) × (found.found.violation.second < length (places_of core))
    sites_there =
        let IsNumbered : Term → Type 0 = λ t. Numbered [] 0 t in
        let numbered = subst IsNumbered same_body (body.numbered (widths_in proc)) in
        let small = sites_inside is.process found.found.thread is.is_first.thread.body numbered found.found.violation.rule found.found.violation.first found.found.violation.second is.is_first.is_first.fails in
        let same = ap size same_body in
        let places = counted (widths_in proc) core in
        let first = small.0 in
        let second = small.1 in (omega arith, omega arith)

    place_at : (site place : ℕ) → site < length (places_of core) → place ≡ get_or (places_of core) site 0 → IsPlace procs found.process found.found.thread site place
    place_at site place inside read = (proc, at, core, core_at, slice_get-get_or (places_of core) site 0 inside ∙ ap (λ (n : ℕ). Some n) (sym read))

    pub rejected : (first second : ℕ) → first ≡ get_or (places_of core) found.found.violation.first 0 → second ≡ get_or (places_of core) found.found.violation.second 0
        → IsRejection procs found.found.violation.rule first second
    rejected first second first_read second_read =
        record {
          violation = broken_of found;
          is_first = first_of_file (file_of procs) found is;
          heads = λ list lists. first_heads (file_of procs) (broken_of found) (first_of_file (file_of procs) found is) list lists;
          rule_is = refl;
          first_at = place_at found.found.violation.first first sites_there.0 first_read;
          second_at = place_at found.found.violation.second second sites_there.1 second_read;
        }

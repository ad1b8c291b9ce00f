-- The sums over one process more.
use Rattle.std.proofs.Common.{◌≡◌, ◌∙◌, ℕ, ◌+◌, ◌<◌, List, [], ◌∷◌, ◌++◌, length, get_or, take, refl, ap, sym, subst, arith}
use Rattle.std.specs.List.{sum_by}
use Rattle.std.proofs.lemmas.List.Sums.{sum_by-append, sum_by-cons}
use Rattle.std.proofs.lemmas.List.{length-map, length-take, map_push, take_more}
use Rattle.core_term.specs.declared.process.CoreProc.{CoreProc}
use Rattle.core_term.specs.AcceptedFile.{file_of, process_in}
use Rattle.core_term.specs.Process.{Process}
use Rattle.run_counts.specs.declared.counts.Counts.{Counts}
use Rattle.generated_runs.specs.Totals.{AreCounted, IsCounted, IsTotalOf, exchanges_of, registers_of}

counted_more : (index : ℕ) (processes : List Process) (each : List Counts) (p : Process) (counts : Counts) → AreCounted index processes each
    → IsCounted (index + length processes) p counts → AreCounted index (processes ++ p ∷ []) (each ++ counts ∷ [])
counted_more index [] [] p counts are is = (subst (λ i. IsCounted i p counts) (omega arith) is, tt)
counted_more index [] (first ∷ each) p counts are is = absurd are
counted_more index (first ∷ processes) [] p counts are is = absurd are
counted_more index (first ∷ processes) (one ∷ each) p counts (here, rest) is =
    (here, counted_more (index + 1) processes each p counts rest (subst (λ i. IsCounted i p counts) (omega arith) is))

sum_more : (f : Counts → ℕ) (each : List Counts) (counts : Counts) → sum_by f (each ++ counts ∷ []) ≡ sum_by f each + f counts
sum_more f each counts =
    let last = sum_by-cons f counts [] in
    let none : sum_by f [] ≡ 0 = refl in
    omega (arith, sum_by-append f each (counts ∷ []), last, none)

abbrev pub counts_by : (exchanges registers : ℕ) → Counts
counts_by exchanges registers = record { exchanges = exchanges; registers = registers }

pub total_more : (procs : List CoreProc) (index : ℕ) (proc : CoreProc) (exchanges registers : ℕ) (counts : Counts) → index < length procs → proc ≡ get_or procs index proc
    → IsTotalOf (file_of (take index procs)) (counts_by exchanges registers) → IsCounted index (process_in proc) counts
    → IsTotalOf (file_of (take (index + 1) procs)) (counts_by (exchanges + counts.exchanges) (registers + counts.registers))
total_more procs index proc exchanges registers counts inside is so_far here =
    let longer : file_of (take (index + 1) procs) ≡ file_of (take index procs) ++ process_in proc ∷ [] =
    ap file_of (take_more procs index proc inside ∙ ap (λ one. take index procs ++ one ∷ []) (sym is)) ∙ map_push process_in (take index procs) proc in
    let long : index ≡ 0 + length (file_of (take index procs)) =
    omega (arith, length-map (take index procs) process_in, length-take index procs, inside) in
    record {
      each = so_far.each ++ counts ∷ [];
      counted = subst (λ processes. AreCounted 0 processes (so_far.each ++ counts ∷ [])) (sym longer)
          (counted_more 0 (file_of (take index procs)) so_far.each (process_in proc) counts so_far.counted (subst (λ i. IsCounted i (process_in proc) counts) long here));
      is =
          let exchanges_now = ap exchanges_of so_far.is in
          let registers_now = ap registers_of so_far.is in
          let first : exchanges + counts.exchanges ≡ sum_by exchanges_of (so_far.each ++ counts ∷ []) = omega (arith, exchanges_now, sum_more exchanges_of so_far.each counts) in
          let second : registers + counts.registers ≡ sum_by registers_of (so_far.each ++ counts ∷ []) = omega (arith, registers_now, sum_more registers_of so_far.each counts) in
          λ i. counts_by (first i) (second i);
    }

-- The first violation of the first thread of the first process that has one is the first of the file; its sites are those of acts.
use Rattle.std.proofs.Common.{◌≡◌, ℕ, ◌<◌, ◌⊎◌, inl, inr, arith, refl, sym, ◌∙◌, ap, subst, List, []}
use Rattle.std.specs.Prelude.{ℤ}
use Rattle.order_rules.specs.Standing.{IsPoint}
use Rattle.core_term.specs.declared.rules.Rule.{Rule}
use Rattle.core_term.specs.declared.rules.Violation.{Violation}
use Rattle.core_term.specs.Term.{Term, Act, Cycle, Set, Send, Recv, If, When, Block, Wait, Pure, Nothing, head}
use Rattle.core_term.specs.Numbering.{size, Numbered}
use Rattle.core_term.specs.Order.{Point, HasForm}
use Rattle.core_term.specs.Process.{Process, Thread, IsThread}
use Rattle.core_term.specs.Rules.{Claim, Demands, Meets, use_by, begin_of, end_of, next_begin_of, made, sets, receives, sends, sends_next, wire_within, wire_until, set_elsewhere, set_here, choice}
use Rattle.core_term.specs.Graph.{IsOfText}
use Rattle.core_term.specs.Violations.{Broken, IsBroken, ComesBefore, IsNth}
use Rattle.run_laws.proofs.graph_tables.OfText.{of_text}
use Rattle.demand_checks.specs.Found.{Fails, ComesEarlier}
use Rattle.demand_checks.proofs.Inside.{point_small}
use Rattle.demand_checks.proofs.Numbers.{site_below}
use Rattle.timing_check.specs.declared.files.InFile.{InFile}
use Rattle.timing_check.specs.OfThread.{violation}
use Rattle.timing_check.specs.OfFile.{IsFirstBroken, IsFirstInFile}
use Rattle.timing_check.proofs.Processes.{thread_is, nth_one}

-- the record of a file
abbrev pub broken_of : InFile → Broken
broken_of found =
    record {
      process = found.process;
      thread = found.found.thread;
      rule = found.found.violation.rule;
      first = found.found.violation.first;
      second = found.found.violation.second;
    }

three_ways : (a b : ℕ) → (a < b) ⊎ ((a ≡ b) ⊎ (b < a))
three_ways a b = grind arith

one_thread : (threads : List Thread) (j : ℕ) (one other : Thread) → IsThread threads j one → IsThread threads j other → one ≡ other
one_thread threads j one other is also = sym (thread_is threads j one is) ∙ thread_is threads j other also

module _ (file : List Process) (found : InFile) (is : IsFirstInFile file found) where
  abbrev Place : Broken → Type 0
  Place w = (w ≡ broken_of found) ⊎ ComesBefore (broken_of found) w

  -- of the same thread
  in_thread : (w : Broken) → found.process ≡ w.process → found.found.thread ≡ w.thread
      → (violation w.rule w.first w.second ≡ found.found.violation) ⊎ ComesEarlier found.found.violation (violation w.rule w.first w.second) → Place w
  in_thread w process thread (inl same) =
      let rule : w.rule ≡ found.found.violation.rule = ap (λ (v : Violation). v.rule) same in
      let first : w.first ≡ found.found.violation.first = ap (λ (v : Violation). v.first) same in
      let second : w.second ≡ found.found.violation.second = ap (λ (v : Violation). v.second) same in
      let whole : record { process = w.process; thread = w.thread; rule = w.rule; first = w.first; second = w.second } ≡ broken_of found = rw (sym process, sym thread, rule, first, second) refl in
      inl whole
  in_thread w process thread (inr later) = inr (inr (process, inr (thread, later)))

  module _ (w : Broken) (broken : IsBroken file w) where
    -- a thread or a process that keeps its demands has none
    by_thread : (same : found.process ≡ w.process) → broken.process ≡ is.process → (w.thread < found.found.thread) ⊎ ((w.thread ≡ found.found.thread) ⊎ (found.found.thread < w.thread)) → Place w
    by_thread same process (inl earlier) =
        let Of : Process → Type 0 = λ p. IsThread p.threads w.thread broken.thread in
        let There : Process → Type 0 = λ p. Meets p w.thread broken.thread.body in
        let keeps = is.is_first.before w.thread earlier broken.thread (subst Of process broken.is_thread) in
        let kept : Meets broken.process w.thread broken.thread.body = subst There (sym process) keeps in
        absurd (broken.fails (kept w.rule w.first w.second broken.claim broken.demanded))
    by_thread same process (inr (inl at)) =
        let Of : Process → Type 0 = λ p. IsThread p.threads w.thread broken.thread in
        let Nth : ℕ → Type 0 = λ j. IsThread is.process.threads j broken.thread in
        let thread = one_thread is.process.threads found.found.thread broken.thread is.is_first.thread (subst Nth at (subst Of process broken.is_thread)) is.is_first.is_thread in
        let InProcess : Process → Type 0 = λ p. Fails p w.thread broken.thread.body w.rule w.first w.second in
        let InThread : ℕ → Type 0 = λ j. Fails is.process j broken.thread.body w.rule w.first w.second in
        let InBody : Thread → Type 0 = λ t. Fails is.process found.found.thread t.body w.rule w.first w.second in
        let here : Fails broken.process w.thread broken.thread.body w.rule w.first w.second = record { claim = broken.claim; demanded = broken.demanded; fails = broken.fails } in
        in_thread w same (sym at) (is.is_first.is_first.first w.rule w.first w.second (subst InBody thread (subst InThread at (subst InProcess process here))))
    by_thread same process (inr (inr later)) = inr (inr (same, inl later))

    by_process : (w.process < found.process) ⊎ ((w.process ≡ found.process) ⊎ (found.process < w.process)) → Place w
    by_process (inl earlier) =
        absurd (broken.fails (is.before w.process earlier broken.process broken.is_process w.thread broken.thread broken.is_thread w.rule w.first w.second broken.claim broken.demanded))
    by_process (inr (inl at)) =
        let Nth : ℕ → Type 0 = λ i. IsNth file i broken.process in
        by_thread (sym at) (nth_one file found.process broken.process is.process (subst Nth at broken.is_process) is.is_process) (three_ways w.thread found.found.thread)
    by_process (inr (inr later)) = inr (inl later)

  pub first_of_file : IsFirstBroken file (broken_of found)
  first_of_file =
      record {
        broken = record {
          process = is.process;
          is_process = is.is_process;
          thread = is.is_first.thread;
          is_thread = is.is_first.is_thread;
          claim = is.is_first.is_first.fails.claim;
          demanded = is.is_first.is_first.fails.demanded;
          fails = is.is_first.is_first.fails.fails;
        };
        first = λ w broken. by_process w broken (three_ways w.process found.process);
      }

-- the sites of a demand are those of acts
use_point : (body : Term) (a : Act) (d : ℤ) (b : Point) → IsOfText body (use_by a d b) → IsPoint Point (HasForm body) b
use_point body (Send q m e) d b of = of.1
use_point body (Set q r e) d b of = of.1
use_point body (If q e t u w) d b of = of.1
use_point body (When q e t) d b of = of.1
use_point body (Cycle q n) d b of = of.1
use_point body (Recv q m) d b of = of.1
use_point body (Block q t) d b of = of.1
use_point body (Wait q y) d b of = of.1
use_point body (Pure q e) d b of = of.1
use_point body (Nothing q) d b of = of.1

module _ (p : Process) (j : ℕ) (body : Term) (numbered : Numbered [] 0 body) where
  inside : (rule : Rule) (first second : ℕ) (claim : Claim) → Demands p j body rule first second claim → IsOfText body claim → (first < size body) × (second < size body)
  inside _ _ _ _ (made scope u y stands reads) of = (point_small body numbered _ of.1, point_small body numbered _ of.0)
  inside _ _ _ _ (sets q r register one other less) of = (point_small body numbered _ of.0.0, point_small body numbered _ of.0.1)
  inside _ _ _ _ (receives q r m one other less) of = (point_small body numbered _ of.0.0, point_small body numbered _ of.0.1)
  inside _ _ _ _ (sends q r m one other less) of = (point_small body numbered _ of.0.0, point_small body numbered _ of.0.1)
  inside _ _ _ _ (sends_next q r m one other) of = (point_small body numbered _ of.0, point_small body numbered _ of.1)
  inside _ _ _ _ (wire_within u q m k rests received has) of = (site_below body u rests.scope numbered rests.stands, point_small body numbered _ (use_point body (head u) _ (end_of q) of))
  inside _ _ _ _ (wire_until u q m n w rests received has on) of = (site_below body u rests.scope numbered rests.stands, point_small body numbered _ (use_point body (head u) _ (end_of q) of.0))
  inside _ _ _ _ (set_elsewhere u q r i w other rests thread differs written) of = (site_below body u rests.scope numbered rests.stands, point_small body numbered _ (use_point body (head u) _ (begin_of q) of))
  inside _ _ _ _ (set_here u q r w rests written) of = (site_below body u rests.scope numbered rests.stands, point_small body numbered _ (use_point body (head u) _ (begin_of q) of.0))
  inside _ _ _ _ (choice u q rests) of = (site_below body u rests.scope numbered rests.stands, point_small body numbered _ (use_point body (head u) _ (next_begin_of q) of))

  pub sites_inside : (rule : Rule) (first second : ℕ) → Fails p j body rule first second → (first < size body) × (second < size body)
  sites_inside rule first second fails = inside rule first second fails.claim fails.demanded (of_text body numbered p j rule first second fails.claim fails.demanded)

-- Threads one after the other: what stands after some of them, and how a thread is read from its walk and its tail.
use Rattle.std.proofs.Common.{◌≡◌, ◌∙◌, ◌⊎◌, ◌+◌, ◌<◌, ◌≤◌, ℕ, true, List, [], ◌∷◌, ◌++◌, None, Some, length, map, drop, get_or, refl, ap, sym, subst, inl, inr, arith, append_assoc, add-one, suc, zero}
use Rattle.std.proofs.lemmas.List.{append-nil}
use Rattle.std.specs.List.{AllByRecursion}
use Rattle.anvil_tree.specs.declared.term.Term.{Term}
use Rattle.anvil_tree.specs.Tree as tree
use Rattle.anvil_tree.specs.View as view
use Rattle.anvil_tree.specs.Few.{ThreadIsFew}
use Rattle.anvil_tree.specs.Order.{NeverFall, acts_of_term}
use Rattle.core_term.specs.declared.term.CoreTerm.{CoreTerm}
use Rattle.core_term.specs.Body.{IsBody}
use Rattle.core_term.specs.Lists.{Has}
use Rattle.core_term.specs.Process.{Thread}
use Rattle.core_term.specs.ProcessView.{thread_of}
use Rattle.core_term.specs.Numbering.{size}
use Rattle.core_term.specs.Term as term
use Rattle.core_term.specs.Sized.{words_fit}
use Rattle.core_term.specs.View.{term_of, places_of}
use Rattle.first_check.specs.Check.{first_refusal}
use Rattle.first_check.proofs.Walks.{passes, stops}
use Rattle.first_check.proofs.Fails.{all_hold}
use Rattle.core_file.specs.Scope.{Scope}
use Rattle.core_file.specs.CoreProcess.{thread_from}
use Rattle.core_file.specs.CoreTerm.{core_term}
use Rattle.core_file.specs.TermChecks.{Taken, term_checks}
use Rattle.core_file.specs.TailChecks.{tail_checks}
use Rattle.core_file.specs.ThreadChecks.{none_taken, registers_set, endpoints_named, taken_with, threads_checks}
use Rattle.core_file.specs.declared.error.NameErr.{NameErr}
use Rattle.core_file.specs.declared.error.NameErr.TheVariants.{NoMemory}
use Rattle.core_file.proofs.Held.{term_held, tail_held}
use Rattle.core_file.proofs.ThreadBody.{is_body}
use Rattle.channel_classes.proofs.Table.{map_more}
use Rattle.term_check.specs.Read.{TermRead, TermFails}
use Rattle.width_check.specs.ReadThreads.{ThreadRead, ThreadFails, ThreadsRead, ThreadsFail}
use Rattle.term_check.specs.Taken.{Takes}
use Rattle.width_check.proofs.Alike.{Alike, same_alike, term_alike, more_alike}

-- One thread.

pub body_of : (scope : Scope) (taken : Taken) (written : tree.Term) (read : CoreTerm) (width next : ℕ) → scope.variables ≡ []
    → TermRead scope taken 0 written read width next → first_refusal (tail_checks written) ≡ None → ThreadIsFew written → NeverFall (acts_of_term written) → IsBody read
body_of scope taken written read width next none walk tail few order =
    is_body scope taken written scope.widths read none
    (term_held scope taken 0 written (all_hold (term_checks scope taken 0 written) walk.passes))
    (tail_held written (all_hold (tail_checks written) tail)) few.0 order walk.same walk.places

pub thread_read : (scope : Scope) (taken more : Taken) (written : tree.Term) (read : CoreTerm) (width next : ℕ)
    → TermRead scope taken 0 written read width next → first_refusal (tail_checks written) ≡ None → Takes taken (registers_set written) (endpoints_named written) more
    → ThreadRead scope taken written read more
thread_read scope taken more written read width next walk tail takes =
    record { passes = walk.passes; tail = tail; same = walk.same; words = walk.words; places = walk.places; takes = takes }

pub thread_memory : (scope : Scope) (taken : Taken) (written : tree.Term) (fault : NameErr) → fault ≡ NoMemory → ThreadFails scope taken written fault
thread_memory scope taken written fault none = record { why = inl none }

pub walk_fails : (scope : Scope) (taken : Taken) (written : tree.Term) (fault : NameErr) → TermFails scope taken 0 written fault → ThreadFails scope taken written fault
walk_fails scope taken written fault fails = record {
  why = elim (fails.why) [ inl none ↦ inl none | inr some ↦ inr (stops (term_checks scope taken 0 written) (tail_checks written) fault some) ];
}

pub tail_fails : (scope : Scope) (taken : Taken) (written : tree.Term) (read : CoreTerm) (width next : ℕ) (fault : NameErr)
    → TermRead scope taken 0 written read width next → first_refusal (tail_checks written) ≡ Some fault → ThreadFails scope taken written fault
tail_fails scope taken written read width next fault walk some =
    record { why = inr (passes (term_checks scope taken 0 written) (tail_checks written) walk.passes ∙ some) }

-- All of them.

pub record Standing (scope : Scope) (all : List tree.Term) (taken : Taken) (read : List CoreTerm) (rest : List tree.Term) : Type 0 where
  pub earlier : Taken
  pub alike : Alike earlier taken
  pub refused : first_refusal (threads_checks scope none_taken all) ≡ first_refusal (threads_checks scope earlier rest)
  pub same : map (thread_from scope) all ≡ map (thread_of scope.widths) read ++ map (thread_from scope) rest
  pub places : map acts_of_term all ≡ map places_of read ++ map acts_of_term rest
  pub words : (body : CoreTerm) → Has read body → words_fit scope.widths body ≡ true
  pub few : AllByRecursion ThreadIsFew rest
  pub in_order : AllByRecursion (λ term. NeverFall (acts_of_term term)) rest

pub begins : (scope : Scope) (all : List tree.Term) (taken : Taken) → taken ≡ none_taken → AllByRecursion ThreadIsFew all
    → AllByRecursion (λ term. NeverFall (acts_of_term term)) all → Standing scope all taken [] all
begins scope all taken none few order = record {
  earlier = none_taken;
  alike = subst (Alike none_taken) (sym none) (same_alike none_taken);
  refused = refl;
  same = refl;
  places = refl;
  words = λ body has. elim has [ ];
  few = few;
  in_order = order;
}

same_thread : (scope : Scope) (written : tree.Term) (read : CoreTerm) → term_of scope.widths read ≡ core_term scope 0 written
    → thread_from scope written ≡ thread_of scope.widths read
same_thread scope written read same =
    let made : term.Term → Thread = λ body. record { body = body; count = size body } in
    ap made (sym same)

has_more : (read : List CoreTerm) (body other : CoreTerm) → Has (read ++ (body ∷ [])) other → Has read other ⊎ (other ≡ body)
has_more [] body other (inl here) = inr here
has_more [] body other (inr has) = elim has [ ]
has_more (first ∷ read) body other (inl here) = inl (inl here)
has_more (first ∷ read) body other (inr has) = elim (has_more read body other has) [ inl there ↦ inl (inr there) | inr last ↦ inr last ]

pub past : (scope : Scope) (all : List tree.Term) (taken more : Taken) (read : List CoreTerm) (thread : tree.Term) (body : CoreTerm) (rest : List tree.Term)
    → Standing scope all taken read (thread ∷ rest) → ThreadRead scope taken thread body more → Standing scope all more (read ++ (body ∷ [])) rest
past scope all taken more read thread body rest s one = record {
  earlier = taken_with s.earlier thread;
  alike = more_alike s.earlier taken more thread s.alike one.takes;
  refused =
      s.refused
      ∙ ap (λ checks. first_refusal (checks ++ (tail_checks thread ++ threads_checks scope (taken_with s.earlier thread) rest))) (term_alike scope s.earlier taken 0 thread s.alike)
      ∙ passes (term_checks scope taken 0 thread) _ one.passes ∙ passes (tail_checks thread) _ one.tail;
  same = s.same ∙ ap (λ t. map (thread_of scope.widths) read ++ (t ∷ map (thread_from scope) rest)) (same_thread scope thread body one.same)
      ∙ rw (map_more (thread_of scope.widths) read body, append_assoc) refl;
  places = s.places ∙ ap (λ t. map places_of read ++ (t ∷ map acts_of_term rest)) (sym one.places) ∙ rw (map_more places_of read body, append_assoc) refl;
  words = λ other has. elim (has_more read body other has) [ inl there ↦ s.words other there | inr last ↦ ap (words_fit scope.widths) last ∙ one.words ];
  few = s.few.1;
  in_order = s.in_order.1;
}

joined_again : (scope : Scope) (earlier : Taken) (thread : tree.Term) (rest : List tree.Term)
    → threads_checks scope earlier (thread ∷ rest) ≡ (term_checks scope earlier 0 thread ++ tail_checks thread) ++ threads_checks scope (taken_with earlier thread) rest
joined_again scope earlier thread rest = rw append_assoc refl

pub one_fails : (scope : Scope) (all : List tree.Term) (taken : Taken) (read : List CoreTerm) (thread : tree.Term) (rest : List tree.Term) (fault : NameErr)
    → Standing scope all taken read (thread ∷ rest) → ThreadFails scope taken thread fault → ThreadsFail scope all fault
one_fails scope all taken read thread rest fault s fails = record {
  why = elim (fails.why) [
    | inl none ↦ inl none
    | inr some ↦ inr (s.refused ∙ ap first_refusal (joined_again scope s.earlier thread rest)
        ∙ ap (λ checks. first_refusal ((checks ++ tail_checks thread) ++ threads_checks scope (taken_with s.earlier thread) rest)) (term_alike scope s.earlier taken 0 thread s.alike)
        ∙ stops (term_checks scope taken 0 thread ++ tail_checks thread) _ fault some)
  ];
}

pub all_read : (scope : Scope) (all : List tree.Term) (taken : Taken) (read : List CoreTerm) → Standing scope all taken read [] → ThreadsRead scope all read
all_read scope all taken read s = record {
  passes = s.refused;
  same = sym (s.same ∙ append-nil (map (thread_of scope.widths) read));
  words = s.words;
  places = sym (s.places ∙ append-nil (map places_of read));
}

next_by : (threads : List Term) (index : ℕ) (thread : Term) → index < length threads → thread ≡ get_or threads index thread
    → drop index (map view.term_of threads) ≡ view.term_of thread ∷ drop (suc index) (map view.term_of threads)
next_by [] index thread inside is = absurd (omega arith)
next_by (first ∷ threads) zero thread inside is = ap (λ t. view.term_of t ∷ map view.term_of threads) (sym is)
next_by (first ∷ threads) (suc index) thread inside is = next_by threads index thread (omega arith) is

-- the thread of the index comes next
pub next : (scope : Scope) (taken : Taken) (read : List CoreTerm) (threads : List Term) (index : ℕ) (thread : Term) → index < length threads → thread ≡ get_or threads index thread
    → Standing scope (map view.term_of threads) taken read (drop index (map view.term_of threads))
    → Standing scope (map view.term_of threads) taken read (view.term_of thread ∷ drop (index + 1) (map view.term_of threads))
next scope taken read threads index thread inside is standing =
    subst (Standing scope (map view.term_of threads) taken read)
    (next_by threads index thread inside is ∙ ap (λ n. view.term_of thread ∷ drop n (map view.term_of threads)) (sym (add-one index))) standing

nothing_left : (threads : List Term) (index : ℕ) → length threads ≤ index → drop index (map view.term_of threads) ≡ []
nothing_left [] index behind = drop_nil index
  where
    drop_nil : (index : ℕ) → drop index (map view.term_of []) ≡ []
    drop_nil zero = refl
    drop_nil (suc index) = refl
nothing_left (first ∷ threads) zero behind = absurd (omega arith)
nothing_left (first ∷ threads) (suc index) behind = nothing_left threads index (omega arith)

pub ends : (scope : Scope) (taken : Taken) (read : List CoreTerm) (threads : List Term) (index : ℕ) → length threads ≤ index
    → Standing scope (map view.term_of threads) taken read (drop index (map view.term_of threads)) → ThreadsRead scope (map view.term_of threads) read
ends scope taken read threads index behind standing =
    all_read scope (map view.term_of threads) taken read (subst (Standing scope (map view.term_of threads) taken read) (nothing_left threads index behind) standing)

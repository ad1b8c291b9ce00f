-- The arms of a chain and of an `if`, each by the lemma on what was read of its parts.
use Rattle.std.proofs.lemmas.Result.{err_from_is_err_and}
use Rattle.anvil_tree.specs.View.{act_at, expr_of, term_of, else_of}
use Rattle.anvil_tree.specs.declared.term.ActKind.{back-ActKind-If-2}
use Rattle.expr_check.specs.Known.{scope_of}
use Rattle.term_check.specs.Taken.{taken_of}
use Rattle.term_check.proofs.ReadActs.{condition_read, if_fails, if_differs, if_first_fails, second_fails, sides_fail, when_read, either_read}
use Rattle.term_check.proofs.ReadTerms.{follow_read, beside_read, follow_first_fails, beside_first_fails, follow_fails, beside_fails}
use Rattle.term_check.proofs.terms.+read.Goals as goal

pub read_term-returns-in_err-read-in-Then : goal.read_term-returns-in_err-read-in-Then
read_term-returns-in_err-read-in-Then t c =
    let fault = err_from_is_err_and c.from_residual.result c.from_residual.ensures.1 in
    rw (fault.1, fault.2, c.in-Then.is)
    (follow_first_fails (scope_of c.args.scope.now) (taken_of c.args.taken.now) c.args.low c.in-Then.name (act_at c.in-Then.act.at c.in-Then.act.kind) (term_of c.in-Then.rest.value) _ c.in_err-read-in-Then.ensures)

pub read_term-returns-in-Err-read_part : goal.read_term-returns-in-Err-read_part
unfolding scope_of
read_term-returns-in-Err-read_part t c =
    rw c.in-Then.is
    (follow_fails (scope_of c.args.scope.now) (taken_of c.args.taken.now) c.args.low c.in-Then.name (act_at c.in-Then.act.at c.in-Then.act.kind) (term_of c.in-Then.rest.value)
    c.in-Then.act.at c.in_ok-read-in-Then.read.kind c.in_ok-read-in-Then.read.width c.in_ok-read-in-Then.read.next _
    c.in_ok-read-in-Then.ensures (rw c.deref.ensures at c.in-Err-read_part.ensures))

pub read_term-returns-in-Ok-read_part : goal.read_term-returns-in-Ok-read_part
unfolding scope_of
read_term-returns-in-Ok-read_part t c =
    rw c.in-Then.is
    (follow_read (scope_of c.args.scope.now) (taken_of c.args.taken.now) c.args.low c.in-Then.name (act_at c.in-Then.act.at c.in-Then.act.kind) (term_of c.in-Then.rest.value)
    c.in-Then.act.at c.in_ok-read-in-Then.read.kind c.in_ok-read-in-Then.read.width c.in_ok-read-in-Then.read.next
    c.in-Ok-read_part.behind.term.value c.in-Ok-read_part.behind.width c.in-Ok-read_part.behind.next _
    c.in_ok-read-in-Then.ensures (rw c.deref.ensures at c.in-Ok-read_part.ensures))

pub read_term-returns-in_err-read-in-Both : goal.read_term-returns-in_err-read-in-Both
read_term-returns-in_err-read-in-Both t c =
    let fault = err_from_is_err_and c.from_residual-in_err-read-in-Both.result c.from_residual-in_err-read-in-Both.ensures.1 in
    rw (fault.1, fault.2, c.in-Both.is)
    (beside_first_fails (scope_of c.args.scope.now) (taken_of c.args.taken.now) c.args.low c.in-Both.name (act_at c.in-Both.act.at c.in-Both.act.kind) (term_of c.in-Both.rest.value) _ c.in_err-read-in-Both.ensures)

pub read_term-returns-in-Err-read_part-2 : goal.read_term-returns-in-Err-read_part-2
unfolding scope_of
read_term-returns-in-Err-read_part-2 t c =
    rw c.in-Both.is
    (beside_fails (scope_of c.args.scope.now) (taken_of c.args.taken.now) c.args.low c.in-Both.name (act_at c.in-Both.act.at c.in-Both.act.kind) (term_of c.in-Both.rest.value)
    c.in-Both.act.at c.in_ok-read-in-Both.read.kind c.in_ok-read-in-Both.read.width c.in_ok-read-in-Both.read.next _
    c.in_ok-read-in-Both.ensures (rw c.deref-in-Both.ensures at c.in-Err-read_part-2.ensures))

pub read_term-returns-in-Ok-read_part-2 : goal.read_term-returns-in-Ok-read_part-2
unfolding scope_of
read_term-returns-in-Ok-read_part-2 t c =
    rw c.in-Both.is
    (beside_read (scope_of c.args.scope.now) (taken_of c.args.taken.now) c.args.low c.in-Both.name (act_at c.in-Both.act.at c.in-Both.act.kind) (term_of c.in-Both.rest.value)
    c.in-Both.act.at c.in_ok-read-in-Both.read.kind c.in_ok-read-in-Both.read.width c.in_ok-read-in-Both.read.next
    c.in-Ok-read_part-2.behind.term.value c.in-Ok-read_part-2.behind.width c.in-Ok-read_part-2.behind.next _
    c.in_ok-read-in-Both.ensures (rw c.deref-in-Both.ensures at c.in-Ok-read_part-2.ensures))

pub read_kind-returns-in_err-cond-in-If : goal.read_kind-returns-in_err-cond-in-If
read_kind-returns-in_err-cond-in-If t c =
    let fault = err_from_is_err_and c.from_residual-in_err-cond-in-If.result c.from_residual-in_err-cond-in-If.ensures.1 in
    rw (fault.1, fault.2, c.in-If.is) (if_fails (scope_of c.args.scope.now) (taken_of c.args.taken.now) c.args.low c.args.act.now.at (expr_of c.in-If.cond) (term_of c.in-If.yes.value) (else_of (back-ActKind-If-2 c.in-If.no)) _ c.in_err-cond-in-If.ensures)

pub read_kind-returns-then-width-ne1 : goal.read_kind-returns-then-width-ne1
read_kind-returns-then-width-ne1 t c =
    rw c.in-If.is
    (if_differs (scope_of c.args.scope.now) (taken_of c.args.taken.now) c.args.low c.args.act.now.at (expr_of c.in-If.cond) (term_of c.in-If.yes.value) (else_of (back-ActKind-If-2 c.in-If.no)) c.in_ok-cond-in-If.width _
    c.in_ok-cond-in-If.ensures.0 c.in_ok-cond-in-If.ensures.2 c.if-width-ne1.true c.differ.ensures)

pub read_kind-returns-in-Err-read_part : goal.read_kind-returns-in-Err-read_part
read_kind-returns-in-Err-read_part t c =
    rw c.in-If.is
    (if_first_fails (scope_of c.args.scope.now) (taken_of c.args.taken.now) c.args.low c.args.act.now.at (expr_of c.in-If.cond) (term_of c.in-If.yes.value) (else_of (back-ActKind-If-2 c.in-If.no)) c.in_ok-cond-in-If.cond _
    (condition_read (scope_of c.args.scope.now) (expr_of c.in-If.cond) c.in_ok-cond-in-If.cond c.in_ok-cond-in-If.width c.in_ok-cond-in-If.ensures.0
    c.in_ok-cond-in-If.ensures.1 c.in_ok-cond-in-If.ensures.2 c.if-width-ne1.false) (rw c.deref.ensures at c.in-Err-read_part.ensures))

pub read_kind-returns-in-Err-read_part-2 : goal.read_kind-returns-in-Err-read_part-2
read_kind-returns-in-Err-read_part-2 t c =
    rw (c.in-If.is, c.in-Some.is)
    (second_fails (scope_of c.args.scope.now) (taken_of c.args.taken.now) c.args.low c.args.act.now.at (expr_of c.in-If.cond) (term_of c.in-If.yes.value) (term_of c.in-Some.no.value) c.in_ok-cond-in-If.cond c.in-Ok-read_part.first.term.value c.in-Ok-read_part.first.width c.in-Ok-read_part.first.next _
    (condition_read (scope_of c.args.scope.now) (expr_of c.in-If.cond) c.in_ok-cond-in-If.cond c.in_ok-cond-in-If.width c.in_ok-cond-in-If.ensures.0
    c.in_ok-cond-in-If.ensures.1 c.in_ok-cond-in-If.ensures.2 c.if-width-ne1.false) (rw c.deref.ensures at c.in-Ok-read_part.ensures) (rw c.deref-in-Some.ensures at c.in-Err-read_part-2.ensures))

pub read_kind-returns-in-Err-word_of : goal.read_kind-returns-in-Err-word_of
read_kind-returns-in-Err-word_of t c =
    rw (c.in-If.is, c.in-Some.is)
    (sides_fail (scope_of c.args.scope.now) (taken_of c.args.taken.now) c.args.low c.args.act.now.at (expr_of c.in-If.cond) (term_of c.in-If.yes.value) (term_of c.in-Some.no.value) c.in_ok-cond-in-If.cond c.in-Ok-read_part.first.term.value c.in-Ok-read_part-2.second.term.value
    c.in-Ok-read_part.first.width c.in-Ok-read_part-2.second.width c.in-Ok-read_part.first.next c.in-Ok-read_part-2.second.next _
    (condition_read (scope_of c.args.scope.now) (expr_of c.in-If.cond) c.in_ok-cond-in-If.cond c.in_ok-cond-in-If.width c.in_ok-cond-in-If.ensures.0
    c.in_ok-cond-in-If.ensures.1 c.in_ok-cond-in-If.ensures.2 c.if-width-ne1.false) (rw c.deref.ensures at c.in-Ok-read_part.ensures) (rw c.deref-in-Some.ensures at c.in-Ok-read_part-2.ensures) c.in-Err-word_of.ensures)

pub read_kind-returns-in-None : goal.read_kind-returns-in-None
read_kind-returns-in-None t c =
    rw (c.in-If.is, c.in-None.is)
    (when_read (scope_of c.args.scope.now) (taken_of c.args.taken.now) c.args.low c.args.act.now.at (expr_of c.in-If.cond) (term_of c.in-If.yes.value) c.in_ok-cond-in-If.cond c.in-Ok-read_part.first.term.value c.in-Ok-read_part.first.width c.in-Ok-read_part.first.next _
    (condition_read (scope_of c.args.scope.now) (expr_of c.in-If.cond) c.in_ok-cond-in-If.cond c.in_ok-cond-in-If.width c.in_ok-cond-in-If.ensures.0
    c.in_ok-cond-in-If.ensures.1 c.in_ok-cond-in-If.ensures.2 c.if-width-ne1.false) (rw c.deref.ensures at c.in-Ok-read_part.ensures))

pub read_kind-returns-in-Ok-word_of : goal.read_kind-returns-in-Ok-word_of
read_kind-returns-in-Ok-word_of t c =
    rw (c.in-If.is, c.in-Some.is, c.unwrap_or.ensures)
    (either_read (scope_of c.args.scope.now) (taken_of c.args.taken.now) c.args.low c.args.act.now.at (expr_of c.in-If.cond) (term_of c.in-If.yes.value) (term_of c.in-Some.no.value) c.in_ok-cond-in-If.cond c.in-Ok-read_part.first.term.value c.in-Ok-read_part-2.second.term.value
    c.in-Ok-read_part.first.width c.in-Ok-read_part-2.second.width c.in-Ok-read_part.first.next c.in-Ok-read_part-2.second.next c.in-Ok-word_of.word _ _
    (condition_read (scope_of c.args.scope.now) (expr_of c.in-If.cond) c.in_ok-cond-in-If.cond c.in_ok-cond-in-If.width c.in_ok-cond-in-If.ensures.0
    c.in_ok-cond-in-If.ensures.1 c.in_ok-cond-in-If.ensures.2 c.if-width-ne1.false) (rw c.deref.ensures at c.in-Ok-read_part.ensures) (rw c.deref-in-Some.ensures at c.in-Ok-read_part-2.ensures)
    c.in-Ok-word_of.ensures.0 c.in-Ok-word_of.ensures.1)

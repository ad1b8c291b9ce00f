-- A word alone, and an expression that is computed.
use Rattle.std.proofs.Common.{◌≡◌, true, inr, rules}
use Rattle.expr_check.specs.Known.{scope_of}
use Rattle.term_check.proofs.ReadPure.{is_computed, word_read, word_fails, value_read, value_fails}
use Rattle.term_check.proofs.pure.read_pure.Goals as goal

pub returns-in-Some : goal.returns-in-Some
returns-in-Some c =
    let read = word_read (scope_of c.args.scope.now) c.args.site c.args.expr.now.at c.args.expr.now.kind c.in-Var.name c.in-Some.var c.width.result c.in-Var.is
    c.in-Some.ensures.0 c.in-Some.ensures.1 c.width.ensures in
    (read.passes, read.same, read.wide, read.words, read.places)

pub returns-in-None : goal.returns-in-None
returns-in-None c = inr (word_fails (scope_of c.args.scope.now) c.args.expr.now.at c.args.expr.now.kind c.in-Var.name c.in-Var.is c.in-None.ensures)

pub returns-in-Ok : goal.returns-in-Ok
returns-in-Ok c =
    let computed : is_computed c.args.expr.now.kind ≡ true = search rules in
    let read = value_read (scope_of c.args.scope.now) c.args.site c.args.expr.now.at c.args.expr.now.kind c.in-Ok.value c.in-Ok.width computed
    c.in-Ok.ensures.0 c.in-Ok.ensures.1 c.in-Ok.ensures.2 in
    (read.passes, read.same, read.wide, read.words, read.places)

pub returns-in-Err : goal.returns-in-Err
returns-in-Err c =
    let computed : is_computed c.args.expr.now.kind ≡ true = search rules in
    value_fails (scope_of c.args.scope.now) c.args.expr.now.at c.args.expr.now.kind c.in-Err.fault computed c.in-Err.ensures

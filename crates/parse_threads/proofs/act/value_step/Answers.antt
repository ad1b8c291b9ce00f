-- Where the token leads in the expression, it leads in the thread.
use Rattle.std.proofs.Common.{◌∷◌, subst, sym}
use Rattle.anvil_tree.specs.View.{expr_of}
use Rattle.anvil_grammar.specs.Step.{expression_step}
use Rattle.parse_expressions.specs.Seen.{expression_of, nodes_of}
use Rattle.thread_frames.specs.SeenFrames.{stack_of}
use Rattle.parse_threads.specs.SeenThread.{IsNext, value_frame_of}
use Rattle.parse_threads.proofs.Values.{value_onward, value_refused, value_whole}
use Rattle.parse_threads.proofs.act.value_step.Goals as goal

pub returns-in-Ok-Onward : goal.returns-in-Ok-Onward
returns-in-Ok-Onward c =
    let read = rw c.in-Ok-Onward.field-0-is at c.in-Ok-Onward.ensures in
    rw c.node_at.ensures
    (value_onward (stack_of c.args.stack.now) c.args.act c.args.expression c.args.token.now (nodes_of c.in-Ok-Onward.node) (expression_of c.step.new.self) read)

pub returns-in-Ok-Whole : goal.returns-in-Ok-Whole
returns-in-Ok-Whole c =
    let read = rw c.in-Ok-Whole.field-0-is at c.in-Ok-Whole.ensures in
    subst (λ step. IsNext (stack_of c.value_ends.new.stack) c.args.token.now step c.value_ends.result)
    (sym (value_whole (stack_of c.args.stack.now) c.args.act c.args.expression c.args.token.now (expr_of c.in-Ok-Whole.expr) read))
    (subst (λ expr. IsNext (stack_of c.value_ends.new.stack) c.args.token.now
    (expression_step (value_frame_of c.args.act ∷ stack_of c.args.stack.now) (expr_of expr) c.args.token.now.kind) c.value_ends.result)
    c.first_of-expr.ensures c.value_ends.ensures)

pub returns-in-Err : goal.returns-in-Err
returns-in-Err c =
    value_refused (stack_of c.args.stack.now) c.args.act c.args.expression c.args.token.now c.in-Err.refusal c.refused.result c.refused.ensures c.in-Err.ensures

-- Where the token is no `)`, the operand of a group begins.
use Rattle.std.proofs.Common.{◌≡◌, sym, subst}
use Rattle.parse_expressions.specs.Read.{operand_read, parenthesis_read}
use Rattle.parse_expressions.specs.Seen.{IsNext, stack_of}
use Rattle.parse_expressions.proofs.Groups.{group_begins}
use Rattle.parse_expressions.proofs.read.parenthesis_step.Goals as goal

pub returns-in-Ok : goal.returns-in-Ok
returns-in-Ok c =
    let read : parenthesis_read (stack_of c.args.frames.now) c.args.at c.args.token.now c.args.token.now.kind ≡ operand_read (stack_of c.push.new.self) c.args.token.now c.args.token.now.kind =
    (let grouped = c.in-Ok.ensures.pushed in rw grouped (group_begins (stack_of c.args.frames.now) c.args.at c.args.token.now c.args.token.now.kind c.if-is_mark.ensures)) in
    subst (λ step. IsNext (stack_of c.operand_step.new.frames) c.args.token.now step c.operand_step.result) (sym read) c.operand_step.ensures

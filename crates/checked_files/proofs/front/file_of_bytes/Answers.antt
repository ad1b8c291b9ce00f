-- The parser tells its refusals where the lexer had none.
use Rattle.checked_files.proofs.Refusals.{AreTheTokens, told_by_lexer, told_by_parser, unread_by_parser}
use Rattle.checked_files.proofs.front.file_of_bytes.Goals as goal

pub returns-in-Err-clause-every_refusal : goal.returns-in-Err-clause-every_refusal
returns-in-Err-clause-every_refusal c = told_by_lexer c.args.bytes.now c.in-Err.refusal c.in-Err.ensures.every_text c.in-Err.ensures.every_refusal

pub returns-in-Ok-clause-refused : goal.returns-in-Ok-clause-refused
returns-in-Ok-clause-refused c = unread_by_parser c.args.bytes.now c.deref.result.now c.tree_of.result (rw c.deref.ensures.value c.in-Ok.ensures.tokens) c.tree_of.ensures.refused

pub returns-in-Ok-clause-every_refusal : goal.returns-in-Ok-clause-every_refusal
returns-in-Ok-clause-every_refusal c =
    let are : AreTheTokens c.args.bytes.now c.deref.result.now = rw c.deref.ensures.value (record { spelled = c.in-Ok.ensures.tokens; only = c.in-Ok.ensures.every_text; faultless = c.in-Ok.ensures.every_refusal }) in
    told_by_parser c.args.bytes.now c.deref.result.now c.tree_of.result are c.tree_of.ensures.every_refusal

-- A fault of the lexer that is no want of memory is a refusal of the bytes.
use Rattle.std.proofs.Common.{ap, ◌∙◌}
use Rattle.checked_files.specs.Refused.{by_lexer, of_lexer}
use Rattle.checked_files.proofs.front.tokens_of.Goals as goal

pub returns-in-Err-clause-refused : goal.returns-in-Err-clause-refused
returns-in-Err-clause-refused c = λ not_memory.
    let first = c.in-Err.ensures.refused (λ is. not_memory (c.of_lexer.ensures ∙ ap of_lexer is)) in
    rw c.of_lexer.ensures (by_lexer c.in-Err.fault first)

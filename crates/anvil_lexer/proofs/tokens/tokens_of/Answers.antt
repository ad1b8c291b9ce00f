-- Each turn reads what comes next, and the loop ends because a token takes at least one byte.
use Rattle.std.proofs.Common.{sym, ◌∙◌, ap, subst, arith, List, length}
use Rattle.anvil_lexer.specs.declared.token.Token.{Token}
use Rattle.anvil_lexer.specs.TokenText.{AreTokensFrom}
use Rattle.anvil_lexer.proofs.Reading.{end_long}
use Rattle.anvil_lexer.proofs.Turns.{end_turn, token_turn, refusal_turn, refusal_before, shorter, some_here, full_or_not, end_chain, pushed}
use Rattle.anvil_lexer.proofs.tokens.tokens_of.Goals as goal

pub returns-in-Ok : goal.returns-in-Ok
returns-in-Ok c =
    let kept = c.loop-first.invariant in
    let gap = c.after_gap-here.ensures in
    let empty = sym (ap length c.chars.ensures.rest) ∙ c.in_default.ensures.steps.0.0 in
    let closing = end_turn _ _ _ kept.end gap.end kept.utf8 c.after_gap-here.utf8 gap.left empty in
    rw c.in-Ok.ensures.items (kept.tokens _ closing)

pub loop-first-smaller : goal.loop-first-smaller
loop-first-smaller c =
    let gap = c.after_gap-here.ensures in
    let less = shorter _ _ _ _ c.after_gap-here.utf8 c.in-Ok-token.ensures in
    let skipped = end_long c.loop-first.rest.now c.after_gap-here.result.now gap.end in
    omega arith

pub loop-first-preserved : goal.loop-first-preserved
loop-first-preserved c =
    let kept = c.loop-first.invariant in
    let gap = c.after_gap-here.ensures in
    let read = sym c.chars.ensures.rest ∙ c.in-Some.ensures.steps.0 in
    let some = some_here _ _ _ c.after_gap-here.utf8 read in
    let turn =
    token_turn _ _ _ kept.end gap.end kept.utf8 c.after_gap-here.utf8 gap.left c.in-Ok-token.kind c.in-Ok-token.after.now some.0 c.in-Ok-token.ensures in
    record {
      utf8 = c.in-Ok-token.ensures.reads.utf8;
      end = end_chain _ _ _ kept.end (end_chain _ _ _ gap.end c.in-Ok-token.ensures.reads.end);
      tokens = λ tokens are. subst (λ (l : List Token). AreTokensFrom c.args.text.now 0 l)
          (sym (pushed _ _ tokens _ c.in-Ok-push.ensures.items)) (kept.tokens _ (turn tokens are));
      refusals = λ e fails. kept.refusals e
          (refusal_before _ _ _ kept.end gap.end kept.utf8 c.after_gap-here.utf8 gap.left c.in-Ok-token.kind c.in-Ok-token.after.now some.0 c.in-Ok-token.ensures e fails);
    }

pub returns-in-Err-token : goal.returns-in-Err-token
returns-in-Err-token c =
    let kept = c.loop-first.invariant in
    let gap = c.after_gap-here.ensures in
    let read = sym c.chars.ensures.rest ∙ c.in-Some.ensures.steps.0 in
    let some = some_here _ _ _ c.after_gap-here.utf8 read in
    full_or_not _ c.in-Err-token.refusal (kept.refusals _
    (refusal_turn _ _ _ kept.end gap.end kept.utf8 c.after_gap-here.utf8 gap.left c.in-Err-token.refusal some.0 some.1 c.in-Err-token.ensures))

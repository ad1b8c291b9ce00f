-- Each turn drops one character, if there is one, and what stands before the end that is left are the first characters.
use Rattle.std.proofs.Common.{◌≡◌, sym, ◌∙◌, ap, subst, drop, arith}
use Rattle.std.specs.Str.{IsUtf8, chars}
use Rattle.std.proofs.lemmas.List.{drop-drop}
use Rattle.anvil_lexer.proofs.Reading.{end_shorter, next_drops, taken_is}
use Rattle.anvil_lexer.proofs.front.split_count.Goals as goal

pub loop-preserved : goal.loop-preserved
loop-preserved c =
    let kept = c.loop.invariant in
    let next = next_drops c.next.result c.loop.rest.rest.now c.next.new.self.rest.now kept.utf8
    (λ same. ap (λ r. r.rest.now) same) c.next.ensures.steps.0 in
    record {
      left = next.left ∙ ap (λ l. drop 1 l) kept.left ∙ drop-drop 1 c.loop.counter (chars c.args.text.now);
      end = end_shorter _ _ _ _ kept.end next.end.1;
      utf8 = next.utf8;
    }

pub cut-requires : goal.cut-requires
cut-requires c = rw c.as_str.ensures c.loop.invariant.end

pub returns-clause-taken : goal.returns-clause-taken
returns-clause-taken c =
    let counted : c.loop.counter ≡ c.args.count = omega arith in
    taken_is c.args.count _ _ _ c.cut.ensures.utf8 c.cut.ensures.joined
    (ap chars c.as_str.ensures ∙ c.loop.invariant.left ∙ ap (λ n. drop n (chars c.args.text.now)) counted)

pub returns-clause-left : goal.returns-clause-left
returns-clause-left c =
    let counted : c.loop.counter ≡ c.args.count = omega arith in
    ap chars (c.cut.ensures.left ∙ c.as_str.ensures) ∙ c.loop.invariant.left ∙ ap (λ n. drop n (chars c.args.text.now)) counted

pub returns-clause-left_utf8 : goal.returns-clause-left_utf8
returns-clause-left_utf8 c = subst IsUtf8 (sym c.cut.ensures.left) c.as_str.utf8

-- Each answer is one step of the plans along the code.
use Rattle.std.proofs.Common.{arith, ap, ◌∙◌, Option, Box, Global}
use Rattle.core_term.specs.declared.term.CoreTerm.{CoreTerm}
use Rattle.core_term.specs.declared.term.CoreKind as core
use Rattle.thread_nets.proofs.Weight.{one_falls, then_falls, both_falls, block_falls, none_falls, some_falls}
use Rattle.thread_nets.proofs.Coded.{one_asked, one_returns, then_asked, both_asked, then_term, both_term, rest_asked, chain_returns, act_asked, inside_asked, act_returns, block_asked, block_returns, none_asked, none_returns, some_asked, some_returns}
use Rattle.thread_nets.proofs.Coded.{first_asked, second_asked, bit_asked, first_there, second_there, same_there, worded_returns, unworded_returns, when_asked, when_returns, recv_coded, wait_coded, pure_coded, plain_coded, plain_kind}
use Rattle.thread_nets.proofs.walk.+walk.Goals as goal

pub draw_term-draw_act-requires : goal.draw_term-draw_act-requires
draw_term-draw_act-requires t c = (one_falls _ _ _ _ _ c.in-One.is c.decreases, one_asked _ _ _ _ c.requires.0 _ c.in-One.act c.in-One.is c.requires.1)

pub draw_term-draw_chain-requires : goal.draw_term-draw_chain-requires
draw_term-draw_chain-requires t c = (then_falls _ _ _ _ _ _ _ _ c.in-Then.is c.deref.ensures c.decreases, then_asked _ _ _ _ c.requires.0 _ c.in-Then.act _ _ _ c.in-Then.is c.deref.ensures c.requires.1)

pub draw_term-draw_chain-requires-in-Both : goal.draw_term-draw_chain-requires-in-Both
draw_term-draw_chain-requires-in-Both t c = (both_falls _ _ _ _ _ _ _ _ c.in-Both.is c.deref-in-Both.ensures c.decreases, both_asked _ _ _ _ c.requires.0 _ c.in-Both.act _ _ _ c.in-Both.is c.deref-in-Both.ensures c.requires.1)

pub draw_term-returns-in_ok-value-in-One : goal.draw_term-returns-in_ok-value-in-One
draw_term-returns-in_ok-value-in-One t c = one_returns _ _ _ _ _ c.in-One.act _ _ _ c.in-One.is c.in_ok-value-in-One.ensures

pub draw_term-returns-in_ok-value-in-Then : goal.draw_term-returns-in_ok-value-in-Then
draw_term-returns-in_ok-value-in-Then t c = then_term _ _ _ _ _ c.in-Then.act _ _ _ _ _ _ c.in-Then.is c.deref.ensures c.in_ok-value-in-Then.ensures

pub draw_term-returns-in_ok-value-in-Both : goal.draw_term-returns-in_ok-value-in-Both
draw_term-returns-in_ok-value-in-Both t c = both_term _ _ _ _ _ c.in-Both.act _ _ _ _ _ _ c.in-Both.is c.deref-in-Both.ensures c.in_ok-value-in-Both.ensures

pub draw_chain-draw_act-requires : goal.draw_chain-draw_act-requires
draw_chain-draw_act-requires t c = (omega (arith, c.decreases), act_asked _ _ _ _ c.requires.0 c.requires.1 c.args.act.now _ c.requires.2)

pub draw_chain-draw_term-requires : goal.draw_chain-draw_term-requires
draw_chain-draw_term-requires t c =
    (omega (arith, c.decreases), rest_asked _ _ _ _ c.args.act.now _ _ _ _ _ c.in_ok-value.ensures (c.deref.ensures.value ∙ c.in_ok-longer.ensures) c.requires.0 c.requires.1 c.requires.2)

pub draw_chain-returns : goal.draw_chain-returns
draw_chain-returns t c = chain_returns _ _ _ _ c.args.act.now _ _ _ _ _ c.in_ok-value.ensures (c.deref.ensures.value ∙ c.in_ok-longer.ensures) _ _ _ c.in_ok-last.ensures

pub draw_act-draw_inside-requires : goal.draw_act-draw_inside-requires
draw_act-draw_inside-requires t c = (omega (arith, c.decreases), inside_asked _ _ _ _ c.args.act.now _ _ c.requires.0 c.in_ok-draw_own.ensures c.requires.1)

pub draw_act-returns : goal.draw_act-returns
draw_act-returns t c = act_returns _ _ _ _ c.args.act.now _ _ _ _ _ c.in_ok-draw_own.ensures c.in_ok-value.ensures

pub draw_inside-draw_term-requires : goal.draw_inside-draw_term-requires
draw_inside-draw_term-requires t c = (block_falls _ _ _ _ _ c.in-Block.is c.deref-in-Block.ensures c.decreases, block_asked _ _ _ _ c.requires.0 _ _ _ _ _ c.in-Block.is c.deref-in-Block.ensures c.requires.1)

pub draw_inside-returns-in_ok-value-in-Block : goal.draw_inside-returns-in_ok-value-in-Block
draw_inside-returns-in_ok-value-in-Block t c = block_returns _ _ _ _ _ _ _ _ _ _ _ _ c.in-Block.is c.deref-in-Block.ensures c.in_ok-value-in-Block.ensures

pub draw_inside-draw_when-requires : goal.draw_inside-draw_when-requires
draw_inside-draw_when-requires t c =
    let e = c.in-If.is ∙ ap (λ (z : Option (Box CoreTerm Global)). core.If c.in-If.cond c.in-If.yes z c.in-If.word) c.in-None.is in
    (none_falls _ _ _ _ _ _ _ e c.deref.ensures c.decreases, none_asked _ _ _ _ c.requires.0 _ _ _ _ _ _ _ e c.deref.ensures c.requires.1)

pub draw_inside-returns-in_ok-value-in-None : goal.draw_inside-returns-in_ok-value-in-None
draw_inside-returns-in_ok-value-in-None t c =
    none_returns _ _ _ _ _ _ _ _ _ _ _ _ _ _ (c.in-If.is ∙ ap (λ (z : Option (Box CoreTerm Global)). core.If c.in-If.cond c.in-If.yes z c.in-If.word) c.in-None.is) c.deref.ensures c.in_ok-value-in-None.ensures

pub draw_inside-draw_if-requires : goal.draw_inside-draw_if-requires
draw_inside-draw_if-requires t c =
    let e = c.in-If.is ∙ ap (λ (z : Option (Box CoreTerm Global)). core.If c.in-If.cond c.in-If.yes z c.in-If.word) c.in-Some.is in
    (some_falls _ _ _ _ _ _ _ _ _ _ e c.deref-in-Some.ensures c.deref-in-Some-2.ensures c.decreases, some_asked _ _ _ _ _ _ _ _ _ _ _ _ _ _ _ e c.deref-in-Some.ensures c.deref-in-Some-2.ensures c.is_some-worded.ensures c.requires.0 c.requires.1)

pub draw_inside-returns-in_ok-value-in-Some : goal.draw_inside-returns-in_ok-value-in-Some
draw_inside-returns-in_ok-value-in-Some t c =
    let e = c.in-If.is ∙ ap (λ (z : Option (Box CoreTerm Global)). core.If c.in-If.cond c.in-If.yes z c.in-If.word) c.in-Some.is in
    some_returns _ _ _ _ _ _ _ _ _ _ _ _ _ _ _ e c.deref-in-Some.ensures c.deref-in-Some-2.ensures c.is_some-worded.ensures _ _ _ c.in_ok-value-in-Some.ensures

pub draw_inside-returns-in-Recv : goal.draw_inside-returns-in-Recv
draw_inside-returns-in-Recv t c = recv_coded _ _ _ _ _ _ _ _ c.in-Recv.is c.data_of.ensures

pub draw_inside-returns-in-Wait : goal.draw_inside-returns-in-Wait
draw_inside-returns-in-Wait t c = wait_coded _ _ _ _ _ _ _ _ c.in-Wait.is c.value_of.ensures

pub draw_inside-returns-in_ok-value-in-Pure : goal.draw_inside-returns-in_ok-value-in-Pure
draw_inside-returns-in_ok-value-in-Pure t c =
    let value = c.in_ok-value-in-Pure.ensures in
    pure_coded _ _ _ _ _ _ _ _ _ c.in-Pure.is value.extends record { stands = value.stands; width = value.width; shows = value.shows }

pub draw_inside-returns-in-Cycle : goal.draw_inside-returns-in-Cycle
draw_inside-returns-in-Cycle t c = plain_coded _ _ _ _ _ _ _ (λ scope. plain_kind _ _ _ c.in-Cycle.is) c.none.ensures

pub draw_if-draw_term-requires : goal.draw_if-draw_term-requires
draw_if-draw_term-requires t c = (omega (arith, c.decreases), first_asked _ _ _ _ _ _ _ _ c.requires.0 c.requires.1 c.requires.2)

pub draw_if-draw_term-requires-2 : goal.draw_if-draw_term-requires-2
draw_if-draw_term-requires-2 t c = (omega (arith, c.decreases), second_asked _ _ _ _ _ _ _ _ _ _ _ c.in_ok-first.ensures c.requires.0 c.requires.1 c.requires.2)

pub draw_if-choose-requires-clause-condition : goal.draw_if-choose-requires-clause-condition
draw_if-choose-requires-clause-condition t c = (bit_asked _ _ _ _ _ _ _ _ _ _ _ c.in_ok-first.ensures _ _ _ c.in_ok-second.ensures c.requires.0 c.requires.1 c.requires.2 c.if-worded.true _ _ c.bit_of-side.ensures c.deref.ensures.value).stands

pub draw_if-choose-requires-clause-first : goal.draw_if-choose-requires-clause-first
draw_if-choose-requires-clause-first t c = first_there _ _ _ _ _ _ _ _ _ _ _ c.in_ok-first.ensures _ _ _ c.in_ok-second.ensures c.requires.0 c.requires.1 c.requires.2 c.if-worded.true

pub draw_if-choose-requires-clause-second : goal.draw_if-choose-requires-clause-second
draw_if-choose-requires-clause-second t c = second_there _ _ _ _ _ _ _ _ _ _ _ c.in_ok-first.ensures _ _ _ c.in_ok-second.ensures c.requires.0 c.requires.1 c.requires.2 c.if-worded.true

pub draw_if-choose-requires-clause-one_bit : goal.draw_if-choose-requires-clause-one_bit
draw_if-choose-requires-clause-one_bit t c = (bit_asked _ _ _ _ _ _ _ _ _ _ _ c.in_ok-first.ensures _ _ _ c.in_ok-second.ensures c.requires.0 c.requires.1 c.requires.2 c.if-worded.true _ _ c.bit_of-side.ensures c.deref.ensures.value).one_bit

pub draw_if-choose-requires-clause-same : goal.draw_if-choose-requires-clause-same
draw_if-choose-requires-clause-same t c = same_there _ _ _ _ _ _ _ _ _ _ _ c.in_ok-first.ensures _ _ _ c.in_ok-second.ensures c.requires.0 c.requires.1 c.requires.2 c.if-worded.true

pub draw_if-returns-in_ok-value : goal.draw_if-returns-in_ok-value
draw_if-returns-in_ok-value t c =
    let value = c.in_ok-value.ensures in
    worded_returns _ _ _ _ _ _ _ _ _ _ _ c.in_ok-first.ensures _ _ _ c.in_ok-second.ensures _ _ _ _ c.if-worded.true c.bit_of-side.ensures c.deref.ensures.value value.extends value.stands value.width value.shows

pub draw_if-returns-else-worded : goal.draw_if-returns-else-worded
draw_if-returns-else-worded t c = unworded_returns _ _ _ _ _ _ _ _ _ _ _ c.in_ok-first.ensures _ _ _ c.in_ok-second.ensures _ c.if-worded.false c.none.ensures

pub draw_when-draw_term-requires : goal.draw_when-draw_term-requires
draw_when-draw_term-requires t c = (omega (arith, c.decreases), when_asked _ _ _ _ _ _ c.requires.0 c.requires.1 c.requires.2)

pub draw_when-returns : goal.draw_when-returns
draw_when-returns t c = when_returns _ _ _ _ _ _ _ _ _ _ c.in_ok-_first.ensures c.none.ensures

use Rattle.std.proofs.Common.{◌∙◌}
use Rattle.std.proofs.lemmas.Result.{IfOk-weaker}
use Rattle.module_nets.proofs.Growing.{stands_later, of_later}
use Rattle.module_nets.proofs.Expressions.{all_stand_later, operate_same, choice_same}
use Rattle.module_nets.proofs.Outcomes.{IfOk-joined}
use Rattle.module_nets.proofs.expression.+draw_expression.Goals as goal

pub choose-requires-clause-condition : goal.choose-requires-clause-condition
choose-requires-clause-condition t c =
    stands_later _ _ _ c.in_ok-second-in-Choose.ensures.extends (stands_later _ _ _ c.in_ok-first-in-Choose.ensures.extends c.in_ok-condition-in-Choose.ensures.stands)

pub choose-requires-clause-first : goal.choose-requires-clause-first
choose-requires-clause-first t c = stands_later _ _ _ c.in_ok-second-in-Choose.ensures.extends c.in_ok-first-in-Choose.ensures.stands

pub returns-in-Lit-clause-stands : goal.returns-in-Lit-clause-stands
returns-in-Lit-clause-stands t c = c.literal.ensures.stands c.args.netlist.now

pub returns-in_ok-operand-in-Not-clause-scope : goal.returns-in_ok-operand-in-Not-clause-scope
returns-in_ok-operand-in-Not-clause-scope t c = IfOk-weaker c.not.result _ _ (λ drawn extends. all_stand_later _ _ _ extends c.in_ok-operand-in-Not.ensures.scope) c.not.ensures.extends

pub returns-in_ok-right-in-Bin-clause-scope : goal.returns-in_ok-right-in-Bin-clause-scope
returns-in_ok-right-in-Bin-clause-scope t c =
    IfOk-weaker c.draw_operator.result _ _ (λ drawn extends. all_stand_later _ _ _ extends c.in_ok-right-in-Bin.ensures.scope) c.draw_operator.ensures.extends

pub returns-in_ok-second-in-Choose-clause-scope : goal.returns-in_ok-second-in-Choose-clause-scope
returns-in_ok-second-in-Choose-clause-scope t c =
    IfOk-weaker c.choose.result _ _ (λ drawn extends. all_stand_later _ _ _ extends c.in_ok-second-in-Choose.ensures.scope) c.choose.ensures.extends

pub returns-in_ok-right-in-Bin-clause-shows : goal.returns-in_ok-right-in-Bin-clause-shows
returns-in_ok-right-in-Bin-clause-shows t c =
    let left = c.in_ok-left-in-Bin.ensures in
    let right = c.in_ok-right-in-Bin.ensures in
    IfOk-joined c.draw_operator.result _ _ _
    (λ drawn extends shows now of.
    let before = of_later _ _ now extends of in
    let first = of_later _ _ now right.extends before in
    rw (c.in-Bin.is, ← c.deref-in-Bin.ensures, ← c.deref-in-Bin-2.ensures)
    (shows now of ∙ operate_same c.in-Bin.op _ _ _ _ _ _ _ _ left.width right.width (left.shows now first) (right.shows now before)))
    c.draw_operator.ensures.extends
    c.draw_operator.ensures.shows

pub returns-in_ok-second-in-Choose-clause-shows : goal.returns-in_ok-second-in-Choose-clause-shows
returns-in_ok-second-in-Choose-clause-shows t c =
    let condition = c.in_ok-condition-in-Choose.ensures in
    let left = c.in_ok-first-in-Choose.ensures in
    let right = c.in_ok-second-in-Choose.ensures in
    IfOk-joined c.choose.result _ _ _
    (λ drawn extends shows now of.
    let third = of_later _ _ now extends of in
    let second = of_later _ _ now right.extends third in
    let first = of_later _ _ now left.extends second in
    rw (c.in-Choose.is, ← c.deref-in-Choose.ensures, ← c.deref-in-Choose-2.ensures, ← c.deref-in-Choose-3.ensures)
    (shows now of ∙ choice_same _ _ _ _ _ _ (condition.shows now first) (left.shows now second) (right.shows now third)))
    c.choose.ensures.extends
    c.choose.ensures.shows

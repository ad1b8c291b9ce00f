use Rattle.std.proofs.Common.{◌∙◌, sym, ap}
use Rattle.module_nets.proofs.Expressions.{not_true, not_false, shifted_out, shift_width, stays_there}
use Rattle.module_nets.proofs.expression.draw_operator.Goals as goal

pub returns-then-shifts_out-clause-stands : goal.returns-then-shifts_out-clause-stands
returns-then-shifts_out-clause-stands c = c.literal.ensures.stands c.args.netlist.now

pub returns-then-shifts_out-clause-width : goal.returns-then-shifts_out-clause-width
returns-then-shifts_out-clause-width c =
    c.literal.ensures.width ∙ ap (λ number. number.width) c.new.ensures ∙ sym (shift_width c.args.op c.args.left.now.width c.args.right.now.width c.args.right.now.operand (not_true _ (sym c.shifts_out.ensures ∙ c.if-shifts_out.true)))

pub returns-then-shifts_out-clause-shows : goal.returns-then-shifts_out-clause-shows
returns-then-shifts_out-clause-shows c =
    λ now of. c.literal.ensures.shows now ∙ ap (λ number. number.value) c.new.ensures ∙ sym (shifted_out now c.args.op c.args.left.now c.args.right.now (not_true _ (sym c.shifts_out.ensures ∙ c.if-shifts_out.true)))

pub bin-requires-clause-stays : goal.bin-requires-clause-stays
bin-requires-clause-stays c =
    stays_there c.args.op c.args.left.now.width c.args.right.now.width c.args.right.now.operand (not_false _ (sym c.shifts_out.ensures ∙ c.if-shifts_out.false))

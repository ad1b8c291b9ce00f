-- What an expression names is there, and has its width.
use Rattle.source_sim.proofs.Walks.{var_within, var_wide, reg_within, reg_wide, slice_within, slice_wide}
use Rattle.source_sim.proofs.evaluate.+evaluate.Goals as goal

pub made_by-requires : goal.made_by-requires
made_by-requires t c = var_within c.args.now.now c.args.expr.now c.in-Var.variable c.args.acts.now c.in-Var.is c.requires.fits c.requires.seen

pub returns-in-Var-clause-width : goal.returns-in-Var-clause-width
returns-in-Var-clause-width t c =
    var_wide c.args.now.now c.args.expr.now c.in-Var.variable c.args.acts.now c.made_by.result c.in-Var.is c.made_by.ensures c.requires.fits c.requires.seen

pub shown_by-requires : goal.shown_by-requires
shown_by-requires t c = reg_within c.args.now.now c.args.expr.now c.in-Reg.register c.in-Reg.is c.requires.fits

pub returns-in-Reg-clause-width : goal.returns-in-Reg-clause-width
returns-in-Reg-clause-width t c =
    reg_wide c.args.now.now c.args.expr.now c.in-Reg.register c.args.acts.now c.shown_by.result c.in-Reg.is c.shown_by.ensures c.requires.fits c.requires.seen

pub made_by-requires-in-Slice : goal.made_by-requires-in-Slice
made_by-requires-in-Slice t c =
    slice_within c.args.now.now c.args.expr.now c.in-Slice.var c.in-Slice.high c.in-Slice.low c.args.acts.now c.in-Slice.is c.requires.fits c.requires.seen

pub slice-requires-clause-within : goal.slice-requires-clause-within
slice-requires-clause-within t c =
    slice_wide c.args.now.now c.args.expr.now c.in-Slice.var c.in-Slice.high c.in-Slice.low c.args.acts.now c.made_by-in-Slice.result c.in-Slice.is c.made_by-in-Slice.ensures c.requires.fits c.requires.seen

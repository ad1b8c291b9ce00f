use Rattle.std.proofs.Common.{sym, ◌∙◌, subst}
use Rattle.module_nets.specs.Shown.{shown}
use Rattle.module_nets.proofs.Growing.{extends_on, of_later}
use Rattle.process_nets.specs.Acts.{WritesStand}
use Rattle.process_nets.proofs.Steps.{writes_later, written_next}
use Rattle.process_nets.proofs.acts.draw_writes.Goals as goal

pub draw_write-requires-clause-before : goal.draw_write-requires-clause-before
draw_write-requires-clause-before c = c.loop-site.invariant.stands

pub draw_write-requires-clause-writes : goal.draw_write-requires-clause-writes
draw_write-requires-clause-writes c =
    subst (λ width. WritesStand c.loop-site.netlist c.args.register width c.args.draft.now) (sym c.loop-site.invariant.width)
    (writes_later _ _ c.args.register c.args.before.now.width c.args.draft.now c.loop-site.invariant.extends c.requires.writes)

pub loop-site-preserved : goal.loop-site-preserved
loop-site-preserved c =
    let before = c.loop-site.invariant in
    let drawn = c.in_ok-taken.ensures in
    record {
      extends = extends_on _ _ _ before.extends drawn.extends;
      stands = drawn.stands;
      width = drawn.width ∙ before.width;
      shows = λ now of.
          written_next now c.args.draft.now c.args.register (shown now c.args.before.now) (shown now c.loop-site.taken) _ c.loop-site.site (drawn.shows now of)
          (before.shows now (of_later _ _ now drawn.extends of));
    }

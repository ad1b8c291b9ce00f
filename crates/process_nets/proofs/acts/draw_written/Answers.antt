use Rattle.std.proofs.Common.{◌≡◌, Some, refl, sym, ◌∙◌, subst}
use Rattle.std.specs.Prelude.{slice_get}
use Rattle.std.proofs.lemmas.Option.{slice_get_read}
use Rattle.module_nets.specs.Shown.{shown}
use Rattle.module_nets.proofs.Growing.{extends_on, of_later}
use Rattle.process_nets.specs.Acts.{WritesStand}
use Rattle.process_nets.proofs.Steps.{writes_later, written_thread, written_all}
use Rattle.process_nets.proofs.acts.draw_written.Goals as goal

pub draw_writes-requires-clause-before : goal.draw_writes-requires-clause-before
draw_writes-requires-clause-before c = c.loop-draft.invariant.stands

pub draw_writes-requires-clause-writes : goal.draw_writes-requires-clause-writes
draw_writes-requires-clause-writes c =
    let k = c.loop-draft.draft-index in
    let read : slice_get c.args.drafts.now k ≡ Some c.draft-item.result = slice_get_read c.args.drafts.now _ k c.draft-item.result refl c.loop-draft-test.true c.draft-item.is in
    subst (λ width. WritesStand c.loop-draft.netlist c.args.register width c.draft-item.result) (sym c.loop-draft.invariant.width)
    (writes_later _ _ c.args.register c.args.shows.now.width c.draft-item.result c.loop-draft.invariant.extends (c.requires.writes k c.draft-item.result read))

pub loop-draft-preserved : goal.loop-draft-preserved
loop-draft-preserved c =
    let k = c.loop-draft.draft-index in
    let read : slice_get c.args.drafts.now k ≡ Some c.draft-item.result = slice_get_read c.args.drafts.now _ k c.draft-item.result refl c.loop-draft-test.true c.draft-item.is in
    let before = c.loop-draft.invariant in
    let drawn = c.in_ok-taken.ensures in
    record {
      extends = extends_on _ _ _ before.extends drawn.extends;
      stands = drawn.stands;
      width = drawn.width ∙ before.width;
      shows = λ now of.
          written_thread now c.args.drafts.now k c.args.register (shown now c.loop-draft.taken) _ _ c.draft-item.result read (drawn.shows now of)
          (before.shows now (of_later _ _ now drawn.extends of));
    }

pub returns-clause-shows : goal.returns-clause-shows
returns-clause-shows c =
    λ now of.
    written_all now c.args.drafts.now c.loop-draft.draft-index c.args.register _ _ c.loop-draft-test.false (c.loop-draft.invariant.shows now of)

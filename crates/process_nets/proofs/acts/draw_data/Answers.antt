use Rattle.std.proofs.Common.{◌≡◌, Some, refl, sym, ◌∙◌, subst, arith, ◌-◌, length}
use Rattle.std.specs.Prelude.{slice_get}
use Rattle.std.proofs.lemmas.Option.{slice_get_read}
use Rattle.module_nets.specs.Shown.{shown}
use Rattle.module_nets.proofs.Growing.{extends_on, extends_self, of_later}
use Rattle.process_nets.specs.Acts.{DataStand}
use Rattle.process_nets.proofs.Steps.{data_later, data_thread, data_start}
use Rattle.process_nets.proofs.acts.draw_data.Goals as goal

pub loop-thread-init : goal.loop-thread-init
loop-thread-init c = record {
  extends = extends_self c.args.netlist.now;
  stands = c.requires.none;
  width = refl;
  within = omega arith;
  shows = λ now of. data_start now c.args.drafts.now c.args.port (shown now c.args.none.now) (length c.args.drafts.now) refl (c.requires.zero now);
}

pub draw_sends-requires-clause-after : goal.draw_sends-requires-clause-after
draw_sends-requires-clause-after c = c.loop-thread.invariant.stands

pub draw_sends-requires-clause-sends : goal.draw_sends-requires-clause-sends
draw_sends-requires-clause-sends c =
    let before = c.loop-thread.invariant in
    let k = c.loop-thread.thread in
    let some = c.loop-thread-test.true in
    let inside = before.within in
    let draft = c.index-drafts-thread.result in
    let read : slice_get c.args.drafts.now (k - 1) ≡ Some draft = slice_get_read c.args.drafts.now _ (k - 1) draft refl (omega (arith, some, inside)) c.index-drafts-thread.is in
    subst (λ width. DataStand c.loop-thread.netlist c.args.port width draft) (sym before.width)
    (data_later _ _ c.args.port c.args.none.now.width draft before.extends (c.requires.sends (k - 1) draft read))

pub loop-thread-preserved : goal.loop-thread-preserved
loop-thread-preserved c =
    let before = c.loop-thread.invariant in
    let drawn = c.in_ok-sent.ensures in
    let k = c.loop-thread.thread in
    let some = c.loop-thread-test.true in
    let inside = before.within in
    let draft = c.index-drafts-thread.result in
    let read : slice_get c.args.drafts.now (k - 1) ≡ Some draft = slice_get_read c.args.drafts.now _ (k - 1) draft refl (omega (arith, some, inside)) c.index-drafts-thread.is in
    record {
      extends = extends_on _ _ _ before.extends drawn.extends;
      stands = drawn.stands;
      width = drawn.width ∙ before.width;
      within = omega (arith, inside);
      shows = λ now of.
          data_thread now c.args.drafts.now (k - 1) k c.args.port (shown now c.loop-thread.sent) _ draft read (omega (arith, some)) (drawn.shows now of)
          (before.shows now (of_later _ _ now drawn.extends of));
    }

pub returns-clause-shows : goal.returns-clause-shows
returns-clause-shows c =
    λ now of.
    let done = c.loop-thread-test.false in
    let first : c.loop-thread.thread ≡ 0 = omega (arith, done) in
    rw first at c.loop-thread.invariant.shows now of

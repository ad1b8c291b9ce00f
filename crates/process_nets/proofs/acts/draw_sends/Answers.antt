use Rattle.std.proofs.Common.{◌≡◌, sym, ◌∙◌, subst, arith, ◌-◌, length}
use Rattle.module_nets.specs.Shown.{shown}
use Rattle.module_nets.proofs.Growing.{extends_on, of_later}
use Rattle.process_nets.specs.Acts.{DataStand}
use Rattle.process_nets.proofs.Steps.{data_later, data_next}
use Rattle.process_nets.proofs.acts.draw_sends.Goals as goal

pub draw_send-requires-clause-after : goal.draw_send-requires-clause-after
draw_send-requires-clause-after c = c.loop-site.invariant.stands

pub draw_send-requires-clause-sends : goal.draw_send-requires-clause-sends
draw_send-requires-clause-sends c =
    subst (λ width. DataStand c.loop-site.netlist c.args.port width c.args.draft.now) (sym c.loop-site.invariant.width)
    (data_later _ _ c.args.port c.args.after.now.width c.args.draft.now c.loop-site.invariant.extends c.requires.sends)

pub loop-site-preserved : goal.loop-site-preserved
loop-site-preserved c =
    let before = c.loop-site.invariant in
    let drawn = c.in_ok-sent.ensures in
    let site = c.loop-site.site in
    let some = c.loop-site-test.true in
    let inside = before.within in
    let many = length c.args.draft.now.plan.now.deeds.items in
    record {
      extends = extends_on _ _ _ before.extends drawn.extends;
      stands = drawn.stands;
      width = drawn.width ∙ before.width;
      within = omega (arith, inside);
      shows = λ now of.
          data_next now c.args.draft.now c.args.port (shown now c.args.after.now) (shown now c.loop-site.sent) _ (site - 1) site (many - site) (many - (site - 1))
          (omega (arith, some)) (omega (arith, some, inside)) (drawn.shows now of) (before.shows now (of_later _ _ now drawn.extends of));
    }

pub returns-clause-shows : goal.returns-clause-shows
returns-clause-shows c =
    λ now of.
    let many = length c.args.draft.now.plan.now.deeds.items in
    let done = c.loop-site-test.false in
    let first : c.loop-site.site ≡ 0 = omega (arith, done) in
    let all : many - 0 ≡ many = omega arith in
    rw (first, all) at c.loop-site.invariant.shows now of

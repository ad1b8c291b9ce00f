use Rattle.module_nets.specs.Bits.{told}
use Rattle.module_nets.proofs.Growing.{extends_on, extends_self, of_later}
use Rattle.process_nets.proofs.Steps.{offers_later, offered_next, or_nothing}
use Rattle.process_nets.proofs.acts.draw_offers.Goals as goal

pub loop-site-init : goal.loop-site-init
loop-site-init c = record {
  extends = extends_self c.args.netlist.now;
  bit = c.requires.before;
  tells = λ now of. or_nothing (told now c.args.before.now);
}

pub draw_offer-requires-clause-before : goal.draw_offer-requires-clause-before
draw_offer-requires-clause-before c = c.loop-site.invariant.bit

pub draw_offer-requires-clause-offers : goal.draw_offer-requires-clause-offers
draw_offer-requires-clause-offers c = offers_later _ _ c.args.draft.now c.loop-site.invariant.extends c.requires.offers

pub loop-site-preserved : goal.loop-site-preserved
loop-site-preserved c =
    let before = c.loop-site.invariant in
    let drawn = c.in_ok-any.ensures in
    record {
      extends = extends_on _ _ _ before.extends drawn.extends;
      bit = drawn.bit;
      tells = λ now of.
          offered_next now c.args.draft.now c.args.port (told now c.args.before.now) (told now c.loop-site.any) _ c.loop-site.site (drawn.tells now of)
          (before.tells now (of_later _ _ now drawn.extends of));
    }

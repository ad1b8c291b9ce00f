-- The slices that are lent are those of the vectors.
use Rattle.std.proofs.Common.{◌<◌, length, refl, sym, subst}
use Rattle.turn_plans.specs.Read.{AreEarlier, AreTails}
use Rattle.turn_plans.specs.Wires.{EndsAreApart}
use Rattle.turn_plans.proofs.Joined.{last_drawn, earlier, apart, events_same, nodes_same, joined}
use Rattle.turn_plans.proofs.plan.plan_of.Goals as goal

pub tails_of-requires-clause-last : goal.tails_of-requires-clause-last
tails_of-requires-clause-last c =
    subst (λ shapes. c.body-last.result.end < length shapes) (sym c.deref.ensures.value)
    (last_drawn c.args.thread.now c.body-body.ensures.body c.args.elab.now c.requires c.body-last.result c.body-last.ensures c.in_ok-shapes.shapes.items c.in_ok-shapes.ensures)

pub tails_of-requires-clause-earlier : goal.tails_of-requires-clause-earlier
tails_of-requires-clause-earlier c =
    subst AreEarlier (sym c.deref.ensures.value) (earlier c.args.thread.now c.body-body.ensures.body c.args.elab.now c.requires c.in_ok-shapes.shapes.items c.in_ok-shapes.ensures)

pub events_of-requires : goal.events_of-requires
events_of-requires c =
    subst (λ deeds. EndsAreApart deeds c.deref-3.result.now (length c.args.elab.now.graph)) (sym c.deref-2.ensures.value)
    (subst (λ ends. EndsAreApart c.in_ok-deeds.deeds.items ends (length c.args.elab.now.graph)) (sym c.deref-3.ensures.value)
    (apart c.args.thread.now c.body-body.ensures.body c.args.elab.now c.requires c.in_ok-deeds.deeds.items c.in_ok-deeds.ensures.deeds c.in_ok-ends.ends.items c.in_ok-ends.ensures))

pub returns : goal.returns
returns c =
    joined c.args.thread.now c.body-body.ensures.body c.args.elab.now c.requires
    record { nodes = c.in_ok-nodes.nodes; begins = c.in_ok-begins.begins; ends = c.in_ok-ends.ends; last = c.body-last.result.end; deeds = c.in_ok-deeds.deeds }
    c.in_ok-deeds.ensures.few c.in_ok-deeds.ensures.deeds c.in_ok-begins.ensures c.in_ok-ends.ensures c.body-last.result c.body-last.ensures refl c.in_ok-shapes.shapes.items c.in_ok-shapes.ensures
    c.in_ok-tails.tails.items (subst (λ shapes. AreTails shapes c.body-last.result.end c.in_ok-tails.tails.items) c.deref.ensures.value c.in_ok-tails.ensures) c.in_ok-events.events.items
    (events_same c.args.elab.now.graph _ c.in_ok-deeds.deeds.items _ c.in_ok-ends.ends.items c.in_ok-events.events.items c.deref-2.ensures.value c.deref-3.ensures.value c.in_ok-events.ensures)
    (nodes_same _ c.in_ok-shapes.shapes.items _ c.in_ok-tails.tails.items _ c.in_ok-events.events.items c.in_ok-nodes.nodes.items c.deref-4.ensures.value c.deref-5.ensures.value c.deref-6.ensures.value c.in_ok-nodes.ensures)

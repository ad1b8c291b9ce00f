use Rattle.std.proofs.Common.{◌∙◌, ap}
use Rattle.machine_parts.specs.Parts.{node_at}
use Rattle.turn_plans.specs.Wires.{port_of, wired_by}
use Rattle.turn_plans.proofs.NodesRead.{deed_read}
use Rattle.turn_plans.proofs.Wired.{marked_more}
use Rattle.turn_plans.proofs.wires.mark_wires.Goals as goal

pub loop-site-preserved : goal.loop-site-preserved
loop-site-preserved c =
    let deeds = c.args.deeds.now in
    let ends = c.args.ends.now in
    let site = c.loop-site.site in
    let mid = c.loop-site.events in
    marked_more deeds ends c.args.events.now c.requires site mid c.mark_wire.new.events c.loop-site-test.true c.loop-site.invariant
    (c.mark_wire.ensures ∙ ap (λ deed. wired_by (port_of deed) (node_at ends site) mid) (deed_read deeds site _ c.loop-site-test.true))

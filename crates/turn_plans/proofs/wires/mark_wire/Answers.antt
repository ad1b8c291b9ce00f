use Rattle.turn_plans.proofs.Wired.{port_there}
use Rattle.turn_plans.proofs.wires.mark_wire.Goals as goal

pub bounds-events-end : goal.bounds-events-end
bounds-events-end c = c.requires c.in-Sends.port (port_there c.args.deed c.in-Sends.port c.in-Sends.is)

-- The keys are the names of the ports, with the new one last; all names are good, and there are few.
use Rattle.std.proofs.Common.{◌∙◌, ap, arith, length}
use Rattle.std.specs.List.{list_any}
use Rattle.sv_tree.specs.WellFormed.{is_same_port, is_port_name}
use Rattle.sv_draft.proofs.NamedPlaces.{ports_more, all_more, few_more, may_add_says}
use Rattle.sv_draft.proofs.ports.PortTable.add.Goals as goal

pub invariant_of-self : goal.invariant_of-self
invariant_of-self c =
    let ports = c.self.inside.ports.items in
    let says = may_add_says c.args.self.now c.args.port c.requires in
    let keys = rw (c.copy.ensures, c.copy-2.ensures) at c.in-Ok-insert.ensures.keys in
    let fresh = ap (list_any (is_same_port c.args.port)) c.self.view_is ∙ says.fresh in (
      rw (c.in-Ok.ensures) (keys ∙ ports_more ports c.self.inside.names.keys c.args.port c.self.invariant.0 fresh),
      rw (c.in-Ok.ensures) (all_more is_port_name ports c.args.port c.self.invariant.1 says.good),
      rw (c.in-Ok.ensures) (few_more ports c.args.port (omega (arith, says.room, ap length c.self.view_is))),
    )

use Rattle.std.proofs.Common.{◌∙◌, ap}
use Rattle.std.specs.List.{list_any}
use Rattle.sv_tree.specs.WellFormed.{is_same_port}
use Rattle.sv_draft.proofs.NamedPlaces.{ports_contain}
use Rattle.sv_draft.proofs.ports.PortTable.contains.Goals as goal

pub returns : goal.returns
returns c =
    let h = rw (c.copy.ensures, c.copy-2.ensures) at c.contains-found.ensures in
    h ∙ ports_contain c.self.inside.ports.items c.self.inside.names.keys c.args.port.now.endpoint c.args.port.now.message c.self.invariant.0
    ∙ ap (list_any (is_same_port c.args.port.now)) c.self.view_is

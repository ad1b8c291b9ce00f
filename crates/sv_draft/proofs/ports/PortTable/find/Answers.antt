use Rattle.std.proofs.Common.{◌≡◌, ◌∙◌, ap, false, ◌&&◌, refl}
use Rattle.std.specs.Prelude.{position}
use Rattle.sv_tree.specs.WellFormed.{is_name}
use Rattle.sv_lines.specs.Operands.{is_named}
use Rattle.sv_draft.proofs.NamedPlaces.{port_found, no_port_found}
use Rattle.sv_draft.proofs.ports.PortTable.find.Goals as goal

pub returns-in-Some-good_name-clause-index : goal.returns-in-Some-good_name-clause-index
returns-in-Some-good_name-clause-index c =
    let h = rw (c.in-Some.ensures.1, c.in-Some-good_name.ensures.1) at c.get_index_of-found.ensures.index in
    h ∙ port_found c.self.inside.ports.items c.self.inside.names.keys c.args.endpoint.now c.args.message.now c.self.invariant.0
    ∙ ap (position (is_named c.args.endpoint.now c.args.message.now)) c.self.view_is

pub returns-in-None-good_name-clause-index : goal.returns-in-None-good_name-clause-index
returns-in-None-good_name-clause-index c =
    let bad : (is_name c.args.endpoint.now && is_name c.args.message.now) ≡ false = rw (c.in-Some.ensures.0, c.in-None-good_name.ensures) refl in
    no_port_found c.args.endpoint.now c.args.message.now c.self.inside.ports.items bad c.self.invariant.1
    ∙ ap (position (is_named c.args.endpoint.now c.args.message.now)) c.self.view_is

pub returns-in-None-clause-index : goal.returns-in-None-clause-index
returns-in-None-clause-index c =
    let bad : (is_name c.args.endpoint.now && is_name c.args.message.now) ≡ false = rw (c.in-None.ensures) refl in
    no_port_found c.args.endpoint.now c.args.message.now c.self.inside.ports.items bad c.self.invariant.1
    ∙ ap (position (is_named c.args.endpoint.now c.args.message.now)) c.self.view_is

use Rattle.std.proofs.Common.{◌∙◌, sym}
use Rattle.width_check.proofs.EndpointSteps.{messages_are, unknown_class}
use Rattle.width_check.proofs.endpoints.find_messages.Goals as goal

pub returns-in-None : goal.returns-in-None
returns-in-None c = unknown_class c.args.classes.now c.args.name.now (sym c.in-None.is ∙ c.find.ensures)

pub returns-in-Some : goal.returns-in-Some
returns-in-Some c =
    let found = messages_are c.args.classes.now c.args.name.now c.in-Some.class c.messages.result.now (sym c.in-Some.is ∙ c.find.ensures) c.messages.ensures in
    (found.known, found.are)

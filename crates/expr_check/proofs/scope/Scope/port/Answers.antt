use Rattle.std.proofs.Common.{◌∙◌, ap, sym}
use Rattle.core_term.specs.Process.{Port}
use Rattle.core_term.specs.declared.process.CorePort.{CorePort}
use Rattle.expr_check.specs.Known.{scope_of}
use Rattle.expr_check.proofs.Places.{port_is, no_port}
use Rattle.expr_check.proofs.scope.Scope.port.Goals as goal

pub returns-in-None : goal.returns-in-None
unfolding scope_of
returns-in-None c = no_port c.args.self.now.known.now.ports c.args.endpoint.now c.args.message.now (sym c.in-None.is ∙ c.find.ensures)

pub returns-in-Some : goal.returns-in-Some
unfolding scope_of
returns-in-Some c =
    let at = sym c.in-Some.is ∙ c.find.ensures in
    let ports = c.ports-ports.ensures.ports in
    let found =
    port_is c.args.self.now.known.now.ports c.ports-ports.result.now c.args.endpoint.now c.args.message.now c.in-Some.number c.index-ports-number.result at ports
    c.index-ports-number.is in
    let again =
    port_is c.args.self.now.known.now.ports c.ports-ports.result.now c.args.endpoint.now c.args.message.now c.in-Some.number c.index-ports-number-in-Some.result at
    ports c.index-ports-number-in-Some.is in (
      found.known,
      found.same,
      ap (λ (port : CorePort). port.width) (sym c.index-ports-number.is) ∙ ap (λ (port : Port). port.width) found.is,
      ap (λ (port : CorePort). port.received) (sym c.index-ports-number-in-Some.is) ∙ ap (λ (port : Port). port.received) again.is,
    )

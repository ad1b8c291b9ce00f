use Rattle.std.proofs.Common.{◌≡◌, ◌∙◌, ap, arith}
use Rattle.source_signals.specs.Sources.{wire_signal}
use Rattle.source_signals.proofs.Numbered.{next_numbered}
use Rattle.source_signals.proofs.sources.wire_signals.Goals as goal

pub loop-port-preserved : goal.loop-port-preserved
loop-port-preserved c =
    let k = c.loop-port.port-index in
    let item = c.port-item.result in
    let counted : c.len.result ≡ k = grind (arith, c.len.ensures, c.loop-port.invariant.count) in
    record {
      count = omega (arith, c.in_ok-push.ensures.len, c.loop-port.invariant.count);
      drawn = next_numbered wire_signal c.args.ports.now k c.loop-port.signals.items c.push.new.self.items (record { operand = c.wire_operand-operand.result; width = 1 }) item c.loop-port-test.true c.loop-port.invariant.drawn c.in_ok-push.ensures.items
          (ap (λ operand. record { operand = operand; width = 1 }) (c.wire_operand-operand.ensures ∙ ap (λ place. (wire_signal place item).operand) counted))
          c.port-item.is;
    }

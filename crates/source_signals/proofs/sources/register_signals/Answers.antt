use Rattle.std.proofs.Common.{◌≡◌, ap, arith}
use Rattle.sv_tree.specs.declared.tree.SvOperand.TheVariants.{Ref}
use Rattle.sv_tree.specs.declared.tree.SvRef.TheVariants.{Reg}
use Rattle.source_signals.specs.Sources.{register_signal}
use Rattle.source_signals.proofs.Numbered.{next_numbered}
use Rattle.source_signals.proofs.sources.register_signals.Goals as goal

pub loop-register-preserved : goal.loop-register-preserved
loop-register-preserved c =
    let k = c.loop-register.register-index in
    let item = c.register-item.result in
    let counted : c.len.result ≡ k = grind (arith, c.len.ensures, c.loop-register.invariant.count) in
    record {
      count = omega (arith, c.in_ok-push.ensures.len, c.loop-register.invariant.count);
      drawn = next_numbered register_signal c.args.registers.now k c.loop-register.signals.items c.push.new.self.items (record { operand = Ref (Reg c.len.result); width = c.register-item.result.width }) item c.loop-register-test.true c.loop-register.invariant.drawn c.in_ok-push.ensures.items
          (ap (λ place. record { operand = Ref (Reg place); width = c.register-item.result.width }) counted)
          c.register-item.is;
    }

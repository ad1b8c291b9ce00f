use Rattle.std.proofs.Common.{◌≡◌, ◌+◌, ◌==◌, suc, sym, ◌∙◌, subst, ap, arith}
use Rattle.std.proofs.lemmas.List.{get_or_read}
use Rattle.module_nets.proofs.Growing.{extends_self, extends_on, of_later}
use Rattle.module_nets.proofs.BitsTold.{bit_later}
use Rattle.module_nets.specs.Signals.{no_signal}
use Rattle.module_nets.specs.Bits.{IsBit, told}
use Rattle.module_nets.specs.Signals.{signal_at}
use Rattle.pulse_nets.proofs.SameBits.{or_same}
use Rattle.pulse_nets.proofs.writes.draw_any.Goals as goal

pub loop-bit-init : goal.loop-bit-init
loop-bit-init c = record {
  extends = extends_self c.args.netlist.now;
  bit = record { stands = c.literal-any.ensures.stands c.args.netlist.now; one_bit = c.literal-any.ensures.width ∙ ap (λ n. n.width) c.new.ensures };
  tells = λ now of. ap (λ v. v == 1) (c.literal-any.ensures.shows now ∙ ap (λ n. n.value) c.new.ensures);
}

pub or-requires-clause-right : goal.or-requires-clause-right
or-requires-clause-right c =
    let bits = c.args.bits.now in
    let k = c.loop-bit.bit-index in
    let read : c.bit-item.result ≡ signal_at bits k = get_or_read bits k c.bit-item.result c.loop-bit-test.true c.bit-item.is no_signal in
    subst (λ x. IsBit c.loop-bit.netlist x) (sym read) (bit_later _ _ _ c.loop-bit.invariant.extends (c.requires k c.loop-bit-test.true))

pub loop-bit-preserved : goal.loop-bit-preserved
loop-bit-preserved c =
    let bits = c.args.bits.now in
    let k = c.loop-bit.bit-index in
    let read : c.bit-item.result ≡ signal_at bits k = get_or_read bits k c.bit-item.result c.loop-bit-test.true c.bit-item.is no_signal in
    let next : k + 1 ≡ suc k = omega arith in
    record {
      extends = extends_on _ _ _ c.loop-bit.invariant.extends c.in_ok-any.ensures.extends;
      bit = c.in_ok-any.ensures.bit;
      tells = λ now of.
          rw next
          (c.in_ok-any.ensures.tells now of
          ∙ or_same _ _ _ _ (c.loop-bit.invariant.tells now (of_later _ _ now c.in_ok-any.ensures.extends of)) (ap (λ x. told now x) read));
    }

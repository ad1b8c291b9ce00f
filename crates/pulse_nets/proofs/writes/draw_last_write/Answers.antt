use Rattle.std.proofs.Common.{◌≡◌, ◌+◌, suc, sym, ◌∙◌, subst, ap, arith}
use Rattle.std.proofs.lemmas.List.{get_or_read}
use Rattle.module_nets.proofs.Growing.{extends_on, of_later, stands_later}
use Rattle.module_nets.proofs.Expressions.{choice_same}
use Rattle.module_nets.specs.Netlist.{Stands}
use Rattle.module_nets.specs.Shown.{shown}
use Rattle.module_nets.specs.Signals.{no_signal}
use Rattle.pulse_nets.specs.Writes.{write_at}
use Rattle.pulse_nets.proofs.writes.draw_last_write.Goals as goal

pub choose-requires-clause-condition : goal.choose-requires-clause-condition
choose-requires-clause-condition c =
    let writes = c.args.writes.now in
    let k = c.loop-write.write-index in
    let read : c.write-item.result ≡ write_at writes k = get_or_read writes k c.write-item.result c.loop-write-test.true c.write-item.is record { begun = no_signal; value = no_signal } in
    subst (λ w. Stands c.loop-write.netlist w.begun) (sym read) (stands_later _ _ _ c.loop-write.invariant.extends (c.requires.writes k c.loop-write-test.true).begun.stands)

pub choose-requires-clause-first : goal.choose-requires-clause-first
choose-requires-clause-first c =
    let writes = c.args.writes.now in
    let k = c.loop-write.write-index in
    let read : c.write-item.result ≡ write_at writes k = get_or_read writes k c.write-item.result c.loop-write-test.true c.write-item.is record { begun = no_signal; value = no_signal } in
    subst (λ w. Stands c.loop-write.netlist w.value) (sym read) (stands_later _ _ _ c.loop-write.invariant.extends (c.requires.writes k c.loop-write-test.true).value)

pub choose-requires-clause-one_bit : goal.choose-requires-clause-one_bit
choose-requires-clause-one_bit c =
    let writes = c.args.writes.now in
    let k = c.loop-write.write-index in
    let read : c.write-item.result ≡ write_at writes k = get_or_read writes k c.write-item.result c.loop-write-test.true c.write-item.is record { begun = no_signal; value = no_signal } in
    ap (λ w. w.begun.width) read ∙ (c.requires.writes k c.loop-write-test.true).begun.one_bit

pub loop-write-preserved : goal.loop-write-preserved
loop-write-preserved c =
    let writes = c.args.writes.now in
    let k = c.loop-write.write-index in
    let read : c.write-item.result ≡ write_at writes k = get_or_read writes k c.write-item.result c.loop-write-test.true c.write-item.is record { begun = no_signal; value = no_signal } in
    let next : k + 1 ≡ suc k = omega arith in
    record {
      extends = extends_on _ _ _ c.loop-write.invariant.extends c.in_ok-taken.ensures.extends;
      stands = c.in_ok-taken.ensures.stands;
      width = c.in_ok-taken.ensures.width ∙ ap (λ w. w.value.width) read ∙ (c.requires.writes k c.loop-write-test.true).wide;
      shows = λ now of.
          rw next
          (c.in_ok-taken.ensures.shows now of
          ∙ choice_same _ _ _ _ _ _ (ap (λ w. shown now w.begun) read) (ap (λ w. shown now w.value) read) (c.loop-write.invariant.shows now (of_later _ _ now c.in_ok-taken.ensures.extends of)));
    }

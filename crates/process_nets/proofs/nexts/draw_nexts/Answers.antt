use Rattle.std.proofs.Common.{◌+◌, [], ◌∷◌, length, sym, ◌∙◌, subst, ap}
use Rattle.std.proofs.lemmas.List.{get_or_default, length-append}
use Rattle.module_nets.proofs.Growing.{extends_on}
use Rattle.machine_parts.specs.declared.frame.Keep.TheVariants as keep
use Rattle.machine_parts.specs.Frames.{keep_at, no_keep}
use Rattle.process_nets.specs.Kept.{KeepStands, KeptDrawn, NextsDrawn}
use Rattle.process_nets.proofs.Bits.{are_bits_later}
use Rattle.process_nets.proofs.Kept.{keep_stands_later, nexts_push}
use Rattle.process_nets.proofs.nexts.draw_nexts.Goals as goal

pub draw_kept-requires-clause-keep : goal.draw_kept-requires-clause-keep
draw_kept-requires-clause-keep c =
    let keeps = c.args.keeps.now in
    let k = c.loop-keep.keep-index in
    subst (KeepStands c.loop-keep.netlist c.args.registers.now c.args.drafts.now) (get_or_default keeps k no_keep (keep.Source 0) c.loop-keep-test.true)
    (keep_stands_later _ _ c.loop-keep.invariant.extends c.args.registers.now c.args.wires.now c.args.drafts.now (keep_at keeps k) (c.requires.keeps k c.loop-keep-test.true))

pub draw_kept-requires-clause-wires : goal.draw_kept-requires-clause-wires
draw_kept-requires-clause-wires c = are_bits_later _ _ c.args.wires.now c.loop-keep.invariant.extends c.requires.wires

pub loop-keep-preserved : goal.loop-keep-preserved
loop-keep-preserved c =
    let keeps = c.args.keeps.now in
    let k = c.loop-keep.keep-index in
    let before = c.loop-keep.invariant in
    let made = c.in_ok-next.ensures in
    let next = c.in_ok-next.next in
    let list = c.loop-keep.nexts.items in
    let items = c.in_ok-push.ensures.items in
    let long = length-append list (next.operand ∷ []) in
    let here = subst (λ kept. KeptDrawn c.draw_kept.new.netlist c.args.registers.now c.args.wires.now c.args.drafts.now kept next)
    (sym (get_or_default keeps k no_keep (keep.Source 0) c.loop-keep-test.true)) made.drawn in
    record {
      extends = extends_on _ _ _ before.extends made.extends;
      count = ap (λ list. length list) items ∙ (long ∙ ap (λ n. n + 1) before.count);
      drawn = subst (λ list. NextsDrawn c.draw_kept.new.netlist c.args.registers.now c.args.wires.now c.args.drafts.now keeps list (k + 1)) (sym items)
          (nexts_push _ _ made.extends c.args.registers.now c.args.wires.now c.args.drafts.now keeps list next k before.count before.drawn here);
    }

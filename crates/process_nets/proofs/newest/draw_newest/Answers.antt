use Rattle.std.proofs.Common.{◌≡◌, sym, ◌∙◌, subst, ap, rules, ◌+◌, length, [], ◌∷◌}
use Rattle.std.proofs.lemmas.List.{length-append}
use Rattle.module_nets.proofs.Growing.{extends_on}
use Rattle.process_nets.specs.Newest.{AnyDrawn, SitesNewest}
use Rattle.process_nets.proofs.Bits.{are_bits_later}
use Rattle.process_nets.proofs.Sends.{any_later, begins_later, earliers_later, newest_push, newest_all}
use Rattle.process_nets.proofs.newest.draw_newest.Goals as goal

pub draw_last-requires-clause-begins : goal.draw_last-requires-clause-begins
draw_last-requires-clause-begins c =
    begins_later _ _ c.args.plan.now c.args.pulses.now c.loop-site.invariant.extends c.requires.begins

pub draw_last-requires-clause-kept : goal.draw_last-requires-clause-kept
draw_last-requires-clause-kept c = are_bits_later _ _ c.args.kept.now c.loop-site.invariant.extends c.requires.kept

pub draw_last-requires-clause-any : goal.draw_last-requires-clause-any
draw_last-requires-clause-any c =
    let before = c.loop-site.invariant in
    subst (λ ports. AnyDrawn c.loop-site.netlist c.args.plan.now c.args.pulses.now ports (length c.args.plan.now.deeds.items) c.in_ok-begun.begun.any.items) (sym before.any.ports_all) before.any

pub loop-site-preserved : goal.loop-site-preserved
loop-site-preserved c =
    let before = c.loop-site.invariant in
    let plan = c.args.plan.now in
    let pulses = c.args.pulses.now in
    let list = c.loop-site.newest.items in
    let items = c.in_ok-push.ensures.items in
    let long = length-append list (c.in_ok-last.last ∷ []) in
    let drawn = c.in_ok-last.ensures in
    record {
      extends = extends_on _ _ _ before.extends drawn.extends;
      any = any_later plan pulses _ _ c.args.ports (length plan.deeds.items) c.in_ok-begun.begun.any.items drawn.extends before.any;
      earlier = earliers_later plan pulses _ _ c.in_ok-begun.begun.earlier.items (length plan.deeds.items) drawn.extends before.earlier;
      count = ap (λ list. length list) items ∙ (long ∙ ap (λ n. n + 1) before.count);
      newest = subst (λ list. SitesNewest c.draw_last.new.netlist plan c.args.kept.now pulses list (c.loop-site.site + 1)) (sym items)
          (newest_push plan pulses c.args.kept.now _ _ list c.in_ok-last.last c.loop-site.site drawn.extends before.count before.newest drawn.newest);
    }

pub returns-clause-drawn : goal.returns-clause-drawn
returns-clause-drawn c =
    let plan = c.args.plan.now in
    let here = c.loop-site.invariant in
    let all : c.loop-site.site ≡ length plan.deeds.items = search rules in
    newest_all plan c.args.pulses.now c.args.kept.now c.loop-site.netlist c.loop-site.newest.items (here.count ∙ all)
    (subst (λ count. SitesNewest c.loop-site.netlist plan c.args.kept.now c.args.pulses.now c.loop-site.newest.items count) all here.newest)

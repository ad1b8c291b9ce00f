use Rattle.std.proofs.Common.{sym, ◌∙◌, subst, ap, ◌+◌, length, [], ◌∷◌}
use Rattle.std.proofs.lemmas.List.{length-append}
use Rattle.module_nets.proofs.Growing.{extends_on}
use Rattle.process_nets.specs.Newest.{AnyDrawn, EarliersDrawn}
use Rattle.process_nets.proofs.Sends.{begins_later, earliers_push}
use Rattle.process_nets.proofs.newest.draw_begun.Goals as goal

pub draw_earlier-requires-clause-begins : goal.draw_earlier-requires-clause-begins
draw_earlier-requires-clause-begins c =
    begins_later _ _ c.args.plan.now c.args.pulses.now c.loop-site.invariant.extends c.requires.begins

pub loop-site-preserved : goal.loop-site-preserved
loop-site-preserved c =
    let before = c.loop-site.invariant in
    let list = c.loop-site.earlier.items in
    let items = c.in_ok-push.ensures.items in
    let long = length-append list (c.in_ok-before.before ∷ []) in
    record {
      extends = extends_on _ _ _ before.extends c.in_ok-before.ensures.extends;
      any = subst (λ ports. AnyDrawn c.draw_earlier.new.netlist c.args.plan.now c.args.pulses.now ports (c.loop-site.site + 1) c.draw_earlier.new.any.items) before.any.ports_all c.in_ok-before.ensures.any;
      count = ap (λ list. length list) items ∙ (long ∙ ap (λ n. n + 1) before.count);
      earlier = subst (λ list. EarliersDrawn c.draw_earlier.new.netlist c.args.plan.now c.args.pulses.now list (c.loop-site.site + 1)) (sym items)
          (earliers_push c.args.plan.now c.args.pulses.now _ _ list c.in_ok-before.before c.loop-site.site c.in_ok-before.ensures.extends before.count before.earlier c.in_ok-before.ensures.earlier);
    }

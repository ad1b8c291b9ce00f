use Rattle.std.proofs.Common.{◌≡◌, ◌+◌, [], ◌∷◌, length, Some, refl, sym, ◌∙◌, subst, ap}
use Rattle.std.specs.Prelude.{slice_get}
use Rattle.std.proofs.lemmas.List.{length-append}
use Rattle.std.proofs.lemmas.Option.{slice_get_read}
use Rattle.module_nets.proofs.Growing.{extends_on}
use Rattle.process_nets.specs.Outs.{PortsDrawn}
use Rattle.process_nets.proofs.Ports.{port_stands_later, ports_push}
use Rattle.process_nets.proofs.outs.draw_outs.Goals as goal

pub draw_out-requires : goal.draw_out-requires
draw_out-requires c =
    let ports = c.args.ports.now in
    let k = c.loop-port.port in
    let read : slice_get ports k ≡ Some c.index-ports-port.result = slice_get_read ports _ k c.index-ports-port.result refl c.loop-port-test.true c.index-ports-port.is in
    port_stands_later _ _ c.loop-port.invariant.extends c.args.drafts.now k c.index-ports-port.result (c.requires.ports k c.index-ports-port.result read)

pub loop-port-preserved : goal.loop-port-preserved
loop-port-preserved c =
    let ports = c.args.ports.now in
    let k = c.loop-port.port in
    let read : slice_get ports k ≡ Some c.index-ports-port.result = slice_get_read ports _ k c.index-ports-port.result refl c.loop-port-test.true c.index-ports-port.is in
    let before = c.loop-port.invariant in
    let made = c.in_ok-out.ensures in
    let list = c.loop-port.outs.items in
    let items = c.in_ok-push.ensures.items in
    let long = length-append list (c.in_ok-out.out ∷ []) in
    record {
      extends = extends_on _ _ _ before.extends made.extends;
      count = ap (λ list. length list) items ∙ (long ∙ ap (λ n. n + 1) before.count);
      drawn = subst (λ list. PortsDrawn c.draw_out.new.netlist c.args.drafts.now ports list (k + 1)) (sym items)
          (ports_push _ _ made.extends c.args.drafts.now ports list k c.index-ports-port.result c.in_ok-out.out before.count read before.drawn made.drawn);
    }

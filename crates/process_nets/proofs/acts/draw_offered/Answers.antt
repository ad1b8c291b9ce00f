use Rattle.std.proofs.Common.{◌≡◌, Some, refl, sym, subst, ap}
use Rattle.std.specs.Prelude.{slice_get, ◌||◌}
use Rattle.std.proofs.lemmas.Option.{slice_get_read}
use Rattle.module_nets.specs.declared.signal.Signal.{Signal}
use Rattle.module_nets.specs.Bits.{IsBit, told}
use Rattle.module_nets.proofs.Growing.{extends_on, extends_self, of_later}
use Rattle.machine_parts.specs.Drafts.{port_offered}
use Rattle.process_nets.proofs.Bits.{zero_is_bit}
use Rattle.process_nets.proofs.Steps.{offers_later, offered_thread, offered_all}
use Rattle.process_nets.proofs.acts.draw_offered.Goals as goal

pub loop-draft-init : goal.loop-draft-init
loop-draft-init c = record {
  extends = extends_self c.args.netlist.now;
  bit = subst (IsBit c.args.netlist.now) (sym c.no_bit-any.ensures) (zero_is_bit c.args.netlist.now);
  tells = λ now of. ap (λ (any : Signal). told now any || port_offered now c.args.drafts.now c.args.port) c.no_bit-any.ensures;
}

pub draw_offers-requires-clause-before : goal.draw_offers-requires-clause-before
draw_offers-requires-clause-before c = c.loop-draft.invariant.bit

pub draw_offers-requires-clause-offers : goal.draw_offers-requires-clause-offers
draw_offers-requires-clause-offers c =
    let k = c.loop-draft.draft-index in
    let read : slice_get c.args.drafts.now k ≡ Some c.draft-item.result = slice_get_read c.args.drafts.now _ k c.draft-item.result refl c.loop-draft-test.true c.draft-item.is in
    offers_later _ _ c.draft-item.result c.loop-draft.invariant.extends (c.requires.offers k c.draft-item.result read)

pub loop-draft-preserved : goal.loop-draft-preserved
loop-draft-preserved c =
    let k = c.loop-draft.draft-index in
    let read : slice_get c.args.drafts.now k ≡ Some c.draft-item.result = slice_get_read c.args.drafts.now _ k c.draft-item.result refl c.loop-draft-test.true c.draft-item.is in
    let before = c.loop-draft.invariant in
    let drawn = c.in_ok-any.ensures in
    record {
      extends = extends_on _ _ _ before.extends drawn.extends;
      bit = drawn.bit;
      tells = λ now of.
          offered_thread now c.args.drafts.now k c.args.port (told now c.loop-draft.any) _ _ c.draft-item.result read (drawn.tells now of)
          (before.tells now (of_later _ _ now drawn.extends of));
    }

pub returns-clause-tells : goal.returns-clause-tells
returns-clause-tells c =
    λ now of.
    offered_all now c.args.drafts.now c.loop-draft.draft-index c.args.port _ _ c.loop-draft-test.false (c.loop-draft.invariant.tells now of)

use Rattle.std.proofs.Common.{◌≡◌, sym, ◌∙◌, subst, ap}
use Rattle.anvil_bits.specs.Number.{Number}
use Rattle.module_nets.proofs.Growing.{of_later}
use Rattle.module_nets.proofs.BitsTold.{bit_later}
use Rattle.process_nets.specs.Acts.{DataStand, EachDraft}
use Rattle.process_nets.proofs.Ports.{as_bit, as_wide, sends_later}
use Rattle.process_nets.proofs.outs.draw_out.Goals as goal

pub draw_data-requires-clause-none : goal.draw_data-requires-clause-none
draw_data-requires-clause-none c = c.literal-none.ensures.stands c.draw_offered.new.netlist

pub draw_data-requires-clause-sends : goal.draw_data-requires-clause-sends
draw_data-requires-clause-sends c =
    let wide : c.literal-none.result.width ≡ c.args.is.now.width = c.literal-none.ensures.width ∙ ap (λ (n : Number). n.width) c.new.ensures in
    subst (λ width. EachDraft (DataStand c.draw_offered.new.netlist c.args.port width) c.args.drafts.now) (sym wide)
    (sends_later _ _ c.in_ok-offered.ensures.extends c.args.drafts.now c.args.port c.args.is.now.width c.requires.sends)

pub returns-in_ok-sent-clause-drawn : goal.returns-in_ok-sent-clause-drawn
returns-in_ok-sent-clause-drawn c =
    let wide : c.literal-none.result.width ≡ c.args.is.now.width = c.literal-none.ensures.width ∙ ap (λ (n : Number). n.width) c.new.ensures in
    let offered = c.in_ok-offered.ensures in
    let sent = c.in_ok-sent.ensures in
    record {
      fits = (
        c.if-is.false,
        as_wide c.draw_data.new.netlist c.in_ok-sent.sent c.args.is.now.width sent.stands (sent.width ∙ wide),
        as_bit c.draw_data.new.netlist c.in_ok-offered.offered (bit_later _ _ c.in_ok-offered.offered sent.extends offered.bit),
      );
      drawn = (
        c.if-is.false,
        λ now of. offered.tells now (of_later _ _ now sent.extends of),
        λ now of. sent.shows now of,
      );
    }

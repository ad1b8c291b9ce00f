use Rattle.std.proofs.Common.{◌≡◌, ◌∙◌, ap, rules}
use Rattle.act_deeds.specs.declared.deed.Deed.TheVariants as deeds
use Rattle.act_deeds.specs.Deeds.{deed_at}
use Rattle.module_nets.specs.Bits.{told}
use Rattle.machine_parts.specs.Parts.{bit_at}
use Rattle.pulse_nets.proofs.SameBits.{or_same}
use Rattle.process_nets.specs.Newest.{begin_at}
use Rattle.process_nets.proofs.Sends.{any_send, earlier_send}
use Rattle.process_nets.proofs.newest.draw_earlier.Goals as goal

pub returns-in_ok-after-in-Sends-clause-any : goal.returns-in_ok-after-in-Sends-clause-any
returns-in_ok-after-in-Sends-clause-any c =
    let plan = c.args.plan.now in
    let pulses = c.args.pulses.now in
    let is : deed_at plan.deeds.items c.args.site ≡ deeds.Sends c.in-Sends.port = search rules in
    let before : c.bit_of-before.result ≡ bit_at c.args.any.now.items c.in-Sends.port = search rules in
    let begins : c.pulse_in-begins.result.pulse ≡ begin_at plan pulses c.args.site = search rules in
    any_send plan pulses _ _ _ c.args.site c.in-Sends.port c.args.any.now.items _ c.in_ok-after-in-Sends.ensures.extends c.requires.any is
    (c.requires.sends c.args.site c.in-Sends.port is) c.in_ok-after-in-Sends.ensures.bit
    (λ now of. c.in_ok-after-in-Sends.ensures.tells now of ∙ or_same _ _ _ _ (ap (told now) before) (ap (told now) begins))

pub returns-in_ok-after-in-Sends-clause-earlier : goal.returns-in_ok-after-in-Sends-clause-earlier
returns-in_ok-after-in-Sends-clause-earlier c =
    let plan = c.args.plan.now in
    let is : deed_at plan.deeds.items c.args.site ≡ deeds.Sends c.in-Sends.port = search rules in
    let before : c.bit_of-before.result ≡ bit_at c.args.any.now.items c.in-Sends.port = search rules in
    earlier_send plan c.args.pulses.now _ _ _ c.args.site c.in-Sends.port c.args.any.now.items _ c.in_ok-after-in-Sends.ensures.extends c.requires.any is
    (c.requires.sends c.args.site c.in-Sends.port is) before

use Rattle.std.proofs.Common.{◌≡◌, ◌∙◌, ap, rules}
use Rattle.act_deeds.specs.declared.deed.Deed.TheVariants as deeds
use Rattle.act_deeds.specs.Deeds.{deed_at}
use Rattle.module_nets.specs.Bits.{told}
use Rattle.machine_parts.specs.Parts.{bit_at}
use Rattle.process_nets.specs.Newest.{begin_at}
use Rattle.process_nets.proofs.Bits.{first_same, choice_same_told}
use Rattle.process_nets.proofs.Sends.{newest_send}
use Rattle.process_nets.proofs.newest.draw_last.Goals as goal

pub returns-in_ok-last-in-Sends-clause-newest : goal.returns-in_ok-last-in-Sends-clause-newest
returns-in_ok-last-in-Sends-clause-newest c =
    let plan = c.args.plan.now in
    let pulses = c.args.pulses.now in
    let is : deed_at plan.deeds.items c.args.site ≡ deeds.Sends c.in-Sends.port = search rules in
    let begins : c.pulse_in-begins.result.pulse ≡ begin_at plan pulses c.args.site = search rules in
    let earlier : c.bit_of.result ≡ bit_at c.args.begun.now.earlier.items c.args.site = search rules in
    let any : c.bit_of-any.result ≡ bit_at c.args.begun.now.any.items c.in-Sends.port = search rules in
    let kept : c.bit_of-in-Sends.result ≡ bit_at c.args.kept.now c.args.site = search rules in
    newest_send plan pulses c.args.kept.now _ _ _ _ c.args.site c.in-Sends.port c.args.begun.now.any.items _ c.in_ok-first-in-Sends.first c.in_ok-last-in-Sends.last
    c.in_ok-first-in-Sends.ensures.extends c.in_ok-last-in-Sends.ensures.extends is (c.requires.sends c.args.site c.in-Sends.port is) c.requires.any c.requires.earlier
    (λ now of. c.in_ok-first-in-Sends.ensures.tells now of ∙ first_same _ _ _ _ (ap (told now) begins) (ap (told now) earlier))
    c.in_ok-last-in-Sends.ensures.bit
    (λ now of. c.in_ok-last-in-Sends.ensures.tells now of ∙ choice_same_told _ _ _ _ _ (ap (told now) any) (ap (told now) kept))

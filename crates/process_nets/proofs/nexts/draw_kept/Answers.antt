use Rattle.std.proofs.Common.{◌≡◌, Some, refl, sym, ◌∙◌, subst, ap, rules}
use Rattle.std.specs.Prelude.{slice_get, ◌==◌}
use Rattle.std.proofs.lemmas.Option.{slice_get_read, slice_get_within}
use Rattle.anvil_bits.specs.Number.{Number}
use Rattle.machine_parts.specs.Parts.{bit_at}
use Rattle.machine_parts.specs.Nodes.{AreBits}
use Rattle.process_nets.specs.Kept.{KeepStands, KeptDrawn}
use Rattle.process_nets.proofs.Kept.{node_kept, side_kept, newest_kept, same_draft}
use Rattle.process_nets.proofs.nexts.draw_kept.Goals as goal

pub returns-in-Started-clause-drawn : goal.returns-in-Started-clause-drawn
returns-in-Started-clause-drawn c =
    subst (λ kept. KeptDrawn c.args.netlist.now c.args.registers.now c.args.wires.now c.args.drafts.now kept c.literal.result) (sym c.in-Started.is)
    record {
      stands = c.literal.ensures.stands c.args.netlist.now;
      width = c.literal.ensures.width ∙ ap (λ (n : Number). n.width) c.new.ensures;
      drawn = λ now of. ap (λ v. v == 1) (c.literal.ensures.shows now ∙ ap (λ (n : Number). n.value) c.new.ensures);
    }

pub returns-in_ok-next-in-Node-clause-drawn : goal.returns-in_ok-next-in-Node-clause-drawn
returns-in_ok-next-in-Node-clause-drawn c =
    let drafts = c.args.drafts.now in
    let thread = c.in-Node.thread in
    let stand = subst (KeepStands c.args.netlist.now c.args.registers.now drafts) c.in-Node.is c.requires.keep in
    let draft = c.index-drafts-thread.result in
    let read : slice_get drafts thread ≡ Some draft = slice_get_read drafts _ thread draft refl (slice_get_within drafts thread stand.0 stand.1) c.index-drafts-thread.is in
    let drawn = c.in_ok-next-in-Node.ensures in
    subst (λ kept. KeptDrawn c.draw_state.new.netlist c.args.registers.now c.args.wires.now drafts kept c.in_ok-next-in-Node.next) (sym c.in-Node.is)
    (node_kept c.draw_state.new.netlist c.args.registers.now c.args.wires.now drafts thread c.in-Node.node draft c.in_ok-next-in-Node.next read drawn.stands drawn.width drawn.next)

pub returns-in-Side-clause-drawn : goal.returns-in-Side-clause-drawn
returns-in-Side-clause-drawn c =
    let drafts = c.args.drafts.now in
    let thread = c.in-Side.thread in
    let stand = subst (KeepStands c.args.netlist.now c.args.registers.now drafts) c.in-Side.is c.requires.keep in
    let draft = c.index-drafts-thread-in-Side.result in
    let read : slice_get drafts thread ≡ Some draft = slice_get_read drafts _ thread draft refl (slice_get_within drafts thread stand.0 stand.1) c.index-drafts-thread-in-Side.is in
    let bit : c.bit_of.result ≡ bit_at draft.nets.sides.items c.in-Side.site = search rules in
    subst (λ kept. KeptDrawn c.args.netlist.now c.args.registers.now c.args.wires.now drafts kept c.bit_of.result) (sym c.in-Side.is)
    (side_kept c.args.netlist.now c.args.registers.now c.args.wires.now drafts thread c.in-Side.site draft c.bit_of.result read
    (subst (λ d. AreBits c.args.netlist.now d.nets.sides.items) (same_draft drafts thread stand.0 draft stand.1 read) stand.2) bit)

pub returns-in-Newest-clause-drawn : goal.returns-in-Newest-clause-drawn
returns-in-Newest-clause-drawn c =
    let drafts = c.args.drafts.now in
    let thread = c.in-Newest.thread in
    let stand = subst (KeepStands c.args.netlist.now c.args.registers.now drafts) c.in-Newest.is c.requires.keep in
    let draft = c.index-drafts-thread-in-Newest.result in
    let read : slice_get drafts thread ≡ Some draft = slice_get_read drafts _ thread draft refl (slice_get_within drafts thread stand.0 stand.1) c.index-drafts-thread-in-Newest.is in
    let bit : c.bit_of-in-Newest.result ≡ bit_at draft.newest.items c.in-Newest.site = search rules in
    subst (λ kept. KeptDrawn c.args.netlist.now c.args.registers.now c.args.wires.now drafts kept c.bit_of-in-Newest.result) (sym c.in-Newest.is)
    (newest_kept c.args.netlist.now c.args.registers.now c.args.wires.now drafts thread c.in-Newest.site draft c.bit_of-in-Newest.result read
    (subst (λ d. AreBits c.args.netlist.now d.newest.items) (same_draft drafts thread stand.0 draft stand.1 read) stand.2) bit)

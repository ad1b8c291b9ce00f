use Rattle.std.proofs.Common.{rules, ◌≡◌, length, ◌+◌, ◌<◌, ◌^◌, arith, sym, subst}
use Rattle.module_nets.specs.Netlist.{netlist, IsNetlist}
use Rattle.module_nets.proofs.Growing.{added_is_netlist, added_shows}
use Rattle.module_nets.proofs.netlist.Netlist.add.Goals as goal

pub invariant_of-self-2 : goal.invariant_of-self-2
invariant_of-self-2 c =
    let ports = c.self.inside.ports.items in
    let regs = c.self.inside.regs.items in
    let nets = c.self.inside.nets.items in
    let room : length nets + 1 < 2 ^ 32 = omega (arith, c.len-place.ensures) in
    subst (λ now. IsNetlist (netlist ports regs now)) (sym c.in_ok-push.ensures.items)
    (added_is_netlist ports regs nets c.args.width c.args.op c.self.invariant (rw (← c.self.view_is) at c.requires.fits) c.requires.stays c.requires.some c.requires.few room)

pub returns-clause-shows : goal.returns-clause-shows
returns-clause-shows c =
    let place : c.len-place.result ≡ length c.self.inside.nets.items = search rules in
    rw (c.in_ok-push.ensures.items, place) (added_shows c.self.inside.ports.items c.self.inside.regs.items c.self.inside.nets.items c.args.width c.args.op)

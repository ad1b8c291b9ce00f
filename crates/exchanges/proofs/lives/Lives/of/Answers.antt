-- One life more is copied; ports are few, so a number of a port fits.
use Rattle.std.proofs.Common.{◌≡◌, ◌<◌, ◌∙◌, ap, sym, subst, Some, arith, rules, map, length}
use Rattle.std.specs.List.{slice_get}
use Rattle.core_term.specs.ProcessView.{port_of}
use Rattle.exchanges.specs.Lives.{life_kept, lives_of}
use Rattle.exchanges.proofs.LivesKept.{copies_more, life_at, lives_count, ports_few}
use Rattle.exchanges.proofs.lives.Lives.of.Goals as goal

pub overflow_cast-port : goal.overflow_cast-port
overflow_cast-port c =
    let few = ports_few c.args.proc.now.name c.args.proc.now.ports.items c.args.proc.now.regs.items c.args.proc.now.threads.items c.args.proc.now.sized in
    let less : c.loop-port.port < 4294967296 = omega (arith, few, c.loop-port-test.true) in
    search rules

pub loop-port-preserved : goal.loop-port-preserved
loop-port-preserved c =
    let ports = c.args.proc.now.ports.items in
    let here = life_at ports c.loop-port.port (omega (arith, c.loop-port-test.true)) in
    copies_more life_kept c.loop-port.ends.items _ c.in_ok-ends_of.field-0 (lives_of (map port_of ports)) c.loop-port.port _ (omega arith) c.loop-port.invariant (here ∙ ap Some (sym c.in_ok-ends_of.ensures)) c.in_ok-push.ensures.items

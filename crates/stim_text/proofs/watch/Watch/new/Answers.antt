-- A place for each port, of which there are few.
use Rattle.std.proofs.Common.{◌≡◌, ◌∙◌, ap, sym, arith, length, map}
use Rattle.core_term.specs.ProcessView.{port_of}
use Rattle.exchanges.proofs.LivesKept.{lives_count, ports_few}
use Rattle.stim_text.proofs.watch.Watch.new.Goals as goal

pub invariant_of-result : goal.invariant_of-result
invariant_of-result c =
    let few = ports_few c.args.proc.now.name c.args.proc.now.ports.items c.args.proc.now.regs.items c.args.proc.now.threads.items c.args.proc.now.sized in
    let lives = ap (λ l. length l) c.in_ok-lives.ensures ∙ lives_count c.args.proc.now.ports.items in
    let count = c.len-count.ensures in
    record {
      few = omega (arith, few, lives);
      latests = omega (arith, lives, count, c.in_ok-latests.ensures.count);
      shown = omega (arith, lives, count, c.in_ok-shown.ensures);
      exchanged = omega (arith, lives, count, c.in_ok-exchanged.ensures);
    }

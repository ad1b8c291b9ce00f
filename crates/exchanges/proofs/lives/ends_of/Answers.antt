-- One end more is copied.
use Rattle.std.proofs.Common.{map, arith}
use Rattle.core_term.specs.Process.{nth_port}
use Rattle.core_term.specs.ProcessView.{port_of, end_of_life}
use Rattle.exchanges.proofs.LivesKept.{copies_more}
use Rattle.exchanges.proofs.lives.ends_of.Goals as goal

pub loop-index-preserved : goal.loop-index-preserved
loop-index-preserved c =
    copies_more end_of_life c.loop-index.ends.items _ c.end.result (nth_port (map port_of c.args.proc.now.ports.items) c.args.port).life c.loop-index.index _ (omega arith) c.loop-index.invariant c.end.ensures c.in_ok-push.ensures.items

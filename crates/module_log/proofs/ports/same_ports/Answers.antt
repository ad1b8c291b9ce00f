-- Two lengths are two lists.
use Rattle.std.proofs.Common.{arith}
use Rattle.module_log.proofs.Compared.{lengths_differ}
use Rattle.module_log.proofs.ports.same_ports.Goals as goal

pub returns-then-ports-others : goal.returns-then-ports-others
returns-then-ports-others c = lengths_differ c.args.ports.now c.args.others.now (λ same. omega (arith, same))

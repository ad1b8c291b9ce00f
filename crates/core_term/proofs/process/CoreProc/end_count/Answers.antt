use Rattle.core_term.proofs.code_tables.Ports.{one_end}
use Rattle.core_term.proofs.process.CoreProc.end_count.Goals as goal

pub returns : goal.returns
returns c = one_end c.args.self.now.ports.items c.args.port c.requires

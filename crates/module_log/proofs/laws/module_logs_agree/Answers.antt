use Rattle.module_log.proofs.LogsAgree.{one_log}
use Rattle.module_log.proofs.laws.module_logs_agree.Goals as goal

pub returns : goal.returns
returns c = one_log

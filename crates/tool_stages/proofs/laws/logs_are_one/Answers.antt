-- The law is the lemma of the one log.
use Rattle.tool_stages.proofs.SameLog.{logs_are_one}
use Rattle.tool_stages.proofs.laws.logs_are_one.Goals as goal

pub returns : goal.returns
returns c = logs_are_one

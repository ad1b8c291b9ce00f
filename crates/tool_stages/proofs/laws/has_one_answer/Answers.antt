-- The law is the lemma of the one answer.
use Rattle.tool_stages.proofs.Exact.{has_one}
use Rattle.tool_stages.proofs.laws.has_one_answer.Goals as goal

pub returns : goal.returns
returns c = has_one

use Rattle.first_check.proofs.Fails.{fails_first, first_fails}
use Rattle.first_check.proofs.laws.first_refusal_fails_first.Goals as goal

pub returns : goal.returns
returns g c = λ checks refusal. (fails_first checks refusal, first_fails checks refusal)

use Rattle.first_check.proofs.Fails.{all_hold, none_refused}
use Rattle.first_check.proofs.laws.no_refusal_is_all_hold.Goals as goal

pub returns : goal.returns
returns g c = λ checks. (all_hold checks, none_refused checks)

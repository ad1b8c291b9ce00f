-- The law, found by computing.
use Rattle.reread_cases.proofs.Answered.{met}
use Rattle.reread_cases.proofs.reading_again_is_met.Goals as goal

pub returns : goal.returns
returns c = met

-- The law is a lemma.
use Rattle.stim_text.proofs.OneStimulus.{stimuli_have_one_answer}
use Rattle.stim_text.proofs.laws.stimuli_have_one_answer.Goals as goal

pub returns : goal.returns
returns c = stimuli_have_one_answer

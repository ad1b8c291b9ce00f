-- The law is the lemma of the one list.
use Rattle.sv_lines.proofs.back.TextRead.{one_list}
use Rattle.sv_lines.proofs.laws.has_one_list.Goals as goal

pub returns : goal.returns
returns c = one_list

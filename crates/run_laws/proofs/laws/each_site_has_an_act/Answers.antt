-- The law of sites.
use Rattle.core_term.proofs.code_tables.Acting.{each_site}
use Rattle.run_laws.proofs.laws.each_site_has_an_act.Goals as goal

pub returns : goal.returns
returns c = each_site

-- The sends so far have their tables.
use Rattle.life_tables.specs.Lives.{AreLastsTo}
use Rattle.life_tables.proofs.lasts.lasts_of.Given as goal

abbrev pub invariant-loop-site : goal.invariant-loop-site
invariant-loop-site l = AreLastsTo l.setting l.deeds.items l.site l.lasts

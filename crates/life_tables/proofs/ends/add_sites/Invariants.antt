-- The ends of the acts so far are added.
use Rattle.std.proofs.Common.{take}
use Rattle.core_term.specs.Widths.{Widths}
use Rattle.core_term.specs.View.{term_of}
use Rattle.life_tables.specs.Ends.{AddsActs}
use Rattle.life_tables.proofs.ends.add_sites.Given as goal

abbrev pub invariant-loop-site : goal.invariant-loop-site
invariant-loop-site l = (widths : Widths) → AddsActs (term_of widths l.thread) (take l.site-index l.sites) l.fn.ends.items l.ends.items

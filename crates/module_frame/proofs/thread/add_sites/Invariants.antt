use Rattle.std.proofs.Common.{◌≡◌, ℕ, ◌<◌, length, take}
use Rattle.act_deeds.specs.Deeds.{deed_at}
use Rattle.module_frame.specs.Slots.{site_slots}
use Rattle.module_frame.specs.Drafts.{Grown, SiteHeld, site_at}
use Rattle.module_frame.proofs.thread.add_sites.Given as goal

abbrev pub invariant-loop-deed : goal.invariant-loop-deed
invariant-loop-deed l = record {
  grown : Grown l.fn.draft l.draft (site_slots l.thread 0 (take l.deed-index l.deeds));
  side_count : length l.sides.items ≡ l.deed-index;
  newest_count : length l.newests.items ≡ l.deed-index;
  held : (site : ℕ) → site < l.deed-index → SiteHeld l.draft.frame l.thread site (deed_at l.deeds site) (site_at l.sides.items l.newests.items site);
}

-- Sorted and without repeats.
use Rattle.std.proofs.lemmas.List.Filters.{dedup_is}
use Rattle.std.proofs.lemmas.List.Kept.{IsStrictlySortedBy-dedup, Any-dedup, Contains-from_dedup}
use Rattle.std.proofs.lemmas.List.Sorted.{Contains-permutation, IsPermutation-sym}
use Rattle.demand_checks.proofs.listing.sort_once.Goals as goal

pub returns-clause-sorted : goal.returns-clause-sorted
returns-clause-sorted g c = rw (dedup_is _ _ _ c.dedup.ensures.filtered) (IsStrictlySortedBy-dedup g.met.T.Ord.total g.met.T.Ord.matches_eq _ c.sort_unstable.ensures.sorted)

pub returns-clause-sound : goal.returns-clause-sound
returns-clause-sound g c =
    let is = dedup_is _ _ _ c.dedup.ensures.filtered in
    let moved = c.sort_unstable.ensures.permutation in
    λ item has. Contains-permutation _ _ item (IsPermutation-sym _ _ moved) (Contains-from_dedup _ _ item (rw is at has))

pub returns-clause-whole : goal.returns-clause-whole
returns-clause-whole g c =
    let is = dedup_is _ _ _ c.dedup.ensures.filtered in
    let moved = c.sort_unstable.ensures.permutation in
    λ item has. rw is (Any-dedup g.met.T.Eq.laws _ item (Contains-permutation _ _ item moved has))

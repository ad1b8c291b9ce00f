-- Two points of a body exclude each other exactly where their arms oppose each other; points of different turns never do.
--
-- The arms of a point are its way, and ways are compared in `Sides`. An arm names its turn, so those of different turns do not oppose.
use Rattle.std.proofs.Common.{◌≡◌, ℕ, sym, ◌∙◌, true, List, []}
use Rattle.core_term.specs.Term.{Term}
use Rattle.core_term.specs.Points.{Spot}
use Rattle.core_term.specs.Numbering.{Numbered}
use Rattle.core_term.specs.Order.{Apart}
use Rattle.event_graph.specs.declared.node.Arm.{Arm}
use Rattle.event_graph.specs.Forms.{some_oppose}
use Rattle.event_points.specs.Placed.{Lies}
use Rattle.event_points.proofs.Way.{PointOf, way, lies}
use Rattle.event_points.proofs.Sides.{way_names, apart, opposed}
use Rattle.event_points.proofs.Oppose.{to_opposed, of_opposed}

pub excluded : (turn : ℕ) (arms : Spot → List Arm) (body : Term) → Numbered [] 0 body → Lies turn arms [] body → (b c : Spot) → PointOf body b → PointOf body c → Apart body b c → some_oppose (arms b) (arms c) ≡ true
excluded turn arms body n l b c k j a = rw (lies turn b arms [] body l k, lies turn c arms [] body l j) (of_opposed _ _ (opposed turn b c [] 0 body n k j a))

pub excluded_back : (turn : ℕ) (arms : Spot → List Arm) (body : Term) → Numbered [] 0 body → Lies turn arms [] body → (b c : Spot) → PointOf body b → PointOf body c → some_oppose (arms b) (arms c) ≡ true → Apart body b c
excluded_back turn arms body n l b c k j e =
    let f : some_oppose (way turn b body k) (way turn c body j) ≡ true = rw (lies turn b arms [] body l k, lies turn c arms [] body l j) at e in
    apart turn b c [] 0 body n k j (to_opposed _ _ f)

pub other_turn : (turn late : ℕ) (arms others : Spot → List Arm) (body : Term) → (turn ≡ late → ⊥) → Numbered [] 0 body → Lies turn arms [] body → Lies late others [] body → (b c : Spot) → PointOf body b → PointOf body c → some_oppose (arms b) (others c) ≡ true → ⊥
other_turn turn late arms others body d n l m b c k j e =
    let f : some_oppose (way turn b body k) (way late c body j) ≡ true = rw (lies turn b arms [] body l k, lies late c others [] body m j) at e in
    let o = to_opposed _ _ f in
    let x = way_names turn b [] 0 body n k o.one o.has_one in
    let y = way_names late c [] 0 body n j o.other o.has_other in
    d (sym x.turn_is ∙ (o.turn_is ∙ y.turn_is))

-- The node of each point is one of the graph.
--
-- A point that has a node of its own has one of the turn's numbers; every other shares a node, down to the first point of the turn.
use Rattle.std.proofs.Common.{◌≡◌, ℕ, suc, ◌+◌, ◌<◌, ◌≤◌, inl, inr, arith, sym, ◌∙◌, ap, List, [], ◌∷◌, length}
use Rattle.order_rules.specs.Form.{Form, Start, Same, After, Sync, Join, Side, Merge}
use Rattle.core_term.specs.Term.{Term}
use Rattle.core_term.specs.Points.{Spot, Formed, ◌is◌, forms}
use Rattle.event_points.specs.Owned.{begin_of, owned, count}
use Rattle.event_points.specs.Placed.{Placed}
use Rattle.event_points.proofs.Steps.{Owns, Step, Steps, steps, length_owned}
use Rattle.event_points.proofs.Along.{Goes, AllGo, All, all}

module _ (node : Spot → ℕ) (bound : ℕ) where
  abbrev pub Within : Spot → Type 0
  Within b = node b < bound

  abbrev Below : ℕ → Formed → Type 0
  Below n g = n < bound

  owns : (n : ℕ) (gs : List Formed) → n + length gs ≤ bound → Owns node Below n gs
  owns n [] l = tt
  owns n (g ∷ gs) l = (omega arith, owns (suc n) gs (omega arith))

  goes : (b : Spot) (f : Form Spot) → Step node Below (b is f) → Goes Within b f
  goes b (Same c) (inr o) = λ s. o
  goes b (Same c) (inl k) = λ s. let e : c ≡ k.0 = let z : Same c ≡ Same k.0 = k.1 in cc in let q : node b ≡ node c = k.2 ∙ ap node (sym e) in omega arith
  goes b Start (inr o) = o
  goes b (After n c) (inr o) = o
  goes b (Sync c) (inr o) = o
  goes b (Join c e) (inr o) = o
  goes b (Side c) (inr o) = o
  goes b (Merge c e) (inr o) = o
  goes b Start (inl k) = let z : Start ≡ Same k.0 = k.1 in absurd cc
  goes b (After n c) (inl k) = let z : After n c ≡ Same k.0 = k.1 in absurd cc
  goes b (Sync c) (inl k) = let z : Sync c ≡ Same k.0 = k.1 in absurd cc
  goes b (Join c e) (inl k) = let z : Join c e ≡ Same k.0 = k.1 in absurd cc
  goes b (Side c) (inl k) = let z : Side c ≡ Same k.0 = k.1 in absurd cc
  goes b (Merge c e) (inl k) = let z : Merge c e ≡ Same k.0 = k.1 in absurd cc

  all_go : (gs : List Formed) → Steps node Below gs → AllGo Within gs
  all_go [] s = tt
  all_go (g ∷ gs) s = (goes g.spot g.form s.0, all_go gs s.1)

  pub within : (from : ℕ) (body : Term) → Placed node from body → from + count body ≤ bound → node (begin_of body) < bound → All Within (forms body)
  within from body p l b = let k = length_owned body in all Within body (all_go (forms body) (steps node Below from body p (owns from (owned body) (omega arith)))) b

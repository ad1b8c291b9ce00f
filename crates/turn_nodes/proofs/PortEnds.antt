-- The ends of acts on ports have nodes of their own, so different ones have different nodes.
use Rattle.std.proofs.Common.{◌≡◌, ℕ, suc, ◌+◌, ◌<◌, inl, inr, arith, refl, sym, ◌∙◌, ap, subst, List, [], ◌∷◌, length, slice_get, Some}
use Rattle.order_rules.specs.Form.{Sync}
use Rattle.core_term.specs.Term.{Term}
use Rattle.core_term.specs.Numbering.{Numbered}
use Rattle.core_term.specs.Acts.{ActOn}
use Rattle.core_term.specs.Points.{Spot, Begin, End, Formed, ◌is◌, forms}
use Rattle.core_term.specs.Order.{IsFormed}
use Rattle.event_points.specs.Owned.{owned}
use Rattle.event_points.specs.Table.{node_in}
use Rattle.event_graph.specs.Forms.{form_at, apart_at}
use Rattle.event_points.specs.Nodes.{once, first_table}
use Rattle.event_points.proofs.Once.{stand, formed_inside}
use Rattle.event_points.proofs.Steps.{Owns, Step, steps}
use Rattle.event_points.proofs.Proper.{steps_at}
use Rattle.event_points.proofs.InTable.{body_told}
use Rattle.turn_machine.proofs.Formed.{port_formed, own_sync}

module _ (body : Term) (numbered : Numbered [] 0 body) where
  abbrev node : Spot → ℕ
  node = node_in (first_table body)

  -- the node is that of this one of the points that have nodes of their own
  pub record IsEntry (n : ℕ) (g : Formed) : Type 0 where
    pub place : ℕ
    pub at : n ≡ suc place
    pub read : slice_get (owned body) place ≡ Some g

  entries_from : (n k : ℕ) (gs : List Formed) → n ≡ suc k → ((j : ℕ) → slice_get (owned body) (k + j) ≡ slice_get gs j) → Owns node IsEntry n gs
  entries_from n k [] count reads = tt
  entries_from n k (g ∷ gs) count reads =
      let P : ℕ → Type 0 = λ z. slice_get (owned body) z ≡ Some g in
      let here : k + 0 ≡ k = omega arith in (
        record { place = k; at = count; read = subst P here (reads 0) },
        entries_from (suc n) (suc k) gs (ap (λ (z : ℕ). suc z) count)
            (λ j. let Q : ℕ → Type 0 = λ z. slice_get (owned body) z ≡ slice_get gs j in let next : k + suc j ≡ suc k + j = omega arith in subst Q next (reads (suc j))),
      )

  entries : Owns node IsEntry 1 (owned body)
  entries = entries_from 1 0 (owned body) refl (λ j. let same : 0 + j ≡ j = omega arith in ap (slice_get (owned body)) same)

  own_entry : (b c : Spot) → IsFormed (forms body) b (Sync c) → IsEntry (node b) (b is Sync c)
  own_entry b c formed = by_step (steps_at node IsEntry (forms body) (steps node IsEntry 1 body (body_told 1 1 0 body numbered).0 entries) b (Sync c) formed)
    where
      by_step : Step node IsEntry (b is Sync c) → IsEntry (node b) (b is Sync c)
      by_step (inl shares) = absurd (let impossible = shares.1 in cc)
      by_step (inr own) = own

  -- different ends have different nodes
  pub ends_apart : (p q : ℕ) → IsFormed (forms body) (End p) (Sync (Begin p)) → IsFormed (forms body) (End q) (Sync (Begin q)) → node (End p) ≡ node (End q) → p ≡ q
  ends_apart p q one other same =
      let here = own_entry (End p) (Begin p) one in
      let there = own_entry (End q) (Begin q) other in
      let successors : suc here.place ≡ suc there.place = sym here.at ∙ (same ∙ there.at) in
      let places : here.place ≡ there.place = omega arith in
      let points : Some (End p is Sync (Begin p)) ≡ Some (End q is Sync (Begin q)) = sym here.read ∙ (ap (slice_get (owned body)) places ∙ there.read) in
      let point : (End p is Sync (Begin p)) ≡ (End q is Sync (Begin q)) = cc in
      let spots : End p ≡ End q = ap (λ (g : Formed). g.spot) point in
      cc

  -- an act on a port ends at a point of the form Sync
  pub port_end : (place port : ℕ) → ActOn body place port → IsFormed (forms body) (End place) (Sync (Begin place))
  port_end place port act = let P : ℕ → Type 0 = λ s. IsFormed (forms body) (End s) (Sync (Begin s)) in subst P act.3 (port_formed port act.2 act.4)

  pub port_waits : (place port : ℕ) → ActOn body place port → (node (End place) < length (once body)) × (form_at (once body) (node (End place)) ≡ Sync (node (Begin place)))
  port_waits place port act =
      let formed = port_end place port act in
      (formed_inside body numbered (End place) (Sync (Begin place)) formed, own_sync body (form_at (once body)) (apart_at (once body)) node (stand body numbered).stands (End place) (Begin place) formed)

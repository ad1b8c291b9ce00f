-- A claim over points of the text holds exactly where the tables of a graph of the body show it; so it holds or does not.
--
-- The judgements on the nodes are those on the points, since nodes stand for points, and closed tables tell the judgements on
-- nodes.
use Rattle.std.proofs.Common.{ℕ, ◌⊎◌, inl, inr, refl}
use Rattle.order_rules.proofs.Exact.{complete, sound}
use Rattle.order_rules.proofs.LastExact.{complete_last, sound_last}
use Rattle.order_rules.specs.Lag.{Lag, Tells}
use Rattle.order_rules.specs.Entry.{IsEarlier}
use Rattle.order_rules.specs.LastEntry.{IsListed}
use Rattle.order_rules.specs.Standing.{IsPoint}
use Rattle.core_term.specs.Term.{Term}
use Rattle.core_term.specs.Order.{Point, HasForm, Exclusive, Precedes}
use Rattle.core_term.specs.Process.{Process, life_of}
use Rattle.core_term.specs.Lives.{HasEnding, LastPrecedes}
use Rattle.core_term.specs.Rules.{Claim, Order, Last, Either, Both, Holds, end_of}
use Rattle.core_term.specs.Graph.{Graph, IsGraphOf, NodesOrder, NodesLast, IsOfText, Tables, Shows}
use Rattle.order_rules.proofs.Table.{lag, closed, decide}
use Rattle.order_rules.proofs.LastTable.{last_lag, last_closed}
use Rattle.order_rules.proofs.Transfer.{to_nodes, from_nodes}
use Rattle.order_rules.proofs.LastTransfer.{last_to_nodes, last_from_nodes}

module _ (p : Process) (body : Term) (g : Graph) (graph : IsGraphOf p body g) where
  -- what tells a judgement of the nodes of two points tells that of the points
  pub order_told : (a b : Point) → IsPoint Point (HasForm body) a → IsPoint Point (HasForm body) b
      → (entry : Lag) → Tells entry (NodesOrder g (g.node a) (g.node b)) → Tells entry (λ d. Precedes body a d b)
  order_told a b of_a of_b entry tells d = (
    (λ k. (tells d).0 (to_nodes Point ℕ (HasForm body) _ (Exclusive body) _ g.node graph.stands of_a of_b k)),
    λ k. from_nodes Point ℕ (HasForm body) _ (Exclusive body) _ g.node graph.stands ((tells d).1 k) a b of_a of_b refl refl,
  )

  pub last_told : (send m : ℕ) (b : Point) → IsPoint Point (HasForm body) (end_of send) → IsPoint Point (HasForm body) b
      → (entry : Lag) → Tells entry (NodesLast g send m (g.node b)) → Tells entry (λ d. LastPrecedes body (life_of p m) send d b)
  last_told send m b of_send of_b entry tells d = (
    (λ k.
        (tells d).0
        (last_to_nodes Point ℕ (HasForm body) _ (Exclusive body) _ g.node graph.stands (HasEnding body (life_of p m))
        (IsListed (g.ends m)) (graph.ends_stand m) (end_of send) of_send of_b k)),
    λ k.
        last_from_nodes Point ℕ (HasForm body) _ (Exclusive body) _ g.node graph.stands (HasEnding body (life_of p m))
        (IsListed (g.ends m)) (graph.ends_stand m) (end_of send) of_send ((tells d).1 k) b of_b refl,
  )

module _ (p : Process) (body : Term) (g : Graph) (graph : IsGraphOf p body g) (t : Tables g) where
  pub shown : (c : Claim) → IsOfText body c → Holds p body c → Shows g t c
  shown (Order a d b) o k = (order_told p body g graph a b o.0 o.1 (t.lag (g.node a) (g.node b)) (t.lag_is (g.node a) (g.node b)) d).0 k
  shown (Last s m d b) o k =
      (last_told p body g graph s m b o.0 o.1 (t.end_lag s m (g.node b)) (t.end_lag_is s m (g.node b)) d).0 k
  shown (Either a b) o (inl k) = inl (shown a o.0 k)
  shown (Either a b) o (inr k) = inr (shown b o.1 k)
  shown (Both a b) o k = (shown a o.0 k.0, shown b o.1 k.1)

  pub told : (c : Claim) → IsOfText body c → Shows g t c → Holds p body c
  told (Order a d b) o k = (order_told p body g graph a b o.0 o.1 (t.lag (g.node a) (g.node b)) (t.lag_is (g.node a) (g.node b)) d).1 k
  told (Last s m d b) o k =
      (last_told p body g graph s m b o.0 o.1 (t.end_lag s m (g.node b)) (t.end_lag_is s m (g.node b)) d).1 k
  told (Either a b) o (inl k) = inl (told a o.0 k)
  told (Either a b) o (inr k) = inr (told b o.1 k)
  told (Both a b) o k = (told a o.0 k.0, told b o.1 k.1)

-- each graph has its tables
pub tables : (p : Process) (body : Term) (g : Graph) → IsGraphOf p body g → Tables g
tables p body g graph =
    let order = lag g.form g.apart graph.earlier in
    let is_closed = closed g.form g.apart graph.earlier in
    record {
      lag = order;
      lag_is = λ a b d. ((λ r. complete g.form g.apart order is_closed graph.earlier r), λ k. sound g.form g.apart order is_closed graph.earlier a b d k);
      end_lag = λ send port. last_lag g.form g.apart graph.earlier order (g.ends port) (g.node (end_of send));
      end_lag_is = λ send port b d.
          let from = g.node (end_of send) in
          let last_is_closed = last_closed g.form g.apart graph.earlier order (g.ends port) from in
          let last = last_lag g.form g.apart graph.earlier order (g.ends port) from in
          ((λ r. complete_last g.form g.apart order is_closed graph.earlier (g.ends port) from last last_is_closed r), λ k. sound_last g.form g.apart order is_closed graph.earlier (g.ends port) from last last_is_closed b d k);
    }

shown_or_not : (g : Graph) (t : Tables g) (earlier : (b : ℕ) → IsEarlier b (g.form b)) (c : Claim) → Shows g t c ⊎ (Shows g t c → ⊥)
shown_or_not g t earlier (Order a d b) = decide g.form g.apart earlier (t.lag (g.node a) (g.node b)) d
shown_or_not g t earlier (Last s m d b) = decide g.form g.apart earlier (t.end_lag s m (g.node b)) d
shown_or_not g t earlier (Either a b) =
    elim (shown_or_not g t earlier a) [
      | inl k ↦ inl (inl k)
      | inr k ↦ elim (shown_or_not g t earlier b) [ inl l ↦ inl (inr l) | inr l ↦ inr (λ z. elim z [ inl y ↦ k y | inr y ↦ l y ]) ]
    ]
shown_or_not g t earlier (Both a b) =
    elim (shown_or_not g t earlier a) [
      | inr k ↦ inr (λ z. k z.0)
      | inl k ↦ elim (shown_or_not g t earlier b) [ inl l ↦ inl (k, l) | inr l ↦ inr (λ z. l z.1) ]
    ]

pub decided : (p : Process) (body : Term) (g : Graph) → IsGraphOf p body g → (t : Tables g) (c : Claim) → IsOfText body c → (Holds p body c × Shows g t c) ⊎ ((Holds p body c → ⊥) × (Shows g t c → ⊥))
decided p body g graph t c o = elim (shown_or_not g t graph.earlier c) [ inl k ↦ inl (told p body g graph t c o k, k) | inr k ↦ inr ((λ h. k (shown p body g graph t c o h)), k) ]

-- Points that every body has: the begin of each act, the end of each act on a port, and its own end.
--
-- A term stands at each site, and its forms are among those of the body.
use Rattle.std.proofs.Common.{◌≡◌, ℕ, ◌<◌, ◌⊎◌, inl, inr, refl, subst, Bool, List, []}
use Rattle.order_rules.specs.Form.{Form, Same, Sync, Join}
use Rattle.order_rules.specs.Standing.{IsPoint}
use Rattle.core_term.specs.Term.{Term, One, Then, Both, Act, Cycle, Set, Send, Recv, If, When, Block, Wait, Pure, Nothing, site, head}
use Rattle.core_term.specs.Numbering.{size, Numbered}
use Rattle.core_term.specs.Stands.{Stands}
use Rattle.core_term.specs.Acts.{OnPort}
use Rattle.core_term.specs.Points.{Spot, TermBegin, TermEnd, Begin, End, forms, act_forms}
use Rattle.core_term.specs.Order.{IsFormed}
use Rattle.core_term.specs.Graph.{HasFormOnce, StandsOnce}
use Rattle.core_term.proofs.code_tables.Acting.{each_site}
use Rattle.run_laws.proofs.graph_tables.OfText.{in_left, part}

begin_here : (term : Term) → IsFormed (forms term) (Begin (site (head term))) (Same (TermBegin (site (head term))))
begin_here (One act) = inl refl
begin_here (Then act rest) = inl refl
begin_here (Both act rest) = inl refl

pub begin_formed : (body : Term) → Numbered [] 0 body → (place : ℕ) → place < size body → IsFormed (forms body) (Begin place) (Same (TermBegin place))
begin_formed body numbered place within =
    let there = each_site body numbered place within in
    let AtPlace : ℕ → Type 0 = λ n. IsFormed (forms body) (Begin n) (Same (TermBegin n)) in
    subst AtPlace there.is_site (part there.stands _ _ (begin_here there.term))

port_act : (act : Act) (port : ℕ) → OnPort act port → IsFormed (act_forms act) (End (site act)) (Sync (Begin (site act)))
port_act (Send p number value) port on = inl refl
port_act (Recv p number) port on = inl refl
port_act (Cycle p count) port on = elim on [ ]
port_act (Set p register value) port on = elim on [ ]
port_act (If p condition first second valued) port on = elim on [ ]
port_act (When p condition first) port on = elim on [ ]
port_act (Block p inner) port on = elim on [ ]
port_act (Wait p variable) port on = elim on [ ]
port_act (Pure p value) port on = elim on [ ]
port_act (Nothing p) port on = elim on [ ]

port_here : (term : Term) (port : ℕ) → OnPort (head term) port → IsFormed (forms term) (End (site (head term))) (Sync (Begin (site (head term))))
port_here (One act) port on = inr (inr (port_act act port on))
port_here (Then act rest) port on = inr (inr (inr (in_left (act_forms act) (forms rest) _ _ (port_act act port on))))
port_here (Both act rest) port on = inr (inr (inr (in_left (act_forms act) (forms rest) _ _ (port_act act port on))))

pub port_formed : {acts inner_acts : List Act} {whole term : Term} (port : ℕ) → Stands acts whole inner_acts term → OnPort (head term) port → IsFormed (forms whole) (End (site (head term))) (Sync (Begin (site (head term))))
port_formed {term = term} port stands on = part stands _ _ (port_here term port on)

-- the end of a term
end_formed : (term : Term) → ((from : Spot) × IsFormed (forms term) (TermEnd (site (head term))) (Same from)) ⊎ ((first second : Spot) × IsFormed (forms term) (TermEnd (site (head term))) (Join first second))
end_formed (One act) = inl (End (site act), inr (inl refl))
end_formed (Then act rest) = inl (TermEnd (site (head rest)), inr (inr (inl refl)))
end_formed (Both act rest) = inr (End (site act), TermEnd (site (head rest)), inr (inr (inl refl)))

pub last_is_point : (body : Term) → IsPoint Spot (HasFormOnce body) (TermEnd (site (head body)))
last_is_point body = by_kind (end_formed body)
  where
    by_kind : ((from : Spot) × IsFormed (forms body) (TermEnd (site (head body))) (Same from)) ⊎ ((first second : Spot) × IsFormed (forms body) (TermEnd (site (head body))) (Join first second)) → IsPoint Spot (HasFormOnce body) (TermEnd (site (head body)))
    by_kind (inl is_same) = (Same is_same.0, is_same.1)
    by_kind (inr is_join) = (Join is_join.0 is_join.1, is_join.2)

-- a point of the form Sync has a node of its own
pub own_sync : (body : Term) (form : ℕ → Form ℕ) (apart : ℕ → ℕ → Bool) (node_of : Spot → ℕ) → StandsOnce body form apart node_of → (point from : Spot) → IsFormed (forms body) point (Sync from) → form (node_of point) ≡ Sync (node_of from)
own_sync body form apart node_of once point from formed = by_step (once.stands.step point (Sync from) formed)
  where
    by_step : ((other : Spot) × (Sync from ≡ Same other) × (node_of point ≡ node_of other)) ⊎ (form (node_of point) ≡ Sync (node_of from)) → form (node_of point) ≡ Sync (node_of from)
    by_step (inl shares) = absurd (let impossible = shares.1 in cc)
    by_step (inr is) = is

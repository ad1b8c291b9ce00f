-- The port of an act on one is told by its deed, and each deed on a port is that of such an act.
use Rattle.std.proofs.Common.{◌≡◌, ℕ, zero, suc, ◌<◌, arith, sym, ◌∙◌, ap, List, [], ◌∷◌, length, slice_get, Some}
use Rattle.core_term.specs.Term.{Term, Act, Cycle, Set, Send, Recv, If, When, Block, Wait, Pure, Nothing, site, head}
use Rattle.core_term.specs.Numbering.{Numbered}
use Rattle.core_term.specs.Acts.{OnPort, ActOn}
use Rattle.core_term.specs.Stands.{Stands}
use Rattle.core_term.proofs.code_tables.Acting.{each_site}
use Rattle.act_deeds.specs.declared.deed.Deed.{Deed}
use Rattle.act_deeds.specs.Deeds.{AreDeeds, deed_in, deed_or, deed_at}
use Rattle.turn_plans.specs.Wires.{IsOn, port_of}

get_inside : {X : Type 0} (items : List X) (k : ℕ) (x : X) → slice_get items k ≡ Some x → k < length items
get_inside [] k x at = absurd cc
get_inside (y ∷ items) zero x at = omega arith
get_inside (y ∷ items) (suc k) x at = let more = get_inside items k x at in omega arith

deed_port : (act : Act) (port : ℕ) → OnPort act port → port_of (deed_in act) ≡ Some port
deed_port (Send p m e) port on = ap Some on
deed_port (Recv p m) port on = ap Some on
deed_port (Cycle p c) port on = elim on [ ]
deed_port (Set p r e) port on = elim on [ ]
deed_port (If p e t u w) port on = elim on [ ]
deed_port (When p e t) port on = elim on [ ]
deed_port (Block p t) port on = elim on [ ]
deed_port (Wait p y) port on = elim on [ ]
deed_port (Pure p e) port on = elim on [ ]
deed_port (Nothing p) port on = elim on [ ]

port_deed : (act : Act) (port : ℕ) → port_of (deed_in act) ≡ Some port → OnPort act port
port_deed (Send p m e) port told = cc
port_deed (Recv p m) port told = cc
port_deed (Cycle p c) port told = absurd cc
port_deed (Set p r e) port told = absurd cc
port_deed (If p e t u w) port told = absurd cc
port_deed (When p e t) port told = absurd cc
port_deed (Block p t) port told = absurd cc
port_deed (Wait p y) port told = absurd cc
port_deed (Pure p e) port told = absurd cc
port_deed (Nothing p) port told = absurd cc

module _ (body : Term) (deeds : List Deed) (deeds_are : AreDeeds body deeds) where
  pub is_on : (scope : List Act) (term : Term) (port : ℕ) → Stands [] body scope term → OnPort (head term) port → IsOn deeds (site (head term)) port
  is_on scope term port stands on =
      let read = deeds_are.at scope term stands in
      record { inside = get_inside deeds (site (head term)) (deed_in (head term)) read; port_is = ap (λ d. port_of (deed_or d)) read ∙ deed_port (head term) port on }

  pub act_on : Numbered [] 0 body → (place port : ℕ) → IsOn deeds place port → ActOn body place port
  act_on numbered place port on =
      let there = each_site body numbered place (let inside = on.inside in let counted = deeds_are.count in omega arith) in
      let read : deed_at deeds (site (head there.term)) ≡ deed_in (head there.term) = ap deed_or (deeds_are.at there.scope there.term there.stands) in
      let told : port_of (deed_in (head there.term)) ≡ Some port = ap port_of (sym read) ∙ (ap (λ s. port_of (deed_at deeds s)) there.is_site ∙ on.port_is) in
      (there.scope, there.term, there.stands, there.is_site, port_deed (head there.term) port told)

-- The deed of a site tells the act that stands there, both ways.
use Rattle.std.proofs.Common.{◌≡◌, ℕ, inl, inr, arith, sym, ◌∙◌, ap, subst, List, []}
use Rattle.std.proofs.lemmas.Bool.{cases_lt}
use Rattle.std.proofs.lemmas.Option.{slice_get_past}
use Rattle.core_term.specs.Term.{Term, Act, Cycle, Set, Send, Recv, If, When, Block, Wait, Pure, Nothing, site, head}
use Rattle.core_term.specs.Numbering.{size, Numbered}
use Rattle.core_term.specs.Stands.{Stands}
use Rattle.core_term.specs.Acts.{HasAct, Receives, Sends, Sets, IsAt}
use Rattle.core_term.proofs.code_tables.Acting.{each_site}
use Rattle.act_deeds.specs.declared.deed.Deed.{Deed}
use Rattle.act_deeds.specs.declared.deed.Deed.TheVariants as deed
use Rattle.act_deeds.specs.Deeds.{AreDeeds, deed_in, deed_or, deed_at}

sends_deed : (a : Act) (m : ℕ) → Sends a m → deed_in a ≡ deed.Sends m
sends_deed (Send p n e) m k = ap deed.Sends k
sends_deed (Cycle p n) m k = elim k [ ]
sends_deed (Set p r e) m k = elim k [ ]
sends_deed (Recv p n) m k = elim k [ ]
sends_deed (If p e t u w) m k = elim k [ ]
sends_deed (When p e t) m k = elim k [ ]
sends_deed (Block p t) m k = elim k [ ]
sends_deed (Wait p y) m k = elim k [ ]
sends_deed (Pure p e) m k = elim k [ ]
sends_deed (Nothing p) m k = elim k [ ]

deed_sends : (a : Act) (m : ℕ) → deed_in a ≡ deed.Sends m → Sends a m
deed_sends (Send p n e) m k = cc
deed_sends (Cycle p n) m k = absurd cc
deed_sends (Set p r e) m k = absurd cc
deed_sends (Recv p n) m k = absurd cc
deed_sends (If p e t u w) m k = absurd cc
deed_sends (When p e t) m k = absurd cc
deed_sends (Block p t) m k = absurd cc
deed_sends (Wait p y) m k = absurd cc
deed_sends (Pure p e) m k = absurd cc
deed_sends (Nothing p) m k = absurd cc

receives_deed : (a : Act) (m : ℕ) → Receives a m → deed_in a ≡ deed.Receives m
receives_deed (Recv p n) m k = ap deed.Receives k
receives_deed (Cycle p n) m k = elim k [ ]
receives_deed (Set p r e) m k = elim k [ ]
receives_deed (Send p n e) m k = elim k [ ]
receives_deed (If p e t u w) m k = elim k [ ]
receives_deed (When p e t) m k = elim k [ ]
receives_deed (Block p t) m k = elim k [ ]
receives_deed (Wait p y) m k = elim k [ ]
receives_deed (Pure p e) m k = elim k [ ]
receives_deed (Nothing p) m k = elim k [ ]

deed_receives : (a : Act) (m : ℕ) → deed_in a ≡ deed.Receives m → Receives a m
deed_receives (Recv p n) m k = cc
deed_receives (Cycle p n) m k = absurd cc
deed_receives (Set p r e) m k = absurd cc
deed_receives (Send p n e) m k = absurd cc
deed_receives (If p e t u w) m k = absurd cc
deed_receives (When p e t) m k = absurd cc
deed_receives (Block p t) m k = absurd cc
deed_receives (Wait p y) m k = absurd cc
deed_receives (Pure p e) m k = absurd cc
deed_receives (Nothing p) m k = absurd cc

sets_deed : (a : Act) (r : ℕ) → Sets a r → deed_in a ≡ deed.Sets r
sets_deed (Set p q e) r k = ap deed.Sets k
sets_deed (Cycle p n) r k = elim k [ ]
sets_deed (Send p n e) r k = elim k [ ]
sets_deed (Recv p n) r k = elim k [ ]
sets_deed (If p e t u w) r k = elim k [ ]
sets_deed (When p e t) r k = elim k [ ]
sets_deed (Block p t) r k = elim k [ ]
sets_deed (Wait p y) r k = elim k [ ]
sets_deed (Pure p e) r k = elim k [ ]
sets_deed (Nothing p) r k = elim k [ ]

deed_sets : (a : Act) (r : ℕ) → deed_in a ≡ deed.Sets r → Sets a r
deed_sets (Set p q e) r k = cc
deed_sets (Cycle p n) r k = absurd cc
deed_sets (Send p n e) r k = absurd cc
deed_sets (Recv p n) r k = absurd cc
deed_sets (If p e t u w) r k = absurd cc
deed_sets (When p e t) r k = absurd cc
deed_sets (Block p t) r k = absurd cc
deed_sets (Wait p y) r k = absurd cc
deed_sets (Pure p e) r k = absurd cc
deed_sets (Nothing p) r k = absurd cc

module _ (body : Term) (deeds : List Deed) (are : AreDeeds body deeds) where
  pub deed_stands : (scope : List Act) (u : Term) → Stands [] body scope u → (w : ℕ) → site (head u) ≡ w → deed_at deeds w ≡ deed_in (head u)
  deed_stands scope u stands w is = subst (λ z. deed_at deeds z ≡ deed_in (head u)) is (ap deed_or (are.at scope u stands))

  at_deed : (Asked : Act → Type 0) (wanted : Deed) → ((a : Act) → Asked a → deed_in a ≡ wanted) → (w : ℕ) → HasAct body w Asked → deed_at deeds w ≡ wanted
  at_deed Asked wanted told w has = deed_stands has.0 has.1 has.2 w has.3 ∙ told (head has.1) has.4

  -- a deed is that of an act
  pub stands_at : Numbered [] 0 body → (w : ℕ) → (deed_at deeds w ≡ deed.Other → ⊥) → IsAt body w
  stands_at numbered w told = elim (cases_lt w (size body)) [
    | inl k ↦ each_site body numbered w k
    | inr k ↦ absurd (told (ap deed_or (slice_get_past deeds w (let known = are.count in omega (arith, known, k)))))
  ]

  act_at : Numbered [] 0 body → (Asked : Act → Type 0) (wanted : Deed) → ((a : Act) → deed_in a ≡ wanted → Asked a) → (wanted ≡ deed.Other → ⊥)
      → (w : ℕ) → deed_at deeds w ≡ wanted → HasAct body w Asked
  act_at numbered Asked wanted told other w is =
      let at = stands_at numbered w (λ k. other (sym is ∙ k)) in
      (at.scope, at.term, at.stands, at.is_site, told (head at.term) (sym (deed_stands at.scope at.term at.stands w at.is_site) ∙ is))

  pub send_deed : (w m : ℕ) → HasAct body w (λ a. Sends a m) → deed_at deeds w ≡ deed.Sends m
  send_deed w m has = at_deed (λ a. Sends a m) (deed.Sends m) (λ a. sends_deed a m) w has

  pub receive_deed : (w m : ℕ) → HasAct body w (λ a. Receives a m) → deed_at deeds w ≡ deed.Receives m
  receive_deed w m has = at_deed (λ a. Receives a m) (deed.Receives m) (λ a. receives_deed a m) w has

  pub set_deed : (w r : ℕ) → HasAct body w (λ a. Sets a r) → deed_at deeds w ≡ deed.Sets r
  set_deed w r has = at_deed (λ a. Sets a r) (deed.Sets r) (λ a. sets_deed a r) w has

  pub deed_send : Numbered [] 0 body → (w m : ℕ) → deed_at deeds w ≡ deed.Sends m → HasAct body w (λ a. Sends a m)
  deed_send numbered w m is = act_at numbered (λ a. Sends a m) (deed.Sends m) (λ a. deed_sends a m) (λ k. absurd cc) w is

  pub deed_receive : Numbered [] 0 body → (w m : ℕ) → deed_at deeds w ≡ deed.Receives m → HasAct body w (λ a. Receives a m)
  deed_receive numbered w m is = act_at numbered (λ a. Receives a m) (deed.Receives m) (λ a. deed_receives a m) (λ k. absurd cc) w is

  pub deed_set : Numbered [] 0 body → (w r : ℕ) → deed_at deeds w ≡ deed.Sets r → HasAct body w (λ a. Sets a r)
  deed_set numbered w r is = act_at numbered (λ a. Sets a r) (deed.Sets r) (λ a. deed_sets a r) (λ k. absurd cc) w is

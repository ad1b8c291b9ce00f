-- What an act does, told from its deed, is what the tests on the text say of it.
use Rattle.std.proofs.Common.{◌≡◌, ℕ, ◌<◌, Bool, true, false, List, [], refl, sym, ◌∙◌, ap}
use Rattle.core_term.specs.Term.{Term, Act, Cycle, Set, Send, Recv, If, When, Block, Wait, Pure, Nothing, head}
use Rattle.core_term.specs.Numbering.{size, Numbered}
use Rattle.core_term.specs.Acts.{HasAct, OnPort, Sends, Sets}
use Rattle.core_term.proofs.code_tables.Acting.{each_site}
use Rattle.turn_pulses.proofs.Reflects.{Reflects, fact_of, is_true, off}
use Rattle.process_machine.specs.ActTests.{sets_register, sends_on, is_on_port, passes_at}
use Rattle.process_machine.proofs.ActTests.{reflects_at, reflects_sets, reflects_sends, reflects_on_port}
use Rattle.act_deeds.specs.declared.deed.Deed.{Deed}
use Rattle.act_deeds.specs.Deeds.{AreDeeds, deed_at, deed_in}
use Rattle.act_deeds.proofs.Deeds.{deed_stands}
use Rattle.machine_parts.specs.Drafts.{is_set, is_send, is_on}

set_same : (register : ℕ) (act : Act) → is_set register (deed_in act) ≡ sets_register register act
set_same register (Cycle p n) = refl
set_same register (Set p r e) = refl
set_same register (Send p m e) = refl
set_same register (Recv p m) = refl
set_same register (If p e t u w) = refl
set_same register (When p e t) = refl
set_same register (Block p t) = refl
set_same register (Wait p y) = refl
set_same register (Pure p e) = refl
set_same register (Nothing p) = refl

send_same : (port : ℕ) (act : Act) → is_send port (deed_in act) ≡ sends_on port act
send_same port (Cycle p n) = refl
send_same port (Set p r e) = refl
send_same port (Send p m e) = refl
send_same port (Recv p m) = refl
send_same port (If p e t u w) = refl
send_same port (When p e t) = refl
send_same port (Block p t) = refl
send_same port (Wait p y) = refl
send_same port (Pure p e) = refl
send_same port (Nothing p) = refl

on_same : (port : ℕ) (act : Act) → is_on port (deed_in act) ≡ is_on_port port act
on_same port (Cycle p n) = refl
on_same port (Set p r e) = refl
on_same port (Send p m e) = refl
on_same port (Recv p m) = refl
on_same port (If p e t u w) = refl
on_same port (When p e t) = refl
on_same port (Block p t) = refl
on_same port (Wait p y) = refl
on_same port (Pure p e) = refl
on_same port (Nothing p) = refl

module _ (body : Term) (numbered : Numbered [] 0 body) (deeds : List Deed) (are : AreDeeds body deeds) where
  module _ (test : Act → Bool) (asks : Deed → Bool) (same : (act : Act) → asks (deed_in act) ≡ test act)
      (Passes : Act → Type 0) (reflects : (act : Act) → Reflects (Passes act) (test act)) where
    -- a site that passes has such an act, and the deed of the site says so
    pub act_of : (place : ℕ) → passes_at test body place ≡ true → HasAct body place Passes
    act_of place passes = fact_of (reflects_at test Passes reflects [] body place) passes

    deed_of_act : (place : ℕ) → HasAct body place Passes → asks (deed_at deeds place) ≡ true
    deed_of_act place has =
        ap asks (deed_stands body deeds are has.0 has.1 has.2 place has.3) ∙ (same (head has.1) ∙ is_true (reflects (head has.1)) has.4)

    pub act_of_deed : (place : ℕ) → place < size body → asks (deed_at deeds place) ≡ true → HasAct body place Passes
    act_of_deed place inside is =
        let act = each_site body numbered place inside in
        let deed_is = deed_stands body deeds are act.scope act.term act.stands place act.is_site in
        (act.scope, act.term, act.stands, act.is_site, fact_of (reflects (head act.term)) (sym (same (head act.term)) ∙ (sym (ap asks deed_is) ∙ is)))

    by_deed : (place : ℕ) → place < size body → (deed : Bool) → asks (deed_at deeds place) ≡ deed → passes_at test body place ≡ deed
    by_deed place inside true is = is_true (reflects_at test Passes reflects [] body place) (act_of_deed place inside is)
    by_deed place inside false is = off (λ passes. let impossible : false ≡ true = sym is ∙ deed_of_act place (act_of place passes) in cc)

    passes_same : (place : ℕ) → place < size body → passes_at test body place ≡ asks (deed_at deeds place)
    passes_same place inside = by_deed place inside (asks (deed_at deeds place)) refl

  pub sets_same : (register place : ℕ) → place < size body → passes_at (sets_register register) body place ≡ is_set register (deed_at deeds place)
  sets_same register = passes_same (sets_register register) (is_set register) (set_same register) (λ act. Sets act register) (reflects_sets register)

  pub sends_same : (port place : ℕ) → place < size body → passes_at (sends_on port) body place ≡ is_send port (deed_at deeds place)
  sends_same port = passes_same (sends_on port) (is_send port) (send_same port) (λ act. Sends act port) (reflects_sends port)

  pub ons_same : (port place : ℕ) → place < size body → passes_at (is_on_port port) body place ≡ is_on port (deed_at deeds place)
  ons_same port = passes_same (is_on_port port) (is_on port) (on_same port) (λ act. OnPort act port) (reflects_on_port port)

  pub act_on : (port place : ℕ) → place < size body → is_on port (deed_at deeds place) ≡ true → HasAct body place (λ act. OnPort act port)
  act_on port place inside is = act_of_deed (is_on_port port) (is_on port) (on_same port) (λ act. OnPort act port) (reflects_on_port port) place inside is

  pub act_sending : (port place : ℕ) → place < size body → is_send port (deed_at deeds place) ≡ true → HasAct body place (λ act. Sends act port)
  act_sending port place inside is = act_of_deed (sends_on port) (is_send port) (send_same port) (λ act. Sends act port) (reflects_sends port) place inside is

  pub act_setting : (register place : ℕ) → place < size body → is_set register (deed_at deeds place) ≡ true → HasAct body place (λ act. Sets act register)
  act_setting register place inside is = act_of_deed (sets_register register) (is_set register) (set_same register) (λ act. Sets act register) (reflects_sets register) place inside is

-- The uses of received data that are not shown to be over within the life are the records of V6.
use Rattle.std.proofs.Common.{◌≡◌, ℕ, inl, inr, refl, sym, ◌∙◌, ap, subst, List, [], ◌∷◌, map}
use Rattle.std.specs.Prelude.{pos, ◌-ℤ◌, ℤ}
use Rattle.core_term.specs.declared.rules.Rule.TheVariants as rule
use Rattle.core_term.specs.declared.term.SourceAtom.{SourceAtom}
use Rattle.core_term.specs.declared.term.SourceAtom.TheVariants.{Wire, Reg, Choice}
use Rattle.core_term.specs.Acts.{Receives, Sends, OnPort, HasAct, ActOn}
use Rattle.core_term.specs.Lists.{Has}
use Rattle.core_term.specs.Term.{Term, Act, Cycle, Set, Send, Recv, If, When, Block, Wait, Pure, Nothing, head}
use Rattle.core_term.specs.Numbering.{Numbered}
use Rattle.core_term.specs.Order.{Point}
use Rattle.core_term.specs.Process.{LifeEnd, Cycles, Until, Process, life_of}
use Rattle.core_term.specs.Sources.{WireOf}
use Rattle.core_term.specs.Atoms.{source_of, site_of}
use Rattle.core_term.specs.Rules.{Claim, Either, Both, Demands, use_by, end_of, next_end_of, wire_within, wire_until}
use Rattle.act_deeds.specs.declared.deed.Deed.{Deed}
use Rattle.act_deeds.specs.declared.deed.Deed.TheVariants as deed
use Rattle.demand_checks.specs.declared.rests.Rest.{Rest}
use Rattle.demand_checks.specs.Answers.{Answers, Tell}
use Rattle.demand_checks.specs.Deeds.{AreDeeds, deed_at, deed_in, used}
use Rattle.demand_checks.specs.Found.{AreFound}
use Rattle.demand_checks.specs.Rests.{AreRests, IsUse, pair_of}
use Rattle.demand_checks.specs.Sites.{sites_on}
use Rattle.demand_checks.specs.Unshown.{unshown}
use Rattle.act_deeds.proofs.Deeds.{deed_stands, deed_send, deed_receive, receive_deed}
use Rattle.demand_checks.proofs.Filtered.{found}
use Rattle.demand_checks.proofs.Inverted.{used_is, wire_demand, until_claim as until_of}
use Rattle.demand_checks.proofs.Listed.{has_left, has_right, has_either, mapped, in_map}
use Rattle.demand_checks.proofs.SitesHave.{IsOn, has_on, on_has}
use Rattle.use_check.specs.Wires.{until_claim, end_claims, ends_claims, received_claims, wire_claims, wire_claims_of}

sent_on : (a : Act) (m : ℕ) → Sends a m → OnPort a m
sent_on (Send p n e) m k = k
sent_on (Cycle p n) m k = elim k [ ]
sent_on (Set p r e) m k = elim k [ ]
sent_on (Recv p n) m k = elim k [ ]
sent_on (If p e t u w) m k = elim k [ ]
sent_on (When p e t) m k = elim k [ ]
sent_on (Block p t) m k = elim k [ ]
sent_on (Wait p y) m k = elim k [ ]
sent_on (Pure p e) m k = elim k [ ]
sent_on (Nothing p) m k = elim k [ ]

received_on : (a : Act) (m : ℕ) → Receives a m → OnPort a m
received_on (Recv p n) m k = k
received_on (Cycle p n) m k = elim k [ ]
received_on (Set p r e) m k = elim k [ ]
received_on (Send p n e) m k = elim k [ ]
received_on (If p e t u w) m k = elim k [ ]
received_on (When p e t) m k = elim k [ ]
received_on (Block p t) m k = elim k [ ]
received_on (Wait p y) m k = elim k [ ]
received_on (Pure p e) m k = elim k [ ]
received_on (Nothing p) m k = elim k [ ]

on_deed : (a : Act) (m : ℕ) → OnPort a m → IsOn (deed_in a) m
on_deed (Send p n e) m k = inl (ap deed.Sends k)
on_deed (Recv p n) m k = inr (ap deed.Receives k)
on_deed (Cycle p n) m k = elim k [ ]
on_deed (Set p r e) m k = elim k [ ]
on_deed (If p e t u w) m k = elim k [ ]
on_deed (When p e t) m k = elim k [ ]
on_deed (Block p t) m k = elim k [ ]
on_deed (Wait p y) m k = elim k [ ]
on_deed (Pure p e) m k = elim k [ ]
on_deed (Nothing p) m k = elim k [ ]

wire_atom : (atom : SourceAtom) (q : ℕ) → source_of atom ≡ WireOf q → atom ≡ Wire q
wire_atom (Wire s) q is = cc
wire_atom (Reg s r) q is = absurd cc
wire_atom (Choice s) q is = absurd cc

same_claim : {a b c a' b' c' x : Claim} → a ≡ a' → b ≡ b' → c ≡ c' → Either a (Both (Either x b) c) ≡ Either a' (Both (Either x b') c')
same_claim is are be = rw (is, are, be) refl

-- a claim of one of the ends
some_end : (deeds : List Deed) (user q : ℕ) (life : List LifeEnd) (claim : Claim) → Has (ends_claims deeds user q life) claim → (end : LifeEnd) × Has life end × Has (end_claims deeds user q end) claim
some_end deeds user q [] claim has = elim has [ ]
some_end deeds user q (end ∷ life) claim has = elim (has_either (end_claims deeds user q end) _ claim has) [
  | inl k ↦ (end, inl refl, k)
  | inr k ↦ (let known = some_end deeds user q life claim k in (known.0, inr known.1, known.2))
]

of_end : (deeds : List Deed) (user q : ℕ) (life : List LifeEnd) (end : LifeEnd) (claim : Claim) → Has life end → Has (end_claims deeds user q end) claim → Has (ends_claims deeds user q life) claim
of_end deeds user q [] end claim has claims = elim has [ ]
of_end deeds user q (first ∷ life) end claim (inl is) claims = has_left (end_claims deeds user q first) _ claim (subst (λ e. Has (end_claims deeds user q e) claim) is claims)
of_end deeds user q (first ∷ life) end claim (inr has) claims = has_right (end_claims deeds user q first) _ claim (of_end deeds user q life end claim has claims)

module _ (p : Process) (j : ℕ) (body : Term) (numbered : Numbered [] 0 body) (deeds : List Deed) (are : AreDeeds body deeds) (rests : List Rest) (all : AreRests body rests) where
  use_is : (user q : ℕ) (is_use : IsUse body user (WireOf q)) (d : ℤ) (b : Point) → used deeds user d b ≡ use_by (head is_use.0) d b
  use_is user q (u, is, rest) d b = used_is body deeds are rest.scope u rest.stands user is d b

  until_is : (user q w : ℕ) (is_use : IsUse body user (WireOf q)) → until_claim deeds user q w ≡ until_of (use_by (head is_use.0)) q w
  until_is user q w is_use = same_claim (use_is user q is_use (pos 0) (end_of q)) (use_is user q is_use (pos 0) (end_of w)) (use_is user q is_use (pos 0) (next_end_of w))

  on_act : (w n : ℕ) → IsOn (deed_at deeds w) n → ActOn body w n
  on_act w n (inl is) = let known = deed_send body deeds are numbered w n is in (known.0, known.1, known.2, known.3, sent_on (head known.1) n known.4)
  on_act w n (inr is) = let known = deed_receive body deeds are numbered w n is in (known.0, known.1, known.2, known.3, received_on (head known.1) n known.4)

  act_on : (w n : ℕ) → ActOn body w n → IsOn (deed_at deeds w) n
  act_on w n has = subst (λ d. IsOn d n) (sym (deed_stands body deeds are has.0 has.1 has.2 w has.3)) (on_deed (head has.1) n has.4)

  by_end : (user q m : ℕ) (claim : Claim) → IsUse body user (WireOf q) → HasAct body q (λ a. Receives a m) → (end : LifeEnd) → Has (life_of p m) end → Has (end_claims deeds user q end) claim
      → Demands p j body rule.V6 user q claim
  by_end user q m claim is_use received (Cycles k) has (inr none) = elim none [ ]
  by_end user q m claim is_use received (Cycles k) has (inl is) =
      subst (λ c. Demands p j body rule.V6 user q c) (sym (is ∙ use_is user q is_use (pos 1 -ℤ pos k) (end_of q)))
      (subst (λ n. Demands p j body rule.V6 n q (use_by (head is_use.0) (pos 1 -ℤ pos k) (end_of q))) is_use.1 (wire_within is_use.0 q m k is_use.2 received has))
  by_end user q m claim is_use received (Until n) has claims =
      let known = mapped (until_claim deeds user q) (sites_on deeds n) claim claims in
      let on = on_act known.0 n (has_on deeds n known.0 known.1) in
      subst (λ c. Demands p j body rule.V6 user q c) (sym (known.2 ∙ until_is user q known.0 is_use))
      (subst (λ s. Demands p j body rule.V6 s q (until_of (use_by (head is_use.0)) q known.0)) is_use.1 (wire_until is_use.0 q m n known.0 is_use.2 received has on))

  by_deed : (user q : ℕ) (claim : Claim) → IsUse body user (WireOf q) → (one : Deed) → deed_at deeds q ≡ one → Has (received_claims p deeds user q one) claim → Demands p j body rule.V6 user q claim
  by_deed user q claim is_use (deed.Sends m) is has = elim has [ ]
  by_deed user q claim is_use (deed.Sets r) is has = elim has [ ]
  by_deed user q claim is_use deed.Decides is has = elim has [ ]
  by_deed user q claim is_use deed.Other is has = elim has [ ]
  by_deed user q claim is_use (deed.Receives m) is has =
      let known = some_end deeds user q (life_of p m) claim has in by_end user q m claim is_use (deed_receive body deeds are numbered q m is) known.0 known.1 known.2

  demanded : (user : ℕ) (atom : SourceAtom) (claim : Claim) → IsUse body user (source_of atom) → Has (wire_claims_of p deeds user atom) claim → Demands p j body rule.V6 user (site_of atom) claim
  demanded user (Wire q) claim is_use has = by_deed user q claim is_use (deed_at deeds q) refl has
  demanded user (Reg q r) claim is_use has = elim has [ ]
  demanded user (Choice q) claim is_use has = elim has [ ]

  abbrev Claimed : ℕ → ℕ → Claim → Type 0
  Claimed first second claim = (rest : Rest) × Has rests rest × ((pair_of rest).first ≡ first) × ((pair_of rest).second ≡ second) × Has (wire_claims p deeds rest) claim

  at_rest : (first second m : ℕ) (end : LifeEnd) (claim : Claim) → IsUse body first (WireOf second) → HasAct body second (λ a. Receives a m) → Has (life_of p m) end
      → Has (end_claims deeds first second end) claim → Claimed first second claim
  at_rest first second m end claim is_use received has claims =
      let there = all.whole first (WireOf second) is_use in
      let atom = wire_atom there.0.atom second there.3 in
      let receive = receive_deed body deeds are second m received in
      let whole : Has (received_claims p deeds first second (deed_at deeds second)) claim =
      subst (λ d. Has (received_claims p deeds first second d) claim) (sym receive) (of_end deeds first second (life_of p m) end claim has claims) in (
        there.0,
        there.1,
        there.2,
        ap site_of atom,
        subst (λ a. Has (wire_claims_of p deeds there.0.user a) claim) (sym atom) (subst (λ n. Has (wire_claims_of p deeds n (Wire second)) claim) (sym there.2) whole),
      )

  claimed : (first second : ℕ) (claim : Claim) → Demands p j body rule.V6 first second claim → Claimed first second claim
  claimed first second claim demand = elim (wire_demand p j body rule.V6 first second claim demand refl) [
    | inl z ↦
        (let is_use : IsUse body first (WireOf second) = (z.user, z.site_is, z.rests) in
        at_rest first second z.port (Cycles z.cycles) claim is_use z.received z.has (inl (z.claim_is ∙ sym (use_is first second is_use (pos 1 -ℤ pos z.cycles) (end_of second)))))
    | inr z ↦
        (let is_use : IsUse body first (WireOf second) = (z.user, z.site_is, z.rests) in
        at_rest first second z.port (Until z.other) claim is_use z.received z.has
        (subst (λ c. Has (map (until_claim deeds first second) (sites_on deeds z.other)) c) (until_is first second z.ending is_use ∙ sym z.claim_is)
        (in_map (until_claim deeds first second) (sites_on deeds z.other) z.ending (on_has deeds z.other z.ending (act_on z.ending z.other z.on)))))
  ]

  pub wires_found : (answers : Answers) → Tell p body answers → AreFound p j body rule.V6 (unshown pair_of (wire_claims p deeds) answers rests)
  wires_found answers tell =
      found pair_of (wire_claims p deeds) answers p j body rule.V6 rests numbered tell (λ rest has claim claims. demanded rest.user rest.atom claim (all.sound rest has) claims) claimed

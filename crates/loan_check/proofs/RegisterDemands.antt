-- The uses of registers that are not shown to be over before the register is set are the records of V7.
use Rattle.std.proofs.Common.{◌≡◌, ℕ, inl, inr, refl, sym, ◌∙◌, ap, subst, List, [], ◌∷◌, map, Bool, true, false, ◌||◌, ◌&&◌}
use Rattle.std.specs.Prelude.{pos, ℤ}
use Rattle.core_term.specs.declared.process.CoreProc.{CoreProc}
use Rattle.core_term.specs.declared.rules.Rule.TheVariants as rule
use Rattle.core_term.specs.declared.term.SourceAtom.{SourceAtom}
use Rattle.core_term.specs.declared.term.SourceAtom.TheVariants.{Wire, Reg, Choice}
use Rattle.core_term.specs.AcceptedFile.{process_in}
use Rattle.core_term.specs.Lists.{Has}
use Rattle.core_term.specs.Term.{Term, site, head}
use Rattle.core_term.specs.Numbering.{Numbered}
use Rattle.core_term.specs.Order.{Point}
use Rattle.core_term.specs.Sources.{RegOf}
use Rattle.core_term.specs.Atoms.{source_of, site_of}
use Rattle.core_term.specs.Rules.{Claim, Either, Both, Demands, use_by, begin_of, end_of, next_begin_of, set_elsewhere, set_here}
use Rattle.act_deeds.specs.declared.deed.Deed.{Deed}
use Rattle.demand_checks.specs.declared.rests.Rest.{Rest}
use Rattle.demand_checks.specs.Answers.{Answers, Tell, all_shown, shows}
use Rattle.demand_checks.specs.Deeds.{AreDeeds, used}
use Rattle.demand_checks.specs.Found.{AreFound}
use Rattle.demand_checks.specs.Rests.{AreRests, IsUse, pair_of}
use Rattle.demand_checks.specs.Sites.{sites_setting}
use Rattle.demand_checks.specs.Unshown.{unshown}
use Rattle.act_deeds.proofs.Deeds.{set_deed, deed_set}
use Rattle.demand_checks.proofs.Filtered.{found}
use Rattle.demand_checks.proofs.Inverted.{used_is, read_demand, set_claim}
use Rattle.demand_checks.proofs.Listed.{has_left, has_right, has_either, mapped, in_map}
use Rattle.demand_checks.proofs.SitesHave.{has_setting, setting_has}
use Rattle.loan_check.specs.Elsewhere.{AreElsewhere, is_among}
use Rattle.loan_check.specs.Registers.{here_claim, elsewhere_claims, read_claims, register_claims, register_claims_of}
use Rattle.loan_check.proofs.OtherSets.{among_has, has_among}

-- a use that is over as it reads keeps all claims
all_here : (answers : Answers) (deeds : List Deed) (user site : ℕ) (sets : List ℕ) → shows answers (used deeds user (pos 0) (begin_of site)) ≡ true
    → all_shown answers (map (here_claim deeds user site) sets) ≡ true
all_here answers deeds user site [] k = refl
all_here answers deeds user site (set ∷ sets) k =
    ap (λ b. (b || ((answers.order (end_of set) (pos 0) (begin_of site) || shows answers (used deeds user (pos 0) (begin_of set))) && shows answers (used deeds user (pos 0) (next_begin_of set)))) && all_shown answers (map (here_claim deeds user site) sets)) k
    ∙ all_here answers deeds user site sets k

pub all_as_read : (answers : Answers) (elsewhere : Bool) (deeds : List Deed) (user site : ℕ) (sets : List ℕ) → shows answers (used deeds user (pos 0) (begin_of site)) ≡ true
    → all_shown answers (read_claims elsewhere deeds user site sets) ≡ true
all_as_read answers true deeds user site sets k = ap (λ b. b && all_shown answers (map (here_claim deeds user site) sets)) k ∙ all_here answers deeds user site sets k
all_as_read answers false deeds user site sets k = all_here answers deeds user site sets k

register_atom : (atom : SourceAtom) (q r : ℕ) → source_of atom ≡ RegOf q r → atom ≡ Reg q r
register_atom (Wire s) q r is = absurd cc
register_atom (Reg s t) q r is = cc
register_atom (Choice s) q r is = absurd cc

same_claim : {a b c a' b' c' x : Claim} → a ≡ a' → b ≡ b' → c ≡ c' → Either a (Both (Either x b) c) ≡ Either a' (Both (Either x b') c')
same_claim is are be = rw (is, are, be) refl

module _ (proc : CoreProc) (j : ℕ) (body : Term) (numbered : Numbered [] 0 body) (deeds : List Deed) (are : AreDeeds body deeds) (others : List ℕ) (elsewhere : AreElsewhere proc j others)
    (rests : List Rest) (all : AreRests body rests) where
  use_is : (user q r : ℕ) (is_use : IsUse body user (RegOf q r)) (d : ℤ) (b : Point) → used deeds user d b ≡ use_by (head is_use.0) d b
  use_is user q r (u, is, rest) d b = used_is body deeds are rest.scope u rest.stands user is d b

  here_is : (user q r w : ℕ) (is_use : IsUse body user (RegOf q r)) → here_claim deeds user q w ≡ set_claim (use_by (head is_use.0)) q w
  here_is user q r w is_use =
      same_claim (use_is user q r is_use (pos 0) (begin_of q)) (use_is user q r is_use (pos 0) (begin_of w)) (use_is user q r is_use (pos 0) (next_begin_of w))

  by_other : (user q r : ℕ) (claim : Claim) → IsUse body user (RegOf q r) → (b : Bool) → is_among r others ≡ b → Has (elsewhere_claims b deeds user q) claim
      → Demands (process_in proc) j body rule.V7 user q claim
  by_other user q r claim is_use false among has = elim has [ ]
  by_other user q r claim is_use true among (inr none) = elim none [ ]
  by_other user q r claim is_use true among (inl is) =
      let set = elsewhere.sound r (among_has r others among) in
      subst (λ c. Demands (process_in proc) j body rule.V7 user q c) (sym (is ∙ use_is user q r is_use (pos 0) (begin_of q)))
      (subst (λ n. Demands (process_in proc) j body rule.V7 n q (use_by (head is_use.0) (pos 0) (begin_of q))) is_use.1 (set_elsewhere is_use.0 q r set.0 set.1 set.2 is_use.2 set.3 set.4 set.5))

  by_set : (user q r : ℕ) (claim : Claim) → IsUse body user (RegOf q r) → Has (map (here_claim deeds user q) (sites_setting deeds r)) claim
      → Demands (process_in proc) j body rule.V7 user q claim
  by_set user q r claim is_use has =
      let known = mapped (here_claim deeds user q) (sites_setting deeds r) claim has in
      let written = deed_set body deeds are numbered known.0 r (has_setting deeds r known.0 known.1) in
      subst (λ c. Demands (process_in proc) j body rule.V7 user q c) (sym (known.2 ∙ here_is user q r known.0 is_use))
      (subst (λ n. Demands (process_in proc) j body rule.V7 n q (set_claim (use_by (head is_use.0)) q known.0)) is_use.1 (set_here is_use.0 q r known.0 is_use.2 written))

  demanded : (user : ℕ) (atom : SourceAtom) (claim : Claim) → IsUse body user (source_of atom) → Has (register_claims_of others deeds user atom) claim
      → Demands (process_in proc) j body rule.V7 user (site_of atom) claim
  demanded user (Wire q) claim is_use has = elim has [ ]
  demanded user (Choice q) claim is_use has = elim has [ ]
  demanded user (Reg q r) claim is_use has = elim (has_either (elsewhere_claims (is_among r others) deeds user q) _ claim has) [
    | inl k ↦ by_other user q r claim is_use (is_among r others) refl k
    | inr k ↦ by_set user q r claim is_use k
  ]

  abbrev Claimed : ℕ → ℕ → Claim → Type 0
  Claimed first second claim = (rest : Rest) × Has rests rest × ((pair_of rest).first ≡ first) × ((pair_of rest).second ≡ second) × Has (register_claims others deeds rest) claim

  -- a claim of a use of a register is a claim of its atom
  at_rest : (first second r : ℕ) (claim : Claim) → IsUse body first (RegOf second r) → Has (read_claims (is_among r others) deeds first second (sites_setting deeds r)) claim → Claimed first second claim
  at_rest first second r claim is_use has =
      let there = all.whole first (RegOf second r) is_use in
      let atom = register_atom there.0.atom second r there.3 in (
        there.0,
        there.1,
        there.2,
        ap site_of atom,
        subst (λ a. Has (register_claims_of others deeds there.0.user a) claim) (sym atom)
            (subst (λ n. Has (register_claims_of others deeds n (Reg second r)) claim) (sym there.2) has),
      )

  claimed : (first second : ℕ) (claim : Claim) → Demands (process_in proc) j body rule.V7 first second claim → Claimed first second claim
  claimed first second claim demand = elim (read_demand (process_in proc) j body rule.V7 first second claim demand refl) [
    | inl z ↦
        (let is_use : IsUse body first (RegOf second z.register) = (z.user, z.site_is, z.rests) in
        let among = has_among z.register others (elsewhere.whole z.register z.elsewhere) in
        at_rest first second z.register claim is_use (has_left (elsewhere_claims (is_among z.register others) deeds first second) _ claim
        (subst (λ b. Has (elsewhere_claims b deeds first second) claim) (sym among) (inl (z.claim_is ∙ sym (use_is first second z.register is_use (pos 0) (begin_of second)))))))
    | inr z ↦
        (let is_use : IsUse body first (RegOf second z.register) = (z.user, z.site_is, z.rests) in
        let site = setting_has deeds z.register z.setting (set_deed body deeds are z.setting z.register z.written) in
        at_rest first second z.register claim is_use (has_right (elsewhere_claims (is_among z.register others) deeds first second) _ claim
        (subst (λ c. Has (map (here_claim deeds first second) (sites_setting deeds z.register)) c) (here_is first second z.register z.setting is_use ∙ sym z.claim_is)
        (in_map (here_claim deeds first second) (sites_setting deeds z.register) z.setting site))))
  ]

  pub reads_found : (answers : Answers) → Tell (process_in proc) body answers → AreFound (process_in proc) j body rule.V7 (unshown pair_of (register_claims others deeds) answers rests)
  reads_found answers tell =
      found pair_of (register_claims others deeds) answers (process_in proc) j body rule.V7 rests numbered tell
      (λ rest has claim claims. demanded rest.user rest.atom claim (all.sound rest has) claims) claimed

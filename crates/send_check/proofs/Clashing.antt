-- Two acts clash by a rule exactly where a demand of the rule on their sites fails.
use Rattle.std.proofs.Common.{◌≡◌, ℕ, inl, inr, refl, sym, ◌∙◌, ap, subst, ◌==◌, arith, nat_lt, not, Bool, true, false, List, [], pos}
use Rattle.std.proofs.lemmas.Bool.Decides.{nat_tests}
use Rattle.core_term.specs.declared.rules.Rule.{Rule}
use Rattle.core_term.specs.declared.rules.Rule.TheVariants.{V2, V3, V4, V5, V6, V7, V8}
use Rattle.core_term.specs.Term.{Term}
use Rattle.core_term.specs.Numbering.{Numbered}
use Rattle.core_term.specs.Process.{Process}
use Rattle.core_term.specs.Rules.{Claim, Holds, Demands, sets, receives, sends, sends_next, next_begin_of}
use Rattle.act_deeds.specs.declared.deed.Deed.{Deed}
use Rattle.act_deeds.specs.declared.deed.Deed.TheVariants as deed
use Rattle.demand_checks.specs.Answers.{Answers, Tell, Decides, shows}
use Rattle.demand_checks.specs.Deeds.{AreDeeds, deed_at}
use Rattle.demand_checks.specs.Found.{Fails}
use Rattle.demand_checks.proofs.Answered.{demand_shown}
use Rattle.act_deeds.proofs.Deeds.{set_deed, receive_deed, send_deed, deed_set, deed_receive, deed_send}
use Rattle.send_check.specs.Clashes.{same_register, same_source, same_target, one_ends, one_is_over, clash}
use Rattle.send_check.specs.Settled.{IsOwn}
use Rattle.send_check.proofs.Truth.{and_first, and_second, and_fails, or_first, or_second, or_either, not_true, not_false, less_of, of_less}
use Rattle.send_check.proofs.Demanded.{sets_of, receives_of, sends_of}

same_number : (a b : ℕ) → (a == b) ≡ true → a ≡ b
same_number a b is = grind (arith, nat_tests)

itself : (a : ℕ) → (a == a) ≡ true
itself a = grind (arith, nat_tests)

-- two acts that do the same
abbrev Alike : (ℕ → Deed) → Deed → Deed → Type 0
Alike does one other = (n : ℕ) × (one ≡ does n) × (other ≡ does n)

registers : (one other : Deed) → same_register one other ≡ true → Alike deed.Sets one other
registers (deed.Sets a) (deed.Sets b) is = (a, refl, ap deed.Sets (sym (same_number a b is)))
registers (deed.Sets a) (deed.Sends b) is = absurd cc
registers (deed.Sets a) (deed.Receives b) is = absurd cc
registers (deed.Sets a) deed.Decides is = absurd cc
registers (deed.Sets a) deed.Other is = absurd cc
registers (deed.Sends a) second is = absurd cc
registers (deed.Receives a) second is = absurd cc
registers deed.Decides second is = absurd cc
registers deed.Other second is = absurd cc

sources : (one other : Deed) → same_source one other ≡ true → Alike deed.Receives one other
sources (deed.Receives a) (deed.Receives b) is = (a, refl, ap deed.Receives (sym (same_number a b is)))
sources (deed.Receives a) (deed.Sends b) is = absurd cc
sources (deed.Receives a) (deed.Sets b) is = absurd cc
sources (deed.Receives a) deed.Decides is = absurd cc
sources (deed.Receives a) deed.Other is = absurd cc
sources (deed.Sends a) second is = absurd cc
sources (deed.Sets a) second is = absurd cc
sources deed.Decides second is = absurd cc
sources deed.Other second is = absurd cc

targets : (one other : Deed) → same_target one other ≡ true → Alike deed.Sends one other
targets (deed.Sends a) (deed.Sends b) is = (a, refl, ap deed.Sends (sym (same_number a b is)))
targets (deed.Sends a) (deed.Sets b) is = absurd cc
targets (deed.Sends a) (deed.Receives b) is = absurd cc
targets (deed.Sends a) deed.Decides is = absurd cc
targets (deed.Sends a) deed.Other is = absurd cc
targets (deed.Sets a) second is = absurd cc
targets (deed.Receives a) second is = absurd cc
targets deed.Decides second is = absurd cc
targets deed.Other second is = absurd cc

module _ (p : Process) (j : ℕ) (body : Term) (deeds : List Deed) (are : AreDeeds body deeds) (numbered : Numbered [] 0 body) (answers : Answers) (tell : Tell p body answers) where
  holds : (rule : Rule) (q r : ℕ) (claim : Claim) → Demands p j body rule q r claim → shows answers claim ≡ true → Holds p body claim
  holds rule q r claim demanded is =
      let Told : Bool → Type 0 = λ answer. Decides answer (Holds p body claim) in
      subst Told is (demand_shown p body answers tell j numbered rule q r claim demanded)

  broken : (rule : Rule) (q r : ℕ) (claim : Claim) → Demands p j body rule q r claim → shows answers claim ≡ false → Fails p j body rule q r
  broken rule q r claim demanded is =
      let Told : Bool → Type 0 = λ answer. Decides answer (Holds p body claim) in
      record { claim = claim; demanded = demanded; fails = subst Told is (demand_shown p body answers tell j numbered rule q r claim demanded) }

  -- where they clash, a demand fails
  sets_break : (q r : ℕ) → clash answers deeds V3 q r ≡ true → Fails p j body V3 q r
  sets_break q r is =
      let one = deed_at deeds q in
      let other = deed_at deeds r in
      let rest = and_second (same_register one other) _ is in
      let alike = registers one other (and_first (same_register one other) _ is) in
      let less = less_of q r (and_first (nat_lt q r) _ rest) in
      broken V3 q r _ (sets q r alike.0 (deed_set body deeds are numbered q alike.0 alike.1) (deed_set body deeds are numbered r alike.0 alike.2) less)
      (not_true (one_ends answers q (pos 0) r) (and_second (nat_lt q r) _ rest))

  receives_break : (q r : ℕ) → clash answers deeds V4 q r ≡ true → Fails p j body V4 q r
  receives_break q r is =
      let one = deed_at deeds q in
      let other = deed_at deeds r in
      let rest = and_second (same_source one other) _ is in
      let alike = sources one other (and_first (same_source one other) _ is) in
      let less = less_of q r (and_first (nat_lt q r) _ rest) in
      broken V4 q r _ (receives q r alike.0 (deed_receive body deeds are numbered q alike.0 alike.1) (deed_receive body deeds are numbered r alike.0 alike.2) less)
      (not_true (one_ends answers q (pos 1) r) (and_second (nat_lt q r) _ rest))

  sends_break : (q r : ℕ) → clash answers deeds V5 q r ≡ true → Fails p j body V5 q r
  sends_break q r is =
      let one = deed_at deeds q in
      let other = deed_at deeds r in
      let rest = and_second (same_target one other) _ is in
      let alike = targets one other (and_first (same_target one other) _ is) in
      let first = deed_send body deeds are numbered q alike.0 alike.1 in
      let second = deed_send body deeds are numbered r alike.0 alike.2 in
      elim (or_either (not (answers.last q (pos 1) (next_begin_of r))) _ rest) [
        | inl next ↦ broken V5 q r _ (sends_next q r alike.0 first second) (not_true (answers.last q (pos 1) (next_begin_of r)) next)
        | inr here ↦
            broken V5 q r _ (sends q r alike.0 first second (less_of q r (and_first (nat_lt q r) _ here)))
            (not_true (one_is_over answers q r) (and_second (nat_lt q r) _ here))
      ]

  -- where they do not, all hold
  sets_keep : (q r : ℕ) → clash answers deeds V3 q r ≡ false → (claim : Claim) → Demands p j body V3 q r claim → Holds p body claim
  sets_keep q r is claim demanded =
      let of = sets_of p j body V3 q r claim demanded refl in
      let same : same_register (deed_at deeds q) (deed_at deeds r) ≡ true = rw (set_deed body deeds are q of.register of.first, set_deed body deeds are r of.register of.second) (itself of.register) in
      let rest = and_fails (same_register (deed_at deeds q) (deed_at deeds r)) _ same is in
      let ends = not_false (one_ends answers q (pos 0) r) (and_fails (nat_lt q r) _ (of_less q r of.less) rest) in
      holds V3 q r claim demanded (ap (shows answers) of.is ∙ ends)

  receives_keep : (q r : ℕ) → clash answers deeds V4 q r ≡ false → (claim : Claim) → Demands p j body V4 q r claim → Holds p body claim
  receives_keep q r is claim demanded =
      let of = receives_of p j body V4 q r claim demanded refl in
      let same : same_source (deed_at deeds q) (deed_at deeds r) ≡ true = rw (receive_deed body deeds are q of.port of.first, receive_deed body deeds are r of.port of.second) (itself of.port) in
      let rest = and_fails (same_source (deed_at deeds q) (deed_at deeds r)) _ same is in
      let ends = not_false (one_ends answers q (pos 1) r) (and_fails (nat_lt q r) _ (of_less q r of.less) rest) in
      holds V4 q r claim demanded (ap (shows answers) of.is ∙ ends)

  sends_keep : (q r : ℕ) → clash answers deeds V5 q r ≡ false → (claim : Claim) → Demands p j body V5 q r claim → Holds p body claim
  sends_keep q r is claim demanded =
      let of = sends_of p j body V5 q r claim demanded refl in
      let same : same_target (deed_at deeds q) (deed_at deeds r) ≡ true = rw (send_deed body deeds are q of.port of.first, send_deed body deeds are r of.port of.second) (itself of.port) in
      let rest = and_fails (same_target (deed_at deeds q) (deed_at deeds r)) _ same is in
      let next = not_false (answers.last q (pos 1) (next_begin_of r)) (or_first (not (answers.last q (pos 1) (next_begin_of r))) _ rest) in
      elim of.is [
        | inl here ↦
            let over = not_false (one_is_over answers q r) (and_fails (nat_lt q r) _ (of_less q r here.0) (or_second (not (answers.last q (pos 1) (next_begin_of r))) _ rest)) in
            holds V5 q r claim demanded (ap (shows answers) here.1 ∙ over)
        | inr later ↦ holds V5 q r claim demanded (ap (shows answers) later ∙ next)
      ]

  pub breaks : (rule : Rule) → IsOwn rule → (q r : ℕ) → clash answers deeds rule q r ≡ true → Fails p j body rule q r
  breaks V2 own q r is = elim own [ ]
  breaks V3 own q r is = sets_break q r is
  breaks V4 own q r is = receives_break q r is
  breaks V5 own q r is = sends_break q r is
  breaks V6 own q r is = elim own [ ]
  breaks V7 own q r is = elim own [ ]
  breaks V8 own q r is = elim own [ ]

  pub keeps : (rule : Rule) → IsOwn rule → (q r : ℕ) → clash answers deeds rule q r ≡ false → (claim : Claim) → Demands p j body rule q r claim → Holds p body claim
  keeps V2 own q r is = elim own [ ]
  keeps V3 own q r is = sets_keep q r is
  keeps V4 own q r is = receives_keep q r is
  keeps V5 own q r is = sends_keep q r is
  keeps V6 own q r is = elim own [ ]
  keeps V7 own q r is = elim own [ ]
  keeps V8 own q r is = elim own [ ]

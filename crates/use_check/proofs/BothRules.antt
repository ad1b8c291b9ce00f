-- The violations of V2 and V6 of a thread, from the records of both.
use Rattle.std.proofs.Common.{◌≡◌, ℕ, ◌<◌, inl, inr, arith, sym, subst, List, [], ◌∷◌, ◌++◌}
use Rattle.core_term.specs.declared.process.CoreProc.{CoreProc}
use Rattle.core_term.specs.declared.rules.Rule.{Rule}
use Rattle.core_term.specs.declared.rules.Rule.TheVariants as rule
use Rattle.core_term.specs.declared.rules.Violation.{Violation}
use Rattle.core_term.specs.Process.{Process}
use Rattle.core_term.specs.Term.{Term}
use Rattle.core_term.specs.AcceptedFile.{process_in}
use Rattle.core_term.specs.Violations.{rule_number}
use Rattle.demand_checks.specs.declared.judge.Judge.{Judge}
use Rattle.demand_checks.specs.declared.place.Pair.{Pair}
use Rattle.demand_checks.specs.declared.rests.Rest.{Rest}
use Rattle.demand_checks.specs.Answers.{Answers}
use Rattle.demand_checks.specs.Found.{AreFound, AreViolations, AllEarlier}
use Rattle.demand_checks.specs.Judge.{IsJudge, TellOf, process_at, body_at}
use Rattle.demand_checks.specs.Reads.{AreReads}
use Rattle.demand_checks.specs.Rests.{AreRests, pair_of}
use Rattle.demand_checks.specs.Thread.{body_of}
use Rattle.demand_checks.specs.Unshown.{unshown}
use Rattle.demand_checks.proofs.Answered.{right_answers}
use Rattle.demand_checks.proofs.OneRule.{no_rules}
use Rattle.use_check.specs.Made.{made_claims, own_pair}
use Rattle.use_check.specs.Wires.{wire_claims}
use Rattle.use_check.proofs.MadeDemands.{made_found}
use Rattle.use_check.proofs.WireDemands.{wires_found}

module _ (judge : Judge) (is : IsJudge judge) where
  made_of : (reads : List Pair) → AreReads (body_at judge) reads → (pairs : List Pair)
      → ((answers : Answers) → TellOf judge answers → pairs ≡ unshown own_pair made_claims answers reads) → AreFound (process_at judge) judge.number (body_at judge) rule.V2 pairs
  made_of reads all pairs told =
      let right = right_answers (process_at judge) (body_at judge) is.numbered judge.deeds.items is.deeds in
      subst (λ z. AreFound (process_at judge) judge.number (body_at judge) rule.V2 z) (sym (told right.0 right.1))
      (made_found (process_at judge) judge.number (body_at judge) is.numbered reads all right.0 right.1)

  wires_of : (rests : List Rest) → AreRests (body_at judge) rests → (pairs : List Pair)
      → ((answers : Answers) → TellOf judge answers → pairs ≡ unshown pair_of (wire_claims (process_at judge) judge.deeds.items) answers rests)
      → AreFound (process_at judge) judge.number (body_at judge) rule.V6 pairs
  wires_of rests all pairs told =
      let right = right_answers (process_at judge) (body_at judge) is.numbered judge.deeds.items is.deeds in
      subst (λ z. AreFound (process_at judge) judge.number (body_at judge) rule.V6 z) (sym (told right.0 right.1))
      (wires_found (process_at judge) judge.number (body_at judge) is.numbered judge.deeds.items is.deeds rests all right.0 right.1)

none_earlier : AllEarlier [] rule.V2
none_earlier other has = elim has [ ]

made_earlier : AllEarlier (rule.V2 ∷ []) rule.V6
made_earlier other (inl is) = subst (λ r. rule_number r < 6) (sym is) (omega arith)
made_earlier other (inr none) = elim none [ ]

-- The list of V2, and then that of V6.
abbrev Lists : (old new : List Violation) → Rule → List Pair → Type 0
Lists old new rule pairs = (p : Process) (j : ℕ) (body : Term) (rules : List Rule) → AreViolations p j body rules old → AreFound p j body rule pairs → AllEarlier rules rule
    → AreViolations p j body (rules ++ rule ∷ []) new

pub both_listed : (judge : Judge) → IsJudge judge → (proc : CoreProc) (j : ℕ) → judge.proc.now ≡ proc → judge.number ≡ j
    → (reads reads_seen : List Pair) → AreReads (body_at judge) reads → reads_seen ≡ reads → (rests rests_seen : List Rest) → AreRests (body_at judge) rests → rests_seen ≡ rests
    → (made wires : List Pair)
    → ((answers : Answers) → TellOf judge answers → made ≡ unshown own_pair made_claims answers reads_seen)
    → ((answers : Answers) → TellOf judge answers → wires ≡ unshown pair_of (wire_claims (process_at judge) judge.deeds.items) answers rests_seen)
    → (none one two : List Violation) → none ≡ [] → Lists none one rule.V2 made → Lists one two rule.V6 wires
    → AreViolations (process_in proc) j (body_of proc j) (rule.V2 ∷ rule.V6 ∷ []) two
both_listed judge is proc j same_proc same_number reads reads_seen reads_all reads_same rests rests_seen rests_all rests_same made wires made_told wires_told none one two empty first second =
    let made_are = made_of judge is reads_seen (subst (λ r. AreReads (body_at judge) r) (sym reads_same) reads_all) made made_told in
    let wires_are = wires_of judge is rests_seen (subst (λ r. AreRests (body_at judge) r) (sym rests_same) rests_all) wires wires_told in
    let process = process_at judge in
    let body = body_at judge in
    let start : AreViolations process judge.number body [] none = subst (λ v. AreViolations process judge.number body [] v) (sym empty) (no_rules process judge.number body) in
    let listed = second process judge.number body (rule.V2 ∷ []) (first process judge.number body [] start made_are none_earlier) wires_are made_earlier in
    subst (λ n. AreViolations (process_in proc) n (body_of proc n) (rule.V2 ∷ rule.V6 ∷ []) two) same_number
    (subst (λ q. AreViolations (process_in q) judge.number (body_of q judge.number) (rule.V2 ∷ rule.V6 ∷ []) two) same_proc listed)

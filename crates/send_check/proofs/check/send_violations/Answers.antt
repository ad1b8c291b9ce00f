-- One rule after the other, from no rules on.
use Rattle.std.proofs.Common.{ℕ, ◌<◌, inl, inr, arith, sym, subst, List, [], ◌∷◌}
use Rattle.core_term.specs.declared.rules.Rule.{Rule}
use Rattle.core_term.specs.declared.rules.Rule.TheVariants.{V3, V4, V5}
use Rattle.core_term.specs.declared.rules.Violation.{Violation}
use Rattle.core_term.specs.declared.process.CoreProc.{CoreProc}
use Rattle.core_term.specs.AcceptedFile.{process_in}
use Rattle.core_term.specs.Violations.{rule_number}
use Rattle.demand_checks.specs.Found.{AllEarlier, AreViolations}
use Rattle.demand_checks.specs.Judge.{process_at, body_at}
use Rattle.demand_checks.specs.Thread.{body_of}
use Rattle.demand_checks.proofs.OneRule.{no_rules}
use Rattle.send_check.proofs.check.send_violations.Goals as goal

one_more : (rules : List Rule) (rule other : Rule) → AllEarlier rules other → rule_number rule < rule_number other → AllEarlier (rule ∷ rules) other
one_more rules rule other earlier less one (inl same) = let Less : Rule → Type 0 = λ r. rule_number r < rule_number other in subst Less (sym same) less
one_more rules rule other earlier less one (inr later) = earlier one later

none : (rule : Rule) → AllEarlier [] rule
none rule one has = elim has [ ]

pub returns : goal.returns
returns c =
    let judge = c.in_ok-judge.judge in
    let Empty : List Violation → Type 0 = λ violations. AreViolations (process_at judge) judge.number (body_at judge) [] violations in
    let start : Empty c.new-violations.result.items = subst Empty (sym c.new-violations.ensures.items) (no_rules (process_at judge) judge.number (body_at judge)) in
    let first = c.in_ok-add_rule.ensures [] start (none V3) in
    let second = c.in_ok-add_rule-2.ensures (V3 ∷ []) first (one_more [] V3 V4 (none V4) (omega arith)) in
    let third = c.in_ok-add_rule-3.ensures (V3 ∷ V4 ∷ []) second (one_more (V4 ∷ []) V3 V5 (one_more [] V4 V5 (none V5) (omega arith)) (omega arith)) in
    let rules = V3 ∷ V4 ∷ V5 ∷ [] in
    let found = c.add_rule-3.new.violations.items in
    let OfProc : CoreProc → Type 0 = λ proc. AreViolations (process_in proc) judge.number (body_of proc judge.number) rules found in
    let OfThread : ℕ → Type 0 = λ thread. AreViolations (process_in c.args.proc.now) thread (body_of c.args.proc.now thread) rules found in
    subst OfThread c.in_ok-judge.ensures.thread (subst OfProc c.in_ok-judge.ensures.process third)

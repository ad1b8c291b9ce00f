-- The earliest of the firsts of three lists, whose rules are all rules.
use Rattle.std.proofs.Common.{◌∙◌, ap, List, [], ◌∷◌, sym, subst, Option}
use Rattle.core_term.specs.declared.rules.Rule.{Rule}
use Rattle.core_term.specs.declared.rules.Rule.TheVariants.{V2, V3, V4, V5, V6, V7, V8}
use Rattle.core_term.specs.declared.rules.Violation.{Violation}
use Rattle.core_term.specs.AcceptedFile.{process_in}
use Rattle.demand_checks.specs.Thread.{body_of}
use Rattle.timing_check.specs.Earlier.{first_of}
use Rattle.timing_check.specs.OfThread.{IsFirstOf}
use Rattle.timing_check.proofs.Firsts.{listed_first, joined, of_all}
use Rattle.timing_check.proofs.threads.first_by_rules.Goals as goal

pub returns : goal.returns
returns c =
    let p = process_in c.args.proc.now in
    let j = c.args.thread in
    let body = body_of c.args.proc.now c.args.thread in
    let before = V2 ∷ V6 ∷ [] in
    let between = V3 ∷ V4 ∷ V5 ∷ [] in
    let after = V7 ∷ V8 ∷ [] in
    let First : List Rule → Option Violation → Type 0 = λ rules first. IsFirstOf p j body rules first in
    let uses = subst (First before) (sym (c.first_of.ensures ∙ ap first_of c.deref.ensures.value)) (listed_first p j body before c.in_ok-uses.uses.items c.in_ok-uses.ensures) in
    let sends = subst (First between) (sym (c.first_of-2.ensures ∙ ap first_of c.deref-2.ensures.value)) (listed_first p j body between c.in_ok-sends.sends.items c.in_ok-sends.ensures) in
    let loans = subst (First after) (sym (c.first_of-3.ensures ∙ ap first_of c.deref-3.ensures.value)) (listed_first p j body after c.in_ok-loans.loans.items c.in_ok-loans.ensures) in
    let late = V3 ∷ V4 ∷ V5 ∷ V7 ∷ V8 ∷ [] in
    let rest = subst (First late) (sym c.earliest.ensures) (joined p j body between after c.first_of-2.result c.first_of-3.result sends loans) in
    let all = V2 ∷ V6 ∷ late in
    of_all p j body c.earliest-2.result (subst (First all) (sym c.earliest-2.ensures) (joined p j body before late c.first_of.result c.earliest.result uses rest))

-- The acts and terms whose ends are of the tail are tail-stepped, so they take time.
--
-- By induction on where a term stands: what is asked of a body and of its ends goes inward together. In the part of a chain before its
-- last nothing is of the tail.
use Rattle.std.proofs.Common.{◌≡◌, ℕ, ◌+◌, arith, sym, ◌∙◌, List, true, false}
use Rattle.core_term.specs.Term.{Term, One, Then, Both, Act, site, head}
use Rattle.core_term.specs.Numbering.{size, act_size, Numbered, NumberedAct}
use Rattle.core_term.specs.Tail.{IsTail, IsTailAct}
use Rattle.core_term.specs.Stands.{Stands, StandsIn, here, in_one, in_then, after_then, in_both, after_both, in_yes, in_no, in_when, in_block}
use Rattle.core_term.proofs.code_tables.FirstSites.{act_site}
use Rattle.run_laws.proofs.turn_points.Text.{acts_in}
use Rattle.turn_machine.specs.TailEnds.{TailEnds, AreTailEnds, AreTailEndsIn}

module _ (ends : TailEnds) where
  abbrev pub TakeTime : Term → Type 0
  TakeTime term = (ends.act (site (head term)) ≡ true → IsTailAct (head term)) × (ends.term (site (head term)) ≡ true → IsTail term)

  mutual
    pub take_time : {acts inner_acts : List Act} {whole term : Term} → Stands acts whole inner_acts term → (low : ℕ) → Numbered acts low whole → IsTail whole → AreTailEnds ends whole → TakeTime term
    take_time {whole = One act} here low numbered tail ends_are = ((λ is. tail), (λ is. tail))
    take_time {whole = Then act rest} here low numbered tail ends_are = ((λ is. absurd (let impossible : true ≡ false = sym is ∙ ends_are.1 in cc)), (λ is. tail))
    take_time {whole = Both act rest} here low numbered tail ends_are = ((λ is. tail.0), (λ is. tail))
    take_time (in_one stands) low numbered tail ends_are = takes_time_in stands low numbered tail ends_are.2
    take_time {whole = Then act rest} {term = term} (in_then stands) low numbered tail ends_are =
        let at_low : site act ≡ low = act_site _ low act numbered.0 in
        let within = acts_in stands low numbered.0 in
        let none = ends_are.2 (site (head term)) (omega (arith, within.0)) (omega (arith, within.1)) in
        ((λ is. absurd (let impossible : true ≡ false = sym is ∙ none.0 in cc)), (λ is. absurd (let impossible : true ≡ false = sym is ∙ none.1 in cc)))
    take_time (after_then {a = act} stands) low numbered tail ends_are = take_time stands (low + act_size act) numbered.1 tail ends_are.3
    take_time (in_both stands) low numbered tail ends_are = takes_time_in stands low numbered.0 tail.0 ends_are.2
    take_time (after_both {a = act} stands) low numbered tail ends_are = take_time stands (low + act_size act) numbered.1 tail.1 ends_are.3

    takes_time_in : {acts inner_acts : List Act} {act : Act} {term : Term} → StandsIn acts act inner_acts term → (low : ℕ) → NumberedAct acts low act → IsTailAct act → AreTailEndsIn ends act → TakeTime term
    takes_time_in (in_yes stands) low numbered tail ends_are = take_time stands (low + 1) numbered.1 tail.0 ends_are.0
    takes_time_in (in_no {t = first} stands) low numbered tail ends_are = take_time stands (low + (1 + size first)) numbered.2 tail.1 ends_are.1
    takes_time_in (in_when stands) low numbered tail ends_are = elim tail [ ]
    takes_time_in (in_block stands) low numbered tail ends_are = take_time stands (low + 1) numbered.1 tail ends_are

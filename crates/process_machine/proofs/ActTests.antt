-- The tests on the act of a site say that such an act stands in the body.
--
-- By induction over terms: the test of a term is the one of its act, or of what stands inside it, or of the rest, and so is standing in
-- it.
use Rattle.std.proofs.Common.{◌≡◌, arith, ℕ, ◌⊎◌, inl, inr, refl, sym, ◌∙◌, Bool, true, false, ◌==◌, ◌&&◌, List, ◌∷◌}
use Rattle.std.proofs.lemmas.Bool.Decides.{nat_tests}
use Rattle.core_term.specs.Term.{Term, One, Then, Both, Act, Cycle, Set, Send, Recv, If, When, Block, Wait, Pure, Nothing, site, head}
use Rattle.core_term.specs.Stands.{Stands, StandsIn, here, in_one, in_then, after_then, in_both, after_both, in_yes, in_no, in_when, in_block}
use Rattle.core_term.specs.Acts.{OnPort, Sends, Sets}
use Rattle.turn_pulses.proofs.Reflects.{Reflects, holds, fails, same_fact, reflects_or, reflects_and}
use Rattle.process_machine.specs.ActTests.{sets_register, sends_on, is_on_port, passes_at, passes_inside}

reflects_equal : (m n : ℕ) → Reflects (m ≡ n) (m == n)
reflects_equal m n = by_test (m == n) refl
  where
    by_test : (test : Bool) → (m == n) ≡ test → Reflects (m ≡ n) (m == n)
    by_test true passes = holds (grind (arith, nat_tests)) passes
    by_test false fails_here = fails (λ same. let passes : (m == n) ≡ true = grind (arith, nat_tests) in let impossible : true ≡ false = sym passes ∙ fails_here in cc) fails_here

reflects_none : {Fact : Type 0} → (Fact → ⊥) → Reflects Fact false
reflects_none none = fails none refl

pub reflects_sets : (register : ℕ) (act : Act) → Reflects (Sets act register) (sets_register register act)
reflects_sets register (Set p target value) = reflects_equal target register
reflects_sets register (Cycle p count) = reflects_none (λ sets. sets)
reflects_sets register (Send p port value) = reflects_none (λ sets. sets)
reflects_sets register (Recv p port) = reflects_none (λ sets. sets)
reflects_sets register (If p condition first second valued) = reflects_none (λ sets. sets)
reflects_sets register (When p condition first) = reflects_none (λ sets. sets)
reflects_sets register (Block p inner) = reflects_none (λ sets. sets)
reflects_sets register (Wait p variable) = reflects_none (λ sets. sets)
reflects_sets register (Pure p value) = reflects_none (λ sets. sets)
reflects_sets register (Nothing p) = reflects_none (λ sets. sets)

pub reflects_sends : (port : ℕ) (act : Act) → Reflects (Sends act port) (sends_on port act)
reflects_sends port (Send p target value) = reflects_equal target port
reflects_sends port (Cycle p count) = reflects_none (λ sends. sends)
reflects_sends port (Set p register value) = reflects_none (λ sends. sends)
reflects_sends port (Recv p source) = reflects_none (λ sends. sends)
reflects_sends port (If p condition first second valued) = reflects_none (λ sends. sends)
reflects_sends port (When p condition first) = reflects_none (λ sends. sends)
reflects_sends port (Block p inner) = reflects_none (λ sends. sends)
reflects_sends port (Wait p variable) = reflects_none (λ sends. sends)
reflects_sends port (Pure p value) = reflects_none (λ sends. sends)
reflects_sends port (Nothing p) = reflects_none (λ sends. sends)

pub reflects_on_port : (port : ℕ) (act : Act) → Reflects (OnPort act port) (is_on_port port act)
reflects_on_port port (Send p target value) = reflects_equal target port
reflects_on_port port (Recv p source) = reflects_equal source port
reflects_on_port port (Cycle p count) = reflects_none (λ on. on)
reflects_on_port port (Set p register value) = reflects_none (λ on. on)
reflects_on_port port (If p condition first second valued) = reflects_none (λ on. on)
reflects_on_port port (When p condition first) = reflects_none (λ on. on)
reflects_on_port port (Block p inner) = reflects_none (λ on. on)
reflects_on_port port (Wait p variable) = reflects_none (λ on. on)
reflects_on_port port (Pure p value) = reflects_none (λ on. on)
reflects_on_port port (Nothing p) = reflects_none (λ on. on)

module _ (test : Act → Bool) (Passes : Act → Type 0) (reflects : (act : Act) → Reflects (Passes act) (test act)) where
  -- such an act stands in the term, or inside the act
  abbrev pub StandsAt : List Act → Term → (place : ℕ) → Type 0
  StandsAt scope whole place = (inner : List Act) × (term : Term) × Stands scope whole inner term × (site (head term) ≡ place) × Passes (head term)

  abbrev StandsInside : List Act → Act → (place : ℕ) → Type 0
  StandsInside scope act place = (inner : List Act) × (term : Term) × StandsIn scope act inner term × (site (head term) ≡ place) × Passes (head term)

  abbrev IsHere : Act → (place : ℕ) → Type 0
  IsHere act place = (site act ≡ place) × Passes act

  reflects_here : (act : Act) (place : ℕ) → Reflects (IsHere act place) ((site act == place) && test act)
  reflects_here act place = reflects_and (reflects_equal (site act) place) (reflects act)

  mutual
    pub reflects_at : (scope : List Act) (whole : Term) (place : ℕ) → Reflects (StandsAt scope whole place) (passes_at test whole place)
    reflects_at scope (One act) place = same_fact there back (reflects_or (reflects_here act place) (reflects_inside scope act place))
      where
        there : IsHere act place ⊎ StandsInside scope act place → StandsAt scope (One act) place
        there (inl is_here) = (scope, One act, here, is_here.0, is_here.1)
        there (inr inside) = (inside.0, inside.1, in_one inside.2, inside.3, inside.4)

        back : StandsAt scope (One act) place → IsHere act place ⊎ StandsInside scope act place
        back (inner, term, here, at_place, passes) = inl (at_place, passes)
        back (inner, term, in_one stands, at_place, passes) = inr (inner, term, stands, at_place, passes)
    reflects_at scope (Then act rest) place = same_fact there back (reflects_or (reflects_or (reflects_here act place) (reflects_inside scope act place)) (reflects_at (act ∷ scope) rest place))
      where
        there : (IsHere act place ⊎ StandsInside scope act place) ⊎ StandsAt (act ∷ scope) rest place → StandsAt scope (Then act rest) place
        there (inl (inl is_here)) = (scope, Then act rest, here, is_here.0, is_here.1)
        there (inl (inr inside)) = (inside.0, inside.1, in_then inside.2, inside.3, inside.4)
        there (inr after) = (after.0, after.1, after_then after.2, after.3, after.4)

        back : StandsAt scope (Then act rest) place → (IsHere act place ⊎ StandsInside scope act place) ⊎ StandsAt (act ∷ scope) rest place
        back (inner, term, here, at_place, passes) = inl (inl (at_place, passes))
        back (inner, term, in_then stands, at_place, passes) = inl (inr (inner, term, stands, at_place, passes))
        back (inner, term, after_then stands, at_place, passes) = inr (inner, term, stands, at_place, passes)
    reflects_at scope (Both act rest) place = same_fact there back (reflects_or (reflects_or (reflects_here act place) (reflects_inside scope act place)) (reflects_at (act ∷ scope) rest place))
      where
        there : (IsHere act place ⊎ StandsInside scope act place) ⊎ StandsAt (act ∷ scope) rest place → StandsAt scope (Both act rest) place
        there (inl (inl is_here)) = (scope, Both act rest, here, is_here.0, is_here.1)
        there (inl (inr inside)) = (inside.0, inside.1, in_both inside.2, inside.3, inside.4)
        there (inr after) = (after.0, after.1, after_both after.2, after.3, after.4)

        back : StandsAt scope (Both act rest) place → (IsHere act place ⊎ StandsInside scope act place) ⊎ StandsAt (act ∷ scope) rest place
        back (inner, term, here, at_place, passes) = inl (inl (at_place, passes))
        back (inner, term, in_both stands, at_place, passes) = inl (inr (inner, term, stands, at_place, passes))
        back (inner, term, after_both stands, at_place, passes) = inr (inner, term, stands, at_place, passes)

    reflects_inside : (scope : List Act) (act : Act) (place : ℕ) → Reflects (StandsInside scope act place) (passes_inside test act place)
    reflects_inside scope (If p condition first second valued) place = same_fact there back (reflects_or (reflects_at scope first place) (reflects_at scope second place))
      where
        there : StandsAt scope first place ⊎ StandsAt scope second place → StandsInside scope (If p condition first second valued) place
        there (inl in_first) = (in_first.0, in_first.1, in_yes in_first.2, in_first.3, in_first.4)
        there (inr in_second) = (in_second.0, in_second.1, in_no in_second.2, in_second.3, in_second.4)

        back : StandsInside scope (If p condition first second valued) place → StandsAt scope first place ⊎ StandsAt scope second place
        back (inner, term, in_yes stands, at_place, passes) = inl (inner, term, stands, at_place, passes)
        back (inner, term, in_no stands, at_place, passes) = inr (inner, term, stands, at_place, passes)
    reflects_inside scope (When p condition first) place = same_fact (λ inside. (inside.0, inside.1, in_when inside.2, inside.3, inside.4)) back (reflects_at scope first place)
      where
        back : StandsInside scope (When p condition first) place → StandsAt scope first place
        back (inner, term, in_when stands, at_place, passes) = (inner, term, stands, at_place, passes)
    reflects_inside scope (Block p whole) place = same_fact (λ inside. (inside.0, inside.1, in_block inside.2, inside.3, inside.4)) back (reflects_at scope whole place)
      where
        back : StandsInside scope (Block p whole) place → StandsAt scope whole place
        back (inner, term, in_block stands, at_place, passes) = (inner, term, stands, at_place, passes)
    reflects_inside scope (Cycle p count) place = reflects_none (λ inside. elim (inside.2) [ ])
    reflects_inside scope (Set p register value) place = reflects_none (λ inside. elim (inside.2) [ ])
    reflects_inside scope (Send p port value) place = reflects_none (λ inside. elim (inside.2) [ ])
    reflects_inside scope (Recv p port) place = reflects_none (λ inside. elim (inside.2) [ ])
    reflects_inside scope (Wait p variable) place = reflects_none (λ inside. elim (inside.2) [ ])
    reflects_inside scope (Pure p value) place = reflects_none (λ inside. elim (inside.2) [ ])
    reflects_inside scope (Nothing p) place = reflects_none (λ inside. elim (inside.2) [ ])

-- The ends of the tail that are read off a body are those of the body.
--
-- In a numbered term the site alone tells in which part an act stands, so the ends that are read off a term are, at the sites of
-- a part, those that are read off the part. By induction over terms that part is right.
use Rattle.std.proofs.Common.{◌≡◌, ℕ, ◌+◌, ◌<◌, ◌≤◌, arith, refl, ◌∙◌, Bool, true, false, List, [], ◌∷◌, ◌==◌}
use Rattle.std.proofs.lemmas.Bool.Decides.{nat_tests}
use Rattle.core_term.specs.Term.{Term, One, Then, Both, Act, Cycle, Set, Send, Recv, If, When, Block, Wait, Pure, Nothing, site, head}
use Rattle.core_term.specs.Numbering.{size, act_size, Numbered, NumberedAct}
use Rattle.core_term.proofs.code_tables.FirstSites.{head_site, act_site, size_positive, act_size_positive}
use Rattle.run_laws.proofs.turn_points.Live.{pick_lt, pick_ge, pick_eq, pick_ne}
use Rattle.turn_machine.specs.TailEnds.{TailEnds, AreTailEnds, AreTailEndsIn, is_tail_act, is_tail_act_in, is_tail_term, is_tail_term_in, tail_ends}

same_site : (place : ℕ) → (place == place) ≡ true
same_site place = grind (arith, nat_tests)

other_site : (place other : ℕ) → (place ≡ other → ⊥) → (place == other) ≡ false
other_site place other differ = by_test (place == other) refl
  where
    by_test : (test : Bool) → (place == other) ≡ test → (place == other) ≡ false
    by_test true passes = absurd (differ (grind (arith, nat_tests)))
    by_test false fails = fails

module _ (ends : TailEnds) where
  -- the ends are those that are read off a part, at its sites
  pub record AreRead (low high : ℕ) (act term : ℕ → Bool) : Type 0 where
    pub act_is : (place : ℕ) → low ≤ place → place < high → ends.act place ≡ act place
    pub term_is : (place : ℕ) → low ≤ place → place < high → ends.term place ≡ term place

  -- and so off a part of the part
  of_part : {low high : ℕ} {act term : ℕ → Bool} (from to : ℕ) (inner_act inner_term : ℕ → Bool) → AreRead low high act term → low ≤ from → to ≤ high
      → ((place : ℕ) → from ≤ place → place < to → act place ≡ inner_act place) → ((place : ℕ) → from ≤ place → place < to → term place ≡ inner_term place) → AreRead from to inner_act inner_term
  of_part from to inner_act inner_term are_read above below same_act same_term = record {
    act_is = λ place after before. are_read.act_is place (omega arith) (omega arith) ∙ same_act place after before;
    term_is = λ place after before. are_read.term_is place (omega arith) (omega arith) ∙ same_term place after before;
  }

  mutual
    pub are_tail_ends : (acts : List Act) (low : ℕ) (term : Term) → Numbered acts low term → AreRead low (low + size term) (is_tail_act term) (is_tail_term term) → AreTailEnds ends term
    are_tail_ends acts low (One act) numbered are_read =
        let at_low : site act ≡ low = act_site acts low act numbered in
        let positive : 0 < act_size act = act_size_positive act in (
          are_read.term_is (site act) (omega arith) (omega arith) ∙ pick_eq (site act) (site act) _ _ refl,
          are_read.act_is (site act) (omega arith) (omega arith) ∙ pick_eq (site act) (site act) _ _ refl,
          are_tail_ends_in acts low act numbered (of_part (low + 1) (low + act_size act) (is_tail_act_in act) (is_tail_term_in act) are_read (omega arith) (omega arith)
              (λ place after before. pick_ne place (site act) _ _ (λ same. omega arith)) (λ place after before. pick_ne place (site act) _ _ (λ same. omega arith))),
        )
    are_tail_ends acts low (Then act rest) numbered are_read =
        let at_low : site act ≡ low = act_site acts low act numbered.0 in
        let rest_at : site (head rest) ≡ low + act_size act = head_site (act ∷ acts) (low + act_size act) rest numbered.1 in
        let positive : 0 < act_size act = act_size_positive act in
        let rest_positive : 0 < size rest = size_positive rest in (
          are_read.term_is (site act) (omega arith) (omega arith) ∙ (pick_lt (site act) (site (head rest)) _ _ (omega arith) ∙ same_site (site act)),
          are_read.act_is (site act) (omega arith) (omega arith) ∙ pick_lt (site act) (site (head rest)) _ _ (omega arith),
          (λ place after before. (
            are_read.act_is place (omega arith) (omega arith) ∙ pick_lt place (site (head rest)) _ _ (omega arith),
            are_read.term_is place (omega arith) (omega arith) ∙ (pick_lt place (site (head rest)) _ _ (omega arith) ∙ other_site place (site act) (λ same. omega arith)),
          )),
          are_tail_ends (act ∷ acts) (low + act_size act) rest numbered.1 (of_part (low + act_size act) (low + act_size act + size rest) (is_tail_act rest) (is_tail_term rest) are_read (omega arith) (omega arith)
              (λ place after before. pick_ge place (site (head rest)) _ _ (omega arith)) (λ place after before. pick_ge place (site (head rest)) _ _ (omega arith))),
        )
    are_tail_ends acts low (Both act rest) numbered are_read =
        let at_low : site act ≡ low = act_site acts low act numbered.0 in
        let rest_at : site (head rest) ≡ low + act_size act = head_site (act ∷ acts) (low + act_size act) rest numbered.1 in
        let positive : 0 < act_size act = act_size_positive act in
        let rest_positive : 0 < size rest = size_positive rest in (
          are_read.term_is (site act) (omega arith) (omega arith) ∙ (pick_lt (site act) (site (head rest)) _ _ (omega arith) ∙ pick_eq (site act) (site act) _ _ refl),
          are_read.act_is (site act) (omega arith) (omega arith) ∙ (pick_lt (site act) (site (head rest)) _ _ (omega arith) ∙ pick_eq (site act) (site act) _ _ refl),
          are_tail_ends_in acts low act numbered.0 (of_part (low + 1) (low + act_size act) (is_tail_act_in act) (is_tail_term_in act) are_read (omega arith) (omega arith)
              (λ place after before. pick_lt place (site (head rest)) _ _ (omega arith) ∙ pick_ne place (site act) _ _ (λ same. omega arith))
              (λ place after before. pick_lt place (site (head rest)) _ _ (omega arith) ∙ pick_ne place (site act) _ _ (λ same. omega arith))),
          are_tail_ends (act ∷ acts) (low + act_size act) rest numbered.1 (of_part (low + act_size act) (low + act_size act + size rest) (is_tail_act rest) (is_tail_term rest) are_read (omega arith) (omega arith)
              (λ place after before. pick_ge place (site (head rest)) _ _ (omega arith)) (λ place after before. pick_ge place (site (head rest)) _ _ (omega arith))),
        )

    are_tail_ends_in : (acts : List Act) (low : ℕ) (act : Act) → NumberedAct acts low act → AreRead (low + 1) (low + act_size act) (is_tail_act_in act) (is_tail_term_in act) → AreTailEndsIn ends act
    are_tail_ends_in acts low (If p condition first second valued) numbered are_read =
        let second_at : site (head second) ≡ low + (1 + size first) = head_site acts (low + (1 + size first)) second numbered.2 in (
          are_tail_ends acts (low + 1) first numbered.1 (of_part (low + 1) (low + 1 + size first) (is_tail_act first) (is_tail_term first) are_read (omega arith) (omega arith)
              (λ place after before. pick_lt place (site (head second)) _ _ (omega arith)) (λ place after before. pick_lt place (site (head second)) _ _ (omega arith))),
          are_tail_ends acts (low + (1 + size first)) second numbered.2 (of_part (low + (1 + size first)) (low + (1 + size first) + size second) (is_tail_act second) (is_tail_term second) are_read (omega arith) (omega arith)
              (λ place after before. pick_ge place (site (head second)) _ _ (omega arith)) (λ place after before. pick_ge place (site (head second)) _ _ (omega arith))),
        )
    are_tail_ends_in acts low (Block p inner) numbered are_read =
        are_tail_ends acts (low + 1) inner numbered.1 (of_part (low + 1) (low + 1 + size inner) (is_tail_act inner) (is_tail_term inner) are_read (omega arith) (omega arith) (λ place after before. refl) (λ place after before. refl))
    are_tail_ends_in acts low (Cycle p count) numbered are_read = tt
    are_tail_ends_in acts low (Set p register value) numbered are_read = tt
    are_tail_ends_in acts low (Send p port value) numbered are_read = tt
    are_tail_ends_in acts low (Recv p port) numbered are_read = tt
    are_tail_ends_in acts low (When p condition first) numbered are_read = tt
    are_tail_ends_in acts low (Wait p variable) numbered are_read = tt
    are_tail_ends_in acts low (Pure p value) numbered are_read = tt
    are_tail_ends_in acts low (Nothing p) numbered are_read = tt

pub tail_ends_are : (body : Term) → Numbered [] 0 body → AreTailEnds (tail_ends body) body
tail_ends_are body numbered = are_tail_ends (tail_ends body) [] 0 body numbered (record { act_is = λ place after before. refl; term_is = λ place after before. refl })

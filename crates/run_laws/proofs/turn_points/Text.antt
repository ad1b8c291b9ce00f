-- At each site of a numbered body stands one term: two terms of a body whose heads have one site are the same.
--
-- By induction over both places: the number of a site tells at each step of the way in which part of the term it stands.
use Rattle.std.proofs.Common.{◌≡◌, ℕ, ◌+◌, ◌<◌, ◌≤◌, arith, refl, sym, ◌∙◌, subst, List, if◌then◌else◌, ◌==◌, nat_lt, Option, Some, None}
use Rattle.core_term.specs.Term.{Term, One, Then, Both, Act, If, When, Block, site, head}
use Rattle.core_term.specs.Numbering.{size, act_size, Numbered, NumberedAct}
use Rattle.core_term.specs.Stands.{Stands, StandsIn, here, in_one, in_then, after_then, in_both, after_both, in_yes, in_no, in_when, in_block}
use Rattle.core_term.proofs.code_tables.FirstSites.{head_site, act_site, size_positive, act_size_positive}
use Rattle.run_laws.proofs.turn_points.Live.{pick_lt, pick_ge, pick_eq, pick_ne}

mutual
  term_at : Term → ℕ → Option Term
  term_at (One a) q = if q == site a then Some (One a) else within a q
  term_at (Then a t) q = if nat_lt q (site (head t)) then (if q == site a then Some (Then a t) else within a q) else term_at t q
  term_at (Both a t) q = if nat_lt q (site (head t)) then (if q == site a then Some (Both a t) else within a q) else term_at t q

  within : Act → ℕ → Option Term
  within (If p e t u w) q = if nat_lt q (site (head u)) then term_at t q else term_at u q
  within (When p e t) q = term_at t q
  within (Block p t) q = term_at t q
  within a q = None

mutual
  pub stands_in : {vs ws : List Act} {t u : Term} → Stands vs t ws u → (low : ℕ) → Numbered vs low t → (low ≤ site (head u)) × (site (head u) < low + size t)
  stands_in {vs = vs} {t = t} here low n = let is_less : 0 < size t = size_positive t in let equal : site (head t) ≡ low = head_site vs low t n in (omega arith, omega arith)
  stands_in (in_one s) low n = let by_acts_in = acts_in s low n in (omega (arith, by_acts_in.0), omega (arith, by_acts_in.1))
  stands_in (in_then s) low n = let next_by_acts_in = acts_in s low n.0 in (omega (arith, next_by_acts_in.0), omega (arith, next_by_acts_in.1))
  stands_in (in_both s) low n = let last_by_acts_in = acts_in s low n.0 in (omega (arith, last_by_acts_in.0), omega (arith, last_by_acts_in.1))
  stands_in (after_then {a = a} s) low n = let by_stands_in = stands_in s (low + act_size a) n.1 in (omega (arith, by_stands_in.0), omega (arith, by_stands_in.1))
  stands_in (after_both {a = a} s) low n = let next_by_stands_in = stands_in s (low + act_size a) n.1 in (omega (arith, next_by_stands_in.0), omega (arith, next_by_stands_in.1))

  pub acts_in : {vs ws : List Act} {a : Act} {u : Term} → StandsIn vs a ws u → (low : ℕ) → NumberedAct vs low a → (low + 1 ≤ site (head u)) × (site (head u) < low + act_size a)
  acts_in (in_yes s) low n = let last_by_stands_in = stands_in s (low + 1) n.1 in (omega (arith, last_by_stands_in.0), omega (arith, last_by_stands_in.1))
  acts_in (in_no {t = t} s) low n = let other_by_stands_in = stands_in s (low + (1 + size t)) n.2 in (omega (arith, other_by_stands_in.0), omega (arith, other_by_stands_in.1))
  acts_in (in_when s) low n = let more_by_stands_in = stands_in s (low + 1) n.1 in (omega (arith, more_by_stands_in.0), omega (arith, more_by_stands_in.1))
  acts_in (in_block s) low n = let further_by_stands_in = stands_in s (low + 1) n.1 in (omega (arith, further_by_stands_in.0), omega (arith, further_by_stands_in.1))

at_head : (vs : List Act) (low : ℕ) (t : Term) → Numbered vs low t → term_at t (site (head t)) ≡ Some t
unfolding term_at
at_head vs low (One a) n = pick_eq (site a) (site a) _ _ refl
at_head vs low (Then a t) n =
    let is_less : 0 < act_size a = act_size_positive a in
    let equal : site a ≡ low = act_site vs low a n.0 in
    let next_equal : site (head t) ≡ low + act_size a = head_site _ _ t n.1 in
    pick_lt (site a) (site (head t)) _ _ (omega arith) ∙ pick_eq (site a) (site a) _ _ refl
at_head vs low (Both a t) n =
    let next_is_less : 0 < act_size a = act_size_positive a in
    let last_equal : site a ≡ low = act_site vs low a n.0 in
    let other_equal : site (head t) ≡ low + act_size a = head_site _ _ t n.1 in
    pick_lt (site a) (site (head t)) _ _ (omega arith) ∙ pick_eq (site a) (site a) _ _ refl

mutual
  unfolding term_at within

  found_at : {vs ws : List Act} {t u : Term} → Stands vs t ws u → (low : ℕ) → Numbered vs low t → term_at t (site (head u)) ≡ Some u
  found_at {vs = vs} {t = t} here low n = at_head vs low t n
  found_at {vs = vs} {u = u} (in_one {a = a} s) low n =
      let more_equal : site a ≡ low = act_site vs low a n in
      let by_acts_in = acts_in s low n in
      pick_ne (site (head u)) (site a) _ _ (λ e. omega (arith, by_acts_in.0)) ∙ found_in s low n
  found_at {vs = vs} {u = u} (in_then {a = a} {t = t} s) low n =
      let further_equal : site a ≡ low = act_site vs low a n.0 in
      let second_equal : site (head t) ≡ low + act_size a = head_site _ _ t n.1 in
      let next_by_acts_in = acts_in s low n.0 in
      pick_lt (site (head u)) (site (head t)) _ _ (omega (arith, next_by_acts_in.1)) ∙ (pick_ne (site (head u)) (site a) _ _ (λ e. omega (arith, next_by_acts_in.0)) ∙ found_in s low n.0)
  found_at {vs = vs} {u = u} (in_both {a = a} {t = t} s) low n =
      let equal : site a ≡ low = act_site vs low a n.0 in
      let next_equal : site (head t) ≡ low + act_size a = head_site _ _ t n.1 in
      let last_by_acts_in = acts_in s low n.0 in
      pick_lt (site (head u)) (site (head t)) _ _ (omega (arith, last_by_acts_in.1)) ∙ (pick_ne (site (head u)) (site a) _ _ (λ e. omega (arith, last_by_acts_in.0)) ∙ found_in s low n.0)
  found_at {u = u} (after_then {a = a} {t = t} s) low n =
      let last_equal : site (head t) ≡ low + act_size a = head_site _ _ t n.1 in
      let by_stands_in = stands_in s (low + act_size a) n.1 in
      pick_ge (site (head u)) (site (head t)) _ _ (omega (arith, by_stands_in.0)) ∙ found_at s (low + act_size a) n.1
  found_at {u = u} (after_both {a = a} {t = t} s) low n =
      let other_equal : site (head t) ≡ low + act_size a = head_site _ _ t n.1 in
      let next_by_stands_in = stands_in s (low + act_size a) n.1 in
      pick_ge (site (head u)) (site (head t)) _ _ (omega (arith, next_by_stands_in.0)) ∙ found_at s (low + act_size a) n.1

  found_in : {vs ws : List Act} {a : Act} {u : Term} → StandsIn vs a ws u → (low : ℕ) → NumberedAct vs low a → within a (site (head u)) ≡ Some u
  found_in {u = u} (in_yes {t = t} {f = f} s) low n =
      let more_equal : site (head f) ≡ low + (1 + size t) = head_site _ _ f n.2 in
      let last_by_stands_in = stands_in s (low + 1) n.1 in
      pick_lt (site (head u)) (site (head f)) _ _ (omega (arith, last_by_stands_in.1)) ∙ found_at s (low + 1) n.1
  found_in {u = u} (in_no {t = t} {f = f} s) low n =
      let equal : site (head f) ≡ low + (1 + size t) = head_site _ _ f n.2 in
      let other_by_stands_in = stands_in s (low + (1 + size t)) n.2 in
      pick_ge (site (head u)) (site (head f)) _ _ (omega (arith, other_by_stands_in.0)) ∙ found_at s (low + (1 + size t)) n.2
  found_in (in_when s) low n = found_at s (low + 1) n.1
  found_in (in_block s) low n = found_at s (low + 1) n.1

-- one term stands at a site
pub one_term : {vs ws vs' : List Act} {t u v : Term} → Stands vs t ws u → Stands vs t vs' v → (low : ℕ) → Numbered vs low t → site (head u) ≡ site (head v) → u ≡ v
one_term {t = t} {u = u} {v = v} s s' low n e =
    let by_found_at = found_at s low n in
    let next_by_found_at = found_at s' low n in
    let next_equal : term_at t (site (head v)) ≡ Some u = subst (λ q. term_at t q ≡ Some u) e by_found_at in
    some_is (sym next_equal ∙ next_by_found_at)
  where
    some_is : {a b : Term} → Some a ≡ Some b → a ≡ b
    some_is k = cc

-- Each point of the text has the site of an act.
use Rattle.std.proofs.Common.{◌≡◌, ℕ, ◌+◌, ◌<◌, ◌≤◌, inl, inr, arith, ap, List, [], ◌∷◌}
use Rattle.order_rules.specs.Form.{Form, Start, Same, After, Sync, Join, Side, Merge}
use Rattle.order_rules.specs.Standing.{IsPoint}
use Rattle.core_term.specs.Term.{Term, One, Then, Both, Act, Cycle, Set, Send, Recv, If, When, Block, Wait, Pure, Nothing, site, head}
use Rattle.core_term.specs.Numbering.{size, act_size, Numbered, NumberedAct}
use Rattle.core_term.specs.Points.{Spot, forms, act_forms}
use Rattle.core_term.specs.Order.{Point, IsFormed, HasForm, spot_site}
use Rattle.run_laws.proofs.turn_points.Formed.{Every, every_append, at_form}
use Rattle.core_term.proofs.code_tables.FirstSites.{head_site, act_site, size_positive}

module _ (high : ℕ) where
  mutual
    small : (vs : List Act) (low : ℕ) (t : Term) → Numbered vs low t → low + size t ≤ high → Every (λ f. spot_site f.spot < high) (forms t)
    small vs low (One a) numbered fits =
        let known = act_site vs low a numbered in let positive = size_positive (One a) in (omega (arith, known, positive, fits), (omega (arith, known, positive, fits), small_act vs low a numbered fits))
    small vs low (Then a t) numbered fits =
        let known = act_site vs low a numbered.0 in let seen = head_site (a ∷ vs) (low + act_size a) t numbered.1 in let positive = size_positive t in
        (omega (arith, known, positive, fits), (omega (arith, seen, positive, fits), (omega (arith, known, positive, fits), every_append (λ f. spot_site f.spot < high) (act_forms a) (forms t) (small_act vs low a numbered.0 (omega (arith, positive, fits))) (small (a ∷ vs) (low + act_size a) t numbered.1 (omega (arith, fits))))))
    small vs low (Both a t) numbered fits =
        let known = act_site vs low a numbered.0 in let seen = head_site (a ∷ vs) (low + act_size a) t numbered.1 in let positive = size_positive t in
        (omega (arith, known, positive, fits), (omega (arith, seen, positive, fits), (omega (arith, known, positive, fits), every_append (λ f. spot_site f.spot < high) (act_forms a) (forms t) (small_act vs low a numbered.0 (omega (arith, positive, fits))) (small (a ∷ vs) (low + act_size a) t numbered.1 (omega (arith, fits))))))

    small_act : (vs : List Act) (low : ℕ) (a : Act) → NumberedAct vs low a → low + act_size a ≤ high → Every (λ f. spot_site f.spot < high) (act_forms a)
    small_act vs low (Cycle p n) numbered fits = (omega (arith, numbered, fits), tt)
    small_act vs low (Recv p m) numbered fits = (omega (arith, numbered, fits), tt)
    small_act vs low (Nothing p) numbered fits = (omega (arith, numbered, fits), tt)
    small_act vs low (Set p r e) numbered fits = (omega (arith, numbered.0, fits), tt)
    small_act vs low (Send p m e) numbered fits = (omega (arith, numbered.0, fits), tt)
    small_act vs low (Wait p y) numbered fits = (omega (arith, numbered.0, fits), tt)
    small_act vs low (Pure p e) numbered fits = (omega (arith, numbered.0, fits), tt)
    small_act vs low (If p e t u w) numbered fits =
        let seen = head_site vs (low + 1) t numbered.1 in let known = head_site vs (low + (1 + size t)) u numbered.2 in let first_positive = size_positive t in let second_positive = size_positive u in
        (omega (arith, seen, first_positive, fits), (omega (arith, known, second_positive, fits), (omega (arith, numbered.0, fits), every_append (λ f. spot_site f.spot < high) (forms t) (forms u) (small vs (low + 1) t numbered.1 (omega (arith, fits))) (small vs (low + (1 + size t)) u numbered.2 (omega (arith, fits))))))
    small_act vs low (When p e t) numbered fits =
        let seen = head_site vs (low + 1) t numbered.1 in let first_positive = size_positive t in
        (omega (arith, seen, first_positive, fits), (omega (arith, numbered.0, fits), (omega (arith, numbered.0, fits), small vs (low + 1) t numbered.1 (omega (arith, fits)))))
    small_act vs low (Block p t) numbered fits =
        let seen = head_site vs (low + 1) t numbered.1 in let first_positive = size_positive t in
        (omega (arith, seen, first_positive, fits), (omega (arith, numbered.0, fits), small vs (low + 1) t numbered.1 (omega (arith, fits))))

module _ (body : Term) (numbered : Numbered [] 0 body) where
  formed_small : (b : Spot) (f : Form Spot) → IsFormed (forms body) b f → spot_site b < size body
  formed_small b f formed = at_form (λ f. spot_site f.spot < size body) (forms body) (small (size body) [] 0 body numbered (omega arith)) b f formed

  first_small : (b : Point) → spot_site b.spot ≡ site (head body) → spot_site b.spot < size body
  first_small b same = let known = head_site [] 0 body numbered in let positive = size_positive body in omega (arith, known, positive, same)

  pub point_small : (b : Point) → IsPoint Point (HasForm body) b → spot_site b.spot < size body
  point_small b point = go point.0 point.1
    where
      go : (f : Form Point) → HasForm body b f → spot_site b.spot < size body
      go Start has = first_small b (ap spot_site has.1)
      go (Same c) (inl has) = formed_small b.spot _ has.1
      go (Same c) (inr has) = first_small b (ap spot_site has.1)
      go (After n c) has = formed_small b.spot _ has.1
      go (Sync c) has = formed_small b.spot _ has.1
      go (Join c d) has = formed_small b.spot _ has.2
      go (Side c) has = formed_small b.spot _ has.1
      go (Merge c d) has = formed_small b.spot _ has.2

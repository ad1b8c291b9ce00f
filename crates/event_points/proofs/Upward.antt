-- What goes over to each point of a term from the points that its form names, from the first point and the ends of the acts in
-- scope on, holds of every point.
use Rattle.std.proofs.Common.{ℕ, ◌+◌, inl, inr, sym, subst, refl, List, [], ◌∷◌, ◌++◌}
use Rattle.order_rules.specs.Form.{Form}
use Rattle.order_rules.specs.Standing.{AllOf}
use Rattle.core_term.specs.Term.{Term, One, Then, Both, Act, Cycle, Set, Send, Recv, If, When, Block, Wait, Pure, Nothing, site}
use Rattle.core_term.specs.Points.{Spot, Begin, End, Formed, forms, act_forms}
use Rattle.core_term.specs.Order.{IsFormed}
use Rattle.core_term.specs.Numbering.{OneOf, size, act_size, Numbered, NumberedAct}
use Rattle.event_points.specs.Owned.{begin_of}
use Rattle.event_points.proofs.Along.{All, all_append, act_end, term_end}

module _ (C : Spot → Type 0) where
  abbrev pub AllUp : List Formed → Type 0
  AllUp [] = Unit {0}
  AllUp (g ∷ gs) = (AllOf C g.form → C g.spot) × AllUp gs

  pub all_up : (gs : List Formed) → ((b : Spot) (f : Form Spot) → IsFormed gs b f → AllOf C f → C b) → AllUp gs
  all_up [] k = tt
  all_up (g ∷ gs) k = (k g.spot g.form (inl refl), all_up gs (λ b f i. k b f (inr i)))

  left : (gs hs : List Formed) → AllUp (gs ++ hs) → AllUp gs
  left [] hs k = tt
  left (g ∷ gs) hs k = (k.0, left gs hs k.1)

  right : (gs hs : List Formed) → AllUp (gs ++ hs) → AllUp hs
  right [] hs k = k
  right (g ∷ gs) hs k = right gs hs k.1

  abbrev Known : List Act → Type 0
  Known vs = (y : ℕ) → OneOf vs y → C (End y)

  more : (vs : List Act) (a : Act) → Known vs → C (End (site a)) → Known (a ∷ vs)
  more vs a s k y (inl e) = let P : ℕ → Type 0 = λ z. C (End z) in subst P (sym e) k
  more vs a s k y (inr i) = s y i

  mutual
    pub upward : (vs : List Act) (low : ℕ) (t : Term) → Numbered vs low t → Known vs → AllUp (forms t) → C (begin_of t) → All C (forms t)
    upward vs low (One a) n s k b = let x = k.0 b in let y = act_upward vs low a n s k.1.1 x in (x, (k.1.0 (act_end C a y), y))
    upward vs low (Then a t) n s k b =
        let x = k.0 b in
        let y = act_upward vs low a n.0 s (left (act_forms a) (forms t) k.1.1.1) x in
        let e = act_end C a y in
        let z = k.1.0 e in
        let w = upward (a ∷ vs) (low + act_size a) t n.1 (more vs a s e) (right (act_forms a) (forms t) k.1.1.1) z in
        (x, (z, (k.1.1.0 (term_end C t w), all_append C (act_forms a) (forms t) y w)))
    upward vs low (Both a t) n s k b =
        let x = k.0 b in
        let y = act_upward vs low a n.0 s (left (act_forms a) (forms t) k.1.1.1) x in
        let e = act_end C a y in
        let z = k.1.0 b in
        let w = upward (a ∷ vs) (low + act_size a) t n.1 (more vs a s e) (right (act_forms a) (forms t) k.1.1.1) z in
        (x, (z, (k.1.1.0 (e, term_end C t w), all_append C (act_forms a) (forms t) y w)))

    act_upward : (vs : List Act) (low : ℕ) (a : Act) → NumberedAct vs low a → Known vs → AllUp (act_forms a) → C (Begin (site a)) → All C (act_forms a)
    act_upward vs low (Cycle p c) n s k b = (k.0 b, tt)
    act_upward vs low (Set p r e) n s k b = (k.0 b, tt)
    act_upward vs low (Send p m e) n s k b = (k.0 b, tt)
    act_upward vs low (Recv p m) n s k b = (k.0 b, tt)
    act_upward vs low (If p e t u w) n s k b =
        let x = k.0 b in
        let y = k.1.0 b in
        let v = upward vs (low + 1) t n.1 s (left (forms t) (forms u) k.1.1.1) x in
        let z = upward vs (low + (1 + size t)) u n.2 s (right (forms t) (forms u) k.1.1.1) y in
        (x, (y, (k.1.1.0 (term_end C t v, term_end C u z), all_append C (forms t) (forms u) v z)))
    act_upward vs low (When p e t) n s k b =
        let x = k.0 b in
        let y = k.1.0 b in
        let v = upward vs (low + 1) t n.1 s k.1.1.1 x in
        (x, (y, (k.1.1.0 (term_end C t v, y), v)))
    act_upward vs low (Block p t) n s k b = let x = k.0 b in let v = upward vs (low + 1) t n.1 s k.1.1 x in (x, (k.1.0 (term_end C t v), v))
    act_upward vs low (Wait p y) n s k b = (k.0 (b, s y n.1), tt)
    act_upward vs low (Pure p e) n s k b = (k.0 b, tt)
    act_upward vs low (Nothing p) n s k b = (k.0 b, tt)

-- What holds of the first point of a term, and goes over from each point to those of the form Same that name it, holds of every
-- point of the term where it holds of all points of other forms.
use Rattle.std.proofs.Common.{inl, inr, subst, List, [], ◌∷◌, ◌++◌}
use Rattle.order_rules.specs.Form.{Form, Same}
use Rattle.core_term.specs.Term.{Term, One, Then, Both, Act, Cycle, Set, Send, Recv, If, When, Block, Wait, Pure, Nothing, site, head}
use Rattle.core_term.specs.Points.{Spot, Begin, End, Formed, forms, act_forms}
use Rattle.core_term.specs.Order.{IsFormed}
use Rattle.event_points.specs.Owned.{begin_of, end_of}

module _ (C : Spot → Type 0) where
  abbrev pub Goes : Spot → Form Spot → Type 0
  Goes b (Same c) = C c → C b
  Goes b f = C b

  abbrev pub AllGo : List Formed → Type 0
  AllGo [] = Unit {0}
  AllGo (g ∷ gs) = Goes g.spot g.form × AllGo gs

  abbrev pub All : List Formed → Type 0
  All [] = Unit {0}
  All (g ∷ gs) = C g.spot × All gs

  pub go_left : (gs hs : List Formed) → AllGo (gs ++ hs) → AllGo gs
  go_left [] hs k = tt
  go_left (g ∷ gs) hs k = (k.0, go_left gs hs k.1)

  pub go_right : (gs hs : List Formed) → AllGo (gs ++ hs) → AllGo hs
  go_right [] hs k = k
  go_right (g ∷ gs) hs k = go_right gs hs k.1

  pub all_append : (gs hs : List Formed) → All gs → All hs → All (gs ++ hs)
  all_append [] hs k l = l
  all_append (g ∷ gs) hs k l = (k.0, all_append gs hs k.1 l)

  pub all_left : (gs hs : List Formed) → All (gs ++ hs) → All gs
  all_left [] hs k = tt
  all_left (g ∷ gs) hs k = (k.0, all_left gs hs k.1)

  pub all_right : (gs hs : List Formed) → All (gs ++ hs) → All hs
  all_right [] hs k = k
  all_right (g ∷ gs) hs k = all_right gs hs k.1

  pub all_at : (gs : List Formed) → All gs → (b : Spot) (f : Form Spot) → IsFormed gs b f → C b
  all_at [] k b f i = elim i [ ]
  all_at (g ∷ gs) k b f (inl e) = let P : Formed → Type 0 = λ z. C z.spot in subst P e k.0
  all_at (g ∷ gs) k b f (inr i) = all_at gs k.1 b f i

  -- the ends of an act and of a term have forms
  pub act_end : (a : Act) → All (act_forms a) → C (End (site a))
  act_end (Cycle p n) k = k.0
  act_end (Set p r e) k = k.0
  act_end (Send p m e) k = k.0
  act_end (Recv p m) k = k.0
  act_end (If p e t u w) k = k.1.1.0
  act_end (When p e t) k = k.1.1.0
  act_end (Block p t) k = k.1.0
  act_end (Wait p y) k = k.0
  act_end (Pure p e) k = k.0
  act_end (Nothing p) k = k.0

  pub term_end : (t : Term) → All (forms t) → C (end_of t)
  term_end (One a) k = k.1.0
  term_end (Then a t) k = k.1.1.0
  term_end (Both a t) k = k.1.1.0

  pub term_act_end : (t : Term) → All (forms t) → C (End (site (head t)))
  term_act_end (One a) k = act_end a k.1.1
  term_act_end (Then a t) k = act_end a (all_left (act_forms a) (forms t) k.1.1.1)
  term_act_end (Both a t) k = act_end a (all_left (act_forms a) (forms t) k.1.1.1)

  mutual
    pub all : (t : Term) → AllGo (forms t) → C (begin_of t) → All (forms t)
    all (One a) k b = let x = k.0 b in let y = all_act a k.1.1 x in (x, (k.1.0 (act_end a y), y))
    all (Then a t) k b =
        let x = k.0 b in
        let y = all_act a (go_left (act_forms a) (forms t) k.1.1.1) x in
        let z = k.1.0 (act_end a y) in
        let w = all t (go_right (act_forms a) (forms t) k.1.1.1) z in
        (x, (z, (k.1.1.0 (term_end t w), all_append (act_forms a) (forms t) y w)))
    all (Both a t) k b =
        let x = k.0 b in
        let y = all_act a (go_left (act_forms a) (forms t) k.1.1.1) x in
        let z = k.1.0 b in
        let w = all t (go_right (act_forms a) (forms t) k.1.1.1) z in
        (x, (z, (k.1.1.0, all_append (act_forms a) (forms t) y w)))

    pub all_act : (a : Act) → AllGo (act_forms a) → C (Begin (site a)) → All (act_forms a)
    all_act (Cycle p n) k b = k
    all_act (Set p r e) k b = k
    all_act (Send p m e) k b = k
    all_act (Recv p m) k b = k
    all_act (If p e t u w) k b = (k.0, (k.1.0, (k.1.1.0, all_append (forms t) (forms u) (all t (go_left (forms t) (forms u) k.1.1.1) k.0) (all u (go_right (forms t) (forms u) k.1.1.1) k.1.0))))
    all_act (When p e t) k b = (k.0, (k.1.0, (k.1.1.0, all t k.1.1.1 k.0)))
    all_act (Block p t) k b = let x = k.0 b in let w = all t k.1.1 x in (x, (k.1.0 (term_end t w), w))
    all_act (Wait p y) k b = k
    all_act (Pure p e) k b = (k.0 b, tt)
    all_act (Nothing p) k b = (k.0 b, tt)

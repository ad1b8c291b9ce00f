-- No point of a term has the form Start, which the begin of the first turn alone has; and small facts on lists of forms.
use Rattle.std.proofs.Common.{ℕ, inl, inr, refl, subst, List, [], ◌∷◌, ◌++◌}
use Rattle.order_rules.specs.Form.{Form, Start, Same, After, Sync, Join, Side, Merge}
use Rattle.core_term.specs.Term.{Term, One, Then, Both, Act, Cycle, Set, Send, Recv, If, When, Block, Wait, Pure, Nothing}
use Rattle.core_term.specs.Points.{Spot, Formed, ◌is◌, forms, act_forms}
use Rattle.core_term.specs.Order.{IsFormed}
use Rattle.event_points.proofs.Steps.{Step, Steps}
use Rattle.event_points.proofs.Along.{All}

abbrev pub Proper : Form Spot → Type 0
Proper Start = ⊥
Proper (Same c) = Unit {0}
Proper (After n c) = Unit {0}
Proper (Sync c) = Unit {0}
Proper (Join c e) = Unit {0}
Proper (Side c) = Unit {0}
Proper (Merge c e) = Unit {0}

abbrev AllProper : List Formed → Type 0
AllProper [] = Unit {0}
AllProper (g ∷ gs) = Proper g.form × AllProper gs

append : (gs hs : List Formed) → AllProper gs → AllProper hs → AllProper (gs ++ hs)
append [] hs k l = l
append (g ∷ gs) hs k l = (k.0, append gs hs k.1 l)

mutual
  all_proper : (t : Term) → AllProper (forms t)
  all_proper (One a) = (tt, (tt, act_proper a))
  all_proper (Then a t) = (tt, (tt, (tt, append (act_forms a) (forms t) (act_proper a) (all_proper t))))
  all_proper (Both a t) = (tt, (tt, (tt, append (act_forms a) (forms t) (act_proper a) (all_proper t))))

  act_proper : (a : Act) → AllProper (act_forms a)
  act_proper (Cycle p n) = (tt, tt)
  act_proper (Set p r e) = (tt, tt)
  act_proper (Send p m e) = (tt, tt)
  act_proper (Recv p m) = (tt, tt)
  act_proper (If p e t u w) = (tt, (tt, (tt, append (forms t) (forms u) (all_proper t) (all_proper u))))
  act_proper (When p e t) = (tt, (tt, (tt, all_proper t)))
  act_proper (Block p t) = (tt, (tt, all_proper t))
  act_proper (Wait p y) = (tt, tt)
  act_proper (Pure p e) = (tt, tt)
  act_proper (Nothing p) = (tt, tt)

at : (gs : List Formed) → AllProper gs → (b : Spot) (f : Form Spot) → IsFormed gs b f → Proper f
at [] k b f i = elim i [ ]
at (g ∷ gs) k b f (inl e) = let P : Formed → Type 0 = λ z. Proper z.form in subst P e k.0
at (g ∷ gs) k b f (inr i) = at gs k.1 b f i

pub proper : (t : Term) (b : Spot) (f : Form Spot) → IsFormed (forms t) b f → Proper f
proper t b f i = at (forms t) (all_proper t) b f i

pub steps_at : (node : Spot → ℕ) (Own : ℕ → Formed → Type 0) (gs : List Formed) → Steps node Own gs → (b : Spot) (f : Form Spot) → IsFormed gs b f → Step node Own (b is f)
steps_at node Own [] s b f i = elim i [ ]
steps_at node Own (g ∷ gs) s b f (inl e) = subst (Step node Own) e s.0
steps_at node Own (g ∷ gs) s b f (inr i) = steps_at node Own gs s.1 b f i

pub all_of : (C : Spot → Type 0) (gs : List Formed) → ((b : Spot) (f : Form Spot) → IsFormed gs b f → C b) → All C gs
all_of C [] k = tt
all_of C (g ∷ gs) k = (k g.spot g.form (inl refl), all_of C gs (λ b f i. k b f (inr i)))

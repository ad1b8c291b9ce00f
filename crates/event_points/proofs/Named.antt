-- The points that the forms of a term name are points: of the term itself, its first one, or ends of acts in scope.
--
-- By induction over the term. A wait is the one act that names a point outside of its own term.
use Rattle.std.proofs.Common.{ℕ, ◌+◌, inl, inr, sym, subst, List, [], ◌∷◌, ◌++◌}
use Rattle.order_rules.specs.Form.{Form}
use Rattle.order_rules.specs.Standing.{AllOf}
use Rattle.core_term.specs.Term.{Term, One, Then, Both, Act, Cycle, Set, Send, Recv, If, When, Block, Wait, Pure, Nothing, site}
use Rattle.core_term.specs.Points.{Spot, Begin, End, Formed, forms, act_forms}
use Rattle.core_term.specs.Numbering.{OneOf, size, act_size, Numbered, NumberedAct}
use Rattle.core_term.specs.Order.{IsFormed}
use Rattle.event_points.specs.Owned.{begin_of}
use Rattle.event_points.proofs.Along.{All, all_left, all_right, act_end, term_end}

module _ (C : Spot → Type 0) where
  abbrev pub AllNamed : List Formed → Type 0
  AllNamed [] = Unit {0}
  AllNamed (g ∷ gs) = AllOf C g.form × AllNamed gs

  named_append : (gs hs : List Formed) → AllNamed gs → AllNamed hs → AllNamed (gs ++ hs)
  named_append [] hs k l = l
  named_append (g ∷ gs) hs k l = (k.0, named_append gs hs k.1 l)

  pub named_at : (gs : List Formed) → AllNamed gs → (b : Spot) (f : Form Spot) → IsFormed gs b f → AllOf C f
  named_at [] k b f i = elim i [ ]
  named_at (g ∷ gs) k b f (inl e) = let P : Formed → Type 0 = λ z. AllOf C z.form in subst P e k.0
  named_at (g ∷ gs) k b f (inr i) = named_at gs k.1 b f i

  abbrev Known : List Act → Type 0
  Known vs = (y : ℕ) → OneOf vs y → C (End y)

  more : (vs : List Act) (a : Act) → Known vs → C (End (site a)) → Known (a ∷ vs)
  more vs a s k y (inl e) = let P : ℕ → Type 0 = λ z. C (End z) in subst P (sym e) k
  more vs a s k y (inr i) = s y i

  mutual
    pub named : (vs : List Act) (low : ℕ) (t : Term) → Numbered vs low t → Known vs → C (begin_of t) → All C (forms t) → AllNamed (forms t)
    named vs low (One a) n s b k = (b, (act_end C a k.1.1, named_act vs low a n s k.0 k.1.1))
    named vs low (Then a t) n s b k =
        let x = all_left C (act_forms a) (forms t) k.1.1.1 in
        let y = all_right C (act_forms a) (forms t) k.1.1.1 in
        let e = act_end C a x in
        (b, (e, (term_end C t y, named_append (act_forms a) (forms t) (named_act vs low a n.0 s k.0 x) (named (a ∷ vs) (low + act_size a) t n.1 (more vs a s e) k.1.0 y))))
    named vs low (Both a t) n s b k =
        let x = all_left C (act_forms a) (forms t) k.1.1.1 in
        let y = all_right C (act_forms a) (forms t) k.1.1.1 in
        let e = act_end C a x in
        (b, (b, ((e, term_end C t y), named_append (act_forms a) (forms t) (named_act vs low a n.0 s k.0 x) (named (a ∷ vs) (low + act_size a) t n.1 (more vs a s e) k.1.0 y))))

    named_act : (vs : List Act) (low : ℕ) (a : Act) → NumberedAct vs low a → Known vs → C (Begin (site a)) → All C (act_forms a) → AllNamed (act_forms a)
    named_act vs low (Cycle p c) n s b k = (b, tt)
    named_act vs low (Set p r e) n s b k = (b, tt)
    named_act vs low (Send p m e) n s b k = (b, tt)
    named_act vs low (Recv p m) n s b k = (b, tt)
    named_act vs low (If p e t u w) n s b k =
        let x = all_left C (forms t) (forms u) k.1.1.1 in
        let y = all_right C (forms t) (forms u) k.1.1.1 in
        (b, (b, ((term_end C t x, term_end C u y), named_append (forms t) (forms u) (named vs (low + 1) t n.1 s k.0 x) (named vs (low + (1 + size t)) u n.2 s k.1.0 y))))
    named_act vs low (When p e t) n s b k = (b, (b, ((term_end C t k.1.1.1, k.1.0), named vs (low + 1) t n.1 s k.0 k.1.1.1)))
    named_act vs low (Block p t) n s b k = (b, (term_end C t k.1.1, named vs (low + 1) t n.1 s k.0 k.1.1))
    named_act vs low (Wait p y) n s b k = ((b, s y n.1), tt)
    named_act vs low (Pure p e) n s b k = (b, tt)
    named_act vs low (Nothing p) n s b k = (b, tt)

-- Each point of the form Side stands for a side of an `if`: it comes from the begin of the `if`, which its last arm names.
use Rattle.std.proofs.Common.{◌≡◌, ℕ, ◌+◌, ◌<◌, ◌≤◌, inl, inr, arith, refl, subst, Bool, true, false, List, [], ◌∷◌, ◌++◌}
use Rattle.order_rules.specs.Form.{Form, Start, Same, After, Sync, Join, Side, Merge}
use Rattle.core_term.specs.Term.{Term, One, Then, Both, Act, Cycle, Set, Send, Recv, If, When, Block, Wait, Pure, Nothing, head}
use Rattle.core_term.specs.Numbering.{size, act_size, Numbered, NumberedAct}
use Rattle.core_term.specs.Points.{Spot, Begin, NoSide, Formed, forms, act_forms}
use Rattle.core_term.specs.Order.{IsFormed}
use Rattle.core_term.specs.Stands.{Stands}
use Rattle.run_laws.proofs.graph_tables.OfText.{in_left, part}
use Rattle.event_graph.specs.declared.node.Arm.{Arm}
use Rattle.event_points.specs.Owned.{begin_of}
use Rattle.event_points.specs.Placed.{Lies, LiesAct, arm}
use Rattle.event_points.proofs.OneTurn.{head_lies}

module _ (arms : Spot → List Arm) (sites : ℕ) where
  pub record IsSide (b c : Spot) : Type 0 where
    pub place : ℕ
    pub these : List Arm
    pub first : Bool
    pub from : c ≡ Begin place
    pub inside : place < sites
    pub arms_are : arms b ≡ these ++ arm 1 place first ∷ []

  abbrev Sided : Spot → Form Spot → Type 0
  Sided b Start = Unit {0}
  Sided b (Same c) = Unit {0}
  Sided b (After n c) = Unit {0}
  Sided b (Sync c) = Unit {0}
  Sided b (Join c e) = Unit {0}
  Sided b (Side c) = IsSide b c
  Sided b (Merge c e) = Unit {0}

  abbrev AllSided : List Formed → Type 0
  AllSided [] = Unit {0}
  AllSided (g ∷ gs) = Sided g.spot g.form × AllSided gs

  append : (gs hs : List Formed) → AllSided gs → AllSided hs → AllSided (gs ++ hs)
  append [] hs k l = l
  append (g ∷ gs) hs k l = (k.0, append gs hs k.1 l)

  at : (gs : List Formed) → AllSided gs → (b : Spot) (f : Form Spot) → IsFormed gs b f → Sided b f
  at [] k b f i = elim i [ ]
  at (g ∷ gs) k b f (inl e) = let P : Formed → Type 0 = λ z. Sided z.spot z.form in subst P e k.0
  at (g ∷ gs) k b f (inr i) = at gs k.1 b f i

  mutual
    sides : (vs : List Act) (low : ℕ) (these : List Arm) (t : Term) → Numbered vs low t → low + size t ≤ sites → Lies 1 arms these t → AllSided (forms t)
    sides vs low these (One a) n few l = (tt, (tt, act_sides vs low these a n few l.1))
    sides vs low these (Then a t) n few l = (tt, (tt, (tt, append (act_forms a) (forms t) (act_sides vs low these a n.0 (omega arith) l.1) (sides (a ∷ vs) (low + act_size a) these t n.1 (omega arith) l.2))))
    sides vs low these (Both a t) n few l = (tt, (tt, (tt, append (act_forms a) (forms t) (act_sides vs low these a n.0 (omega arith) l.1) (sides (a ∷ vs) (low + act_size a) these t n.1 (omega arith) l.2))))

    act_sides : (vs : List Act) (low : ℕ) (these : List Arm) (a : Act) → NumberedAct vs low a → low + act_size a ≤ sites → LiesAct 1 arms these a → AllSided (act_forms a)
    act_sides vs low these (Cycle p c) n few l = (tt, tt)
    act_sides vs low these (Set p r e) n few l = (tt, tt)
    act_sides vs low these (Send p m e) n few l = (tt, tt)
    act_sides vs low these (Recv p m) n few l = (tt, tt)
    act_sides vs low these (If p e t u w) n few l =
        let here = n.0 in
        let yes = these ++ arm 1 p true ∷ [] in
        let other = these ++ arm 1 p false ∷ [] in (
          record { place = p; these = these; first = true; from = refl; inside = omega arith; arms_are = (head_lies 1 arms yes t l.0).term_begin },
          (
            record { place = p; these = these; first = false; from = refl; inside = omega arith; arms_are = (head_lies 1 arms other u l.1).term_begin },
            (tt, append (forms t) (forms u) (sides vs (low + 1) yes t n.1 (omega arith) l.0) (sides vs (low + (1 + size t)) other u n.2 (omega arith) l.1)),
          ),
        )
    act_sides vs low these (When p e t) n few l =
        let here = n.0 in
        let yes = these ++ arm 1 p true ∷ [] in (
          record { place = p; these = these; first = true; from = refl; inside = omega arith; arms_are = (head_lies 1 arms yes t l.0).term_begin },
          (record { place = p; these = these; first = false; from = refl; inside = omega arith; arms_are = l.1 }, (tt, sides vs (low + 1) yes t n.1 (omega arith) l.0)),
        )
    act_sides vs low these (Block p t) n few l = (tt, (tt, sides vs (low + 1) these t n.1 (omega arith) l))
    act_sides vs low these (Wait p y) n few l = (tt, tt)
    act_sides vs low these (Pure p e) n few l = (tt, tt)
    act_sides vs low these (Nothing p) n few l = (tt, tt)

  pub side_at : (body : Term) → Numbered [] 0 body → size body ≤ sites → Lies 1 arms [] body → (b c : Spot) → IsFormed (forms body) b (Side c) → IsSide b c
  side_at body numbered few lies b c formed = at (forms body) (sides [] 0 [] body numbered (omega arith) lies) b (Side c) formed

-- the sides of an `if` are such points
abbrev pub SidesFormed : List Formed → Act → Type 0
SidesFormed whole (If p e t u w) = IsFormed whole (begin_of t) (Side (Begin p)) × IsFormed whole (begin_of u) (Side (Begin p))
SidesFormed whole (When p e t) = IsFormed whole (begin_of t) (Side (Begin p)) × IsFormed whole (NoSide p) (Side (Begin p))
SidesFormed whole a = Unit {0}

among : (gs hs : List Formed) (a : Act) → ((b : Spot) (f : Form Spot) → IsFormed gs b f → IsFormed hs b f) → SidesFormed gs a → SidesFormed hs a
among gs hs (If p e t u w) all k = (all _ _ k.0, all _ _ k.1)
among gs hs (When p e t) all k = (all _ _ k.0, all _ _ k.1)
among gs hs (Cycle p c) all k = tt
among gs hs (Set p r e) all k = tt
among gs hs (Send p m e) all k = tt
among gs hs (Recv p m) all k = tt
among gs hs (Block p t) all k = tt
among gs hs (Wait p y) all k = tt
among gs hs (Pure p e) all k = tt
among gs hs (Nothing p) all k = tt

act_formed : (a : Act) → SidesFormed (act_forms a) a
act_formed (If p e t u w) = (inl refl, inr (inl refl))
act_formed (When p e t) = (inl refl, inr (inl refl))
act_formed (Cycle p c) = tt
act_formed (Set p r e) = tt
act_formed (Send p m e) = tt
act_formed (Recv p m) = tt
act_formed (Block p t) = tt
act_formed (Wait p y) = tt
act_formed (Pure p e) = tt
act_formed (Nothing p) = tt

term_formed : (t : Term) → SidesFormed (forms t) (head t)
term_formed (One a) = among (act_forms a) (forms (One a)) a (λ b f k. inr (inr k)) (act_formed a)
term_formed (Then a t) = among (act_forms a) (forms (Then a t)) a (λ b f k. inr (inr (inr (in_left (act_forms a) (forms t) b f k)))) (act_formed a)
term_formed (Both a t) = among (act_forms a) (forms (Both a t)) a (λ b f k. inr (inr (inr (in_left (act_forms a) (forms t) b f k)))) (act_formed a)

pub sides_formed : {vs ws : List Act} {body term : Term} → Stands vs body ws term → SidesFormed (forms body) (head term)
sides_formed {body = body} {term = term} stands = among (forms term) (forms body) (head term) (part stands) (term_formed term)

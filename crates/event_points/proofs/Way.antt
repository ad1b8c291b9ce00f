-- The points of a term, each with its way: the sides of the term in which it lies, the outermost first.
--
-- That a point is one of a term is told by cases on the term, and its way is read off that. The arms of a point in the graph are its way.
use Rattle.std.proofs.Common.{◌≡◌, ℕ, ◌⊎◌, inl, inr, refl, sym, ◌∙◌, true, false, List, [], ◌∷◌, ◌++◌, append_assoc}
use Rattle.std.proofs.lemmas.List.{append-nil}
use Rattle.core_term.specs.Term.{Term, One, Then, Both, Act, Cycle, Set, Send, Recv, If, When, Block, Wait, Pure, Nothing, site}
use Rattle.core_term.specs.Points.{Spot, TermBegin, TermEnd, Begin, End, NoSide, Formed, forms, act_forms}
use Rattle.event_graph.specs.declared.node.Arm.{Arm}
use Rattle.event_points.specs.Owned.{begin_of}
use Rattle.event_points.specs.Placed.{Lies, LiesAct, HeadLies, arm}
use Rattle.event_points.proofs.Along.{All, all_append}

pub data HeadPoint (p : ℕ) : Spot → Type 0 where
  term_begin : HeadPoint p (TermBegin p)
  begin : HeadPoint p (Begin p)
  end : HeadPoint p (End p)
  term_end : HeadPoint p (TermEnd p)

abbrev mutual
  pub PointOf : Term → Spot → Type 0
  PointOf (One a) b = PointAct a b
  PointOf (Then a t) b = PointAct a b ⊎ PointOf t b
  PointOf (Both a t) b = PointAct a b ⊎ PointOf t b

  pub PointAct : Act → Spot → Type 0
  PointAct (If p e t u w) b = HeadPoint p b ⊎ (PointOf t b ⊎ PointOf u b)
  PointAct (When p e t) b = HeadPoint p b ⊎ (PointOf t b ⊎ (b ≡ NoSide p))
  PointAct (Block p t) b = HeadPoint p b ⊎ PointOf t b
  PointAct a b = HeadPoint (site a) b

map_all : (C D : Spot → Type 0) → ((b : Spot) → C b → D b) → (gs : List Formed) → All C gs → All D gs
map_all C D f [] k = tt
map_all C D f (g ∷ gs) k = (f g.spot k.0, map_all C D f gs k.1)

head_act : (a : Act) (b : Spot) → HeadPoint (site a) b → PointAct a b
head_act (Cycle p n) b h = h
head_act (Set p r e) b h = h
head_act (Send p m e) b h = h
head_act (Recv p m) b h = h
head_act (If p e t u w) b h = inl h
head_act (When p e t) b h = inl h
head_act (Block p t) b h = inl h
head_act (Wait p y) b h = h
head_act (Pure p e) b h = h
head_act (Nothing p) b h = h

pub begin_point : (t : Term) → PointOf t (begin_of t)
begin_point (One a) = head_act a _ term_begin
begin_point (Then a t) = inl (head_act a _ term_begin)
begin_point (Both a t) = inl (head_act a _ term_begin)

-- each point that has a form is one
mutual
  pub points : (t : Term) → All (PointOf t) (forms t)
  points (One a) = (head_act a _ begin, (head_act a _ term_end, act_points a))
  points (Then a t) =
      (inl (head_act a _ begin), (inr (begin_point t), (inl (head_act a _ term_end), all_append (PointOf (Then a t)) (act_forms a) (forms t) (map_all (PointAct a) (PointOf (Then a t)) (λ b k. inl k) (act_forms a) (act_points a)) (map_all (PointOf t) (PointOf (Then a t)) (λ b k. inr k) (forms t) (points t)))))
  points (Both a t) =
      (inl (head_act a _ begin), (inr (begin_point t), (inl (head_act a _ term_end), all_append (PointOf (Both a t)) (act_forms a) (forms t) (map_all (PointAct a) (PointOf (Both a t)) (λ b k. inl k) (act_forms a) (act_points a)) (map_all (PointOf t) (PointOf (Both a t)) (λ b k. inr k) (forms t) (points t)))))

  act_points : (a : Act) → All (PointAct a) (act_forms a)
  act_points (Cycle p n) = (end, tt)
  act_points (Set p r e) = (end, tt)
  act_points (Send p m e) = (end, tt)
  act_points (Recv p m) = (end, tt)
  act_points (If p e t u w) =
      (inr (inl (begin_point t)), (inr (inr (begin_point u)), (inl end, all_append (PointAct (If p e t u w)) (forms t) (forms u) (map_all (PointOf t) (PointAct (If p e t u w)) (λ b k. inr (inl k)) (forms t) (points t)) (map_all (PointOf u) (PointAct (If p e t u w)) (λ b k. inr (inr k)) (forms u) (points u)))))
  act_points (When p e t) = (inr (inl (begin_point t)), (inr (inr refl), (inl end, map_all (PointOf t) (PointAct (When p e t)) (λ b k. inr (inl k)) (forms t) (points t))))
  act_points (Block p t) = (inr (begin_point t), (inl end, map_all (PointOf t) (PointAct (Block p t)) (λ b k. inr k) (forms t) (points t)))
  act_points (Wait p y) = (end, tt)
  act_points (Pure p e) = (end, tt)
  act_points (Nothing p) = (end, tt)

module _ (turn : ℕ) (b : Spot) where
  -- the sides of the term in which the point lies, outermost first
  abbrev mutual
    pub way : (t : Term) → PointOf t b → List Arm
    way (One a) k = act_way a k
    way (Then a t) (inl k) = act_way a k
    way (Then a t) (inr k) = way t k
    way (Both a t) (inl k) = act_way a k
    way (Both a t) (inr k) = way t k

    pub act_way : (a : Act) → PointAct a b → List Arm
    act_way (If p e t u w) (inl k) = []
    act_way (If p e t u w) (inr (inl k)) = arm turn p true ∷ way t k
    act_way (If p e t u w) (inr (inr k)) = arm turn p false ∷ way u k
    act_way (When p e t) (inl k) = []
    act_way (When p e t) (inr (inl k)) = arm turn p true ∷ way t k
    act_way (When p e t) (inr (inr k)) = arm turn p false ∷ []
    act_way (Block p t) (inl k) = []
    act_way (Block p t) (inr k) = way t k
    act_way (Cycle p n) k = []
    act_way (Set p r e) k = []
    act_way (Send p m e) k = []
    act_way (Recv p m) k = []
    act_way (Wait p y) k = []
    act_way (Pure p e) k = []
    act_way (Nothing p) k = []

  module _ (arms : Spot → List Arm) where
    head_lies : (these : List Arm) (p : ℕ) (c : Spot) → HeadLies arms these p → HeadPoint p c → arms c ≡ these
    head_lies these p c h term_begin = h.term_begin
    head_lies these p c h begin = h.begin
    head_lies these p c h end = h.end
    head_lies these p c h term_end = h.term_end

    at_head : (these : List Arm) (p : ℕ) → HeadLies arms these p → HeadPoint p b → arms b ≡ these ++ []
    at_head these p h k = head_lies these p b h k ∙ sym (append-nil these)

    mutual
      pub lies : (these : List Arm) (t : Term) → Lies turn arms these t → (k : PointOf t b) → arms b ≡ these ++ way t k
      lies these (One a) l k = act_lies these a l.0 l.1 k
      lies these (Then a t) l (inl k) = act_lies these a l.0 l.1 k
      lies these (Then a t) l (inr k) = lies these t l.2 k
      lies these (Both a t) l (inl k) = act_lies these a l.0 l.1 k
      lies these (Both a t) l (inr k) = lies these t l.2 k

      act_lies : (these : List Arm) (a : Act) → HeadLies arms these (site a) → LiesAct turn arms these a → (k : PointAct a b) → arms b ≡ these ++ act_way a k
      act_lies these (If p e t u w) h l (inl k) = at_head these p h k
      act_lies these (If p e t u w) h l (inr (inl k)) = lies (these ++ arm turn p true ∷ []) t l.0 k ∙ append_assoc these (arm turn p true ∷ []) (way t k)
      act_lies these (If p e t u w) h l (inr (inr k)) = lies (these ++ arm turn p false ∷ []) u l.1 k ∙ append_assoc these (arm turn p false ∷ []) (way u k)
      act_lies these (When p e t) h l (inl k) = at_head these p h k
      act_lies these (When p e t) h l (inr (inl k)) = lies (these ++ arm turn p true ∷ []) t l.0 k ∙ append_assoc these (arm turn p true ∷ []) (way t k)
      act_lies these (When p e t) h l (inr (inr k)) = rw k l.1
      act_lies these (Block p t) h l (inl k) = at_head these p h k
      act_lies these (Block p t) h l (inr k) = lies these t l k
      act_lies these (Cycle p n) h l k = at_head these p h k
      act_lies these (Set p r e) h l k = at_head these p h k
      act_lies these (Send p m e) h l k = at_head these p h k
      act_lies these (Recv p m) h l k = at_head these p h k
      act_lies these (Wait p y) h l k = at_head these p h k
      act_lies these (Pure p e) h l k = at_head these p h k
      act_lies these (Nothing p) h l k = at_head these p h k

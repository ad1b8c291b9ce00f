-- What is known of each point of a turn: the point that ends its chain of Same points, the form of that, and its arms.
--
-- It holds of the first point of the turn, goes over from a point to those that share its node, and holds of every point that has a
-- node of its own. It is told for any place of the turn among more points, so it serves one turn and both of two.
use Rattle.std.proofs.Common.{◌≡◌, ℕ, inl, inr, refl, sym, ◌∙◌, ap, subst, true, false, List, [], ◌∷◌, ◌++◌}
use Rattle.order_rules.specs.Form.{Form, Start, Same, After, Sync, Join, Side, Merge}
use Rattle.order_rules.specs.Standing.{map_form, Chain, stop, same}
use Rattle.core_term.specs.Term.{Term, One, Then, Both, Act, Cycle, Set, Send, Recv, If, When, Block, Wait, Pure, Nothing, site, head}
use Rattle.core_term.specs.Points.{Spot, Formed, ◌is◌, forms, act_forms}
use Rattle.core_term.specs.Order.{IsFormed}
use Rattle.event_graph.specs.declared.node.Arm.{Arm}
use Rattle.event_graph.specs.Forms.{form_of}
use Rattle.event_points.specs.Owned.{begin_of, owned, kind_of, preds_of}
use Rattle.event_points.specs.Placed.{Placed, Lies, LiesAct, HeadLies, arm}
use Rattle.event_points.proofs.Steps.{Owns, Step, Steps, steps}
use Rattle.event_points.proofs.Along.{Goes, AllGo, All, all}

-- the form of a drawn node
pub drawn_form : (node : Spot → ℕ) (f : Form Spot) → form_of (kind_of f) (preds_of node f) ≡ map_form node f
drawn_form node Start = refl
drawn_form node (Same c) = refl
drawn_form node (After n c) = refl
drawn_form node (Sync c) = refl
drawn_form node (Join c e) = refl
drawn_form node (Side c) = refl
drawn_form node (Merge c e) = refl

pub map_map : {P Q R : Type 0} (f : P → Q) (g : Q → R) (h : Form P) → map_form g (map_form f h) ≡ map_form (λ z. g (f z)) h
map_map f g Start = refl
map_map f g (Same c) = refl
map_map f g (After n c) = refl
map_map f g (Sync c) = refl
map_map f g (Join c e) = refl
map_map f g (Side c) = refl
map_map f g (Merge c e) = refl

-- a point of the form Same lies in the sides of its predecessor
module _ (turn : ℕ) (arms : Spot → List Arm) where
  abbrev pub Alike : Spot → Form Spot → Type 0
  Alike b (Same c) = arms b ≡ arms c
  Alike b f = Unit {0}

  abbrev pub AllAlike : List Formed → Type 0
  AllAlike [] = Unit {0}
  AllAlike (g ∷ gs) = Alike g.spot g.form × AllAlike gs

  alike_append : (gs hs : List Formed) → AllAlike gs → AllAlike hs → AllAlike (gs ++ hs)
  alike_append [] hs k l = l
  alike_append (g ∷ gs) hs k l = (k.0, alike_append gs hs k.1 l)

  pub head_lies : (these : List Arm) (t : Term) → Lies turn arms these t → HeadLies arms these (site (head t))
  head_lies these (One a) l = l.0
  head_lies these (Then a t) l = l.0
  head_lies these (Both a t) l = l.0

  mutual
    pub alike : (these : List Arm) (t : Term) → Lies turn arms these t → AllAlike (forms t)
    alike these (One a) l = (l.0.begin ∙ sym l.0.term_begin, (l.0.term_end ∙ sym l.0.end, act_alike these a l.0 l.1))
    alike these (Then a t) l =
        let h = head_lies these t l.2 in
        (l.0.begin ∙ sym l.0.term_begin, (h.term_begin ∙ sym l.0.end, (l.0.term_end ∙ sym h.term_end, alike_append (act_forms a) (forms t) (act_alike these a l.0 l.1) (alike these t l.2))))
    alike these (Both a t) l =
        let h = head_lies these t l.2 in
        (l.0.begin ∙ sym l.0.term_begin, (h.term_begin ∙ sym l.0.term_begin, (tt, alike_append (act_forms a) (forms t) (act_alike these a l.0 l.1) (alike these t l.2))))

    act_alike : (these : List Arm) (a : Act) → HeadLies arms these (site a) → LiesAct turn arms these a → AllAlike (act_forms a)
    act_alike these (Cycle p n) h l = (tt, tt)
    act_alike these (Set p r e) h l = (tt, tt)
    act_alike these (Send p m e) h l = (tt, tt)
    act_alike these (Recv p m) h l = (tt, tt)
    act_alike these (If p e t u w) h l = (tt, (tt, (tt, alike_append (forms t) (forms u) (alike (these ++ arm turn p true ∷ []) t l.0) (alike (these ++ arm turn p false ∷ []) u l.1))))
    act_alike these (When p e t) h l = (tt, (tt, (tt, alike (these ++ arm turn p true ∷ []) t l.0)))
    act_alike these (Block p t) h l = let k = head_lies these t l in (k.term_begin ∙ sym h.begin, (h.end ∙ sym k.term_end, alike these t l))
    act_alike these (Wait p y) h l = (tt, tt)
    act_alike these (Pure p e) h l = (h.end ∙ sym h.begin, tt)
    act_alike these (Nothing p) h l = (h.end ∙ sym h.begin, tt)

-- the points of the turn lie at their places among all points; root n is the point that ends the chains of the node n
module _ (turn : ℕ) (P : Type 0) (HasForm : P → Form P → Type 0) (place : Spot → P) (node : P → ℕ) (form : ℕ → Form ℕ) (armed : ℕ → List Arm) (arms : Spot → List Arm) (root : ℕ → P) (body : Term)
    (formed : (b : Spot) (f : Form Spot) → IsFormed (forms body) b f → HasForm (place b) (map_form place f)) where
  abbrev pub spot_node : Spot → ℕ
  spot_node b = node (place b)

  pub record Own (n : ℕ) (g : Formed) : Type 0 where
    pub root_is : root n ≡ place g.spot
    pub form_is : form n ≡ map_form spot_node g.form
    pub arms_is : armed n ≡ arms g.spot

  -- what is known of a point
  pub record Stood (b : Spot) : Type 0 where
    pub chain : Chain P HasForm (root (spot_node b)) (place b)
    pub root_form : Form P
    pub root_formed : HasForm (root (spot_node b)) root_form
    pub root_is : map_form node root_form ≡ form (spot_node b)
    pub arms_are : armed (spot_node b) ≡ arms b

  pub owner : (b : Spot) (f : Form Spot) → IsFormed (forms body) b f → Own (spot_node b) (b is f) → Stood b
  owner b f i o =
      let C : P → Type 0 = λ z. Chain P HasForm z (place b) in
      let F : P → Type 0 = λ z. HasForm z (map_form place f) in
      record { chain = subst C (sym o.root_is) stop; root_form = map_form place f; root_formed = subst F (sym o.root_is) (formed b f i); root_is = map_map place node f ∙ sym o.form_is; arms_are = o.arms_is }

  sharer : (b c : Spot) → IsFormed (forms body) b (Same c) → spot_node b ≡ spot_node c → arms b ≡ arms c → Stood c → Stood b
  sharer b c i e a s =
      let C : ℕ → Type 0 = λ z. Chain P HasForm (root z) (place b) in
      let F : ℕ → Type 0 = λ z. HasForm (root z) s.root_form in
      record { chain = subst C (sym e) (same (formed b (Same c) i) s.chain); root_form = s.root_form; root_formed = subst F (sym e) s.root_formed; root_is = s.root_is ∙ ap form (sym e); arms_are = ap armed e ∙ (s.arms_are ∙ sym a) }

  goes : (b : Spot) (f : Form Spot) → IsFormed (forms body) b f → Step spot_node Own (b is f) → Alike turn arms b f → Goes Stood b f
  goes b (Same c) i (inr o) a = λ s. owner b (Same c) i o
  goes b (Same c) i (inl k) a = λ s. let e : c ≡ k.0 = let z : Same c ≡ Same k.0 = k.1 in cc in sharer b c i (k.2 ∙ ap spot_node (sym e)) a s
  goes b Start i (inr o) a = owner b Start i o
  goes b (After n c) i (inr o) a = owner b (After n c) i o
  goes b (Sync c) i (inr o) a = owner b (Sync c) i o
  goes b (Join c e) i (inr o) a = owner b (Join c e) i o
  goes b (Side c) i (inr o) a = owner b (Side c) i o
  goes b (Merge c e) i (inr o) a = owner b (Merge c e) i o
  goes b Start i (inl k) a = let z : Start ≡ Same k.0 = k.1 in absurd cc
  goes b (After n c) i (inl k) a = let z : After n c ≡ Same k.0 = k.1 in absurd cc
  goes b (Sync c) i (inl k) a = let z : Sync c ≡ Same k.0 = k.1 in absurd cc
  goes b (Join c e) i (inl k) a = let z : Join c e ≡ Same k.0 = k.1 in absurd cc
  goes b (Side c) i (inl k) a = let z : Side c ≡ Same k.0 = k.1 in absurd cc
  goes b (Merge c e) i (inl k) a = let z : Merge c e ≡ Same k.0 = k.1 in absurd cc

  all_go : (gs : List Formed) → ((b : Spot) (f : Form Spot) → IsFormed gs b f → IsFormed (forms body) b f) → Steps spot_node Own gs → AllAlike turn arms gs → AllGo Stood gs
  all_go [] m s a = tt
  all_go (g ∷ gs) m s a = (goes g.spot g.form (m g.spot g.form (inl refl)) s.0 a.0, all_go gs (λ b f i. m b f (inr i)) s.1 a.1)

  -- each point of the turn, from its first one
  pub stood : (from : ℕ) → Placed spot_node from body → Lies turn arms [] body → Owns spot_node Own from (owned body) → Stood (begin_of body) → All Stood (forms body)
  stood from p l o b = all Stood body (all_go (forms body) (λ c f i. i) (steps spot_node Own from body p o) (alike turn arms [] body l)) b

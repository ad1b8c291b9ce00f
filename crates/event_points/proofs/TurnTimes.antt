-- The node of each point of a turn occurs at the cycle of the point.
--
-- By induction along the forms, from the local rule of each point. The hard case is a Merge: of its two predecessors at most one
-- occurs, since each node that occurs lies in sides that are taken. It is said of one turn of a graph with the times of its
-- nodes, so that it serves one turn alone and each of two.
use Rattle.std.proofs.Common.{◌≡◌, ℕ, ◌+◌, ◌-◌, ◌<◌, ◌≤◌, max, ◌⊎◌, inl, inr, arith, refl, sym, ◌∙◌, ap, subst, Bool, true, false, if◌then◌else◌, List, [], ◌∷◌, ◌++◌, Option, Some, None}
use Rattle.order_rules.specs.Form.{Form, Start, Same, After, Sync, Join, Side, Merge}
use Rattle.order_rules.specs.Standing.{AllOf, map_form}
use Rattle.core_term.specs.Lists.{Has}
use Rattle.core_term.specs.Term.{Term, One, Then, Both, Act, Cycle, Set, Send, Recv, If, When, Block, Wait, Pure, Nothing, site}
use Rattle.core_term.specs.Points.{Spot, Formed, forms, act_forms}
use Rattle.core_term.specs.Order.{IsFormed}
use Rattle.core_term.specs.Numbering.{Numbered}
use Rattle.core_term.specs.Occurs.{Occurrence, Later, Gone, At, LocalRule, SameRule, SideRule, AfterRule, SyncRule, JoinRule, MergeRule}
use Rattle.event_graph.specs.declared.node.Arm.{Arm}
use Rattle.event_graph.specs.Times.{Given, plus, later_of, earlier_of, by_delay, same_side, is_taken, time_by}
use Rattle.event_points.specs.Owned.{begin_of}
use Rattle.event_points.specs.Placed.{Lies, LiesAct, HeadLies, arm}
use Rattle.event_points.proofs.OneTurn.{head_lies}
use Rattle.event_points.proofs.Proper.{proper}
use Rattle.event_points.proofs.Along.{All}
use Rattle.event_points.proofs.Upward.{all_up, upward}

-- how the arms of a point come from those of the points that its form names
module _ (number : ℕ) (arms : Spot → List Arm) where
  abbrev Related : Spot → Form Spot → Type 0
  Related b Start = Unit {0}
  Related b (Same c) = arms b ≡ arms c
  Related b (After n c) = arms b ≡ arms c
  Related b (Sync c) = arms b ≡ arms c
  Related b (Join c e) = arms b ≡ arms c
  Related b (Side c) = (p : ℕ) × (v : Bool) × (arms b ≡ arms c ++ arm number p v ∷ [])
  Related b (Merge c e) = (p : ℕ) × (arms c ≡ arms b ++ arm number p true ∷ []) × (arms e ≡ arms b ++ arm number p false ∷ [])

  abbrev AllRelated : List Formed → Type 0
  AllRelated [] = Unit {0}
  AllRelated (g ∷ gs) = Related g.spot g.form × AllRelated gs

  append : (gs hs : List Formed) → AllRelated gs → AllRelated hs → AllRelated (gs ++ hs)
  append [] hs k l = l
  append (g ∷ gs) hs k l = (k.0, append gs hs k.1 l)

  related_at : (gs : List Formed) → AllRelated gs → (b : Spot) (f : Form Spot) → IsFormed gs b f → Related b f
  related_at [] k b f i = elim i [ ]
  related_at (g ∷ gs) k b f (inl e) = let P : Formed → Type 0 = λ z. Related z.spot z.form in subst P e k.0
  related_at (g ∷ gs) k b f (inr i) = related_at gs k.1 b f i

  longer : (xs ys these : List Arm) (x : Arm) → xs ≡ these ++ x ∷ [] → ys ≡ these → xs ≡ ys ++ x ∷ []
  longer xs ys these x e f = e ∙ ap (λ (z : List Arm). z ++ x ∷ []) (sym f)

  mutual
    related : (these : List Arm) (t : Term) → Lies number arms these t → AllRelated (forms t)
    related these (One a) l = (l.0.begin ∙ sym l.0.term_begin, (l.0.term_end ∙ sym l.0.end, act_related these a l.0 l.1))
    related these (Then a t) l =
        let h = head_lies number arms these t l.2 in
        (l.0.begin ∙ sym l.0.term_begin, (h.term_begin ∙ sym l.0.end, (l.0.term_end ∙ sym h.term_end, append (act_forms a) (forms t) (act_related these a l.0 l.1) (related these t l.2))))
    related these (Both a t) l =
        let h = head_lies number arms these t l.2 in
        (l.0.begin ∙ sym l.0.term_begin, (h.term_begin ∙ sym l.0.term_begin, (l.0.term_end ∙ sym l.0.end, append (act_forms a) (forms t) (act_related these a l.0 l.1) (related these t l.2))))

    act_related : (these : List Arm) (a : Act) → HeadLies arms these (site a) → LiesAct number arms these a → AllRelated (act_forms a)
    act_related these (Cycle p n) h l = (h.end ∙ sym h.begin, tt)
    act_related these (Set p r e) h l = (h.end ∙ sym h.begin, tt)
    act_related these (Send p m e) h l = (h.end ∙ sym h.begin, tt)
    act_related these (Recv p m) h l = (h.end ∙ sym h.begin, tt)
    act_related these (If p e t u w) h l =
        let x = head_lies number arms (these ++ arm number p true ∷ []) t l.0 in
        let y = head_lies number arms (these ++ arm number p false ∷ []) u l.1 in
        ((p, true, longer _ _ these _ x.term_begin h.begin), ((p, false, longer _ _ these _ y.term_begin h.begin), ((p, longer _ _ these _ x.term_end h.end, longer _ _ these _ y.term_end h.end), append (forms t) (forms u) (related (these ++ arm number p true ∷ []) t l.0) (related (these ++ arm number p false ∷ []) u l.1))))
    act_related these (When p e t) h l =
        let x = head_lies number arms (these ++ arm number p true ∷ []) t l.0 in
        ((p, true, longer _ _ these _ x.term_begin h.begin), ((p, false, longer _ _ these _ l.1 h.begin), ((p, longer _ _ these _ x.term_end h.end, longer _ _ these _ l.1 h.end), related (these ++ arm number p true ∷ []) t l.0)))
    act_related these (Block p t) h l = let k = head_lies number arms these t l in (k.term_begin ∙ sym h.begin, (h.end ∙ sym k.term_end, related these t l))
    act_related these (Wait p y) h l = (h.end ∙ sym h.begin, tt)
    act_related these (Pure p e) h l = (h.end ∙ sym h.begin, tt)
    act_related these (Nothing p) h l = (h.end ∙ sym h.begin, tt)

has_left : (xs ys : List Arm) (x : Arm) → Has xs x → Has (xs ++ ys) x
has_left [] ys x h = elim h [ ]
has_left (y ∷ xs) ys x (inl e) = inl e
has_left (y ∷ xs) ys x (inr h) = inr (has_left xs ys x h)

has_last : (xs : List Arm) (x : Arm) → Has (xs ++ x ∷ []) x
has_last [] x = inl refl
has_last (y ∷ xs) x = inr (has_last xs x)

has_either : (xs : List Arm) (y x : Arm) → Has (xs ++ y ∷ []) x → Has xs x ⊎ (x ≡ y)
has_either [] y x (inl e) = inr e
has_either [] y x (inr h) = elim h [ ]
has_either (z ∷ xs) y x (inl e) = inl (inl e)
has_either (z ∷ xs) y x (inr h) = elim (has_either xs y x h) [ inl k ↦ inl (inr k) | inr k ↦ inr k ]

taken_last : (side : ℕ → ℕ → Bool) (xs : List Arm) (x : Arm) → is_taken side (xs ++ x ∷ []) ≡ same_side (side x.turn x.site) x.yes
taken_last side [] x = refl
taken_last side (y ∷ []) x = refl
taken_last side (y ∷ z ∷ xs) x = taken_last side (z ∷ xs) x

sides_same : (a b : Bool) → same_side a b ≡ true → a ≡ b
sides_same true true e = refl
sides_same true false e = absurd cc
sides_same false true e = absurd cc
sides_same false false e = refl

same_sides : (a b : Bool) → a ≡ b → same_side a b ≡ true
same_sides true true e = refl
same_sides true false e = absurd cc
same_sides false true e = absurd cc
same_sides false false e = refl

plus_some : (n t : ℕ) (o : Option ℕ) → plus n o ≡ Some t → (s : ℕ) × (o ≡ Some s) × (s + n ≡ t)
plus_some n t None e = absurd cc
plus_some n t (Some s) e = (s, refl, cc)

delay_some : (d : Option ℕ) (t : ℕ) (o : Option ℕ) → by_delay d o ≡ Some t → (s : ℕ) × (o ≡ Some s) × (s ≤ t)
delay_some None t o e = absurd cc
delay_some (Some d) t o e = let z = plus_some d t o e in let l = z.2 in (z.0, z.1, omega arith)

later_some : (t : ℕ) (o q : Option ℕ) → later_of o q ≡ Some t → (s u : ℕ) × (o ≡ Some s) × (q ≡ Some u) × (max s u ≡ t)
later_some t None q e = absurd cc
later_some t (Some s) None e = absurd cc
later_some t (Some s) (Some u) e = (s, u, refl, refl, cc)

if_some : (v : Bool) (t : ℕ) (o : Option ℕ) → (if v then o else None) ≡ Some t → (v ≡ true) × (o ≡ Some t)
if_some true t o e = (refl, e)
if_some false t o e = absurd cc

-- what is given are the delays and the sides of the points of a turn
pub record IsTurn (at : Spot → Occurrence) (body : Term) (number : ℕ) (node : Spot → ℕ) (arms : Spot → List Arm) (g : Given) : Type 0 where
  pub delay : (b c : Spot) (s d : ℕ) → IsFormed (forms body) b (Sync c) → at c ≡ At s → at b ≡ At (s + d) → g.delay (node b) ≡ Some d
  pub no_delay : (b c : Spot) (s : ℕ) → IsFormed (forms body) b (Sync c) → at c ≡ At s → ((t : ℕ) → at b ≡ At t → ⊥) → g.delay (node b) ≡ None
  pub taken : (b c : Spot) (these : List Arm) (p t : ℕ) (yes_side : Bool) → IsFormed (forms body) b (Side c) → arms b ≡ these ++ arm number p yes_side ∷ [] → at b ≡ At t → g.side number p ≡ yes_side
  pub lost : (b c : Spot) (these : List Arm) (p t : ℕ) (yes_side : Bool) → IsFormed (forms body) b (Side c) → arms b ≡ these ++ arm number p yes_side ∷ [] → at c ≡ At t → at b ≡ Gone → g.side number p ≡ yes_side → ⊥

-- one turn, whose points lie in a graph with these times
module _ (T : ℕ) (at : Spot → Occurrence) (body : Term) (numbered : Numbered [] 0 body) (number : ℕ) (node : Spot → ℕ) (arms : Spot → List Arm) (g : Given) (time : ℕ → Option ℕ)
    (rule : (b : Spot) (f : Form Spot) → IsFormed (forms body) b f → LocalRule T at b f) (given : IsTurn at body number node arms g) (lies : Lies number arms [] body)
    (told : (b : Spot) (f : Form Spot) → IsFormed (forms body) b f → ((c : Spot) × (f ≡ Same c) × (node b ≡ node c)) ⊎ (time (node b) ≡ time_by g time (node b) (arms b) (map_form node f))) where
  pub record Occurs (b : Spot) : Type 0 where
    pub up : (t : ℕ) → at b ≡ At t → time (node b) ≡ Some t
    pub down : (t : ℕ) → time (node b) ≡ Some t → t < T → at b ≡ At t
    pub sided : (t : ℕ) → time (node b) ≡ Some t → (x : Arm) → Has (arms b) x → g.side x.turn x.site ≡ x.yes

  sharer : (b c : Spot) → SameRule T (at b) (at c) → time (node b) ≡ time (node c) → arms b ≡ arms c → Occurs c → Occurs b
  sharer b c r v a k = record {
    up = λ t e. v ∙ k.up t (r.up t e);
    down = λ t e l. r.down t l (k.down t (sym v ∙ e) l);
    sided = λ t e x h. let P : List Arm → Type 0 = λ z. Has z x in k.sided t (sym v ∙ e) x (subst P a h);
  }

  after_case : (b c : Spot) (m : ℕ) → AfterRule T m (at b) (at c) → time (node b) ≡ plus m (time (node c)) → arms b ≡ arms c → Occurs c → Occurs b
  after_case b c m r v a k = record {
    up = λ t e. let z = r.up t e in v ∙ (ap (plus m) (k.up z.0 z.2) ∙ ap (λ (y : ℕ). Some y) z.1);
    down = λ t e l. let z = plus_some m t (time (node c)) (sym v ∙ e) in r.down z.0 (let q = z.2 in omega arith) (k.down z.0 z.1 (let q = z.2 in omega arith)) ∙ ap (λ (y : ℕ). At y) z.2;
    sided = λ t e x h. let z = plus_some m t (time (node c)) (sym v ∙ e) in let P : List Arm → Type 0 = λ z. Has z x in k.sided z.0 z.1 x (subst P a h);
  }

  sync_case : (b c : Spot) → IsFormed (forms body) b (Sync c) → SyncRule T (at b) (at c) → time (node b) ≡ by_delay (g.delay (node b)) (time (node c)) → arms b ≡ arms c → Occurs c → Occurs b
  sync_case b c i r v a k = record {
    up = rises;
    down = λ t e l. falls t e l (at b) refl;
    sided = λ t e x h. let z = delay_some (g.delay (node b)) t (time (node c)) (sym v ∙ e) in let P : List Arm → Type 0 = λ z. Has z x in k.sided z.0 z.1 x (subst P a h);
  }
    where
      rises : (t : ℕ) → at b ≡ At t → time (node b) ≡ Some t
      rises t e =
          let z = r.up t e in
          let l = z.1 in
          let q : z.0 + (t - z.0) ≡ t = omega arith in
          let d = given.delay b c z.0 (t - z.0) i z.2 (e ∙ ap (λ (y : ℕ). At y) (sym q)) in
          let w : by_delay (g.delay (node b)) (time (node c)) ≡ Some (z.0 + (t - z.0)) = rw (d, k.up z.0 z.2) refl in
          v ∙ (w ∙ ap (λ (y : ℕ). Some y) q)

      none : ((t : ℕ) → at b ≡ At t → ⊥) → (t : ℕ) → t < T → time (node b) ≡ Some t → ⊥
      none f t m e =
          let y = delay_some (g.delay (node b)) t (time (node c)) (sym v ∙ e) in
          let l = y.2 in
          let d = given.no_delay b c y.0 i (k.down y.0 y.1 (omega arith)) f in
          let w : by_delay (g.delay (node b)) (time (node c)) ≡ None = rw d refl in let q : None ≡ Some t = sym w ∙ (sym v ∙ e) in cc

      falls : (t : ℕ) → time (node b) ≡ Some t → t < T → (o : Occurrence) → at b ≡ o → at b ≡ At t
      falls t e l Later q = absurd (none (λ u z. let y : Later ≡ At u = sym q ∙ z in cc) t l e)
      falls t e l Gone q = absurd (none (λ u z. let y : Gone ≡ At u = sym q ∙ z in cc) t l e)
      falls t e l (At u) q = let y : Some u ≡ Some t = sym (rises u q) ∙ e in let z : u ≡ t = cc in q ∙ ap (λ (y : ℕ). At y) z

  join_case : (b c e : Spot) → JoinRule T (at b) (at c) (at e) → time (node b) ≡ later_of (time (node c)) (time (node e)) → arms b ≡ arms c → Occurs c → Occurs e → Occurs b
  join_case b c e r v a k l = record {
    up = λ t q. let z = r.up t q in let w : later_of (time (node c)) (time (node e)) ≡ Some (max z.0 z.1) = rw (k.up z.0 z.3, l.up z.1 z.4) refl in v ∙ (w ∙ ap (λ (y : ℕ). Some y) z.2);
    down = λ t q m. let z = later_some t (time (node c)) (time (node e)) (sym v ∙ q) in let o = z.4 in r.down z.0 z.1 (omega arith) (omega arith) (k.down z.0 z.2 (omega arith)) (l.down z.1 z.3 (omega arith)) ∙ ap (λ (y : ℕ). At y) z.4;
    sided = λ t q x h. let z = later_some t (time (node c)) (time (node e)) (sym v ∙ q) in let P : List Arm → Type 0 = λ z. Has z x in k.sided z.0 z.2 x (subst P a h);
  }

  side_case : (b c : Spot) (p : ℕ) (s : Bool) → IsFormed (forms body) b (Side c) → SideRule T (at b) (at c) → time (node b) ≡ (if is_taken g.side (arms b) then time (node c) else None) → arms b ≡ arms c ++ arm number p s ∷ [] → Occurs c → Occurs b
  side_case b c p s i r v a k = record {
    up = λ t e. let z = same_sides (g.side number p) s (given.taken b c (arms c) p t s i a e) in v ∙ (taken (test ∙ z) ∙ k.up t (r.up t e));
    down = λ t e l.
        let z = if_some (is_taken g.side (arms b)) t (time (node c)) (sym v ∙ e) in
        let w = k.down t z.1 l in
        elim (r.down t l w) [ inl q ↦ absurd (given.lost b c (arms c) p t s i a w q (sides_same (g.side number p) s (sym test ∙ z.0))) | inr q ↦ q ];
    sided = λ t e x h.
        let z = if_some (is_taken g.side (arms b)) t (time (node c)) (sym v ∙ e) in
        let P : List Arm → Type 0 = λ z. Has z x in
        elim (has_either (arms c) (arm number p s) x (subst P a h)) [ inl q ↦ k.sided t z.1 x q | inr q ↦ rw q (sides_same (g.side number p) s (sym test ∙ z.0)) ];
  }
    where
      test : is_taken g.side (arms b) ≡ same_side (g.side number p) s
      test = ap (is_taken g.side) a ∙ taken_last g.side (arms c) (arm number p s)

      taken : is_taken g.side (arms b) ≡ true → (if is_taken g.side (arms b) then time (node c) else None) ≡ time (node c)
      taken e = rw e refl

  merge_case : (b c e : Spot) (p : ℕ) → MergeRule T (at b) (at c) (at e) → time (node b) ≡ earlier_of (time (node c)) (time (node e)) → arms c ≡ arms b ++ arm number p true ∷ [] → arms e ≡ arms b ++ arm number p false ∷ [] → Occurs c → Occurs e → Occurs b
  merge_case b c e p r v a a' k l = record {
    up = λ t q. elim (r.up t q) [ inl z ↦ v ∙ first_here t (k.up t z) (time (node e)) refl | inr z ↦ v ∙ second_here t (l.up t z) (time (node c)) refl ];
    down = λ t q m. falls t m (time (node c)) (time (node e)) refl refl (sym v ∙ q);
    sided = λ t q x h. sided_at t x h (time (node c)) (time (node e)) refl refl (sym v ∙ q);
  }
    where
      only : (s u : ℕ) → time (node c) ≡ Some s → time (node e) ≡ Some u → ⊥
      only s u y z =
          let P : List Arm → Type 0 = λ w. Has w (arm number p true) in
          let Q : List Arm → Type 0 = λ w. Has w (arm number p false) in
          let f : g.side number p ≡ true = k.sided s y (arm number p true) (subst P (sym a) (has_last (arms b) (arm number p true))) in
          let h : g.side number p ≡ false = l.sided u z (arm number p false) (subst Q (sym a') (has_last (arms b) (arm number p false))) in
          let j : true ≡ false = sym f ∙ h in cc

      first_here : (t : ℕ) → time (node c) ≡ Some t → (o : Option ℕ) → time (node e) ≡ o → earlier_of (time (node c)) (time (node e)) ≡ Some t
      first_here t y None z = rw (y, z) refl
      first_here t y (Some u) z = absurd (only t u y z)

      second_here : (t : ℕ) → time (node e) ≡ Some t → (o : Option ℕ) → time (node c) ≡ o → earlier_of (time (node c)) (time (node e)) ≡ Some t
      second_here t y None z = rw (y, z) refl
      second_here t y (Some u) z = absurd (only u t z y)

      falls : (t : ℕ) → t < T → (o q : Option ℕ) → time (node c) ≡ o → time (node e) ≡ q → earlier_of (time (node c)) (time (node e)) ≡ Some t → at b ≡ At t
      falls t m None None y z w = let j : earlier_of None None ≡ Some t = rw (y, z) at w in absurd cc
      falls t m (Some s) None y z w = let j : Some s ≡ Some t = rw (y, z) at w in r.first t m (k.down t (y ∙ j) m)
      falls t m None (Some u) y z w = let j : Some u ≡ Some t = rw (y, z) at w in r.second t m (l.down t (z ∙ j) m)
      falls t m (Some s) (Some u) y z w = absurd (only s u y z)

      sided_at : (t : ℕ) (x : Arm) → Has (arms b) x → (o q : Option ℕ) → time (node c) ≡ o → time (node e) ≡ q → earlier_of (time (node c)) (time (node e)) ≡ Some t → g.side x.turn x.site ≡ x.yes
      sided_at t x h None None y z w = let j : earlier_of None None ≡ Some t = rw (y, z) at w in absurd cc
      sided_at t x h (Some s) q y z w = let P : List Arm → Type 0 = λ w. Has w x in k.sided s y x (subst P (sym a) (has_left (arms b) (arm number p true ∷ []) x h))
      sided_at t x h None (Some u) y z w = let P : List Arm → Type 0 = λ w. Has w x in l.sided u z x (subst P (sym a') (has_left (arms b) (arm number p false ∷ []) x h))

  goes : (b : Spot) (f : Form Spot) → IsFormed (forms body) b f → AllOf Occurs f → Occurs b
  goes b f i k = go f i k (rule b f i) (related_at number arms (forms body) (related number arms [] body lies) b f i) (told b f i)
    where
      go : (f : Form Spot) → IsFormed (forms body) b f → AllOf Occurs f → LocalRule T at b f → Related number arms b f → ((c : Spot) × (f ≡ Same c) × (node b ≡ node c)) ⊎ (time (node b) ≡ time_by g time (node b) (arms b) (map_form node f)) → Occurs b
      go Start i k r a s = absurd (proper body b Start i)
      go (Same c) i k r a (inl s) = let z : Same c ≡ Same s.0 = s.1 in let e : c ≡ s.0 = cc in sharer b c r (ap time (s.2 ∙ ap node (sym e))) a k
      go (Same c) i k r a (inr s) = sharer b c r s a k
      go (After m c) i k r a (inr s) = after_case b c m r s a k
      go (Sync c) i k r a (inr s) = sync_case b c i r s a k
      go (Join c e) i k r a (inr s) = join_case b c e r s a k.0 k.1
      go (Side c) i k r a (inr s) = side_case b c a.0 a.1 i r s a.2 k
      go (Merge c e) i k r a (inr s) = merge_case b c e a.0 r s a.1 a.2 k.0 k.1
      go (After m c) i k r a (inl s) = let z : After m c ≡ Same s.0 = s.1 in absurd cc
      go (Sync c) i k r a (inl s) = let z : Sync c ≡ Same s.0 = s.1 in absurd cc
      go (Join c e) i k r a (inl s) = let z : Join c e ≡ Same s.0 = s.1 in absurd cc
      go (Side c) i k r a (inl s) = let z : Side c ≡ Same s.0 = s.1 in absurd cc
      go (Merge c e) i k r a (inl s) = let z : Merge c e ≡ Same s.0 = s.1 in absurd cc

  -- from the first point on
  pub all_occur : Occurs (begin_of body) → All Occurs (forms body)
  all_occur begin = upward Occurs [] 0 body numbered (λ y k. elim k [ ]) (all_up Occurs (forms body) goes) begin

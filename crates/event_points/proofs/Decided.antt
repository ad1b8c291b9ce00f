-- The start, the delays and the sides of a turn are what the points of the turn ask for.
--
-- Each Sync and each Side of the text stands at its act; the act of a site that runs is the one that stands there in the text, so
-- the laws of the turn speak of it.
use Rattle.std.proofs.Common.{◌≡◌, ℕ, ◌+◌, inl, inr, refl, sym, ◌∙◌, ap, subst, Bool, true, false, List, [], ◌∷◌, ◌++◌}
use Rattle.std.proofs.lemmas.List.{same_from_push}
use Rattle.order_rules.specs.Form.{Form, Sync, Side}
use Rattle.core_term.specs.Inputs.{Inputs}
use Rattle.core_term.specs.Ends.{Sees}
use Rattle.core_term.specs.Value.{Outcome}
use Rattle.core_term.specs.Fate.{Fate, Waits, Lost, Runs}
use Rattle.core_term.specs.Turns.{run_of}
use Rattle.core_term.specs.Term.{Expr, Term, One, Then, Both, Act, Cycle, Set, Send, Recv, If, When, Block, Wait, Pure, Nothing, site, head}
use Rattle.core_term.specs.Points.{Spot, Begin, End, NoSide, Formed, forms, act_forms}
use Rattle.core_term.specs.Order.{IsFormed}
use Rattle.core_term.specs.Numbering.{Numbered}
use Rattle.core_term.specs.Stands.{Stands, StandsIn, here, in_one, in_then, after_then, in_both, after_both, in_yes, in_no, in_when, in_block}
use Rattle.core_term.specs.Acts.{OnPort, Asks}
use Rattle.core_term.specs.Occurs.{Occurrence, Later, Gone, At, begin_at}
use Rattle.run_laws.specs.TurnLaws.{times, ObeysRules, Takes}
use Rattle.run_laws.proofs.turn_points.TurnRules.{obeys_rules}
use Rattle.run_laws.proofs.turn_points.Text.{one_term}
use Rattle.event_graph.specs.declared.node.Arm.{Arm}
use Rattle.event_points.specs.Owned.{begin_of}
use Rattle.event_points.specs.Placed.{arm, Lies}
use Rattle.event_points.specs.Sides.{SideArms}
use Rattle.event_graph.specs.Times.{Given}
use Rattle.event_points.specs.TurnTimes.{IsTurnOf}
use Rattle.event_points.proofs.TurnTimes.{IsTurn}
use Rattle.event_points.proofs.TextOrder.{arms_of_sides}

-- b is the first or the second side of an `if`
abbrev SideIs : Act → Bool → Spot → Type 0
SideIs (If p e t u w) true b = b ≡ begin_of t
SideIs (If p e t u w) false b = b ≡ begin_of u
SideIs (When p e t) true b = b ≡ begin_of t
SideIs (When p e t) false b = b ≡ NoSide p
SideIs a v b = ⊥

module _ (body : Term) where
  record SyncAt (b c : Spot) : Type 0 where
    scope : List Act
    term : Term
    port : ℕ
    stands : Stands [] body scope term
    end_is : b ≡ End (site (head term))
    begin_is : c ≡ Begin (site (head term))
    on_port : OnPort (head term) port

  record SideAt (b c : Spot) : Type 0 where
    scope : List Act
    term : Term
    first_side : Bool
    stands : Stands [] body scope term
    begin_is : c ≡ Begin (site (head term))
    side_is : SideIs (head term) first_side b

  abbrev Origin : Spot → Form Spot → Type 0
  Origin b (Sync c) = SyncAt b c
  Origin b (Side c) = SideAt b c
  Origin b f = Unit {0}

  abbrev AllFrom : List Formed → Type 0
  AllFrom [] = Unit {0}
  AllFrom (g ∷ gs) = Origin g.spot g.form × AllFrom gs

  append : (gs hs : List Formed) → AllFrom gs → AllFrom hs → AllFrom (gs ++ hs)
  append [] hs k l = l
  append (g ∷ gs) hs k l = (k.0, append gs hs k.1 l)

  origin_at : (gs : List Formed) → AllFrom gs → (b : Spot) (f : Form Spot) → IsFormed gs b f → Origin b f
  origin_at [] k b f i = elim i [ ]
  origin_at (g ∷ gs) k b f (inl e) = let P : Formed → Type 0 = λ z. Origin z.spot z.form in subst P e k.0
  origin_at (g ∷ gs) k b f (inr i) = origin_at gs k.1 b f i

  abbrev Inner : List Act → Term → Type 0
  Inner vs t = (ws : List Act) (u : Term) → Stands vs t ws u → Stands [] body ws u

  abbrev InnerAct : List Act → Act → Type 0
  InnerAct vs a = (ws : List Act) (u : Term) → StandsIn vs a ws u → Stands [] body ws u

  mutual
    origins : (vs : List Act) (t : Term) → Inner vs t → AllFrom (forms t)
    origins vs (One a) k = (tt, (tt, act_origins vs a (One a) (k vs (One a) here) refl (λ ws u s. k ws u (in_one s))))
    origins vs (Then a t) k = (tt, (tt, (tt, append (act_forms a) (forms t) (act_origins vs a (Then a t) (k vs (Then a t) here) refl (λ ws u s. k ws u (in_then s))) (origins (a ∷ vs) t (λ ws u s. k ws u (after_then s))))))
    origins vs (Both a t) k = (tt, (tt, (tt, append (act_forms a) (forms t) (act_origins vs a (Both a t) (k vs (Both a t) here) refl (λ ws u s. k ws u (in_both s))) (origins (a ∷ vs) t (λ ws u s. k ws u (after_both s))))))

    act_origins : (vs : List Act) (a : Act) (term : Term) → Stands [] body vs term → head term ≡ a → InnerAct vs a → AllFrom (act_forms a)
    act_origins vs (Cycle p n) term s e k = (tt, tt)
    act_origins vs (Set p r x) term s e k = (tt, tt)
    act_origins vs (Send p m x) term s e k =
        let q : p ≡ site (head term) = ap site (sym e) in
        let P : Act → Type 0 = λ z. OnPort z m in
        (record { scope = vs; term = term; port = m; stands = s; end_is = ap (λ z. End z) q; begin_is = ap (λ z. Begin z) q; on_port = subst P (sym e) refl }, tt)
    act_origins vs (Recv p m) term s e k =
        let q : p ≡ site (head term) = ap site (sym e) in
        let P : Act → Type 0 = λ z. OnPort z m in
        (record { scope = vs; term = term; port = m; stands = s; end_is = ap (λ z. End z) q; begin_is = ap (λ z. Begin z) q; on_port = subst P (sym e) refl }, tt)
    act_origins vs (If p x t u w) term s e k =
        let q : p ≡ site (head term) = ap site (sym e) in
        let P : Act → Type 0 = λ z. SideIs z true (begin_of t) in
        let Q : Act → Type 0 = λ z. SideIs z false (begin_of u) in (
          record { scope = vs; term = term; first_side = true; stands = s; begin_is = ap (λ z. Begin z) q; side_is = subst P (sym e) refl },
          (
            record { scope = vs; term = term; first_side = false; stands = s; begin_is = ap (λ z. Begin z) q; side_is = subst Q (sym e) refl },
            (tt, append (forms t) (forms u) (origins vs t (λ ws v r. k ws v (in_yes r))) (origins vs u (λ ws v r. k ws v (in_no r)))),
          ),
        )
    act_origins vs (When p x t) term s e k =
        let q : p ≡ site (head term) = ap site (sym e) in
        let P : Act → Type 0 = λ z. SideIs z true (begin_of t) in
        let Q : Act → Type 0 = λ z. SideIs z false (NoSide p) in (
          record { scope = vs; term = term; first_side = true; stands = s; begin_is = ap (λ z. Begin z) q; side_is = subst P (sym e) refl },
          (
            record { scope = vs; term = term; first_side = false; stands = s; begin_is = ap (λ z. Begin z) q; side_is = subst Q (sym e) refl },
            (tt, origins vs t (λ ws v r. k ws v (in_when r))),
          ),
        )
    act_origins vs (Block p t) term s e k = (tt, (tt, origins vs t (λ ws v r. k ws v (in_block r))))
    act_origins vs (Wait p y) term s e k = (tt, tt)
    act_origins vs (Pure p x) term s e k = (tt, tt)
    act_origins vs (Nothing p) term s e k = (tt, tt)

  origin : (b : Spot) (f : Form Spot) → IsFormed (forms body) b f → Origin b f
  origin b f i = origin_at (forms body) (origins [] body (λ ws u s. s)) b f i

-- which of its sides an `if` takes
took : (at : Spot → Occurrence) (start : ℕ) (d v : Bool) (a : Act) (b : Spot) → Takes at start d a → SideIs a v b → ((t : ℕ) → at b ≡ At t → d ≡ v) × (at b ≡ Gone → d ≡ v → ⊥)
took at start true true (If p e t u w) b k s = ((λ j x. refl), (λ x y. let z : At start ≡ Gone = sym k.0 ∙ (ap at (sym s) ∙ x) in cc))
took at start true false (If p e t u w) b k s = ((λ j x. let z : Gone ≡ At j = sym k.1 ∙ (ap at (sym s) ∙ x) in absurd cc), (λ x y. cc))
took at start false true (If p e t u w) b k s = ((λ j x. let z : Gone ≡ At j = sym k.0 ∙ (ap at (sym s) ∙ x) in absurd cc), (λ x y. cc))
took at start false false (If p e t u w) b k s = ((λ j x. refl), (λ x y. let z : At start ≡ Gone = sym k.1 ∙ (ap at (sym s) ∙ x) in cc))
took at start true true (When p e t) b k s = ((λ j x. refl), (λ x y. let z : At start ≡ Gone = sym k.0 ∙ (ap at (sym s) ∙ x) in cc))
took at start true false (When p e t) b k s = ((λ j x. let z : Gone ≡ At j = sym k.1 ∙ (ap at (sym s) ∙ x) in absurd cc), (λ x y. cc))
took at start false true (When p e t) b k s = ((λ j x. let z : Gone ≡ At j = sym k.0 ∙ (ap at (sym s) ∙ x) in absurd cc), (λ x y. cc))
took at start false false (When p e t) b k s = ((λ j x. refl), (λ x y. let z : At start ≡ Gone = sym k.1 ∙ (ap at (sym s) ∙ x) in cc))
took at start d v (Cycle p n) b k s = elim s [ ]
took at start d v (Set p r e) b k s = elim s [ ]
took at start d v (Send p m e) b k s = elim s [ ]
took at start d v (Recv p m) b k s = elim s [ ]
took at start d v (Block p t) b k s = elim s [ ]
took at start d v (Wait p y) b k s = elim s [ ]
took at start d v (Pure p e) b k s = elim s [ ]
took at start d v (Nothing p) b k s = elim s [ ]

-- it asks something
asks : (v : Bool) (a : Act) (b : Spot) → SideIs a v b → (e : Expr) × Asks a e
asks v (If p e t u w) b s = (e, refl)
asks v (When p e t) b s = (e, refl)
asks v (Cycle p n) b s = elim s [ ]
asks v (Set p r e) b s = elim s [ ]
asks v (Send p m e) b s = elim s [ ]
asks v (Recv p m) b s = elim s [ ]
asks v (Block p t) b s = elim s [ ]
asks v (Wait p y) b s = elim s [ ]
asks v (Pure p e) b s = elim s [ ]
asks v (Nothing p) b s = elim s [ ]

-- the last arm of a side
last_arm : (number : ℕ) (arms : Spot → List Arm) (v : Bool) (a : Act) (b : Spot) → SideIs a v b → SideArms number arms a → (these : List Arm) × (arms b ≡ these ++ arm number (site a) v ∷ [])
last_arm number arms true (If p e t u w) b s k = (k.0, ap arms s ∙ k.1)
last_arm number arms false (If p e t u w) b s k = (k.0, ap arms s ∙ k.2)
last_arm number arms true (When p e t) b s k = (k.0, ap arms s ∙ k.1)
last_arm number arms false (When p e t) b s k = (k.0, ap arms s ∙ k.2)
last_arm number arms v (Cycle p n) b s k = elim s [ ]
last_arm number arms v (Set p r e) b s k = elim s [ ]
last_arm number arms v (Send p m e) b s k = elim s [ ]
last_arm number arms v (Recv p m) b s k = elim s [ ]
last_arm number arms v (Block p t) b s k = elim s [ ]
last_arm number arms v (Wait p y) b s k = elim s [ ]
last_arm number arms v (Pure p e) b s k = elim s [ ]
last_arm number arms v (Nothing p) b s k = elim s [ ]

-- the turn i of a walk, as the turn of a number in the graph
module _ (inputs : Inputs) (view : Sees) (body : Term) (numbered : Numbered [] 0 body) (i number : ℕ) (node : Spot → ℕ) (arms : Spot → List Arm) (lies : Lies number arms [] body) (g : Given) (turn : IsTurnOf inputs view body i number node g) where
  abbrev at : Spot → Occurrence
  at = times inputs view body i

  pub obeys : ObeysRules inputs view body i
  obeys = obeys_rules inputs view body numbered i

  running : (q t : ℕ) → at (Begin q) ≡ At t → (scope : ℕ → Outcome) × (u : Term) × (run_of inputs view body i q ≡ Runs scope t u)
  running q t e = go (run_of inputs view body i q) refl
    where
      go : (f : Fate) → run_of inputs view body i q ≡ f → (scope : ℕ → Outcome) × (u : Term) × (run_of inputs view body i q ≡ Runs scope t u)
      go Waits r = let z : Later ≡ At t = sym (ap begin_at r) ∙ e in absurd cc
      go Lost r = let z : Gone ≡ At t = sym (ap begin_at r) ∙ e in absurd cc
      go (Runs scope s u) r =
          let z : At s ≡ At t = sym (ap begin_at r) ∙ e in
          let y : s ≡ t = cc in
          (scope, u, r ∙ ap (λ x. Runs scope x u) y)

  -- the act that runs at a site is the one that stands there
  record Running (q t : ℕ) (u : Term) : Type 0 where
    scope : ℕ → Outcome
    runs : run_of inputs view body i q ≡ Runs scope t u

  runs_there : (vs : List Act) (u : Term) (t : ℕ) → Stands [] body vs u → at (Begin (site (head u))) ≡ At t → Running (site (head u)) t u
  runs_there vs u t s e =
      let r = running (site (head u)) t e in
      let z = obeys.stands (site (head u)) r.0 t r.1 r.2 in
      let same : u ≡ r.1 = one_term s z.1 0 numbered (sym z.2) in
      record { scope = r.0; runs = r.2 ∙ ap (λ x. Runs r.0 t x) (sym same) }

  side_of : (b c : Spot) (s : SideAt body b c) (t : ℕ) → at c ≡ At t → ((j : ℕ) → at b ≡ At j → g.side number (site (head s.term)) ≡ s.first_side) × (at b ≡ Gone → g.side number (site (head s.term)) ≡ s.first_side → ⊥)
  side_of b c s t e =
      let q = site (head s.term) in
      let r = runs_there s.scope s.term t s.stands (ap at (sym s.begin_is) ∙ e) in
      let a = asks s.first_side (head s.term) b s.side_is in
      let d = turn.side q (record { scope = r.scope; begin = t; term = s.term; runs = r.runs }) a.0 a.1 in
      let k = obeys.side q r.scope t s.term a.0 r.runs a.1 in
      let w = took at t (view.decide q t r.scope a.0) s.first_side (head s.term) b k s.side_is in
      ((λ j x. d ∙ w.0 j x), (λ x y. w.1 x (sym d ∙ y)))

  -- the arm that the points name is that of the side
  same_arm : (b c : Spot) (s : SideAt body b c) (these : List Arm) (p : ℕ) (v : Bool) → arms b ≡ these ++ arm number p v ∷ [] → (site (head s.term) ≡ p) × (s.first_side ≡ v)
  same_arm b c s these p v e =
      let k = last_arm number arms s.first_side (head s.term) b s.side_is (arms_of_sides number arms body lies s.scope s.term s.stands) in
      let z = (same_from_push k.0 these (arm number (site (head s.term)) s.first_side) (arm number p v) (sym k.1 ∙ e)).1 in
      (ap (λ (x : Arm). x.site) z, ap (λ (x : Arm). x.yes) z)

  pub is_turn : IsTurn at body number node arms g
  is_turn = record {
    delay = λ b c s d f e h.
        let o = origin body b (Sync c) f in
        let r = runs_there o.scope o.term s o.stands (ap at (sym o.begin_is) ∙ e) in
        let y = (obeys.sync (site (head o.term)) r.scope s o.term o.port r.runs o.on_port (s + d)).0 (ap at (sym o.end_is) ∙ h) in
        ap (λ x. g.delay (node x)) o.end_is ∙ turn.delay (site (head o.term)) (record { scope = r.scope; begin = s; term = o.term; runs = r.runs }) o.port d o.on_port y;
    no_delay = λ b c s f e h.
        let o = origin body b (Sync c) f in
        let r = runs_there o.scope o.term s o.stands (ap at (sym o.begin_is) ∙ e) in
        ap (λ x. g.delay (node x)) o.end_is ∙ turn.no_delay (site (head o.term)) (record { scope = r.scope; begin = s; term = o.term; runs = r.runs }) o.port o.on_port (λ t y. h t (ap at o.end_is ∙ (obeys.sync (site (head o.term)) r.scope s o.term o.port r.runs o.on_port t).1 y));
    taken = λ b c these p t v f a e.
        let s = origin body b (Side c) f in
        let rule = obeys.rule b (Side c) f in
        let z = same_arm b c s these p v a in
        ap (λ x. g.side number x) (sym z.0) ∙ ((side_of b c s t (rule.up t e)).0 t e ∙ z.1);
    lost = λ b c these p t v f a e h k.
        let s = origin body b (Side c) f in
        let z = same_arm b c s these p v a in
        (side_of b c s t e).1 h (ap (λ x. g.side number x) z.0 ∙ (k ∙ sym z.1));
  }

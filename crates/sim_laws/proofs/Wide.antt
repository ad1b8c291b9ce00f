-- One cycle keeps the widths of what is kept.
use Rattle.std.proofs.Common.{◌≡◌, ℕ, ◌<◌, ◌≤◌, arith, refl, sym, ◌∙◌, ap, subst, List, [], ◌∷◌, length, Bool, true, false, if◌then◌else◌, ◌==◌, IsTrue, nat_lt, zero, suc, Option, Some, None}
use Rattle.std.specs.Prelude.{slice_set, slice_index_or}
use Rattle.std.specs.Prelude.{not}
use Rattle.std.proofs.Common.{get_or-set_other, length-set}
use Rattle.std.proofs.lemmas.List.{get_or_past}
use Rattle.std.proofs.lemmas.Bool.Decides.{nat_tests}
use Rattle.anvil_bits.specs.Number.{Number}
use Rattle.core_term.specs.declared.rows.InCell.{InCell}
use Rattle.core_term.specs.declared.rows.InCell.TheVariants as incoming
use Rattle.core_term.specs.Rows.{nth_cell, valid_in, ack_in, cell_fits, cells_fit}
use Rattle.core_term.specs.Process.{Port, nth_port}
use Rattle.core_term.specs.Sized.{parts_fit}
use Rattle.core_term.specs.Term.{Expr, Lit, Var, Reg, Not, Bin, Slice, Choose, Term, One, Then, Both, Act, Cycle, Set, Send, Recv, If, When, Block, Wait, Pure, Nothing, site}
use Rattle.core_term.specs.Widths.{Widths, expr_width}
use Rattle.run_laws.proofs.source_runs.Offers.{and_first, and_second}
use Rattle.sim_laws.specs.declared.act_state.ActState.{ActState}
use Rattle.sim_laws.specs.Advance.{Advanced, zero_bit, state_at, number_in, evaluate, does_of, taken_by, begin_state, go_on_state, visit_state, visit, end_state, close_with, close, timed, talked, waited_for, unit_of, word_of, is_chosen, then_on, later_made, advance, inside, advance_act}
use Rattle.sim_laws.specs.Typed.{kept_width, TakeFits, AreWide, last_width, Typed, TypedAct}
use Rattle.sim_laws.proofs.Touched.{state_set}

-- what was made has the width w
abbrev pub MadeWide : Option Number → ℕ → Type 0
MadeWide None w = Unit {0}
MadeWide (Some v) w = v.width ≡ kept_width w

-- the parts of the cycle that widths are told by
pub record WideNow (cells : List InCell) (regs : List Number) (ports : List Port) (widths : Widths) (list : List ℕ) : Type 0 where
  pub registers : (r : ℕ) → r < length regs → widths.registers r ≡ (slice_index_or regs r zero_bit).width
  pub ports_are : (m : ℕ) → widths.ports m ≡ (nth_port ports m).width
  pub variables : (y : ℕ) → widths.variables y ≡ slice_index_or list y 0
  pub fits : cells_fit ports cells ≡ true

kept_positive : (w : ℕ) → 0 < w → kept_width w ≡ w
kept_positive w l = let z : (w == 0) ≡ false = grind (arith, nat_tests) in rw z refl

-- a state that is written has its widths
record FitsAt (list : List ℕ) (widths : Widths) (p : ℕ) (m : ActState) : Type 0 where
  pub made : p < length list → m.made.width ≡ kept_width (slice_index_or list p 0)
  pub takes : m.begun ≡ true → TakeFits widths m.does m.taken

set_wide : (list : List ℕ) (widths : Widths) (acts : List ActState) (p : ℕ) (m : ActState) → p < length list → AreWide list widths acts → FitsAt list widths p m → AreWide list widths (slice_set acts p m)
set_wide list widths acts p m less k e = record {
  long = length-set acts p m ∙ k.long;
  made = λ y l. go y l (y == p) refl;
  takes = λ y. more y (y == p) refl;
}
  where
    there : state_at (slice_set acts p m) p ≡ m
    there = let long = k.long in state_set acts p m (omega arith)

    elsewhere : (y : ℕ) → (y == p) ≡ false → state_at (slice_set acts p m) y ≡ state_at acts y
    elsewhere y f = get_or-set_other acts p y m _ (λ i. let x : (y == p) ≡ true = grind (arith, nat_tests) in let w : true ≡ false = sym x ∙ f in cc)

    go : (y : ℕ) → y < length list → (b : Bool) → (y == p) ≡ b → (state_at (slice_set acts p m) y).made.width ≡ kept_width (slice_index_or list y 0)
    go y l true f = let z : y ≡ p = grind (arith, nat_tests) in rw z (ap (λ s. s.made.width) there ∙ e.made less)
    go y l false f = ap (λ s. s.made.width) (elsewhere y f) ∙ k.made y l

    more : (y : ℕ) → (b : Bool) → (y == p) ≡ b → (state_at (slice_set acts p m) y).begun ≡ true → TakeFits widths (state_at (slice_set acts p m) y).does (state_at (slice_set acts p m) y).taken
    more y true f =
        let z : y ≡ p = grind (arith, nat_tests) in
        let P : ActState → Type 0 = λ s. s.begun ≡ true → TakeFits widths s.does s.taken in
        subst P (sym (ap (state_at (slice_set acts p m)) z ∙ there)) e.takes
    more y false f =
        let P : ActState → Type 0 = λ s. s.begun ≡ true → TakeFits widths s.does s.taken in
        subst P (sym (elsewhere y f)) (k.takes y)

fits_at : (list : List ℕ) (widths : Widths) (acts : List ActState) (p : ℕ) → AreWide list widths acts → FitsAt list widths p (state_at acts p)
fits_at list widths acts p k = record { made = k.made p; takes = k.takes p }

close_wide : (list : List ℕ) (widths : Widths) (p : ℕ) (w : Option Number) (acts : List ActState) → p < length list → AreWide list widths acts → MadeWide w (slice_index_or list p 0) → AreWide list widths (close_with p w acts).acts
close_wide list widths p None acts less k e = k
close_wide list widths p (Some v) acts less k e = set_wide list widths acts p (end_state (state_at acts p) v) less k (record { made = λ l. e; takes = k.takes p })

close_made : (p : ℕ) (w : Option Number) (acts : List ActState) → (close_with p w acts).made ≡ w
close_made p None acts = refl
close_made p (Some v) acts = refl

module _ (cells : List InCell) (regs : List Number) (ports : List Port) (widths : Widths) (list : List ℕ) (now : WideNow cells regs ports widths list) where
  named : (y : ℕ) → nat_lt 0 (widths.variables y) ≡ true → (y < length list) × (kept_width (slice_index_or list y 0) ≡ widths.variables y)
  named y e = go (nat_lt y (length list)) refl
    where
      l : 0 < widths.variables y
      l = grind (arith, nat_tests)

      go : (b : Bool) → nat_lt y (length list) ≡ b → (y < length list) × (kept_width (slice_index_or list y 0) ≡ widths.variables y)
      go true f = let z : y < length list = grind (arith, nat_tests) in let v = now.variables y in let m : 0 < slice_index_or list y 0 = omega (arith, l, v) in (z, kept_positive (slice_index_or list y 0) m ∙ sym v)
      go false f = let z : length list ≤ y = grind (arith, nat_tests) in let v = now.variables y in let out = get_or_past list y 0 z in absurd (omega (arith, l, v, out))

  pub evaluate_wide : (acts : List ActState) → AreWide list widths acts → (e : Expr) → IsTrue (parts_fit (length regs) widths e) → (evaluate regs acts e).width ≡ expr_width widths e
  evaluate_wide acts k (Lit w n) fits = refl
  evaluate_wide acts k (Var y) fits = let z = named y fits in k.made y z.0 ∙ z.1
  evaluate_wide acts k (Reg r) fits = let z : nat_lt r (length regs) ≡ true = fits in sym (now.registers r (grind (arith, nat_tests)))
  evaluate_wide acts k (Not w e) fits = refl
  evaluate_wide acts k (Bin o w v a b) fits = refl
  evaluate_wide acts k (Slice y high low) fits = refl
  evaluate_wide acts k (Choose c a b) fits = evaluate_wide acts k a (and_first _ _ (and_second (parts_fit (length regs) widths c) _ fits))

  take_fits : (acts : List ActState) → AreWide list widths acts → (a : Act) → TypedAct (length list) (length regs) ports widths a → (old : Number) → TakeFits widths (does_of a) (taken_by regs acts a old)
  take_fits acts k (Set p r e) t old = evaluate_wide acts k e t.1 ∙ t.3
  take_fits acts k (Send p m e) t old = evaluate_wide acts k e t.1 ∙ t.3
  take_fits acts k (Cycle p n) t old = refl
  take_fits acts k (Recv p m) t old = refl
  take_fits acts k (If p e u v w) t old = refl
  take_fits acts k (When p e u) t old = refl
  take_fits acts k (Block p u) t old = refl
  take_fits acts k (Wait p y) t old = refl
  take_fits acts k (Pure p e) t old = refl
  take_fits acts k (Nothing p) t old = refl

  pub site_typed : (a : Act) → TypedAct (length list) (length regs) ports widths a → site a < length list
  site_typed (Cycle p n) t = t
  site_typed (Set p r e) t = t.0
  site_typed (Send p m e) t = t.0
  site_typed (Recv p m) t = t.0
  site_typed (If p e u v true) t = t.0
  site_typed (If p e u v false) t = t.0
  site_typed (When p e u) t = t.0
  site_typed (Block p u) t = t.0
  site_typed (Wait p y) t = t.0
  site_typed (Pure p e) t = t.0
  site_typed (Nothing p) t = t

  pub visit_wide : (a : Act) (acts : List ActState) → TypedAct (length list) (length regs) ports widths a → AreWide list widths acts → AreWide list widths (visit regs a acts)
  visit_wide a acts t k = set_wide list widths acts (site a) (visit_state regs acts a (state_at acts (site a))) (site_typed a t) k (go (state_at acts (site a)).begun refl)
    where
      go : (b : Bool) → (state_at acts (site a)).begun ≡ b → FitsAt list widths (site a) (if b then go_on_state (state_at acts (site a)) else begin_state regs acts a (state_at acts (site a)))
      go true e = record { made = k.made (site a); takes = λ b. k.takes (site a) e }
      go false e = record { made = k.made (site a); takes = λ b. take_fits acts k a t (state_at acts (site a)).taken }

  -- what a Pure has taken as it began has its width
  fresh_wide : (p : ℕ) (e : Expr) (acts : List ActState) → TypedAct (length list) (length regs) ports widths (Pure p e) → AreWide list widths acts → (state_at (visit regs (Pure p e) acts) p).fresh ≡ true → (state_at (visit regs (Pure p e) acts) p).taken.width ≡ expr_width widths e
  fresh_wide p e acts t k =
      let long = k.long in
      let there : state_at (visit regs (Pure p e) acts) p ≡ visit_state regs acts (Pure p e) (state_at acts p) = state_set acts p (visit_state regs acts (Pure p e) (state_at acts p)) (omega (arith, t.0)) in
      let P : ActState → Type 0 = λ s. s.fresh ≡ true → s.taken.width ≡ expr_width widths e in
      subst P (sym there) (go (state_at acts p).begun)
    where
      go : (b : Bool) → (if b then go_on_state (state_at acts p) else begin_state regs acts (Pure p e) (state_at acts p)).fresh ≡ true → (if b then go_on_state (state_at acts p) else begin_state regs acts (Pure p e) (state_at acts p)).taken.width ≡ expr_width widths e
      go true f = absurd cc
      go false f = evaluate_wide acts k e t.1

  abbrev Keeps : Advanced → ℕ → Type 0
  Keeps r w = AreWide list widths r.acts × MadeWide r.made w

  closes_wide : (p w : ℕ) (r : Advanced) → p < length list → widths.variables p ≡ w → Keeps r w → Keeps (close p r) w
  closes_wide p w r less e k =
      let v = now.variables p in
      (close_wide list widths p r.made r.acts less k.0 (subst (MadeWide r.made) (sym e ∙ v) k.1), subst (λ o. MadeWide o w) (sym (close_made p r.made r.acts)) k.1)

  made_at : (acts : List ActState) (p : ℕ) → AreWide list widths acts → p < length list → (state_at acts p).made.width ≡ kept_width (widths.variables p)
  made_at acts p k l = k.made p l ∙ ap kept_width (sym (now.variables p))

  timed_wide : (m : ActState) (w : ℕ) → m.made.width ≡ kept_width w → MadeWide (timed m) w
  timed_wide m w e = go (m.left == 0)
    where
      go : (b : Bool) → MadeWide (if b then Some m.made else None) w
      go true = e
      go false = tt

  talked_wide : (m : ActState) (on : Bool) (v : Number) (w : ℕ) → m.made.width ≡ kept_width w → (on ≡ true → v.width ≡ kept_width w) → MadeWide (talked m on v) w
  talked_wide m on v w e f = go m.ended on refl
    where
      go : (b c : Bool) → on ≡ c → MadeWide (if b then Some m.made else (if c then Some v else None)) w
      go true c g = e
      go false true g = f g
      go false false g = tt

  waited_wide : (m : ActState) (w : ℕ) → m.made.width ≡ kept_width w → MadeWide (waited_for m) w
  waited_wide m w e = go m.ended
    where
      go : (b : Bool) → MadeWide (if b then Some m.made else None) w
      go true = e
      go false = tt

  unit_wide : (o : Option Number) (v : Number) (w : ℕ) → v.width ≡ kept_width w → MadeWide (unit_of o v) w
  unit_wide None v w e = tt
  unit_wide (Some x) v w e = e

  received_width : (ports' : List Port) (cells' : List InCell) (m : ℕ) → cells_fit ports' cells' ≡ true → m < length ports' → (nth_port ports' m).received ≡ true → (number_in (nth_cell cells' m)).width ≡ (nth_port ports' m).width
  received_width [] cells' m fits l e = absurd (omega arith)
  received_width (port ∷ ports') [] m fits l e = absurd cc
  received_width (port ∷ ports') (incoming.Received valid v ∷ cells') zero fits l e = let z : (v.width == port.width) ≡ true = and_first (v.width == port.width) _ (and_second port.received _ (and_first _ _ fits)) in grind (arith, nat_tests)
  received_width (port ∷ ports') (incoming.Sent ack ∷ cells') zero fits l e = let z = and_first _ _ fits in let y : not port.received ≡ true = z in let x : not true ≡ true = ap not (sym e) ∙ y in absurd cc
  received_width (port ∷ ports') (cell ∷ cells') (suc m) fits l e = received_width ports' cells' m (and_second (cell_fits port cell) _ fits) (omega arith) e

  later_wide : (a b : Option Number) (w : ℕ) → MadeWide b w → MadeWide (later_made a b) w
  later_wide None b w k = tt
  later_wide (Some v) b w k = k

  then_wide : (o : Option Number) (acts : List ActState) (rest : List ActState → Advanced) (w : ℕ) → AreWide list widths acts → Keeps (rest acts) w → Keeps (then_on o acts rest) w
  then_wide None acts rest w k r = (k, tt)
  then_wide (Some v) acts rest w k r = r

  pick_wide : (b : Bool) (r r' : Advanced) (w w' v : ℕ) → w ≡ v → w' ≡ v → Keeps r w → Keeps r' w' → Keeps (if b then r else r') v
  pick_wide true r r' w w' v e f k l = subst (Keeps r) e k
  pick_wide false r r' w w' v e f k l = subst (Keeps r') f l

  unit_keeps : (p : ℕ) (r : Advanced) → p < length list → AreWide list widths r.acts → Keeps (word_of false p r) (widths.variables p)
  unit_keeps p r l k = (k, unit_wide r.made (state_at r.acts p).made (widths.variables p) (made_at r.acts p k l))

  mutual
    pub advance_wide : (t : Term) (acts : List ActState) → Typed (length list) (length regs) ports widths t → AreWide list widths acts → Keeps (advance cells regs t acts) (last_width widths t)
    advance_wide (One a) acts t k = closes_wide (site a) (widths.variables (site a)) (inside cells regs a (visit regs a acts)) (site_typed a t) refl (inside_wide a acts t k)
    advance_wide (Then a u) acts t k =
        let z = closes_wide (site a) (widths.variables (site a)) (inside cells regs a (visit regs a acts)) (site_typed a t.0) refl (inside_wide a acts t.0 k) in
        then_wide (close (site a) (inside cells regs a (visit regs a acts))).made (close (site a) (inside cells regs a (visit regs a acts))).acts (λ acts'. advance cells regs u acts') (last_width widths u) z.0
        (advance_wide u (close (site a) (inside cells regs a (visit regs a acts))).acts t.1 z.0)
    advance_wide (Both a u) acts t k =
        let z = closes_wide (site a) (widths.variables (site a)) (inside cells regs a (visit regs a acts)) (site_typed a t.0) refl (inside_wide a acts t.0 k) in
        let y = advance_wide u (close (site a) (inside cells regs a (visit regs a acts))).acts t.1 z.0 in
        (y.0, later_wide (close (site a) (inside cells regs a (visit regs a acts))).made (advance cells regs u (close (site a) (inside cells regs a (visit regs a acts))).acts).made (last_width widths u) y.1)

    inside_wide : (a : Act) (acts : List ActState) → TypedAct (length list) (length regs) ports widths a → AreWide list widths acts → Keeps (inside cells regs a (visit regs a acts)) (widths.variables (site a))
    inside_wide (Cycle p n) acts t k = let v = visit_wide (Cycle p n) acts t k in (v, timed_wide (state_at (visit regs (Cycle p n) acts) p) (widths.variables p) (made_at (visit regs (Cycle p n) acts) p v t))
    inside_wide (Set p r e) acts t k = let v = visit_wide (Set p r e) acts t k in (v, timed_wide (state_at (visit regs (Set p r e) acts) p) (widths.variables p) (made_at (visit regs (Set p r e) acts) p v t.0))
    inside_wide (Send p m e) acts t k =
        let v = visit_wide (Send p m e) acts t k in
        let w = made_at (visit regs (Send p m e) acts) p v t.0 in
        (v, talked_wide (state_at (visit regs (Send p m e) acts) p) (ack_in (nth_cell cells m)) (state_at (visit regs (Send p m e) acts) p).made (widths.variables p) w (λ g. w))
    inside_wide (Recv p m) acts t k =
        let v = visit_wide (Recv p m) acts t k in
        let w = made_at (visit regs (Recv p m) acts) p v t.0 in
        let x = received_width ports cells m now.fits t.1 t.2 in (
          v,
          talked_wide (state_at (visit regs (Recv p m) acts) p) (valid_in (nth_cell cells m)) (number_in (nth_cell cells m)) (widths.variables p) w
              (λ g. x ∙ (sym (now.ports_are m) ∙ (sym (kept_positive (widths.ports m) t.4) ∙ ap kept_width t.3))),
        )
    inside_wide (If p e u f true) acts t k =
        let v = visit_wide (If p e u f true) acts t k in
        pick_wide (is_chosen (visit regs (If p e u f true) acts) p) (advance cells regs u (visit regs (If p e u f true) acts)) (advance cells regs f (visit regs (If p e u f true) acts)) (last_width widths u) (last_width widths f) (widths.variables p) t.4 t.5
        (advance_wide u (visit regs (If p e u f true) acts) t.2 v) (advance_wide f (visit regs (If p e u f true) acts) t.3 v)
    inside_wide (If p e u f false) acts t k =
        let v = visit_wide (If p e u f false) acts t k in
        go (is_chosen (visit regs (If p e u f false) acts) p) (advance_wide u (visit regs (If p e u f false) acts) t.2 v).0 (advance_wide f (visit regs (If p e u f false) acts) t.3 v).0
      where
        go : (b : Bool) → AreWide list widths (advance cells regs u (visit regs (If p e u f false) acts)).acts → AreWide list widths (advance cells regs f (visit regs (If p e u f false) acts)).acts
            → Keeps (word_of false p (if b then advance cells regs u (visit regs (If p e u f false) acts) else advance cells regs f (visit regs (If p e u f false) acts))) (widths.variables p)
        go true x y = unit_keeps p (advance cells regs u (visit regs (If p e u f false) acts)) t.0 x
        go false x y = unit_keeps p (advance cells regs f (visit regs (If p e u f false) acts)) t.0 y
    inside_wide (When p e u) acts t k =
        let v = visit_wide (When p e u) acts t k in
        go (is_chosen (visit regs (When p e u) acts) p) (advance_wide u (visit regs (When p e u) acts) t.2 v).0 v
      where
        go : (b : Bool) → AreWide list widths (advance cells regs u (visit regs (When p e u) acts)).acts → AreWide list widths (visit regs (When p e u) acts)
            → Keeps (word_of false p (if b then advance cells regs u (visit regs (When p e u) acts) else record { made = Some zero_bit; acts = visit regs (When p e u) acts })) (widths.variables p)
        go true x y = unit_keeps p (advance cells regs u (visit regs (When p e u) acts)) t.0 x
        go false x y = unit_keeps p (record { made = Some zero_bit; acts = visit regs (When p e u) acts }) t.0 y
    inside_wide (Block p u) acts t k =
        let v = visit_wide (Block p u) acts t k in
        subst (Keeps (advance cells regs u (visit regs (Block p u) acts))) t.2 (advance_wide u (visit regs (Block p u) acts) t.1 v)
    inside_wide (Wait p y) acts t k =
        let v = visit_wide (Wait p y) acts t k in
        (v, waited_wide (state_at (visit regs (Wait p y) acts) y) (widths.variables p) (made_at (visit regs (Wait p y) acts) y v t.1 ∙ ap kept_width t.2))
    inside_wide (Pure p e) acts t k =
        let v = visit_wide (Pure p e) acts t k in (
          v,
          talked_wide (state_at (visit regs (Pure p e) acts) p) (state_at (visit regs (Pure p e) acts) p).fresh (state_at (visit regs (Pure p e) acts) p).taken (widths.variables p) (made_at (visit regs (Pure p e) acts) p v t.0)
              (λ g. fresh_wide p e acts t k g ∙ (t.2 ∙ sym (kept_positive (widths.variables p) t.3))),
        )
    inside_wide (Nothing p) acts t k = let v = visit_wide (Nothing p) acts t k in (v, made_at (visit regs (Nothing p) acts) p v t)

  -- an act and what it does, in one
  pub act_wide : (a : Act) (acts acts' : List ActState) → acts' ≡ (advance_act cells regs a acts).acts → TypedAct (length list) (length regs) ports widths a → AreWide list widths acts → AreWide list widths acts'
  act_wide a acts acts' e t k = subst (AreWide list widths) (sym e) (closes_wide (site a) (widths.variables (site a)) (inside cells regs a (visit regs a acts)) (site_typed a t) refl (inside_wide a acts t k)).0

  pub visited_wide : (a : Act) (acts acts' : List ActState) → acts' ≡ visit regs a acts → TypedAct (length list) (length regs) ports widths a → AreWide list widths acts → AreWide list widths acts'
  visited_wide a acts acts' e t k = subst (AreWide list widths) (sym e) (visit_wide a acts t k)

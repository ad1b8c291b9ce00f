-- The plans of the sides of an `if`, and what an `if` gives from what its sides give; an act with its own points.
--
-- The points inside a side lie in the arms of the `if` followed by that of the side. The nodes stand in the order: first side, what is in
-- it, second side, what is in it, end.
use Rattle.std.proofs.Common.{◌≡◌, ℕ, zero, suc, ◌+◌, ◌<◌, ◌≤◌, ◌⊎◌, inl, inr, arith, refl, sym, ◌∙◌, ap, subst, Bool, true, false, List, [], ◌∷◌, ◌++◌, length, length-append, append_assoc, Some, slice_get, set}
use Rattle.std.proofs.lemmas.List.{length-set}
use Rattle.order_rules.specs.Form.{Side, Merge}
use Rattle.core_term.specs.Term.{Expr, Term, Act, If, When, site}
use Rattle.core_term.specs.Points.{Spot, Begin, End, NoSide, ◌is◌}
use Rattle.core_term.specs.Numbering.{size, act_size}
use Rattle.core_term.proofs.code_tables.FirstSites.{act_site, act_size_positive}
use Rattle.event_graph.specs.declared.node.Arm.{Arm}
use Rattle.event_graph.specs.declared.node.Kind.TheVariants as kind
use Rattle.event_graph.specs.Event.{Event}
use Rattle.event_graph.specs.Forms.{delays}
use Rattle.elaborator.specs.declared.points.Points.{Points}
use Rattle.event_points.specs.Owned.{begin_of, end_of, owned, count, drawn, drawn_all}
use Rattle.event_points.specs.Placed.{Placed, Lies, arm}
use Rattle.elaborator.specs.Seen.{points_at}
use Rattle.elaborator.specs.Walk.{Plan, ActPlan, Written, Drawn, ActDrawn}
use Rattle.event_points.proofs.Steps.{length_owned}
use Rattle.event_points.proofs.Reading.{length_drawn}
use Rattle.event_points.proofs.OneTurn.{head_lies}
use Rattle.elaborator.proofs.Plans.{drawn_append, delays_append, written_then, written_to}

get_set_same : {X : Type 0} (xs : List X) (q : ℕ) (x : X) → q < length xs → slice_get (set xs q x) q ≡ Some x
get_set_same [] q x l = absurd (omega arith)
get_set_same (y ∷ xs) zero x l = refl
get_set_same (y ∷ xs) (suc q) x l = get_set_same xs q x (omega arith)

get_set_other : {X : Type 0} (xs : List X) (p q : ℕ) (x : X) → (q ≡ p → ⊥) → slice_get (set xs p x) q ≡ slice_get xs q
get_set_other [] p q x l = refl
get_set_other (y ∷ xs) zero zero x l = absurd (l refl)
get_set_other (y ∷ xs) zero (suc q) x l = refl
get_set_other (y ∷ xs) (suc p) zero x l = refl
get_set_other (y ∷ xs) (suc p) (suc q) x l = get_set_other xs p q x (λ e. l (ap (λ (z : ℕ). suc z) e))

same_or_not : (a b : ℕ) → (a ≡ b) ⊎ (a ≡ b → ⊥)
same_or_not a b = grind arith

written_own : (node : Spot → ℕ) (low high : ℕ) (old new : List Points) (begin end : ℕ) → node (Begin low) ≡ begin → node (End low) ≡ end → low < high → high ≤ length old → Written node (low + 1) high old new
    → Written node low high old (set new low (record { begin = begin; end = end }))
written_own node low high old new begin end b e l h w = record {
  length_is = length-set new low _ ∙ w.length_is;
  at = λ k i j. go k i j (same_or_not k low);
  kept = λ k i. get_set_other new low k _ (λ q. omega arith) ∙ w.kept k (omega arith);
}
  where
    own : record { begin = begin; end = end } ≡ points_at node low
    own = rw (b, e) refl

    inside : low < length new
    inside = let f = w.length_is in omega arith

    go : (k : ℕ) → low ≤ k → k < high → (k ≡ low) ⊎ (k ≡ low → ⊥) → slice_get (set new low (record { begin = begin; end = end })) k ≡ Some (points_at node k)
    go k i j (inl q) =
        let P : ℕ → Type 0 = λ z. slice_get (set new low (record { begin = begin; end = end })) z ≡ Some (points_at node z) in
        subst P (sym q) (get_set_same new low _ inside ∙ ap (λ (z : Points). Some z) own)
    go k i j (inr q) = get_set_other new low k _ q ∙ w.at k (omega arith) j

-- lists of nodes put one after the other
three : (old b1 b2 new ts : List Event) (x : Event) (rest : List Event) → b1 ≡ old ++ x ∷ [] → b2 ≡ b1 ++ ts → new ≡ b2 ++ rest → new ≡ old ++ (x ∷ ts ++ rest)
three old b1 b2 new ts x rest e f g = g ∙ (ap (λ (z : List Event). z ++ rest) (f ∙ ap (λ (z : List Event). z ++ ts) e) ∙ simp append_assoc)

pub length_pushed : (old new : List Event) (x : Event) → new ≡ old ++ x ∷ [] → length new ≡ length old + 1
length_pushed old new x e = ap length e ∙ length-append old (x ∷ [])

pub length_grown : (node : Spot → ℕ) (arms : Spot → List Arm) (old new : List Event) (t : Term) → new ≡ old ++ drawn_all node arms (owned t) → length new ≡ length old + count t
length_grown node arms old new t e = omega (arith, ap length e, length-append old (drawn_all node arms (owned t)), length_drawn node arms (owned t), length_owned t)

module _ {turn from begin : ℕ} {these : List Arm} {points : List Points} where
  -- an act whose inner points are written, and then its own
  pub act_drawn : (a : Act) (plan : ActPlan turn from begin these points a) (old new : List Event) (written : List Points) (q end : ℕ) → q ≡ site a → ActDrawn plan (plan.low + 1) old new written end → ActDrawn plan plan.low old new (set written q (record { begin = begin; end = end })) end
  act_drawn a plan old new written q end e d =
      let s : site a ≡ plan.low = act_site plan.scope plan.low a plan.numbered in
      let z = act_size_positive a in
      let P : ℕ → Type 0 = λ k. Written plan.node plan.low (plan.low + act_size a) points (set written k (record { begin = begin; end = end })) in
      let B : ℕ → Type 0 = λ k. plan.node (Begin k) ≡ begin in
      let E : ℕ → Type 0 = λ k. plan.node (End k) ≡ end in
      record { end_is = d.end_is; events = d.events; short = d.short; written = subst P (sym (e ∙ s)) (written_own plan.node plan.low (plan.low + act_size a) points written begin end (subst B s plan.begin_is) (subst E s (sym d.end_is)) (omega arith) plan.sites d.written) }

  pub site_inside : (a : Act) (plan : ActPlan turn from begin these points a) (old new : List Event) (written : List Points) (end : ℕ) → ActDrawn plan (plan.low + 1) old new written end → site a < length written
  site_inside a plan old new written end d =
      let s : site a ≡ plan.low = act_site plan.scope plan.low a plan.numbered in
      let z = act_size_positive a in
      let k = plan.sites in
      let f = d.written.length_is in
      omega arith

  -- the first side of an `if`
  abbrev pub when_inner : (p : ℕ) (e : Expr) (t : Term) (plan : ActPlan turn from begin these points (When p e t)) (m first : ℕ) (taken : List Arm) → first ≡ from → taken ≡ these ++ arm turn p true ∷ [] → m ≡ from + 1 → Plan turn m first taken points t
  when_inner p e t plan m first taken f g h = record {
    node = plan.node;
    arms = plan.arms;
    scope = plan.scope;
    low = plan.low + 1;
    numbered = plan.numbered.1;
    placed = let P : ℕ → Type 0 = λ z. Placed plan.node z t in subst P (sym h) plan.placed.1;
    lies = let P : List Arm → Type 0 = λ z. Lies turn plan.arms z t in subst P (sym g) plan.lies.0;
    begin_is = plan.placed.0 ∙ sym f;
    early = omega arith;
    made = λ y i. let k = plan.made y i in let j = k.0 in let l = k.1.early in (omega arith, record { early = omega arith; at = k.1.at });
    sites = let k = plan.sites in omega arith;
    room = let k = plan.room in omega arith;
  }

  abbrev pub if_first : (p : ℕ) (e : Expr) (t u : Term) (w : Bool) (plan : ActPlan turn from begin these points (If p e t u w)) (m first : ℕ) (taken : List Arm) → first ≡ from → taken ≡ these ++ arm turn p true ∷ [] → m ≡ from + 1 → Plan turn m first taken points t
  if_first p e t u w plan m first taken f g h = record {
    node = plan.node;
    arms = plan.arms;
    scope = plan.scope;
    low = plan.low + 1;
    numbered = plan.numbered.1;
    placed = let P : ℕ → Type 0 = λ z. Placed plan.node z t in subst P (sym h) plan.placed.1;
    lies = let P : List Arm → Type 0 = λ z. Lies turn plan.arms z t in subst P (sym g) plan.lies.0;
    begin_is = plan.placed.0 ∙ sym f;
    early = omega arith;
    made = λ y i. let k = plan.made y i in let j = k.0 in let l = k.1.early in (omega arith, record { early = omega arith; at = k.1.at });
    sites = let k = plan.sites in omega arith;
    room = let k = plan.room in omega arith;
  }

  -- the second side, after the first
  abbrev pub if_second : (p : ℕ) (e : Expr) (t u : Term) (w : Bool) (plan : ActPlan turn from begin these points (If p e t u w)) (written : List Points) (m second : ℕ) (others : List Arm) → Written plan.node (plan.low + 1) (plan.low + 1 + size t) points written
      → second ≡ from + 1 + count t → others ≡ these ++ arm turn p false ∷ [] → m ≡ from + 1 + count t + 1 → Plan turn m second others written u
  if_second p e t u w plan written m second others v f g h = record {
    node = plan.node;
    arms = plan.arms;
    scope = plan.scope;
    low = plan.low + (1 + size t);
    numbered = plan.numbered.2;
    placed = let P : ℕ → Type 0 = λ z. Placed plan.node z u in subst P (sym h) plan.placed.3;
    lies = let P : List Arm → Type 0 = λ z. Lies turn plan.arms z u in subst P (sym g) plan.lies.1;
    begin_is = plan.placed.2 ∙ sym f;
    early = omega arith;
    made = λ y i. let k = plan.made y i in let j = k.0 in let l = k.1.early in (omega arith, record { early = omega arith; at = v.kept y (omega arith) ∙ k.1.at });
    sites = let k = plan.sites in let l = v.length_is in omega arith;
    room = let k = plan.room in omega arith;
  }

  pub when_drawn : (p : ℕ) (e : Expr) (t : Term) (plan : ActPlan turn from begin these points (When p e t)) (old b1 b2 b3 new : List Event) (written : List Points) (m first first_end second end : ℕ) (taken others : List Arm) → length old ≡ from
      → (f : first ≡ from) (g : taken ≡ these ++ arm turn p true ∷ []) (h : m ≡ from + 1) → b1 ≡ old ++ record { kind = kind.Side; preds = begin ∷ []; arms = these ++ arm turn p true ∷ [] } ∷ [] → Drawn (when_inner p e t plan m first taken f g h) b1 b2 written first_end
      → second ≡ length b2 → b3 ≡ b2 ++ record { kind = kind.Side; preds = begin ∷ []; arms = these ++ arm turn p false ∷ [] } ∷ [] → end ≡ length b3 → new ≡ b3 ++ record { kind = kind.Merge; preds = first_end ∷ second ∷ []; arms = these } ∷ []
      → ActDrawn plan (plan.low + 1) old new written end
  when_drawn p e t plan old b1 b2 b3 new written m first first_end second end taken others l f g h i d s j n k =
      let ts = drawn_all plan.node plan.arms (owned t) in
      let one = begin_of t is Side (Begin p) in
      let two = NoSide p is Side (Begin p) in
      let merge = End p is Merge (end_of t) (NoSide p) in
      let x = drawn plan.node plan.arms one in
      let y = drawn plan.node plan.arms two in
      let z = drawn plan.node plan.arms merge in
      let l1 = length_pushed old b1 _ i in
      let l2 = length_grown plan.node plan.arms b1 b2 t d.events in
      let l3 = length_pushed b2 b3 _ j in
      let at_two : second ≡ plan.node (NoSide p) = let q = plan.placed.2 in omega arith in
      let at_end : end ≡ plan.node (End p) = let q = plan.placed.3 in omega arith in
      let lies = head_lies turn plan.arms (these ++ arm turn p true ∷ []) t plan.lies.0 in
      let same_one : record { kind = kind.Side; preds = begin ∷ []; arms = these ++ arm turn p true ∷ [] } ≡ x = rw (lies.term_begin, plan.begin_is) refl in
      let same_two : record { kind = kind.Side; preds = begin ∷ []; arms = these ++ arm turn p false ∷ [] } ≡ y = rw (plan.lies.1, plan.begin_is) refl in
      let same_merge : record { kind = kind.Merge; preds = first_end ∷ second ∷ []; arms = these } ≡ z = rw (d.end_is, at_two, plan.head.end) refl in
      let i' : b1 ≡ old ++ x ∷ [] = i ∙ ap (λ (v : Event). old ++ v ∷ []) same_one in
      let last : new ≡ b2 ++ (y ∷ z ∷ []) = k ∙ (ap (λ (v : Event). b3 ++ v ∷ []) same_merge ∙ (ap (λ (v : List Event). v ++ z ∷ []) (j ∙ ap (λ (v : Event). b2 ++ v ∷ []) same_two) ∙ append_assoc b2 (y ∷ []) (z ∷ []))) in
      let f' : drawn_all plan.node plan.arms (owned t ++ (two ∷ merge ∷ [])) ≡ ts ++ (y ∷ z ∷ []) = drawn_append plan.node plan.arms (owned t) (two ∷ merge ∷ []) in
      record {
        end_is = at_end;
        events = three old b1 b2 new ts x (y ∷ z ∷ []) i' d.events last ∙ ap (λ (v : List Event). old ++ x ∷ v) (sym f');
        short = let q = d.short in let r = ap delays f' in let o = delays_append ts (y ∷ z ∷ []) in omega arith;
        written = written_to plan.node (plan.low + 1) (plan.low + 1) (plan.low + 1 + size t) (plan.low + (1 + size t)) points written refl (omega arith) d.written;
      }

  pub if_drawn : (p : ℕ) (e : Expr) (t u : Term) (w : Bool) (plan : ActPlan turn from begin these points (If p e t u w)) (old b1 b2 b3 b4 new : List Event) (between written : List Points) (m first first_end m' second second_end end : ℕ) (taken others : List Arm) → length old ≡ from
      → (f : first ≡ from) (g : taken ≡ these ++ arm turn p true ∷ []) (h : m ≡ from + 1) → b1 ≡ old ++ record { kind = kind.Side; preds = begin ∷ []; arms = these ++ arm turn p true ∷ [] } ∷ [] → (d : Drawn (if_first p e t u w plan m first taken f g h) b1 b2 between first_end)
      → (f' : second ≡ from + 1 + count t) (g' : others ≡ these ++ arm turn p false ∷ []) (h' : m' ≡ from + 1 + count t + 1) → b3 ≡ b2 ++ record { kind = kind.Side; preds = begin ∷ []; arms = these ++ arm turn p false ∷ [] } ∷ []
      → Drawn (if_second p e t u w plan between m' second others d.written f' g' h') b3 b4 written second_end → end ≡ length b4 → new ≡ b4 ++ record { kind = kind.Merge; preds = first_end ∷ second_end ∷ []; arms = these } ∷ []
      → ActDrawn plan (plan.low + 1) old new written end
  if_drawn p e t u w plan old b1 b2 b3 b4 new between written m first first_end m' second second_end end taken others l f g h i d f' g' h' j r n k =
      let ts = drawn_all plan.node plan.arms (owned t) in
      let us = drawn_all plan.node plan.arms (owned u) in
      let one = begin_of t is Side (Begin p) in
      let two = begin_of u is Side (Begin p) in
      let merge = End p is Merge (end_of t) (end_of u) in
      let x = drawn plan.node plan.arms one in
      let y = drawn plan.node plan.arms two in
      let z = drawn plan.node plan.arms merge in
      let l1 = length_pushed old b1 _ i in
      let l2 = length_grown plan.node plan.arms b1 b2 t d.events in
      let l3 = length_pushed b2 b3 _ j in
      let l4 = length_grown plan.node plan.arms b3 b4 u r.events in
      let at_end : end ≡ plan.node (End p) = let q = plan.placed.4 in omega arith in
      let lies = head_lies turn plan.arms (these ++ arm turn p true ∷ []) t plan.lies.0 in
      let lies' = head_lies turn plan.arms (these ++ arm turn p false ∷ []) u plan.lies.1 in
      let same_one : record { kind = kind.Side; preds = begin ∷ []; arms = these ++ arm turn p true ∷ [] } ≡ x = rw (lies.term_begin, plan.begin_is) refl in
      let same_two : record { kind = kind.Side; preds = begin ∷ []; arms = these ++ arm turn p false ∷ [] } ≡ y = rw (lies'.term_begin, plan.begin_is) refl in
      let same_merge : record { kind = kind.Merge; preds = first_end ∷ second_end ∷ []; arms = these } ≡ z = rw (d.end_is, r.end_is, plan.head.end) refl in
      let i' : b1 ≡ old ++ x ∷ [] = i ∙ ap (λ (v : Event). old ++ v ∷ []) same_one in
      let j' : b3 ≡ b2 ++ y ∷ [] = j ∙ ap (λ (v : Event). b2 ++ v ∷ []) same_two in
      let k' : new ≡ b4 ++ z ∷ [] = k ∙ ap (λ (v : Event). b4 ++ v ∷ []) same_merge in
      let last : new ≡ b2 ++ (y ∷ us ++ (z ∷ [])) = three b2 b3 b4 new us y (z ∷ []) j' r.events k' in
      let o : drawn_all plan.node plan.arms (owned t ++ (two ∷ owned u ++ merge ∷ [])) ≡ ts ++ (y ∷ us ++ (z ∷ [])) =
      drawn_append plan.node plan.arms (owned t) (two ∷ owned u ++ merge ∷ []) ∙ ap (λ (v : List Event). ts ++ y ∷ v) (drawn_append plan.node plan.arms (owned u) (merge ∷ [])) in
      record {
        end_is = at_end;
        events = three old b1 b2 new ts x (y ∷ us ++ (z ∷ [])) i' d.events last ∙ ap (λ (v : List Event). old ++ x ∷ v) (sym o);
        short = let q = d.short in let q' = r.short in let v = ap delays o in let c = delays_append ts (y ∷ us ++ (z ∷ [])) in let c' = delays_append us (z ∷ []) in omega arith;
        written = written_to plan.node (plan.low + 1) (plan.low + 1) (plan.low + (1 + size t) + size u) (plan.low + (1 + (size t + size u))) points written refl (omega arith)
            (written_then plan.node (plan.low + 1) (plan.low + (1 + size t)) (plan.low + (1 + size t) + size u) points between written (omega arith) (written_to plan.node (plan.low + 1) (plan.low + 1) (plan.low + 1 + size t) (plan.low + (1 + size t)) points between refl (omega arith) d.written) r.written);
      }

-- The nodes and the arms that the table gives are those of the graph.
--
-- By induction over the term: since the sites of a numbered term go up in tree order, the entries of a part stand in the table
-- from its first site on.
use Rattle.std.proofs.Common.{◌≡◌, ℕ, suc, ◌+◌, arith, refl, sym, ◌∙◌, ap, subst, true, false, List, [], ◌∷◌, ◌++◌, length, length-append, slice_get, Some}
use Rattle.core_term.specs.Term.{Term, One, Then, Both, Act, Cycle, Set, Send, Recv, If, When, Block, Wait, Pure, Nothing, site}
use Rattle.core_term.specs.Points.{Spot, TermEnd, Begin, End, NoSide}
use Rattle.core_term.specs.Numbering.{size, act_size, Numbered, NumberedAct}
use Rattle.core_term.proofs.code_tables.FirstSites.{act_site}
use Rattle.event_graph.specs.declared.node.Arm.{Arm}
use Rattle.event_points.specs.Owned.{begin_of, end_of, count, count_of}
use Rattle.event_points.specs.Placed.{Placed, PlacedAct, Lies, LiesAct, HeadLies, arm}
use Rattle.event_points.specs.Table.{Entry, entries, inner, end_node, act_end, no_side, entry_at, entry_or, node_in, arms_in}

mutual
  pub length_entries : (turn from begin : ℕ) (arms : List Arm) (t : Term) → length (entries turn from begin arms t) ≡ size t
  length_entries turn from begin arms (One a) = omega (arith, length_inner turn from begin arms a)
  length_entries turn from begin arms (Then a t) =
      let rest = entries turn (from + count_of a) (act_end from begin a) arms t in
      omega (arith, length-append (inner turn from begin arms a) rest, length_inner turn from begin arms a, length_entries turn (from + count_of a) (act_end from begin a) arms t)
  length_entries turn from begin arms (Both a t) =
      let rest = entries turn (from + count_of a) begin arms t in
      omega (arith, length-append (inner turn from begin arms a) rest, length_inner turn from begin arms a, length_entries turn (from + count_of a) begin arms t)

  length_inner : (turn from begin : ℕ) (arms : List Arm) (a : Act) → length (inner turn from begin arms a) + 1 ≡ act_size a
  length_inner turn from begin arms (Cycle p n) = refl
  length_inner turn from begin arms (Set p r e) = refl
  length_inner turn from begin arms (Send p m e) = refl
  length_inner turn from begin arms (Recv p m) = refl
  length_inner turn from begin arms (If p e t u w) =
      let these = arms ++ arm turn p true ∷ [] in
      let others = arms ++ arm turn p false ∷ [] in
      omega (arith, length-append (entries turn (from + 1) from these t) (entries turn (from + 1 + count t + 1) (from + 1 + count t) others u), length_entries turn (from + 1) from these t, length_entries turn (from + 1 + count t + 1) (from + 1 + count t) others u)
  length_inner turn from begin arms (When p e t) = omega (arith, length_entries turn (from + 1) from (arms ++ arm turn p true ∷ []) t)
  length_inner turn from begin arms (Block p t) = omega (arith, length_entries turn from begin arms t)
  length_inner turn from begin arms (Wait p y) = refl
  length_inner turn from begin arms (Pure p e) = refl
  length_inner turn from begin arms (Nothing p) = refl

module _ (turn : ℕ) (table : List Entry) where
  abbrev node : Spot → ℕ
  node = node_in table

  abbrev arms_of : Spot → List Arm
  arms_of = arms_in turn table

  -- these entries stand in the table from low on
  abbrev pub Holds : ℕ → List Entry → Type 0
  Holds low [] = Unit {0}
  Holds low (e ∷ es) = (entry_at table low ≡ e) × Holds (suc low) es

  holds_left : (low : ℕ) (es fs : List Entry) → Holds low (es ++ fs) → Holds low es
  holds_left low [] fs h = tt
  holds_left low (e ∷ es) fs h = (h.0, holds_left (suc low) es fs h.1)

  holds_right : (low m : ℕ) (es fs : List Entry) → low + length es ≡ m → Holds low (es ++ fs) → Holds m fs
  holds_right low m [] fs e h = let P : ℕ → Type 0 = λ z. Holds z fs in let f : low ≡ m = omega arith in subst P f h
  holds_right low m (x ∷ es) fs e h = holds_right (suc low) m es fs (omega arith) h.1

  holds_at : (low m : ℕ) (es : List Entry) → low ≡ m → Holds low es → Holds m es
  holds_at low m es e h = let P : ℕ → Type 0 = λ z. Holds z es in subst P e h

  from_reads : (low : ℕ) (es : List Entry) → ((k : ℕ) → slice_get table (low + k) ≡ slice_get es k) → Holds low es
  from_reads low [] r = tt
  from_reads low (e ∷ es) r =
      let P : ℕ → Type 0 = λ z. slice_get table z ≡ Some e in
      let z : low + 0 ≡ low = omega arith in
      (ap entry_or (subst P z (r 0)), from_reads (suc low) es (λ k. let Q : ℕ → Type 0 = λ z. slice_get table z ≡ slice_get es k in let y : low + suc k ≡ suc low + k = omega arith in subst Q y (r (suc k))))

  -- the first entry of a term tells its begin and its end
  begin_is : (low from begin : ℕ) (arms : List Arm) (vs : List _) (t : Term) → Numbered vs low t → Holds low (entries turn from begin arms t) → node (begin_of t) ≡ begin
  begin_is low from begin arms vs (One a) n h = let e : site a ≡ low = act_site vs low a n in rw e (ap (λ (z : Entry). z.begin) h.0)
  begin_is low from begin arms vs (Then a t) n h = let e : site a ≡ low = act_site vs low a n.0 in rw e (ap (λ (z : Entry). z.begin) h.0)
  begin_is low from begin arms vs (Both a t) n h = let e : site a ≡ low = act_site vs low a n.0 in rw e (ap (λ (z : Entry). z.begin) h.0)

  end_is : (low from begin : ℕ) (arms : List Arm) (vs : List _) (t : Term) → Numbered vs low t → Holds low (entries turn from begin arms t) → node (end_of t) ≡ end_node from begin t
  end_is low from begin arms vs (One a) n h = let e : site a ≡ low = act_site vs low a n in rw e (ap (λ (z : Entry). z.term_end) h.0)
  end_is low from begin arms vs (Then a t) n h = let e : site a ≡ low = act_site vs low a n.0 in rw e (ap (λ (z : Entry). z.term_end) h.0)
  end_is low from begin arms vs (Both a t) n h = let e : site a ≡ low = act_site vs low a n.0 in rw e (ap (λ (z : Entry). z.term_end) h.0)

  -- what the entry of an act tells
  record Head (from begin term_end : ℕ) (arms : List Arm) (a : Act) : Type 0 where
    term_at : node (TermEnd (site a)) ≡ term_end
    begin_at : node (Begin (site a)) ≡ begin
    end_at : node (End (site a)) ≡ act_end from begin a
    no_at : node (NoSide (site a)) ≡ no_side from a
    arms_at : (entry_at table (site a)).arms ≡ arms

  head_of : (low from begin term_end : ℕ) (arms : List Arm) (a : Act) → site a ≡ low → entry_at table low ≡ record { begin = begin; end = act_end from begin a; term_end = term_end; no_side = no_side from a; arms = arms } → Head from begin term_end arms a
  head_of low from begin term_end arms a e h =
      let k : entry_at table (site a) ≡ record { begin = begin; end = act_end from begin a; term_end = term_end; no_side = no_side from a; arms = arms } = rw e h in
      record { term_at = ap (λ (z : Entry). z.term_end) k; begin_at = ap (λ (z : Entry). z.begin) k; end_at = ap (λ (z : Entry). z.end) k; no_at = ap (λ (z : Entry). z.no_side) k; arms_at = ap (λ (z : Entry). z.arms) k }

  lies_here : (from begin term_end : ℕ) (arms : List Arm) (a : Act) → Head from begin term_end arms a → HeadLies arms_of arms (site a)
  lies_here from begin term_end arms a h = record { term_begin = h.arms_at; begin = h.arms_at; end = h.arms_at; term_end = h.arms_at }

  mutual
    pub told : (low from begin : ℕ) (arms : List Arm) (vs : List Act) (t : Term) → Numbered vs low t → Holds low (entries turn from begin arms t) → Placed node from t × Lies turn arms_of arms t
    told low from begin arms vs (One a) n h =
        let e = act_site vs low a n in
        let k = head_of low from begin _ arms a e h.0 in
        let z = told_act low from begin _ arms vs a n k h.1 in
        ((refl, k.term_at ∙ sym k.end_at, z.0), (lies_here from begin _ arms a k, z.1))
    told low from begin arms vs (Then a t) n h =
        let e = act_site vs low a n.0 in
        let rest = entries turn (from + count_of a) (act_end from begin a) arms t in
        let k = head_of low from begin _ arms a e h.0 in
        let l = length_inner turn from begin arms a in
        let z = told_act low from begin _ arms vs a n.0 k (holds_left (suc low) (inner turn from begin arms a) rest h.1) in
        let y : suc low + length (inner turn from begin arms a) ≡ low + act_size a = omega arith in
        let g = holds_right (suc low) (low + act_size a) (inner turn from begin arms a) rest y h.1 in
        let w = told (low + act_size a) (from + count_of a) (act_end from begin a) arms (a ∷ vs) t n.1 g in
        let b = begin_is (low + act_size a) (from + count_of a) (act_end from begin a) arms (a ∷ vs) t n.1 g in
        let f = end_is (low + act_size a) (from + count_of a) (act_end from begin a) arms (a ∷ vs) t n.1 g in
        ((refl, b ∙ sym k.end_at, k.term_at ∙ sym f, z.0, w.0), (lies_here from begin _ arms a k, z.1, w.1))
    told low from begin arms vs (Both a t) n h =
        let e = act_site vs low a n.0 in
        let rest = entries turn (from + count_of a) begin arms t in
        let k = head_of low from begin _ arms a e h.0 in
        let l = length_inner turn from begin arms a in
        let z = told_act low from begin _ arms vs a n.0 k (holds_left (suc low) (inner turn from begin arms a) rest h.1) in
        let y : suc low + length (inner turn from begin arms a) ≡ low + act_size a = omega arith in
        let g = holds_right (suc low) (low + act_size a) (inner turn from begin arms a) rest y h.1 in
        let w = told (low + act_size a) (from + count_of a) begin arms (a ∷ vs) t n.1 g in
        let b = begin_is (low + act_size a) (from + count_of a) begin arms (a ∷ vs) t n.1 g in
        ((refl, b ∙ sym k.begin_at, k.term_at, z.0, w.0), (lies_here from begin _ arms a k, z.1, w.1))

    told_act : (low from begin term_end : ℕ) (arms : List Arm) (vs : List Act) (a : Act) → NumberedAct vs low a → Head from begin term_end arms a → Holds (suc low) (inner turn from begin arms a) → PlacedAct node from a × LiesAct turn arms_of arms a
    told_act low from begin term_end arms vs (Cycle p c) n k h = (k.end_at, tt)
    told_act low from begin term_end arms vs (Set p r e) n k h = (k.end_at, tt)
    told_act low from begin term_end arms vs (Send p m e) n k h = (k.end_at, tt)
    told_act low from begin term_end arms vs (Recv p m) n k h = (k.end_at, tt)
    told_act low from begin term_end arms vs (If p e t u w) n k h =
        let these = arms ++ arm turn p true ∷ [] in
        let others = arms ++ arm turn p false ∷ [] in
        let es = entries turn (from + 1) from these t in
        let fs = entries turn (from + 1 + count t + 1) (from + 1 + count t) others u in
        let l = length_entries turn (from + 1) from these t in
        let e1 : suc low ≡ low + 1 = omega arith in
        let e2 : suc low + length es ≡ low + (1 + size t) = omega arith in
        let g = holds_at (suc low) (low + 1) es e1 (holds_left (suc low) es fs h) in
        let f = holds_right (suc low) (low + (1 + size t)) es fs e2 h in
        let y = told (low + 1) (from + 1) from these vs t n.1 g in
        let z = told (low + (1 + size t)) (from + 1 + count t + 1) (from + 1 + count t) others vs u n.2 f in
        ((begin_is (low + 1) (from + 1) from these vs t n.1 g, y.0, begin_is (low + (1 + size t)) (from + 1 + count t + 1) (from + 1 + count t) others vs u n.2 f, z.0, k.end_at), (y.1, z.1))
    told_act low from begin term_end arms vs (When p e t) n k h =
        let these = arms ++ arm turn p true ∷ [] in
        let es = entries turn (from + 1) from these t in
        let e1 : suc low ≡ low + 1 = omega arith in
        let g = holds_at (suc low) (low + 1) es e1 h in
        let y = told (low + 1) (from + 1) from these vs t n.1 g in
        ((begin_is (low + 1) (from + 1) from these vs t n.1 g, y.0, k.no_at, k.end_at), (y.1, ap (λ (z : List Arm). z ++ arm turn p false ∷ []) k.arms_at))
    told_act low from begin term_end arms vs (Block p t) n k h =
        let es = entries turn from begin arms t in
        let e1 : suc low ≡ low + 1 = omega arith in
        let g = holds_at (suc low) (low + 1) es e1 h in
        let y = told (low + 1) from begin arms vs t n.1 g in
        ((begin_is (low + 1) from begin arms vs t n.1 g ∙ sym k.begin_at, k.end_at ∙ sym (end_is (low + 1) from begin arms vs t n.1 g), y.0), y.1)
    told_act low from begin term_end arms vs (Wait p y) n k h = (k.end_at, tt)
    told_act low from begin term_end arms vs (Pure p e) n k h = (k.end_at ∙ sym k.begin_at, tt)
    told_act low from begin term_end arms vs (Nothing p) n k h = (k.end_at ∙ sym k.begin_at, tt)

-- the table of a numbered body tells the nodes and arms of all points of a turn
pub body_told : (turn from begin : ℕ) (t : Term) → Numbered [] 0 t → Placed (node_in (entries turn from begin [] t)) from t × Lies turn (arms_in turn (entries turn from begin [] t)) [] t
body_told turn from begin t n =
    let table = entries turn from begin [] t in
    told turn table 0 from begin [] [] t n (from_reads turn table 0 table (λ k. let z : 0 + k ≡ k = omega arith in ap (λ (j : ℕ). slice_get table j) z))

pub body_begin : (turn from begin : ℕ) (t : Term) → Numbered [] 0 t → node_in (entries turn from begin [] t) (begin_of t) ≡ begin
body_begin turn from begin t n =
    let table = entries turn from begin [] t in
    begin_is turn table 0 from begin [] [] t n (from_reads turn table 0 table (λ k. let z : 0 + k ≡ k = omega arith in ap (λ (j : ℕ). slice_get table j) z))

pub body_end : (turn from begin : ℕ) (t : Term) → Numbered [] 0 t → node_in (entries turn from begin [] t) (end_of t) ≡ end_node from begin t
body_end turn from begin t n =
    let table = entries turn from begin [] t in
    end_is turn table 0 from begin [] [] t n (from_reads turn table 0 table (λ k. let z : 0 + k ≡ k = omega arith in ap (λ (j : ℕ). slice_get table j) z))

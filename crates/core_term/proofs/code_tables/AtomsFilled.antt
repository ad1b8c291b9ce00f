-- The tables of atoms are exactly the sources of the text.
--
-- By induction over the code's terms. What is kept is that the table so far knows the variables in scope: the row of each is
-- exactly its sources. A variable in scope has a site below those that are still to come, so its row stays.
use Rattle.std.proofs.Common.{◌≡◌, ℕ, ◌+◌, ◌<◌, inl, inr, refl, sym, ◌∙◌, ap, subst, arith, true, false, ◌==◌, List, [], ◌∷◌, ◌++◌, length, zero, suc, Some, None}
use Rattle.std.proofs.lemmas.Bool.Decides.{nat_tests}
use Rattle.std.proofs.lemmas.List.{length-append}
use Rattle.core_term.specs.declared.term.SourceAtom.{SourceAtom}
use Rattle.core_term.specs.declared.term.SourceAtom.TheVariants.{Wire, Reg, Choice}
use Rattle.core_term.specs.declared.term.CoreExpr as expr
use Rattle.core_term.specs.declared.term.CoreExpr.{CoreExpr}
use Rattle.core_term.specs.declared.term.CoreTerm.{CoreTerm, One', Then', Both'}
use Rattle.core_term.specs.declared.term.CoreKind.{CoreKind, Cycle, Set, Send, Recv, If', Block', Wait, Pure, Unit, None', Some'}
use Rattle.core_term.specs.Lists.{Has}
use Rattle.core_term.specs.Term as term
use Rattle.core_term.specs.Term.{Term, Act, site}
use Rattle.core_term.specs.Numbering.{OneOf, InScope, Numbered, NumberedAct, size, act_size}
use Rattle.core_term.specs.Widths.{Widths}
use Rattle.core_term.specs.View.{expr_of, term_of, act_of, after_act}
use Rattle.core_term.specs.Sources.{Source, ChoiceOf, bind_sources, expr_sources, sources, act_sources, sources_in}
use Rattle.core_term.specs.Atoms.{source_of, AreAtoms, each_act, each_act_in, AreAll}
use Rattle.core_term.specs.AtomTables.{Table, settled, row_at, put_row, expr_atoms, last_site, close_block, close_if, add_values, add_value}
use Rattle.core_term.proofs.code_tables.FirstSites.{act_site}
use Rattle.core_term.proofs.code_tables.Fits.{has_left, has_right, has_either}
use Rattle.core_term.proofs.code_tables.Settled.{settled_ascends, settled_has, has_settled}

-- Rows that have exactly some sources, in any order.

pub record Same (atoms : List SourceAtom) (from : List Source) : Type 0 where
  pub sound : (atom : SourceAtom) → Has atoms atom → Has from (source_of atom)
  pub whole : (source : Source) → Has from source → (atom : SourceAtom) × Has atoms atom × (source_of atom ≡ source)

pub are_atoms : (atoms : List SourceAtom) (from : List Source) → Same atoms from → AreAtoms (settled atoms) from
are_atoms atoms from same = record {
  ascending = settled_ascends atoms;
  sound = λ atom has. same.sound atom (settled_has atoms atom has);
  whole = λ source has. let found = same.whole source has in (found.0, has_settled atoms found.0 found.1, found.2);
}

pub same_row : (atoms : List SourceAtom) (from : List Source) → AreAtoms atoms from → Same atoms from
same_row atoms from are = record { sound = are.sound; whole = are.whole }

none : Same [] []
none = record { sound = λ atom has. elim has [ ]; whole = λ source has. elim has [ ] }

one : (atom : SourceAtom) → Same (atom ∷ []) (source_of atom ∷ [])
one atom = record {
  sound = λ other has. elim has [ inl is ↦ inl (ap source_of is) | inr i ↦ elim i [ ] ];
  whole = λ source has. elim has [ inl is ↦ (atom, inl refl, sym is) | inr i ↦ elim i [ ] ];
}

both : (these those : List SourceAtom) (from others : List Source) → Same these from → Same those others → Same (these ++ those) (from ++ others)
both these those from others same same' = record {
  sound = λ atom has. elim (has_either these those atom has) [
    | inl i ↦ has_left from others (source_of atom) (same.sound atom i)
    | inr i ↦ has_right from others (source_of atom) (same'.sound atom i)
  ];
  whole = λ source has. elim (has_either from others source has) [
    | inl i ↦ let found = same.whole source i in (found.0, has_left these those found.0 found.1, found.2)
    | inr i ↦ let found = same'.whole source i in (found.0, has_right these those found.0 found.1, found.2)
  ];
}

-- Tables.

stays : (table more : Table) (y : ℕ) → y < length table → row_at (table ++ more) y ≡ row_at table y
stays [] more y l = absurd (omega arith)
stays (row ∷ rows) more zero l = refl
stays (row ∷ rows) more (suc y) l = stays rows more y (omega arith)

comes_next : (table : Table) (row : List SourceAtom) (more : Table) → row_at (table ++ row ∷ more) (length table) ≡ row
comes_next [] row more = refl
comes_next (first ∷ rest) row more = comes_next rest row more

put_next : (table : Table) (row new : List SourceAtom) (more : Table) → put_row (table ++ row ∷ more) (length table) new ≡ table ++ new ∷ more
put_next [] row new more = refl
put_next (first ∷ rest) row new more = ap (λ z. first ∷ z) (put_next rest row new more)

joined : (one two three : Table) → (one ++ two) ++ three ≡ one ++ (two ++ three)
joined [] two three = refl
joined (row ∷ rows) two three = ap (λ z. row ∷ z) (joined rows two three)

pub all_append : (rows more : Table) (from others : List (List Source)) → AreAll rows from → AreAll more others → AreAll (rows ++ more) (from ++ others)
all_append [] more [] others k l = l
all_append [] more (s ∷ from) others k l = elim k [ ]
all_append (row ∷ rows) more [] others k l = elim k [ ]
all_append (row ∷ rows) more (s ∷ from) others k l = (k.0, all_append rows more from others k.1 l)

all_length : (rows : Table) (from : List (List Source)) → AreAll rows from → length rows ≡ length from
all_length [] [] k = refl
all_length [] (s ∷ from) k = elim k [ ]
all_length (row ∷ rows) [] k = elim k [ ]
all_length (row ∷ rows) (s ∷ from) k = ap suc (all_length rows from k.1)

-- as many as there are acts
mutual
  pub each_length : (pick : (ℕ → List Source) → Act → List Source) (scope : ℕ → List Source) (t : Term) → length (each_act pick scope t) ≡ size t
  each_length pick scope (term.One a) = each_length_in pick scope a
  each_length pick scope (term.Then a t) =
      let whole = length-append (each_act_in pick scope a) (each_act pick (bind_sources scope (site a) (act_sources scope a)) t) in
      let first = each_length_in pick scope a in
      let later = each_length pick (bind_sources scope (site a) (act_sources scope a)) t in
      omega (arith, whole, first, later)
  each_length pick scope (term.Both a t) =
      let whole = length-append (each_act_in pick scope a) (each_act pick (bind_sources scope (site a) (act_sources scope a)) t) in
      let first = each_length_in pick scope a in
      let later = each_length pick (bind_sources scope (site a) (act_sources scope a)) t in
      omega (arith, whole, first, later)

  pub each_length_in : (pick : (ℕ → List Source) → Act → List Source) (scope : ℕ → List Source) (a : Act) → length (each_act_in pick scope a) ≡ act_size a
  each_length_in pick scope (term.If p e t u w) =
      let whole = length-append (each_act pick scope t) (each_act pick scope u) in
      let first = each_length pick scope t in
      let second = each_length pick scope u in
      omega (arith, whole, first, second)
  each_length_in pick scope (term.When p e t) = let by_each_length = each_length pick scope t in omega (arith, by_each_length)
  each_length_in pick scope (term.Block p t) = let next_by_each_length = each_length pick scope t in omega (arith, next_by_each_length)
  each_length_in pick scope (term.Cycle p n) = refl
  each_length_in pick scope (term.Set p r e) = refl
  each_length_in pick scope (term.Send p m e) = refl
  each_length_in pick scope (term.Recv p m) = refl
  each_length_in pick scope (term.Wait p y) = refl
  each_length_in pick scope (term.Pure p e) = refl
  each_length_in pick scope (term.Nothing p) = refl

-- the table has exact rows for the variables in scope, which have sites below `low`
pub record Knows (table : Table) (low : ℕ) (scope : List Act) (y : ℕ) : Type 0 where
  pub inside : y < low
  pub row : AreAtoms (row_at table y) (sources_in scope y)

abbrev pub KnowsBelow : Table → ℕ → List Act → Type 0
KnowsBelow table low scope = (y : ℕ) → OneOf scope y → Knows table low scope y

abbrev pub KnowsAll : Table → List Act → Type 0
KnowsAll table scope = KnowsBelow table (length table) scope

knows_on : (table more : Table) (scope : List Act) → KnowsAll table scope → KnowsAll (table ++ more) scope
knows_on table more scope knows y in_scope =
    let here = knows y in_scope in
    let by_inside = here.inside in
    let longer : length (table ++ more) ≡ length table + length more = length-append table more in
    record { inside = omega (arith, by_inside, longer); row = subst (λ row. AreAtoms row (sources_in scope y)) (sym (stays table more y by_inside)) here.row }

-- what an act or a term adds: exact rows for its acts, and the row of its value
pub record Adds (scope : List Act) (table new : Table) (from : List (List Source)) (last : ℕ) (value : List Source) : Type 0 where
  pub more : Table
  pub is : new ≡ table ++ more
  pub are : AreAll more from
  pub inside : last < length new
  pub row : AreAtoms (row_at new last) value

pub expr_same : (widths : Widths) (table : Table) (low : ℕ) (scope : List Act) → KnowsBelow table low scope → (p : ℕ) (e : CoreExpr) → InScope scope (expr_of widths e)
    → Same (expr_atoms table p e) (expr_sources p (sources_in scope) (expr_of widths e))
expr_same widths table low scope knows p (expr.Lit b) inside = none
expr_same widths table low scope knows p (expr.Var y) inside = same_row _ _ (knows y (inside y refl)).row
expr_same widths table low scope knows p (expr.Reg r) inside = one (Reg p r)
expr_same widths table low scope knows p (expr.Not' q e) inside = expr_same widths table low scope knows p e inside
expr_same widths table low scope knows p (expr.Bin' o q a q' b) inside =
    both _ _ _ _ (expr_same widths table low scope knows p a (λ y m. inside y (inl m))) (expr_same widths table low scope knows p b (λ y m. inside y (inr m)))
expr_same widths table low scope knows p (expr.Slice y h l) inside = same_row _ _ (knows y (inside y refl)).row
expr_same widths table low scope knows p (expr.Choose' q c q' a q'' b) inside =
    both _ _ _ _ (expr_same widths table low scope knows p c (λ y m. inside y (inl m)))
    (both _ _ _ _ (expr_same widths table low scope knows p a (λ y m. inside y (inr (inl m)))) (expr_same widths table low scope knows p b (λ y m. inside y (inr (inr m)))))

pub bind_same : (variables : ℕ → List Source) (p y : ℕ) (from : List Source) → y ≡ p → bind_sources variables p from y ≡ from
bind_same variables p y from is = let decided : (y == p) ≡ true = grind (arith, nat_tests) in rw decided refl

pub bind_other : (variables : ℕ → List Source) (p y : ℕ) (from : List Source) → y < p → bind_sources variables p from y ≡ variables y
bind_other variables p y from below = let next_decided : (y == p) ≡ false = grind (arith, nat_tests) in rw next_decided refl

-- the site of the code's act
site_of_act : (widths : Widths) (s : ℕ) (k : CoreKind) → site (act_of widths s k) ≡ s
site_of_act widths s (Cycle n) = refl
site_of_act widths s (Set r e) = refl
site_of_act widths s (Send m e) = refl
site_of_act widths s (Recv m) = refl
site_of_act widths s (If' e p t None' w) = refl
site_of_act widths s (If' e p t (Some' q u) None) = refl
site_of_act widths s (If' e p t (Some' q u) (Some n)) = refl
site_of_act widths s (Block' p t) = refl
site_of_act widths s (Wait y) = refl
site_of_act widths s (Pure e) = refl
site_of_act widths s Unit = refl

-- the variable of an act is known once its row stands
knows_next : (scope : List Act) (a : Act) (table new : Table) (from : List (List Source)) (s : ℕ) → site a ≡ s → s ≡ length table → KnowsAll table scope
    → Adds scope table new from s (act_sources (sources_in scope) a) → KnowsAll new (a ∷ scope)
knows_next scope a table new from s is_site is_next knows adds y (inl is) =
    let now : y ≡ s = is ∙ is_site in
    let value = bind_same (sources_in scope) (site a) y (act_sources (sources_in scope) a) is in
    record {
      inside = subst (λ n. n < length new) (sym now) adds.inside;
      row = subst (AreAtoms (row_at new y)) (sym value) (subst (λ n. AreAtoms (row_at new n) (act_sources (sources_in scope) a)) (sym now) adds.row);
    }
knows_next scope a table new from s is_site is_next knows adds y (inr in_scope) =
    let here = knows y in_scope in
    let by_inside = here.inside in
    let below : y < site a = omega (arith, by_inside, is_site, is_next) in
    let value = bind_other (sources_in scope) (site a) y (act_sources (sources_in scope) a) below in
    let kept = knows_on table adds.more scope knows y in_scope in
    let Statement : Table → Type 0 = λ t. Knows t (length t) scope y in
    let still : Knows new (length new) scope y = subst Statement (sym adds.is) kept in
    record { inside = still.inside; row = subst (AreAtoms (row_at new y)) (sym value) still.row }

-- how many rows an act or a term adds
longer : (scope : List Act) (table new : Table) (from : List (List Source)) (last : ℕ) (value : List Source) → (adds : Adds scope table new from last value)
    → length new ≡ length table + length from
longer scope table new from last value adds =
    let whole : length (table ++ adds.more) ≡ length table + length adds.more = length-append table adds.more in
    let rows = all_length adds.more from adds.are in
    ap length adds.is ∙ (whole ∙ ap (λ n. length table + n) rows)

-- of an act that has none inside it
leaf : (scope : List Act) (table : Table) (s : ℕ) (row : List SourceAtom) (value : List Source) → s ≡ length table → AreAtoms row value
    → Adds scope table (table ++ row ∷ []) (value ∷ []) s value
leaf scope table s row value is_next are =
    let whole : length (table ++ row ∷ []) ≡ length table + 1 = length-append table (row ∷ []) in
    record {
      more = row ∷ [];
      is = refl;
      are = (are, tt);
      inside = omega (arith, is_next, whole);
      row = subst (λ n. AreAtoms (row_at (table ++ row ∷ []) n) value) (sym is_next) (subst (λ z. AreAtoms z value) (sym (comes_next table row [])) are);
    }

-- of an act whose own row was put before those of the acts inside it
around : (scope : List Act) (table new closed : Table) (s : ℕ) (from : List (List Source)) (inner_last : ℕ) (inner value : List Source) (row : List SourceAtom) → s ≡ length table
    → Adds scope (table ++ [] ∷ []) new from inner_last inner → AreAtoms row value → ((more : Table) → new ≡ table ++ [] ∷ more → closed ≡ table ++ row ∷ more)
    → Adds scope table closed (value ∷ from) s value
around scope table new closed s from inner_last inner value row is_next adds are close =
    let is : new ≡ table ++ [] ∷ adds.more = adds.is ∙ joined table ([] ∷ []) adds.more in
    let closed_is : closed ≡ table ++ row ∷ adds.more = close adds.more is in
    let whole : length (table ++ row ∷ adds.more) ≡ length table + suc (length adds.more) = length-append table (row ∷ adds.more) in
    let here : AreAtoms (row_at closed (length table)) value =
    subst (λ z. AreAtoms (row_at z (length table)) value) (sym closed_is) (subst (λ z. AreAtoms z value) (sym (comes_next table row adds.more)) are) in
    let inside : length table < length closed = subst (λ z. length table < length z) (sym closed_is) (omega (arith, whole)) in
    record {
      more = row ∷ adds.more;
      is = closed_is;
      are = (are, adds.are);
      inside = subst (λ n. n < length closed) (sym is_next) inside;
      row = subst (λ n. AreAtoms (row_at closed n) value) (sym is_next) here;
    }

-- two parts, one after the other
after : (scope inner_scope : List Act) (table middle new : Table) (from others : List (List Source)) (last other_last : ℕ) (value other_value : List Source)
    → Adds scope table middle from last value → Adds inner_scope middle new others other_last other_value
    → Adds scope table new (from ++ others) other_last other_value
after scope inner_scope table middle new from others last other_last value other_value first second = record {
  more = first.more ++ second.more;
  is = second.is ∙ (ap (λ t. t ++ second.more) first.is ∙ joined table first.more second.more);
  are = all_append first.more second.more from others first.are second.are;
  inside = second.inside;
  row = second.row;
}

opened_length : (table : Table) → length (table ++ [] ∷ []) ≡ length table + 1
opened_length table = length-append table ([] ∷ [])

pub nothing : AreAtoms [] []
nothing = are_atoms [] [] none

-- the rest of a chain, and the second side of an `if`, are numbered from the length of the table on
next_numbered : (widths : Widths) (scope : List Act) (table : Table) (s : ℕ) (k : CoreKind) (t : Term)
    → Adds scope table (add_value table s k) (each_act_in act_sources (sources_in scope) (act_of widths s k)) s (act_sources (sources_in scope) (act_of widths s k))
    → Numbered (act_of widths s k ∷ scope) (length table + act_size (act_of widths s k)) t → Numbered (act_of widths s k ∷ scope) (length (add_value table s k)) t
next_numbered widths scope table s k t adds n =
    let by_longer = longer scope table (add_value table s k) _ s _ adds in
    let by_each_length_in = each_length_in act_sources (sources_in scope) (act_of widths s k) in
    subst (λ z. Numbered (act_of widths s k ∷ scope) z t) (sym (by_longer ∙ ap (λ z. length table + z) by_each_length_in)) n

side_numbered : (widths : Widths) (scope : List Act) (table : Table) (t : CoreTerm) (u : Term)
    → Adds scope (table ++ [] ∷ []) (add_values (table ++ [] ∷ []) t) (each_act act_sources (sources_in scope) (term_of widths t)) (last_site t) (sources (sources_in scope) (term_of widths t))
    → Numbered scope (length table + (1 + size (term_of widths t))) u → Numbered scope (length (add_values (table ++ [] ∷ []) t)) u
side_numbered widths scope table t u adds n =
    let next_by_longer = longer scope (table ++ [] ∷ []) (add_values (table ++ [] ∷ []) t) _ (last_site t) _ adds in
    let by_each_length = each_length act_sources (sources_in scope) (term_of widths t) in
    let by_opened_length = opened_length table in
    subst (λ z. Numbered scope z u) (omega (arith, next_by_longer, by_each_length, by_opened_length)) n

side_knows : (widths : Widths) (scope : List Act) (table : Table) (t : CoreTerm) → KnowsAll table scope
    → Adds scope (table ++ [] ∷ []) (add_values (table ++ [] ∷ []) t) (each_act act_sources (sources_in scope) (term_of widths t)) (last_site t) (sources (sources_in scope) (term_of widths t))
    → KnowsAll (add_values (table ++ [] ∷ []) t) scope
side_knows widths scope table t knows adds =
    subst (λ z. KnowsAll z scope) (sym adds.is) (knows_on (table ++ [] ∷ []) adds.more scope (knows_on table ([] ∷ []) scope knows))

mutual
  pub values_filled : (widths : Widths) (scope : List Act) (table : Table) (t : CoreTerm) → Numbered scope (length table) (term_of widths t) → KnowsAll table scope
      → Adds scope table (add_values table t) (each_act act_sources (sources_in scope) (term_of widths t)) (last_site t) (sources (sources_in scope) (term_of widths t))
  values_filled widths scope table (One' s p k) n knows = value_filled widths scope table s k n knows
  values_filled widths scope table (Then' s p k q t) n knows =
      let first = value_filled widths scope table s k n.0 knows in
      after scope (act_of widths s k ∷ scope) table (add_value table s k) (add_values (add_value table s k) t) _ _ s (last_site t) _ _ first
      (values_filled (after_act widths (act_of widths s k)) (act_of widths s k ∷ scope) (add_value table s k) t (next_numbered widths scope table s k (term_of (after_act widths (act_of widths s k)) t) first n.1)
      (knows_next scope (act_of widths s k) table (add_value table s k) _ s (site_of_act widths s k) (sym (site_of_act widths s k) ∙ act_site scope (length table) (act_of widths s k) n.0) knows first))
  values_filled widths scope table (Both' s p k q t) n knows =
      let first = value_filled widths scope table s k n.0 knows in
      after scope (act_of widths s k ∷ scope) table (add_value table s k) (add_values (add_value table s k) t) _ _ s (last_site t) _ _ first
      (values_filled (after_act widths (act_of widths s k)) (act_of widths s k ∷ scope) (add_value table s k) t (next_numbered widths scope table s k (term_of (after_act widths (act_of widths s k)) t) first n.1)
      (knows_next scope (act_of widths s k) table (add_value table s k) _ s (site_of_act widths s k) (sym (site_of_act widths s k) ∙ act_site scope (length table) (act_of widths s k) n.0) knows first))

  value_filled : (widths : Widths) (scope : List Act) (table : Table) (s : ℕ) (k : CoreKind) → NumberedAct scope (length table) (act_of widths s k) → KnowsAll table scope
      → Adds scope table (add_value table s k) (each_act_in act_sources (sources_in scope) (act_of widths s k)) s (act_sources (sources_in scope) (act_of widths s k))
  value_filled widths scope table s (Cycle c) n knows = leaf scope table s [] [] n nothing
  value_filled widths scope table s (Set r e) n knows = leaf scope table s [] [] n.0 nothing
  value_filled widths scope table s (Send m e) n knows = leaf scope table s [] [] n.0 nothing
  value_filled widths scope table s (Recv m) n knows = leaf scope table s _ _ n (are_atoms _ _ (one (Wire s)))
  value_filled widths scope table s (Wait y) n knows = leaf scope table s _ _ n.0 (are_atoms _ _ (same_row _ _ (knows y n.1).row))
  value_filled widths scope table s (Pure e) n knows = leaf scope table s _ _ n.0 (are_atoms _ _ (expr_same widths table (length table) scope knows s e n.1))
  value_filled widths scope table s Unit n knows = leaf scope table s [] [] n nothing
  value_filled widths scope table s (If' e p t None' w) n knows =
      around scope table (add_values (table ++ [] ∷ []) t) (add_values (table ++ [] ∷ []) t) s _ (last_site t) _ [] [] n.0
      (values_filled widths scope (table ++ [] ∷ []) t (subst (λ z. Numbered scope z (term_of widths t)) (sym (opened_length table)) n.1) (knows_on table ([] ∷ []) scope knows))
      nothing (λ more is. is)
  value_filled widths scope table s (If' e p t (Some' q u) None) n knows =
      let first = values_filled widths scope (table ++ [] ∷ []) t (subst (λ z. Numbered scope z (term_of widths t)) (sym (opened_length table)) n.1) (knows_on table ([] ∷ []) scope knows) in
      let second = values_filled widths scope (add_values (table ++ [] ∷ []) t) u (side_numbered widths scope table t (term_of widths u) first n.2) (side_knows widths scope table t knows first) in
      around scope table (add_values (add_values (table ++ [] ∷ []) t) u) (add_values (add_values (table ++ [] ∷ []) t) u) s _ (last_site u) _ [] [] n.0
      (after scope scope (table ++ [] ∷ []) (add_values (table ++ [] ∷ []) t) (add_values (add_values (table ++ [] ∷ []) t) u) _ _ (last_site t) (last_site u) _ _ first second)
      nothing (λ more is. is)
  value_filled widths scope table s (If' e p t (Some' q u) (Some w)) n knows =
      let first = values_filled widths scope (table ++ [] ∷ []) t (subst (λ z. Numbered scope z (term_of widths t)) (sym (opened_length table)) n.1) (knows_on table ([] ∷ []) scope knows) in
      let second = values_filled widths scope (add_values (table ++ [] ∷ []) t) u (side_numbered widths scope table t (term_of widths u) first n.2) (side_knows widths scope table t knows first) in
      let filled = add_values (add_values (table ++ [] ∷ []) t) u in
      let kept : row_at filled (last_site t) ≡ row_at (add_values (table ++ [] ∷ []) t) (last_site t) =
      ap (λ z. row_at z (last_site t)) second.is ∙ stays (add_values (table ++ [] ∷ []) t) second.more (last_site t) first.inside in
      let of_first : AreAtoms (row_at filled (last_site t)) (sources (sources_in scope) (term_of widths t)) = subst (λ z. AreAtoms z (sources (sources_in scope) (term_of widths t))) (sym kept) first.row in
      let row = settled (Choice s ∷ (row_at filled (last_site t) ++ row_at filled (last_site u))) in
      let are : AreAtoms row (ChoiceOf s ∷ (sources (sources_in scope) (term_of widths t) ++ sources (sources_in scope) (term_of widths u))) =
      are_atoms (Choice s ∷ (row_at filled (last_site t) ++ row_at filled (last_site u))) _ (both (Choice s ∷ []) _ (ChoiceOf s ∷ []) _ (one (Choice s)) (both _ _ _ _ (same_row _ _ of_first) (same_row _ _ second.row))) in
      around scope table filled (close_if s (length table) (last_site t) (last_site u) filled) s _ (last_site u) _ _ row n.0
      (after scope scope (table ++ [] ∷ []) (add_values (table ++ [] ∷ []) t) filled _ _ (last_site t) (last_site u) _ _ first second)
      are (λ more is. ap (λ z. put_row z (length table) row) is ∙ put_next table [] row more)
  value_filled widths scope table s (Block' p t) n knows =
      let inner = values_filled widths scope (table ++ [] ∷ []) t (subst (λ z. Numbered scope z (term_of widths t)) (sym (opened_length table)) n.1) (knows_on table ([] ∷ []) scope knows) in
      let filled = add_values (table ++ [] ∷ []) t in
      let row = row_at filled (last_site t) in
      around scope table filled (close_block (length table) (last_site t) filled) s _ (last_site t) _ _ row n.0 inner inner.row
      (λ more is. ap (λ z. put_row z (length table) row) is ∙ put_next table [] row more)

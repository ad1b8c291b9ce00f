-- What the tables of a whole body say of each act that stands in it, and the table of uses.
use Rattle.std.proofs.Common.{◌≡◌, ℕ, ◌+◌, ◌<◌, inl, inr, refl, sym, ◌∙◌, ap, subst, arith, List, [], ◌∷◌, ◌++◌, length, zero, suc, Some, None}
use Rattle.core_term.specs.declared.term.CoreTerm.{CoreTerm, One', Then', Both'}
use Rattle.core_term.specs.declared.term.CoreKind as kind
use Rattle.core_term.specs.declared.term.CoreKind.{CoreKind, Cycle, Set, Send, Recv, If', Block', Wait, Pure, None', Some'}
use Rattle.core_term.specs.Term as term
use Rattle.core_term.specs.Term.{Expr, Term, Act, site, head}
use Rattle.core_term.specs.Numbering.{Numbered, NumberedAct, size, act_size}
use Rattle.core_term.specs.Stands.{Stands, StandsIn, here, in_one, in_then, after_then, in_both, after_both, in_yes, in_no, in_when, in_block}
use Rattle.core_term.specs.Widths.{Widths}
use Rattle.core_term.specs.View.{term_of, act_of, after_act}
use Rattle.core_term.specs.Sources.{Source, expr_sources, act_sources, sources_in, no_sources}
use Rattle.core_term.specs.declared.term.SourceAtom.{SourceAtom}
use Rattle.core_term.specs.Lists.{Has}
use Rattle.core_term.specs.Acts.{Uses}
use Rattle.core_term.specs.Body.{IsBody}
use Rattle.core_term.specs.Rules.{RestsOn}
use Rattle.core_term.specs.Atoms.{source_of, AreAtoms, use_sources, each_act, each_act_in, AreAtomsAt, AreAll}
use Rattle.core_term.specs.AtomTables.{Table, settled, row_at, used_atoms, uses_of, uses_in, add_values}
use Rattle.core_term.proofs.code_tables.FirstSites.{act_site}
use Rattle.core_term.proofs.code_tables.AtomsFilled.{KnowsBelow, all_append, are_atoms, nothing, bind_same, bind_other, expr_same, each_length, each_length_in, values_filled}

-- the rows from a site on are exactly these
abbrev pub RowsFrom : Table → ℕ → List (List Source) → Type 0
RowsFrom table low [] = Unit {0}
RowsFrom table low (sources ∷ rest) = AreAtoms (row_at table low) sources × RowsFrom table (low + 1) rest

rows_from : (before rows : Table) (from : List (List Source)) (low : ℕ) → low ≡ length before → AreAll rows from → RowsFrom (before ++ rows) low from
rows_from before rows [] low is are = tt
rows_from before [] (s ∷ from) low is are = elim are [ ]
rows_from before (row ∷ rows) (s ∷ from) low is are = (
  subst (λ n. AreAtoms (row_at (before ++ row ∷ rows) n) s) (sym is) (subst (λ z. AreAtoms z s) (sym (next before row rows)) are.0),
  subst (λ t. RowsFrom t (low + 1) from) (sym (moved before row rows)) (rows_from (before ++ row ∷ []) rows from (low + 1) (sym (one_more before row is)) are.1),
)
  where
    next : (before : Table) (row : List SourceAtom) (rows : Table) → row_at (before ++ row ∷ rows) (length before) ≡ row
    next [] row rows = refl
    next (first ∷ rest) row rows = next rest row rows

    moved : (before : Table) (row : List SourceAtom) (rows : Table) → before ++ row ∷ rows ≡ (before ++ row ∷ []) ++ rows
    moved [] row rows = refl
    moved (first ∷ rest) row rows = ap (λ z. first ∷ z) (moved rest row rows)

    counted : (before : Table) (row : List SourceAtom) → length (before ++ row ∷ []) ≡ length before + 1
    counted [] row = refl
    counted (first ∷ rest) row = let by_counted = counted rest row in omega (arith, by_counted)

    one_more : (before : Table) (row : List SourceAtom) → low ≡ length before → length (before ++ row ∷ []) ≡ low + 1
    one_more before row is = let next_by_counted = counted before row in omega (arith, next_by_counted, is)

pub rows_of : (rows : Table) (from : List (List Source)) → AreAll rows from → RowsFrom rows 0 from
rows_of rows from are = rows_from [] rows from 0 refl are

-- of two parts, one after the other
split : (table : Table) (one other : List (List Source)) (low n : ℕ) → length one ≡ n → RowsFrom table low (one ++ other) → RowsFrom table low one × RowsFrom table (low + n) other
split table [] other low n is rows = (tt, subst (λ z. RowsFrom table z other) (omega (arith, is)) rows)
split table (s ∷ one) other low zero is rows = absurd (omega (arith, is))
split table (s ∷ one) other low (suc n) is rows =
    let later = split table one other (low + 1) n (omega (arith, is)) rows.1 in
    ((rows.0, later.0), subst (λ z. RowsFrom table z other) (omega arith) later.1)

module _ (pick : (ℕ → List Source) → Act → List Source) where
  -- the row of an act comes first among those of what stands in it
  own : (table : Table) (scope : ℕ → List Source) (a : Act) (low : ℕ) → RowsFrom table low (each_act_in pick scope a) → AreAtoms (row_at table low) (pick scope a)
  own table scope (term.If p e t u w) low rows = rows.0
  own table scope (term.When p e t) low rows = rows.0
  own table scope (term.Block p t) low rows = rows.0
  own table scope (term.Cycle p n) low rows = rows.0
  own table scope (term.Set p r e) low rows = rows.0
  own table scope (term.Send p m e) low rows = rows.0
  own table scope (term.Recv p m) low rows = rows.0
  own table scope (term.Wait p y) low rows = rows.0
  own table scope (term.Pure p e) low rows = rows.0
  own table scope (term.Nothing p) low rows = rows.0

  at_site : (table : Table) (vs : List Act) (a : Act) (low : ℕ) → NumberedAct vs low a → AreAtoms (row_at table low) (pick (sources_in vs) a)
      → AreAtoms (row_at table (site a)) (pick (sources_in vs) a)
  at_site table vs a low n are = subst (λ z. AreAtoms (row_at table z) (pick (sources_in vs) a)) (sym (act_site vs low a n)) are

  -- of each act that stands in a term
  mutual
    pub row_of_act : (table : Table) (vs ws : List Act) (t u : Term) (low : ℕ) → Stands vs t ws u → Numbered vs low t
        → RowsFrom table low (each_act pick (sources_in vs) t) → AreAtoms (row_at table (site (head u))) (pick (sources_in ws) (head u))
    row_of_act table vs ws (term.One a) u low here n rows = at_site table vs a low n (own table (sources_in vs) a low rows)
    row_of_act table vs ws (term.Then a t) u low here n rows =
        at_site table vs a low n.0 (own table (sources_in vs) a low (split table (each_act_in pick (sources_in vs) a) _ low (act_size a) (each_length_in pick (sources_in vs) a) rows).0)
    row_of_act table vs ws (term.Both a t) u low here n rows =
        at_site table vs a low n.0 (own table (sources_in vs) a low (split table (each_act_in pick (sources_in vs) a) _ low (act_size a) (each_length_in pick (sources_in vs) a) rows).0)
    row_of_act table vs ws (term.One a) u low (in_one s) n rows = row_of_inner table vs ws a u low s n rows
    row_of_act table vs ws (term.Then a t) u low (in_then s) n rows =
        row_of_inner table vs ws a u low s n.0 (split table (each_act_in pick (sources_in vs) a) _ low (act_size a) (each_length_in pick (sources_in vs) a) rows).0
    row_of_act table vs ws (term.Both a t) u low (in_both s) n rows =
        row_of_inner table vs ws a u low s n.0 (split table (each_act_in pick (sources_in vs) a) _ low (act_size a) (each_length_in pick (sources_in vs) a) rows).0
    row_of_act table vs ws (term.Then a t) u low (after_then s) n rows =
        row_of_act table (a ∷ vs) ws t u (low + act_size a) s n.1 (split table (each_act_in pick (sources_in vs) a) _ low (act_size a) (each_length_in pick (sources_in vs) a) rows).1
    row_of_act table vs ws (term.Both a t) u low (after_both s) n rows =
        row_of_act table (a ∷ vs) ws t u (low + act_size a) s n.1 (split table (each_act_in pick (sources_in vs) a) _ low (act_size a) (each_length_in pick (sources_in vs) a) rows).1

    row_of_inner : (table : Table) (vs ws : List Act) (a : Act) (u : Term) (low : ℕ) → StandsIn vs a ws u → NumberedAct vs low a
        → RowsFrom table low (each_act_in pick (sources_in vs) a) → AreAtoms (row_at table (site (head u))) (pick (sources_in ws) (head u))
    row_of_inner table vs ws (term.If p e t f w) u low (in_yes s) n rows =
        row_of_act table vs ws t u (low + 1) s n.1 (split table (each_act pick (sources_in vs) t) _ (low + 1) (size t) (each_length pick (sources_in vs) t) rows.1).0
    row_of_inner table vs ws (term.If p e t f w) u low (in_no s) n rows =
        let Statement : ℕ → Type 0 = λ z. RowsFrom table z (each_act pick (sources_in vs) f) in
        row_of_act table vs ws f u (low + (1 + size t)) s n.2
        (subst Statement (omega arith) (split table (each_act pick (sources_in vs) t) _ (low + 1) (size t) (each_length pick (sources_in vs) t) rows.1).1)
    row_of_inner table vs ws (term.When p e t) u low (in_when s) n rows = row_of_act table vs ws t u (low + 1) s n.1 rows.1
    row_of_inner table vs ws (term.Block p t) u low (in_block s) n rows = row_of_act table vs ws t u (low + 1) s n.1 rows.1
    row_of_inner table vs ws (term.Cycle p c) u low s n rows = elim s [ ]
    row_of_inner table vs ws (term.Set p r e) u low s n rows = elim s [ ]
    row_of_inner table vs ws (term.Send p m e) u low s n rows = elim s [ ]
    row_of_inner table vs ws (term.Recv p m) u low s n rows = elim s [ ]
    row_of_inner table vs ws (term.Wait p y) u low s n rows = elim s [ ]
    row_of_inner table vs ws (term.Pure p e) u low s n rows = elim s [ ]
    row_of_inner table vs ws (term.Nothing p) u low s n rows = elim s [ ]

-- Uses.

-- of an act, from the rows of the variables in scope
used_are : (widths : Widths) (values : Table) (low : ℕ) (scope : List Act) (s : ℕ) (k : CoreKind) → KnowsBelow values low scope → NumberedAct scope low (act_of widths s k)
    → AreAtoms (settled (used_atoms values s k)) (use_sources (sources_in scope) (act_of widths s k))
used_are widths values low scope s (Set r e) knows n = are_atoms _ _ (expr_same widths values low scope knows s e n.1)
used_are widths values low scope s (Send m e) knows n = are_atoms _ _ (expr_same widths values low scope knows s e n.1)
used_are widths values low scope s (If' e p t None' w) knows n = are_atoms _ _ (expr_same widths values low scope knows s e n.2)
used_are widths values low scope s (If' e p t (Some' q u) None) knows n = are_atoms _ _ (expr_same widths values low scope knows s e n.3)
used_are widths values low scope s (If' e p t (Some' q u) (Some w)) knows n = are_atoms _ _ (expr_same widths values low scope knows s e n.3)
used_are widths values low scope s (Cycle c) knows n = nothing
used_are widths values low scope s (Recv m) knows n = nothing
used_are widths values low scope s (Block' p t) knows n = nothing
used_are widths values low scope s (Wait y) knows n = nothing
used_are widths values low scope s (Pure e) knows n = nothing
used_are widths values low scope s kind.Unit knows n = nothing

-- the variable of an act is known in the rest of its chain
knows_rest : (values : Table) (low more : ℕ) (scope : List Act) (a : Act) → NumberedAct scope low a → 0 < more → KnowsBelow values low scope → AreAtoms (row_at values low) (act_sources (sources_in scope) a)
    → KnowsBelow values (low + more) (a ∷ scope)
knows_rest values low more scope a n some knows are y (inl is) =
    let is_low = act_site scope low a n in
    let value = bind_same (sources_in scope) (site a) y (act_sources (sources_in scope) a) is in
    let now : y ≡ low = is ∙ is_low in
    record {
      inside = omega (arith, now, some);
      row = subst (AreAtoms (row_at values y)) (sym value) (subst (λ z. AreAtoms (row_at values z) (act_sources (sources_in scope) a)) (sym now) are);
    }
knows_rest values low more scope a n some knows are y (inr in_scope) =
    let here = knows y in_scope in
    let by_inside = here.inside in
    let is_low = act_site scope low a n in
    let value = bind_other (sources_in scope) (site a) y (act_sources (sources_in scope) a) (omega (arith, by_inside, is_low)) in
    record { inside = omega (arith, by_inside); row = subst (AreAtoms (row_at values y)) (sym value) here.row }

knows_inside : (values : Table) (low more : ℕ) (scope : List Act) → KnowsBelow values low scope → KnowsBelow values (low + more) scope
knows_inside values low more scope knows y in_scope =
    let here = knows y in_scope in
    let next_by_inside = here.inside in
    record { inside = omega (arith, next_by_inside); row = here.row }

some_size : (a : Act) → 0 < act_size a
some_size (term.If p e t u w) = omega arith
some_size (term.When p e t) = omega arith
some_size (term.Block p t) = omega arith
some_size (term.Cycle p n) = omega arith
some_size (term.Set p r e) = omega arith
some_size (term.Send p m e) = omega arith
some_size (term.Recv p m) = omega arith
some_size (term.Wait p y) = omega arith
some_size (term.Pure p e) = omega arith
some_size (term.Nothing p) = omega arith

first_of : (table : Table) (scope : List Act) (a : Act) (t : List (List Source)) (low : ℕ) → RowsFrom table low (each_act_in act_sources (sources_in scope) a ++ t)
    → RowsFrom table low (each_act_in act_sources (sources_in scope) a) × RowsFrom table (low + act_size a) t
first_of table scope a t low rows = split table (each_act_in act_sources (sources_in scope) a) t low (act_size a) (each_length_in act_sources (sources_in scope) a) rows

-- of the two sides of an `if`
sides_of : (table : Table) (low n : ℕ) (one other : List (List Source)) → length one ≡ n → RowsFrom table (low + 1) (one ++ other)
    → RowsFrom table (low + 1) one × RowsFrom table (low + (1 + n)) other
sides_of table low n one other is rows =
    let parts = split table one other (low + 1) n is rows in
    (parts.0, subst (λ z. RowsFrom table z other) (omega arith) parts.1)

mutual
  pub uses_are : (widths : Widths) (values : Table) (low : ℕ) (scope : List Act) (t : CoreTerm) → Numbered scope low (term_of widths t) → KnowsBelow values low scope
      → RowsFrom values low (each_act act_sources (sources_in scope) (term_of widths t)) → AreAll (uses_of values t) (each_act use_sources (sources_in scope) (term_of widths t))
  uses_are widths values low scope (One' s p k) n knows rows = use_are widths values low scope s k n knows rows
  uses_are widths values low scope (Then' s p k q t) n knows rows =
      let parts = first_of values scope (act_of widths s k) _ low rows in
      all_append (settled (used_atoms values s k) ∷ uses_in values k) (uses_of values t) _ _ (use_are widths values low scope s k n.0 knows parts.0)
      (uses_are (after_act widths (act_of widths s k)) values (low + act_size (act_of widths s k)) (act_of widths s k ∷ scope) t n.1
      (knows_rest values low (act_size (act_of widths s k)) scope (act_of widths s k) n.0 (some_size (act_of widths s k)) knows (own act_sources values (sources_in scope) (act_of widths s k) low parts.0)) parts.1)
  uses_are widths values low scope (Both' s p k q t) n knows rows =
      let parts = first_of values scope (act_of widths s k) _ low rows in
      all_append (settled (used_atoms values s k) ∷ uses_in values k) (uses_of values t) _ _ (use_are widths values low scope s k n.0 knows parts.0)
      (uses_are (after_act widths (act_of widths s k)) values (low + act_size (act_of widths s k)) (act_of widths s k ∷ scope) t n.1
      (knows_rest values low (act_size (act_of widths s k)) scope (act_of widths s k) n.0 (some_size (act_of widths s k)) knows (own act_sources values (sources_in scope) (act_of widths s k) low parts.0)) parts.1)

  use_are : (widths : Widths) (values : Table) (low : ℕ) (scope : List Act) (s : ℕ) (k : CoreKind) → NumberedAct scope low (act_of widths s k) → KnowsBelow values low scope
      → RowsFrom values low (each_act_in act_sources (sources_in scope) (act_of widths s k))
      → AreAll (settled (used_atoms values s k) ∷ uses_in values k) (each_act_in use_sources (sources_in scope) (act_of widths s k))
  use_are widths values low scope s (If' e p t None' w) n knows rows =
      (used_are widths values low scope s (If' e p t None' w) knows n, uses_are widths values (low + 1) scope t n.1 (knows_inside values low 1 scope knows) rows.1)
  use_are widths values low scope s (If' e p t (Some' q u) None) n knows rows =
      let parts = sides_of values low (size (term_of widths t)) _ _ (each_length act_sources (sources_in scope) (term_of widths t)) rows.1 in (
        used_are widths values low scope s (If' e p t (Some' q u) None) knows n,
        all_append (uses_of values t) (uses_of values u) _ _ (uses_are widths values (low + 1) scope t n.1 (knows_inside values low 1 scope knows) parts.0)
            (uses_are widths values (low + (1 + size (term_of widths t))) scope u n.2 (knows_inside values low (1 + size (term_of widths t)) scope knows) parts.1),
      )
  use_are widths values low scope s (If' e p t (Some' q u) (Some w)) n knows rows =
      let parts = sides_of values low (size (term_of widths t)) _ _ (each_length act_sources (sources_in scope) (term_of widths t)) rows.1 in (
        used_are widths values low scope s (If' e p t (Some' q u) (Some w)) knows n,
        all_append (uses_of values t) (uses_of values u) _ _ (uses_are widths values (low + 1) scope t n.1 (knows_inside values low 1 scope knows) parts.0)
            (uses_are widths values (low + (1 + size (term_of widths t))) scope u n.2 (knows_inside values low (1 + size (term_of widths t)) scope knows) parts.1),
      )
  use_are widths values low scope s (Block' p t) n knows rows =
      (used_are widths values low scope s (Block' p t) knows n, uses_are widths values (low + 1) scope t n.1 (knows_inside values low 1 scope knows) rows.1)
  use_are widths values low scope s (Cycle c) n knows rows = (used_are widths values low scope s (Cycle c) knows n, tt)
  use_are widths values low scope s (Set r e) n knows rows = (used_are widths values low scope s (Set r e) knows n, tt)
  use_are widths values low scope s (Send m e) n knows rows = (used_are widths values low scope s (Send m e) knows n, tt)
  use_are widths values low scope s (Recv m) n knows rows = (used_are widths values low scope s (Recv m) knows n, tt)
  use_are widths values low scope s (Wait y) n knows rows = (used_are widths values low scope s (Wait y) knows n, tt)
  use_are widths values low scope s (Pure e) n knows rows = (used_are widths values low scope s (Pure e) knows n, tt)
  use_are widths values low scope s kind.Unit n knows rows = (used_are widths values low scope s kind.Unit knows n, tt)

-- The tables of a whole body.

no_one : (table : Table) (low : ℕ) → KnowsBelow table low []
no_one table low y in_scope = elim in_scope [ ]

pub values_are : (widths : Widths) (body : CoreTerm) → Numbered [] 0 (term_of widths body) → AreAll (add_values [] body) (each_act act_sources no_sources (term_of widths body))
values_are widths body numbered =
    let adds = values_filled widths [] [] body numbered (no_one [] 0) in
    subst (λ t. AreAll t (each_act act_sources no_sources (term_of widths body))) (sym adds.is) adds.are

pub all_uses_are : (widths : Widths) (body : CoreTerm) → Numbered [] 0 (term_of widths body)
    → AreAll (uses_of (add_values [] body) body) (each_act use_sources no_sources (term_of widths body))
all_uses_are widths body numbered =
    uses_are widths (add_values [] body) 0 [] body numbered (no_one (add_values [] body) 0) (rows_of _ _ (values_are widths body numbered))

-- the row of an act that stands in the body
pub row_is : (pick : (ℕ → List Source) → Act → List Source) (table : Table) (body : Term) → Numbered [] 0 body → AreAll table (each_act pick no_sources body)
    → (scope : List Act) (u : Term) → Stands [] body scope u → (s : ℕ) → site (head u) ≡ s → AreAtoms (row_at table s) (pick (sources_in scope) (head u))
row_is pick table body numbered are scope u stands s is =
    subst (λ z. AreAtoms (row_at table z) (pick (sources_in scope) (head u))) is (row_of_act pick table [] scope body u 0 stands numbered (rows_of _ _ are))

-- the rows that a thread keeps
pub value_told : (held body : CoreTerm) (values : Table) (row : List SourceAtom) (s : ℕ) → held ≡ body → IsBody held → values ≡ add_values [] held
    → row ≡ row_at values s → (widths : Widths) → AreAtomsAt act_sources (term_of widths body) s row
value_told held body values row s same is_body filled is widths scope u stands at_site =
    let numbered = (subst IsBody same is_body).numbered widths in
    let row_of : row ≡ row_at (add_values [] body) s = is ∙ ap (λ t. row_at t s) (filled ∙ ap (add_values []) same) in
    subst (λ z. AreAtoms z (act_sources (sources_in scope) (head u))) (sym row_of)
    (row_is act_sources (add_values [] body) (term_of widths body) numbered (values_are widths body numbered) scope u stands s at_site)

pub use_told : (held body : CoreTerm) (uses : Table) (row : List SourceAtom) (s : ℕ) → held ≡ body → IsBody held → uses ≡ uses_of (add_values [] held) held
    → row ≡ row_at uses s → (widths : Widths) → AreAtomsAt use_sources (term_of widths body) s row
use_told held body uses row s same is_body filled is widths scope u stands at_site =
    let numbered = (subst IsBody same is_body).numbered widths in
    let row_of : row ≡ row_at (uses_of (add_values [] body) body) s = is ∙ ap (λ t. row_at t s) (filled ∙ ap (λ b. uses_of (add_values [] b) b) same) in
    subst (λ z. AreAtoms z (use_sources (sources_in scope) (head u))) (sym row_of)
    (row_is use_sources (uses_of (add_values [] body) body) (term_of widths body) numbered (all_uses_are widths body numbered) scope u stands s at_site)

-- What an act rests on by the rules is what its row of uses has.

uses_are_of : (scope : ℕ → List Source) (a : Act) (e : Expr) → Uses a e → use_sources scope a ≡ expr_sources (site a) scope e
uses_are_of scope (term.Set p r f) e uses = ap (expr_sources p scope) uses
uses_are_of scope (term.Send p m f) e uses = ap (expr_sources p scope) uses
uses_are_of scope (term.If p f t u w) e uses = ap (expr_sources p scope) uses
uses_are_of scope (term.When p f t) e uses = ap (expr_sources p scope) uses
uses_are_of scope (term.Cycle p n) e uses = elim uses [ ]
uses_are_of scope (term.Recv p m) e uses = elim uses [ ]
uses_are_of scope (term.Block p t) e uses = elim uses [ ]
uses_are_of scope (term.Wait p y) e uses = elim uses [ ]
uses_are_of scope (term.Pure p f) e uses = elim uses [ ]
uses_are_of scope (term.Nothing p) e uses = elim uses [ ]

pub rests_in_row : (body u : Term) (atoms : List SourceAtom) (source : Source) → AreAtomsAt use_sources body (site (head u)) atoms → RestsOn body u source
    → (atom : SourceAtom) × Has atoms atom × (source_of atom ≡ source)
rests_in_row body u atoms source are rests =
    (are rests.scope u rests.stands refl).whole source (subst (λ ss. Has ss source) (sym (uses_are_of (sources_in rests.scope) (head u) rests.value rests.uses)) rests.has)

pub row_rests : (body u : Term) (atoms : List SourceAtom) (scope : List Act) (e : Expr) → AreAtomsAt use_sources body (site (head u)) atoms → Stands [] body scope u → Uses (head u) e
    → (atom : SourceAtom) → Has atoms atom → RestsOn body u (source_of atom)
row_rests body u atoms scope e are stands uses atom has = record {
  scope = scope;
  stands = stands;
  value = e;
  uses = uses;
  has = subst (λ ss. Has ss (source_of atom)) (uses_are_of (sources_in scope) (head u) e uses) ((are scope u stands refl).sound atom has);
}

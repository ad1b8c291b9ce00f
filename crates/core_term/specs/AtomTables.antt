-- The tables of atoms as they are filled: a row for each act of a body, by its site.
--
-- A row is made from those of the variables that an act reads and of the acts inside it. That such tables are exactly
-- the sources of the text is a lemma; these definitions say what each function of the code does.
use Rattle.std.specs.Prelude.{ℕ, ◌==◌, ◌&&◌, ◌||◌, if◌then◌else◌, nat_lt, Bool, List, [], ◌∷◌, ◌++◌, length, zero, suc}
use Rattle.std.specs.Prelude.{Some, None}
use Rattle.core_term.specs.declared.term.SourceAtom.{SourceAtom}
use Rattle.core_term.specs.declared.term.SourceAtom.TheVariants.{Wire, Reg, Choice}
use Rattle.core_term.specs.declared.term.CoreExpr as expr
use Rattle.core_term.specs.declared.term.CoreExpr.{CoreExpr}
use Rattle.core_term.specs.declared.term.CoreTerm.{CoreTerm, One', Then', Both'}
use Rattle.core_term.specs.declared.term.CoreKind.{CoreKind, Set, Send, Recv, If', Block', Wait, Pure, Unit, None'}
use Rattle.core_term.specs.declared.term.CoreKind.{Some'}
use Rattle.core_term.specs.Atoms.{kind_number, site_of, register_read}

-- Rows in order, each atom once.

abbrev pub is_first : SourceAtom → SourceAtom → Bool
is_first one other =
    nat_lt (kind_number one) (kind_number other)
    || ((kind_number one == kind_number other)
    && (nat_lt (site_of one) (site_of other)
    || ((site_of one == site_of other) && nat_lt (register_read one) (register_read other))))

abbrev pub with_atom : SourceAtom → List SourceAtom → List SourceAtom
with_atom atom [] = atom ∷ []
with_atom atom (first ∷ rest) =
    if is_first atom first
    then atom ∷ first ∷ rest
    else (if is_first first atom then first ∷ with_atom atom rest else first ∷ rest)

abbrev pub settled : List SourceAtom → List SourceAtom
settled [] = []
settled (atom ∷ atoms) = with_atom atom (settled atoms)

-- Tables.

abbrev pub Table : Type 0
Table = List (List SourceAtom)

abbrev pub row_at : Table → ℕ → List SourceAtom
row_at [] site = []
row_at (row ∷ rows) zero = row
row_at (row ∷ rows) (suc site) = row_at rows site

abbrev pub put_row : Table → ℕ → List SourceAtom → Table
put_row [] site new = []
put_row (row ∷ rows) zero new = new ∷ rows
put_row (row ∷ rows) (suc site) new = row ∷ put_row rows site new

-- of an expression in the act of a site
abbrev pub expr_atoms : Table → ℕ → CoreExpr → List SourceAtom
expr_atoms table site (expr.Lit b) = []
expr_atoms table site (expr.Var x) = row_at table x
expr_atoms table site (expr.Reg r) = Reg site r ∷ []
expr_atoms table site (expr.Not' p e) = expr_atoms table site e
expr_atoms table site (expr.Bin' o p a q b) = expr_atoms table site a ++ expr_atoms table site b
expr_atoms table site (expr.Slice x h l) = row_at table x
expr_atoms table site (expr.Choose' p c q a r b) =
    expr_atoms table site c ++ (expr_atoms table site a ++ expr_atoms table site b)

-- the site of the last act of a chain, whose value that of the chain is
abbrev pub last_site : CoreTerm → ℕ
last_site (One' s p k) = s
last_site (Then' s p k q t) = last_site t
last_site (Both' s p k q t) = last_site t

-- Values: each act adds its row before those inside it, and puts its own atoms there once it has them.

-- of an act whose value comes from no act inside it
abbrev pub own_atoms : Table → ℕ → CoreKind → List SourceAtom
own_atoms table site (Recv m) = Wire site ∷ []
own_atoms table site (Wait y) = row_at table y
own_atoms table site (Pure e) = expr_atoms table site e
own_atoms table site k = []

abbrev pub add_own : Table → ℕ → CoreKind → Table
add_own table site kind = table ++ settled (own_atoms table site kind) ∷ []

-- the row of the block at `place`, from that of its last act
abbrev pub close_block : (place last : ℕ) → Table → Table
close_block place last table = put_row table place (row_at table last)

-- the row of an `if` at `place` that has a value, from those of the last acts of its sides
abbrev pub close_if : (site place first second : ℕ) → Table → Table
close_if site place first second table =
    put_row table place (settled (Choice site ∷ (row_at table first ++ row_at table second)))

abbrev mutual
  pub add_values : Table → CoreTerm → Table
  add_values table (One' s p k) = add_value table s k
  add_values table (Then' s p k q t) = add_values (add_value table s k) t
  add_values table (Both' s p k q t) = add_values (add_value table s k) t

  pub add_value : Table → ℕ → CoreKind → Table
  add_value table s (If' e p t None' w) = add_values (add_own table s Unit) t
  add_value table s (If' e p t (Some' q u) None) = add_values (add_values (add_own table s Unit) t) u
  add_value table s (If' e p t (Some' q u) (Some n)) =
      close_if s (length table) (last_site t) (last_site u) (add_values (add_values (add_own table s Unit) t) u)
  add_value table s (Block' p t) = close_block (length table) (last_site t) (add_values (add_own table s Unit) t)
  add_value table s k = add_own table s k

-- Uses: over the whole table of values.

abbrev pub used_atoms : Table → ℕ → CoreKind → List SourceAtom
used_atoms values site (Set r e) = expr_atoms values site e
used_atoms values site (Send m e) = expr_atoms values site e
used_atoms values site (If' e p t u w) = expr_atoms values site e
used_atoms values site k = []

abbrev mutual
  pub uses_of : Table → CoreTerm → Table
  uses_of values (One' s p k) = settled (used_atoms values s k) ∷ uses_in values k
  uses_of values (Then' s p k q t) = settled (used_atoms values s k) ∷ (uses_in values k ++ uses_of values t)
  uses_of values (Both' s p k q t) = settled (used_atoms values s k) ∷ (uses_in values k ++ uses_of values t)

  pub uses_in : Table → CoreKind → Table
  uses_in values (If' e p t None' w) = uses_of values t
  uses_in values (If' e p t (Some' q u) w) = uses_of values t ++ uses_of values u
  uses_in values (Block' p t) = uses_of values t
  uses_in values k = []

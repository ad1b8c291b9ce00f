-- Rows in order: what is ascending and has the same atoms is the settled list.
use Rattle.std.proofs.Common.{◌≡◌, ℕ, ◌<◌, ◌⊎◌, inl, inr, refl, sym, ◌∙◌, ap, subst, arith, true, false, Bool, ◌==◌, ◌&&◌, ◌||◌, nat_lt, if◌then◌else◌, List, [], ◌∷◌}
use Rattle.std.proofs.lemmas.Bool.{cases_lt}
use Rattle.std.proofs.lemmas.Bool.Decides.{nat_tests}
use Rattle.core_term.specs.Lists.{Has}
use Rattle.core_term.specs.declared.term.SourceAtom.{SourceAtom}
use Rattle.core_term.specs.declared.term.SourceAtom.TheVariants.{Wire, Reg, Choice}
use Rattle.core_term.specs.Atoms.{kind_number, site_of, register_read, ComesFirst, IsAscending}
use Rattle.core_term.specs.AtomTables.{is_first, with_atom, settled}

-- The order.

not_itself : (atom : SourceAtom) → ComesFirst atom atom → ⊥
not_itself atom (inl k) = omega (arith, k)
not_itself atom (inr (e, inl k)) = omega (arith, k)
not_itself atom (inr (e, inr (f, k))) = omega (arith, k)

through : (a b c : SourceAtom) → ComesFirst a b → ComesFirst b c → ComesFirst a c
through a b c (inl k) (inl l) = inl (omega (arith, k, l))
through a b c (inl k) (inr (e, l)) = inl (omega (arith, k, e))
through a b c (inr (e, k)) (inl l) = inl (omega (arith, e, l))
through a b c (inr (e, inl k)) (inr (f, inl l)) = inr (e ∙ f, inl (omega (arith, k, l)))
through a b c (inr (e, inl k)) (inr (f, inr (g, l))) = inr (e ∙ f, inl (omega (arith, k, g)))
through a b c (inr (e, inr (g, k))) (inr (f, inl l)) = inr (e ∙ f, inl (omega (arith, g, l)))
through a b c (inr (e, inr (g, k))) (inr (f, inr (h, l))) = inr (e ∙ f, inr (g ∙ h, omega (arith, k, l)))

not_both : (one other : SourceAtom) → ComesFirst one other → ComesFirst other one → ⊥
not_both one other k l = not_itself one (through one other one k l)

-- A list that ascends is told by its items.

pub same_rows : (one other : List SourceAtom) → IsAscending one → IsAscending other
    → ((atom : SourceAtom) → Has one atom → Has other atom) → ((atom : SourceAtom) → Has other atom → Has one atom) → one ≡ other
same_rows [] [] up up' there back = refl
same_rows [] (b ∷ others) up up' there back = absurd (back b (inl refl))
same_rows (a ∷ ones) [] up up' there back = absurd (there a (inl refl))
same_rows (a ∷ ones) (b ∷ others) up up' there back = joined first (same_rows ones others up.1 up'.1 rest_there rest_back)
  where
    first : a ≡ b
    first = go (there a (inl refl)) (back b (inl refl))
      where
        go : Has (b ∷ others) a → Has (a ∷ ones) b → a ≡ b
        go (inl e) k = e
        go (inr i) (inl e) = sym e
        go (inr i) (inr j) = absurd (not_both b a (up'.0 a i) (up.0 b j))

    rest_there : (atom : SourceAtom) → Has ones atom → Has others atom
    rest_there atom i = go (there atom (inr i))
      where
        go : Has (b ∷ others) atom → Has others atom
        go (inl e) = let the_comes_first : ComesFirst a a = subst (ComesFirst a) (e ∙ sym first) (up.0 atom i) in absurd (not_itself a the_comes_first)
        go (inr j) = j

    rest_back : (atom : SourceAtom) → Has others atom → Has ones atom
    rest_back atom i = go (back atom (inr i))
      where
        go : Has (a ∷ ones) atom → Has ones atom
        go (inl e) = let next_the_comes_first : ComesFirst b b = subst (ComesFirst b) (e ∙ first) (up'.0 atom i) in absurd (not_itself b next_the_comes_first)
        go (inr j) = j

    joined : a ≡ b → ones ≡ others → (a ∷ ones) ≡ (b ∷ others)
    joined e rest = rw (e, rest) refl

-- The settled list ascends, and has the atoms of the list.

numbers_first : (k k' s s' r r' : ℕ) → (nat_lt k k' || ((k == k') && (nat_lt s s' || ((s == s') && nat_lt r r')))) ≡ true
    → (k < k') ⊎ ((k ≡ k') × ((s < s') ⊎ ((s ≡ s') × (r < r'))))
numbers_first k k' s s' r r' is = kinds (nat_lt k k') refl is
  where
    registers : (b : Bool) → nat_lt r r' ≡ b → b ≡ true → r < r'
    registers b e f = let decided : nat_lt r r' ≡ true = e ∙ f in grind (arith, nat_tests)

    equal_sites : (b : Bool) → (s == s') ≡ b → (b && nat_lt r r') ≡ true → (s ≡ s') × (r < r')
    equal_sites true e f = (grind (arith, nat_tests), registers (nat_lt r r') refl f)
    equal_sites false e f = absurd cc

    sites : (b : Bool) → nat_lt s s' ≡ b → (b || ((s == s') && nat_lt r r')) ≡ true → (s < s') ⊎ ((s ≡ s') × (r < r'))
    sites true e f = inl (grind (arith, nat_tests))
    sites false e f = inr (equal_sites (s == s') refl f)

    equal_kinds : (b : Bool) → (k == k') ≡ b → (b && (nat_lt s s' || ((s == s') && nat_lt r r'))) ≡ true
        → (k ≡ k') × ((s < s') ⊎ ((s ≡ s') × (r < r')))
    equal_kinds true e f = (grind (arith, nat_tests), sites (nat_lt s s') refl f)
    equal_kinds false e f = absurd cc

    kinds : (b : Bool) → nat_lt k k' ≡ b → (b || ((k == k') && (nat_lt s s' || ((s == s') && nat_lt r r')))) ≡ true
        → (k < k') ⊎ ((k ≡ k') × ((s < s') ⊎ ((s ≡ s') × (r < r'))))
    kinds true e f = inl (grind (arith, nat_tests))
    kinds false e f = inr (equal_kinds (k == k') refl f)

first_is : (one other : SourceAtom) → is_first one other ≡ true → ComesFirst one other
first_is one other is =
    numbers_first (kind_number one) (kind_number other) (site_of one) (site_of other) (register_read one) (register_read other) is

is_number_first : (k k' s s' r r' : ℕ) → (k < k') ⊎ ((k ≡ k') × ((s < s') ⊎ ((s ≡ s') × (r < r'))))
    → (nat_lt k k' || ((k == k') && (nat_lt s s' || ((s == s') && nat_lt r r')))) ≡ true
is_number_first k k' s s' r r' (inl l) = let decided : nat_lt k k' ≡ true = grind (arith, nat_tests) in rw decided refl
is_number_first k k' s s' r r' (inr (e, inl l)) =
    let next_decided : nat_lt k k' ≡ false = grind (arith, nat_tests) in
    let last_decided : (k == k') ≡ true = grind (arith, nat_tests) in
    let other_decided : nat_lt s s' ≡ true = grind (arith, nat_tests) in rw (next_decided, last_decided, other_decided) refl
is_number_first k k' s s' r r' (inr (e, inr (f, l))) =
    let more_decided : nat_lt k k' ≡ false = grind (arith, nat_tests) in
    let further_decided : (k == k') ≡ true = grind (arith, nat_tests) in
    let second_decided : nat_lt s s' ≡ false = grind (arith, nat_tests) in
    let third_decided : (s == s') ≡ true = grind (arith, nat_tests) in
    let fourth_decided : nat_lt r r' ≡ true = grind (arith, nat_tests) in rw (more_decided, further_decided, second_decided, third_decided, fourth_decided) refl

compare : (m n : ℕ) → (m < n) ⊎ ((m ≡ n) ⊎ (n < m))
compare m n = elim (cases_lt m n) [
  | inl l ↦ inl l
  | inr l ↦ elim (cases_lt n m) [ inl k ↦ inr (inr k) | inr k ↦ inr (inl (omega arith)) ]
]

same_numbers : (one other : SourceAtom) → kind_number one ≡ kind_number other → site_of one ≡ site_of other → register_read one ≡ register_read other
    → one ≡ other
same_numbers (Wire s) (Wire t) k e f = ap Wire e
same_numbers (Wire s) (Reg t q) k e f = absurd (omega (arith, k))
same_numbers (Wire s) (Choice t) k e f = absurd (omega (arith, k))
same_numbers (Reg s r) (Wire t) k e f = absurd (omega (arith, k))
same_numbers (Reg s r) (Reg t q) k e f = rw (e, f) refl
same_numbers (Reg s r) (Choice t) k e f = absurd (omega (arith, k))
same_numbers (Choice s) (Wire t) k e f = absurd (omega (arith, k))
same_numbers (Choice s) (Reg t q) k e f = absurd (omega (arith, k))
same_numbers (Choice s) (Choice t) k e f = ap Choice e

neither_first : (one other : SourceAtom) → is_first one other ≡ false → is_first other one ≡ false → one ≡ other
neither_first one other no_one no_other = go (compare (kind_number one) (kind_number other)) (compare (site_of one) (site_of other)) (compare (register_read one) (register_read other))
  where
    wrong : {A : Type 0} (b : Bool) → b ≡ true → b ≡ false → A
    wrong b e f = let decided : true ≡ false = sym e ∙ f in absurd cc

    this : {A : Type 0} → ComesFirst one other → A
    this k = wrong (is_first one other) (is_number_first (kind_number one) (kind_number other) (site_of one) (site_of other) (register_read one) (register_read other) k) no_one

    that : {A : Type 0} → ComesFirst other one → A
    that k = wrong (is_first other one) (is_number_first (kind_number other) (kind_number one) (site_of other) (site_of one) (register_read other) (register_read one) k) no_other

    go : (kind_number one < kind_number other) ⊎ ((kind_number one ≡ kind_number other) ⊎ (kind_number other < kind_number one))
        → (site_of one < site_of other) ⊎ ((site_of one ≡ site_of other) ⊎ (site_of other < site_of one))
        → (register_read one < register_read other) ⊎ ((register_read one ≡ register_read other) ⊎ (register_read other < register_read one)) → one ≡ other
    go (inl l) s r = this (inl l)
    go (inr (inr l)) s r = that (inl l)
    go (inr (inl e)) (inl l) r = this (inr (e, inl l))
    go (inr (inl e)) (inr (inr l)) r = that (inr (sym e, inl l))
    go (inr (inl e)) (inr (inl f)) (inl l) = this (inr (e, inr (f, l)))
    go (inr (inl e)) (inr (inl f)) (inr (inr l)) = that (inr (sym e, inr (sym f, l)))
    go (inr (inl e)) (inr (inl f)) (inr (inl g)) = same_numbers one other e f g

-- what stands in a list with one atom more
more_has : (atom : SourceAtom) (atoms : List SourceAtom) (other : SourceAtom) → Has (with_atom atom atoms) other → (other ≡ atom) ⊎ Has atoms other
more_has atom [] other (inl e) = inl e
more_has atom [] other (inr i) = elim i [ ]
more_has atom (first ∷ rest) other i = go (is_first atom first) (is_first first atom) (more_has atom rest other) i
  where
    go : (b c : Bool) → (Has (with_atom atom rest) other → (other ≡ atom) ⊎ Has rest other)
        → Has (if b then atom ∷ first ∷ rest else (if c then first ∷ with_atom atom rest else first ∷ rest)) other
        → (other ≡ atom) ⊎ Has (first ∷ rest) other
    go true c later (inl e) = inl e
    go true c later (inr j) = inr j
    go false true later (inl e) = inr (inl e)
    go false true later (inr j) = elim (later j) [ inl e ↦ inl e | inr k ↦ inr (inr k) ]
    go false false later j = inr j

has_more : (atom : SourceAtom) (atoms : List SourceAtom) (other : SourceAtom) → Has atoms other → Has (with_atom atom atoms) other
has_more atom [] other i = elim i [ ]
has_more atom (first ∷ rest) other i = go (is_first atom first) (is_first first atom) (has_more atom rest other) i
  where
    go : (b c : Bool) → (Has rest other → Has (with_atom atom rest) other) → Has (first ∷ rest) other
        → Has (if b then atom ∷ first ∷ rest else (if c then first ∷ with_atom atom rest else first ∷ rest)) other
    go true c later j = inr j
    go false true later (inl e) = inl e
    go false true later (inr j) = inr (later j)
    go false false later j = j

has_new : (atom : SourceAtom) (atoms : List SourceAtom) → Has (with_atom atom atoms) atom
has_new atom [] = inl refl
has_new atom (first ∷ rest) = go (is_first atom first) (is_first first atom) refl refl (has_new atom rest)
  where
    go : (b c : Bool) → is_first atom first ≡ b → is_first first atom ≡ c → Has (with_atom atom rest) atom
        → Has (if b then atom ∷ first ∷ rest else (if c then first ∷ with_atom atom rest else first ∷ rest)) atom
    go true c e f later = inl refl
    go false true e f later = inr later
    go false false e f later = inl (neither_first atom first e f)

more_ascends : (atom : SourceAtom) (atoms : List SourceAtom) → IsAscending atoms → IsAscending (with_atom atom atoms)
more_ascends atom [] up = ((λ other i. elim i [ ]), tt)
more_ascends atom (first ∷ rest) up = go (is_first atom first) (is_first first atom) refl refl (more_ascends atom rest up.1)
  where
    go : (b c : Bool) → is_first atom first ≡ b → is_first first atom ≡ c → IsAscending (with_atom atom rest)
        → IsAscending (if b then atom ∷ first ∷ rest else (if c then first ∷ with_atom atom rest else first ∷ rest))
    go true c e f later = (all_after, up)
      where
        all_after : (other : SourceAtom) → Has (first ∷ rest) other → ComesFirst atom other
        all_after other (inl same) = subst (ComesFirst atom) (sym same) (first_is atom first e)
        all_after other (inr i) = through atom first other (first_is atom first e) (up.0 other i)
    go false true e f later = (after_first, later)
      where
        after_first : (other : SourceAtom) → Has (with_atom atom rest) other → ComesFirst first other
        after_first other i = elim (more_has atom rest other i) [ inl same ↦ subst (ComesFirst first) (sym same) (first_is first atom f) | inr j ↦ up.0 other j ]
    go false false e f later = up

pub settled_ascends : (atoms : List SourceAtom) → IsAscending (settled atoms)
settled_ascends [] = tt
settled_ascends (atom ∷ atoms) = more_ascends atom (settled atoms) (settled_ascends atoms)

pub settled_has : (atoms : List SourceAtom) (other : SourceAtom) → Has (settled atoms) other → Has atoms other
settled_has [] other i = i
settled_has (atom ∷ atoms) other i = elim (more_has atom (settled atoms) other i) [ inl e ↦ inl e | inr j ↦ inr (settled_has atoms other j) ]

pub has_settled : (atoms : List SourceAtom) (other : SourceAtom) → Has atoms other → Has (settled atoms) other
has_settled [] other i = i
has_settled (atom ∷ atoms) other (inl e) = subst (Has (settled (atom ∷ atoms))) (sym e) (has_new atom (settled atoms))
has_settled (atom ∷ atoms) other (inr i) = has_more atom (settled atoms) other (has_settled atoms other i)

-- what ascends and has the same atoms is the settled list
pub is_settled : (old new : List SourceAtom) → IsAscending new → ((atom : SourceAtom) → Has new atom → Has old atom)
    → ((atom : SourceAtom) → Has old atom → Has new atom) → new ≡ settled old
is_settled old new up sound whole =
    same_rows new (settled old) up (settled_ascends old) (λ atom i. has_settled old atom (sound atom i)) (λ atom i. whole atom (settled_has old atom i))

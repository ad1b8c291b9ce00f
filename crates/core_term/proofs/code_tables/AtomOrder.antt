-- The order of atoms that the code uses is that of the definitions, and what is sorted by it ascends.
use Rattle.std.proofs.Common.{Ordering, Less, Equal, Greater, ap, nat_eq, ◌≡◌, ℕ, ◌<◌, ◌⊎◌, subst, inl, inr, refl, sym, true, arith, List, [], ◌∷◌, zero, suc}
use Rattle.std.specs.Cmp.{ranks}
use Rattle.std.proofs.lemmas.Bool.{and_parts, eqb-true, false≢true}
use Rattle.std.specs.Ordering.{MatchOrdering, nat_cmp, ordering_then}
use Rattle.std.specs.List.{Any, Contains, AllByRecursion}
use Rattle.std.specs.List.Sorted.{IsStrictlySortedBy}
use Rattle.core_term.specs.Lists.{Has}
use Rattle.core_term.specs.declared.term.SourceAtom.{SourceAtom}
use Rattle.core_term.specs.declared.term.SourceAtom.TheVariants.{Wire, Reg, Choice}
use Rattle.core_term.specs.contracts.term.SourceAtomOrd.TheImpl as order
use Rattle.core_term.specs.contracts.term.SourceAtomPartialEq.TheImpl as equality
use Rattle.core_term.specs.Atoms.{ComesFirst, IsAscending}

less_number : (s t : ℕ) → nat_cmp s t ≡ Less → s < t
less_number s t k = let matches = ranks s t in rw k at matches

less_pair : (s t r q : ℕ) (sites : Ordering) → MatchOrdering sites (s < t) (s ≡ t) (t < s) → ordering_then sites (nat_cmp r q) ≡ Less
    → (s < t) ⊎ ((s ≡ t) × (r < q))
less_pair s t r q Less matches k = inl matches
less_pair s t r q Equal matches k = inr (matches, less_number r q k)
less_pair s t r q Greater matches k = absurd cc

pub less_first : (one other : SourceAtom) → order.ghosts.cmp one other ≡ Less → ComesFirst one other
less_first (Wire s) (Wire t) k = inr (refl, inl (less_number s t k))
less_first (Wire s) (Reg t q) k = inl (omega arith)
less_first (Wire s) (Choice t) k = inl (omega arith)
less_first (Reg s r) (Wire t) k = let equal : Greater ≡ Less = k in absurd cc
less_first (Reg s r) (Reg t q) k = inr (refl, less_pair s t r q (nat_cmp s t) (ranks s t) k)
less_first (Reg s r) (Choice t) k = inl (omega arith)
less_first (Choice s) (Wire t) k = let next_equal : Greater ≡ Less = k in absurd cc
less_first (Choice s) (Reg t q) k = let last_equal : Greater ≡ Less = k in absurd cc
less_first (Choice s) (Choice t) k = inr (refl, inl (less_number s t k))

pub equal_same : (one other : SourceAtom) → equality.ghosts.eq one other ≡ true → one ≡ other
equal_same (Wire s) (Wire t) k = ap Wire (eqb-true s t k)
equal_same (Wire s) (Reg t q) k = absurd (false≢true k)
equal_same (Wire s) (Choice t) k = absurd (false≢true k)
equal_same (Reg s r) (Wire t) k = absurd (false≢true k)
equal_same (Reg s r) (Reg t q) k = let parts = and_parts (nat_eq s t) (nat_eq r q) k in rw (eqb-true s t parts.0, eqb-true r q parts.1) refl
equal_same (Reg s r) (Choice t) k = absurd (false≢true k)
equal_same (Choice s) (Wire t) k = absurd (false≢true k)
equal_same (Choice s) (Reg t q) k = absurd (false≢true k)
equal_same (Choice s) (Choice t) k = ap Choice (eqb-true s t k)

pub has_contained : {A : Type 0} (items : List A) (item : A) → Contains items item → Has items item
has_contained [] item (k, short, is) = absurd (omega arith)
has_contained (first ∷ rest) item (zero, short, is) = inl (sym is)
has_contained (first ∷ rest) item (suc k, short, is) = inr (has_contained rest item (k, omega arith, is))

pub contained_has : {A : Type 0} (items : List A) (item : A) → Has items item → Contains items item
contained_has [] item has = elim has [ ]
contained_has (first ∷ rest) item (inl is) = (0, omega arith, sym is)
contained_has (first ∷ rest) item (inr has) = let found = contained_has rest item has in (suc found.0, omega arith, found.2)

all_has : (P : SourceAtom → Type 0) (atoms : List SourceAtom) → AllByRecursion P atoms → (atom : SourceAtom) → Has atoms atom → P atom
all_has P [] all atom has = elim has [ ]
all_has P (first ∷ rest) all atom (inl is) = subst P (sym is) all.0
all_has P (first ∷ rest) all atom (inr has) = all_has P rest all.1 atom has

pub ascending : (atoms : List SourceAtom) → IsStrictlySortedBy order.ghosts.cmp atoms → IsAscending atoms
unfolding IsStrictlySortedBy
ascending [] sorted = tt
ascending (atom ∷ atoms) sorted =
    ((λ other has. less_first atom other (all_has (λ y. order.ghosts.cmp atom y ≡ Less) atoms sorted.0 other has)), ascending atoms sorted.1)

any_has : (atoms : List SourceAtom) (atom : SourceAtom) → Any (λ other. equality.ghosts.eq atom other ≡ true) atoms → Has atoms atom
any_has atoms atom (k, other, short, is, same) = subst (Has atoms) (sym (equal_same atom other same)) (has_contained atoms other (k, short, is))

pub still_has : (old new : List SourceAtom) → ((atom : SourceAtom) → Contains old atom → Any (λ other. equality.ghosts.eq atom other ≡ true) new)
    → (atom : SourceAtom) → Has old atom → Has new atom
still_has old new whole atom has = any_has new atom (whole atom (contained_has old atom has))

pub only_has : (old new : List SourceAtom) → ((atom : SourceAtom) → Contains new atom → Contains old atom) → (atom : SourceAtom) → Has new atom → Has old atom
only_has old new sound atom has = has_contained old atom (sound atom (contained_has new atom has))

-- The order of pairs that the code uses is that of the definitions, and what is sorted by it ascends.
use Rattle.std.proofs.Common.{Ordering, Less, Equal, Greater, nat_eq, ◌≡◌, ℕ, ◌<◌, ◌⊎◌, subst, inl, inr, sym, true, arith, List, [], ◌∷◌, zero, suc}
use Rattle.std.specs.Cmp.{ranks}
use Rattle.std.proofs.lemmas.Bool.{and_parts, eqb-true}
use Rattle.std.specs.Ordering.{MatchOrdering, nat_cmp, ordering_then}
use Rattle.std.specs.List.{Any, Contains, AllByRecursion}
use Rattle.std.specs.List.Sorted.{IsStrictlySortedBy}
use Rattle.core_term.specs.Lists.{Has}
use Rattle.demand_checks.specs.declared.place.Pair.{Pair}
use Rattle.demand_checks.specs.contracts.place.PairOrd.TheImpl as order
use Rattle.demand_checks.specs.contracts.place.PairPartialEq.TheImpl as equality
use Rattle.demand_checks.specs.Pairs.{ComesFirst, AreAscending}
use Rattle.demand_checks.proofs.Listed.{same_pair}

less_number : (s t : ℕ) → nat_cmp s t ≡ Less → s < t
less_number s t k = let matches = ranks s t in rw k at matches

less_pair : (s t r q : ℕ) (sites : Ordering) → MatchOrdering sites (s < t) (s ≡ t) (t < s) → ordering_then sites (nat_cmp r q) ≡ Less
    → (s < t) ⊎ ((s ≡ t) × (r < q))
less_pair s t r q Less matches k = inl matches
less_pair s t r q Equal matches k = inr (matches, less_number r q k)
less_pair s t r q Greater matches k = absurd cc

less_first : (one other : Pair) → order.ghosts.cmp one other ≡ Less → ComesFirst one other
less_first one other k = less_pair one.first other.first one.second other.second (nat_cmp one.first other.first) (ranks one.first other.first) k

equal_same : (one other : Pair) → equality.ghosts.eq one other ≡ true → one ≡ other
equal_same one other k =
    let parts = and_parts (nat_eq one.first other.first) (nat_eq one.second other.second) k in
    same_pair one other.first other.second (eqb-true one.first other.first parts.0) (eqb-true one.second other.second parts.1)

has_contained : {A : Type 0} (items : List A) (item : A) → Contains items item → Has items item
has_contained [] item (k, short, is) = absurd (omega arith)
has_contained (first ∷ rest) item (zero, short, is) = inl (sym is)
has_contained (first ∷ rest) item (suc k, short, is) = inr (has_contained rest item (k, omega arith, is))

contained_has : {A : Type 0} (items : List A) (item : A) → Has items item → Contains items item
contained_has [] item has = elim has [ ]
contained_has (first ∷ rest) item (inl is) = (0, omega arith, sym is)
contained_has (first ∷ rest) item (inr has) = let found = contained_has rest item has in (suc found.0, omega arith, found.2)

all_has : (P : Pair → Type 0) (pairs : List Pair) → AllByRecursion P pairs → (pair : Pair) → Has pairs pair → P pair
all_has P [] all pair has = elim has [ ]
all_has P (first ∷ rest) all pair (inl is) = subst P (sym is) all.0
all_has P (first ∷ rest) all pair (inr has) = all_has P rest all.1 pair has

pub ascending : (pairs : List Pair) → IsStrictlySortedBy order.ghosts.cmp pairs → AreAscending pairs
unfolding IsStrictlySortedBy
ascending [] sorted = tt
ascending (pair ∷ pairs) sorted =
    ((λ other has. less_first pair other (all_has (λ y. order.ghosts.cmp pair y ≡ Less) pairs sorted.0 other has)), ascending pairs sorted.1)

any_has : (pairs : List Pair) (pair : Pair) → Any (λ other. equality.ghosts.eq pair other ≡ true) pairs → Has pairs pair
any_has pairs pair (k, other, short, is, same) = subst (Has pairs) (sym (equal_same pair other same)) (has_contained pairs other (k, short, is))

pub still_has : (old new : List Pair) → ((pair : Pair) → Contains old pair → Any (λ other. equality.ghosts.eq pair other ≡ true) new)
    → (pair : Pair) → Has old pair → Has new pair
still_has old new whole pair has = any_has new pair (whole pair (contained_has old pair has))

pub only_has : (old new : List Pair) → ((pair : Pair) → Contains new pair → Contains old pair) → (pair : Pair) → Has new pair → Has old pair
only_has old new sound pair has = has_contained old pair (sound pair (contained_has new pair has))

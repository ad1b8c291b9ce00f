-- What tests and readings that are one after the other tell.
use Rattle.std.proofs.Common.{◌≡◌, ℕ, Bool, true, false, cond, ◌&&◌, List, Option, Some, None, refl, ap, subst}
use Rattle.std.proofs.lemmas.Bool.{eqb-true, eq-eqb}
use Rattle.std.proofs.lemmas.Slice.Eq.{bytes_eq-Decides}
use Rattle.std.specs.Prelude.{bytes_eq, ◌==◌, MatchOption}
use Rattle.stim_text.specs.Pieces.{◌>>=◌}

-- what was read first, and what follows from what was read of it
pub then_read : {A B G : Type 0} (found : Option A) (next : A → Option B) (result : B) → found >>= next ≡ Some result
    → ((first : A) → found ≡ Some first → next first ≡ Some result → G) → G
then_read None next result is go = absurd cc
then_read (Some first) next result is go = go first refl is

pub some_same : {X : Type 0} {one other : X} → Some one ≡ Some other → one ≡ other
some_same {one = one} e = ap (λ (found : Option _). elim found [ None ↦ one | Some x ↦ x ]) e

-- a value where a test holds
pub record Passes {X : Type 0} (test : Bool) (value result : X) : Type 0 where
  pub holds : test ≡ true
  pub same : value ≡ result

pub passes : {X : Type 0} (test : Bool) (value result : X) → cond test (Some value) None ≡ Some result → Passes test value result
passes true value result is = record { holds = refl; same = cc }
passes false value result is = absurd cc

pub record Both (one other : Bool) : Type 0 where
  pub one_holds : one ≡ true
  pub other_holds : other ≡ true

pub both : (one other : Bool) → (one && other) ≡ true → Both one other
both true other is = record { one_holds = refl; other_holds = is }
both false other is = absurd cc

pub and_both : (one other : Bool) → one ≡ true → other ≡ true → (one && other) ≡ true
and_both true other first second = second
and_both false other first second = absurd cc

pub bytes_same : (one other : List ℕ) → bytes_eq one other ≡ true → one ≡ other
bytes_same one other is = (bytes_eq-Decides one other).0 is

pub same_bytes : (one : List ℕ) → bytes_eq one one ≡ true
same_bytes one = (bytes_eq-Decides one one).1 refl

pub number_same : (one other : ℕ) → (one == other) ≡ true → one ≡ other
number_same one other is = eqb-true one other is

pub same_number : (one : ℕ) → (one == one) ≡ true
same_number one = eq-eqb one one refl

-- nothing, where nothing can be
pub none_of : {X : Type 0} (found : Option X) → ((x : X) → found ≡ Some x → ⊥) → found ≡ None
none_of None never = refl
none_of (Some x) never = absurd (never x refl)

-- what stands of an answer that was found, or not
pub where_some : {X : Type 0} (found : Option X) (Nothing : Type 0) (Each : X → Type 0) (x : X) → MatchOption found Nothing Each → found ≡ Some x → Each x
where_some None Nothing Each x stands is = absurd cc
where_some (Some y) Nothing Each x stands is = subst Each (some_same is) stands

pub where_none : {X : Type 0} (found : Option X) (Nothing : Type 0) (Each : X → Type 0) → MatchOption found Nothing Each → found ≡ None → Nothing
where_none None Nothing Each stands is = stands
where_none (Some y) Nothing Each stands is = absurd cc

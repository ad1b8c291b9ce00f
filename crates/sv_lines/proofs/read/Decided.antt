-- What tests and readings that are one after the other tell.
use Rattle.std.proofs.Common.{◌≡◌, ℕ, Bool, true, false, cond, List, Option, Some, None, refl}
use Rattle.std.proofs.lemmas.Bool.{eqb-true, eq-eqb}
use Rattle.std.proofs.lemmas.Slice.Eq.{bytes_eq-Decides}
use Rattle.std.specs.Prelude.{bytes_eq, ◌==◌}
use Rattle.sv_lines.specs.Pieces.{◌>>=◌, closed}

-- what was read first, and what was read of it
pub record Reads {A B : Type 0} (found : Option A) (next : A → Option B) (result : B) : Type 0 where
  pub first : A
  pub is_first : found ≡ Some first
  pub is_next : next first ≡ Some result

pub reads : {A B : Type 0} (found : Option A) (next : A → Option B) (result : B) → found >>= next ≡ Some result → Reads found next result
reads None next result e = absurd cc
reads (Some first) next result e = record { first = first; is_first = refl; is_next = e }

-- the same, with what follows from it
pub then_read : {A B G : Type 0} (found : Option A) (next : A → Option B) (result : B) → found >>= next ≡ Some result
    → ((first : A) → found ≡ Some first → next first ≡ Some result → G) → G
then_read None next result e go = absurd cc
then_read (Some first) next result e go = go first refl e

-- a value where a test holds
pub record Passes {X : Type 0} (test : Bool) (value result : X) : Type 0 where
  pub holds : test ≡ true
  pub same : value ≡ result

pub passes : {X : Type 0} (test : Bool) (value result : X) → cond test (Some value) None ≡ Some result → Passes test value result
passes true value result e = record { holds = refl; same = cc }
passes false value result e = absurd cc

-- a reading where a test holds
pub record PassesOn {X : Type 0} (test : Bool) (found : Option X) (result : X) : Type 0 where
  pub holds : test ≡ true
  pub same : found ≡ Some result

pub passes_on : {X : Type 0} (test : Bool) (found : Option X) (result : X) → cond test found None ≡ Some result → PassesOn test found result
passes_on true found result e = record { holds = refl; same = e }
passes_on false found result e = absurd cc

pub bytes_same : (one other : List ℕ) → bytes_eq one other ≡ true → one ≡ other
bytes_same one other e = (bytes_eq-Decides one other).0 e

pub same_bytes : (one : List ℕ) → bytes_eq one one ≡ true
same_bytes one = (bytes_eq-Decides one one).1 refl

pub number_same : (one other : ℕ) → (one == other) ≡ true → one ≡ other
number_same one other e = eqb-true one other e

pub same_number : (one : ℕ) → (one == one) ≡ true
same_number one = eq-eqb one one refl

pub record Closes {X : Type 0} (word rest : List ℕ) (value result : X) : Type 0 where
  pub ends : rest ≡ word
  pub same : value ≡ result

pub closes : {X : Type 0} (word : List ℕ) (value result : X) (rest : List ℕ) → closed word value rest ≡ Some result → Closes word rest value result
closes word value result rest e =
    let passed = passes (bytes_eq rest word) value result e in
    record { ends = bytes_same rest word passed.holds; same = passed.same }

pub closes_back : {X : Type 0} (word : List ℕ) (value : X) → closed word value word ≡ Some value
closes_back word value = rw (same_bytes word) refl

-- nothing, where nothing can be
pub none_of : {X : Type 0} (found : Option X) → ((x : X) → found ≡ Some x → ⊥) → found ≡ None
none_of None never = refl
none_of (Some x) never = absurd (never x refl)

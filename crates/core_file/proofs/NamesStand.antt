-- Names stand for numbers in one way. A word that is bound stands for the site that a search from the innermost
-- variable finds, and for no other. A register, and a port of an endpoint and a message, stands at the first place
-- where a search finds it, and at no other, since none stands twice.
use Rattle.std.proofs.Common.{◌≡◌, ◌∙◌, ℕ, ◌+◌, inl, inr, arith, refl, sym, ap, subst, Bool, true, false, cond, not, ◌||◌, if◌then◌else◌, List, [], ◌∷◌, bytes_eq, zero, suc}
use Rattle.std.specs.List.{list_any, position_or_len}
use Rattle.anvil_tree.specs.Tree.{Name}
use Rattle.core_term.specs.Lists.{Has}
use Rattle.core_term.specs.Process.{Port}
use Rattle.core_term.specs.Sized.{is_same_port}
use Rattle.core_file.specs.Scope.{Bound, is_among, number_among, is_bound, site_of, is_port}
use Rattle.core_file.specs.IsCoreFile.{IsAt, IsInnermost, IsPortOf}
use Rattle.core_file.proofs.Apart.{both_true, first_true, second_true, same_name, name_same, never_true, AllApart}

-- Words.

innermost_by : (here : Bool) (bound : Bound) (outer : List Bound) (name : Name) → bytes_eq name bound.name ≡ here
    → (here || is_bound outer name) ≡ true
    → (is_bound outer name ≡ true → IsInnermost outer name (site_of outer name))
    → IsInnermost (bound ∷ outer) name (if here then bound.site else site_of outer name)
innermost_by true bound outer name is some later = inl (sym (same_name name bound.name is), refl)
innermost_by false bound outer name is some later = inr (λ same. absurd_of (name_same name bound.name (sym same)) is, later some)
  where
    absurd_of : {test : Bool} → test ≡ true → test ≡ false → ⊥
    absurd_of is is_not = absurd cc

pub bound_innermost : (variables : List Bound) (name : Name) → is_bound variables name ≡ true
    → IsInnermost variables name (site_of variables name)
bound_innermost [] name some = absurd cc
bound_innermost (bound ∷ outer) name some =
    innermost_by (bytes_eq name bound.name) bound outer name refl some (bound_innermost outer name)

pub innermost_one : (variables : List Bound) (name : Name) (y : ℕ) → IsInnermost variables name y → y ≡ site_of variables name
innermost_one [] name y is = elim is [ ]
innermost_one (bound ∷ outer) name y (inl here) = rw (name_same name bound.name (sym here.0)) here.1
innermost_one (bound ∷ outer) name y (inr there) =
    let other : bytes_eq name bound.name ≡ false =
    never_true (bytes_eq name bound.name) (λ same. there.0 (sym (same_name name bound.name same))) in
    rw other (innermost_one outer name y there.1)

-- Places.

at_has : {X : Type 0} (items : List X) (number : ℕ) (item : X) → IsAt items number item → Has items item
at_has [] number item at = elim at [ ]
at_has (first ∷ items) zero item at = inl (sym at)
at_has (first ∷ items) (suc number) item at = inr (at_has items number item at)

-- the first item that passes a test stands at its place
found_at_by : {X : Type 0} (test : X → Bool) (here : Bool) (first : X) (items : List X) → test first ≡ here
    → (here || list_any test items) ≡ true
    → (list_any test items ≡ true → (item : X) × IsAt items (position_or_len test items) item × (test item ≡ true))
    → (item : X) × IsAt (first ∷ items) (cond (not here) (1 + position_or_len test items) 0) item × (test item ≡ true)
found_at_by test true first items is some later = (first, refl, is)
found_at_by test false first items is some later =
    let found = later some in
    let step : suc (position_or_len test items) ≡ 1 + position_or_len test items = omega arith in
    (found.0, subst (λ number. IsAt (first ∷ items) number found.0) step found.1, found.2)

pub found_at : {X : Type 0} (test : X → Bool) (items : List X) → list_any test items ≡ true → (item : X)
    × IsAt items (position_or_len test items) item × (test item ≡ true)
found_at test [] some = absurd cc
found_at test (first ∷ items) some = found_at_by test (test first) first items refl some (found_at test items)

-- an item that passes stands at that place, where no two that pass stand apart
pub place_one : {X : Type 0} (test : X → Bool) (same : X → X → Bool)
    → ((one other : X) → test one ≡ true → test other ≡ true → same one other ≡ true)
    → (items : List X) → AllApart same items → (number : ℕ) (item : X) → IsAt items number item → test item ≡ true
    → number ≡ position_or_len test items
place_one test same alike [] apart number item at is = elim at [ ]
place_one test same alike (first ∷ items) apart zero item at is = rw (ap test at ∙ is) refl
place_one test same alike (first ∷ items) apart (suc number) item at is =
    let differ = apart.0 item (at_has items number item at) in
    let other : test first ≡ false = never_true (test first) (λ passes. absurd_of (alike first item passes is) differ) in
    let rest = place_one test same alike items apart.1 number item at is in
    rw other (omega arith)
  where
    absurd_of : {test : Bool} → test ≡ true → test ≡ false → ⊥
    absurd_of is is_not = absurd cc

-- Registers.

pub register_stands : (names : List Name) (name : Name) → is_among names name ≡ true → IsAt names (number_among names name) name
register_stands names name some =
    let found = found_at (bytes_eq name) names some in
    subst (IsAt names (number_among names name)) (sym (same_name name found.0 found.2)) found.1

pub register_one : (names : List Name) → AllApart bytes_eq names → (number : ℕ) (name : Name) → IsAt names number name
    → number ≡ number_among names name
register_one names apart number name at =
    place_one (bytes_eq name) bytes_eq (λ one other is also. name_same one other (sym (same_name name one is)
    ∙ same_name name other also)) names apart number name at (name_same name name refl)

-- Ports.

pub port_stands : (ports : List Port) (endpoint message : Name) → list_any (is_port endpoint message) ports ≡ true
    → IsPortOf ports endpoint message (position_or_len (is_port endpoint message) ports)
port_stands ports endpoint message some =
    let found = found_at (is_port endpoint message) ports some in
    let port = found.0 in (
      port,
      found.1,
      sym (same_name endpoint port.endpoint (first_true _ _ found.2)),
      sym (same_name message port.message (second_true (bytes_eq endpoint port.endpoint) _ found.2)),
    )

pub port_one : (ports : List Port) → AllApart is_same_port ports → (endpoint message : Name) (number : ℕ)
    → IsPortOf ports endpoint message number
    → number ≡ position_or_len (is_port endpoint message) ports
port_one ports apart endpoint message number (port, at, is_endpoint, is_message) =
    place_one (is_port endpoint message) is_same_port alike ports apart number port at
    (both_true _ _ (name_same endpoint port.endpoint (sym is_endpoint)) (name_same message port.message (sym is_message)))
  where
    alike : (one other : Port) → is_port endpoint message one ≡ true → is_port endpoint message other ≡ true
        → is_same_port one other ≡ true
    alike one other is also =
        both_true _ _
        (name_same one.endpoint other.endpoint (sym (same_name endpoint one.endpoint (first_true _ _ is))
        ∙ same_name endpoint other.endpoint (first_true _ _ also)))
        (name_same one.message other.message
        (sym (same_name message one.message (second_true (bytes_eq endpoint one.endpoint) _ is))
        ∙ same_name message other.message (second_true (bytes_eq endpoint other.endpoint) _ also)))

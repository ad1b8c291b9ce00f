-- The sites of a number are exactly the places at which it stands: the sets of a register, and the acts on a port.
use Rattle.std.proofs.Common.{◌≡◌, ℕ, ◌+◌, ◌⊎◌, inl, inr, arith, refl, sym, ◌∙◌, ap, subst, List, [], ◌∷◌, map, zero, suc, Bool, true, false, if◌then◌else◌, Option, Some, None, slice_get}
use Rattle.std.proofs.lemmas.Bool.{eqb-true}
use Rattle.std.proofs.lemmas.Option.{slice_get-map}
use Rattle.std.specs.Option.{option_map}
use Rattle.core_term.specs.Lists.{Has}
use Rattle.act_deeds.specs.declared.deed.Deed.{Deed}
use Rattle.act_deeds.specs.declared.deed.Deed.TheVariants.{Sets, Sends, Receives, Decides, Other}
use Rattle.demand_checks.specs.Deeds.{deed_at, deed_or}
use Rattle.demand_checks.specs.Sites.{is_number, places_from, register_of, port_of, sites_setting, sites_on}

number_is : (number : ℕ) (one : Option ℕ) → is_number number one ≡ true → one ≡ Some number
number_is number None is = absurd cc
number_is number (Some other) is = ap Some (eqb-true other number is)

same_number : (number : ℕ) → is_number number (Some number) ≡ true
same_number number = grind arith

-- a place of the number
abbrev IsPlace : ℕ → ℕ → List (Option ℕ) → ℕ → Type 0
IsPlace number place numbers w = (k : ℕ) × (w ≡ place + k) × (slice_get numbers k ≡ Some (Some number))

place_of : (number place : ℕ) (numbers : List (Option ℕ)) (w : ℕ) → Has (places_from number place numbers) w → IsPlace number place numbers w
place_of number place [] w has = elim has [ ]
place_of number place (one ∷ rest) w has = go (is_number number one) refl (λ l. place_of number (suc place) rest w l) has
  where
    later : IsPlace number (suc place) rest w → IsPlace number place (one ∷ rest) w
    later (k, is, at) = (suc k, omega (arith, is), at)

    go : (b : Bool) → is_number number one ≡ b → (Has (places_from number (suc place) rest) w → IsPlace number (suc place) rest w)
        → Has (if b then place ∷ places_from number (suc place) rest else places_from number (suc place) rest) w → IsPlace number place (one ∷ rest) w
    go true same deeper (inl is) = (0, omega (arith, is), ap Some (number_is number one same))
    go true same deeper (inr l) = later (deeper l)
    go false same deeper l = later (deeper l)

has_place : (number place : ℕ) (numbers : List (Option ℕ)) (k : ℕ) → slice_get numbers k ≡ Some (Some number) → Has (places_from number place numbers) (place + k)
has_place number place [] k at = absurd cc
has_place number place (one ∷ rest) zero at =
    let same : one ≡ Some number = cc in
    let test : is_number number one ≡ true = ap (is_number number) same ∙ same_number number in
    subst (λ b. Has (if b then place ∷ places_from number (suc place) rest else places_from number (suc place) rest) (place + 0)) (sym test) (inl (omega arith))
has_place number place (one ∷ rest) (suc k) at =
    go (is_number number one) (subst (λ n. Has (places_from number (suc place) rest) n) (omega arith) (has_place number (suc place) rest k at))
  where
    go : (b : Bool) → Has (places_from number (suc place) rest) (place + suc k)
        → Has (if b then place ∷ places_from number (suc place) rest else places_from number (suc place) rest) (place + suc k)
    go true has = inr has
    go false has = has

register_deed : (r : ℕ) (one : Option Deed) → option_map register_of one ≡ Some (Some r) → deed_or one ≡ Sets r
register_deed r None is = absurd cc
register_deed r (Some (Sets q)) is = cc
register_deed r (Some (Sends m)) is = absurd cc
register_deed r (Some (Receives m)) is = absurd cc
register_deed r (Some Decides) is = absurd cc
register_deed r (Some Other) is = absurd cc

deed_register : (r : ℕ) (one : Option Deed) → deed_or one ≡ Sets r → option_map register_of one ≡ Some (Some r)
deed_register r None is = absurd cc
deed_register r (Some deed) is = ap (λ d. Some (register_of d)) is

pub has_setting : (deeds : List Deed) (r w : ℕ) → Has (sites_setting deeds r) w → deed_at deeds w ≡ Sets r
has_setting deeds r w has =
    let known = place_of r 0 (map register_of deeds) w has in
    let same : w ≡ known.0 = omega (arith, known.1) in
    subst (λ n. deed_at deeds n ≡ Sets r) (sym same) (register_deed r (slice_get deeds known.0) (sym (slice_get-map register_of deeds known.0) ∙ known.2))

pub setting_has : (deeds : List Deed) (r w : ℕ) → deed_at deeds w ≡ Sets r → Has (sites_setting deeds r) w
setting_has deeds r w is =
    subst (λ n. Has (sites_setting deeds r) n) (omega arith)
    (has_place r 0 (map register_of deeds) w (slice_get-map register_of deeds w ∙ deed_register r (slice_get deeds w) is))

-- on a port by a send or a receive
abbrev pub IsOn : Deed → ℕ → Type 0
IsOn deed m = (deed ≡ Sends m) ⊎ (deed ≡ Receives m)

port_deed : (m : ℕ) (one : Option Deed) → option_map port_of one ≡ Some (Some m) → IsOn (deed_or one) m
port_deed m None is = absurd cc
port_deed m (Some (Sends n)) is = inl cc
port_deed m (Some (Receives n)) is = inr cc
port_deed m (Some (Sets r)) is = absurd cc
port_deed m (Some Decides) is = absurd cc
port_deed m (Some Other) is = absurd cc

deed_port : (m : ℕ) (one : Option Deed) → IsOn (deed_or one) m → option_map port_of one ≡ Some (Some m)
deed_port m None (inl is) = absurd cc
deed_port m None (inr is) = absurd cc
deed_port m (Some deed) (inl is) = ap (λ d. Some (port_of d)) is
deed_port m (Some deed) (inr is) = ap (λ d. Some (port_of d)) is

pub has_on : (deeds : List Deed) (m w : ℕ) → Has (sites_on deeds m) w → IsOn (deed_at deeds w) m
has_on deeds m w has =
    let known = place_of m 0 (map port_of deeds) w has in
    let same : w ≡ known.0 = omega (arith, known.1) in
    subst (λ n. IsOn (deed_at deeds n) m) (sym same) (port_deed m (slice_get deeds known.0) (sym (slice_get-map port_of deeds known.0) ∙ known.2))

pub on_has : (deeds : List Deed) (m w : ℕ) → IsOn (deed_at deeds w) m → Has (sites_on deeds m) w
on_has deeds m w is =
    subst (λ n. Has (sites_on deeds m) n) (omega arith) (has_place m 0 (map port_of deeds) w (slice_get-map port_of deeds w ∙ deed_port m (slice_get deeds w) is))

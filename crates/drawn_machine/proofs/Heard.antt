-- What is read again rests on the words of the ports that the body receives alone.
use Rattle.std.proofs.Common.{◌≡◌, ℕ, Bool, true, false, List, [], ◌∷◌, refl}
use Rattle.std.specs.Prelude.{◌==◌, if◌then◌else◌}
use Rattle.core_term.specs.Again.{Sight, number, put, again, act_again, now_in}
use Rattle.core_term.specs.Term.{Expr, Lit, Var, Reg, Not, Bin, Slice, Choose, Term, One, Then, Both, Act, Cycle, Set, Send, Recv, If, When, Block, Wait, Pure, Nothing, site, head}
use Rattle.core_term.specs.Stands.{Stands, StandsIn, here, in_one, in_then, after_then, in_both, after_both, in_yes, in_no, in_when, in_block}
use Rattle.core_term.specs.Acts.{Receives}

-- the same registers and sides, and the same words of the ports that are heard
pub record SameSight (Heard : ℕ → Type 0) (one other : Sight) : Type 0 where
  pub wire : (port : ℕ) → Heard port → one.wire port ≡ other.wire port
  pub register : (register : ℕ) → one.register register ≡ other.register register
  pub side : (place : ℕ) → one.side place ≡ other.side place

abbrev pub SameNow : (ℕ → ℕ) → (ℕ → ℕ) → Type 0
SameNow now seen = (variable : ℕ) → now variable ≡ seen variable

module _ (Heard : ℕ → Type 0) (one other : Sight) (same : SameSight Heard one other) where
  pub number_same : (now seen : ℕ → ℕ) → SameNow now seen → (e : Expr) → number one now e ≡ number other seen e
  number_same now seen alike (Lit w n) = refl
  number_same now seen alike (Var y) = alike y
  number_same now seen alike (Reg r) = same.register r
  number_same now seen alike (Not w e) = rw (number_same now seen alike e) refl
  number_same now seen alike (Bin o w v a b) = rw (number_same now seen alike a, number_same now seen alike b) refl
  number_same now seen alike (Slice y high low) = rw (alike y) refl
  number_same now seen alike (Choose c a b) = rw (number_same now seen alike c, number_same now seen alike a, number_same now seen alike b) refl

  put_same : (now seen : ℕ → ℕ) → SameNow now seen → (place : ℕ) (value also : ℕ) → value ≡ also → SameNow (put now place value) (put seen place also)
  put_same now seen alike place value also is y = at (y == place)
    where
      at : (here : Bool) → (if here then value else now y) ≡ (if here then also else seen y)
      at true = is
      at false = alike y

  -- what stands in a term, or in an act, is heard
  abbrev pub Hears : List Act → Term → Type 0
  Hears scope whole = (inner : List Act) (term : Term) (port : ℕ) → Stands scope whole inner term → Receives (head term) port → Heard port

  abbrev pub HearsAct : List Act → Act → Type 0
  HearsAct scope act = ((port : ℕ) → Receives act port → Heard port)
      × ((inner : List Act) (term : Term) (port : ℕ) → StandsIn scope act inner term → Receives (head term) port → Heard port)

  of_one : (scope : List Act) (a : Act) → Hears scope (One a) → HearsAct scope a
  of_one scope a hears = (λ port receives. hears scope (One a) port here receives, λ inner term port stands receives. hears inner term port (in_one stands) receives)

  of_then : (scope : List Act) (a : Act) (t : Term) → Hears scope (Then a t) → HearsAct scope a × Hears (a ∷ scope) t
  of_then scope a t hears = (
    (λ port receives. hears scope (Then a t) port here receives, λ inner term port stands receives. hears inner term port (in_then stands) receives),
    λ inner term port stands receives. hears inner term port (after_then stands) receives,
  )

  of_both : (scope : List Act) (a : Act) (t : Term) → Hears scope (Both a t) → HearsAct scope a × Hears (a ∷ scope) t
  of_both scope a t hears = (
    (λ port receives. hears scope (Both a t) port here receives, λ inner term port stands receives. hears inner term port (in_both stands) receives),
    λ inner term port stands receives. hears inner term port (after_both stands) receives,
  )

  chosen_same : (side also : Bool) (a b c d : ℕ) → side ≡ also → a ≡ c → b ≡ d → (if side then a else b) ≡ (if also then c else d)
  chosen_same side also a b c d is first second = rw (is, first, second) refl

  mutual
    pub again_same : (scope : List Act) (t : Term) → Hears scope t → (now seen : ℕ → ℕ) → SameNow now seen → again one now t ≡ again other seen t
    again_same scope (One a) hears now seen alike = act_same scope a (of_one scope a hears) now seen alike
    again_same scope (Then a t) hears now seen alike =
        let parts = of_then scope a t hears in
        again_same (a ∷ scope) t parts.1 _ _ (put_same now seen alike (site a) _ _ (act_same scope a parts.0 now seen alike))
    again_same scope (Both a t) hears now seen alike =
        let parts = of_both scope a t hears in
        again_same (a ∷ scope) t parts.1 _ _ (put_same now seen alike (site a) _ _ (act_same scope a parts.0 now seen alike))

    act_same : (scope : List Act) (a : Act) → HearsAct scope a → (now seen : ℕ → ℕ) → SameNow now seen → act_again one now a ≡ act_again other seen a
    act_same scope (Recv p m) hears now seen alike = same.wire m (hears.0 m refl)
    act_same scope (If p e t u true) hears now seen alike =
        chosen_same _ _ _ _ _ _ (same.side p)
        (again_same scope t (λ inner term port stands receives. hears.1 inner term port (in_yes stands) receives) now seen alike)
        (again_same scope u (λ inner term port stands receives. hears.1 inner term port (in_no stands) receives) now seen alike)
    act_same scope (If p e t u false) hears now seen alike = refl
    act_same scope (Block p t) hears now seen alike = again_same scope t (λ inner term port stands receives. hears.1 inner term port (in_block stands) receives) now seen alike
    act_same scope (Wait p y) hears now seen alike = alike y
    act_same scope (Pure p e) hears now seen alike = number_same now seen alike e
    act_same scope (Cycle p n) hears now seen alike = refl
    act_same scope (Set p r e) hears now seen alike = refl
    act_same scope (Send p m e) hears now seen alike = refl
    act_same scope (When p e t) hears now seen alike = refl
    act_same scope (Nothing p) hears now seen alike = refl

  -- the acts of a scope are heard
  abbrev pub ScopeHears : List Act → Type 0
  ScopeHears [] = Unit {0}
  ScopeHears (a ∷ scope) = HearsAct scope a × ScopeHears scope

  mutual
    pub scope_hears : {vs ws : List Act} {t u : Term} → Stands vs t ws u → Hears vs t → ScopeHears vs → ScopeHears ws
    scope_hears here hears scope = scope
    scope_hears {vs = vs} (in_one {a = a} stands) hears scope = scope_inside stands (of_one vs a hears) scope
    scope_hears {vs = vs} (in_then {a = a} {t = t} stands) hears scope = scope_inside stands (of_then vs a t hears).0 scope
    scope_hears {vs = vs} (after_then {a = a} {t = t} stands) hears scope = let parts = of_then vs a t hears in scope_hears stands parts.1 (parts.0, scope)
    scope_hears {vs = vs} (in_both {a = a} {t = t} stands) hears scope = scope_inside stands (of_both vs a t hears).0 scope
    scope_hears {vs = vs} (after_both {a = a} {t = t} stands) hears scope = let parts = of_both vs a t hears in scope_hears stands parts.1 (parts.0, scope)

    scope_inside : {vs ws : List Act} {a : Act} {u : Term} → StandsIn vs a ws u → HearsAct vs a → ScopeHears vs → ScopeHears ws
    scope_inside (in_yes stands) hears scope = scope_hears stands (λ inner term port within receives. hears.1 inner term port (in_yes within) receives) scope
    scope_inside (in_no stands) hears scope = scope_hears stands (λ inner term port within receives. hears.1 inner term port (in_no within) receives) scope
    scope_inside (in_when stands) hears scope = scope_hears stands (λ inner term port within receives. hears.1 inner term port (in_when within) receives) scope
    scope_inside (in_block stands) hears scope = scope_hears stands (λ inner term port within receives. hears.1 inner term port (in_block within) receives) scope

  pub now_same : (scope : List Act) → ScopeHears scope → SameNow (now_in one scope) (now_in other scope)
  now_same [] hears y = refl
  now_same (a ∷ scope) hears y =
      put_same (now_in one scope) (now_in other scope) (now_same scope hears.1) (site a) _ _ (act_same scope a hears.0 _ _ (now_same scope hears.1)) y

  -- an expression of an act that stands in a body
  pub read_same : (body : Term) → Hears [] body → (scope : List Act) (term : Term) → Stands [] body scope term → (e : Expr)
      → number one (now_in one scope) e ≡ number other (now_in other scope) e
  read_same body hears scope term stands e = number_same _ _ (now_same scope (scope_hears stands hears tt)) e

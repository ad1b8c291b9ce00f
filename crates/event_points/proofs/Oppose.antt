-- Whether some arm of a list opposes one of another: the test tells exactly that, with the two arms.
use Rattle.std.proofs.Common.{◌≡◌, ℕ, ◌⊎◌, inl, inr, arith, refl, Bool, true, false, ◌&&◌, ◌||◌, ◌==◌, List, [], ◌∷◌}
use Rattle.std.proofs.lemmas.Bool.Decides.{nat_tests}
use Rattle.core_term.specs.Lists.{Has}
use Rattle.event_graph.specs.declared.node.Arm.{Arm}
use Rattle.event_graph.specs.Forms.{differ, oppose, one_opposes, some_oppose}
use Rattle.event_points.proofs.Sides.{Opposed}

and_true : (a b : Bool) → (a && b) ≡ true → (a ≡ true) × (b ≡ true)
and_true true true e = (refl, refl)
and_true true false e = absurd cc
and_true false true e = absurd cc
and_true false false e = absurd cc

or_true : (a b : Bool) → (a || b) ≡ true → (a ≡ true) ⊎ (b ≡ true)
or_true true b e = inl refl
or_true false b e = inr e

or_left : (a b : Bool) → a ≡ true → (a || b) ≡ true
or_left a b e = rw e refl

or_right : (a b : Bool) → b ≡ true → (a || b) ≡ true
or_right true b e = refl
or_right false b e = e

differ_true : (a b : Bool) → differ a b ≡ true → a ≡ b → ⊥
differ_true true true e f = cc
differ_true true false e f = cc
differ_true false true e f = cc
differ_true false false e f = cc

true_differ : (a b : Bool) → (a ≡ b → ⊥) → differ a b ≡ true
true_differ true true f = absurd (f refl)
true_differ true false f = refl
true_differ false true f = refl
true_differ false false f = absurd (f refl)

same_number : (a b : ℕ) → (a == b) ≡ true → a ≡ b
same_number a b e = grind (arith, nat_tests)

number_same : (a b : ℕ) → a ≡ b → (a == b) ≡ true
number_same a b e = grind (arith, nat_tests)

-- a and b oppose each other
record Oppose (a b : Arm) : Type 0 where
  turn_is : a.turn ≡ b.turn
  site_is : a.site ≡ b.site
  differs : a.yes ≡ b.yes → ⊥

to_oppose : (a b : Arm) → oppose a b ≡ true → Oppose a b
to_oppose a b e =
    let x = and_true (a.turn == b.turn) _ e in
    let y = and_true (a.site == b.site) _ x.1 in
    record { turn_is = same_number a.turn b.turn x.0; site_is = same_number a.site b.site y.0; differs = differ_true a.yes b.yes y.1 }

of_oppose : (a b : Arm) → Oppose a b → oppose a b ≡ true
of_oppose a b o = rw (number_same a.turn b.turn o.turn_is, number_same a.site b.site o.site_is, true_differ a.yes b.yes o.differs) refl

to_one : (a : Arm) (ys : List Arm) → one_opposes a ys ≡ true → (b : Arm) × Has ys b × Oppose a b
to_one a [] e = absurd cc
to_one a (b ∷ ys) e = elim (or_true (oppose a b) (one_opposes a ys) e) [ inl h ↦ (b, inl refl, to_oppose a b h) | inr h ↦ let z = to_one a ys h in (z.0, inr z.1, z.2) ]

of_one : (a b : Arm) (ys : List Arm) → Has ys b → Oppose a b → one_opposes a ys ≡ true
of_one a b [] h o = elim h [ ]
of_one a b (c ∷ ys) (inl e) o = or_left _ _ (of_oppose a c (rw (← e) o))
of_one a b (c ∷ ys) (inr h) o = or_right (oppose a c) _ (of_one a b ys h o)

pub to_opposed : (xs ys : List Arm) → some_oppose xs ys ≡ true → Opposed xs ys
to_opposed [] ys e = absurd cc
to_opposed (a ∷ xs) ys e =
    elim (or_true (one_opposes a ys) (some_oppose xs ys) e) [
      | inl h ↦ let z = to_one a ys h in record { one = a; other = z.0; has_one = inl refl; has_other = z.1; turn_is = z.2.turn_is; site_is = z.2.site_is; differs = z.2.differs }
      | inr h ↦ let z = to_opposed xs ys h in record { one = z.one; other = z.other; has_one = inr z.has_one; has_other = z.has_other; turn_is = z.turn_is; site_is = z.site_is; differs = z.differs }
    ]

of_some : (a b : Arm) (xs ys : List Arm) → Has xs a → Has ys b → Oppose a b → some_oppose xs ys ≡ true
of_some a b [] ys h k o = elim h [ ]
of_some a b (c ∷ xs) ys (inl e) k o = or_left _ _ (of_one c b ys k (rw (← e) o))
of_some a b (c ∷ xs) ys (inr h) k o = or_right (one_opposes c ys) _ (of_some a b xs ys h k o)

pub of_opposed : (xs ys : List Arm) → Opposed xs ys → some_oppose xs ys ≡ true
of_opposed xs ys o = of_some o.one o.other xs ys o.has_one o.has_other (record { turn_is = o.turn_is; site_is = o.site_is; differs = o.differs })

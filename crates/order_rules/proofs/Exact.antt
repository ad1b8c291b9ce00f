-- A table of the order that is closed under the equations of its entries is exact: it tells each judgement.
--
-- That it has each judgement is an induction over derivations: each rule is a part of an entry. That it has nothing else is an
-- induction over the sum of the two nodes: each part of an entry comes from earlier nodes and is a rule.
use Rattle.std.proofs.Common.{◌≡◌, ℕ, ◌+◌, ◌<◌, ◌⊎◌, inl, inr, arith, refl, ◌∙◌, subst, Bool, true, false, if◌then◌else◌, ◌==◌, zero, suc}
use Rattle.std.proofs.lemmas.Bool.Decides.{nat_tests}
use Rattle.std.specs.Prelude.{ℤ, pos, ◌+ℤ◌, ◌-ℤ◌, ◌≤ℤ◌}
use Rattle.std.proofs.lemmas.Int.{ints, int_max_is, int_min_is}
use Rattle.order_rules.specs.Form.{Form, Start, Same, After, Sync, Join, Side, Merge}
use Rattle.order_rules.specs.Before.{by_same, by_side, by_sync, by_first, by_second, Before, here, weaker, later, after, merged, from_same, from_after, from_join, from_merge, exclusive}
use Rattle.order_rules.specs.Lag.{Lag, Never, AtLeast, Vacuous, Admits}
use Rattle.order_rules.specs.Entry.{most, least, more, fewer, right, left, entry, IsEarlier}

pub admits_less : (l : Lag) (d e : ℤ) → e ≤ℤ d → Admits l d → Admits l e
admits_less Never d e k m = m
admits_less (AtLeast f) d e k m = omega (arith, ints)
admits_less Vacuous d e k m = tt

pub most_first : (l m : Lag) (d : ℤ) → Admits l d → Admits (most l m) d
most_first Never m d k = elim k [ ]
most_first Vacuous m d k = tt
most_first (AtLeast e) Never d k = k
most_first (AtLeast e) (AtLeast f) d k = omega (arith, ints, int_max_is e f)
most_first (AtLeast e) Vacuous d k = tt

pub most_second : (l m : Lag) (d : ℤ) → Admits m d → Admits (most l m) d
most_second Never m d k = k
most_second Vacuous m d k = tt
most_second (AtLeast e) Never d k = elim k [ ]
most_second (AtLeast e) (AtLeast f) d k = omega (arith, ints, int_max_is e f)
most_second (AtLeast e) Vacuous d k = tt

pub most_either : (l m : Lag) (d : ℤ) → Admits (most l m) d → Admits l d ⊎ Admits m d
most_either Never m d k = inr k
most_either Vacuous m d k = inl tt
most_either (AtLeast e) Never d k = inl k
most_either (AtLeast e) (AtLeast f) d k = grind (arith, ints, int_max_is e f)
most_either (AtLeast e) Vacuous d k = inr tt

pub least_both : (l m : Lag) (d : ℤ) → Admits l d → Admits m d → Admits (least l m) d
least_both Never m d k n = k
least_both Vacuous m d k n = n
least_both (AtLeast e) Never d k n = n
least_both (AtLeast e) (AtLeast f) d k n = omega (arith, ints, int_min_is e f)
least_both (AtLeast e) Vacuous d k n = k

pub least_parts : (l m : Lag) (d : ℤ) → Admits (least l m) d → Admits l d × Admits m d
least_parts Never m d k = elim k [ ]
least_parts Vacuous m d k = (tt, k)
least_parts (AtLeast e) Never d k = elim k [ ]
least_parts (AtLeast e) (AtLeast f) d k = (omega (arith, ints, int_min_is e f), omega (arith, ints, int_min_is e f))
least_parts (AtLeast e) Vacuous d k = (k, tt)

pub more_to : (n : ℕ) (l : Lag) (d : ℤ) → Admits l (d -ℤ pos n) → Admits (more n l) d
more_to n Never d k = k
more_to n (AtLeast e) d k = omega (arith, ints)
more_to n Vacuous d k = tt

pub more_of : (n : ℕ) (l : Lag) (d : ℤ) → Admits (more n l) d → Admits l (d -ℤ pos n)
more_of n Never d k = k
more_of n (AtLeast e) d k = omega (arith, ints)
more_of n Vacuous d k = tt

pub fewer_to : (n : ℕ) (l : Lag) (d : ℤ) → Admits l (d +ℤ pos n) → Admits (fewer n l) d
fewer_to n Never d k = k
fewer_to n (AtLeast e) d k = omega (arith, ints)
fewer_to n Vacuous d k = tt

pub fewer_of : (n : ℕ) (l : Lag) (d : ℤ) → Admits (fewer n l) d → Admits l (d +ℤ pos n)
fewer_of n Never d k = k
fewer_of n (AtLeast e) d k = omega (arith, ints)
fewer_of n Vacuous d k = tt

module _ (form : ℕ → Form ℕ) (apart : ℕ → ℕ → Bool) (table : ℕ → ℕ → Lag) (closed : (a b : ℕ) → table a b ≡ entry form apart table a b) (earlier : (b : ℕ) → IsEarlier b (form b)) where
  abbrev HasForm : ℕ → Form ℕ → Type 0
  HasForm b f = form b ≡ f

  abbrev Apart : ℕ → ℕ → Type 0
  Apart a b = apart a b ≡ true

  abbrev Precedes : ℕ → ℤ → ℕ → Type 0
  Precedes = Before ℕ HasForm Apart

  into : (a b : ℕ) (d : ℤ) → Admits (most (if a == b then AtLeast (pos 0) else Never) (most (right table a (form b)) (left table b (form a)))) d → Admits (table a b) d
  into a b d k = rw closed (go (apart a b))
    where
      go : (c : Bool) → Admits (if c then Vacuous else most (if a == b then AtLeast (pos 0) else Never) (most (right table a (form b)) (left table b (form a)))) d
      go true = tt
      go false = k

  by_right : (a b : ℕ) (d : ℤ) → Admits (right table a (form b)) d → Admits (table a b) d
  by_right a b d k = into a b d (most_second _ _ d (most_first _ _ d k))

  by_left : (a b : ℕ) (d : ℤ) → Admits (left table b (form a)) d → Admits (table a b) d
  by_left a b d k = into a b d (most_second _ _ d (most_second (right table a (form b)) _ d k))

  -- the table has each judgement
  pub complete : {a b : ℕ} {d : ℤ} → Precedes a d b → Admits (table a b) d
  complete (here {a = a} {d = d} k) =
      let e : (a == a) ≡ true = grind (arith, nat_tests) in
      let k' : Admits (if a == a then AtLeast (pos 0) else Never) d = rw e k in
      into a a d (most_first _ _ d k')
  complete (weaker {a = a} {b = b} {d = d} {e = e} k r) = admits_less (table a b) d e k (complete r)
  complete (later {a = a} {b = b} {c = c} {d = d} f by_same r) = by_right a b d (rw f (complete r))
  complete (later {a = a} {b = b} {c = c} {d = d} f by_side r) = by_right a b d (rw f (complete r))
  complete (later {a = a} {b = b} {c = c} {d = d} f by_sync r) = by_right a b d (rw f (complete r))
  complete (later {a = a} {b = b} {c = c} {d = d} f by_first r) = by_right a b d (rw f (most_first _ _ d (complete r)))
  complete (later {a = a} {b = b} {c = c} {d = d} f by_second r) = by_right a b d (rw f (most_second _ _ d (complete r)))
  complete (after {a = a} {b = b} {d = d} {n = n} f r) = by_right a b d (rw f (more_to n _ d (complete r)))
  complete (merged {a = a} {b = b} {d = d} f r q) = by_right a b d (rw f (least_both _ _ d (complete r) (complete q)))
  complete (from_same {a = a} {b = b} {d = d} f by_same r) = by_left a b d (rw f (complete r))
  complete (from_same {a = a} {b = b} {d = d} f by_side r) = by_left a b d (rw f (complete r))
  complete (from_after {a = a} {b = b} {d = d} {n = n} f r) = by_left a b d (rw f (fewer_to n _ d (complete r)))
  complete (from_join {a = a} {b = b} {d = d} f r q) = by_left a b d (rw f (least_both _ _ d (complete r) (complete q)))
  complete (from_merge {a = a} {b = b} {d = d} f r q) = by_left a b d (rw f (least_both _ _ d (complete r) (complete q)))
  complete (exclusive {a = a} {b = b} {d = d} e) = let q : entry form apart table a b ≡ Vacuous = rw e refl in let k : table a b ≡ Vacuous = closed a b ∙ q in rw k tt

  sound_right : (a b : ℕ) (d : ℤ) (f : Form ℕ) → form b ≡ f → IsEarlier b f → ((c : ℕ) (e : ℤ) → c < b → Admits (table a c) e → Precedes a e c) → Admits (right table a f) d → Precedes a d b
  sound_right a b d Start e k g m = elim m [ ]
  sound_right a b d (Same c) e k g m = later e by_same (g c d k m)
  sound_right a b d (Side c) e k g m = later e by_side (g c d k m)
  sound_right a b d (Sync c) e k g m = later e by_sync (g c d k m)
  sound_right a b d (After n c) e k g m = after e (g c _ k (more_of n (table a c) d m))
  sound_right a b d (Join c c') e k g m = elim (most_either (table a c) (table a c') d m) [ inl p ↦ later e by_first (g c d k.0 p) | inr p ↦ later e by_second (g c' d k.1 p) ]
  sound_right a b d (Merge c c') e k g m = let p = least_parts (table a c) (table a c') d m in merged e (g c d k.0 p.0) (g c' d k.1 p.1)

  sound_left : (a b : ℕ) (d : ℤ) (f : Form ℕ) → form a ≡ f → IsEarlier a f → ((c : ℕ) (e : ℤ) → c < a → Admits (table c b) e → Precedes c e b) → Admits (left table b f) d → Precedes a d b
  sound_left a b d Start e k g m = elim m [ ]
  sound_left a b d (Same c) e k g m = from_same e by_same (g c d k m)
  sound_left a b d (Side c) e k g m = from_same e by_side (g c d k m)
  sound_left a b d (Sync c) e k g m = elim m [ ]
  sound_left a b d (After n c) e k g m = from_after e (g c _ k (fewer_of n (table c b) d m))
  sound_left a b d (Join c c') e k g m = let p = least_parts (table c b) (table c' b) d m in from_join e (g c d k.0 p.0) (g c' d k.1 p.1)
  sound_left a b d (Merge c c') e k g m = let p = least_parts (table c b) (table c' b) d m in from_merge e (g c d k.0 p.0) (g c' d k.1 p.1)

  -- and has nothing else
  sound_to : (n a b : ℕ) (d : ℤ) → a + b < n → Admits (table a b) d → Precedes a d b
  sound_to zero a b d k m = absurd (omega arith)
  sound_to (suc n) a b d k m = go (apart a b) refl (rw closed at m) (sound_to n)
    where
      self : (c : Bool) → (a == b) ≡ c → Admits (if c then AtLeast (pos 0) else Never) d → Precedes a d b
      self true e p = let q : a ≡ b = grind (arith, nat_tests) in let P : ℕ → Type 0 = λ z. Precedes a d z in subst P q (here p)
      self false e p = elim p [ ]

      go : (c : Bool) → apart a b ≡ c → Admits (if c then Vacuous else most (if a == b then AtLeast (pos 0) else Never) (most (right table a (form b)) (left table b (form a)))) d
          → ((a b : ℕ) (d : ℤ) → a + b < n → Admits (table a b) d → Precedes a d b) → Precedes a d b
      go true e p ih = exclusive e
      go false e p ih =
          elim (most_either _ _ d p) [
            | inl q ↦ self (a == b) refl q
            | inr q ↦ elim (most_either (right table a (form b)) _ d q) [
              | inl r ↦ sound_right a b d (form b) refl (earlier b) (λ c e z y. ih a c e (omega arith) y) r
              | inr r ↦ sound_left a b d (form a) refl (earlier a) (λ c e z y. ih c b e (omega arith) y) r
            ]
          ]

  pub sound : (a b : ℕ) (d : ℤ) → Admits (table a b) d → Precedes a d b
  sound a b d m = sound_to (a + b + 1) a b d (omega arith) m

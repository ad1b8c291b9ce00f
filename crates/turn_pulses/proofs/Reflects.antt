-- A bit reflects a fact: it is 1 exactly where the fact holds.
--
-- With this in the place of Boolean algebra, the equation of a net is read off its parts: the bit of a disjunction reflects the
-- one fact or the other, that of a conjunction both.
use Rattle.std.proofs.Common.{◌≡◌, ◌⊎◌, inl, inr, ◌↔◌, Bool, true, false, not, ◌&&◌, ◌||◌, refl, sym, ◌∙◌}

pub data Reflects (Fact : Type 0) (bit : Bool) : Type 0 where
  holds : Fact → bit ≡ true → Reflects Fact bit
  fails : (Fact → ⊥) → bit ≡ false → Reflects Fact bit

pub same_bit : {Fact : Type 0} {bit other : Bool} → other ≡ bit → Reflects Fact bit → Reflects Fact other
same_bit same (holds fact is_one) = holds fact (same ∙ is_one)
same_bit same (fails none is_zero) = fails none (same ∙ is_zero)

pub same_fact : {Fact Other : Type 0} {bit : Bool} → (Fact → Other) → (Other → Fact) → Reflects Fact bit → Reflects Other bit
same_fact there back (holds fact is_one) = holds (there fact) is_one
same_fact there back (fails none is_zero) = fails (λ other. none (back other)) is_zero

pub reflects_or : {Fact Other : Type 0} {bit second : Bool} → Reflects Fact bit → Reflects Other second → Reflects (Fact ⊎ Other) (bit || second)
reflects_or (holds fact is_one) other = holds (inl fact) (rw is_one refl)
reflects_or (fails none is_zero) (holds other is_one) = holds (inr other) (rw (is_zero, is_one) refl)
reflects_or (fails none is_zero) (fails none_either also_zero) =
    fails (elim [ inl fact ↦ none fact | inr other ↦ none_either other ]) (rw (is_zero, also_zero) refl)

pub reflects_and : {Fact Other : Type 0} {bit second : Bool} → Reflects Fact bit → Reflects Other second → Reflects (Fact × Other) (bit && second)
reflects_and (holds fact is_one) (holds other also_one) = holds (fact, other) (rw (is_one, also_one) refl)
reflects_and (holds fact is_one) (fails none is_zero) = fails (λ both. none both.1) (rw (is_one, is_zero) refl)
reflects_and (fails none is_zero) other = fails (λ both. none both.0) (rw is_zero refl)

pub reflects_not : {Fact : Type 0} {bit : Bool} → Reflects Fact bit → Reflects (Fact → ⊥) (not bit)
reflects_not (holds fact is_one) = fails (λ none. none fact) (rw is_one refl)
reflects_not (fails none is_zero) = holds none (rw is_zero refl)

pub reflects_itself : (bit : Bool) → Reflects (bit ≡ true) bit
reflects_itself true = holds refl refl
reflects_itself false = fails (λ is_one. cc) refl

pub is_true : {Fact : Type 0} {bit : Bool} → Reflects Fact bit → Fact → bit ≡ true
is_true (holds fact is_one) again = is_one
is_true (fails none is_zero) fact = absurd (none fact)

pub is_false : {Fact : Type 0} {bit : Bool} → Reflects Fact bit → (Fact → ⊥) → bit ≡ false
is_false (holds fact is_one) none = absurd (none fact)
is_false (fails none is_zero) again = is_zero

pub fact_of : {Fact : Type 0} {bit : Bool} → Reflects Fact bit → bit ≡ true → Fact
fact_of (holds fact is_one) again = fact
fact_of (fails none is_zero) is_one = absurd (let impossible : false ≡ true = sym is_zero ∙ is_one in cc)

pub no_fact : {Fact : Type 0} {bit : Bool} → Reflects Fact bit → bit ≡ false → Fact → ⊥
no_fact (holds fact is_one) is_zero again = let impossible : false ≡ true = sym is_zero ∙ is_one in cc
no_fact (fails none is_zero) again fact = none fact

pub reflects_iff : {Fact : Type 0} {bit : Bool} → Reflects Fact bit → (bit ≡ true) ↔ Fact
reflects_iff reflects = (fact_of reflects, is_true reflects)

-- a bit that is not 1 is 0
pub off : {bit : Bool} → (bit ≡ true → ⊥) → bit ≡ false
off {bit = true} none = absurd (none refl)
off {bit = false} none = refl

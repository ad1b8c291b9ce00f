-- The ends of a life, taken one by one, as the code walks over them.
use Rattle.std.proofs.Common.{◌≡◌, ℕ, ◌+◌, ◌<◌, ◌≤◌, ◌^◌, inl, inr, ◌⊎◌, refl, sym, ◌∙◌, ap, subst, List, [], ◌∷◌, length, map, take, Bool, true, false, ◌&&◌, zero, suc, get_or, arith}
use Rattle.std.proofs.lemmas.List.{take_all}
use Rattle.core_term.specs.declared.process.CoreLife.{CoreLife}
use Rattle.core_term.specs.Lists.{Has}
use Rattle.core_term.specs.Process.{LifeEnd, Cycles}
use Rattle.core_term.specs.ProcessView.{end_of_life}
use Rattle.exchanges.specs.Next.{Bounded, end_holds, ends_hold}
use Rattle.exchanges.proofs.GoesOn.{and_true, and_assoc}

-- the first ends with one more
ends_hold-suc : (exchanged : List Bool) (age : ℕ) (ends : List CoreLife) (index : ℕ) (default : CoreLife) → index < length ends
    → ends_hold exchanged age (map end_of_life (take (suc index) ends)) ≡ (ends_hold exchanged age (map end_of_life (take index ends)) && end_holds exchanged age (end_of_life (get_or ends index default)))
ends_hold-suc exchanged age [] index default within = absurd (omega arith)
ends_hold-suc exchanged age (end ∷ ends) zero default within = and_true (end_holds exchanged age (end_of_life end))
ends_hold-suc exchanged age (end ∷ ends) (suc index) default within =
    ap (λ b. end_holds exchanged age (end_of_life end) && b) (ends_hold-suc exchanged age ends index default (omega arith)) ∙ and_assoc (end_holds exchanged age (end_of_life end)) _ _

pub hold_more : (exchanged : List Bool) (age : ℕ) (ends : List CoreLife) (index later : ℕ) (default : CoreLife) (holds : Bool) → later ≡ suc index → index < length ends
    → holds ≡ ends_hold exchanged age (map end_of_life (take index ends)) → (holds && end_holds exchanged age (end_of_life (get_or ends index default))) ≡ ends_hold exchanged age (map end_of_life (take later ends))
hold_more exchanged age ends index later default holds next within before = rw (next, before) (sym (ends_hold-suc exchanged age ends index default within))

has-suc : (ends : List CoreLife) (index : ℕ) (default : CoreLife) (end : LifeEnd) → index < length ends → Has (map end_of_life (take (suc index) ends)) end
    → Has (map end_of_life (take index ends)) end ⊎ (end ≡ end_of_life (get_or ends index default))
has-suc [] index default end within has = absurd (omega arith)
has-suc (first ∷ ends) zero default end within (inl has) = inr has
has-suc (first ∷ ends) zero default end within (inr has) = absurd has
has-suc (first ∷ ends) (suc index) default end within (inl has) = inl (inl has)
has-suc (first ∷ ends) (suc index) default end within (inr has) = elim (has-suc ends index default end (omega arith) has) [ inl before ↦ inl (inr before) | inr here ↦ inr here ]

pub bounded_more : (ends : List CoreLife) (index later : ℕ) (default : CoreLife) → later ≡ suc index → index < length ends → ((count : ℕ) → end_of_life (get_or ends index default) ≡ Cycles count → count < 2 ^ 16)
    → Bounded (map end_of_life (take index ends)) → Bounded (map end_of_life (take later ends))
bounded_more ends index later default next within bounded before count has =
    elim (has-suc ends index default (Cycles count) within (subst (λ n. Has (map end_of_life (take n ends)) (Cycles count)) next has))
    [ inl there ↦ before count there | inr here ↦ bounded count (sym here) ]

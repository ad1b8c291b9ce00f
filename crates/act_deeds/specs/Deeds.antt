-- What each act of a body does, by its site: to a register, to a port, or that it decides.
use Rattle.std.specs.Prelude.{ℕ, ◌≡◌, List, [], ◌∷◌, ◌++◌, length, slice_get, Option, Some, None}
use Rattle.core_term.specs.declared.term.CoreTerm.{CoreTerm, One', Then', Both'}
use Rattle.core_term.specs.declared.term.CoreKind.{CoreKind, Set, Send, Recv, If', Block', Held-CoreKind-If-2, None', Some'}
use Rattle.core_term.specs.Term as term
use Rattle.core_term.specs.Term.{Term, Act, site, head}
use Rattle.core_term.specs.Numbering.{size}
use Rattle.core_term.specs.Stands.{Stands}
use Rattle.act_deeds.specs.declared.deed.Deed.{Deed}
use Rattle.act_deeds.specs.declared.deed.Deed.TheVariants.{Sets, Sends, Receives, Decides, Other}

abbrev pub deed_in : Act → Deed
deed_in (term.Set p r e) = Sets r
deed_in (term.Send p m e) = Sends m
deed_in (term.Recv p m) = Receives m
deed_in (term.If p e t u w) = Decides
deed_in (term.When p e t) = Decides
deed_in a = Other

-- of each act of a body, at its site
pub record AreDeeds (body : Term) (deeds : List Deed) : Type 0 where
  pub count : length deeds ≡ size body
  pub at : (scope : List Act) (u : Term) → Stands [] body scope u
      → slice_get deeds (site (head u)) ≡ Some (deed_in (head u))

abbrev pub deed_or : Option Deed → Deed
deed_or None = Other
deed_or (Some deed) = deed

-- of the act of a site, and of a number that is no site
abbrev pub deed_at : List Deed → ℕ → Deed
deed_at deeds site = deed_or (slice_get deeds site)

-- As the code reads them off a body, each act before the acts inside it.

abbrev pub deed_of : CoreKind → Deed
deed_of (Set r e) = Sets r
deed_of (Send m e) = Sends m
deed_of (Recv m) = Receives m
deed_of (If' e p t u w) = Decides
deed_of k = Other

abbrev mutual
  pub deeds_of : CoreTerm → List Deed
  deeds_of (One' s p k) = deed_of k ∷ deeds_in k
  deeds_of (Then' s p k q t) = (deed_of k ∷ deeds_in k) ++ deeds_of t
  deeds_of (Both' s p k q t) = (deed_of k ∷ deeds_in k) ++ deeds_of t

  pub deeds_in : CoreKind → List Deed
  deeds_in (If' e p t u w) = deeds_of t ++ deeds_of_else u
  deeds_in (Block' p t) = deeds_of t
  deeds_in k = []

  pub deeds_of_else : Held-CoreKind-If-2 → List Deed
  deeds_of_else None' = []
  deeds_of_else (Some' p t) = deeds_of t

-- What the code reads off a body are the sites on the port, in text order. Each is the site of an act of a numbered body.
use Rattle.std.proofs.Common.{◌≡◌, ℕ, ◌+◌, ◌<◌, arith, ◌==◌, if◌then◌else◌, Bool, true, false, inl, inr, zero, suc, length, get_or, refl, ◌∙◌, List, [], ◌∷◌, ◌++◌, append-nil, Some, None}
use Rattle.core_term.specs.declared.term.CoreTerm.{CoreTerm, One', Then', Both'}
use Rattle.core_term.specs.declared.term.CoreKind as kind
use Rattle.core_term.specs.declared.term.CoreKind.{CoreKind, None', Some'}
use Rattle.core_term.specs.Lists.{Has}
use Rattle.core_term.specs.Term.{Term, One, Then, Both, Act, Cycle, Set, Send, Recv, If, When, Block, Wait, Pure, Nothing}
use Rattle.core_term.specs.Numbering.{size, act_size, Numbered, NumberedAct}
use Rattle.core_term.specs.Widths.{Widths}
use Rattle.core_term.specs.View.{term_of, act_of, after_act}
use Rattle.core_term.proofs.code_tables.Fits.{has_either}
use Rattle.event_points.specs.Endings.{sites_on, act_sites_on}
use Rattle.life_tables.specs.Sites.{port_sites, kind_sites}

both : {A : Type 0} {these those others more : List A} → these ≡ others → those ≡ more → these ++ those ≡ others ++ more
both is are = rw (is, are) refl

mutual
  pub sites_read : (port : ℕ) (widths : Widths) (t : CoreTerm) → port_sites port t ≡ sites_on port (term_of widths t)
  sites_read port widths (One' s p k) = act_sites_read port widths s k
  sites_read port widths (Then' s p k q t) = both (act_sites_read port widths s k) (sites_read port (after_act widths (act_of widths s k)) t)
  sites_read port widths (Both' s p k q t) = both (act_sites_read port widths s k) (sites_read port (after_act widths (act_of widths s k)) t)

  act_sites_read : (port : ℕ) (widths : Widths) (s : ℕ) (k : CoreKind) → kind_sites port s k ≡ act_sites_on port (act_of widths s k)
  act_sites_read port widths s (kind.Cycle n) = refl
  act_sites_read port widths s (kind.Set r e) = refl
  act_sites_read port widths s (kind.Send m e) = refl
  act_sites_read port widths s (kind.Recv m) = refl
  act_sites_read port widths s (kind.If' e p t None' v) = append-nil (port_sites port t) ∙ sites_read port widths t
  act_sites_read port widths s (kind.If' e p t (Some' q u) None) = both (sites_read port widths t) (sites_read port widths u)
  act_sites_read port widths s (kind.If' e p t (Some' q u) (Some n)) = both (sites_read port widths t) (sites_read port widths u)
  act_sites_read port widths s (kind.Block' p t) = sites_read port widths t
  act_sites_read port widths s (kind.Wait y) = refl
  act_sites_read port widths s (kind.Pure e) = refl
  act_sites_read port widths s kind.Unit = refl

one_site : (which : Bool) (p w low : ℕ) → p ≡ low → Has (if which then p ∷ [] else []) w → w < low + 1
one_site true p w low is (inl at) = omega (arith, is, at)
one_site true p w low is (inr at) = elim at [ ]
one_site false p w low is at = elim at [ ]

mutual
  inside : (port : ℕ) (scope : List Act) (low : ℕ) (t : Term) → Numbered scope low t → (w : ℕ) → Has (sites_on port t) w → w < low + size t
  inside port scope low (One a) numbered w has = inside_act port scope low a numbered w has
  inside port scope low (Then a t) numbered w has =
      elim (has_either (act_sites_on port a) (sites_on port t) w has) [
        | inl here ↦ let below = inside_act port scope low a numbered.0 w here in omega (arith, below)
        | inr there ↦ let below = inside port (a ∷ scope) (low + act_size a) t numbered.1 w there in omega (arith, below)
      ]
  inside port scope low (Both a t) numbered w has =
      elim (has_either (act_sites_on port a) (sites_on port t) w has) [
        | inl here ↦ let below = inside_act port scope low a numbered.0 w here in omega (arith, below)
        | inr there ↦ let below = inside port (a ∷ scope) (low + act_size a) t numbered.1 w there in omega (arith, below)
      ]

  inside_act : (port : ℕ) (scope : List Act) (low : ℕ) (a : Act) → NumberedAct scope low a → (w : ℕ) → Has (act_sites_on port a) w → w < low + act_size a
  inside_act port scope low (Send p m e) numbered w has = one_site (m == port) p w low numbered.0 has
  inside_act port scope low (Recv p m) numbered w has = one_site (m == port) p w low numbered has
  inside_act port scope low (If p e t u v) numbered w has =
      elim (has_either (sites_on port t) (sites_on port u) w has) [
        | inl here ↦ let below = inside port scope (low + 1) t numbered.1 w here in omega (arith, below)
        | inr there ↦ let below = inside port scope (low + (1 + size t)) u numbered.2 w there in omega (arith, below)
      ]
  inside_act port scope low (When p e t) numbered w has = let below = inside port scope (low + 1) t numbered.1 w has in omega (arith, below)
  inside_act port scope low (Block p t) numbered w has = let below = inside port scope (low + 1) t numbered.1 w has in omega (arith, below)
  inside_act port scope low (Cycle p n) numbered w has = elim has [ ]
  inside_act port scope low (Set p r e) numbered w has = elim has [ ]
  inside_act port scope low (Wait p y) numbered w has = elim has [ ]
  inside_act port scope low (Pure p e) numbered w has = elim has [ ]
  inside_act port scope low (Nothing p) numbered w has = elim has [ ]

pub sites_inside : (port : ℕ) (body : Term) → Numbered [] 0 body → (w : ℕ) → Has (sites_on port body) w → w < size body
sites_inside port body numbered w has = let below = inside port [] 0 body numbered w has in omega (arith, below)

pub has_read : (sites : List ℕ) (k default : ℕ) → k < length sites → Has sites (get_or sites k default)
has_read [] k default within = absurd (omega arith)
has_read (site ∷ sites) zero default within = inl refl
has_read (site ∷ sites) (suc k) default within = inr (has_read sites k default (omega arith))

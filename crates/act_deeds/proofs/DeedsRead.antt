-- What the code reads off a body is the deed of each act at its site.
--
-- The list goes through the body in tree order, and the acts of a numbered body have their numbers in that order.
use Rattle.std.proofs.Common.{◌≡◌, ℕ, ◌+◌, ◌≤◌, arith, refl, sym, ◌∙◌, ap, subst, List, [], ◌∷◌, ◌++◌, length, zero, suc, slice_get, Some, None}
use Rattle.core_term.specs.declared.term.CoreTerm.{CoreTerm, One', Then', Both'}
use Rattle.core_term.specs.declared.term.CoreKind as kind
use Rattle.core_term.specs.declared.term.CoreKind.{CoreKind, None', Some'}
use Rattle.core_term.specs.Term.{Term, One, Then, Both, Act, Cycle, Set, Send, Recv, If, When, Block, Wait, Pure, Nothing, site, head}
use Rattle.core_term.specs.Numbering.{size, act_size, Numbered, NumberedAct}
use Rattle.core_term.specs.Stands.{Stands, StandsIn, here, in_one, in_then, after_then, in_both, after_both, in_yes, in_no, in_when, in_block}
use Rattle.core_term.specs.Widths.{Widths}
use Rattle.core_term.specs.View.{term_of, act_of, after_act}
use Rattle.core_term.specs.Body.{IsBody}
use Rattle.core_term.proofs.code_tables.Counted.{counted as places_counted}
use Rattle.core_term.proofs.code_tables.FirstSites.{act_site}
use Rattle.act_deeds.specs.declared.deed.Deed.{Deed}
use Rattle.act_deeds.specs.declared.deed.Deed.TheVariants.{Decides, Other}
use Rattle.act_deeds.specs.Deeds.{AreDeeds, deed_in, deed_of, deeds_of, deeds_in}
use Rattle.act_deeds.proofs.Sitting.{Sits, sits_whole, sits_first, sits_rest, sits_left, sits_right, both, end_nothing}

-- of the acts of a plain term
abbrev mutual
  pub plain : Term → List Deed
  plain (One a) = deed_in a ∷ plain_inner a
  plain (Then a t) = (deed_in a ∷ plain_inner a) ++ plain t
  plain (Both a t) = (deed_in a ∷ plain_inner a) ++ plain t

  pub plain_inner : Act → List Deed
  plain_inner (If p e t u w) = plain t ++ plain u
  plain_inner (When p e t) = plain t
  plain_inner (Block p t) = plain t
  plain_inner a = []

abbrev pub plain_act : Act → List Deed
plain_act a = deed_in a ∷ plain_inner a

counted_both : {A : Type 0} (these those : List A) (n m : ℕ) → length these ≡ n → length those ≡ m → length (these ++ those) ≡ n + m
counted_both [] those n m is are = omega (arith, is, are)
counted_both (first ∷ these) those zero m is are = absurd (omega (arith, is))
counted_both (first ∷ these) those (suc n) m is are = let known = counted_both these those n m (omega (arith, is)) are in omega (arith, known)

mutual
  pub plain_size : (t : Term) → length (plain t) ≡ size t
  plain_size (One a) = counted_act a
  plain_size (Then a t) = counted_both (plain_act a) (plain t) _ _ (counted_act a) (plain_size t)
  plain_size (Both a t) = counted_both (plain_act a) (plain t) _ _ (counted_act a) (plain_size t)

  counted_act : (a : Act) → length (plain_act a) ≡ act_size a
  counted_act (If p e t u w) = let known = counted_both (plain t) (plain u) _ _ (plain_size t) (plain_size u) in omega (arith, known)
  counted_act (When p e t) = let known = plain_size t in omega (arith, known)
  counted_act (Block p t) = let known = plain_size t in omega (arith, known)
  counted_act (Cycle p n) = refl
  counted_act (Set p r e) = refl
  counted_act (Send p m e) = refl
  counted_act (Recv p m) = refl
  counted_act (Wait p y) = refl
  counted_act (Pure p e) = refl
  counted_act (Nothing p) = refl

module _ (table : List Deed) where
  abbrev At : Act → Type 0
  At a = slice_get table (site a) ≡ Some (deed_in a)

  first_at : (vs : List Act) (low : ℕ) (a : Act) → NumberedAct vs low a → Sits table low (plain_act a) → At a
  first_at vs low a numbered sits = subst (λ z. slice_get table z ≡ Some (deed_in a)) (sym (act_site vs low a numbered)) (sits_first table (plain_inner a) low (deed_in a) sits)

  mutual
    at_stands : {vs ws : List Act} {t u : Term} (low : ℕ) → Numbered vs low t → Sits table low (plain t) → Stands vs t ws u → At (head u)
    at_stands {vs = vs} {t = One a} low numbered sits here = first_at vs low a numbered sits
    at_stands {vs = vs} {t = Then a t} low numbered sits here = first_at vs low a numbered.0 (sits_left table (plain_act a) (plain t) low sits)
    at_stands {vs = vs} {t = Both a t} low numbered sits here = first_at vs low a numbered.0 (sits_left table (plain_act a) (plain t) low sits)
    at_stands low numbered sits (in_one {a = a} s) = at_inside low numbered sits s
    at_stands low numbered sits (in_then {a = a} {t = t} s) = at_inside low numbered.0 (sits_left table (plain_act a) (plain t) low sits) s
    at_stands low numbered sits (in_both {a = a} {t = t} s) = at_inside low numbered.0 (sits_left table (plain_act a) (plain t) low sits) s
    at_stands low numbered sits (after_then {a = a} {t = t} s) =
        at_stands (low + act_size a) numbered.1 (sits_right table (plain_act a) (plain t) low (act_size a) (counted_act a) sits) s
    at_stands low numbered sits (after_both {a = a} {t = t} s) =
        at_stands (low + act_size a) numbered.1 (sits_right table (plain_act a) (plain t) low (act_size a) (counted_act a) sits) s

    at_inside : {vs ws : List Act} {a : Act} {u : Term} (low : ℕ) → NumberedAct vs low a → Sits table low (plain_act a) → StandsIn vs a ws u → At (head u)
    at_inside low numbered sits (in_yes {p = p} {e = e} {t = t} {f = f} {w = w} s) =
        let inner = sits_rest table (plain t ++ plain f) low (deed_in (If p e t f w)) sits in
        at_stands (low + 1) numbered.1 (sits_left table (plain t) (plain f) (low + 1) inner) s
    at_inside low numbered sits (in_no {p = p} {e = e} {t = t} {f = f} {w = w} s) =
        let inner = sits_rest table (plain t ++ plain f) low (deed_in (If p e t f w)) sits in
        at_stands (low + (1 + size t)) numbered.2
        (subst (λ z. Sits table z (plain f)) (omega arith) (sits_right table (plain t) (plain f) (low + 1) (size t) (plain_size t) inner)) s
    at_inside low numbered sits (in_when {p = p} {e = e} {t = t} s) = at_stands (low + 1) numbered.1 (sits_rest table (plain t) low (deed_in (When p e t)) sits) s
    at_inside low numbered sits (in_block {p = p} {t = t} s) = at_stands (low + 1) numbered.1 (sits_rest table (plain t) low (deed_in (Block p t)) sits) s

-- what the code reads is that of the plain term
mutual
  same : (w : Widths) (t : CoreTerm) → deeds_of t ≡ plain (term_of w t)
  same w (One' s p k) = same_act w s k
  same w (Then' s p k q t) = both (same_act w s k) (same (after_act w (act_of w s k)) t)
  same w (Both' s p k q t) = both (same_act w s k) (same (after_act w (act_of w s k)) t)

  same_act : (w : Widths) (s : ℕ) (k : CoreKind) → deed_of k ∷ deeds_in k ≡ plain_act (act_of w s k)
  same_act w s (kind.Cycle n) = refl
  same_act w s (kind.Set r e) = refl
  same_act w s (kind.Send m e) = refl
  same_act w s (kind.Recv m) = refl
  same_act w s (kind.If' e p t None' v) = ap (λ z. Decides ∷ z) (end_nothing (deeds_of t) ∙ same w t)
  same_act w s (kind.If' e p t (Some' q u) None) = ap (λ z. Decides ∷ z) (both (same w t) (same w u))
  same_act w s (kind.If' e p t (Some' q u) (Some n)) = ap (λ z. Decides ∷ z) (both (same w t) (same w u))
  same_act w s (kind.Block' p t) = ap (λ z. Other ∷ z) (same w t)
  same_act w s (kind.Wait y) = refl
  same_act w s (kind.Pure e) = refl
  same_act w s kind.Unit = refl

pub deeds_are : (w : Widths) (body : CoreTerm) → Numbered [] 0 (term_of w body) → (deeds : List Deed) → deeds ≡ deeds_of body → AreDeeds (term_of w body) deeds
deeds_are w body numbered deeds is =
    let all : deeds ≡ plain (term_of w body) = is ∙ same w body in
    record {
      count = ap length all ∙ plain_size (term_of w body);
      at = λ scope u stands. at_stands deeds 0 numbered (subst (λ z. Sits z 0 (plain (term_of w body))) (sym all) (sits_whole (plain (term_of w body)))) stands;
    }

pub few_deeds : (body : CoreTerm) → IsBody body → (deeds : List Deed) → deeds ≡ deeds_of body → length deeds ≤ 512
few_deeds body is_body deeds is =
    let no_widths : Widths = record { registers = λ r. 0; ports = λ m. 0; variables = λ y. 0 } in
    let all = ap length (is ∙ same no_widths body) in
    let sizes = plain_size (term_of no_widths body) in
    let places = places_counted no_widths body in
    let few = is_body.few in
    omega (arith, all, sizes, places, few)

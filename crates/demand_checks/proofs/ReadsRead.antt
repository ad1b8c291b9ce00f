-- What the code reads off a body is each variable of each expression of an act.
use Rattle.std.proofs.Common.{◌≡◌, ℕ, inl, inr, refl, sym, ◌∙◌, ap, subst, List, [], ◌∷◌, ◌++◌, Some, None}
use Rattle.core_term.specs.declared.term.CoreTerm.{CoreTerm, One', Then', Both'}
use Rattle.core_term.specs.declared.term.CoreExpr as expr
use Rattle.core_term.specs.declared.term.CoreExpr.{CoreExpr}
use Rattle.core_term.specs.declared.term.CoreKind as kind
use Rattle.core_term.specs.declared.term.CoreKind.{CoreKind, None', Some'}
use Rattle.core_term.specs.Lists.{Has}
use Rattle.core_term.specs.Term.{Expr, Lit, Var, Reg, Not, Bin, Slice, Choose, Term, One, Then, Both, Act, Cycle, Set, Send, Recv, If, When, Block, Wait, Pure, Nothing, site, head}
use Rattle.core_term.specs.Numbering.{Mentions}
use Rattle.core_term.specs.Acts.{Reads}
use Rattle.core_term.specs.Stands.{Stands, StandsIn, here, in_one, in_then, after_then, in_both, after_both, in_yes, in_no, in_when, in_block}
use Rattle.core_term.specs.Widths.{Widths}
use Rattle.core_term.specs.View.{term_of, act_of, expr_of, after_act}
use Rattle.demand_checks.specs.declared.place.Pair.{Pair}
use Rattle.demand_checks.specs.Reads.{AreReads, pair, expr_reads, kind_reads, reads_of, reads_in}
use Rattle.act_deeds.proofs.Sitting.{both, end_nothing}
use Rattle.demand_checks.proofs.Listed.{has_left, has_right, has_either}

abbrev in_expr : ℕ → Expr → List Pair
in_expr p (Lit w n) = []
in_expr p (Var y) = pair p y ∷ []
in_expr p (Reg r) = []
in_expr p (Not w e) = in_expr p e
in_expr p (Bin o w v a b) = in_expr p a ++ in_expr p b
in_expr p (Slice y high low) = pair p y ∷ []
in_expr p (Choose c a b) = in_expr p c ++ (in_expr p a ++ in_expr p b)

abbrev own : Act → List Pair
own (Set p r e) = in_expr p e
own (Send p m e) = in_expr p e
own (If p e t u w) = in_expr p e
own (When p e t) = in_expr p e
own (Pure p e) = in_expr p e
own a = []

abbrev mutual
  plain : Term → List Pair
  plain (One a) = own a ++ inner a
  plain (Then a t) = (own a ++ inner a) ++ plain t
  plain (Both a t) = (own a ++ inner a) ++ plain t

  inner : Act → List Pair
  inner (If p e t u w) = plain t ++ plain u
  inner (When p e t) = plain t
  inner (Block p t) = plain t
  inner a = []

abbrev plain_act : Act → List Pair
plain_act a = own a ++ inner a

mentioned : (p : ℕ) (e : Expr) (y : ℕ) → Mentions e y → Has (in_expr p e) (pair p y)
mentioned p (Lit w n) y k = elim k [ ]
mentioned p (Var z) y k = inl (ap (pair p) k)
mentioned p (Reg r) y k = elim k [ ]
mentioned p (Not w e) y k = mentioned p e y k
mentioned p (Bin o w v a b) y (inl k) = has_left _ _ _ (mentioned p a y k)
mentioned p (Bin o w v a b) y (inr k) = has_right (in_expr p a) _ _ (mentioned p b y k)
mentioned p (Slice z high low) y k = inl (ap (pair p) k)
mentioned p (Choose c a b) y (inl k) = has_left _ _ _ (mentioned p c y k)
mentioned p (Choose c a b) y (inr (inl k)) = has_right (in_expr p c) _ _ (has_left _ _ _ (mentioned p a y k))
mentioned p (Choose c a b) y (inr (inr k)) = has_right (in_expr p c) _ _ (has_right (in_expr p a) _ _ (mentioned p b y k))

-- a pair of an expression in the act p
abbrev Mentioned : ℕ → Expr → Pair → Type 0
Mentioned p e read = (read.first ≡ p) × Mentions e read.second

by_variable : (p y : ℕ) (read : Pair) → Has (pair p y ∷ []) read → (read.first ≡ p) × (read.second ≡ y)
by_variable p y read (inl is) = (ap (λ r. r.first) is, ap (λ r. r.second) is)
by_variable p y read (inr has) = elim has [ ]

mentions : (p : ℕ) (e : Expr) (read : Pair) → Has (in_expr p e) read → Mentioned p e read
mentions p (Lit w n) read has = elim has [ ]
mentions p (Var z) read has = by_variable p z read has
mentions p (Reg r) read has = elim has [ ]
mentions p (Not w e) read has = mentions p e read has
mentions p (Bin o w v a b) read has = elim (has_either (in_expr p a) _ read has) [
  | inl k ↦ (let mention = mentions p a read k in (mention.0, inl mention.1))
  | inr k ↦ (let mention = mentions p b read k in (mention.0, inr mention.1))
]
mentions p (Slice z high low) read has = by_variable p z read has
mentions p (Choose c a b) read has = elim (has_either (in_expr p c) _ read has) [
  | inl k ↦ (let mention = mentions p c read k in (mention.0, inl mention.1))
  | inr k ↦ elim (has_either (in_expr p a) _ read k) [
    | inl l ↦ (let mention = mentions p a read l in (mention.0, inr (inl mention.1)))
    | inr l ↦ (let mention = mentions p b read l in (mention.0, inr (inr mention.1)))
  ]
]

own_read : (a : Act) (read : Pair) → Has (own a) read → (site a ≡ read.first) × Reads a read.second
own_read (Set p r e) read has = let mention = mentions p e read has in (sym mention.0, mention.1)
own_read (Send p mention e) read has = let mention = mentions p e read has in (sym mention.0, mention.1)
own_read (If p e t u w) read has = let mention = mentions p e read has in (sym mention.0, mention.1)
own_read (When p e t) read has = let mention = mentions p e read has in (sym mention.0, mention.1)
own_read (Pure p e) read has = let mention = mentions p e read has in (sym mention.0, mention.1)
own_read (Cycle p n) read has = elim has [ ]
own_read (Recv p mention) read has = elim has [ ]
own_read (Block p t) read has = elim has [ ]
own_read (Wait p y) read has = elim has [ ]
own_read (Nothing p) read has = elim has [ ]

read_own : (a : Act) (y : ℕ) → Reads a y → Has (own a) (pair (site a) y)
read_own (Set p r e) y k = mentioned p e y k
read_own (Send p m e) y k = mentioned p e y k
read_own (If p e t u w) y k = mentioned p e y k
read_own (When p e t) y k = mentioned p e y k
read_own (Pure p e) y k = mentioned p e y k
read_own (Cycle p n) y k = elim k [ ]
read_own (Recv p m) y k = elim k [ ]
read_own (Block p t) y k = elim k [ ]
read_own (Wait p x) y k = elim k [ ]
read_own (Nothing p) y k = elim k [ ]

-- a read of an act that stands in a term
abbrev ReadIn : List Act → Term → Pair → Type 0
ReadIn vs t read = (ws : List Act) × (u : Term) × Stands vs t ws u × (site (head u) ≡ read.first) × Reads (head u) read.second

abbrev ReadInside : List Act → Act → Pair → Type 0
ReadInside vs a read = (ws : List Act) × (u : Term) × StandsIn vs a ws u × (site (head u) ≡ read.first) × Reads (head u) read.second

of_act : (vs : List Act) (a : Act) (read : Pair) (t : Term) → head t ≡ a → ((ws : List Act) (u : Term) → StandsIn vs a ws u → Stands vs t ws u)
    → (Has (inner a) read → ReadInside vs a read) → Has (plain_act a) read → ReadIn vs t read
of_act vs a read t is inside deeper has = elim (has_either (own a) (inner a) read has) [
  | inl k ↦ (let mention = own_read a read k in (vs, t, here, subst (λ known. site known ≡ read.first) (sym is) mention.0, subst (λ known. Reads known read.second) (sym is) mention.1))
  | inr k ↦ (let known = deeper k in (known.0, known.1, inside known.0 known.1 known.2, known.3, known.4))
]

mutual
  reads : (vs : List Act) (t : Term) (read : Pair) → Has (plain t) read → ReadIn vs t read
  reads vs (One a) read has = of_act vs a read (One a) refl (λ ws u s. in_one s) (reads_inside vs a read) has
  reads vs (Then a t) read has = elim (has_either (plain_act a) (plain t) read has) [
    | inl k ↦ of_act vs a read (Then a t) refl (λ ws u s. in_then s) (reads_inside vs a read) k
    | inr k ↦ (let known = reads (a ∷ vs) t read k in (known.0, known.1, after_then known.2, known.3, known.4))
  ]
  reads vs (Both a t) read has = elim (has_either (plain_act a) (plain t) read has) [
    | inl k ↦ of_act vs a read (Both a t) refl (λ ws u s. in_both s) (reads_inside vs a read) k
    | inr k ↦ (let known = reads (a ∷ vs) t read k in (known.0, known.1, after_both known.2, known.3, known.4))
  ]

  reads_inside : (vs : List Act) (a : Act) (read : Pair) → Has (inner a) read → ReadInside vs a read
  reads_inside vs (If p e t u w) read has = elim (has_either (plain t) (plain u) read has) [
    | inl k ↦ (let known = reads vs t read k in (known.0, known.1, in_yes known.2, known.3, known.4))
    | inr k ↦ (let known = reads vs u read k in (known.0, known.1, in_no known.2, known.3, known.4))
  ]
  reads_inside vs (When p e t) read has = let known = reads vs t read has in (known.0, known.1, in_when known.2, known.3, known.4)
  reads_inside vs (Block p t) read has = let known = reads vs t read has in (known.0, known.1, in_block known.2, known.3, known.4)
  reads_inside vs (Set p r e) read has = elim has [ ]
  reads_inside vs (Send p m e) read has = elim has [ ]
  reads_inside vs (Pure p e) read has = elim has [ ]
  reads_inside vs (Cycle p n) read has = elim has [ ]
  reads_inside vs (Recv p m) read has = elim has [ ]
  reads_inside vs (Wait p y) read has = elim has [ ]
  reads_inside vs (Nothing p) read has = elim has [ ]

mutual
  found : {vs ws : List Act} {t u : Term} (y : ℕ) → Stands vs t ws u → Reads (head u) y → Has (plain t) (pair (site (head u)) y)
  found {t = One a} y here k = has_left _ _ _ (read_own a y k)
  found {t = Then a t} y here k = has_left (plain_act a) _ _ (has_left _ _ _ (read_own a y k))
  found {t = Both a t} y here k = has_left (plain_act a) _ _ (has_left _ _ _ (read_own a y k))
  found y (in_one {a = a} s) k = has_right (own a) _ _ (found_inside y s k)
  found y (in_then {a = a} {t = t} s) k = has_left (plain_act a) _ _ (has_right (own a) _ _ (found_inside y s k))
  found y (in_both {a = a} {t = t} s) k = has_left (plain_act a) _ _ (has_right (own a) _ _ (found_inside y s k))
  found y (after_then {a = a} s) k = has_right (plain_act a) _ _ (found y s k)
  found y (after_both {a = a} s) k = has_right (plain_act a) _ _ (found y s k)

  found_inside : {vs ws : List Act} {a : Act} {u : Term} (y : ℕ) → StandsIn vs a ws u → Reads (head u) y → Has (inner a) (pair (site (head u)) y)
  found_inside y (in_yes s) k = has_left _ _ _ (found y s k)
  found_inside y (in_no {t = t} s) k = has_right (plain t) _ _ (found y s k)
  found_inside y (in_when s) k = found y s k
  found_inside y (in_block s) k = found y s k

-- what the code reads is that of the plain term
same_expr : (w : Widths) (p : ℕ) (e : CoreExpr) → expr_reads p e ≡ in_expr p (expr_of w e)
same_expr w p (expr.Lit b) = refl
same_expr w p (expr.Var y) = refl
same_expr w p (expr.Reg r) = refl
same_expr w p (expr.Not' h e) = same_expr w p e
same_expr w p (expr.Bin' o h a k b) = rw (same_expr w p a, same_expr w p b) refl
same_expr w p (expr.Slice y high low) = refl
same_expr w p (expr.Choose' h c k a l b) = rw (same_expr w p c, same_expr w p a, same_expr w p b) refl

mutual
  same : (w : Widths) (t : CoreTerm) → reads_of t ≡ plain (term_of w t)
  same w (One' s p k) = same_act w s k
  same w (Then' s p k q t) = both (same_act w s k) (same (after_act w (act_of w s k)) t)
  same w (Both' s p k q t) = both (same_act w s k) (same (after_act w (act_of w s k)) t)

  same_act : (w : Widths) (s : ℕ) (k : CoreKind) → kind_reads s k ++ reads_in k ≡ plain_act (act_of w s k)
  same_act w s (kind.Cycle n) = refl
  same_act w s (kind.Set r e) = both (same_expr w s e) refl
  same_act w s (kind.Send m e) = both (same_expr w s e) refl
  same_act w s (kind.Recv m) = refl
  same_act w s (kind.If' e p t None' v) = both (same_expr w s e) (end_nothing (reads_of t) ∙ same w t)
  same_act w s (kind.If' e p t (Some' q u) None) = both (same_expr w s e) (both (same w t) (same w u))
  same_act w s (kind.If' e p t (Some' q u) (Some n)) = both (same_expr w s e) (both (same w t) (same w u))
  same_act w s (kind.Block' p t) = same w t
  same_act w s (kind.Wait y) = refl
  same_act w s (kind.Pure e) = both (same_expr w s e) refl
  same_act w s kind.Unit = refl

pub reads_are : (w : Widths) (body : CoreTerm) (those : List Pair) → those ≡ reads_of body → AreReads (term_of w body) those
reads_are w body those is =
    let all : those ≡ plain (term_of w body) = is ∙ same w body in
    record {
      sound = λ read has. reads [] (term_of w body) read (subst (λ z. Has z read) all has);
      whole = λ p y read. subst (λ z. Has z (pair p y)) (sym all) (subst (λ z. Has (plain (term_of w body)) (pair z y)) read.3 (found y read.2 read.4));
    }

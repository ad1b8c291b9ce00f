-- A body of the code that is numbered, tail-stepped and without a `cycle` of 0 with some widths is so with all
-- widths: none of these depends on a width. By induction over the body, once for each.
use Rattle.std.proofs.Common.{◌≡◌, ◌∙◌, ℕ, ◌+◌, inl, inr, refl, sym, subst, List, [], ◌∷◌, None, Some}
use Rattle.core_term.specs.declared.term.CoreExpr.{CoreExpr, Lit, Var, Reg, Not', Bin', Slice, Choose'}
use Rattle.core_term.specs.declared.term.CoreTerm.{CoreTerm, One', Then', Both'}
use Rattle.core_term.specs.declared.term.CoreKind.{CoreKind, Cycle, Set, Send, Recv, If', Block', Wait, Pure, Unit, None', Some'}
use Rattle.core_term.specs.Term.{Act, site}
use Rattle.core_term.specs.Numbering.{size, act_size, Mentions, OneOf, InScope, Numbered, NumberedAct}
use Rattle.core_term.specs.Tail.{Names, NamesIn, IsTail, IsTailAct, CyclesTakeTime, CyclesTakeTimeIn}
use Rattle.core_term.specs.Widths.{Widths}
use Rattle.core_term.specs.View.{expr_of, after_act, term_of, act_of}

mentions_too : (widths other : Widths) (expr : CoreExpr) (number : ℕ) → Mentions (expr_of widths expr) number
    → Mentions (expr_of other expr) number
mentions_too widths other (Lit bits) number mention = mention
mentions_too widths other (Var word) number mention = mention
mentions_too widths other (Reg register) number mention = mention
mentions_too widths other (Not' pointer operand) number mention = mentions_too widths other operand number mention
mentions_too widths other (Bin' operator pointer first pointer' second) number (inl mention) =
    inl (mentions_too widths other first number mention)
mentions_too widths other (Bin' operator pointer first pointer' second) number (inr mention) =
    inr (mentions_too widths other second number mention)
mentions_too widths other (Slice word high low) number mention = mention
mentions_too widths other (Choose' pointer condition pointer' first pointer'' second) number (inl mention) =
    inl (mentions_too widths other condition number mention)
mentions_too widths other (Choose' pointer condition pointer' first pointer'' second) number (inr (inl mention)) =
    inr (inl (mentions_too widths other first number mention))
mentions_too widths other (Choose' pointer condition pointer' first pointer'' second) number (inr (inr mention)) =
    inr (inr (mentions_too widths other second number mention))

site_same : (widths : Widths) (own : ℕ) (kind : CoreKind) → site (act_of widths own kind) ≡ own
site_same widths own (Cycle count) = refl
site_same widths own (Set register value) = refl
site_same widths own (Send port value) = refl
site_same widths own (Recv port) = refl
site_same widths own (If' condition pointer first None' word) = refl
site_same widths own (If' condition pointer first (Some' pointer' second) None) = refl
site_same widths own (If' condition pointer first (Some' pointer' second) (Some width)) = refl
site_same widths own (Block' pointer body) = refl
site_same widths own (Wait word) = refl
site_same widths own (Pure value) = refl
site_same widths own Unit = refl

mutual
  size_same : (widths other : Widths) (term : CoreTerm) → size (term_of widths term) ≡ size (term_of other term)
  size_same widths other (One' own at kind) = act_size_same widths other own kind
  size_same widths other (Then' own at kind pointer rest) =
      rw (
        act_size_same widths other own kind,
        size_same (after_act widths (act_of widths own kind)) (after_act other (act_of other own kind)) rest,
      ) refl
  size_same widths other (Both' own at kind pointer rest) =
      rw (
        act_size_same widths other own kind,
        size_same (after_act widths (act_of widths own kind)) (after_act other (act_of other own kind)) rest,
      ) refl

  act_size_same : (widths other : Widths) (own : ℕ) (kind : CoreKind)
      → act_size (act_of widths own kind) ≡ act_size (act_of other own kind)
  act_size_same widths other own (Cycle count) = refl
  act_size_same widths other own (Set register value) = refl
  act_size_same widths other own (Send port value) = refl
  act_size_same widths other own (Recv port) = refl
  act_size_same widths other own (If' condition pointer first None' word) = rw (size_same widths other first) refl
  act_size_same widths other own (If' condition pointer first (Some' pointer' second) None) =
      rw (size_same widths other first, size_same widths other second) refl
  act_size_same widths other own (If' condition pointer first (Some' pointer' second) (Some width)) =
      rw (size_same widths other first, size_same widths other second) refl
  act_size_same widths other own (Block' pointer body) = rw (size_same widths other body) refl
  act_size_same widths other own (Wait word) = refl
  act_size_same widths other own (Pure value) = refl
  act_size_same widths other own Unit = refl

-- Numbered.

abbrev Within : List Act → List Act → Type 0
Within acts others = (number : ℕ) → OneOf acts number → OneOf others number

within_next : (widths other : Widths) (own : ℕ) (kind : CoreKind) (acts others : List Act) → Within acts others
    → Within (act_of widths own kind ∷ acts) (act_of other own kind ∷ others)
within_next widths other own kind acts others within number (inl here) =
    inl (here ∙ site_same widths own kind ∙ sym (site_same other own kind))
within_next widths other own kind acts others within number (inr one) = inr (within number one)

in_scope_too : (widths other : Widths) (acts others : List Act) (expr : CoreExpr) → Within acts others
    → InScope acts (expr_of widths expr) → InScope others (expr_of other expr)
in_scope_too widths other acts others expr within scoped =
    λ number mention. within number (scoped number (mentions_too other widths expr number mention))

mutual
  numbered_too : (widths other : Widths) (acts others : List Act) (low : ℕ) (term : CoreTerm) → Within acts others
      → Numbered acts low (term_of widths term) → Numbered others low (term_of other term)
  numbered_too widths other acts others low (One' own at kind) within is =
      numbered_in_too widths other acts others low own kind within is
  numbered_too widths other acts others low (Then' own at kind pointer rest) within is = (
    numbered_in_too widths other acts others low own kind within is.0,
    subst (λ n. Numbered (act_of other own kind ∷ others) (low + n) (term_of (after_act other (act_of other own kind)) rest)) (act_size_same widths other own kind) (
        numbered_too (after_act widths (act_of widths own kind)) (after_act other (act_of other own kind)) (act_of widths own kind ∷ acts) (act_of other own kind ∷ others)
        (low + act_size (act_of widths own kind)) rest (within_next widths other own kind acts others within) is.1),
  )
  numbered_too widths other acts others low (Both' own at kind pointer rest) within is = (
    numbered_in_too widths other acts others low own kind within is.0,
    subst (λ n. Numbered (act_of other own kind ∷ others) (low + n) (term_of (after_act other (act_of other own kind)) rest)) (act_size_same widths other own kind) (
        numbered_too (after_act widths (act_of widths own kind)) (after_act other (act_of other own kind)) (act_of widths own kind ∷ acts) (act_of other own kind ∷ others)
        (low + act_size (act_of widths own kind)) rest (within_next widths other own kind acts others within) is.1),
  )

  numbered_in_too : (widths other : Widths) (acts others : List Act) (low own : ℕ) (kind : CoreKind) → Within acts others
      → NumberedAct acts low (act_of widths own kind) → NumberedAct others low (act_of other own kind)
  numbered_in_too widths other acts others low own (Cycle count) within is = is
  numbered_in_too widths other acts others low own (Set register value) within is =
      (is.0, in_scope_too widths other acts others value within is.1)
  numbered_in_too widths other acts others low own (Send port value) within is =
      (is.0, in_scope_too widths other acts others value within is.1)
  numbered_in_too widths other acts others low own (Recv port) within is = is
  numbered_in_too widths other acts others low own (If' condition pointer first None' word) within is = (
    is.0,
    numbered_too widths other acts others (low + 1) first within is.1,
    in_scope_too widths other acts others condition within is.2,
  )
  numbered_in_too widths other acts others low own (If' condition pointer first (Some' pointer' second) None) within is = (
    is.0,
    numbered_too widths other acts others (low + 1) first within is.1,
    subst (λ n. Numbered others (low + (1 + n)) (term_of other second)) (size_same widths other first) (numbered_too widths other acts others (low + (1 + size (term_of widths first))) second within is.2),
    in_scope_too widths other acts others condition within is.3,
  )
  numbered_in_too widths other acts others low own (If' condition pointer first (Some' pointer' second) (Some width)) within is = (
    is.0,
    numbered_too widths other acts others (low + 1) first within is.1,
    subst (λ n. Numbered others (low + (1 + n)) (term_of other second)) (size_same widths other first) (numbered_too widths other acts others (low + (1 + size (term_of widths first))) second within is.2),
    in_scope_too widths other acts others condition within is.3,
  )
  numbered_in_too widths other acts others low own (Block' pointer body) within is =
      (is.0, numbered_too widths other acts others (low + 1) body within is.1)
  numbered_in_too widths other acts others low own (Wait word) within is = (is.0, within word is.1)
  numbered_in_too widths other acts others low own (Pure value) within is =
      (is.0, in_scope_too widths other acts others value within is.1)
  numbered_in_too widths other acts others low own Unit within is = is

pub numbered_any : (widths other : Widths) (body : CoreTerm) → Numbered [] 0 (term_of widths body)
    → Numbered [] 0 (term_of other body)
numbered_any widths other body is = numbered_too widths other [] [] 0 body (λ number one. one) is

-- Tail-stepped.

mutual
  names_too : (widths other : Widths) (term : CoreTerm) (number : ℕ) → Names (term_of widths term) number
      → Names (term_of other term) number
  names_too widths other (One' own at kind) number names = names_in_too widths other own kind number names
  names_too widths other (Then' own at kind pointer rest) number (inl names) =
      inl (names_in_too widths other own kind number names)
  names_too widths other (Then' own at kind pointer rest) number (inr names) =
      inr (names_too (after_act widths (act_of widths own kind)) (after_act other (act_of other own kind)) rest number names)
  names_too widths other (Both' own at kind pointer rest) number (inl names) =
      inl (names_in_too widths other own kind number names)
  names_too widths other (Both' own at kind pointer rest) number (inr names) =
      inr (names_too (after_act widths (act_of widths own kind)) (after_act other (act_of other own kind)) rest number names)

  names_in_too : (widths other : Widths) (own : ℕ) (kind : CoreKind) (number : ℕ) → NamesIn (act_of widths own kind) number
      → NamesIn (act_of other own kind) number
  names_in_too widths other own (Cycle count) number names = names
  names_in_too widths other own (Set register value) number names = mentions_too widths other value number names
  names_in_too widths other own (Send port value) number names = mentions_too widths other value number names
  names_in_too widths other own (Recv port) number names = names
  names_in_too widths other own (If' condition pointer first None' word) number (inl names) =
      inl (mentions_too widths other condition number names)
  names_in_too widths other own (If' condition pointer first None' word) number (inr names) =
      inr (names_too widths other first number names)
  names_in_too widths other own (If' condition pointer first (Some' pointer' second) None) number (inl names) =
      inl (mentions_too widths other condition number names)
  names_in_too widths other own (If' condition pointer first (Some' pointer' second) None) number (inr (inl names)) =
      inr (inl (names_too widths other first number names))
  names_in_too widths other own (If' condition pointer first (Some' pointer' second) None) number (inr (inr names)) =
      inr (inr (names_too widths other second number names))
  names_in_too widths other own (If' condition pointer first (Some' pointer' second) (Some width)) number (inl names) =
      inl (mentions_too widths other condition number names)
  names_in_too widths other own (If' condition pointer first (Some' pointer' second) (Some width)) number (inr (inl names)) =
      inr (inl (names_too widths other first number names))
  names_in_too widths other own (If' condition pointer first (Some' pointer' second) (Some width)) number (inr (inr names)) =
      inr (inr (names_too widths other second number names))
  names_in_too widths other own (Block' pointer body) number names = names_too widths other body number names
  names_in_too widths other own (Wait word) number names = names
  names_in_too widths other own (Pure value) number names = mentions_too widths other value number names
  names_in_too widths other own Unit number names = names

mutual
  pub tail_any : (widths other : Widths) (term : CoreTerm) → IsTail (term_of widths term) → IsTail (term_of other term)
  tail_any widths other (One' own at kind) tail = tail_in_any widths other own kind tail
  tail_any widths other (Then' own at kind pointer rest) tail =
      tail_any (after_act widths (act_of widths own kind)) (after_act other (act_of other own kind)) rest tail
  tail_any widths other (Both' own at kind pointer rest) tail =
      let inner = after_act widths (act_of widths own kind) in
      let outer = after_act other (act_of other own kind) in (
        tail_in_any widths other own kind tail.0,
        tail_any inner outer rest tail.1,
        λ names. tail.2 (subst (Names (term_of inner rest)) (site_same other own kind
            ∙ sym (site_same widths own kind)) (names_too outer inner rest (site (act_of other own kind)) names)),
      )

  tail_in_any : (widths other : Widths) (own : ℕ) (kind : CoreKind) → IsTailAct (act_of widths own kind)
      → IsTailAct (act_of other own kind)
  tail_in_any widths other own (Cycle count) tail = tail
  tail_in_any widths other own (Set register value) tail = tt
  tail_in_any widths other own (Send port value) tail = tail
  tail_in_any widths other own (Recv port) tail = tail
  tail_in_any widths other own (If' condition pointer first None' word) tail = tail
  tail_in_any widths other own (If' condition pointer first (Some' pointer' second) None) tail =
      (tail_any widths other first tail.0, tail_any widths other second tail.1)
  tail_in_any widths other own (If' condition pointer first (Some' pointer' second) (Some width)) tail =
      (tail_any widths other first tail.0, tail_any widths other second tail.1)
  tail_in_any widths other own (Block' pointer body) tail = tail_any widths other body tail
  tail_in_any widths other own (Wait word) tail = tail
  tail_in_any widths other own (Pure value) tail = tail
  tail_in_any widths other own Unit tail = tail

-- Without a `cycle` of 0.

mutual
  pub cycles_any : (widths other : Widths) (term : CoreTerm) → CyclesTakeTime (term_of widths term)
      → CyclesTakeTime (term_of other term)
  cycles_any widths other (One' own at kind) take = cycles_in_any widths other own kind take
  cycles_any widths other (Then' own at kind pointer rest) take = (
    cycles_in_any widths other own kind take.0,
    cycles_any (after_act widths (act_of widths own kind)) (after_act other (act_of other own kind)) rest take.1,
  )
  cycles_any widths other (Both' own at kind pointer rest) take = (
    cycles_in_any widths other own kind take.0,
    cycles_any (after_act widths (act_of widths own kind)) (after_act other (act_of other own kind)) rest take.1,
  )

  cycles_in_any : (widths other : Widths) (own : ℕ) (kind : CoreKind) → CyclesTakeTimeIn (act_of widths own kind)
      → CyclesTakeTimeIn (act_of other own kind)
  cycles_in_any widths other own (Cycle count) take = take
  cycles_in_any widths other own (Set register value) take = tt
  cycles_in_any widths other own (Send port value) take = tt
  cycles_in_any widths other own (Recv port) take = tt
  cycles_in_any widths other own (If' condition pointer first None' word) take = cycles_any widths other first take
  cycles_in_any widths other own (If' condition pointer first (Some' pointer' second) None) take =
      (cycles_any widths other first take.0, cycles_any widths other second take.1)
  cycles_in_any widths other own (If' condition pointer first (Some' pointer' second) (Some width)) take =
      (cycles_any widths other first take.0, cycles_any widths other second take.1)
  cycles_in_any widths other own (Block' pointer body) take = cycles_any widths other body take
  cycles_in_any widths other own (Wait word) take = tt
  cycles_in_any widths other own (Pure value) take = tt
  cycles_in_any widths other own Unit take = tt

-- Which points are ends of the tail, told along the forms of the points.
--
-- By induction over terms in two modes: parts of the tail, and parts that have no end of the tail. A point of the form Same is of the
-- tail where its predecessor is, a join where both its ends are. The hard case is a wait: the variable that it waits for is made by an
-- act that is none of the tail, since in a chain of the tail whose parts begin together nothing names the first one. So what is carried
-- inward is that each variable that a part names is made outside the tail.
use Rattle.std.proofs.Common.{Bool, ◌≡◌, ℕ, ◌+◌, ◌<◌, ◌≤◌, inl, inr, arith, refl, sym, ◌∙◌, ap, subst, true, false, List, [], ◌∷◌, ◌++◌}
use Rattle.order_rules.specs.Form.{Form, Start, Same, After, Sync, Join, Side, Merge}
use Rattle.core_term.specs.Term.{Term, One, Then, Both, Act, Cycle, Set, Send, Recv, If, When, Block, Wait, Pure, Nothing, site, head}
use Rattle.core_term.specs.Numbering.{size, act_size, OneOf, Numbered, NumberedAct}
use Rattle.core_term.specs.Tail.{Names, NamesIn, IsTail, IsTailAct}
use Rattle.core_term.specs.Points.{TermEnd, Spot, Formed, forms, act_forms}
use Rattle.core_term.specs.Order.{IsFormed}
use Rattle.core_term.proofs.code_tables.FirstSites.{head_site, act_site, size_positive, act_size_positive}
use Rattle.turn_machine.specs.TailEnds.{TailEnds, AreTailEnds, AreTailEndsIn, NoTailEnds, is_tail}

-- the point is no end of a term, so a join there is a wait and not the end of a chain
abbrev pub is_no_chain : Spot → Bool
is_no_chain (TermEnd p) = false
is_no_chain point = true

pub of_range : {ends : TailEnds} {low high : ℕ} → NoTailEnds ends low high → (from to : ℕ) → low ≤ from → to ≤ high → NoTailEnds ends from to
of_range none from to above below place after before = none place (omega arith) (omega arith)

module _ (ends : TailEnds) where
  abbrev pub TailRule : Spot → Form Spot → Type 0
  TailRule point Start = Unit {0}
  TailRule point (Same from) = is_tail ends point ≡ is_tail ends from
  TailRule point (After delay from) = Unit {0}
  TailRule point (Sync from) = is_tail ends point ≡ false
  TailRule point (Side from) = is_tail ends point ≡ false
  TailRule point (Join first second) =
      (is_tail ends first ≡ is_tail ends second) × (is_tail ends point ≡ is_tail ends first) × (is_no_chain point ≡ true → is_tail ends first ≡ false)
  TailRule point (Merge first second) = is_tail ends point ≡ true → (is_tail ends first ≡ true) × (is_tail ends second ≡ true)

  abbrev pub TailRules : List Formed → Type 0
  TailRules [] = Unit {0}
  TailRules (formed ∷ rest) = TailRule formed.spot formed.form × TailRules rest

  append : (these those : List Formed) → TailRules these → TailRules those → TailRules (these ++ those)
  append [] those rules more = more
  append (formed ∷ these) those rules more = (rules.0, append these those rules.1 more)

  pub tail_rule : (these : List Formed) (point : Spot) (form : Form Spot) → IsFormed these point form → TailRules these → TailRule point form
  tail_rule [] point form formed rules = elim formed [ ]
  tail_rule (first ∷ rest) point form (inl same) rules = let RuleOf : Formed → Type 0 = λ z. TailRule z.spot z.form in subst RuleOf same rules.0
  tail_rule (first ∷ rest) point form (inr formed) rules = tail_rule rest point form formed rules.1

  -- the variables that a part names are made outside the tail
  abbrev MadeOutside : List Act → Term → Type 0
  MadeOutside acts term = (variable : ℕ) → OneOf acts variable → Names term variable → ends.act variable ≡ false

  abbrev MadeOutsideIn : List Act → Act → Type 0
  MadeOutsideIn acts act = (variable : ℕ) → OneOf acts variable → NamesIn act variable → ends.act variable ≡ false

  with_outside : (acts : List Act) (act : Act) (rest : Term) → ends.act (site act) ≡ false → ((variable : ℕ) → OneOf acts variable → Names rest variable → ends.act variable ≡ false) → MadeOutside (act ∷ acts) rest
  with_outside acts act rest outside made variable (inl same) names = ap ends.act same ∙ outside
  with_outside acts act rest outside made variable (inr scoped) names = made variable scoped names

  with_unnamed : (acts : List Act) (act : Act) (rest : Term) → (Names rest (site act) → ⊥) → ((variable : ℕ) → OneOf acts variable → Names rest variable → ends.act variable ≡ false) → MadeOutside (act ∷ acts) rest
  with_unnamed acts act rest unnamed made variable (inl same) names = absurd (unnamed (subst (Names rest) same names))
  with_unnamed acts act rest unnamed made variable (inr scoped) names = made variable scoped names

  pub term_is_tail : (term : Term) → AreTailEnds ends term → ends.term (site (head term)) ≡ true
  term_is_tail (One act) ends_are = ends_are.0
  term_is_tail (Then act rest) ends_are = ends_are.0
  term_is_tail (Both act rest) ends_are = ends_are.0

  mutual
    -- no end of the term is of the tail
    outer_rules : (acts : List Act) (low : ℕ) (term : Term) → Numbered acts low term → NoTailEnds ends low (low + size term) → MadeOutside acts term → TailRules (forms term)
    outer_rules acts low (One act) numbered none made =
        let at_low : site act ≡ low = act_site acts low act numbered in
        let positive : 0 < act_size act = act_size_positive act in
        let here = none (site act) (omega arith) (omega arith) in
        (refl, (here.1 ∙ sym here.0, act_outer_rules acts low act numbered here.0 (of_range none (low + 1) (low + act_size act) (omega arith) (omega arith)) made))
    outer_rules acts low (Then act rest) numbered none made =
        let at_low : site act ≡ low = act_site acts low act numbered.0 in
        let rest_at : site (head rest) ≡ low + act_size act = head_site (act ∷ acts) (low + act_size act) rest numbered.1 in
        let positive : 0 < act_size act = act_size_positive act in
        let rest_positive : 0 < size rest = size_positive rest in
        let here = none (site act) (omega arith) (omega arith) in
        let there = none (site (head rest)) (omega arith) (omega arith) in (
          refl,
          (
            sym here.0,
            (
              here.1 ∙ sym there.1,
              append (act_forms act) (forms rest)
                  (act_outer_rules acts low act numbered.0 here.0 (of_range none (low + 1) (low + act_size act) (omega arith) (omega arith)) (λ variable scoped names. made variable scoped (inl names)))
                  (outer_rules (act ∷ acts) (low + act_size act) rest numbered.1 (of_range none (low + act_size act) (low + act_size act + size rest) (omega arith) (omega arith))
                  (with_outside acts act rest here.0 (λ variable scoped names. made variable scoped (inr names)))),
            ),
          ),
        )
    outer_rules acts low (Both act rest) numbered none made =
        let at_low : site act ≡ low = act_site acts low act numbered.0 in
        let rest_at : site (head rest) ≡ low + act_size act = head_site (act ∷ acts) (low + act_size act) rest numbered.1 in
        let positive : 0 < act_size act = act_size_positive act in
        let rest_positive : 0 < size rest = size_positive rest in
        let here = none (site act) (omega arith) (omega arith) in
        let there = none (site (head rest)) (omega arith) (omega arith) in (
          refl,
          (
            refl,
            (
              (here.0 ∙ sym there.1, here.1 ∙ sym here.0, λ no_chain. here.0),
              append (act_forms act) (forms rest)
                  (act_outer_rules acts low act numbered.0 here.0 (of_range none (low + 1) (low + act_size act) (omega arith) (omega arith)) (λ variable scoped names. made variable scoped (inl names)))
                  (outer_rules (act ∷ acts) (low + act_size act) rest numbered.1 (of_range none (low + act_size act) (low + act_size act + size rest) (omega arith) (omega arith))
                  (with_outside acts act rest here.0 (λ variable scoped names. made variable scoped (inr names)))),
            ),
          ),
        )

    act_outer_rules : (acts : List Act) (low : ℕ) (act : Act) → NumberedAct acts low act → ends.act (site act) ≡ false → NoTailEnds ends (low + 1) (low + act_size act) → MadeOutsideIn acts act → TailRules (act_forms act)
    act_outer_rules acts low (Cycle p count) numbered not_tail none made = (tt, tt)
    act_outer_rules acts low (Set p register value) numbered not_tail none made = (tt, tt)
    act_outer_rules acts low (Send p port value) numbered not_tail none made = (not_tail, tt)
    act_outer_rules acts low (Recv p port) numbered not_tail none made = (not_tail, tt)
    act_outer_rules acts low (If p condition first second valued) numbered not_tail none made = (
      refl,
      (
        refl,
        (
          (λ is. absurd (let impossible : true ≡ false = sym is ∙ not_tail in cc)),
          append (forms first) (forms second)
              (outer_rules acts (low + 1) first numbered.1 (of_range none (low + 1) (low + 1 + size first) (omega arith) (omega arith)) (λ variable scoped names. made variable scoped (inr (inl names))))
              (outer_rules acts (low + (1 + size first)) second numbered.2 (of_range none (low + (1 + size first)) (low + (1 + size first) + size second) (omega arith) (omega arith)) (λ variable scoped names. made variable scoped (inr (inr names)))),
        ),
      ),
    )
    act_outer_rules acts low (When p condition first) numbered not_tail none made = (
      refl,
      (
        refl,
        (
          (λ is. absurd (let impossible : true ≡ false = sym is ∙ not_tail in cc)),
          outer_rules acts (low + 1) first numbered.1 (of_range none (low + 1) (low + 1 + size first) (omega arith) (omega arith)) (λ variable scoped names. made variable scoped (inr names)),
        ),
      ),
    )
    act_outer_rules acts low (Block p inner) numbered not_tail none made =
        let inner_at : site (head inner) ≡ low + 1 = head_site acts (low + 1) inner numbered.1 in
        let inner_positive : 0 < size inner = size_positive inner in
        let there = none (site (head inner)) (omega arith) (omega arith) in
        (refl, (not_tail ∙ sym there.1, outer_rules acts (low + 1) inner numbered.1 (of_range none (low + 1) (low + 1 + size inner) (omega arith) (omega arith)) made))
    act_outer_rules acts low (Wait p variable) numbered not_tail none made = let outside = made variable numbered.1 refl in ((sym outside, not_tail, λ no_chain. refl), tt)
    act_outer_rules acts low (Pure p value) numbered not_tail none made = (not_tail, tt)
    act_outer_rules acts low (Nothing p) numbered not_tail none made = (not_tail, tt)

  mutual
    -- a part of the tail
    pub tail_rules : (acts : List Act) (low : ℕ) (term : Term) → Numbered acts low term → IsTail term → AreTailEnds ends term → MadeOutside acts term → TailRules (forms term)
    tail_rules acts low (One act) numbered tail ends_are made = (refl, (ends_are.0 ∙ sym ends_are.1, act_tail_rules acts low act numbered tail ends_are.1 ends_are.2 made))
    tail_rules acts low (Then act rest) numbered tail ends_are made =
        let at_low : site act ≡ low = act_site acts low act numbered.0 in
        let rest_tail = term_is_tail rest ends_are.3 in (
          refl,
          (
            sym ends_are.1,
            (
              ends_are.0 ∙ sym rest_tail,
              append (act_forms act) (forms rest)
                  (act_outer_rules acts low act numbered.0 ends_are.1 (λ place above below. ends_are.2 place (omega arith) (omega arith)) (λ variable scoped names. made variable scoped (inl names)))
                  (tail_rules (act ∷ acts) (low + act_size act) rest numbered.1 tail ends_are.3 (with_outside acts act rest ends_are.1 (λ variable scoped names. made variable scoped (inr names)))),
            ),
          ),
        )
    tail_rules acts low (Both act rest) numbered tail ends_are made =
        let rest_tail = term_is_tail rest ends_are.3 in (
          refl,
          (
            refl,
            (
              (ends_are.1 ∙ sym rest_tail, ends_are.0 ∙ sym ends_are.1, λ no_chain. absurd cc),
              append (act_forms act) (forms rest)
                  (act_tail_rules acts low act numbered.0 tail.0 ends_are.1 ends_are.2 (λ variable scoped names. made variable scoped (inl names)))
                  (tail_rules (act ∷ acts) (low + act_size act) rest numbered.1 tail.1 ends_are.3 (with_unnamed acts act rest tail.2 (λ variable scoped names. made variable scoped (inr names)))),
            ),
          ),
        )

    act_tail_rules : (acts : List Act) (low : ℕ) (act : Act) → NumberedAct acts low act → IsTailAct act → ends.act (site act) ≡ true → AreTailEndsIn ends act → MadeOutsideIn acts act → TailRules (act_forms act)
    act_tail_rules acts low (Cycle p count) numbered tail is ends_are made = (tt, tt)
    act_tail_rules acts low (Set p register value) numbered tail is ends_are made = (tt, tt)
    act_tail_rules acts low (If p condition first second valued) numbered tail is ends_are made = (
      refl,
      (
        refl,
        (
          (λ of_tail. (term_is_tail first ends_are.0, term_is_tail second ends_are.1)),
          append (forms first) (forms second)
              (tail_rules acts (low + 1) first numbered.1 tail.0 ends_are.0 (λ variable scoped names. made variable scoped (inr (inl names))))
              (tail_rules acts (low + (1 + size first)) second numbered.2 tail.1 ends_are.1 (λ variable scoped names. made variable scoped (inr (inr names)))),
        ),
      ),
    )
    act_tail_rules acts low (Block p inner) numbered tail is ends_are made = (refl, (is ∙ sym (term_is_tail inner ends_are), tail_rules acts (low + 1) inner numbered.1 tail ends_are made))
    act_tail_rules acts low (Send p port value) numbered tail is ends_are made = elim tail [ ]
    act_tail_rules acts low (Recv p port) numbered tail is ends_are made = elim tail [ ]
    act_tail_rules acts low (When p condition first) numbered tail is ends_are made = elim tail [ ]
    act_tail_rules acts low (Wait p variable) numbered tail is ends_are made = elim tail [ ]
    act_tail_rules acts low (Pure p value) numbered tail is ends_are made = elim tail [ ]
    act_tail_rules acts low (Nothing p) numbered tail is ends_are made = elim tail [ ]
